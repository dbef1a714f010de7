-- Changes of a file, what a crash leaves of them, and what a sync puts on the disk.
use Rattle.std.proofs.Common.{◌≡◌, inl, inr, ⊎_elim, ℕ, ◌≤◌, ◌+◌, ◌-◌, List, [], ◌∷◌, ◌++◌, length, take, drop, replicate, refl, sym, ◌∙◌, ap, subst, arith, length-append, length-drop}
use Rattle.std.proofs.lemmas.List.{append-nil, append_assoc, take_all, length-take-le, drop-drop}
use Rattle.tt_log.specs.Crash.{IsMix, written_over, MayBeWritten, MayBeLonger, MayBeCut}
use Rattle.tt_log.specs.Device.{Follows}
use Rattle.tt_device_tests.specs.declared.event.Event.{Event}
use Rattle.tt_device_tests.specs.Outcomes.{Outcomes, left_by, changed, outcomes, may_leave_of}

-- a change of a file that has been made, or not at all
mix-old : (old new : List ℕ) → length old ≡ length new → IsMix old new old
mix-old [] [] same = tt
mix-old [] (n ∷ new) same = absurd (omega arith)
mix-old (o ∷ old) [] same = absurd (omega arith)
mix-old (o ∷ old) (n ∷ new) same = (inl refl, mix-old old new (omega arith))

mix-new : (old new : List ℕ) → length old ≡ length new → IsMix old new new
mix-new [] [] same = tt
mix-new [] (n ∷ new) same = absurd (omega arith)
mix-new (o ∷ old) [] same = absurd (omega arith)
mix-new (o ∷ old) (n ∷ new) same = (inr refl, mix-new old new (omega arith))

pub length-over : (file bytes : List ℕ) (at : ℕ) → at + length bytes ≤ length file → length file ≡ length (written_over file at bytes)
length-over file bytes at within = omega (
  arith,
  within,
  length-append (take at file ++ bytes) (drop (at + length bytes) file),
  length-append (take at file) bytes,
  length-take-le at file (omega (arith, within)),
  length-drop (at + length bytes) file,
)

pub unwritten : (file bytes : List ℕ) (at : ℕ) → at + length bytes ≤ length file → MayBeWritten at bytes file file
unwritten file bytes at within = mix-old file (written_over file at bytes) (length-over file bytes at within)

pub all_written : (file bytes : List ℕ) (at : ℕ) → at + length bytes ≤ length file → MayBeWritten at bytes file (written_over file at bytes)
all_written file bytes at within = mix-new file (written_over file at bytes) (length-over file bytes at within)

pub not_longer : (len : ℕ) (file : List ℕ) → MayBeLonger len file file
not_longer len file = record { more = 0; longer = sym (append-nil file); no_longer = omega arith }

pub all_longer : (len : ℕ) (file : List ℕ) → MayBeLonger len file (file ++ replicate (len - length file) 0)
all_longer len file = record { more = len - length file; longer = refl; no_longer = omega arith }

pub uncut : (len : ℕ) (file : List ℕ) → MayBeCut len file file
uncut len file = record { kept = len + length file; no_shorter = omega arith; cut = sym (take_all (len + length file) file (omega arith)) }

pub all_cut : (len : ℕ) (file : List ℕ) → MayBeCut len file (take len file)
all_cut len file = record { kept = len; no_shorter = omega arith; cut = refl }

-- nothing was changed
pub follows_none : (step : List ℕ → List ℕ → Type 0) (outcomes : List ℕ → Type 0) → ((c : List ℕ) → outcomes c → step c c) → Follows step outcomes outcomes
follows_none step outcomes same c left = (c, left, same c left)

-- a change was made
module _ (in_part whole : List ℕ → List ℕ → Type 0) (events new : List Event) (is : outcomes new ≡ changed in_part whole (outcomes events)) where
  pub crash_changed : ((c : List ℕ) → may_leave_of events c → in_part c c) → Follows in_part (may_leave_of events) (may_leave_of new)
  crash_changed same =
      subst (λ (o : Outcomes). Follows in_part (may_leave_of events) (left_by o)) (sym is)
      (λ c left. ⊎_elim (λ named. (named.0, inl named.1, named.2)) (λ other. (c, inr other, same c (inr other))) left)

  pub synced_changed : Follows whole (outcomes events).once_synced (outcomes new).once_synced
  synced_changed =
      subst (λ (o : Outcomes). Follows whole (outcomes events).once_synced o.once_synced) (sym is)
      (λ c left. (left.0, left.1, left.2.1))

  pub once_changed : (file after : List ℕ) → (outcomes events).once_synced file → in_part file after → whole file after → (outcomes new).once_synced after
  once_changed file after left part all = subst (λ (o : Outcomes). o.once_synced after) (sym is) (file, left, (part, all))

  pub other_changed : (c : List ℕ) → (outcomes new).other c → (outcomes events).other c
  other_changed c left = subst (λ (o : Outcomes). o.other c) is left

  pub shown_changed : (outcomes new).shown ≡ (outcomes events).shown
  shown_changed = ap (λ (o : Outcomes). o.shown) is

  pub renames_changed : (outcomes new).rename_count ≡ (outcomes events).rename_count
  renames_changed = ap (λ (o : Outcomes). o.rename_count) is

pub follows_same : (step : List ℕ → List ℕ → Type 0) (events new : List Event) → new ≡ events → ((c : List ℕ) → may_leave_of events c → step c c) → Follows step (may_leave_of events) (may_leave_of new)
follows_same step events new is same = subst (λ (es : List Event). Follows step (may_leave_of events) (may_leave_of es)) (sym is) (follows_none step (may_leave_of events) same)

-- bytes that are written in place
pub in_place : (file slots bytes written : List ℕ) (at n : ℕ) → slots ≡ file → written ≡ bytes → n ≡ length bytes → take at slots ++ (written ++ drop n (drop at slots)) ≡ written_over file at bytes
in_place file slots bytes written at n same is long =
    ap (λ (s : List ℕ). take at s ++ (written ++ drop n (drop at s))) same
    ∙ ap (λ (b : List ℕ). take at file ++ (b ++ drop n (drop at file))) is
    ∙ ap (λ (k : ℕ). take at file ++ (bytes ++ drop k (drop at file))) long
    ∙ ap (λ (l : List ℕ). take at file ++ (bytes ++ l)) (drop-drop (length bytes) at file)
    ∙ sym (append_assoc (take at file) bytes (drop (at + length bytes) file))
