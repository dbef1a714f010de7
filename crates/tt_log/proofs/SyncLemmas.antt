-- What a sync puts on the disk, and what a crash leaves of a file that is made longer, cut or replaced.
use Rattle.std.proofs.Common.{◌≡◌, inl, inr, ⊎_elim, ℕ, zero, suc, ◌-◌, ◌≤◌, List, [], ◌∷◌, ◌++◌, length, take, refl, sym, ◌∙◌, ap, subst, arith, length-append, Result, Ok, Err, OnOk}
use Rattle.std.proofs.lemmas.List.{take_at, append-nil}
use Rattle.tt_log.specs.Lines.{logged, joined, zeros, IsJoined}
use Rattle.tt_log.specs.Crash.{MayBeLonger, MayBeCut}
use Rattle.tt_log.specs.Device.{Left, Only, NothingNew, Follows, Now, Elapses, LeavesOnly, StaysOnDisk}
use Rattle.tt_log.specs.Log.{IsAtRest, Keeps, KeepsOnceSynced}
use Rattle.tt_log.proofs.LineLemmas.{AreLines-logged, logged-zeros, logged-grown}
use Rattle.tt_log.proofs.RestLemmas.{parts}
use Rattle.tt_log.proofs.TornLemmas.{take_past}
use Rattle.tt_log.proofs.MomentLemmas.{started, goes_on, weaker}

-- what is on the disk is there after a sync
pub only_synced : (file : List ℕ) (may_leave once : List ℕ → Type 0) → Only file may_leave → NothingNew may_leave once → Only file once
only_synced file may_leave once only less c left = only c (less c left)

-- one call, and then a sync
pub all_synced : (step : List ℕ → List ℕ → Type 0) (file new : List ℕ) (once next may_leave : List ℕ → Type 0) → Only file once → Follows step once next → NothingNew next may_leave
    → ((c : List ℕ) → step file c → c ≡ new) → Only new may_leave
all_synced step file new once next may_leave only follows durable is c left =
    let from = follows c (durable c left) in
    is c (subst (λ (f : List ℕ). step f c) (only from.0 from.1) from.2)

take_zeros : (n room : ℕ) → (k : ℕ) × (take n (zeros room) ≡ zeros k)
take_zeros zero room = (0, refl)
take_zeros (suc n) zero = (0, refl)
take_zeros (suc n) (suc room) = let rest = take_zeros n room in (suc rest.0, ap (λ (l : List ℕ). 0 ∷ l) rest.1)

-- a file at rest that is cut behind its lines
module _ (file : List ℕ) (rest : IsAtRest file) where
  pub cut_to_lines : (len : ℕ) → len ≡ length (joined (logged file)) → take len file ≡ joined (logged file)
  cut_to_lines len is = ap (take len) rest.is ∙ take_at (joined (logged file)) (zeros rest.room) len (sym is)

  pub logged-cut : (len : ℕ) (after : List ℕ) → length (joined (logged file)) ≤ len → MayBeCut len file after → logged after ≡ logged file
  logged-cut len after behind cut =
      let n = cut.kept - length (joined (logged file)) in
      let few = take_zeros n rest.room in
      ap logged (cut.cut ∙ ap (take cut.kept) rest.is ∙ take_past (joined (logged file)) (zeros rest.room) cut.kept n (omega (arith, behind, cut.no_shorter)) ∙ ap (λ (l : List ℕ). joined (logged file) ++ l) few.1)
      ∙ logged-zeros (logged file) few.0 (AreLines-logged file)

  pub crash_cut : (len : ℕ) (old new : List ℕ → Type 0) (shown : List ℕ) → length (joined (logged file)) ≤ len → Only file old → Follows (MayBeCut len) old new
      → (left : Left) → Now new shown left → Keeps (logged file) shown left
  crash_cut len old new shown behind only follows left now =
      let from = follows left.file now.0 in
      record { lines_are = logged-cut len left.file behind (subst (λ (f : List ℕ). MayBeCut len f left.file) (only from.0 from.1) from.2); shown_is = now.1 }

-- a file that is made longer leaves what it might have left before, but for bytes 0
pub crash_longer : (len : ℕ) (old new : List ℕ → Type 0) (lines : List (List ℕ)) (shown : List ℕ) → Follows (MayBeLonger len) old new
    → (left : Left) → Now new shown left → KeepsOnceSynced old lines shown left
crash_longer len old new lines shown follows left now =
    let from = follows left.file now.0 in
    inl (record { file = from.0; might_leave = from.1; lines_are = ap logged from.2.longer ∙ logged-grown from.0 from.2.more; shown_is = now.1 })

pub earlier : (before after : List ℕ → Type 0) (lines : List (List ℕ)) (shown : List ℕ) → NothingNew before after → (left : Left) → Now after shown left → KeepsOnceSynced before lines shown left
earlier before after lines shown less left now = inl (record { file = left.file; might_leave = less left.file now.0; lines_are = refl; shown_is = now.1 })

-- what could be left before is what could be left earlier still
pub once_earlier : (before mid : List ℕ → Type 0) (lines : List (List ℕ)) (shown then_shown : List ℕ) → NothingNew before mid → then_shown ≡ shown
    → (left : Left) → KeepsOnceSynced mid lines then_shown left → KeepsOnceSynced before lines shown left
once_earlier before mid lines shown then_shown less same left =
    ⊎_elim
    (λ e. inl (record { file = e.file; might_leave = less e.file e.might_leave; lines_are = e.lines_are; shown_is = e.shown_is ∙ same }))
    (λ k. inr (record { lines_are = k.lines_are; shown_is = k.shown_is ∙ same }))

module _ {D : Type 0} (seen shown : D → List ℕ) (may_leave : D → List ℕ → Type 0) (moment : D → ℕ) (left_since : D → ℕ → Left → Type 0) (failures : D → ℕ)
    (only_now : (d : D) (c : Left) → left_since d (moment d) c → Now (may_leave d) (shown d) c) where
  -- no call yet
  pub stays_yet : (d : D) → StaysOnDisk seen shown may_leave moment left_since failures d d
  stays_yet d = record {
    seen_is = refl;
    shown_is = refl;
    nothing_new = λ c left. left;
    any_moment = started moment left_since d (Now (may_leave d) (shown d)) (only_now d);
    failures_are = omega arith;
  }

  -- one call more
  pub stays_on : (old mid new : D) → StaysOnDisk seen shown may_leave moment left_since failures old mid → seen new ≡ seen mid → shown new ≡ shown mid → NothingNew (may_leave mid) (may_leave new)
      → Elapses (moment mid) (moment new) (left_since mid) (left_since new) (Now (may_leave new) (shown mid)) → failures mid ≤ failures new
      → StaysOnDisk seen shown may_leave moment left_since failures old new
  stays_on old mid new so_far seen_same shown_same less time more = record {
    seen_is = seen_same ∙ so_far.seen_is;
    shown_is = shown_same ∙ so_far.shown_is;
    nothing_new = λ c left. so_far.nothing_new c (less c left);
    any_moment = goes_on moment left_since old mid new (Now (may_leave old) (shown old)) (Now (may_leave new) (shown mid)) so_far.any_moment time
        (λ c now. (so_far.nothing_new c.file (less c.file now.0), now.1 ∙ so_far.shown_is));
    failures_are = omega (arith, so_far.failures_are, more);
  }

  -- a file that stays leaves what it might have left before
  pub stays_once : (old new : D) (lines : List (List ℕ)) → StaysOnDisk seen shown may_leave moment left_since failures old new
      → LeavesOnly moment left_since old new (KeepsOnceSynced (may_leave old) lines (shown old))
  stays_once old new lines stays =
      weaker moment left_since old new (Now (may_leave old) (shown old)) (KeepsOnceSynced (may_leave old) lines (shown old)) stays.any_moment
      (earlier (may_leave old) (may_leave old) lines (shown old) (λ c left. left))

  -- before the first call
  pub once_yet : (d : D) (lines : List (List ℕ)) → LeavesOnly moment left_since d d (KeepsOnceSynced (may_leave d) lines (shown d))
  once_yet d lines = stays_once d d lines (stays_yet d)

  -- one call more
  pub once_on : (old mid new : D) (lines : List (List ℕ)) → LeavesOnly moment left_since old mid (KeepsOnceSynced (may_leave old) lines (shown old))
      → Elapses (moment mid) (moment new) (left_since mid) (left_since new) (Now (may_leave new) (shown mid)) → shown mid ≡ shown old
      → ((left : Left) → Now (may_leave new) (shown old) left → KeepsOnceSynced (may_leave old) lines (shown old) left)
      → LeavesOnly moment left_since old new (KeepsOnceSynced (may_leave old) lines (shown old))
  once_on old mid new lines so_far time same here =
      goes_on moment left_since old mid new (KeepsOnceSynced (may_leave old) lines (shown old)) (Now (may_leave new) (shown mid)) so_far time
      (λ left now. here left (now.0, now.1 ∙ same))

pub on_ok : {A E P Q : Type 0} (r : Result A E) → (P → Q) → OnOk r P → OnOk r Q
on_ok (Ok x) f p = f p
on_ok (Err e) f p = tt

no_bytes : (bytes : List ℕ) → length bytes ≡ 0 → bytes ≡ []
no_bytes [] none = refl
no_bytes (b ∷ bytes) none = absurd (omega (arith, none))

-- the lines of a file and what follows them
module _ (file : List ℕ) where
  pub lines_within : length (joined (logged file)) ≤ length file
  lines_within = let p = parts file in omega (arith, ap length p.split, length-append (joined (logged file)) p.rest)

  pub take_lines : (end : ℕ) → end ≡ length (joined (logged file)) → take end file ≡ joined (logged file)
  take_lines end is = let p = parts file in ap (take end) p.split ∙ take_at (joined (logged file)) p.rest end (sym is)

  pub nothing_else : length (joined (logged file)) ≡ length file → IsJoined file
  nothing_else same =
      let p = parts file in
      let none = no_bytes p.rest (omega (arith, same, ap length p.split, length-append (joined (logged file)) p.rest)) in
      p.split ∙ ap (λ (l : List ℕ). joined (logged file) ++ l) none ∙ append-nil (joined (logged file))
