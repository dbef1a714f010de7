-- One event more.
use Rattle.std.proofs.Common.{◌≡◌, ◌⊎◌, inl, inr, ℕ, ◌≤◌, ◌+◌, List, [], ◌∷◌, ◌++◌, length, take, refl, sym, ◌∙◌, ap, subst, arith, length-append, Bool, Result, Ok, Err, OnOk, OnErr}
use Rattle.std.specs.Prelude.{IfOk}
use Rattle.std.proofs.lemmas.List.{take_all, take-append-le}
use Rattle.std.proofs.Math.Nat.{eq-or-lt_of_le}
use Rattle.tt_log.specs.Device.{Left, Now, Elapses}
use Rattle.tt_device_tests.specs.declared.event.Event.{Event}
use Rattle.tt_device_tests.specs.declared.event.Event.TheVariants.{Placed, Written, Shown}
use Rattle.tt_device_tests.specs.Outcomes.{Outcomes, nothing, with_event, after, outcomes, may_leave_of, LeftSince}

after-snoc : (o : Outcomes) (events : List Event) (event : Event) → after o (events ++ event ∷ []) ≡ with_event (after o events) event
after-snoc o [] event = refl
after-snoc o (e ∷ events) event = after-snoc (with_event o e) events event

pub outcomes-more : (events : List Event) (event : Event) (new : List Event) → new ≡ events ++ event ∷ [] → outcomes new ≡ with_event (outcomes events) event
outcomes-more events event new is = ap outcomes is ∙ after-snoc nothing events event

-- nothing has happened
pub elapses_none : (events : List Event) (now : Left → Type 0) → Elapses (length events) (length events) (LeftSince events) (LeftSince events) now
elapses_none events now = record { later = omega arith; nothing_else = λ t c le left. inl left; keeps = λ t c le left. left }

-- one event more
module _ (events : List Event) (event : Event) (new : List Event) (is : new ≡ events ++ event ∷ []) where
  long : length new ≡ length events + 1
  long = ap length is ∙ length-append events (event ∷ [])

  front : (n : ℕ) → n ≤ length events → take n new ≡ take n events
  front n few = ap (take n) is ∙ take-append-le n events (event ∷ []) few

  pub elapses_more : (now : Left → Type 0) → ((c : Left) → Now (may_leave_of new) (outcomes new).shown c → now c) → Elapses (length events) (length new) (LeftSince events) (LeftSince new) now
  elapses_more now here = record {
    later = omega (arith, long);
    nothing_else = λ t c le left. elim (eq-or-lt_of_le left.happened) [
      | inr few ↦ inl (record { count = left.count; since = left.since; happened = omega (arith, long, few); is_left = subst (λ (es : List Event). Now (may_leave_of es) (outcomes es).shown c) (front left.count (omega (arith, long, few))) left.is_left })
      | inl whole ↦ inr (here c (subst (λ (es : List Event). Now (may_leave_of es) (outcomes es).shown c) (take_all left.count new (omega (arith, whole))) left.is_left))
    ];
    keeps = λ t c le left. record {
      count = left.count;
      since = left.since;
      happened = omega (arith, long, left.happened);
      is_left = subst (λ (es : List Event). Now (may_leave_of es) (outcomes es).shown c) (sym (front left.count left.happened)) left.is_left;
    };
  }

-- one that hands nothing over
pub elapses_kept : (events : List Event) (event : Event) (new : List Event) → new ≡ events ++ event ∷ [] → (outcomes new).shown ≡ (outcomes events).shown
    → Elapses (length events) (length new) (LeftSince events) (LeftSince new) (Now (may_leave_of new) (outcomes events).shown)
elapses_kept events event new is same = elapses_more events event new is (Now (may_leave_of new) (outcomes events).shown) (λ c now. (now.0, now.1 ∙ same))

-- a copy of some bytes
pub copied : {E : Type 0} (r : Result (List ℕ) E) (copy bytes : List ℕ) → r ≡ Ok copy → IfOk r (λ b. b ≡ bytes) → copy ≡ bytes
copied {E} r copy bytes is same = subst (λ (x : Result (List ℕ) E). IfOk x (λ b. b ≡ bytes)) is same

module _ (events : List Event) (bytes : List ℕ) (copy : List ℕ) (same : copy ≡ bytes) (new : List Event) where
  pub outcomes-written : (at : ℕ) → new ≡ events ++ Written at copy ∷ [] → outcomes new ≡ with_event (outcomes events) (Written at bytes)
  outcomes-written at is = outcomes-more events (Written at copy) new is ∙ ap (λ (b : List ℕ). with_event (outcomes events) (Written at b)) same

  pub outcomes-shown : new ≡ events ++ Shown copy ∷ [] → outcomes new ≡ with_event (outcomes events) (Shown bytes)
  outcomes-shown is = outcomes-more events (Shown copy) new is ∙ ap (λ (b : List ℕ). with_event (outcomes events) (Shown b)) same

  pub outcomes-placed : (is_on_disk : Bool) → new ≡ events ++ Placed is_on_disk copy ∷ [] → outcomes new ≡ with_event (outcomes events) (Placed is_on_disk bytes)
  outcomes-placed is_on_disk is = outcomes-more events (Placed is_on_disk copy) new is ∙ ap (λ (b : List ℕ). with_event (outcomes events) (Placed is_on_disk b)) same

-- the same events
pub same_once : (events new : List Event) (file after : List ℕ) → new ≡ events → after ≡ file → (outcomes events).once_synced file → (outcomes new).once_synced after
same_once events new file after is file_is left = subst (λ (f : List ℕ). (outcomes new).once_synced f) (sym file_is) (subst (λ (es : List Event). (outcomes es).once_synced file) (sym is) left)

-- a call that was recorded, or couldn't be
pub either_way : {E : Type 0} (r : Result (Unit {0}) E) (events new : List Event) (event : Event) → OnOk r (new ≡ events ++ event ∷ []) → OnErr r (new ≡ events) → (new ≡ events ++ event ∷ []) ⊎ (new ≡ events)
either_way (Ok x) events new event more same = inl more
either_way (Err e) events new event more same = inr same
