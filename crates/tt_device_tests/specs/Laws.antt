-- What all events keep to.
use Rattle.std.proofs.Common.{inl, ◌≡◌, refl, ℕ, ◌≤◌, List, [], ◌∷◌, ◌++◌, length, sym, subst, arith}
use Rattle.std.proofs.lemmas.List.{take_all}
use Rattle.std.proofs.Math.Logic.{∥∥₁_map}
use Rattle.tt_log.specs.Device.{Left, NothingNew, Now}
use Rattle.tt_device_tests.specs.declared.event.Event.{Event}
use Rattle.tt_device_tests.specs.declared.event.Event.TheVariants.{Placed, NameSynced, Written, Grown, Cut, Synced, SyncFailed, Shown}
use Rattle.tt_device_tests.specs.Outcomes.{Outcomes, nothing, with_event, after, outcomes, may_leave_of, LeftSince}

-- no file is there once it is synced that a crash wouldn't leave without
abbrev NoNewOnce : Outcomes → Type 0
NoNewOnce o = (c : List ℕ) → o.once_synced c → o.named c

less-with : (o : Outcomes) (event : Event) → NoNewOnce o → NoNewOnce (with_event o event)
less-with o (Placed is_on_disk bytes) less c left = left
less-with o NameSynced less c left = less c left
less-with o (Written at bytes) less c left = (left.0, less left.0 left.1, left.2.0)
less-with o (Grown len) less c left = (left.0, less left.0 left.1, left.2.0)
less-with o (Cut len) less c left = (left.0, less left.0 left.1, left.2.0)
less-with o Synced less c left = left
less-with o SyncFailed less c left = left
less-with o (Shown bytes) less c left = less c left

less-after : (o : Outcomes) (events : List Event) → NoNewOnce o → NoNewOnce (after o events)
less-after o [] less = less
less-after o (event ∷ events) less = less-after (with_event o event) events (less-with o event less)

pub once_is_named : (events : List Event) (c : List ℕ) → (outcomes events).once_synced c → (outcomes events).named c
once_is_named events = less-after nothing events (λ c none. none)

pub synced_is_left_of : (events : List Event) → NothingNew (may_leave_of events) (outcomes events).once_synced
synced_is_left_of events c left = inl (once_is_named events c left)

-- what is read is there once it is synced, so a crash may leave it
pub seen_is_left_of : (events : List Event) (file : List ℕ) → ∥ (outcomes events).once_synced file ∥₁ → ∥ may_leave_of events file ∥₁
seen_is_left_of events file left = ∥∥₁_map left (λ once. inl (once_is_named events file once))

-- the moment behind all events
pub now_counts : (events : List Event) (t : ℕ) (c : Left) → t ≤ length events → Now (may_leave_of events) (outcomes events).shown c → LeftSince events t c
now_counts events t c le now =
    let all = take_all (length events) events (omega arith) in
    record { count = length events; since = le; happened = omega arith; is_left = subst (λ (es : List Event). Now (may_leave_of es) (outcomes es).shown c) (sym all) now }

pub now_only : (events : List Event) (c : Left) → LeftSince events (length events) c → Now (may_leave_of events) (outcomes events).shown c
now_only events c left =
    let all = take_all left.count events left.since in
    subst (λ (es : List Event). Now (may_leave_of es) (outcomes es).shown c) all left.is_left

-- What was to be synced when a sync has failed isn't put on the disk by a later one: a crash leaves what it might have left.
pub forgets : (o : Outcomes) (events : List Event) → (after o (events ++ SyncFailed ∷ Synced ∷ [])).named ≡ (after o events).named
forgets o [] = refl
forgets o (event ∷ events) = forgets (with_event o event) events
