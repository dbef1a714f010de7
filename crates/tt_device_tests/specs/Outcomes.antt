-- What a crash leaves of a file, by what has happened to it.
use Rattle.std.specs.Prelude.{◌≡◌, ◌⊎◌, ℕ, ◌+◌, ◌≤◌, Bool, true, List, [], ◌∷◌, ◌++◌, length, take}
use Rattle.tt_log.specs.Crash.{MayBeWritten, MayBeLonger, MayBeCut, IsWritten, IsLonger, IsCut}
use Rattle.tt_log.specs.Device.{Left, Now}
use Rattle.tt_device_tests.specs.declared.event.Event.{Event}
use Rattle.tt_device_tests.specs.declared.event.Event.TheVariants.{Placed, NameSynced, Written, Grown, Cut, Synced, SyncFailed, Shown}

-- the files that a step makes of some
abbrev pub After : (List ℕ → List ℕ → Type 0) → (List ℕ → Type 0) → List ℕ → Type 0
After step old c = (d : List ℕ) × old d × step d c

-- what may be left of bytes: these, where they are on the disk, and else any
abbrev pub left_of : Bool → List ℕ → List ℕ → Type 0
left_of is_on_disk bytes c = is_on_disk ≡ true → c ≡ bytes

pub record Outcomes : Type 1 where
  -- what a crash may leave of the file, were its name on the disk
  pub named : List ℕ → Type 0
  -- the same, after a sync that succeeds
  pub once_synced : List ℕ → Type 0
  -- what a crash may leave of another file, which has the name on the disk
  pub other : List ℕ → Type 0
  -- what has been handed over
  pub shown : List ℕ
  -- how often a file took the name
  pub rename_count : ℕ

-- no file yet
abbrev pub nothing : Outcomes
nothing = record { named = λ c. ⊥; once_synced = λ c. ⊥; other = λ c. ⊥; shown = []; rename_count = 0 }

-- what a crash may leave
abbrev pub left_by : Outcomes → List ℕ → Type 0
left_by o c = o.named c ⊎ o.other c

-- a change that may be made in part, until it is synced
abbrev pub changed : (List ℕ → List ℕ → Type 0) → (List ℕ → List ℕ → Type 0) → Outcomes → Outcomes
changed in_part whole o = record { named = After in_part o.named; once_synced = After (λ d c. in_part d c × whole d c) o.once_synced; other = o.other; shown = o.shown; rename_count = o.rename_count }

-- one event more
abbrev pub with_event : Outcomes → Event → Outcomes
with_event o (Placed is_on_disk bytes) = record { named = left_of is_on_disk bytes; once_synced = left_of is_on_disk bytes; other = left_by o; shown = o.shown; rename_count = o.rename_count + 1 }
with_event o NameSynced = record { named = o.named; once_synced = o.once_synced; other = λ c. ⊥; shown = o.shown; rename_count = o.rename_count }
with_event o (Written at bytes) = changed (MayBeWritten at bytes) (IsWritten at bytes) o
with_event o (Grown len) = changed (MayBeLonger len) (IsLonger len) o
with_event o (Cut len) = changed (MayBeCut len) (IsCut len) o
with_event o Synced = record { named = o.once_synced; once_synced = o.once_synced; other = o.other; shown = o.shown; rename_count = o.rename_count }
with_event o SyncFailed = record { named = o.named; once_synced = o.named; other = o.other; shown = o.shown; rename_count = o.rename_count }
with_event o (Shown bytes) = record { named = o.named; once_synced = o.once_synced; other = o.other; shown = o.shown ++ bytes; rename_count = o.rename_count }

abbrev pub after : Outcomes → List Event → Outcomes
after o [] = o
after o (event ∷ events) = after (with_event o event) events

-- by all that has happened
abbrev pub outcomes : List Event → Outcomes
outcomes events = after nothing events

abbrev pub may_leave_of : List Event → List ℕ → Type 0
may_leave_of events = left_by (outcomes events)

-- What a crash left by the first events, so many or more.
pub record LeftSince (events : List Event) (t : ℕ) (left : Left) : Type 0 where
  pub count : ℕ
  pub since : t ≤ count
  pub happened : count ≤ length events
  pub is_left : Now (may_leave_of (take count events)) (outcomes (take count events)).shown left
