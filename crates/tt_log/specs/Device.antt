-- What the calls of a device do, and what a crash may leave at each moment.
use Rattle.std.specs.Prelude.{◌<◌, ◌≡◌, ◌⊎◌, ℕ, ◌≤◌, ◌+◌, List, ◌++◌, length, take, Result, OnErr}

-- what a crash leaves: the file, and all that had been handed over by then
pub record Left : Type 0 where
  pub file : List ℕ
  pub shown : List ℕ

-- a crash leaves this file and no other
abbrev pub Only : List ℕ → (List ℕ → Type 0) → Type 0
Only file may_leave = (c : List ℕ) → may_leave c → c ≡ file

-- each file that a crash may leave is as long as this one
abbrev pub AllAsLong : List ℕ → (List ℕ → Type 0) → Type 0
AllAsLong file may_leave = (c : List ℕ) → may_leave c → length c ≡ length file

-- what a crash may leave now it might have left before
abbrev pub NothingNew : (List ℕ → Type 0) → (List ℕ → Type 0) → Type 0
NothingNew old new = (c : List ℕ) → new c → old c

-- what a crash may leave now comes by a step of what it might have left before
abbrev pub Follows : (List ℕ → List ℕ → Type 0) → (List ℕ → Type 0) → (List ℕ → Type 0) → Type 0
Follows step old new = (c : List ℕ) → new c → (d : List ℕ) × old d × step d c

-- now a crash leaves one of these files, and this has been handed over
abbrev pub Now : (List ℕ → Type 0) → List ℕ → Left → Type 0
Now may_leave shown left = may_leave left.file × (left.shown ≡ shown)

-- now a crash leaves one of these files, and of further bytes the first ones have been handed over
abbrev pub NowShowing : (List ℕ → Type 0) → List ℕ → List ℕ → Left → Type 0
NowShowing may_leave shown bytes left = may_leave left.file × ((n : ℕ) × (left.shown ≡ shown ++ take n bytes))

-- Time goes on: a crash since some moment might have left what it might have left before, or what it may leave now.
pub record Elapses (before now : ℕ) (past since : ℕ → Left → Type 0) (may_leave : Left → Type 0) : Type 0 where
  pub later : before ≤ now
  pub nothing_else : (t : ℕ) (c : Left) → t ≤ before → since t c → past t c ⊎ may_leave c
  pub keeps : (t : ℕ) (c : Left) → t ≤ before → past t c → since t c

-- A crash at any moment, from the old device on up to the new one, leaves what has P.
pub record LeavesOnly {D : Type 0} (moment : D → ℕ) (left_since : D → ℕ → Left → Type 0) (old new : D) (P : Left → Type 0) : Type 0 where
  pub later : moment old ≤ moment new
  pub each : (c : Left) → left_since new (moment old) c → P c
  -- for what began earlier
  pub before : (t : ℕ) (c : Left) → t ≤ moment old → left_since new t c → left_since old t c ⊎ P c

-- of these bytes the first ones have been handed over
abbrev pub ShowsFirst : List ℕ → List ℕ → List ℕ → Type 0
ShowsFirst old new bytes = (n : ℕ) × (new ≡ old ++ take n bytes)

-- an error is counted: it comes only where the device has failed once more
pub record CountsFailure {T E : Type 0} (before now : ℕ) (result : Result T E) : Type 0 where
  pub later : before ≤ now
  pub failed : OnErr result (before < now)

-- no new file is there that wasn't there before, or the device has failed more often than so many times
abbrev pub LeavesNoNewFile : {D : Type 0} → (D → Type 0) → (D → ℕ) → ℕ → D → D → Type 0
LeavesNoNewFile has_new_file failures count old new = has_new_file new → has_new_file old ⊎ (failures old + count < failures new)

-- Calls that leave the file as it is, with what was handed over, and what a crash may leave.
pub record StaysOnDisk {D : Type 0} (seen shown : D → List ℕ) (may_leave : D → List ℕ → Type 0) (moment : D → ℕ) (left_since : D → ℕ → Left → Type 0) (failures : D → ℕ) (old new : D) : Type 0 where
  pub seen_is : seen new ≡ seen old
  pub shown_is : shown new ≡ shown old
  pub nothing_new : NothingNew (may_leave old) (may_leave new)
  pub any_moment : LeavesOnly moment left_since old new (Now (may_leave old) (shown old))
  pub failures_are : failures old ≤ failures new
