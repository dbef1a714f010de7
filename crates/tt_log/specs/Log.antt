-- A log in a file, and what a crash leaves of it.
use Rattle.std.specs.Prelude.{◌≡◌, ◌⊎◌, ℕ, ◌+◌, ◌≤◌, List, ◌++◌, length, take}
use Rattle.std.specs.Int.{next_multiple_of}
use Rattle.tt_log.specs.Lines.{logged, joined, zeros, IsJoined}
use Rattle.tt_log.specs.Device.{Only, Left}
use Rattle.tt_log.specs.declared.log.Log.{Log}

-- a file is lines and then bytes 0
pub record IsAtRest (file : List ℕ) : Type 0 where
  pub room : ℕ
  pub is : file ≡ joined (logged file) ++ zeros room

-- a file that isn't lines alone, so that the next start doesn't take it for one that was ended well
abbrev pub IsUnclean : List ℕ → Type 0
IsUnclean file = IsJoined file → ⊥

-- no file that a crash may leave is one of lines alone
abbrev pub AllUnclean : (List ℕ → Type 0) → Type 0
AllUnclean may_leave = (c : List ℕ) → may_leave c → IsUnclean c

-- a crash left a file that isn't lines alone
abbrev pub LeavesUnclean : Left → Type 0
LeavesUnclean left = IsUnclean left.file

-- the file is lines and then bytes 0, all of it on the disk, and the log knows where they end
pub record IsSettled {D : Type 0} (seen : D → List ℕ) (may_leave : D → List ℕ → Type 0) (log : Log D) : Type 0 where
  pub at_rest : IsAtRest (seen log.device)
  pub end : log.end ≡ length (joined (logged (seen log.device)))
  pub len : log.len ≡ length (seen log.device)
  pub durable : Only (seen log.device) (may_leave log.device)

-- a crash left these lines, when this had been handed over
pub record Keeps (lines : List (List ℕ)) (shown : List ℕ) (left : Left) : Type 0 where
  pub lines_are : logged left.file ≡ lines
  pub shown_is : left.shown ≡ shown

-- a file is as the process before has left it: where it ended well, so that the file is its lines and nothing else, all of them get onto the disk by a sync; of any other file nothing is known
abbrev pub IsAsLeft : List ℕ → (List ℕ → Type 0) → Type 0
IsAsLeft file once_synced = IsJoined file → Only file once_synced

-- a crash left the lines of a file that it might have left before, when this had been handed over
pub record KeepsEarlier (before : List ℕ → Type 0) (shown : List ℕ) (left : Left) : Type 0 where
  pub file : List ℕ
  pub might_leave : before file
  pub lines_are : logged left.file ≡ logged file
  pub shown_is : left.shown ≡ shown

-- a crash left lines that it might have left before, or these lines
abbrev pub KeepsOnceSynced : (List ℕ → Type 0) → List (List ℕ) → List ℕ → Left → Type 0
KeepsOnceSynced before lines shown left = KeepsEarlier before shown left ⊎ Keeps lines shown left

-- a crash left the lines so far and the first few of the new ones, or none, when this had been handed over
pub record KeepsFirst (lines new : List (List ℕ)) (shown : List ℕ) (left : Left) : Type 0 where
  pub count : ℕ
  pub no_more : count ≤ length new
  pub lines_are : logged left.file ≡ lines ++ take count new
  pub shown_is : left.shown ≡ shown

-- the same; or all lines are there, and a prefix of the answers has been handed over
abbrev pub KeepsAnswered : List (List ℕ) → List (List ℕ) → List ℕ → List ℕ → Left → Type 0
KeepsAnswered lines new shown answers left =
    KeepsFirst lines new shown left ⊎ ((logged left.file ≡ lines ++ new) × ((n : ℕ) × (left.shown ≡ shown ++ take n answers)))

-- a crash left the old lines or the new ones, when this had been handed over
abbrev pub KeepsEither : List (List ℕ) → List (List ℕ) → List ℕ → Left → Type 0
KeepsEither old new shown left = Keeps old shown left ⊎ Keeps new shown left

-- the log knows how many bytes the new file has
abbrev pub IsMaking : {D : Type 0} → (D → List ℕ) → Log D → Type 0
IsMaking new_file log = log.new_end ≡ length (new_file log.device)

-- the length of a file with room behind lines of this many bytes: the least multiple of 1,048,576 bytes that is greater
abbrev pub length_with_room : ℕ → ℕ
length_with_room end = next_multiple_of (end + 1) 1048576
