-- The rows that differ between two generations, and how calls tell them.
use Rattle.std.specs.Prelude.{◌≡◌, ℕ, ℤ, ◌==◌, nat_lt, List, length, map, take, find, Option, None, Some, Result, Ok, Err, IsOk, if◌then◌else◌}
use Rattle.tt_values.specs.declared.checking.CheckError.TheVariants as check_errors
use Rattle.tt_values.specs.Tables.{Tables}
use Rattle.tt_causes.specs.Differences.{RowChange, differences}
use Rattle.tt_generations.specs.declared.row_change.RowChange.{RowChange as ToldRowChange}
use Rattle.tt_generations.specs.declared.row_change.FirstChanges.{FirstChanges}
use Rattle.tt_generations.specs.RowChanges.{change_told, differences_in, changes_after}
use Rattle.tt_generations.specs.TwoGenerations.{Phase, is_repairing}
use Rattle.tt_db.specs.declared.errors.ReadError.{ReadError}
use Rattle.tt_db.specs.declared.errors.ReadError.TheVariants as read_errors
use Rattle.tt_db.specs.State.{ClosedGeneration}
use Rattle.tt_db.specs.Database.{Database, state_of, oldest_in}

-- an answer, or the fault of a table that isn't there
abbrev pub unless_no_table : {X : Type 0} → Tables → ℕ → Result X ReadError → Result X ReadError
unless_no_table tables table answer = if nat_lt table (length tables) then answer else Err (read_errors.Statement check_errors.NoTable)

-- an answer, or not repairing while no repair is under way
abbrev pub unless_none_under_way : {X : Type 0} → Phase → Result X ReadError → Result X ReadError
unless_none_under_way phase answer = if is_repairing phase then answer else Err read_errors.NotRepairing

-- the rows of a table that differ, at the last slot that the repair under way has done
abbrev pub right_diff : Database → ℕ → Result (List RowChange) ReadError
right_diff db table =
    let S = state_of db in
    unless_no_table db.catalog table (unless_none_under_way S.phase (Ok (differences_in S.phase S.slots table)))

-- the refusal of a generation that can't be read
abbrev pub no_generation_in : Database → ReadError
no_generation_in db = read_errors.NoGeneration (oldest_in db) (state_of db).generation

-- the same of the repair that closed a generation, which did all of its slots; or the refusal of a generation that isn't closed, or isn't kept
abbrev pub diff_of_closed : Database → Option ClosedGeneration → ℕ → Result (List RowChange) ReadError
diff_of_closed db None table = Err (no_generation_in db)
diff_of_closed db (Some c) table = Ok (differences c.slots c.edits (length c.slots) table)

abbrev pub right_diff_in : Database → ℕ → ℕ → Result (List RowChange) ReadError
right_diff_in db generation table =
    unless_no_table db.catalog table (diff_of_closed db (find (λ c. c.number == generation) (state_of db).closed) table)

-- a call tells the right differences. It may run out of memory only where that is no refusal
abbrev pub TellsDiff : Result (List RowChange) ReadError → Result (List ToldRowChange) ReadError → Type 0
TellsDiff right (Ok told) = right ≡ Ok (map change_told told)
TellsDiff right (Err read_errors.Memory) = IsOk right
TellsDiff right (Err error) = right ≡ Err error

-- some differences are the first with greater keys than this one, if one is given, at most this number, and it is told whether more follow
pub record ArePage (low : Option ℤ) (most : ℕ) (all : List RowChange) (first : FirstChanges) : Type 0 where
  pub changes : map change_told first.changes ≡ take most (changes_after low all)
  pub more : first.more ≡ nat_lt most (length (changes_after low all))

-- a call tells a page of the right differences
abbrev pub TellsDiffPage : Option ℤ → ℕ → Result (List RowChange) ReadError → Result FirstChanges ReadError → Type 0
TellsDiffPage low most (Ok all) (Ok first) = ArePage low most all first
TellsDiffPage low most (Err refusal) (Ok first) = ⊥
TellsDiffPage low most right (Err read_errors.Memory) = IsOk right
TellsDiffPage low most right (Err error) = right ≡ Err error
