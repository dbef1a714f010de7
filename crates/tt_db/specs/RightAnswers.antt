-- The right answers to reads.
use Rattle.std.specs.Prelude.{◌≡◌, ℕ, nat_lt, List, length, map, All, IsSome, Option, None, Some, Result, Ok, Err, IsOk, if◌then◌else◌}
use Rattle.std.specs.List.Sorted.{IsStrictlySortedBy}
use Rattle.std.specs.Ordering.{int_cmp}
use Rattle.tt_values.specs.declared.row.Row.{Row}
use Rattle.tt_values.specs.declared.statement.Select.{Select}
use Rattle.tt_values.specs.declared.reply.Reply.{Reply}
use Rattle.tt_values.specs.declared.reply.Reply.TheVariants as replies
use Rattle.tt_values.specs.declared.checking.CheckError.{CheckError}
use Rattle.tt_values.specs.Row.{first_int, key_of}
use Rattle.tt_values.specs.Tables.{Tables}
use Rattle.tt_values.specs.Check.{select_fault}
use Rattle.tt_values.specs.Content.{Content}
use Rattle.tt_values.specs.Effect.{answer_of}
use Rattle.tt_values.specs.RowWrites.{Slots, content_of}
use Rattle.tt_db.specs.declared.errors.ReadError.{ReadError}
use Rattle.tt_db.specs.declared.errors.ReadError.TheVariants as read_errors
use Rattle.tt_generations.specs.TwoGenerations.{Phase, is_repairing, done_of}
use Rattle.tt_db.specs.State.{State, now_of, current_at, next_at, oldest_of, slots_in}

-- an answer, or the fault of the statement where it has one
abbrev pub unless_fault : Option CheckError → Result Reply ReadError → Result Reply ReadError
unless_fault None answer = answer
unless_fault (Some fault) answer = Err (read_errors.Statement fault)

-- a reply, or the refusal of a time that is later than now
abbrev pub unless_later : ℕ → ℕ → Reply → Result Reply ReadError
unless_later time now reply = if nat_lt now time then Err (read_errors.Later now) else Ok reply

-- the right answer to a select on a content
abbrev pub right_select : Tables → Content → Select → Result Reply ReadError
right_select tables X q = unless_fault (select_fault tables q) (Ok (answer_of q X))

-- the right answer to a select at a time
abbrev pub right_select_at : Tables → State → Select → ℕ → Result Reply ReadError
right_select_at tables S q time =
    unless_fault (select_fault tables q) (unless_later time (now_of S) (answer_of q (current_at S time)))

-- the reply to a select at a time over these slots, or the refusal of a generation that can't be read
abbrev pub unless_no_generation : State → Option Slots → Select → ℕ → Result Reply ReadError
unless_no_generation S None q time = Err (read_errors.NoGeneration (oldest_of S.closed S.generation) S.generation)
unless_no_generation S (Some W) q time = unless_later time (length W) (answer_of q (content_of W time))

-- the right answer to a select at a time in a generation
abbrev pub right_select_in : Tables → State → ℕ → Select → ℕ → Result Reply ReadError
right_select_in tables S number q time =
    unless_fault (select_fault tables q) (unless_no_generation S (slots_in S number) q time)

-- an answer, or not repairing while no repair is under way
abbrev pub unless_idle : Phase → Result Reply ReadError → Result Reply ReadError
unless_idle phase answer = if is_repairing phase then answer else Err read_errors.NotRepairing

-- the right answer to a select of the next generation, at the last slot that the repair has done
abbrev pub right_preview : Tables → State → Select → Result Reply ReadError
right_preview tables S q =
    unless_fault (select_fault tables q) (unless_idle S.phase (Ok (answer_of q (next_at S (done_of S.phase)))))

-- the right answer to a select of the next generation at a time, up to the last slot that the repair has done
abbrev pub right_preview_at : Tables → State → Select → ℕ → Result Reply ReadError
right_preview_at tables S q time =
    unless_fault (select_fault tables q) (unless_idle S.phase (unless_later time (done_of S.phase) (answer_of q (next_at S time))))

-- a read gives the right answer. It may run out of memory only where that is no refusal
abbrev pub Answers : Result Reply ReadError → Result Reply ReadError → Type 0
Answers right (Ok reply) = right ≡ Ok reply
Answers right (Err read_errors.Memory) = IsOk right
Answers right (Err error) = right ≡ Err error

-- each row has a key, which is above that of the row before it
pub record HaveRisingKeys (rows : List Row) : Type 0 where
  pub keyed : All (λ r. IsSome (first_int r.values)) rows
  pub rising : IsStrictlySortedBy int_cmp (map key_of rows)

-- a reply is rows with rising keys
abbrev pub RowsHaveRisingKeys : Reply → Type 0
RowsHaveRisingKeys (replies.Rows rows) = HaveRisingKeys rows
RowsHaveRisingKeys replies.Inserted = ⊥
RowsHaveRisingKeys replies.Duplicate = ⊥
RowsHaveRisingKeys (replies.Updated n) = ⊥
RowsHaveRisingKeys (replies.Deleted n) = ⊥
