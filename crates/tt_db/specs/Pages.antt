-- One page of the rows of an answer.
use Rattle.std.specs.Prelude.{◌≡◌, ℕ, ℤ, nat_lt, List, [], length, take, filter, Option, Result, Ok, Err, IsOk}
use Rattle.tt_values.specs.declared.row.Row.{Row}
use Rattle.tt_values.specs.declared.reply.Reply.{Reply}
use Rattle.tt_values.specs.declared.reply.Reply.TheVariants as replies
use Rattle.tt_values.specs.Row.{key_of}
use Rattle.tt_versions.specs.Pages.{is_after}
use Rattle.tt_generations.specs.declared.first_rows.FirstRows.{FirstRows}
use Rattle.tt_db.specs.declared.errors.ReadError.{ReadError}
use Rattle.tt_db.specs.declared.errors.ReadError.TheVariants as read_errors

-- the rows with greater keys than this one, if one is given
abbrev pub rows_after : Option ℤ → List Row → List Row
rows_after key rows = filter (λ r. is_after key (key_of r)) rows

-- the first rows with greater keys than this one, at most this number, and whether more follow
abbrev pub first_rows : Option ℤ → ℕ → List Row → FirstRows
first_rows key most rows = record { rows = take most (rows_after key rows); more = nat_lt most (length (rows_after key rows)) }

-- the rows of a reply
abbrev pub rows_in : Reply → List Row
rows_in replies.Inserted = []
rows_in replies.Duplicate = []
rows_in (replies.Updated count) = []
rows_in (replies.Deleted count) = []
rows_in (replies.Rows rows) = rows

-- a page of the rows of an answer, which is refused where that is
abbrev pub page_of_answer : Option ℤ → ℕ → Result Reply ReadError → Result FirstRows ReadError
page_of_answer key most (Ok reply) = Ok (first_rows key most (rows_in reply))
page_of_answer key most (Err error) = Err error

-- a read gives a page of the right answer. It may run out of memory only where that is no refusal
abbrev pub AnswersPage : Option ℤ → ℕ → Result Reply ReadError → Result FirstRows ReadError → Type 0
AnswersPage key most right (Ok page) = page_of_answer key most right ≡ Ok page
AnswersPage key most right (Err read_errors.Memory) = IsOk right
AnswersPage key most right (Err error) = right ≡ Err error
