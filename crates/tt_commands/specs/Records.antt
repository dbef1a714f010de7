-- Which of the records of a session's calls are kept.
use Rattle.std.specs.Prelude.{ℕ, nat_le, List, [], ◌∷◌, ◌++◌, length, Option, None, Some, sum_by, if◌then◌else◌}
use Rattle.tt_values.specs.declared.reply.Reply.{Reply}
use Rattle.tt_values.specs.declared.reply.Reply.TheVariants as replies
use Rattle.tt_db.specs.State.{last_items}
use Rattle.tt_records.specs.declared.record.Record.{Record}
use Rattle.tt_records.specs.declared.record.What.{What}
use Rattle.tt_records.specs.declared.record.What.TheVariants as whats

-- how many rows the records that are kept have together at most
abbrev pub max_record_rows : ℕ
max_record_rows = 1000000

-- how many rows a reply has
abbrev pub rows_of_reply : Reply → ℕ
rows_of_reply (replies.Rows rows) = length rows
rows_of_reply reply = 0

-- how many rows a record has: those that answered its select
abbrev pub rows_of_what : What → ℕ
rows_of_what (whats.Read select time reply) = rows_of_reply reply
rows_of_what what = 0

abbrev pub rows_of_record : Record → ℕ
rows_of_record r = rows_of_what r.what

-- how many rows some records have together
abbrev pub rows_of_records : List Record → ℕ
rows_of_records records = sum_by rows_of_record records

-- the longest end of some records that has few enough rows to be kept
abbrev pub last_of_few_rows : List Record → List Record
last_of_few_rows [] = []
last_of_few_rows (r ∷ records) = if nat_le (rows_of_records (r ∷ records)) max_record_rows then r ∷ records else last_of_few_rows records

-- the longest end of some records that may be kept, where no more than this many may be
abbrev pub last_records : ℕ → List Record → List Record
last_records most records = last_of_few_rows (last_items most records)

-- records with a further one, if there is one. The oldest ones go while there are more than this many, or while they have more rows than are kept
abbrev pub records_with : ℕ → List Record → Option Record → List Record
records_with most records None = records
records_with most records (Some latest) = last_records most (records ++ latest ∷ [])
