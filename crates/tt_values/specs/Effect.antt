-- The effects and the replies of statements on a content.
use Rattle.std.specs.Prelude.{ℕ, ℤ, List, [], ◌∷◌, map, filter, length, Option, None, Some, is_some, if◌then◌else◌}
use Rattle.tt_values.specs.declared.row.Row.{Row}
use Rattle.tt_values.specs.declared.statement.Equal.{Equal}
use Rattle.tt_values.specs.declared.statement.Select.{Select}
use Rattle.tt_values.specs.declared.statement.Write.{Write}
use Rattle.tt_values.specs.declared.statement.Write.TheVariants.{Insert, Update, Delete}
use Rattle.tt_values.specs.declared.reply.Reply.{Reply}
use Rattle.tt_values.specs.declared.reply.Reply.TheVariants.{Inserted, Duplicate, Updated, Deleted, Rows}
use Rattle.tt_values.specs.Row.{key_of}
use Rattle.tt_values.specs.Matches.{matches}
use Rattle.tt_values.specs.Change.{changed}
use Rattle.tt_values.specs.Content.{RowsByKey, Content, row_at}

-- the rows that match, with their keys
abbrev pub matching_rows : List Equal → RowsByKey → RowsByKey
matching_rows qs rows = filter (λ e. matches qs e.1) rows

-- the position of the table that a write writes to
abbrev pub table_of : Write → ℕ
table_of (Insert table row) = table
table_of (Update table changes equals) = table
table_of (Delete table equals) = table

-- the effect of a write on the rows of its table: each key that it writes, with the new row
-- or none
abbrev pub effect_on : Write → RowsByKey → List (ℤ × Option Row)
effect_on (Insert table row) rows = if is_some (row_at rows (key_of row)) then [] else (key_of row, Some row) ∷ []
effect_on (Update table changes equals) rows = map (λ e. (e.0, Some (changed e.1 changes))) (matching_rows equals rows)
effect_on (Delete table equals) rows = map (λ e. (e.0, None)) (matching_rows equals rows)

-- the effect of a write on a content
abbrev pub effect : Write → Content → List (ℤ × Option Row)
effect w X = effect_on w (X (table_of w))

-- the reply to a write, by the rows of its table
abbrev pub reply_on : Write → RowsByKey → Reply
reply_on (Insert table row) rows = if is_some (row_at rows (key_of row)) then Duplicate else Inserted
reply_on (Update table changes equals) rows = Updated (length (effect_on (Update table changes equals) rows))
reply_on (Delete table equals) rows = Deleted (length (effect_on (Delete table equals) rows))

-- the reply to a write on a content
abbrev pub reply_of : Write → Content → Reply
reply_of w X = reply_on w (X (table_of w))

-- the reply to a select
abbrev pub answer_of : Select → Content → Reply
answer_of q X = Rows (map (λ e. e.1) (matching_rows q.equals (X q.table)))
