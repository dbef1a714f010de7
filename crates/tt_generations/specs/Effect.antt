-- The effect of a write on a side of a table with versions.
use Rattle.std.specs.Prelude.{◌≡◌, ℕ, ℤ, Bool, List, [], ◌∷◌, map, Option, None, Some, if◌then◌else◌}
use Rattle.tt_values.specs.declared.row.Row.{Row}
use Rattle.tt_values.specs.declared.row_id.RowId.{RowId}
use Rattle.tt_values.specs.declared.statement.Change.{Change}
use Rattle.tt_values.specs.declared.statement.Write.{Write}
use Rattle.tt_values.specs.declared.statement.Write.TheVariants.{Insert, Update, Delete}
use Rattle.tt_values.specs.Row.{key_of}
use Rattle.tt_values.specs.Change.{changed}
use Rattle.tt_values.specs.Content.{RowsByKey}
use Rattle.tt_values.specs.Effect.{effect_on}
use Rattle.tt_versions.specs.Sides.{RowsOverTime, ListsRows}

-- pairs are the effect of a write on the rows that a side has at a time
abbrev pub IsEffect : List (ℤ × Option Row) → Write → RowsOverTime → ℕ → Type 0
IsEffect pairs w rows time = (all : RowsByKey) → ListsRows all rows time → pairs ≡ effect_on w all

-- an insert of a row whose key is live, or not
abbrev pub insert_effect : Bool → Row → List (ℤ × Option Row)
insert_effect is_live row = if is_live then [] else (key_of row, Some row) ∷ []

-- each of the rows that match, changed
abbrev pub update_effect : List Change → RowsByKey → List (ℤ × Option Row)
update_effect changes rows = map (λ e. (e.0, Some (changed e.1 changes))) rows

-- the key of each of the rows that match, without a row
abbrev pub delete_effect : RowsByKey → List (ℤ × Option Row)
delete_effect rows = map (λ e. (e.0, None)) rows

-- the rows of a table that an effect writes
abbrev pub rows_of_effect : ℕ → List (ℤ × Option Row) → List RowId
rows_of_effect table effect = map (λ e. record { table = table; key = e.0 }) effect

-- the rows that a write with an effect matches: those of its effect. An insert matches the row of its key, whether it is there or not
abbrev pub matched_rows : Write → List (ℤ × Option Row) → List RowId
matched_rows (Insert table row) effect = record { table = table; key = key_of row } ∷ []
matched_rows (Update table changes equals) effect = rows_of_effect table effect
matched_rows (Delete table equals) effect = rows_of_effect table effect
