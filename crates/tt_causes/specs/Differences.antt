-- What differs between two generations.
use Rattle.std.specs.Prelude.{ℕ, ℤ, Bool, true, false, not, List, map, filter, fold, Option, None, Some}
use Rattle.std.specs.Ordering.{int_cmp}
use Rattle.std.specs.FinMap.Entries as sorted
use Rattle.tt_values.specs.declared.row.Row.{Row}
use Rattle.tt_values.specs.Same.{is_same_row}
use Rattle.tt_values.specs.Content.{RowsByKey, row_at, with_row_at}
use Rattle.tt_values.specs.RowWrites.{Slots}
use Rattle.tt_repair_laws.specs.declared.edit.Edit.{Edit}
use Rattle.tt_repair_laws.specs.Edits.{edited_slots}
use Rattle.tt_repair_laws.specs.Due.{content_after}

-- what a row of a table was, and what it is: none where it isn't there
pub record RowChange : Type 0 where
  pub key : ℤ
  pub before : Option Row
  pub after : Option Row

-- whether a row stays as it is, or isn't there before and after
abbrev pub is_unchanged : Option Row → Option Row → Bool
is_unchanged None None = true
is_unchanged None (Some after) = false
is_unchanged (Some before) None = false
is_unchanged (Some before) (Some after) = is_same_row before after

-- the keys of the rows of two lists, by rising key
abbrev pub keys_of_both : RowsByKey → RowsByKey → List ℤ
keys_of_both rows others = map (λ e. e.0) (fold (λ es e. sorted.put int_cmp e.0 e.1 es) rows others)

-- the row of a key in two lists
abbrev pub row_change_at : RowsByKey → RowsByKey → ℤ → RowChange
row_change_at before after key = record { key = key; before = row_at before key; after = row_at after key }

-- the rows that differ between two lists, by rising key
abbrev pub row_changes : RowsByKey → RowsByKey → List RowChange
row_changes before after = filter (λ c. not (is_unchanged c.before c.after)) (map (row_change_at before after) (keys_of_both before after))

-- the rows after these changes
abbrev pub with_row_changes : RowsByKey → List RowChange → RowsByKey
with_row_changes rows cs = fold (λ rows c. with_row_at rows c.key c.after) rows cs

-- what differs in a table after the first n slots: before the repair, and by the edited slots
abbrev pub differences : Slots → List Edit → ℕ → ℕ → List RowChange
differences W E n table = row_changes (content_after W n table) (content_after (edited_slots W E) n table)
