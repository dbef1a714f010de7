-- The rows that differ between the generations, as calls tell them.
use Rattle.std.specs.Prelude.{ℕ, ℤ, List, [], filter, Option}
use Rattle.std.specs.Option.{option_copied}
use Rattle.tt_values.specs.RowWrites.{Slots}
use Rattle.tt_versions.specs.declared.table.differences.RowDifference.{RowDifference}
use Rattle.tt_versions.specs.Pages.{is_after}
use Rattle.tt_causes.specs.Differences.{RowChange, differences}
use Rattle.tt_generations.specs.declared.row_change.RowChange.{RowChange as ToldRowChange}
use Rattle.tt_generations.specs.TwoGenerations.{Phase, Idle, Repairing}

-- the change that is told
abbrev pub change_told : ToldRowChange → RowChange
change_told c = record { key = c.key; before = c.before; after = c.after }

-- a row that differs between the sides of a table, as a change
abbrev pub change_behind : RowDifference → RowChange
change_behind d = record { key = d.key; before = option_copied d.current; after = option_copied d.next }

-- the rows of a table that differ after the slots that the repair has done, by rising key
abbrev pub differences_in : Phase → Slots → ℕ → List RowChange
differences_in Idle W table = []
differences_in (Repairing edits n) W table = differences W edits n table

-- those with greater keys than this one, if one is given
abbrev pub changes_after : Option ℤ → List RowChange → List RowChange
changes_after low cs = filter (λ c. is_after low c.key) cs
