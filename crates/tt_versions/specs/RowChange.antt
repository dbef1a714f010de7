-- How the row with a key changes.
use Rattle.std.specs.Prelude.{Option, None}
use Rattle.std.specs.Option.{option_copied}
use Rattle.tt_values.specs.declared.row.Row.{Row}
use Rattle.tt_versions.specs.declared.row_change.RowChange.{RowChange}
use Rattle.tt_versions.specs.declared.row_change.RowChange.TheVariants.{First, Current, Next}

-- the current row before the change
abbrev pub current_before : RowChange → Option Row
current_before (First row) = None
current_before (Current old new) = option_copied old
current_before (Next current next) = option_copied current

-- and after it
abbrev pub current_after : RowChange → Option Row
current_after (First row) = option_copied row
current_after (Current old new) = option_copied new
current_after (Next current next) = option_copied current

-- the row that is another one than the current row once it has changed
abbrev pub other_after : RowChange → Option Row
other_after (First row) = None
other_after (Current old new) = option_copied old
other_after (Next current next) = option_copied next

-- the row that is written
abbrev pub listed_by : RowChange → Option Row
listed_by (First row) = option_copied row
listed_by (Current old new) = option_copied new
listed_by (Next current next) = option_copied next
