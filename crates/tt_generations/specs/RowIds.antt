-- Lists of rows: where they are kept, and when they are the same.
use Rattle.std.specs.Prelude.{Bool, ◌==◌, ◌&&◌, List}
use Rattle.std.specs.Ordering.{int_eq}
use Rattle.tt_values.specs.declared.row_id.RowId.{RowId}
use Rattle.tt_generations.specs.declared.row_ids.OneOrMany.{OneOrMany}
use Rattle.tt_generations.specs.declared.row_ids.OneOrMany.TheVariants.{One, Many}

-- the rows, one or many
abbrev pub row_ids_view : OneOrMany → List RowId
row_ids_view (One rows) = rows
row_ids_view (Many rows) = rows

-- whether two rows are the same
abbrev pub is_same_row : RowId → RowId → Bool
is_same_row r s = (r.table == s.table) && int_eq r.key s.key
