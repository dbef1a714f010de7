-- The row of the first condition that is an equality with the key of a dirty row.
use Rattle.std.proofs.Common.{ℕ, List, Option, option_and_then, sym, ap, ◌∙◌}
use Rattle.std.specs.List.{find}
use Rattle.tt_values.specs.declared.row_id.RowId.{RowId}
use Rattle.tt_values.specs.declared.statement.Equal.{Equal}
use Rattle.tt_parts.specs.Dirty.{DirtySince}
use Rattle.tt_causes.specs.Causes.{row_of_key}
use Rattle.tt_causes.specs.Numbers.{is_by, condition_since, row_named_by_number}
use Rattle.tt_generations.proofs.causes.row_named_by.Goals as goal

abbrev row_equated : DirtySince → ℕ → ℕ → List Equal → Option RowId
row_equated since m table qs = option_and_then (λ q. row_of_key table q.value) (find (λ q. is_by m (condition_since since table q)) qs)

pub returns-in-Update : goal.returns-in-Update
returns-in-Update c =
    c.row_equated.ensures
    ∙ ap (row_equated c.args.dirty.now.since c.args.since c.in-Update.table) c.as_slice.ensures
    ∙ sym (ap (row_named_by_number c.args.dirty.now.since c.args.since) c.in-Update.is)

pub returns-in-Delete : goal.returns-in-Delete
returns-in-Delete c =
    c.row_equated-in-Delete.ensures
    ∙ ap (row_equated c.args.dirty.now.since c.args.since c.in-Delete.table) c.as_slice-in-Delete.ensures
    ∙ sym (ap (row_named_by_number c.args.dirty.now.since c.args.since) c.in-Delete.is)
