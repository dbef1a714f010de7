-- The pieces of the object, one after another.
use Rattle.std.proofs.Common.{codes}
use Rattle.std.specs.Fmt.{signed_decimal}
use Rattle.tt_grammar.specs.Quoting.{quoted}
use Rattle.tt_grammar.specs.WriteText.{table_name}
use Rattle.tt_answers.specs.DiffText.{row_or_null}
use Rattle.tt_answers.proofs.PieceLemmas.{row-values-object}
use Rattle.tt_answers.proofs.diff_text.push_row_change.Goals as goal

pub returns : goal.returns
returns c =
    let change = c.args.change.now in
    row-values-object c.args.out.now.items c.push_row_id.new.out.items c.extend_from_slice.new.self.items c.push_row_or_null.new.out.items
    c.extend_from_slice-2.new.self.items c.push_row_or_null-2.new.out.items c.push.new.self.items
    (codes "{\"table\":") (quoted (table_name c.args.catalog.now c.args.table)) (codes ",\"key\":") (signed_decimal change.key)
    (codes ",\"before\":") (row_or_null change.before) (codes ",\"after\":") (row_or_null change.after) (codes "}")
    c.in_ok-push_row_id.ensures c.in_ok-extend_from_slice.ensures.items c.in_ok-push_row_or_null.ensures
    c.in_ok-extend_from_slice-2.ensures.items c.in_ok-push_row_or_null-2.ensures c.in_ok-push.ensures.items
