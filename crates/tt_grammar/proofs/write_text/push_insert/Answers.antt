-- The pieces of the object, one after another.
use Rattle.std.proofs.Common.{codes}
use Rattle.tt_grammar.specs.Quoting.{quoted}
use Rattle.tt_grammar.specs.Printing.{row_text}
use Rattle.tt_grammar.specs.WriteText.{table_name}
use Rattle.tt_grammar.proofs.PieceLemmas.{two-members}
use Rattle.tt_grammar.proofs.write_text.push_insert.Goals as goal

pub returns-clause-text : goal.returns-clause-text
returns-clause-text c =
    two-members c.args.out.now.items c.push_table_name.new.out.items c.extend_from_slice.new.self.items c.push_row.new.out.items c.push.new.self.items
    (codes "{\"insert\":") (quoted (table_name c.args.catalog.now c.args.table)) (codes ",\"row\":") (row_text c.args.row.now) (codes "}")
    c.in_ok-push_table_name.ensures c.in_ok-extend_from_slice.ensures.items c.in_ok-push_row.ensures.text c.in_ok-push.ensures.items
