-- The pieces of the object, one after another.
use Rattle.std.proofs.Common.{map, codes}
use Rattle.std.proofs.lemmas.List.Elements.{All-map}
use Rattle.tt_values.specs.declared.statement.Equal.{Equal}
use Rattle.tt_grammar.specs.Quoting.{quoted}
use Rattle.tt_grammar.specs.JsonText.{array_text}
use Rattle.tt_grammar.specs.ReadBack.{IsStorable}
use Rattle.tt_grammar.specs.WriteText.{table_name, equal_text}
use Rattle.tt_grammar.proofs.PieceLemmas.{two-members}
use Rattle.tt_grammar.proofs.write_text.push_delete.Goals as goal

pub returns-clause-text : goal.returns-clause-text
returns-clause-text c =
    two-members c.args.out.now.items c.push_table_name.new.out.items c.extend_from_slice.new.self.items c.push_equals.new.out.items c.push.new.self.items
    (codes "{\"delete\":") (quoted (table_name c.args.catalog.now c.args.table)) (codes ",\"where\":") (array_text (map (equal_text c.args.catalog.now c.args.table) c.args.equals.now)) (codes "}")
    c.in_ok-push_table_name.ensures c.in_ok-extend_from_slice.ensures.items c.in_ok-push_equals.ensures.text c.in_ok-push.ensures.items

pub returns-clause-storable : goal.returns-clause-storable
returns-clause-storable c = All-map IsStorable (λ (q : Equal). q.value) c.args.equals.now c.in_ok-push_equals.ensures.storable
