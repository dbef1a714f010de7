-- The pieces of the members, one after another.
use Rattle.std.proofs.Common.{[], ◌++◌, ap, ◌∙◌, codes}
use Rattle.std.specs.Fmt.{decimal}
use Rattle.tt_requests.specs.declared.told.ToldTime.{ToldTime}
use Rattle.tt_requests.specs.Numbers.{told_time}
use Rattle.tt_grammar.specs.Quoting.{quoted}
use Rattle.tt_grammar.specs.Printing.{value_text}
use Rattle.tt_grammar.specs.WriteText.{table_name, column_name}
use Rattle.tt_answers.proofs.PieceLemmas.{three-values}
use Rattle.tt_answers.proofs.cause_text.push_reads.Goals as goal

pub returns : goal.returns
returns c =
    let tables = c.args.catalog.now in
    three-values c.args.out.now.items c.push_table_name.new.out.items c.push_column_name.new.out.items c.extend_from_slice.new.self.items c.push_value.new.out.items c.push_since.new.out.items
    (codes ",\"because\":\"reads\",\"table\":") (quoted (table_name tables c.args.table))
    (codes ",\"column\":") (quoted (column_name tables c.args.table c.args.column)) (codes ",\"value\":") (value_text c.args.value.now)
    (codes ",\"since\":" ++ (decimal (told_time c.args.numbering c.args.since).number ++ []))
    c.in_ok-push_table_name.ensures c.in_ok-push_column_name.ensures c.in_ok-extend_from_slice.ensures.items c.in_ok-push_value.ensures.text
    (c.in_ok-push_since.ensures ∙ ap (λ (t : ToldTime). c.push_value.new.out.items ++ (codes ",\"since\":" ++ (decimal t.number ++ []))) c.told_time.ensures)
