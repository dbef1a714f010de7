-- The pieces of the members, one after another.
use Rattle.std.proofs.Common.{◌++◌, ap, ◌∙◌, codes}
use Rattle.tt_db.specs.Pages.{rows_in}
use Rattle.tt_grammar.specs.Quoting.{quoted}
use Rattle.tt_answers.specs.AnswerText.{rows_text}
use Rattle.tt_workload.proofs.JsonLemmas.{values-behind}
use Rattle.tt_workload.proofs.json_report.push_table_members.Goals as goal

pub returns : goal.returns
returns c =
    values-behind c.args.out.now.items c.extend_from_slice.new.self.items c.push_named.new.out.items c.extend_from_slice-2.new.self.items c.push_rows_of.new.out.items
    c.args.label.now (codes "\"table\":") (quoted c.args.name.now) (codes ",\"rows\":") (rows_text (rows_in c.args.rows.now))
    c.in_ok-extend_from_slice.ensures.items
    (c.in_ok-push_named.ensures ∙ ap (λ name. c.extend_from_slice.new.self.items ++ (codes "\"table\":" ++ quoted name)) c.as_bytes.ensures.value)
    c.in_ok-extend_from_slice-2.ensures.items c.in_ok-push_rows_of.ensures
