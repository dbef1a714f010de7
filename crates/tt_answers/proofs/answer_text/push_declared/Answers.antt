-- The pieces of the members, one after another.
use Rattle.std.proofs.Common.{◌++◌, ap, ◌∙◌, codes}
use Rattle.std.specs.Fmt.{decimal}
use Rattle.tt_grammar.specs.Version.{newest_session_version}
use Rattle.tt_grammar.specs.WriteText.{tables_text}
use Rattle.tt_answers.proofs.PieceLemmas.{declared-pieces}
use Rattle.tt_answers.proofs.answer_text.push_declared.Goals as goal

pub returns : goal.returns
returns c =
    declared-pieces c.args.out.now.items c.push_labelled.new.out.items c.extend_from_slice.new.self.items c.push_tables.new.out.items c.push_labelled-2.new.out.items
    c.push_labelled-3.new.out.items
    (codes "\"version\":") (decimal newest_session_version) (codes ",\"tables\":") (tables_text c.args.catalog.now) (codes ",\"keep\":") (decimal c.args.keep)
    (codes ",\"records\":") (decimal c.args.records)
    (c.in_ok-push_labelled.ensures ∙ ap (λ n. c.args.out.now.items ++ (codes "\"version\":" ++ decimal n)) c.from.ensures) c.in_ok-extend_from_slice.ensures.items c.in_ok-push_tables.ensures
    (c.in_ok-push_labelled-2.ensures ∙ ap (λ n. c.push_tables.new.out.items ++ (codes ",\"keep\":" ++ decimal n)) c.from-2.ensures)
    (c.in_ok-push_labelled-3.ensures ∙ ap (λ n. c.push_labelled-2.new.out.items ++ (codes ",\"records\":" ++ decimal n)) c.from-3.ensures)
