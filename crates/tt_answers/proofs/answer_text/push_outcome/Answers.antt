-- The pieces of the members, one after another.
use Rattle.std.proofs.Common.{map, codes}
use Rattle.tt_grammar.specs.JsonText.{array_text}
use Rattle.tt_answers.specs.CauseText.{cause_text}
use Rattle.tt_answers.specs.DiffText.{diff_text}
use Rattle.tt_answers.specs.AnswerText.{change_text}
use Rattle.tt_answers.proofs.PieceLemmas.{three-labelled}
use Rattle.tt_answers.proofs.answer_text.push_outcome.Goals as goal

pub returns : goal.returns
returns c =
    let tables = c.args.catalog.now in
    three-labelled c.args.out.now.items c.extend_from_slice.new.self.items c.push_causes.new.out.items c.extend_from_slice-2.new.self.items c.push_changes.new.out.items
    c.extend_from_slice-3.new.self.items c.push_diff.new.out.items
    (codes ",\"redone\":") (array_text (map (cause_text tables c.args.numbering) c.args.redone.now))
    (codes ",\"changed\":") (array_text (map (change_text tables c.args.numbering) c.args.changed.now))
    (codes ",\"diff\":") (array_text (map (diff_text tables) c.args.diff.now))
    c.in_ok-extend_from_slice.ensures.items c.in_ok-push_causes.ensures c.in_ok-extend_from_slice-2.ensures.items c.in_ok-push_changes.ensures
    c.in_ok-extend_from_slice-3.ensures.items c.in_ok-push_diff.ensures
