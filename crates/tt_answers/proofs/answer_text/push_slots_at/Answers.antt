-- The pieces of the members, one after another.
use Rattle.std.proofs.Common.{◌++◌, map, ap, ◌∙◌, codes}
use Rattle.std.specs.Fmt.{decimal}
use Rattle.tt_requests.specs.declared.told.ToldTime.{ToldTime}
use Rattle.tt_requests.specs.Numbers.{told_time}
use Rattle.tt_grammar.specs.JsonText.{array_text}
use Rattle.tt_answers.specs.AnswerText.{slot_text}
use Rattle.tt_answers.proofs.PieceLemmas.{number-value}
use Rattle.tt_answers.proofs.answer_text.push_slots_at.Goals as goal

pub returns : goal.returns
returns c =
    number-value c.args.out.now.items c.push_told_time.new.out.items c.extend_from_slice.new.self.items c.push_slots.new.out.items
    (codes "\"time\":") (decimal (told_time c.args.numbering c.args.time).number) (codes ",\"slots\":") (array_text (map (slot_text c.args.catalog.now c.args.numbering) c.args.slots.now))
    (c.in_ok-push_told_time.ensures ∙ ap (λ (t : ToldTime). c.args.out.now.items ++ (codes "\"time\":" ++ decimal t.number)) c.told_time.ensures)
    c.in_ok-extend_from_slice.ensures.items c.in_ok-push_slots.ensures
