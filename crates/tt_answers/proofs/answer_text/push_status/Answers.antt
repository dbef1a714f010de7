-- The pieces of the members, one after another.
use Rattle.std.proofs.Common.{◌++◌, map, ap, ◌∙◌, codes}
use Rattle.std.specs.List.{flat_map}
use Rattle.std.specs.Option.{option_map}
use Rattle.std.specs.Fmt.{decimal}
use Rattle.tt_requests.specs.declared.told.ToldTime.{ToldTime}
use Rattle.tt_requests.specs.declared.told.ToldGeneration.{ToldGeneration}
use Rattle.tt_requests.specs.Numbers.{told_time, told_generation}
use Rattle.tt_grammar.specs.JsonText.{further_item, member_text, text_or_null}
use Rattle.tt_answers.specs.AnswerText.{repair_text, horizon_members}
use Rattle.tt_answers.proofs.PieceLemmas.{status-pieces}
use Rattle.tt_answers.proofs.answer_text.push_status.Goals as goal

pub returns : goal.returns
returns c =
    let numbering = c.args.numbering in
    let status = c.args.status.now in
    status-pieces c.args.out.now.items c.push_told_time.new.out.items c.push_told_generation.new.out.items c.push_told_generation-2.new.out.items
    c.push_labelled.new.out.items c.extend_from_slice.new.self.items c.push_repair.new.out.items c.push_horizon.new.out.items
    (codes "\"time\":") (decimal (told_time numbering status.time).number)
    (codes ",\"generation\":") (decimal (told_generation numbering status.generation).number)
    (codes ",\"oldest\":") (decimal (told_generation numbering status.oldest).number)
    (codes ",\"entries\":") (decimal status.entries)
    (codes ",\"repair\":") (text_or_null (option_map (repair_text numbering) status.repair))
    (flat_map further_item (map member_text (horizon_members numbering)))
    (c.in_ok-push_told_time.ensures ∙ ap (λ (t : ToldTime). c.args.out.now.items ++ (codes "\"time\":" ++ decimal t.number)) c.told_time.ensures)
    (c.in_ok-push_told_generation.ensures
    ∙ ap (λ (g : ToldGeneration). c.push_told_time.new.out.items ++ (codes ",\"generation\":" ++ decimal g.number)) c.told_generation.ensures)
    (c.in_ok-push_told_generation-2.ensures
    ∙ ap (λ (g : ToldGeneration). c.push_told_generation.new.out.items ++ (codes ",\"oldest\":" ++ decimal g.number)) c.told_generation-2.ensures)
    c.in_ok-push_labelled.ensures c.in_ok-extend_from_slice.ensures.items c.in_ok-push_repair.ensures c.in_ok-push_horizon.ensures
