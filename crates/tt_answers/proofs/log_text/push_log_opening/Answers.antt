-- The pieces of the line, one after another.
use Rattle.std.proofs.Common.{◌++◌, ap, ◌∙◌, codes}
use Rattle.std.specs.Fmt.{decimal}
use Rattle.tt_requests.specs.declared.told.ToldTime.{ToldTime}
use Rattle.tt_requests.specs.declared.told.ToldGeneration.{ToldGeneration}
use Rattle.tt_grammar.specs.Version.{newest_session_version}
use Rattle.tt_grammar.specs.WriteText.{tables_text}
use Rattle.tt_answers.proofs.PieceLemmas.{log-pieces}
use Rattle.tt_answers.proofs.log_text.push_log_opening.Goals as goal

pub returns : goal.returns
returns c =
    let numbering = c.args.numbering in
    log-pieces c.args.out.now.items c.push.new.self.items c.push_declared.new.out.items c.push_told_time.new.out.items c.push_told_generation.new.out.items
    c.push_labelled.new.out.items c.extend_from_slice.new.self.items
    (codes "{") (codes "\"version\":") (decimal newest_session_version) (codes ",\"tables\":") (tables_text c.args.catalog.now) (codes ",\"keep\":") (decimal c.args.keep)
    (codes ",\"records\":") (decimal c.args.records)
    (codes ",\"ground\":{\"time\":") (decimal numbering.horizon) (codes ",\"generation\":") (decimal numbering.generations) (codes ",\"slots\":") (decimal numbering.ground_slots)
    (codes "}")
    c.in_ok-push.ensures.items c.in_ok-push_declared.ensures
    (c.in_ok-push_told_time.ensures ∙ ap (λ (t : ToldTime). c.push_declared.new.out.items ++ (codes ",\"ground\":{\"time\":" ++ decimal t.number)) c.horizon.ensures.value)
    (c.in_ok-push_told_generation.ensures ∙ ap (λ (g : ToldGeneration). c.push_told_time.new.out.items ++ (codes ",\"generation\":" ++ decimal g.number)) c.generation.ensures)
    (c.in_ok-push_labelled.ensures ∙ ap (λ n. c.push_told_generation.new.out.items ++ (codes ",\"slots\":" ++ decimal n)) c.ground_slots.ensures)
    c.in_ok-extend_from_slice.ensures.items
