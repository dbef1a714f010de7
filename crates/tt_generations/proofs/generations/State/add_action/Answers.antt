-- The slots with one more, and the tables with its rows.
use Rattle.std.proofs.Common.{◌+◌, ◌++◌, ◌∷◌, [], Option, ap, ◌∙◌, arith}
use Rattle.std.proofs.lemmas.List.{length-map}
use Rattle.tt_values.specs.declared.action.Action.{Action}
use Rattle.tt_values.proofs.LawProofs.{accepted_actions_have_keys}
use Rattle.tt_generations.specs.ActionRun.{RunOnRows, run_on}
use Rattle.tt_generations.specs.KeptSlots.{actions_of}
use Rattle.tt_generations.proofs.KeptSlotsLemmas.{actions-push}
use Rattle.tt_generations.proofs.GenerationsLemmas.{AreGenerations-action, IsNextSlot-run, HasFewRows-slots, phase-with_slot}
use Rattle.tt_generations.proofs.generations.State.add_action.Goals as goal

pub of_action-requires-clause-keyed : goal.of_action-requires-clause-keyed
of_action-requires-clause-keyed c =
    let g = c.args.self.now in
    accepted_actions_have_keys g.catalog c.args.action.writes c.requires.parts.catalog c.requires.accepted

pub of_action-requires-clause-few : goal.of_action-requires-clause-few
of_action-requires-clause-few c =
    let g = c.args.self.now in
    HasFewRows-slots g.catalog g.slots g.rows g.repair (c.len.result + 1) c.requires.parts (omega (arith, c.len.ensures))

-- the run, with the rows that it left
abbrev run : (c : goal.In_ok-push) → RunOnRows
run c = run_on c.of_action.new.rows c.in_ok-run.run'

pub returns-clause-parts : goal.returns-clause-parts
returns-clause-parts c =
    let g = c.args.self.now in
    let new = c.in_ok-kept.ensures in
    rw (c.in_ok-push.ensures.ok, c.in_ok-add_to_repair.ensures)
    (AreGenerations-action g.catalog g.slots g.rows g.repair c.args.action (run c) c.in_ok-kept.kept (c.len.result + 1) c.requires.parts c.requires.accepted c.requires.room
    (omega (arith, c.len.ensures)) (record { carries = c.in_ok-run.ensures.current; keeps = c.in_ok-run.ensures.split; is_action = new.action; replies = new.kept_replies; rows = new.rows_touched }))

pub returns-clause-slots : goal.returns-clause-slots
returns-clause-slots c =
    let g = c.args.self.now in
    ap actions_of c.in_ok-push.ensures.ok ∙ actions-push g.slots c.in_ok-kept.kept ∙ ap (λ (s : Option Action). actions_of g.slots ++ s ∷ []) c.in_ok-kept.ensures.action

pub returns-clause-phase : goal.returns-clause-phase
returns-clause-phase c = rw (c.in_ok-add_to_repair.ensures) (phase-with_slot c.in_ok-kept.kept c.args.self.now.repair)

pub returns-clause-replies : goal.returns-clause-replies
returns-clause-replies c =
    let g = c.args.self.now in
    let next = IsNextSlot-run (actions_of g.slots) c.args.action g.rows (run c) (c.len.result + 1) c.requires.parts.rows.current
    (omega (arith, c.len.ensures, length-map g.slots (λ t. t.slot.action))) c.in_ok-run.ensures.current in
    c.in_ok-kept.ensures.replies ∙ next.replies
