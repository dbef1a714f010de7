-- Steps of a repair that are made together lead where they lead one after another.
use Rattle.std.proofs.Common.{Some, sym, ap, ◌∙◌}
use Rattle.tt_store.proofs.StepsLemmas.{AreMade, in_way_of_steps, reached_by_steps, no_steps}
use Rattle.tt_store.proofs.call.steps_from.Goals.{In-Ok}
use Rattle.tt_store.proofs.call.steps_from.Goals as goal

are_made : (c : In-Ok) → AreMade c.args.worker c.args.db c.args.count c.in-Ok.made c.advance_steps.new.self
are_made c = record {
  state = c.in-Ok.ensures.state;
  count = c.in-Ok.ensures.count;
  last = c.in-Ok.ensures.last;
  refusal = c.in-Ok.ensures.refusal;
}

pub returns-in-Some-clause-in_way : goal.returns-in-Some-clause-in_way
returns-in-Some-clause-in_way c =
    in_way_of_steps c.args.worker c.args.db c.args.count c.in-Ok.made c.advance_steps.new.self c.in-Some.refusal
    (are_made (goal.at.returns-in-Some-clause-in_way c).In-Ok) c.in-Some.is

pub returns-in-Some-last-clause-reached : goal.returns-in-Some-last-clause-reached
returns-in-Some-last-clause-reached c =
    reached_by_steps c.args.worker c.args.db c.args.count c.in-Ok.made c.advance_steps.new.self _
    (are_made (goal.at.returns-in-Some-last-clause-reached c).In-Ok) c.in-None.is (c.in-Some-last.is ∙ ap Some (sym c.in-Some-last.outcome-is))

pub returns-in-None-last-clause-reached : goal.returns-in-None-last-clause-reached
returns-in-None-last-clause-reached c =
    no_steps c.args.worker c.args.db c.args.count c.in-Ok.made c.advance_steps.new.self
    (are_made (goal.at.returns-in-None-last-clause-reached c).In-Ok) c.in-None.is c.in-None-last.is
