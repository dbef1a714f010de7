-- One event more than those before it.
use Rattle.std.proofs.Common.{Option, IfOk, IfErr, subst, sym}
use Rattle.tt_store.specs.declared.call.Reached.{Reached}
use Rattle.tt_store.specs.Reaching.{IsOneMore, IsInWayOfMore}
use Rattle.tt_store.proofs.CallLemmas.{one_more_if, in_way_of_more_if, in_way_of_first_if}
use Rattle.tt_store.proofs.call.with_event.Goals as goal

pub returns-in-Some-clause-reached : goal.returns-in-Some-clause-reached
returns-in-Some-clause-reached c =
    subst (λ (before : Option Reached). IfOk c.next_of.result (λ r. IsOneMore c.args.db.now c.args.worker before c.args.event r)) (sym c.in-Some.is)
    (one_more_if c.args.db.now c.args.worker c.in-Some.reached c.args.event c.next_of.result c.next_of.ensures.reached)

pub returns-in-Some-clause-in_way : goal.returns-in-Some-clause-in_way
returns-in-Some-clause-in_way c =
    subst (λ (before : Option Reached). IfErr c.next_of.result (λ why. IsInWayOfMore c.args.db.now c.args.worker before c.args.event why)) (sym c.in-Some.is)
    (in_way_of_more_if c.args.db.now c.args.worker c.in-Some.reached c.args.event c.next_of.result c.next_of.ensures.in_way)

pub returns-in-None-clause-in_way : goal.returns-in-None-clause-in_way
returns-in-None-clause-in_way c =
    subst (λ (before : Option Reached). IfErr c.first_of.result (λ why. IsInWayOfMore c.args.db.now c.args.worker before c.args.event why)) (sym c.in-None.is)
    (in_way_of_first_if c.args.db.now c.args.worker c.args.event c.first_of.result c.first_of.ensures.in_way)
