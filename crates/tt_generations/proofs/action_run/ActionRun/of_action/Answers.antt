-- Where nothing is to be given up, all writes are carried out.
use Rattle.std.proofs.Common.{◌&&◌, nat_lt, List, length, subst, ap, ◌∙◌, inl, inr}
use Rattle.std.proofs.lemmas.Result.{IfOk-weaker}
use Rattle.tt_values.specs.declared.statement.Write.{Write}
use Rattle.tt_values.specs.declared.action.Action.{Action}
use Rattle.tt_values.specs.Action.{action_of}
use Rattle.tt_generations.specs.declared.action_run.ActionRun.{ActionRun}
use Rattle.tt_generations.specs.ActionRun.{run_on, CarriesOutAction}
use Rattle.tt_generations.proofs.ActionStepsLemmas.{gives_nothing_up, CarriesOutAction-few}
use Rattle.tt_generations.proofs.action_run.ActionRun.of_action.Goals as goal

pub returns-else-may_give_up-clause-current : goal.returns-else-may_give_up-clause-current
returns-else-may_give_up-clause-current c =
    let action = c.args.action.now in
    let writes = c.as_slice-writes.ensures in
    let may = c.may_give_up.ensures ∙ ap (λ (ws : List Write). action.whole && nat_lt 1 (length ws)) writes in
    let each : (run : ActionRun) → CarriesOutAction c.args.time (action_of c.as_slice-writes.result.now) c.args.rows.now (run_on c.of_writes.new.rows run) → CarriesOutAction c.args.time action c.args.rows.now (run_on c.of_writes.new.rows run) =
    λ run all.
    let done = subst (λ (ws : List Write). CarriesOutAction c.args.time (action_of ws) c.args.rows.now (run_on c.of_writes.new.rows run)) writes all in
    elim (gives_nothing_up action c.may_give_up.result may c.if-may_give_up.false) [
      | inl same ↦ subst (λ (a : Action). CarriesOutAction c.args.time a c.args.rows.now (run_on c.of_writes.new.rows run)) same done
      | inr few ↦ CarriesOutAction-few c.args.time action c.args.rows.now (run_on c.of_writes.new.rows run) few done
    ] in
    IfOk-weaker c.of_writes.result (λ (run : ActionRun). CarriesOutAction c.args.time (action_of c.as_slice-writes.result.now) c.args.rows.now (run_on c.of_writes.new.rows run)) (λ (run : ActionRun). CarriesOutAction c.args.time action c.args.rows.now (run_on c.of_writes.new.rows run)) each c.of_writes.ensures.current
