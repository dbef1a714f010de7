-- The beginning of the repair, the calls beside its steps, and its end, one after another.
use Rattle.std.proofs.Common.{rules, ◌≡◌, ◌+◌, ◌++◌, List, None, map, sym, ap, subst, ◌∙◌}
use Rattle.tt_db.specs.declared.event.Event.TheVariants as events
use Rattle.tt_db.specs.Database.{refusal_of}
use Rattle.tt_workload.specs.History.{edit_of_slot}
use Rattle.tt_workload.proofs.ReportLemmas.{is_memory}
use Rattle.tt_workload.proofs.RepairReportLemmas.{repair-state, repair-pieces}
use Rattle.tt_workload.proofs.report.run_repair.Goals as goal

pub returns-in_err-edits-clause-err : goal.returns-in_err-edits-clause-err
returns-in_err-edits-clause-err c = let gives = c.from_residual in is_memory gives.result gives.ensures.1

pub begin-requires : goal.begin-requires
begin-requires c =
    let edits_are = c.in_ok-edits.ensures ∙ ap (λ rs. map (edit_of_slot rs) c.as_slice.result.now) c.deref.ensures.value ∙ ap (map (edit_of_slot c.args.records.items)) c.as_slice.ensures in
    subst (λ es. refusal_of c.args.db (events.Begin es) ≡ None) (sym edits_are) c.requires.begins

pub returns-clause-lines : goal.returns-clause-lines
returns-clause-lines c =
    let edits_are = c.in_ok-edits.ensures ∙ ap (λ rs. map (edit_of_slot rs) c.as_slice.result.now) c.deref.ensures.value ∙ ap (map (edit_of_slot c.args.records.items)) c.as_slice.ensures in
    repair-pieces c.args.options.now c.args.administrator.worker c.args.administrator.batch c.args.records.items c.make_meanwhile.new.records.items c.args.plan c.in_ok-edits.edits
    c.args.db c.begin.new.db c.make_meanwhile.new.db c.finish.new.db c.args.out.now.items c.make_meanwhile.new.out.items c.finish.new.out.items
    (record { edits_are = edits_are; begun_is = c.in_ok-begin.ensures.state; steps_are = search rules; last_is = c.in_ok-finish.ensures.state })
    (record { all_are = search rules; calls_are = search rules; ended_are = search rules })

pub returns-clause-state : goal.returns-clause-state
returns-clause-state c =
    let edits_are = c.in_ok-edits.ensures ∙ ap (λ rs. map (edit_of_slot rs) c.as_slice.result.now) c.deref.ensures.value ∙ ap (map (edit_of_slot c.args.records.items)) c.as_slice.ensures in
    repair-state c.args.options.now c.args.administrator.worker c.args.administrator.batch c.args.records.items c.args.plan c.in_ok-edits.edits c.args.db c.begin.new.db c.make_meanwhile.new.db c.finish.new.db
    (record { edits_are = edits_are; begun_is = c.in_ok-begin.ensures.state; steps_are = search rules; last_is = c.in_ok-finish.ensures.state })
