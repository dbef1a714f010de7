-- What the workers leave is a report of the document.
use Rattle.std.proofs.Common.{ℕ, ◌+◌, length, All, sym, ap, subst, ◌∙◌}
use Rattle.tt_db.specs.Limits.{usual_limits}
use Rattle.tt_store.specs.Closing.{IsOfWorker}
use Rattle.tt_workers.specs.Report.{nothing_seen, all_calls}
use Rattle.tt_workers.proofs.MadeLemmas.{length-new_workers}
use Rattle.tt_workers.proofs.RunningLemmas.{Begins, LeavesDatabase, leaves, numbered_records, whole_report}
use Rattle.tt_workers.proofs.run.run_on.Goals as goal

pub make_all-requires-clause-some : goal.make_all-requires-clause-some
make_all-requires-clause-some g c κs within = ap length c.requires.new ∙ length-new_workers (c.args.task.now.document.now.workers + 1)

pub report_of-requires : goal.report_of-requires
report_of-requires g c =
    let begins : Begins g.L.Naming.tables g.L.Naming.limits c.args.task.now.document.now c.args.workers.items c.new-records.result = record {
      valid = c.requires.valid;
      same_tables = sym c.requires.tables;
      same_limits = sym c.requires.limits;
      new = c.requires.new;
      no_records = c.new-records.ensures.records;
      no_fronts = c.new-records.ensures.fronts;
    } in
    let left = leaves g.L.Naming.tables g.L.Naming.limits c.args.task.now.document.now c.in_ok-db.db.history c.args.workers.items c.new-records.result begins
    c.in_ok-workers.workers.items c.make_all.new.records c.in_ok-workers.repaired c.in_ok-workers.ensures.made c.in_ok-db.ensures.made c.in_ok-db.ensures.parts in
    record { by_call = numbered_records usual_limits c.in_ok-db.db.history nothing_seen 1 (all_calls c.args.task.now.document.now) c.make_all.new.records.records.items c.make_all.new.records.fronts.items left.answered }

pub returns-clause-report : goal.returns-clause-report
returns-clause-report g c =
    let begins : Begins g.L.Naming.tables g.L.Naming.limits c.args.task.now.document.now c.args.workers.items c.new-records.result = record {
      valid = c.requires.valid;
      same_tables = sym c.requires.tables;
      same_limits = sym c.requires.limits;
      new = c.requires.new;
      no_records = c.new-records.ensures.records;
      no_fronts = c.new-records.ensures.fronts;
    } in
    let left = leaves g.L.Naming.tables g.L.Naming.limits c.args.task.now.document.now c.in_ok-db.db.history c.args.workers.items c.new-records.result begins
    c.in_ok-workers.workers.items c.make_all.new.records c.in_ok-workers.repaired c.in_ok-workers.ensures.made c.in_ok-db.ensures.made c.in_ok-db.ensures.parts in
    let closed : LeavesDatabase c.args.task.now.document.now c.in_ok-db.db = record {
      catalog = c.in_ok-db.ensures.catalog ∙ sym c.requires.tables;
      limits = c.in_ok-db.ensures.limits ∙ sym c.requires.limits;
      everyone = subst (λ (k : ℕ). All (IsOfWorker k) c.in_ok-db.db.history) (sym c.requires.parts) c.in_ok-db.ensures.entries;
    } in
    whole_report c.args.task.now.document.now c.in_ok-db.db c.make_all.new.records.records.items c.make_all.new.records.fronts.items c.in_ok-workers.repaired c.report_of.result left closed
    c.report_of.ensures.records c.report_of.ensures.fronts c.report_of.ensures.repaired c.report_of.ensures.db c.report_of.ensures.changes
