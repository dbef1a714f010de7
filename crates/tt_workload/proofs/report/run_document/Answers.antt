-- The lines of the calls, and those of the repair, one after another.
use Rattle.std.proofs.Common.{◌≡◌, ℕ, ◌≤◌, ◌++◌, ◌∷◌, [], List, map, length, Option, Some, None, IfSome, true, Bool, sym, ap, subst, ◌∙◌, append-nil, Vec, Global}
use Rattle.std.specs.Prelude.{IsErrAnd}
use Rattle.std.specs.Option.{is_some}
use Rattle.std.proofs.lemmas.List.Elements.{recursion_from_All}
use Rattle.tt_values.specs.Tables.{Tables}
use Rattle.tt_db.specs.declared.event.Event.TheVariants as events
use Rattle.tt_db.specs.declared.limits.Limits.{Limits}
use Rattle.tt_db.specs.Limits.{usual_limits}
use Rattle.tt_db.specs.Database.{Database, refusal_of}
use Rattle.tt_records.specs.declared.record.Record.{Record}
use Rattle.tt_document.specs.declared.document.Document.{Document}
use Rattle.tt_document.specs.declared.document.Call.{Call}
use Rattle.tt_document.specs.declared.document.Plan.{Plan}
use Rattle.tt_document.specs.Document.{IsValidCall, IsValidPlan}
use Rattle.tt_workload.specs.declared.run_fault.RunFault.{RunFault}
use Rattle.tt_workload.specs.Records.{kept, lines_of_records}
use Rattle.tt_workload.specs.History.{with_entries, edit_of_slot, history_of, records_of, before_calls, after_calls, records_of_calls, records_if, database_if}
use Rattle.tt_workload.specs.Report.{repair_lines_if}
use Rattle.tt_workload.specs.Room.{AreAccepted, IsBefore}
use Rattle.tt_workload.proofs.ReportLemmas.{is_memory, AreAccepted-valid, AreAccepted-valid_calls}
use Rattle.tt_workload.proofs.BeginLemmas.{begin_is_accepted}
use Rattle.tt_workload.proofs.WholeReportLemmas.{length-records_of, repaired-database, repaired-lines, on_ok, if_ok}
use Rattle.tt_workload.proofs.report.run_document.Goals as goal

-- the database before the calls, and after them
new-database : (document : Document) (new : Database) (tables : Tables) (limits : Limits)
    → new ≡ record { catalog = tables; limits = limits; history = [] } → tables ≡ document.catalog → limits ≡ usual_limits → new ≡ before_calls document
new-database document new tables limits is same most =
    let empty : Tables → Limits → Database = λ tables limits. record { catalog = tables; limits = limits; history = [] } in
    is ∙ ap (λ (ts : Tables). empty ts limits) same ∙ ap (λ (l : Limits). empty document.catalog l) most

database-after_calls : (document : Document) (new db : Database) (calls : List Call) → new ≡ before_calls document → db ≡ with_entries new (history_of calls) → calls ≡ document.calls
    → db ≡ after_calls document
database-after_calls document new db calls is_new is same =
    is ∙ ap (λ (d : Database). with_entries d (history_of calls)) is_new ∙ ap (λ cs. with_entries (before_calls document) (history_of cs)) same

-- the records of the calls, where there is a repair
records-kept : (document : Document) (p : Plan) (none records : List Record) (are_kept : Bool) (new : Database) (calls : List Call) → document.repair ≡ Some p → are_kept ≡ is_some document.repair → none ≡ []
    → new ≡ before_calls document → calls ≡ document.calls → records ≡ none ++ kept are_kept (records_of 1 new calls) → records ≡ records_of_calls document
records-kept document p none records are_kept new calls has test empty is_new same is =
    is ∙ ap (λ rs. rs ++ kept are_kept (records_of 1 new calls)) empty ∙ ap (λ b. kept b (records_of 1 new calls)) (test ∙ ap is_some has)
    ∙ ap (λ (d : Database). records_of 1 d calls) is_new ∙ ap (λ cs. records_of 1 (before_calls document) cs) same

lines-of_calls : (json : Bool) (document : Document) (old out : List ℕ) (new : Database) (calls : List Call) → new ≡ before_calls document → calls ≡ document.calls
    → out ≡ old ++ lines_of_records json new.catalog (records_of 1 new calls) → out ≡ old ++ lines_of_records json document.catalog (records_of_calls document)
lines-of_calls json document old out new calls is_new same is =
    is ∙ ap (λ (d : Database). old ++ lines_of_records json d.catalog (records_of 1 d calls)) is_new
    ∙ ap (λ cs. old ++ lines_of_records json document.catalog (records_of 1 (before_calls document) cs)) same

pub make_calls-requires-clause-accepted : goal.make_calls-requires-clause-accepted
make_calls-requires-clause-accepted c =
    let document = c.args.document in
    let tables = ap (λ (db : Database). db.catalog) c.new-db.ensures ∙ c.into_arc.ensures in
    subst (λ ts. AreAccepted ts c.into_vec-calls.result.items) (sym tables) (subst (λ cs. AreAccepted document.catalog cs) (sym c.into_vec-calls.ensures) (AreAccepted-valid document c.requires))

pub run_repair-requires-clause-begins : goal.run_repair-requires-clause-begins
run_repair-requires-clause-begins c =
    let document = c.args.document in
    let plan = c.in-Some.plan in
    let valid = subst (λ (p : Option Plan). IfSome p (IsValidPlan document.catalog document.workers document.calls)) c.in-Some.is c.requires.valid_repair in
    let new = new-database document c.new-db.result _ _ c.new-db.ensures c.into_arc.ensures c.usual.ensures in
    let state = database-after_calls document c.new-db.result c.in_ok-db.db c.into_vec-calls.result.items new c.in_ok-db.ensures.state c.into_vec-calls.ensures in
    let records = records-kept document plan c.new-records.result.items _ c.is_some-are_kept.result c.new-db.result c.into_vec-calls.result.items c.in-Some.is c.is_some-are_kept.ensures c.new-records.ensures.items new c.into_vec-calls.ensures c.in_ok-db.ensures.records in
    let before = subst (λ (cs : List Call). IsBefore (length cs) c.in_ok-db.db) c.into_vec-calls.ensures c.in_ok-db.ensures.room in
    subst (λ (rs : List Record). refusal_of c.in_ok-db.db (events.Begin (map (edit_of_slot rs) plan.edits)) ≡ None) (sym records)
    (begin_is_accepted document plan c.in_ok-db.db valid state c.requires.few_calls before)

pub run_repair-requires-clause-before : goal.run_repair-requires-clause-before
run_repair-requires-clause-before c =
    let document = c.args.document in
    let new = new-database document c.new-db.result _ _ c.new-db.ensures c.into_arc.ensures c.usual.ensures in
    let records = records-kept document c.in-Some.plan c.new-records.result.items _ c.is_some-are_kept.result c.new-db.result c.into_vec-calls.result.items c.in-Some.is c.is_some-are_kept.ensures c.new-records.ensures.items new c.into_vec-calls.ensures c.in_ok-db.ensures.records in
    let before = subst (λ (cs : List Call). IsBefore (length cs) c.in_ok-db.db) c.into_vec-calls.ensures c.in_ok-db.ensures.room in
    subst (λ n. IsBefore n c.in_ok-db.db) (sym (ap length records ∙ length-records_of 1 (before_calls document) document.calls)) before

pub run_repair-requires-clause-accepted : goal.run_repair-requires-clause-accepted
run_repair-requires-clause-accepted c =
    let document = c.args.document in
    let plan = c.in-Some.plan in
    let valid = subst (λ (p : Option Plan). IfSome p (IsValidPlan document.catalog document.workers document.calls)) c.in-Some.is c.requires.valid_repair in
    let new = new-database document c.new-db.result _ _ c.new-db.ensures c.into_arc.ensures c.usual.ensures in
    let state = database-after_calls document c.new-db.result c.in_ok-db.db c.into_vec-calls.result.items new c.in_ok-db.ensures.state c.into_vec-calls.ensures in
    subst (λ (ts : Tables). AreAccepted ts plan.meanwhile) (sym (ap (λ (d : Database). d.catalog) state))
    (AreAccepted-valid_calls document.catalog document.workers plan.meanwhile (recursion_from_All (IsValidCall document.catalog document.workers) plan.meanwhile valid.valid_calls))

pub run_repair-requires-clause-few : goal.run_repair-requires-clause-few
run_repair-requires-clause-few c =
    let document = c.args.document in
    let new = new-database document c.new-db.result _ _ c.new-db.ensures c.into_arc.ensures c.usual.ensures in
    let records = records-kept document c.in-Some.plan c.new-records.result.items _ c.is_some-are_kept.result c.new-db.result c.into_vec-calls.result.items c.in-Some.is c.is_some-are_kept.ensures c.new-records.ensures.items new c.into_vec-calls.ensures c.in_ok-db.ensures.records in
    subst (λ n. n ≤ 100000) (sym (ap length records ∙ length-records_of 1 (before_calls document) document.calls)) c.requires.few_calls

pub returns-in-Some-clause-lines : goal.returns-in-Some-clause-lines
returns-in-Some-clause-lines c =
    let document = c.args.document in
    let plan = c.in-Some.plan in
    let new = new-database document c.new-db.result _ _ c.new-db.ensures c.into_arc.ensures c.usual.ensures in
    let state = database-after_calls document c.new-db.result c.in_ok-db.db c.into_vec-calls.result.items new c.in_ok-db.ensures.state c.into_vec-calls.ensures in
    let records = records-kept document plan c.new-records.result.items _ c.is_some-are_kept.result c.new-db.result c.into_vec-calls.result.items c.in-Some.is c.is_some-are_kept.ensures c.new-records.ensures.items new c.into_vec-calls.ensures c.in_ok-db.ensures.records in
    let calls = lines-of_calls c.args.options.now.json document c.args.out.now.items c.make_calls.new.out.items c.new-db.result c.into_vec-calls.result.items new c.into_vec-calls.ensures c.in_ok-db.ensures.lines in
    on_ok c.run_repair.result
    (λ lines. subst (λ (p : Option Plan). c.run_repair.new.out.items ≡ c.args.out.now.items ++ (lines_of_records c.args.options.now.json document.catalog (records_if c.args.options.now.batch document p) ++ repair_lines_if c.args.options.now document p)) (sym c.in-Some.is)
    (repaired-lines c.args.options.now document plan _ c.in_ok-db.db c.args.out.now.items c.make_calls.new.out.items c.run_repair.new.out.items state records calls lines))
    c.run_repair.ensures.lines

pub returns-in-Some-clause-database : goal.returns-in-Some-clause-database
returns-in-Some-clause-database c =
    let document = c.args.document in
    let plan = c.in-Some.plan in
    let new = new-database document c.new-db.result _ _ c.new-db.ensures c.into_arc.ensures c.usual.ensures in
    let state = database-after_calls document c.new-db.result c.in_ok-db.db c.into_vec-calls.result.items new c.in_ok-db.ensures.state c.into_vec-calls.ensures in
    let records = records-kept document plan c.new-records.result.items _ c.is_some-are_kept.result c.new-db.result c.into_vec-calls.result.items c.in-Some.is c.is_some-are_kept.ensures c.new-records.ensures.items new c.into_vec-calls.ensures c.in_ok-db.ensures.records in
    if_ok c.run_repair.result
    (λ last is. subst (λ (p : Option Plan). last ≡ database_if c.args.options.now document p) (sym c.in-Some.is) (repaired-database c.args.options.now document plan _ c.in_ok-db.db last state records is))
    c.run_repair.ensures.state

pub returns-in-None-clause-lines : goal.returns-in-None-clause-lines
returns-in-None-clause-lines c =
    let document = c.args.document in
    let new = new-database document c.new-db.result _ _ c.new-db.ensures c.into_arc.ensures c.usual.ensures in
    let calls = lines-of_calls c.args.options.now.json document c.args.out.now.items c.make_calls.new.out.items c.new-db.result c.into_vec-calls.result.items new c.into_vec-calls.ensures c.in_ok-db.ensures.lines in
    subst (λ (p : Option Plan). c.make_calls.new.out.items ≡ c.args.out.now.items ++ (lines_of_records c.args.options.now.json document.catalog (records_if c.args.options.now.batch document p) ++ repair_lines_if c.args.options.now document p)) (sym c.in-None.is)
    (calls ∙ ap (λ ls. c.args.out.now.items ++ ls) (sym (append-nil (lines_of_records c.args.options.now.json document.catalog (records_of_calls document)))))
