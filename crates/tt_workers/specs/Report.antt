-- The report of a document whose calls are made in threads: what holds of its records, its repair and its history, and its text.
use Rattle.std.specs.Prelude.{◌≡◌, ℕ, ◌+◌, ◌-◌, ◌≤◌, ◌==◌, Bool, List, [], ◌∷◌, ◌++◌, length, take, map, All, Option, None, Some, if◌then◌else◌}
use Rattle.tt_db.specs.declared.event.Event.TheVariants.{Switch}
use Rattle.tt_db.specs.declared.event.Entry.{Entry}
use Rattle.tt_db.specs.declared.outcome.Outcome.TheVariants.{Switched}
use Rattle.tt_db.specs.declared.limits.Limits.{Limits}
use Rattle.tt_db.specs.Limits.{usual_limits}
use Rattle.tt_db.specs.State.{after, outcome_of}
use Rattle.tt_db.specs.Database.{Database, state_of}
use Rattle.tt_records.specs.declared.record.Record.{Record}
use Rattle.tt_repair.specs.declared.repaired.Repaired.{Repaired}
use Rattle.tt_records.specs.Changes.{changes_of}
use Rattle.tt_repair.specs.Repairing.{begun_steps, entry_by}
use Rattle.tt_store.specs.History.{entries_by}
use Rattle.tt_store.specs.Closing.{IsOfWorker}
use Rattle.tt_document.specs.declared.document.Document.{Document}
use Rattle.tt_document.specs.declared.document.Plan.{Plan}
use Rattle.tt_document.specs.declared.document.Call.{Call}
use Rattle.tt_workload.specs.Records.{lines_of_records, lines_of_changes}
use Rattle.tt_workload.specs.History.{entries_of, history_of, edit_of_slot, administrator}
use Rattle.tt_workload.specs.declared.options.Options.{Options}
use Rattle.tt_workload.specs.declared.told_repair.ToldRepair.{ToldRepair}
use Rattle.tt_workload.specs.declared.told_repair.ToldRepair.TheVariants.{ThatClosed}
use Rattle.tt_workload.specs.CauseLines.{redone_lines_if}
use Rattle.tt_workload.specs.DiffLines.{diff_lines_if}
use Rattle.tt_workload.specs.Report.{line_of_repair, closed_lines_if, last_lines}
use Rattle.tt_workers.specs.declared.report.Report.{Report}
use Rattle.tt_workers.specs.Calls.{made_by, seen_after, record_at}

-- for each worker how much it has seen, after one of them has seen this much
abbrev pub with_seen : (ℕ → ℕ) → ℕ → ℕ → ℕ → ℕ
with_seen seen worker length other = if other == worker then length else seen other

-- a call is answered rightly at the front of this length: that isn't shorter than what its worker had seen, and with the entry of an
-- action, which follows it, it is within the history
pub record IsAnswered (limits : Limits) (history : List Entry) (seen : ℕ → ℕ) (number : ℕ) (call : Call) (answer : Record) (front : ℕ) : Type 0 where
  pub later : seen call.worker ≤ front
  pub within : seen_after call.ask front ≤ length history
  pub entry : take (seen_after call.ask front) history ≡ take front history ++ entries_of call
  pub right : answer ≡ record_at limits history number call front

-- there is one record for each of these calls, numbered from this number on, and one length of a front: each is answered rightly there,
-- in the order of each worker's calls at a front that is never shorter than before, and longer after an action
abbrev pub AreAnswered : Limits → List Entry → (ℕ → ℕ) → ℕ → List Call → List Record → List ℕ → Type 0
AreAnswered limits history seen number [] [] [] = Unit {0}
AreAnswered limits history seen number (c ∷ calls) (r ∷ records) (front ∷ fronts) =
    IsAnswered limits history seen number c r front
    × AreAnswered limits history (with_seen seen c.worker (seen_after c.ask front)) (number + 1) calls records fronts
AreAnswered limits history seen number calls records fronts = ⊥

-- the calls that are made while a repair is under way
abbrev pub meanwhile_of : Option Plan → List Call
meanwhile_of None = []
meanwhile_of (Some plan) = plan.meanwhile

-- all calls of a document, by number
abbrev pub all_calls : Document → List Call
all_calls document = document.calls ++ meanwhile_of document.repair

-- no worker has seen an entry
abbrev pub nothing_seen : ℕ → ℕ
nothing_seen worker = 0

-- the administrator made the repair of a plan, and no more: its Begin with the edits, in which each call's slot stands for its number,
-- Steps, and its Switch, which has this place and this outcome
pub record IsRepaired (document : Document) (plan : Plan) (records : List Record) (history : List Entry) (r : Repaired) : Type 0 where
  pub steps : ℕ
  pub before : List Entry
  pub rest : List Entry
  pub entries : made_by (administrator document) history
      ≡ entries_by (administrator document) (begun_steps (map (edit_of_slot records) plan.edits) steps ++ Switch ∷ [])
  pub switch : history ≡ before ++ entry_by (administrator document) Switch ∷ rest
  pub place : r.place ≡ length before + 1
  pub outcome : outcome_of document.catalog (after usual_limits before) Switch ≡ Switched r.generation r.slots r.rerun

-- the repair of a document was made, if it has one; otherwise the administrator made nothing
abbrev pub IsRepairOf : Document → List Record → List Entry → Option Plan → Option Repaired → Type 0
IsRepairOf document records history None None = made_by (administrator document) history ≡ []
IsRepairOf document records history (Some plan) (Some r) = IsRepaired document plan records history r
IsRepairOf document records history None (Some r) = ⊥
IsRepairOf document records history (Some plan) None = ⊥

-- a report is right for a document: each call has its record, right at its front of the one history. In the history are, for each worker, the
-- entries of its actions, each once and in the order of its calls, those of the repair, all the administrator's, and no more
pub record IsReportOf (document : Document) (report : Report) : Type 0 where
  pub catalog : report.db.catalog ≡ document.catalog
  pub limits : report.db.limits ≡ usual_limits
  pub answered : AreAnswered usual_limits report.db.history nothing_seen 1 (all_calls document) report.records.items report.fronts.items
  pub made : (worker : ℕ) → 1 ≤ worker → worker ≤ document.workers → made_by worker report.db.history ≡ made_by worker (history_of (all_calls document))
  pub repair : IsRepairOf document report.records.items report.db.history document.repair report.repaired
  pub everyone : All (IsOfWorker (administrator document)) report.db.history
  pub changes : report.changes.items ≡ changes_of report.db.catalog (state_of report.db) report.records.items

-- a repair that has switched, as lines tell of it: it closed the generation before the one that it switched to
abbrev pub told_repair : Repaired → ToldRepair
told_repair r = ThatClosed (r.generation - 1)

-- the lines of a repair on a later database, if there was one: its own, and one for each slot that it re-executed where these are asked for
abbrev pub repair_lines_if : Options → Database → Option Repaired → List ℕ
repair_lines_if options db None = []
repair_lines_if options db (Some r) = line_of_repair options.json r.generation r.slots r.rerun ++ redone_lines_if options db (told_repair r)

-- the lines of the rows that differ by a repair, if there was one, where these are asked for
abbrev pub diff_of_repair_if : Options → Database → Option Repaired → List ℕ
diff_of_repair_if options db None = []
diff_of_repair_if options db (Some r) = diff_lines_if options db (told_repair r)

-- the text of a report: a line for each call, those of the repair, one for each changed reply, one for each row that differs and those of
-- the closed generations where these are asked for, one for each table, and the last one
abbrev pub text_of_report : Options → Report → List ℕ
text_of_report options report =
    lines_of_records options.json report.db.catalog report.records.items
    ++ (repair_lines_if options report.db report.repaired
    ++ (lines_of_changes options.json report.db.catalog report.records.items report.changes.items
    ++ (diff_of_repair_if options report.db report.repaired ++ (closed_lines_if options report.db ++ last_lines options.json report.db))))
