-- A whole run: the calls of all workers, and the repair beside those that are made meanwhile.
use Rattle.std.specs.Prelude.{◌≡◌, ℕ, ◌+◌, List, [], ◌∷◌, ◌++◌, length, map, Option, None, Some}
use Rattle.tt_values.specs.Tables.{Tables}
use Rattle.tt_db.specs.declared.limits.Limits.{Limits}
use Rattle.tt_document.specs.declared.document.Document.{Document}
use Rattle.tt_document.specs.declared.document.Plan.{Plan}
use Rattle.tt_document.specs.declared.document.Call.{Call}
use Rattle.tt_repair.specs.declared.repaired.Repaired.{Repaired}
use Rattle.tt_repair.specs.Repairing.{HasRepaired}
use Rattle.tt_store.specs.Workers.{WorkerState, Looks}
use Rattle.tt_workload.specs.History.{edit_of_slot}
use Rattle.tt_workers.specs.declared.answered_call.AnsweredCall.{AnsweredCall}
use Rattle.tt_workers.specs.declared.merging.Records.{Records}
use Rattle.tt_workers.specs.Calls.{AllWork}
use Rattle.tt_workers.specs.Merging.{merged_answers}

-- each of the workers has made its calls among these, and the records were pushed in the order of the calls
pub record MadeCalls (limits : Limits) (number : ℕ) (calls : List Call) (olds news : List WorkerState) (before now : Records) : Type 0 where
  pub queues : List (List AnsweredCall)
  pub work : AllWork limits number calls olds news queues
  pub records : now.records.items ≡ before.records.items ++ map (λ a. a.answer) (merged_answers calls queues)
  pub fronts : now.fronts.items ≡ before.fronts.items ++ map (λ a. a.front) (merged_answers calls queues)

-- the administrator has made the repair of a plan, with the slots of these records, and the workers the calls of `meanwhile`
pub record MadeRepair (tables : Tables) (limits : Limits) (plan : Plan) (administrator : WorkerState) (olds : List WorkerState) (before : Records) (all : List WorkerState) (now : Records) (r : Repaired) : Type 0 where
  pub middle : WorkerState
  pub last : WorkerState
  pub news : List WorkerState
  pub looks : Looks administrator middle
  pub repaired : HasRepaired tables limits (map (edit_of_slot before.records.items) plan.edits) middle last r
  pub calls : MadeCalls limits (length before.records.items + 1) plan.meanwhile olds news before now
  pub all_is : all ≡ news ++ last ∷ []

-- the same, where there is a repair
abbrev pub MadeRepairIf : Tables → Limits → Option Plan → WorkerState → List WorkerState → Records → List WorkerState → Records → Option Repaired → Type 0
MadeRepairIf tables limits None administrator olds before all now repaired = (all ≡ olds ++ administrator ∷ []) × (now ≡ before) × (repaired ≡ None)
MadeRepairIf tables limits (Some plan) administrator olds before all now None = ⊥
MadeRepairIf tables limits (Some plan) administrator olds before all now (Some r) = MadeRepair tables limits plan administrator olds before all now r

-- all calls of a document were made, and its repair, if it has one, by these workers, of whom the last is the administrator
pub record MadeAll (tables : Tables) (limits : Limits) (document : Document) (start : List WorkerState) (none : Records) (all : List WorkerState) (now : Records) (repaired : Option Repaired) : Type 0 where
  pub olds : List WorkerState
  pub administrator : WorkerState
  pub start_is : start ≡ olds ++ administrator ∷ []
  pub news : List WorkerState
  pub middle : Records
  pub calls : MadeCalls limits 1 document.calls olds news none middle
  pub repair : MadeRepairIf tables limits document.repair administrator news middle all now repaired
