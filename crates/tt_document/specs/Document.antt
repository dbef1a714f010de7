-- The meaning of a JSON document, and what holds of every document that is read.
use Rattle.std.specs.Prelude.{◌≡◌, ℕ, ◌≤◌, ◌==◌, true, false, List, [], ◌∷◌, ◌++◌, length, Option, None, IfSome, All, Result}
use Rattle.std.specs.List.{list_any}
use Rattle.json.specs.Json as json
use Rattle.serde_json.specs.Data.{Data}
use Rattle.tt_values.specs.declared.checking.CheckError.{CheckError}
use Rattle.tt_values.specs.Tables.{Tables}
use Rattle.tt_values.specs.Check.{action_fault, select_fault}
use Rattle.tt_repair_laws.specs.declared.edit.Edit.{Edit}
use Rattle.tt_repair_laws.specs.declared.edit.Edit.TheVariants.{Cancel, Replace}
use Rattle.tt_repair_laws.specs.Edits.{slot_number}
use Rattle.tt_json.specs.Text.{json_of_text}
use Rattle.tt_grammar.specs.declared.fault.DocFault.{DocFault}
use Rattle.tt_grammar.specs.Fault.{◌>>=◌, with_path, document_path}
use Rattle.tt_grammar.specs.TextValue.{value_of_found}
use Rattle.tt_grammar.specs.Edits.{max_edits}
use Rattle.tt_document.specs.declared.document.Document.{Document}
use Rattle.tt_document.specs.declared.document.Plan.{Plan}
use Rattle.tt_document.specs.declared.document.Call.{Call}
use Rattle.tt_document.specs.declared.document.Ask.{Ask}
use Rattle.tt_document.specs.declared.document.Ask.TheVariants as asks
use Rattle.tt_document.specs.Calls.{max_calls}
use Rattle.tt_document.specs.Repair.{is_action_call}
use Rattle.tt_document.specs.Reading.{max_workers, members_of_document}

-- the meaning of a JSON value: a document, or its first fault with the path from the root
abbrev pub document_of : Data → Result Document DocFault
document_of v = with_path document_path (members_of_document v)

-- the meaning of the JSON of a text, if it has one: the document of its value, or the first fault of the text
abbrev pub document_of_json : Option json.Json → Result Document DocFault
document_of_json found = with_path document_path (value_of_found found >>= members_of_document)

-- the document of a text in UTF-8, or its first fault
abbrev pub document_of_text : List ℕ → Result Document DocFault
document_of_text text = document_of_json (json_of_text text)

-- the fault of what a call asks for, if it has one
abbrev pub ask_fault : Tables → Ask → Option CheckError
ask_fault tables (asks.Write action) = action_fault tables action.writes
ask_fault tables (asks.Read select at) = select_fault tables select
ask_fault tables (asks.Preview select) = select_fault tables select

-- a call of one of the workers, whose action or select the tables accept
pub record IsValidCall (tables : Tables) (workers : ℕ) (call : Call) : Type 0 where
  pub from_one : 1 ≤ call.worker
  pub to_last : call.worker ≤ workers
  pub is_accepted : ask_fault tables call.ask ≡ None

-- the fault of an edit's action, if it has one
abbrev pub edit_fault : Tables → Edit → Option CheckError
edit_fault tables (Cancel number) = None
edit_fault tables (Replace number action) = action_fault tables action.writes

-- an edit of a call that asks for an action, with an action that the tables accept
pub record IsValidEdit (tables : Tables) (calls : List Call) (edit : Edit) : Type 0 where
  pub from_one : 1 ≤ slot_number edit
  pub to_last : slot_number edit ≤ length calls
  pub of_action : is_action_call calls (slot_number edit) ≡ true
  pub is_accepted : edit_fault tables edit ≡ None

-- after earlier edits, each of these is for a call that no edit before it is for
abbrev pub AreForOtherCalls : List Edit → List Edit → Type 0
AreForOtherCalls earlier [] = Unit {0}
AreForOtherCalls earlier (e ∷ edits) = (list_any (λ d. slot_number e == slot_number d) earlier ≡ false) × AreForOtherCalls (earlier ++ e ∷ []) edits

-- a repair within its limits, each of its edits and calls valid
pub record IsValidPlan (tables : Tables) (workers : ℕ) (calls : List Call) (plan : Plan) : Type 0 where
  pub few_edits : length plan.edits ≤ max_edits
  pub valid_edits : All (IsValidEdit tables calls) plan.edits
  pub each_once : AreForOtherCalls [] plan.edits
  pub few_calls : length plan.meanwhile ≤ max_calls
  pub valid_calls : All (IsValidCall tables workers) plan.meanwhile

-- a document within its limits, each of its calls valid, and its repair if it has one
pub record IsValidDocument (d : Document) : Type 0 where
  pub some_worker : 1 ≤ d.workers
  pub few_workers : d.workers ≤ max_workers
  pub few_calls : length d.calls ≤ max_calls
  pub valid_calls : All (IsValidCall d.catalog d.workers) d.calls
  pub valid_repair : IfSome d.repair (IsValidPlan d.catalog d.workers d.calls)
