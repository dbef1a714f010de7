-- What a request asks for has been judged, so that a database finds no fault in a statement of it.
use Rattle.std.specs.Prelude.{◌≡◌, ◌≤◌, List, length, All, None, Result, Ok}
use Rattle.serde_json.specs.Data.{Data}
use Rattle.tt_values.specs.Tables.{Tables}
use Rattle.tt_values.specs.Check.{action_fault, select_fault}
use Rattle.tt_repair_laws.specs.declared.edit.Edit.{Edit}
use Rattle.tt_repair_laws.specs.Edits.{HasNoFault}
use Rattle.tt_grammar.specs.declared.fault.DocFault.{DocFault}
use Rattle.tt_grammar.specs.declared.version.Version.{Version}
use Rattle.tt_grammar.specs.Edits.{max_edits}
use Rattle.tt_requests.specs.declared.request.Command.{Command}
use Rattle.tt_requests.specs.declared.request.Command.TheVariants as commands
use Rattle.tt_requests.specs.declared.request.Request.{Request}
use Rattle.tt_requests.specs.Requests.{request_of}

-- no action of the edits has a fault, and there are at most as many edits as there may be
pub record AreJudgedEdits (tables : Tables) (edits : List Edit) : Type 0 where
  pub accepted : All (HasNoFault tables) edits
  pub few : length edits ≤ max_edits

-- neither an action nor a select has a fault, and the edits of a repair have been judged
abbrev pub IsJudged : Tables → Command → Type 0
IsJudged tables (commands.Write action stamp) = action_fault tables action.writes ≡ None
IsJudged tables (commands.Read select at generation page) = select_fault tables select ≡ None
IsJudged tables (commands.Preview select page) = select_fault tables select ≡ None
IsJudged tables (commands.Begin told) = AreJudgedEdits tables told.edits
IsJudged tables (commands.Would told) = AreJudgedEdits tables told.edits
IsJudged tables command = Unit {0}

-- what a request asks for has been judged, whatever the version and the JSON value that it is read from
abbrev pub RequestsAreJudged : Type 0
RequestsAreJudged = (version : Version) (tables : Tables) (value : Result Data DocFault) (request : Request) → request_of version tables value ≡ Ok request → IsJudged tables request.command
