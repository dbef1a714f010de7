-- What is printed into a log that is made anew is read from it as the same; and its opening is none for an input.
use Rattle.std.specs.Prelude.{◌≡◌, ℕ, ◌^◌, ◌<◌, ◌≤◌, false, List, All, Option, None, IfSome, Result, Ok, IsErr}
use Rattle.tt_requests.specs.Numbers.{Numbering, IsNumbering}
use Rattle.tt_values.specs.declared.action.Action.{Action}
use Rattle.tt_values.specs.Tables.{Tables, IsCatalog}
use Rattle.tt_values.specs.Check.{action_fault}
use Rattle.serde_json.specs.Data.{Data}
use Rattle.tt_grammar.specs.declared.fault.DocFault.{DocFault}
use Rattle.tt_grammar.specs.Version.{newest_version}
use Rattle.tt_grammar.specs.ReadBack.{IsStorable, values_of_write}
use Rattle.tt_requests.specs.declared.request.Command.TheVariants as commands
use Rattle.tt_requests.specs.declared.opening.Opening.{Opening}
use Rattle.tt_requests.specs.declared.log_opening.LogOpening.{LogOpening}
use Rattle.tt_requests.specs.Lines.{is_too_long, is_passed_over}
use Rattle.tt_requests.specs.LineValue.{value_of_line}
use Rattle.tt_requests.specs.Opening.{max_keep, max_records, opening_of}
use Rattle.tt_requests.specs.LogOpening.{max_ground_slots, log_opening_of}
use Rattle.tt_requests.specs.GroundAction.{ground_action_of}
use Rattle.tt_requests.specs.Requests.{request_of}
use Rattle.tt_answers.specs.LogText.{log_opening_line, ground_line, slot_line}

-- a line isn't passed over, and not too long
pub record IsTakenUp (line : List ℕ) : Type 0 where
  pub not_passed_over : is_passed_over line ≡ false
  pub not_too_long : is_too_long line ≡ false

-- a line opens this log, and no session
pub record OpensLog (line : List ℕ) (log : LogOpening) : Type 0 where
  pub read : log_opening_of (value_of_line line) ≡ Ok log
  pub no_opening : IsErr (opening_of (value_of_line line))
  pub taken_up : IsTakenUp line

-- the first line of a log is read as the tables, how much is kept, and the ground that it was printed from
abbrev pub PrintedLogOpens : Type 0
PrintedLogOpens = (tables : Tables) (keep records : ℕ) (numbering : Numbering) → IsCatalog tables → keep ≤ max_keep → records ≤ max_records → IsNumbering numbering
    → numbering.ground_slots ≤ max_ground_slots
    → OpensLog (log_opening_line tables keep records numbering) (record { opening = record { catalog = tables; keep = keep; records = records }; numbering = numbering })

-- an action of the ground, which isn't whole, is read as the same where it can be carried out
abbrev pub PrintedGroundIsRead : Type 0
PrintedGroundIsRead = (tables : Tables) (action : Action) → IsCatalog tables → action.whole ≡ false → action_fault tables action.writes ≡ None → All (λ w. All IsStorable (values_of_write w)) action.writes →
    (ground_action_of tables (value_of_line (ground_line tables action)) ≡ Ok action) × IsTakenUp (ground_line tables action)

-- an action of a further slot that can be carried out is read, as of the newest version, as a request of the same worker with the same stamp
abbrev pub PrintedSlotsAreRead : Type 0
PrintedSlotsAreRead = (tables : Tables) (worker : ℕ) (action : Action) (stamp : Option ℕ) → IsCatalog tables → 1 ≤ worker → worker < 2 ^ 32
    → action_fault tables action.writes ≡ None → All (λ w. All IsStorable (values_of_write w)) action.writes → IfSome stamp (λ s. s < 2 ^ 64) →
    (request_of newest_version tables (value_of_line (slot_line tables worker action stamp)) ≡ Ok (record { worker = worker; expected = None; command = commands.Write action stamp }))
    × IsTakenUp (slot_line tables worker action stamp)

-- what opens a session opens no log
abbrev pub OpeningsHaveNoGround : Type 0
OpeningsHaveNoGround = (value : Result Data DocFault) (opening : Opening) → opening_of value ≡ Ok opening → IsErr (log_opening_of value)
