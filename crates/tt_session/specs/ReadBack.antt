-- What a session prints can be put into the lines that it reads: writes and actions, in place of the action of a slot; and tables, in
-- an opening.
use Rattle.std.specs.Prelude.{◌≡◌, ℕ, ◌^◌, ◌<◌, ◌≤◌, List, [], ◌∷◌, All, None, Ok, codes}
use Rattle.tt_values.specs.declared.statement.Write.{Write}
use Rattle.tt_values.specs.declared.action.Action.{Action}
use Rattle.tt_values.specs.Action.{action_of}
use Rattle.tt_values.specs.Tables.{Tables, IsCatalog}
use Rattle.tt_values.specs.Check.{write_fault, action_fault}
use Rattle.tt_repair_laws.specs.declared.edit.Edit.TheVariants.{Replace}
use Rattle.tt_requests.specs.declared.request.Command.TheVariants as commands
use Rattle.tt_requests.specs.LineValue.{value_of_line}
use Rattle.tt_requests.specs.Opening.{max_keep, max_records, opening_of}
use Rattle.tt_requests.specs.Requests.{usual_worker, request_of}
use Rattle.tt_grammar.specs.JsonText.{array_text, number_member, object_text}
use Rattle.tt_grammar.specs.WriteText.{write_text, action_members}
use Rattle.tt_answers.specs.AnswerText.{declared_members}
use Rattle.tt_grammar.specs.Version.{newest_version}
use Rattle.tt_grammar.specs.ReadBack.{IsStorable, values_of_write}

-- an edit that replaces the action of a slot by what a text spells
abbrev pub replacing_text : ℕ → List ℕ → List ℕ
replacing_text slot text = object_text (number_member (codes "replace") slot ∷ (codes "by", text) ∷ [])

-- a line that begins a repair with this edit alone
abbrev pub replacing_line : ℕ → List ℕ → List ℕ
replacing_line slot text = object_text ((codes "begin", array_text (replacing_text slot text ∷ [])) ∷ [])

-- a text, put under `by`, replaces the action of any slot by this action
abbrev pub Replaces : Tables → List ℕ → Action → Type 0
Replaces tables text action = (slot : ℕ) → slot < 2 ^ 64 →
    request_of newest_version tables (value_of_line (replacing_line slot text)) ≡ Ok (record { worker = usual_worker; expected = None; command = commands.Begin (record { edits = Replace slot action ∷ [] }) })

-- a write that can be carried out, as it is printed, replaces an action by this write
abbrev pub PrintedWritesReplace : Type 0
PrintedWritesReplace = (tables : Tables) (w : Write) → IsCatalog tables → write_fault tables w ≡ None → All IsStorable (values_of_write w) → Replaces tables (write_text tables w) (action_of (w ∷ []))

-- an action that can be carried out, with the members that it is printed as, replaces an action by the same action
abbrev pub PrintedActionsReplace : Type 0
PrintedActionsReplace = (tables : Tables) (action : Action) → IsCatalog tables → action_fault tables action.writes ≡ None → All (λ w. All IsStorable (values_of_write w)) action.writes →
    Replaces tables (object_text (action_members tables action)) action

-- a line with the members that a question about the tables is answered by
abbrev pub opening_line : Tables → ℕ → ℕ → List ℕ
opening_line tables keep records = object_text (declared_members tables keep records)

-- the members that tell the tables and how much is kept, as they are printed, open a session with the same
abbrev pub PrintedTablesOpen : Type 0
PrintedTablesOpen = (tables : Tables) (keep records : ℕ) → IsCatalog tables → keep ≤ max_keep → records ≤ max_records →
    opening_of (value_of_line (opening_line tables keep records)) ≡ Ok (record { catalog = tables; keep = keep; records = records })
