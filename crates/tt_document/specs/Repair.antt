-- The repair of a document: edits of its calls, and the calls that are made meanwhile.
use Rattle.std.specs.Prelude.{ℕ, ◌-◌, ◌==◌, Bool, true, false, not, if◌then◌else◌, List, [], ◌∷◌, ◌++◌, length, slice_get, Option, Some, None, Result, Ok, codes, ⊤}
use Rattle.std.specs.List.{list_any}
use Rattle.std.specs.Option.{unwrap_or}
use Rattle.serde_json.specs.Data.{Data}
use Rattle.tt_values.specs.Tables.{Tables}
use Rattle.tt_repair_laws.specs.declared.edit.Edit.{Edit}
use Rattle.tt_repair_laws.specs.declared.edit.Edit.TheVariants.{Cancel, Replace}
use Rattle.tt_repair_laws.specs.Edits.{slot_number}
use Rattle.tt_grammar.specs.declared.fault.DocFault.{DocFault}
use Rattle.tt_grammar.specs.declared.version.Version.{Version}
use Rattle.tt_grammar.specs.Fault.{◌>>=◌, refuse}
use Rattle.tt_grammar.specs.Decoder.{object, array, within_limit, count_within, has, member, optional}
use Rattle.tt_grammar.specs.Arrays.{fold_items}
use Rattle.tt_grammar.specs.Members.{is_one_of, no_members_but}
use Rattle.tt_grammar.specs.Edits.{max_edits, replacement}
use Rattle.tt_document.specs.declared.document.Call.{Call}
use Rattle.tt_document.specs.declared.document.Ask.{Ask}
use Rattle.tt_document.specs.declared.document.Ask.TheVariants as asks
use Rattle.tt_document.specs.declared.document.Plan.{Plan}
use Rattle.tt_document.specs.Calls.{calls}

-- an edit that cancels a call, whose number is at most the number of calls
unfoldable pub cancel : ℕ → Data → Result Edit DocFault
cancel calls v = do
  number ← member (codes "cancel") (count_within 1 calls) v
  _ ← no_members_but (is_one_of (codes "cancel" ∷ [])) v
  Ok (Cancel number)

-- an edit that replaces the action of a call, by its number
unfoldable pub replace : Version → Tables → ℕ → Data → Result Edit DocFault
replace version tables calls v = do
  number ← member (codes "replace") (count_within 1 calls) v
  action ← member (codes "by") (replacement version tables) v
  _ ← no_members_but (is_one_of (codes "by" ∷ codes "replace" ∷ [])) v
  Ok (Replace number action)

-- an edit, by the first of its kinds that it has
abbrev pub edit_by_kind : Version → Tables → ℕ → Data → Result Edit DocFault
edit_by_kind version tables calls v =
    if has (codes "cancel") v then cancel calls v else (
    if has (codes "replace") v then replace version tables calls v else
    refuse (codes "missing one of cancel, replace"))

-- whether a call asks for an action
abbrev pub is_action : Ask → Bool
is_action (asks.Write action) = true
is_action (asks.Read select at) = false
is_action (asks.Preview select) = false

abbrev pub is_action_of : Option Call → Bool
is_action_of None = false
is_action_of (Some call) = is_action call.ask

-- whether the call of a number, counted from 1, asks for an action
abbrev pub is_action_call : List Call → ℕ → Bool
is_action_call calls number = is_action_of (slice_get calls (number - 1))

-- an edit is for a call that asks for an action, and that no earlier edit is for
abbrev pub judge_edit : List Call → List Edit → Edit → Result ⊤ DocFault
judge_edit calls earlier edit =
    if not (is_action_call calls (slot_number edit)) then refuse (codes "not a write") else (
    if list_any (λ d. slot_number edit == slot_number d) earlier then refuse (codes "edited twice") else Ok tt)

-- the edits so far, with one more
unfoldable pub with_edit : Version → Tables → List Call → List Edit → Data → Result (List Edit) DocFault
with_edit version tables calls earlier v = do
  _ ← object v
  edit ← edit_by_kind version tables (length calls) v
  _ ← judge_edit calls earlier edit
  Ok (earlier ++ edit ∷ [])

-- the edits, or the fault that there are too many
abbrev pub edits : Version → Tables → List Call → Data → Result (List Edit) DocFault
edits version tables calls v = do
  ds ← array v
  _ ← within_limit max_edits ds
  fold_items (with_edit version tables calls) 0 [] ds

-- the repair: its edits, and the calls that are made meanwhile, which may be left out
unfoldable pub repair : Version → Tables → ℕ → List Call → Data → Result Plan DocFault
repair version tables workers cs v = do
  _ ← object v
  edits ← member (codes "edits") (edits version tables cs) v
  meanwhile ← optional (codes "meanwhile") (calls version tables workers) v
  _ ← no_members_but (is_one_of (codes "edits" ∷ codes "meanwhile" ∷ [])) v
  Ok (record { edits = edits; meanwhile = unwrap_or meanwhile [] })
