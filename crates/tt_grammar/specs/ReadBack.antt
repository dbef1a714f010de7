-- What is printed is read as the same: a write among the writes of an action and as a replacement, an action, and tables.
use Rattle.std.specs.Prelude.{◌≡◌, ℕ, FitsSigned, List, ◌++◌, map, All, None, Result, Ok, IsUtf8}
use Rattle.std.specs.Int.{w64}
use Rattle.serde_json.specs.Data.{Data}
use Rattle.tt_values.specs.declared.value.Value.{Value}
use Rattle.tt_values.specs.declared.value.Value.TheVariants as values
use Rattle.tt_values.specs.declared.statement.Change.{Change}
use Rattle.tt_values.specs.declared.statement.Change.TheVariants.{Set, Add}
use Rattle.tt_values.specs.declared.statement.Equal.{Equal}
use Rattle.tt_values.specs.declared.statement.Write.{Write}
use Rattle.tt_values.specs.declared.statement.Write.TheVariants.{Insert, Update, Delete}
use Rattle.tt_values.specs.declared.action.Action.{Action}
use Rattle.tt_values.specs.Tables.{Tables, IsCatalog}
use Rattle.tt_values.specs.Check.{write_fault, action_fault}
use Rattle.tt_grammar.specs.declared.fault.DocFault.{DocFault}
use Rattle.tt_grammar.specs.Fault.{◌>>=◌}
use Rattle.tt_grammar.specs.TextValue.{json_of_bytes, value_of_found}
use Rattle.tt_grammar.specs.Actions.{item_of_action, action_of_one, writes}
use Rattle.tt_grammar.specs.Edits.{replacement}
use Rattle.tt_grammar.specs.Tables.{catalog}
use Rattle.tt_grammar.specs.Version.{newest_version}
use Rattle.tt_grammar.specs.JsonText.{object_text}
use Rattle.tt_grammar.specs.WriteText.{write_text, writes_text, action_members, tables_text}

-- an Int that fits 64 bits, or a text in UTF-8, as each value of the program is
abbrev pub IsStorable : Value → Type 0
IsStorable (values.Int n) = FitsSigned w64 n
IsStorable (values.Text t) = IsUtf8 t

-- the value that a change sets or adds
abbrev pub value_of_change : Change → Value
value_of_change (Set column value) = value
value_of_change (Add column by) = values.Int by

-- the values of conditions
abbrev pub values_of_equals : List Equal → List Value
values_of_equals equals = map (λ q. q.value) equals

-- all values of a write
abbrev pub values_of_write : Write → List Value
values_of_write (Insert table row) = row.values
values_of_write (Update table changes equals) = map value_of_change changes ++ values_of_equals equals
values_of_write (Delete table equals) = values_of_equals equals

-- a change, a condition, a write and an action of which each value is storable
abbrev pub IsStorableChange : Change → Type 0
IsStorableChange change = IsStorable (value_of_change change)

abbrev pub IsStorableEqual : Equal → Type 0
IsStorableEqual equal = IsStorable equal.value

abbrev pub IsStorableWrite : Write → Type 0
IsStorableWrite w = All IsStorable (values_of_write w)

abbrev pub IsStorableAction : Action → Type 0
IsStorableAction action = All IsStorableWrite action.writes

-- what a decoder reads from some bytes, as from a document or a line: a fault where they aren't JSON or name a member twice
abbrev pub read_with : {T : Type 0} → (Data → Result T DocFault) → List ℕ → Result T DocFault
read_with decode bytes = value_of_found (json_of_bytes bytes) >>= decode

-- a write that can be carried out is printed as JSON that the newest version reads as the same write in an action, and as the action
-- of this write where another action is to be replaced
abbrev pub WritesAreReadBack : Type 0
WritesAreReadBack = (tables : Tables) (w : Write) → IsCatalog tables → write_fault tables w ≡ None → IsStorableWrite w →
    (read_with (item_of_action newest_version tables) (write_text tables w) ≡ Ok w)
    × (read_with (replacement newest_version tables) (write_text tables w) ≡ Ok (action_of_one w))

-- an action that can be carried out is printed as JSON that the newest version reads as the same: its writes as the same writes, and
-- the object of its members as the same action, where another action is to be replaced
abbrev pub ActionsAreReadBack : Type 0
ActionsAreReadBack = (tables : Tables) (action : Action) → IsCatalog tables → action_fault tables action.writes ≡ None → IsStorableAction action →
    (read_with (writes newest_version tables) (writes_text tables action.writes) ≡ Ok action.writes)
    × (read_with (replacement newest_version tables) (object_text (action_members tables action)) ≡ Ok action)

-- a catalog is printed as JSON that is read as the same tables
abbrev pub TablesAreReadBack : Type 0
TablesAreReadBack = (tables : Tables) → IsCatalog tables → read_with catalog (tables_text tables) ≡ Ok tables
