-- The changes of an update.
use Rattle.std.specs.Prelude.{ℕ, List, [], ◌∷◌, Option, Some, None, if◌then◌else◌, Result, Ok, codes}
use Rattle.std.specs.Str.{bytes_eq}
use Rattle.serde_json.specs.Data.{Data}
use Rattle.tt_values.specs.declared.statement.Change.{Change}
use Rattle.tt_values.specs.declared.statement.Change.TheVariants as changes
use Rattle.tt_values.specs.Tables.{Tables}
use Rattle.tt_grammar.specs.declared.changes.Verb.{Verb}
use Rattle.tt_grammar.specs.declared.changes.Verb.TheVariants as verbs
use Rattle.tt_grammar.specs.declared.fault.DocFault.{DocFault}
use Rattle.tt_grammar.specs.Fault.{◌>>=◌, or_refuse, with_path, item_path}
use Rattle.tt_grammar.specs.Decoder.{or_wrong_type, int, text, array}
use Rattle.tt_grammar.specs.Conditions.{value, column_named}

-- the items of an array of three
abbrev pub three : List Data → Option (Data × Data × Data)
three [] = None
three (d ∷ []) = None
three (d ∷ e ∷ []) = None
three (d ∷ e ∷ f ∷ []) = Some (d, e, f)
three (d ∷ e ∷ f ∷ g ∷ ds) = None

-- an array of three items
abbrev pub triple : Data → Result (Data × Data × Data) DocFault
triple v = do
  ds ← array v
  or_wrong_type (three ds)

-- what a change does, by the text that names it
abbrev pub verb_named : List ℕ → Option Verb
verb_named name = if bytes_eq name (codes "set") then Some verbs.Set else (if bytes_eq name (codes "add") then Some verbs.Add else None)

-- what a change does
abbrev pub verb : Data → Result Verb DocFault
verb v = do
  name ← text v
  or_refuse (codes "out of range") (verb_named name)

-- a change of a column: the value that it's set to, or the Int that's added to it
abbrev pub change_of : Verb → ℕ → Data → Result Change DocFault
change_of verbs.Set column v = do
  value ← value v
  Ok (changes.Set column value)
change_of verbs.Add column v = do
  by ← int v
  Ok (changes.Add column by)

-- a change of a table: what it does, its column, and its operand
unfoldable pub change : Tables → ℕ → Data → Result Change DocFault
change tables table v = do
  items ← triple v
  verb ← with_path (item_path 0) (verb items.0)
  column ← with_path (item_path 1) (column_named tables table items.1)
  with_path (item_path 2) (change_of verb column items.2)
