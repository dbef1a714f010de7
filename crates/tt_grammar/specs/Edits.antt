-- The edits of a repair: how many there may be, and the actions that replace others.
use Rattle.std.specs.Prelude.{ℕ, List, Option, Some, None, if◌then◌else◌, Result, Ok, codes}
use Rattle.serde_json.specs.Data.{Data}
use Rattle.tt_values.specs.declared.statement.Write.{Write}
use Rattle.tt_values.specs.declared.action.Action.{Action}
use Rattle.tt_values.specs.Tables.{Tables}
use Rattle.tt_grammar.specs.declared.fault.DocFault.{DocFault}
use Rattle.tt_grammar.specs.declared.statements.Context.TheVariants as contexts
use Rattle.tt_grammar.specs.declared.version.Version.{Version}
use Rattle.tt_grammar.specs.declared.version.Version.TheVariants as versions
use Rattle.tt_grammar.specs.Fault.{◌>>=◌, refuse}
use Rattle.tt_grammar.specs.Decoder.{object}
use Rattle.tt_grammar.specs.Actions.{has_action, write, action_of_one, action}

-- the largest number of edits
abbrev pub max_edits : ℕ
max_edits = 10000

-- why a replacement is refused that has none of the kinds of its version
abbrev pub no_kind_of_write : Version → List ℕ
no_kind_of_write versions.One = codes "missing one of insert, update, delete"
no_kind_of_write versions.Two = codes "missing one of insert, update, delete, do"
no_kind_of_write versions.Three = codes "missing one of insert, update, delete, do"

-- the action that replaces another: its write, if it has one, as an action of one; or else its action
abbrev pub replacement_by : Version → Tables → Data → Option Write → Result Action DocFault
replacement_by version tables v (Some write) = Ok (action_of_one write)
replacement_by version tables v None = if has_action version v then action version tables contexts.Nested v else refuse (no_kind_of_write version)

-- the action that replaces another, by the first of the kinds that its object has: insert, update, delete, and from version 2 on do
unfoldable pub replacement : Version → Tables → Data → Result Action DocFault
replacement version tables v = do
  _ ← object v
  write ← write version tables contexts.Nested v
  replacement_by version tables v write
