-- What a version reads without a fault, the newest version reads as the same.
use Rattle.std.specs.Prelude.{◌≡◌, ℕ, Result, Ok}
use Rattle.serde_json.specs.Data.{Data}
use Rattle.tt_values.specs.Tables.{Tables}
use Rattle.tt_grammar.specs.declared.fault.DocFault.{DocFault}
use Rattle.tt_grammar.specs.declared.statements.Context.{Context}
use Rattle.tt_grammar.specs.declared.version.Version.{Version}
use Rattle.tt_grammar.specs.Statements.{conditions}
use Rattle.tt_grammar.specs.Actions.{write, action}
use Rattle.tt_grammar.specs.Edits.{replacement}
use Rattle.tt_grammar.specs.Version.{newest_version}

-- what has no fault here is the same there
abbrev pub ReadsTheSame : {T : Type 0} → Result T DocFault → Result T DocFault → Type 0
ReadsTheSame older newer = (t : _) → older ≡ Ok t → newer ≡ Ok t

-- the conditions on a table, a write, an action, and an action that replaces another: what has no fault in a version is read the same
-- in the newest one
abbrev pub NewestVersionReadsTheSame : Type 0
NewestVersionReadsTheSame = (version : Version) (tables : Tables) (table : ℕ) (context : Context) (v : Data) →
    ReadsTheSame (conditions version tables table v) (conditions newest_version tables table v)
    × ReadsTheSame (write version tables context v) (write newest_version tables context v)
    × ReadsTheSame (action version tables context v) (action newest_version tables context v)
    × ReadsTheSame (replacement version tables v) (replacement newest_version tables v)
