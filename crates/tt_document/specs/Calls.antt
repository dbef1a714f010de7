-- The calls of a document.
use Rattle.std.specs.Prelude.{ℕ, if◌then◌else◌, List, Option, Some, None, Result, Ok, codes}
use Rattle.serde_json.specs.Data.{Data}
use Rattle.tt_values.specs.declared.statement.Write.{Write}
use Rattle.tt_values.specs.Tables.{Tables}
use Rattle.tt_grammar.specs.declared.fault.DocFault.{DocFault}
use Rattle.tt_grammar.specs.declared.statements.Context.TheVariants as contexts
use Rattle.tt_grammar.specs.declared.version.Version.{Version}
use Rattle.tt_grammar.specs.declared.version.Version.TheVariants as versions
use Rattle.tt_grammar.specs.Fault.{◌>>=◌, refuse}
use Rattle.tt_grammar.specs.Decoder.{object, array, within_limit, count_within, has, member}
use Rattle.tt_grammar.specs.Arrays.{each}
use Rattle.tt_grammar.specs.Actions.{has_action, write, action_of_one, action}
use Rattle.tt_document.specs.declared.document.Call.{Call}
use Rattle.tt_document.specs.declared.document.Ask.{Ask}
use Rattle.tt_document.specs.declared.document.Ask.TheVariants as asks
use Rattle.tt_document.specs.Reads.{select, preview}

-- the largest number of calls
abbrev pub max_calls : ℕ
max_calls = 100000

-- why a call is refused that has none of the kinds of its version
abbrev pub no_kind : Version → List ℕ
no_kind versions.One = codes "missing one of insert, update, delete, select, preview"
no_kind versions.Two = codes "missing one of insert, update, delete, select, preview, do"
no_kind versions.Three = codes "missing one of insert, update, delete, select, preview, do"

-- what a call asks for: its write, if it has one, as an action of one; or else its select; or else its preview; or else its action
abbrev pub ask_by : Version → Tables → Data → Option Write → Result Ask DocFault
ask_by version tables v (Some write) = Ok (asks.Write (action_of_one write))
ask_by version tables v None =
    if has (codes "select") v then select version tables v else (
    if has (codes "preview") v then preview version tables v else (
    if has_action version v then (action version tables contexts.Call v >>= λ action. Ok (asks.Write action)) else
    refuse (no_kind version)))

-- what a call asks for, by the first of the kinds that it has: insert, update, delete, select, preview, and from version 2 on do
unfoldable pub ask : Version → Tables → Data → Result Ask DocFault
ask version tables v = do
  write ← write version tables contexts.Call v
  ask_by version tables v write

-- a call: its worker, and what it asks for
unfoldable pub call : Version → Tables → ℕ → Data → Result Call DocFault
call version tables workers v = do
  _ ← object v
  worker ← member (codes "worker") (count_within 1 workers) v
  ask ← ask version tables v
  Ok (record { worker = worker; ask = ask })

-- the calls, or the fault that there are too many
abbrev pub calls : Version → Tables → ℕ → Data → Result (List Call) DocFault
calls version tables workers v = do
  ds ← array v
  _ ← within_limit max_calls ds
  each (call version tables workers) 0 ds
