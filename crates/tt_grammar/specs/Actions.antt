-- Actions: writes in order, each an insert, an update or a delete, and whether they are carried out wholly or not at all.
use Rattle.std.specs.Prelude.{ℕ, Bool, false, List, [], ◌∷◌, Option, Some, None, unwrap_or, if◌then◌else◌, Result, Ok, codes}
use Rattle.serde_json.specs.Data.{Data}
use Rattle.tt_values.specs.declared.statement.Write.{Write}
use Rattle.tt_values.specs.declared.action.Action.{Action}
use Rattle.tt_values.specs.Limits.{max_writes}
use Rattle.tt_values.specs.Tables.{Tables}
use Rattle.tt_grammar.specs.declared.fault.DocFault.{DocFault}
use Rattle.tt_grammar.specs.declared.statements.Context.{Context}
use Rattle.tt_grammar.specs.declared.statements.Context.TheVariants as contexts
use Rattle.tt_grammar.specs.Fault.{◌>>=◌, or_refuse}
use Rattle.tt_grammar.specs.Decoder.{object, flag, array, within_limit, has, member, optional}
use Rattle.tt_grammar.specs.Arrays.{each}
use Rattle.tt_grammar.specs.declared.version.Version.{Version}
use Rattle.tt_grammar.specs.declared.version.Version.TheVariants as versions
use Rattle.tt_grammar.specs.Statements.{no_members_at, insert, update, delete}

-- the write of an object, by the first of the members insert, update and delete that it has; or None, where it has none of them
unfoldable pub write : Version → Tables → Context → Data → Result (Option Write) DocFault
write version tables context v =
    if has (codes "insert") v then (insert tables context v >>= λ write. Ok (Some write)) else (
    if has (codes "update") v then (update version tables context v >>= λ write. Ok (Some write)) else (
    if has (codes "delete") v then (delete version tables context v >>= λ write. Ok (Some write)) else
    Ok None))

-- an item of an action: a write without a worker
unfoldable pub item_of_action : Version → Tables → Data → Result Write DocFault
item_of_action version tables v = do
  _ ← object v
  write ← write version tables contexts.Nested v
  or_refuse (codes "missing one of insert, update, delete") write

-- the writes of an action, or the fault that there are too many
abbrev pub writes : Version → Tables → Data → Result (List Write) DocFault
writes version tables v = do
  ds ← array v
  _ ← within_limit max_writes ds
  each (item_of_action version tables) 0 ds

-- an action of one write, which isn't whole
abbrev pub action_of_one : Write → Action
action_of_one write = record { writes = write ∷ []; whole = false }

-- whether an action is whole: the member whole of its object, true or false, and false where it is missing. Versions 1 and 2 don't know it
abbrev pub is_whole : Version → Data → Result Bool DocFault
is_whole versions.One v = Ok false
is_whole versions.Two v = Ok false
is_whole versions.Three v = do
  whole ← optional (codes "whole") flag v
  Ok (unwrap_or whole false)

-- the members of an action
abbrev pub members_of_action : Version → List (List ℕ)
members_of_action versions.One = codes "do" ∷ []
members_of_action versions.Two = codes "do" ∷ []
members_of_action versions.Three = codes "do" ∷ codes "whole" ∷ []

-- the action of an object: the writes of its member do, and whether it is whole
unfoldable pub action : Version → Tables → Context → Data → Result Action DocFault
action version tables context v = do
  writes ← member (codes "do") (writes version tables) v
  whole ← is_whole version v
  _ ← no_members_at context (members_of_action version) v
  Ok (record { writes = writes; whole = whole })

-- whether an object has the kind do, which version 1 doesn't know
abbrev pub has_action : Version → Data → Bool
has_action versions.One v = false
has_action versions.Two v = has (codes "do") v
has_action versions.Three v = has (codes "do") v
