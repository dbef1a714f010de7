-- Statements: each member of the object in order, then an unknown member, then the check of the statement as a whole.
use Rattle.std.specs.Prelude.{ℕ, List, [], ◌∷◌, ◌++◌, Option, Result, Ok, codes, ⊤}
use Rattle.serde_json.specs.Data.{Data}
use Rattle.tt_values.specs.declared.statement.Equal.{Equal}
use Rattle.tt_values.specs.declared.statement.Write.{Write}
use Rattle.tt_values.specs.declared.statement.Write.TheVariants.{Insert, Update, Delete}
use Rattle.tt_values.specs.declared.checking.CheckError.{CheckError}
use Rattle.tt_values.specs.Tables.{Tables}
use Rattle.tt_values.specs.Check.{write_fault}
use Rattle.tt_grammar.specs.declared.fault.DocFault.{DocFault}
use Rattle.tt_grammar.specs.declared.statements.Context.{Context}
use Rattle.tt_grammar.specs.declared.statements.Context.TheVariants as contexts
use Rattle.tt_grammar.specs.declared.version.Version.{Version}
use Rattle.tt_grammar.specs.Fault.{◌>>=◌}
use Rattle.tt_grammar.specs.Decoder.{count, member, optional}
use Rattle.tt_grammar.specs.Arrays.{array_of}
use Rattle.tt_grammar.specs.Members.{is_one_of, no_members_but}
use Rattle.tt_grammar.specs.Causes.{judge, cause_of_check}
use Rattle.tt_grammar.specs.Conditions.{value, table_named, condition}
use Rattle.tt_grammar.specs.Changes.{change}

-- a statement that can be carried out, or why it can't
abbrev pub checked_statement : {S : Type 0} → S → Option CheckError → Result S DocFault
checked_statement statement fault = do
  _ ← judge cause_of_check fault
  Ok statement

-- the conditions of a statement on a table
abbrev pub conditions : Version → Tables → ℕ → Data → Result (List Equal) DocFault
conditions version tables table v = member (codes "where") (array_of (condition version tables table)) v

-- the stamp of a request that writes, which may be left out
abbrev pub stamp : Data → Result (Option ℕ) DocFault
stamp v = optional (codes "stamp") count v

-- an object of a write has only members of these names, and in a call its worker, and in a request its worker and the time that it expects, and in one that writes its stamp, too, which is judged before an unknown member
abbrev pub no_members_at : Context → List (List ℕ) → Data → Result ⊤ DocFault
no_members_at contexts.Call names v = no_members_but (is_one_of (codes "worker" ∷ names)) v
no_members_at contexts.Request names v = no_members_but (is_one_of (codes "if" ∷ codes "worker" ∷ names)) v
no_members_at contexts.WriteRequest names v = do
  _ ← stamp v
  no_members_but (is_one_of (codes "if" ∷ codes "worker" ∷ codes "stamp" ∷ names)) v
no_members_at contexts.Nested names v = no_members_but (is_one_of names) v

-- the members that an object of a write may have beside those of the write and its stamp
abbrev pub members_at : Context → List (List ℕ)
members_at contexts.Call = codes "worker" ∷ []
members_at contexts.Request = codes "if" ∷ codes "worker" ∷ []
members_at contexts.WriteRequest = codes "if" ∷ codes "worker" ∷ []
members_at contexts.Nested = []

-- an object of a write has only members of these names and of its context, but for a stamp
abbrev pub no_members_but_at : Context → List (List ℕ) → Data → Result ⊤ DocFault
no_members_but_at context names v = no_members_but (is_one_of (members_at context ++ names)) v

-- where the commands of a session stand
abbrev pub in_request : Context
in_request = contexts.Request

-- an insert: the table, and the values of its row
unfoldable pub insert : Tables → Context → Data → Result Write DocFault
insert tables context v = do
  table ← member (codes "insert") (table_named tables) v
  values ← member (codes "row") (array_of value) v
  _ ← no_members_at context (codes "insert" ∷ codes "row" ∷ []) v
  let statement : Write = Insert table (record { values = values })
  checked_statement statement (write_fault tables statement)

-- an update: the table, the changes, and the conditions
unfoldable pub update : Version → Tables → Context → Data → Result Write DocFault
update version tables context v = do
  table ← member (codes "update") (table_named tables) v
  changes ← member (codes "change") (array_of (change tables table)) v
  equals ← conditions version tables table v
  _ ← no_members_at context (codes "change" ∷ codes "update" ∷ codes "where" ∷ []) v
  let statement : Write = Update table changes equals
  checked_statement statement (write_fault tables statement)

-- a delete: the table, and the conditions
unfoldable pub delete : Version → Tables → Context → Data → Result Write DocFault
delete version tables context v = do
  table ← member (codes "delete") (table_named tables) v
  equals ← conditions version tables table v
  _ ← no_members_at context (codes "delete" ∷ codes "where" ∷ []) v
  let statement : Write = Delete table equals
  checked_statement statement (write_fault tables statement)
