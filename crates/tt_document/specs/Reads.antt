-- The selects and previews of a document: each member of the object in order, then an unknown member, then the check of the statement as a whole.
use Rattle.std.specs.Prelude.{[], ◌∷◌, Result, Ok, codes}
use Rattle.serde_json.specs.Data.{Data}
use Rattle.tt_values.specs.declared.statement.Select.{Select}
use Rattle.tt_values.specs.Tables.{Tables}
use Rattle.tt_values.specs.Check.{select_fault}
use Rattle.tt_grammar.specs.declared.fault.DocFault.{DocFault}
use Rattle.tt_grammar.specs.declared.version.Version.{Version}
use Rattle.tt_grammar.specs.Fault.{◌>>=◌}
use Rattle.tt_grammar.specs.Decoder.{count, member, optional}
use Rattle.tt_grammar.specs.Members.{is_one_of, no_members_but}
use Rattle.tt_grammar.specs.Conditions.{table_named}
use Rattle.tt_grammar.specs.Statements.{checked_statement, conditions}
use Rattle.tt_document.specs.declared.document.Ask.{Ask}
use Rattle.tt_document.specs.declared.document.Ask.TheVariants as asks

-- a select: the table, the conditions, and the time, which is left out where the rows are wanted as they are now
unfoldable pub select : Version → Tables → Data → Result Ask DocFault
select version tables v = do
  table ← member (codes "select") (table_named tables) v
  equals ← conditions version tables table v
  at ← optional (codes "at") count v
  _ ← no_members_but (is_one_of (codes "at" ∷ codes "select" ∷ codes "where" ∷ codes "worker" ∷ [])) v
  let statement : Select = record { table = table; equals = equals }
  select ← checked_statement statement (select_fault tables statement)
  Ok (asks.Read select at)

-- a select of the next generation: the table, and the conditions
unfoldable pub preview : Version → Tables → Data → Result Ask DocFault
preview version tables v = do
  table ← member (codes "preview") (table_named tables) v
  equals ← conditions version tables table v
  _ ← no_members_but (is_one_of (codes "preview" ∷ codes "where" ∷ codes "worker" ∷ [])) v
  let statement : Select = record { table = table; equals = equals }
  select ← checked_statement statement (select_fault tables statement)
  Ok (asks.Preview select)
