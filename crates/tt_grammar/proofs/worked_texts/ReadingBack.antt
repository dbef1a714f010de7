-- Writes and tables that are printed, and read back as the same.
use Rattle.std.specs.Prelude.{◌≡◌, pos, negsuc, [], ◌∷◌, Option, Some, option_map, Result, Ok, codes, refl}
use Rattle.std.specs.Fmt.{digits}
use Rattle.serde_json.specs.Read.{read}
use Rattle.serde_json.proofs.OnLiterals.{serde_json_on_literals}
use Rattle.tt_values.specs.declared.value.Value.TheVariants as values
use Rattle.tt_values.specs.declared.comparison.Comparison.TheVariants.{Is, AtLeast}
use Rattle.tt_values.specs.declared.statement.Change.TheVariants as changes
use Rattle.tt_values.specs.declared.statement.Write.{Write}
use Rattle.tt_values.specs.declared.statement.Write.TheVariants as writes
use Rattle.tt_grammar.specs.declared.fault.DocFault.{DocFault}
use Rattle.tt_grammar.specs.Tables.{column, table_after, catalog}
use Rattle.tt_grammar.specs.Changes.{change}
use Rattle.tt_grammar.specs.Conditions.{condition}
use Rattle.tt_grammar.specs.Statements.{insert, update, delete}
use Rattle.tt_grammar.specs.Actions.{write, item_of_action}
use Rattle.tt_grammar.specs.Version.{newest_version}
use Rattle.tt_grammar.specs.WriteText.{write_text, tables_text}
use Rattle.tt_grammar.proofs.worked_texts.Accounts.{accounts, account}

-- the write that the text of a write is read as, if it is JSON
abbrev read_back : Write → Option (Result Write DocFault)
read_back w = option_map (item_of_action newest_version accounts) (read (write_text accounts w))

abbrev an_insert : Write
an_insert = writes.Insert 0 (account (negsuc 4) (codes "a\"b\\\n") (pos 9223372036854775807))

inserted : read_back an_insert ≡ Some (Ok an_insert)
unfolding digits serde_json_on_literals insert write item_of_action
inserted = refl

abbrev an_update : Write
an_update =
    writes.Update 0 (changes.Set 1 (values.Text (codes "eve")) ∷ changes.Add 2 (negsuc 0) ∷ []) (record { column = 0; how = Is; value = values.Int (pos 1) } ∷ [])

updated : read_back an_update ≡ Some (Ok an_update)
unfolding digits serde_json_on_literals change condition update write item_of_action
updated = refl

abbrev a_delete : Write
a_delete = writes.Delete 0 (record { column = 1; how = Is; value = values.Text [] } ∷ record { column = 2; how = AtLeast; value = values.Int (pos 0) } ∷ [])

deleted : read_back a_delete ≡ Some (Ok a_delete)
unfolding digits serde_json_on_literals condition delete write item_of_action
deleted = refl

tables : option_map catalog (read (tables_text accounts)) ≡ Some (Ok accounts)
unfolding serde_json_on_literals column table_after
tables = refl
