-- The tables of an opening are a catalog, and it keeps no more than openings may.
use Rattle.std.proofs.Common.{◌≡◌, ℕ, suc, ◌≤◌, List, [], ◌∷◌, ◌++◌, IsTrue, Option, None, Some, Result, Ok, codes, refl, sym, ap, subst, ◌∙◌, arith}
use Rattle.std.proofs.lemmas.List.Elements.{All-nil}
use Rattle.serde_json.specs.Data.{Data}
use Rattle.tt_values.specs.declared.table.TableDef.{TableDef}
use Rattle.tt_values.specs.declared.catalog.CatalogError.{CatalogError}
use Rattle.tt_values.specs.Tables.{Tables, is_name, IsTable, IsCatalog}
use Rattle.tt_values.specs.Catalog.{table_fault}
use Rattle.tt_values.proofs.LawProofs.{catalogs_grow}
use Rattle.tt_grammar.specs.declared.fault.DocFault.{DocFault}
use Rattle.tt_grammar.specs.Fault.{◌>>=◌, with_path, item_path, document_path}
use Rattle.tt_grammar.specs.Decoder.{object, text, array, member}
use Rattle.tt_grammar.specs.Arrays.{fold_items, array_of}
use Rattle.tt_grammar.specs.Causes.{judge, cause_of_catalog}
use Rattle.tt_grammar.specs.Members.{is_one_of, no_members_but}
use Rattle.tt_grammar.specs.Tables.{column, with_table, table_after, catalog}
use Rattle.tt_requests.specs.declared.opening.Opening.{Opening}
use Rattle.tt_requests.proofs.BoundLemmas.{is_declared}
use Rattle.tt_requests.proofs.StepBackLemmas.{ok_same, step, with_path-ok, member-ok}
use Rattle.tt_db.specs.Database.{Database}
use Rattle.tt_answers.specs.declared.answer.Status.{Status}
use Rattle.tt_answers.specs.declared.answer.Answer.TheVariants as answers
use Rattle.tt_answers.specs.AnswerText.{opening_text}
use Rattle.tt_requests.specs.Numbers.{Numbering}
use Rattle.tt_commands.specs.Session.{OpenSession, opened}
use Rattle.tt_commands.specs.Repairing.{status_of}
use Rattle.tt_session.specs.Run.{turn_by_opening}
use Rattle.tt_requests.specs.Opening.{max_keep, max_records, declaration, members_of_opening, opening_of}

-- the tables of an opening are a catalog, and it keeps no more than openings may
pub record IsOpening (opening : Opening) : Type 0 where
  pub catalog : IsCatalog opening.catalog
  pub keep : opening.keep ≤ max_keep
  pub records : opening.records ≤ max_records

no_tables : IsCatalog []
no_tables = record {
  few_tables = omega arith;
  sound = All-nil (λ t. IsTable t.1);
  tables_are_named = All-nil (λ t. IsTrue (is_name t.0));
  names_differ = refl;
}

with_table-is : (tables : Tables) (name : List ℕ) (def : TableDef) (next : Tables) → IsCatalog tables → with_table tables name def ≡ Ok next → IsCatalog next
with_table-is tables name def next sound e = by (table_fault tables name def) refl e
  where
    by : (fault : Option CatalogError) → table_fault tables name def ≡ fault → (judge cause_of_catalog fault >>= λ _. Ok (tables ++ (name, def) ∷ [])) ≡ Ok next → IsCatalog next
    by None none with = subst IsCatalog (ok_same with) (catalogs_grow tables name def sound none)
    by (Some fault) some with = cc

table_after-is : (tables : Tables) (v : Data) (next : Tables) → IsCatalog tables → table_after tables v ≡ Ok next → IsCatalog next
unfolding table_after
table_after-is tables v next sound e =
    let read = step (object v) _ next e in
    let name = step (member (codes "name") text v) _ next read.rest in
    let columns = step (member (codes "columns") (array_of column) v) _ next name.rest in
    let known = step (no_members_but (is_one_of (codes "columns" ∷ codes "name" ∷ [])) v) _ next columns.rest in
    with_table-is tables name.value (record { columns = columns.value }) next sound known.rest

tables-are : (i : ℕ) (tables : Tables) (ds : List Data) (next : Tables) → IsCatalog tables → fold_items table_after i tables ds ≡ Ok next → IsCatalog next
tables-are i tables [] next sound e = subst IsCatalog (ok_same e) sound
tables-are i tables (d ∷ ds) next sound e =
    let first = step (with_path (item_path i) (table_after tables d)) _ next e in
    let one = with_path-ok (item_path i) (table_after tables d) first.value first.is in
    tables-are (suc i) first.value ds next (table_after-is tables d first.value sound one) first.rest

catalog-is : (v : Data) (tables : Tables) → member (codes "tables") catalog v ≡ Ok tables → IsCatalog tables
catalog-is v tables e =
    let source = member-ok (codes "tables") catalog v tables e in
    let read = step (array source.value) (λ ds. fold_items table_after 0 [] ds) tables source.is in
    tables-are 0 [] read.value tables no_tables read.rest

pub declaration-is : (v : Data) (opening : Opening) → declaration v ≡ Ok opening → IsOpening opening
declaration-is v opening e =
    let declared = is_declared v opening e in
    record { catalog = catalog-is v opening.catalog declared.tables; keep = declared.keep; records = declared.records }

members-are : (v : Data) (opening : Opening) → members_of_opening v ≡ Ok opening → IsOpening opening
unfolding members_of_opening
members-are v opening e =
    let declared = step (declaration v) _ opening e in
    let known = step (no_members_but (is_one_of (codes "keep" ∷ codes "records" ∷ codes "tables" ∷ codes "version" ∷ [])) v) _ opening declared.rest in
    subst IsOpening (ok_same known.rest) (declaration-is v declared.value declared.is)

pub is_opening : (value : Result Data DocFault) (opening : Opening) → opening_of value ≡ Ok opening → IsOpening opening
is_opening value opening e =
    let read = step value members_of_opening opening (with_path-ok document_path (value >>= members_of_opening) opening e) in
    members-are read.value opening read.rest

-- what is told of a session that is opened
pub opened-text : (value : Result Opening DocFault) (opening : Opening) (session : OpenSession) (db : Database) (numbering : Numbering) (status : Status)
    → value ≡ Ok opening → session ≡ opened opening → db ≡ session.database → numbering ≡ session.numbering → status ≡ status_of db
    → opening_text numbering (answers.Standing status) ≡ (turn_by_opening value).text
opened-text value opening session db numbering status is session_is db_is numbering_is status_is =
    (λ i. opening_text ((numbering_is ∙ ap (λ (s : OpenSession). s.numbering) session_is) i) (answers.Standing ((status_is ∙ ap status_of (db_is ∙ ap (λ (s : OpenSession). s.database) session_is)) i)))
    ∙ sym (ap (λ (v : Result Opening DocFault). (turn_by_opening v).text) is)
