-- Writes that are printed are read back as the same.
use Rattle.std.proofs.Common.{◌≡◌, ℕ, ◌≤◌, Bool, true, false, if◌then◌else◌, nat_le, List, [], ◌∷◌, ◌++◌, length, map, Option, Some, None, slice_get, option_map, Result, Ok, Err, IsUtf8, codes, refl, sym, ap, subst, ◌∙◌, arith, All}
use Rattle.std.specs.Prelude.{⊤}
use Rattle.std.proofs.lemmas.Bool.{or_parts, leb-false}
use Rattle.std.specs.List.{flat_map, list_any}
use Rattle.json.specs.Json as json
use Rattle.json.proofs.Printed.Utf8.{IsUtf8-are_ascii}
use Rattle.serde_json.specs.Data.{Data, string, member, no_members}
use Rattle.serde_json.specs.Data as spec
use Rattle.tt_values.specs.declared.value.Value.{Value}
use Rattle.tt_values.specs.declared.row.Row.{Row}
use Rattle.tt_values.specs.declared.table.Column.{Column}
use Rattle.tt_values.specs.declared.table.TableDef.{TableDef}
use Rattle.tt_values.specs.declared.statement.Change.{Change}
use Rattle.tt_values.specs.declared.statement.Equal.{Equal}
use Rattle.tt_values.specs.declared.statement.Write.{Write}
use Rattle.tt_values.specs.declared.statement.Write.TheVariants.{Insert, Update, Delete}
use Rattle.tt_values.specs.declared.checking.CheckError.{CheckError}
use Rattle.tt_values.specs.Faults.{first_fault}
use Rattle.tt_values.specs.Change.{column_of}
use Rattle.tt_values.specs.Check.{write_fault, fault_on, row_tests, update_tests, equals_tests, changes_no_column, has_no_column}
use Rattle.tt_values.specs.Limits.{max_name_bytes}
use Rattle.tt_values.specs.Tables.{Tables, IsTable, IsCatalog, is_name, table_position}
use Rattle.tt_grammar.specs.declared.fault.DocFault.{DocFault}
use Rattle.tt_grammar.specs.Fault.{◌>>=◌, or_refuse}
use Rattle.tt_grammar.specs.Arrays.{array_of}
use Rattle.tt_grammar.specs.Conditions.{value, condition}
use Rattle.tt_grammar.specs.Changes.{change}
use Rattle.tt_grammar.specs.Statements.{insert, update, delete}
use Rattle.tt_grammar.specs.Actions.{write, item_of_action, action_of_one}
use Rattle.tt_grammar.specs.Edits.{replacement_by, replacement}
use Rattle.tt_grammar.specs.Version.{newest_version}
use Rattle.tt_grammar.proofs.QuotingLemmas.{IsUtf8-quoted}
use Rattle.tt_grammar.specs.Printing.{value_text, further_value, values_text, row_text}
use Rattle.tt_grammar.specs.JsonText.{further_item, items_text, array_text}
use Rattle.tt_grammar.specs.WriteText.{table_name, equal_text, column_change_text, write_members, write_text}
use Rattle.tt_grammar.specs.ReadBack.{IsStorable, value_of_change, values_of_equals, values_of_write, WritesAreReadBack}
use Rattle.tt_grammar.proofs.EveryLemmas.{Every, every, every-map, every-left, every-right, every-both, every-then, every-fails, every-at, some-at}
use Rattle.tt_grammar.proofs.Utf8Lemmas.{IsUtf8-name, short-name, IsUtf8-object}
use Rattle.tt_grammar.proofs.JsonReadLemmas.{Prints, object-prints, string-prints}
use Rattle.tt_grammar.proofs.ItemReadLemmas.{IsReadBack, read-back, also-back, trees, meanings, array-back}
use Rattle.tt_grammar.proofs.ValueReadLemmas.{json_of_value, data_of_value, value-back}
use Rattle.tt_grammar.proofs.NameLemmas.{table-found}
use Rattle.tt_grammar.proofs.StatementReadLemmas.{IsNamed, column-named, json_of_equal, data_of_equal, equal-back, json_of_change, data_of_change, change-back}

-- ---- rows

further_values-are_items : (vs : List Value) → flat_map further_value vs ≡ flat_map further_item (map value_text vs)
further_values-are_items [] = refl
further_values-are_items (v ∷ vs) = ap (λ s. (codes "," ++ value_text v) ++ s) (further_values-are_items vs)

pub row-is_array : (row : Row) → array_text (map value_text row.values) ≡ row_text row
row-is_array row = ap (λ s. codes "[" ++ (s ++ codes "]")) (by row.values)
  where
    by : (vs : List Value) → items_text (map value_text vs) ≡ values_text vs
    by [] = refl
    by (v ∷ vs) = ap (λ s. value_text v ++ s) (sym (further_values-are_items vs))

-- ---- a statement that has no fault

no_first_fault : {E : Type 0} → (b : Bool) (e : E) (rest : Option E) → (if b then Some e else rest) ≡ None → (b ≡ false) × (rest ≡ None)
no_first_fault true e rest h = cc
no_first_fault false e rest h = (refl, h)

pub no_fault : {E : Type 0} → (tests : List (Bool × E)) → first_fault tests ≡ None → Every (λ test. test.0 ≡ false) tests
no_fault [] h = tt
no_fault (test ∷ tests) h = let both = no_first_fault test.0 test.1 (first_fault tests) h in (both.0, no_fault tests both.1)

-- its table is there, and it has no fault on this table's columns
pub on_table : (o : Option (List ℕ × TableDef)) (tests : List Column → List (Bool × CheckError)) → fault_on (option_map (λ t. t.1.columns) o) tests ≡ None
    → (t : List ℕ × TableDef) × (o ≡ Some t) × (first_fault (tests t.1.columns) ≡ None)
on_table None tests h = cc
on_table (Some t) tests h = (t, refl, h)

pub all_are_columns : (columns : List Column) (changes : List Change) (equals : List Equal) → first_fault (update_tests columns changes equals) ≡ None
    → (changes_no_column columns changes ≡ false) × (has_no_column columns equals ≡ false)
all_are_columns columns changes equals h = or_parts (changes_no_column columns changes) (has_no_column columns equals) (no_fault (update_tests columns changes equals) h).0

-- a table is found by its name, which is UTF-8 and short
pub table-named : (tables : Tables) (table : ℕ) (t : List ℕ × TableDef) → IsCatalog tables → slice_get tables table ≡ Some t
    → (table_position tables (table_name tables table) ≡ Some table) × IsUtf8 (table_name tables table) × (length (table_name tables table) ≤ max_name_bytes)
table-named tables table t catalog e =
    let name : table_name tables table ≡ t.0 = simp e in
    let valid : is_name t.0 ≡ true = every-at (λ u. is_name u.0 ≡ true) tables table t (every (λ u. is_name u.0 ≡ true) tables catalog.tables_are_named) e in (
      ap (table_position tables) name ∙ table-found tables table t catalog.names_differ e,
      subst IsUtf8 (sym name) (IsUtf8-name t.0 valid),
      subst (λ n. length n ≤ max_name_bytes) (sym name) (short-name t.0 valid),
    )

-- the columns of items that are columns of a table
pub columns-named : {X : Type 0} → (tables : Tables) (table : ℕ) (t : List ℕ × TableDef) (column : X → ℕ) (xs : List X) → IsCatalog tables → slice_get tables table ≡ Some t
    → list_any (λ x. nat_le (length t.1.columns) (column x)) xs ≡ false → Every (λ x. IsNamed tables table (column x)) xs
columns-named tables table t column xs catalog e h =
    let sound : IsTable t.1 = every-at (λ u. IsTable u.1) tables table t (every (λ u. IsTable u.1) tables catalog.sound) e in
    every-then _ _ xs
    (λ x past.
    let c = some-at t.1.columns (column x) (leb-false (length t.1.columns) (column x) past) in
    column-named tables table t (column x) c.0 sound e c.1)
    (every-fails (λ x. nat_le (length t.1.columns) (column x)) xs h)

-- ---- the tree of a write, and what it stands for

abbrev pub equals_tree : Tables → ℕ → List Equal → json.Json
equals_tree tables table equals = json.array (trees (json_of_equal tables table) equals)

abbrev pub changes_tree : Tables → ℕ → List Change → json.Json
changes_tree tables table changes = json.array (trees (json_of_change tables table) changes)

abbrev pub members_of_write : Tables → Write → json.Members
members_of_write tables (Insert table row) =
    json.member (codes "insert") (json.string (table_name tables table)) (json.member (codes "row") (json.array (trees json_of_value row.values)) json.no_members)
members_of_write tables (Update table changes equals) =
    json.member (codes "update") (json.string (table_name tables table))
    (json.member (codes "change") (changes_tree tables table changes) (json.member (codes "where") (equals_tree tables table equals) json.no_members))
members_of_write tables (Delete table equals) =
    json.member (codes "delete") (json.string (table_name tables table)) (json.member (codes "where") (equals_tree tables table equals) json.no_members)

abbrev pub json_of_write : Tables → Write → json.Json
json_of_write tables w = json.object (members_of_write tables w)

abbrev pub equals_data : Tables → ℕ → List Equal → Data
equals_data tables table equals = spec.array (meanings (data_of_equal tables table) equals)

abbrev pub data_of_write : Tables → Write → Data
data_of_write tables (Insert table row) =
    spec.object (member (codes "insert") (string (table_name tables table)) (member (codes "row") (spec.array (meanings data_of_value row.values)) no_members))
data_of_write tables (Update table changes equals) =
    spec.object (member (codes "change") (spec.array (meanings (data_of_change tables table) changes))
    (member (codes "update") (string (table_name tables table)) (member (codes "where") (equals_data tables table equals) no_members)))
data_of_write tables (Delete table equals) =
    spec.object (member (codes "delete") (string (table_name tables table)) (member (codes "where") (equals_data tables table equals) no_members))

-- ---- writes

-- a write is printed as JSON that is read as the same write
abbrev pub IsWriteBack : Tables → Write → Type 0
IsWriteBack tables w = IsReadBack 3 (json_of_write tables w) (write_text tables w) (data_of_write tables w) (item_of_action newest_version tables) w

insert-back : (tables : Tables) (table : ℕ) (row : Row) → IsCatalog tables → write_fault tables (Insert table row) ≡ None → Every IsStorable row.values
    → IsWriteBack tables (Insert table row)
unfolding write item_of_action insert
insert-back tables table row catalog sound storable =
    let w : Write = Insert table row in
    let on = on_table (slice_get tables table) (λ columns. row_tests columns row.values) sound in
    let name : List ℕ = table_name tables table in
    let named = table-named tables table on.0 catalog on.1 in
    let rows = array-back 0 json_of_value value_text data_of_value value row.values (every-then _ _ row.values value-back storable) in
    record {
      prints = object-prints (members_of_write tables w) (write_members tables w)
          (refl, string-prints name, (refl, subst (Prints (json.array (trees json_of_value row.values))) (row-is_array row) rows.prints, tt));
      utf8 = IsUtf8-object (write_members tables w)
          ((IsUtf8-are_ascii (codes "insert") refl, IsUtf8-quoted name named.1), ((IsUtf8-are_ascii (codes "row") refl, subst IsUtf8 (row-is_array row) rows.utf8), tt));
      numbers = (tt, (rows.numbers, tt));
      shallow = let flat = rows.shallow in omega arith;
      stands = simp rows.stands;
      once = simp rows.once;
      decoded = simp (named.0, rows.decoded, sound);
    }

equals-back : (tables : Tables) (table : ℕ) (t : List ℕ × TableDef) (equals : List Equal) → IsCatalog tables → slice_get tables table ≡ Some t
    → has_no_column t.1.columns equals ≡ false → Every (λ q. IsStorable q.value) equals
    → IsReadBack 2 (equals_tree tables table equals) (array_text (map (equal_text tables table) equals)) (equals_data tables table equals) (array_of (condition newest_version tables table)) equals
equals-back tables table t equals catalog e here storable =
    array-back 1 (json_of_equal tables table) (equal_text tables table) (data_of_equal tables table) (condition newest_version tables table) equals
    (every-both _ _ _ equals (equal-back tables table) (columns-named tables table t (λ q. q.column) equals catalog e here) storable)

changes-back : (tables : Tables) (table : ℕ) (t : List ℕ × TableDef) (changes : List Change) → IsCatalog tables → slice_get tables table ≡ Some t
    → changes_no_column t.1.columns changes ≡ false → Every (λ c. IsStorable (value_of_change c)) changes
    → IsReadBack 2 (changes_tree tables table changes) (array_text (map (column_change_text tables table) changes)) (spec.array (meanings (data_of_change tables table) changes)) (array_of (change tables table)) changes
changes-back tables table t changes catalog e here storable =
    array-back 1 (json_of_change tables table) (column_change_text tables table) (data_of_change tables table) (change tables table) changes
    (every-both _ _ _ changes (change-back tables table) (columns-named tables table t column_of changes catalog e here) storable)

update-back : (tables : Tables) (table : ℕ) (changes : List Change) (equals : List Equal) → IsCatalog tables → write_fault tables (Update table changes equals) ≡ None
    → Every (λ c. IsStorable (value_of_change c)) changes → Every (λ q. IsStorable q.value) equals → IsWriteBack tables (Update table changes equals)
unfolding write item_of_action update
update-back tables table changes equals catalog sound storable_changes storable_equals =
    let w : Write = Update table changes equals in
    let on = on_table (slice_get tables table) (λ columns. update_tests columns changes equals) sound in
    let here = all_are_columns on.0.1.columns changes equals on.2 in
    let name : List ℕ = table_name tables table in
    let named = table-named tables table on.0 catalog on.1 in
    let of_changes = changes-back tables table on.0 changes catalog on.1 here.0 storable_changes in
    let of_equals = equals-back tables table on.0 equals catalog on.1 here.1 storable_equals in
    record {
      prints = object-prints (members_of_write tables w) (write_members tables w) (refl, string-prints name, (refl, of_changes.prints, (refl, of_equals.prints, tt)));
      utf8 = IsUtf8-object (write_members tables w) (
        (IsUtf8-are_ascii (codes "update") refl, IsUtf8-quoted name named.1),
        ((IsUtf8-are_ascii (codes "change") refl, of_changes.utf8), ((IsUtf8-are_ascii (codes "where") refl, of_equals.utf8), tt)),
      );
      numbers = (tt, (of_changes.numbers, (of_equals.numbers, tt)));
      shallow = let flat = of_changes.shallow in let level = of_equals.shallow in omega arith;
      stands = simp (of_changes.stands, of_equals.stands);
      once = simp (of_changes.once, of_equals.once);
      decoded = simp (named.0, of_changes.decoded, of_equals.decoded, sound);
    }

delete-back : (tables : Tables) (table : ℕ) (equals : List Equal) → IsCatalog tables → write_fault tables (Delete table equals) ≡ None
    → Every (λ q. IsStorable q.value) equals → IsWriteBack tables (Delete table equals)
unfolding write item_of_action delete
delete-back tables table equals catalog sound storable =
    let w : Write = Delete table equals in
    let on = on_table (slice_get tables table) (λ columns. equals_tests columns equals) sound in
    let here : has_no_column on.0.1.columns equals ≡ false = (no_fault (equals_tests on.0.1.columns equals) on.2).0 in
    let name : List ℕ = table_name tables table in
    let named = table-named tables table on.0 catalog on.1 in
    let of_equals = equals-back tables table on.0 equals catalog on.1 here storable in
    record {
      prints = object-prints (members_of_write tables w) (write_members tables w) (refl, string-prints name, (refl, of_equals.prints, tt));
      utf8 = IsUtf8-object (write_members tables w)
          ((IsUtf8-are_ascii (codes "delete") refl, IsUtf8-quoted name named.1), ((IsUtf8-are_ascii (codes "where") refl, of_equals.utf8), tt));
      numbers = (tt, (of_equals.numbers, tt));
      shallow = let flat = of_equals.shallow in omega arith;
      stands = simp of_equals.stands;
      once = simp of_equals.once;
      decoded = simp (named.0, of_equals.decoded, sound);
    }

pub write-back : (tables : Tables) (w : Write) → IsCatalog tables → write_fault tables w ≡ None → All IsStorable (values_of_write w) → IsWriteBack tables w
write-back tables (Insert table row) catalog sound storable = insert-back tables table row catalog sound (every _ row.values storable)
write-back tables (Update table changes equals) catalog sound storable =
    let all = every IsStorable (map value_of_change changes ++ values_of_equals equals) storable in
    update-back tables table changes equals catalog sound
    (every-map IsStorable value_of_change changes (every-left IsStorable (map value_of_change changes) (values_of_equals equals) all))
    (every-map IsStorable (λ q. q.value) equals (every-right IsStorable (map value_of_change changes) (values_of_equals equals) all))
write-back tables (Delete table equals) catalog sound storable =
    delete-back tables table equals catalog sound (every-map IsStorable (λ q. q.value) equals (every IsStorable (values_of_equals equals) storable))

-- ---- what replaces an action

replaced : (tables : Tables) (d : Data) (cause : List ℕ) (o : Result ⊤ DocFault) (r : Result (Option Write) DocFault) (w : Write) → (o >>= λ _. r >>= or_refuse cause) ≡ Ok w
    → (o >>= λ _. r >>= replacement_by newest_version tables d) ≡ Ok (action_of_one w)
replaced tables d cause (Err fault) r w e = cc
replaced tables d cause (Ok u) (Err fault) w e = cc
replaced tables d cause (Ok u) (Ok None) w e = cc
replaced tables d cause (Ok u) (Ok (Some v)) w e = let same : v ≡ w = cc in ap (λ x. Ok (action_of_one x)) same

-- an item of an action, alone, replaces an action
item-replaces : (tables : Tables) (d : Data) (w : Write) → item_of_action newest_version tables d ≡ Ok w → replacement newest_version tables d ≡ Ok (action_of_one w)
unfolding item_of_action replacement
item-replaces tables d w e = replaced tables d _ _ _ w e

pub replacing-back : (tables : Tables) (w : Write) → IsWriteBack tables w
    → IsReadBack 3 (json_of_write tables w) (write_text tables w) (data_of_write tables w) (replacement newest_version tables) (action_of_one w)
replacing-back tables w back =
    let d : Data = data_of_write tables w in
    also-back 3 (json_of_write tables w) (write_text tables w) d (item_of_action newest_version tables) w (replacement newest_version tables) (action_of_one w) back (item-replaces tables d w back.decoded)

-- a write that can be carried out is read back
pub writes_are_read_back : WritesAreReadBack
writes_are_read_back tables w catalog sound storable =
    let j = json_of_write tables w in
    let d = data_of_write tables w in
    let back = write-back tables w catalog sound storable in (
      read-back 3 j (write_text tables w) d (item_of_action newest_version tables) w back (omega arith),
      read-back 3 j (write_text tables w) d (replacement newest_version tables) (action_of_one w) (replacing-back tables w back) (omega arith),
    )
