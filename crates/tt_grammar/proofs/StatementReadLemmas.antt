-- Conditions and changes that are printed are read back as the same.
use Rattle.std.proofs.Common.{◌≡◌, ℕ, ◌≤◌, true, List, [], ◌∷◌, length, Some, slice_get, IsUtf8, codes, refl, sym, ap, subst, ◌∙◌, arith}
use Rattle.std.specs.Fmt.{signed_decimal}
use Rattle.json.specs.Json as json
use Rattle.json.proofs.Printed.Utf8.{are_ascii, IsUtf8-are_ascii}
use Rattle.serde_json.specs.Data.{Data, Items, no_items, item, string}
use Rattle.serde_json.specs.Data as spec
use Rattle.tt_values.specs.declared.value.Value.{Value}
use Rattle.tt_values.specs.declared.value.Value.TheVariants as values
use Rattle.tt_values.specs.declared.table.Column.{Column}
use Rattle.tt_values.specs.declared.table.TableDef.{TableDef}
use Rattle.tt_values.specs.declared.statement.Change.{Change}
use Rattle.tt_values.specs.declared.statement.Change.TheVariants.{Set, Add}
use Rattle.tt_values.specs.declared.comparison.Comparison.{Comparison}
use Rattle.tt_values.specs.declared.comparison.Comparison.TheVariants.{Is, IsNot, Below, AtMost, Above, AtLeast}
use Rattle.tt_values.specs.declared.statement.Equal.{Equal}
use Rattle.tt_values.specs.Change.{column_of}
use Rattle.tt_values.specs.Limits.{max_name_bytes}
use Rattle.tt_values.specs.Tables.{Tables, IsTable, is_name, column_position}
use Rattle.tt_grammar.specs.Quoting.{quoted}
use Rattle.tt_grammar.proofs.QuotingLemmas.{IsUtf8-quoted}
use Rattle.tt_grammar.specs.Printing.{value_text}
use Rattle.tt_grammar.specs.Comparisons.{comparison_named, sign_of}
use Rattle.tt_grammar.specs.Conditions.{condition, column_with}
use Rattle.tt_grammar.specs.Changes.{change}
use Rattle.tt_grammar.specs.Version.{newest_version}
use Rattle.tt_grammar.specs.WriteText.{column_name, equal_text, column_change_text}
use Rattle.tt_grammar.specs.ReadBack.{IsStorable, value_of_change}
use Rattle.tt_grammar.specs.JsonText.{array_text}
use Rattle.tt_grammar.proofs.JsonReadLemmas.{array-prints, string-prints}
use Rattle.tt_grammar.proofs.ValueReadLemmas.{json_of_value, data_of_value, value-back, int-decoded}
use Rattle.tt_grammar.proofs.Utf8Lemmas.{IsUtf8-name, short-name, IsUtf8-array}
use Rattle.tt_grammar.proofs.EveryLemmas.{Every, every-holds, every-at}
use Rattle.tt_grammar.proofs.NameLemmas.{column-found}
use Rattle.tt_grammar.proofs.ItemReadLemmas.{IsReadBack}

-- a column of a table is found by its name, which is UTF-8 and short
pub record IsNamed (tables : Tables) (table column : ℕ) : Type 0 where
  pub found : column_with tables table (column_name tables table column) ≡ Some column
  pub utf8 : IsUtf8 (column_name tables table column)
  pub short : length (column_name tables table column) ≤ max_name_bytes

pub column-named : (tables : Tables) (table : ℕ) (t : List ℕ × TableDef) (column : ℕ) (c : Column) → IsTable t.1 → slice_get tables table ≡ Some t
    → slice_get t.1.columns column ≡ Some c → IsNamed tables table column
column-named tables table t column c sound at_table at_column =
    let name : column_name tables table column ≡ c.name = simp (at_table, at_column) in
    let here : column_with tables table c.name ≡ column_position t.1.columns c.name = simp at_table in
    let all_named : Every (λ d. is_name d.name ≡ true) t.1.columns = every-holds (λ d. is_name d.name) t.1.columns sound.columns_are_named in
    let named : is_name c.name ≡ true = every-at (λ d. is_name d.name ≡ true) t.1.columns column c all_named at_column in
    record {
      found = ap (column_with tables table) name ∙ here ∙ column-found t.1.columns column c sound.names_differ at_column;
      utf8 = subst IsUtf8 (sym name) (IsUtf8-name c.name named);
      short = subst (λ n. length n ≤ max_name_bytes) (sym name) (short-name c.name named);
    }

-- the items of a condition from its sign on: an equality has none
abbrev pub json_from_sign : Comparison → json.Items → json.Items
json_from_sign Is later = later
json_from_sign how later = json.item (json.string (sign_of how)) later

abbrev pub data_from_sign : Comparison → Items → Items
data_from_sign Is later = later
data_from_sign how later = item (string (sign_of how)) later

-- the tree of a condition, and what it stands for
abbrev pub json_of_equal : Tables → ℕ → Equal → json.Json
json_of_equal tables table q =
    json.array (json.item (json.string (column_name tables table q.column)) (json_from_sign q.how (json.item (json_of_value q.value) json.no_items)))

abbrev pub data_of_equal : Tables → ℕ → Equal → Data
data_of_equal tables table q = spec.array (item (string (column_name tables table q.column)) (data_from_sign q.how (item (data_of_value q.value) no_items)))

-- each sign is ASCII, and names how it compares
sign-ascii : (how : Comparison) → are_ascii (sign_of how) ≡ true
sign-ascii Is = refl
sign-ascii IsNot = refl
sign-ascii Below = refl
sign-ascii AtMost = refl
sign-ascii Above = refl
sign-ascii AtLeast = refl

sign-named : (how : Comparison) → comparison_named (sign_of how) ≡ Some how
sign-named Is = refl
sign-named IsNot = refl
sign-named Below = refl
sign-named AtMost = refl
sign-named Above = refl
sign-named AtLeast = refl

-- a condition is printed as JSON that is read as the same condition
abbrev pub IsEqualBack : Tables → ℕ → Equal → Type 0
IsEqualBack tables table q = IsReadBack 1 (json_of_equal tables table q) (equal_text tables table q) (data_of_equal tables table q) (condition newest_version tables table) q

without_sign : (tables : Tables) (table column : ℕ) (v : Value) → IsNamed tables table column → IsStorable v → IsEqualBack tables table (record { column = column; how = Is; value = v })
unfolding condition
without_sign tables table column v named h =
    let back = value-back v h in
    let name = column_name tables table column in
    record {
      prints = array-prints (json.item (json.string name) (json.item (json_of_value v) json.no_items)) (quoted name ∷ value_text v ∷ []) (string-prints name, (back.prints, tt));
      utf8 = IsUtf8-array (quoted name ∷ value_text v ∷ []) (IsUtf8-quoted name named.utf8, (back.utf8, tt));
      numbers = (tt, (back.numbers, tt));
      shallow = let flat = back.shallow in omega arith;
      stands = simp back.stands;
      once = simp back.once;
      decoded = simp (named.found, back.decoded);
    }

with_sign : (tables : Tables) (table column : ℕ) (how : Comparison) (v : Value) → IsNamed tables table column → IsStorable v
    → IsReadBack 1 (json.array (json.item (json.string (column_name tables table column)) (json.item (json.string (sign_of how)) (json.item (json_of_value v) json.no_items))))
    (array_text (quoted (column_name tables table column) ∷ quoted (sign_of how) ∷ value_text v ∷ []))
    (spec.array (item (string (column_name tables table column)) (item (string (sign_of how)) (item (data_of_value v) no_items))))
    (condition newest_version tables table) (record { column = column; how = how; value = v })
unfolding condition
with_sign tables table column how v named h =
    let back = value-back v h in
    let name = column_name tables table column in
    record {
      prints = array-prints (json.item (json.string name) (json.item (json.string (sign_of how)) (json.item (json_of_value v) json.no_items)))
          (quoted name ∷ quoted (sign_of how) ∷ value_text v ∷ []) (string-prints name, (string-prints (sign_of how), (back.prints, tt)));
      utf8 = IsUtf8-array (quoted name ∷ quoted (sign_of how) ∷ value_text v ∷ [])
          (IsUtf8-quoted name named.utf8, (IsUtf8-quoted (sign_of how) (IsUtf8-are_ascii (sign_of how) (sign-ascii how)), (back.utf8, tt)));
      numbers = (tt, (tt, (back.numbers, tt)));
      shallow = let flat = back.shallow in omega arith;
      stands = simp back.stands;
      once = simp back.once;
      decoded = simp (named.found, sign-named how, back.decoded);
    }

pub equal-back : (tables : Tables) (table : ℕ) (q : Equal) → IsNamed tables table q.column → IsStorable q.value → IsEqualBack tables table q
equal-back tables table q named h = by q.how
  where
    by : (how : Comparison) → IsEqualBack tables table (record { column = q.column; how = how; value = q.value })
    by Is = without_sign tables table q.column q.value named h
    by IsNot = with_sign tables table q.column IsNot q.value named h
    by Below = with_sign tables table q.column Below q.value named h
    by AtMost = with_sign tables table q.column AtMost q.value named h
    by Above = with_sign tables table q.column Above q.value named h
    by AtLeast = with_sign tables table q.column AtLeast q.value named h

-- the tree of a change, and what it stands for
abbrev pub json_of_change : Tables → ℕ → Change → json.Json
json_of_change tables table (Set column v) =
    json.array (json.item (json.string (codes "set")) (json.item (json.string (column_name tables table column)) (json.item (json_of_value v) json.no_items)))
json_of_change tables table (Add column by) =
    json.array (json.item (json.string (codes "add")) (json.item (json.string (column_name tables table column)) (json.item (json_of_value (values.Int by)) json.no_items)))

abbrev pub data_of_change : Tables → ℕ → Change → Data
data_of_change tables table (Set column v) = spec.array (item (string (codes "set")) (item (string (column_name tables table column)) (item (data_of_value v) no_items)))
data_of_change tables table (Add column by) =
    spec.array (item (string (codes "add")) (item (string (column_name tables table column)) (item (data_of_value (values.Int by)) no_items)))

pub change-back : (tables : Tables) (table : ℕ) (c : Change) → IsNamed tables table (column_of c)
    → IsStorable (value_of_change c) → IsReadBack 1 (json_of_change tables table c) (column_change_text tables table c) (data_of_change tables table c) (change tables table) c
unfolding change
change-back tables table (Set column v) named h =
    let back = value-back v h in
    let name = column_name tables table column in
    record {
      prints = array-prints (json.item (json.string (codes "set")) (json.item (json.string name) (json.item (json_of_value v) json.no_items)))
          (quoted (codes "set") ∷ quoted name ∷ value_text v ∷ []) (string-prints (codes "set"), (string-prints name, (back.prints, tt)));
      utf8 = IsUtf8-array (quoted (codes "set") ∷ quoted name ∷ value_text v ∷ [])
          (IsUtf8-quoted (codes "set") (IsUtf8-are_ascii (codes "set") refl), (IsUtf8-quoted name named.utf8, (back.utf8, tt)));
      numbers = (tt, (tt, (back.numbers, tt)));
      shallow = let flat = back.shallow in omega arith;
      stands = simp back.stands;
      once = simp back.once;
      decoded = simp (named.found, back.decoded);
    }
change-back tables table (Add column by) named h =
    let back = value-back (values.Int by) h in
    let name = column_name tables table column in
    record {
      prints = array-prints (json.item (json.string (codes "add")) (json.item (json.string name) (json.item (json_of_value (values.Int by)) json.no_items)))
          (quoted (codes "add") ∷ quoted name ∷ signed_decimal by ∷ []) (string-prints (codes "add"), (string-prints name, (back.prints, tt)));
      utf8 = IsUtf8-array (quoted (codes "add") ∷ quoted name ∷ signed_decimal by ∷ [])
          (IsUtf8-quoted (codes "add") (IsUtf8-are_ascii (codes "add") refl), (IsUtf8-quoted name named.utf8, (back.utf8, tt)));
      numbers = (tt, (tt, (back.numbers, tt)));
      shallow = let flat = back.shallow in omega arith;
      stands = simp back.stands;
      once = simp back.once;
      decoded = simp (named.found, int-decoded by h);
    }
