-- Tables that are printed are read back as the same.
use Rattle.std.proofs.Common.{◌≡◌, ℕ, suc, ◌≤◌, ◌<◌, ◌==◌, Bool, true, false, ◌||◌, nat_le, nat_lt, List, [], ◌∷◌, ◌++◌, length, map, None, Result, Ok, IsUtf8, codes, refl, sym, ap, subst, ◌∙◌, arith, append_assoc, append-nil, length-append, bytes_eq}
use Rattle.std.proofs.lemmas.Bool.{or_parts}
use Rattle.std.proofs.lemmas.Bool.Decides.{nat_tests}
use Rattle.std.proofs.lemmas.List.Folds.{list_any-append}
use Rattle.std.specs.List.{list_any}
use Rattle.json.specs.Json as json
use Rattle.json.proofs.Printed.Utf8.{IsUtf8-are_ascii}
use Rattle.serde_json.specs.Data.{Data, boolean, string, member, no_members}
use Rattle.serde_json.specs.Data as spec
use Rattle.tt_values.specs.declared.value.Kind.{Kind}
use Rattle.tt_values.specs.declared.value.Kind.TheVariants as kinds
use Rattle.tt_values.specs.declared.table.Column.{Column}
use Rattle.tt_values.specs.declared.table.TableDef.{TableDef}
use Rattle.tt_values.specs.Catalog.{table_fault}
use Rattle.tt_values.specs.Limits.{max_tables, max_columns}
use Rattle.tt_values.specs.Tables.{Tables, IsTable, IsCatalog, is_name, is_key_int, has_same_table}
use Rattle.tt_json.specs.Value.{list_of}
use Rattle.tt_grammar.specs.declared.fault.DocFault.{DocFault}
use Rattle.tt_grammar.specs.Fault.{◌>>=◌}
use Rattle.tt_grammar.specs.Decoder.{text, member as member_of}
use Rattle.tt_grammar.specs.Arrays.{array_of, fold_items}
use Rattle.tt_grammar.specs.Tables.{kind, column, table_after, catalog}
use Rattle.tt_grammar.specs.Quoting.{quoted}
use Rattle.tt_grammar.proofs.QuotingLemmas.{IsUtf8-quoted}
use Rattle.tt_grammar.specs.JsonText.{Member, array_text, flag_text}
use Rattle.tt_grammar.specs.WriteText.{kind_name, column_text, table_text, tables_text}
use Rattle.tt_grammar.specs.ReadBack.{TablesAreReadBack}
use Rattle.tt_grammar.proofs.EveryLemmas.{Every, every, every-then, every-both, every-holds}
use Rattle.tt_grammar.proofs.Utf8Lemmas.{IsUtf8-name, IsUtf8-object}
use Rattle.tt_grammar.proofs.JsonReadLemmas.{object-prints, string-prints, flag-prints}
use Rattle.tt_grammar.proofs.ItemReadLemmas.{IsReadBack, read-back, also-back, trees, meanings, array-back}
use Rattle.tt_grammar.proofs.NameLemmas.{differ_both_ways}

-- ---- columns

kind-decoded : (k : Kind) → kind (string (kind_name k)) ≡ Ok k
kind-decoded kinds.Int = refl
kind-decoded kinds.Text = refl

kind-utf8 : (k : Kind) → IsUtf8 (kind_name k)
kind-utf8 kinds.Int = IsUtf8-are_ascii (codes "int") refl
kind-utf8 kinds.Text = IsUtf8-are_ascii (codes "text") refl

flag-utf8 : (flag : Bool) → IsUtf8 (flag_text flag)
flag-utf8 true = IsUtf8-are_ascii (codes "true") refl
flag-utf8 false = IsUtf8-are_ascii (codes "false") refl

abbrev column_members : Column → List Member
column_members c = (codes "name", quoted c.name) ∷ (codes "kind", quoted (kind_name c.kind)) ∷ (codes "partition", flag_text c.partition) ∷ []

abbrev pub members_of_column : Column → json.Members
members_of_column c =
    json.member (codes "name") (json.string c.name)
    (json.member (codes "kind") (json.string (kind_name c.kind)) (json.member (codes "partition") (json.boolean c.partition) json.no_members))

abbrev pub json_of_column : Column → json.Json
json_of_column c = json.object (members_of_column c)

abbrev pub data_of_column : Column → Data
data_of_column c =
    spec.object (member (codes "kind") (string (kind_name c.kind)) (member (codes "name") (string c.name) (member (codes "partition") (boolean c.partition) no_members)))

column-back : (c : Column) → is_name c.name ≡ true → IsReadBack 1 (json_of_column c) (column_text c) (data_of_column c) column c
unfolding column
column-back c named =
    let kind_text : List ℕ = kind_name c.kind in
    record {
      prints = object-prints (members_of_column c) (column_members c) (refl, string-prints c.name, (refl, string-prints kind_text, (refl, flag-prints c.partition, tt)));
      utf8 = IsUtf8-object (column_members c) (
        (IsUtf8-are_ascii (codes "name") refl, IsUtf8-quoted c.name (IsUtf8-name c.name named)),
        (
          (IsUtf8-are_ascii (codes "kind") refl, IsUtf8-quoted kind_text (kind-utf8 c.kind)),
          ((IsUtf8-are_ascii (codes "partition") refl, flag-utf8 c.partition), tt),
        ),
      );
      numbers = (tt, (tt, (tt, tt)));
      shallow = omega arith;
      stands = refl;
      once = refl;
      decoded = simp (kind-decoded c.kind);
    }

-- ---- tables

-- the name of a table, and its columns
abbrev one_table : Data → Result (List ℕ × TableDef) DocFault
one_table v = do
  name ← member_of (codes "name") text v
  columns ← member_of (codes "columns") (array_of column) v
  Ok (name, record { columns = columns })

abbrev table_members : List ℕ × TableDef → List Member
table_members t = (codes "name", quoted t.0) ∷ (codes "columns", array_text (map column_text t.1.columns)) ∷ []

abbrev pub members_of_table : List ℕ × TableDef → json.Members
members_of_table t = json.member (codes "name") (json.string t.0) (json.member (codes "columns") (json.array (trees json_of_column t.1.columns)) json.no_members)

abbrev pub json_of_table : List ℕ × TableDef → json.Json
json_of_table t = json.object (members_of_table t)

abbrev pub data_of_table : List ℕ × TableDef → Data
data_of_table t = spec.object (member (codes "columns") (spec.array (meanings data_of_column t.1.columns)) (member (codes "name") (string t.0) no_members))

-- what holds of each table of a catalog
abbrev Sound : List ℕ × TableDef → Type 0
Sound t = (is_name t.0 ≡ true) × IsTable t.1

columns-back : (t : List ℕ × TableDef) → Sound t
    → IsReadBack 2 (json.array (trees json_of_column t.1.columns)) (array_text (map column_text t.1.columns)) (spec.array (meanings data_of_column t.1.columns)) (array_of column) t.1.columns
columns-back t sound =
    array-back 1 json_of_column column_text data_of_column column t.1.columns
    (every-then (λ c. is_name c.name ≡ true) _ t.1.columns column-back (every-holds (λ c. is_name c.name) t.1.columns sound.1.columns_are_named))

table-back : (t : List ℕ × TableDef) → Sound t → IsReadBack 3 (json_of_table t) (table_text t) (data_of_table t) one_table t
table-back t sound =
    let columns = columns-back t sound in
    record {
      prints = object-prints (members_of_table t) (table_members t) (refl, string-prints t.0, (refl, columns.prints, tt));
      utf8 = IsUtf8-object (table_members t)
          ((IsUtf8-are_ascii (codes "name") refl, IsUtf8-quoted t.0 (IsUtf8-name t.0 sound.0)), ((IsUtf8-are_ascii (codes "columns") refl, columns.utf8), tt));
      numbers = (tt, (columns.numbers, tt));
      shallow = let flat = columns.shallow in omega arith;
      stands = simp columns.stands;
      once = simp columns.once;
      decoded = simp columns.decoded;
    }

-- ---- a table that is added has no fault

-- the name of a table isn't that of an earlier one
names-apart : (earlier : Tables) (t : List ℕ × TableDef) (later : Tables) → has_same_table (earlier ++ t ∷ later) ≡ false → list_any (λ u. bytes_eq t.0 u.0) earlier ≡ false
names-apart [] t later h = refl
names-apart (e ∷ es) t later h =
    let parts = or_parts (list_any (λ u. bytes_eq e.0 u.0) (es ++ t ∷ later)) (has_same_table (es ++ t ∷ later)) h in
    let split : (list_any (λ u. bytes_eq e.0 u.0) es || list_any (λ u. bytes_eq e.0 u.0) (t ∷ later)) ≡ false = sym (list_any-append (λ u. bytes_eq e.0 u.0) es (t ∷ later)) ∙ parts.0 in
    let here = or_parts (bytes_eq e.0 t.0) (list_any (λ u. bytes_eq e.0 u.0) later) (or_parts (list_any (λ u. bytes_eq e.0 u.0) es) (list_any (λ u. bytes_eq e.0 u.0) (t ∷ later)) split).1 in
    rw (differ_both_ways e.0 t.0 here.0, names-apart es t later parts.1) refl

some_column : (columns : List Column) → is_key_int columns ≡ true → (length columns == 0) ≡ false
some_column [] h = cc
some_column (c ∷ columns) h = grind (arith, nat_tests)

no_table_fault : (earlier : Tables) (t : List ℕ × TableDef) (later : Tables) → Sound t → has_same_table (earlier ++ t ∷ later) ≡ false → length (earlier ++ t ∷ later) ≤ max_tables
    → table_fault earlier t.0 t.1 ≡ None
no_table_fault earlier t later sound differ few =
    let rest : length earlier < max_tables = omega (arith, length-append earlier (t ∷ later)) in
    let tables_room : nat_le max_tables (length earlier) ≡ false = grind (arith, nat_tests) in
    let few_columns : length t.1.columns ≤ max_columns = sound.1.few_columns in
    let columns_room : nat_lt max_columns (length t.1.columns) ≡ false = grind (arith, nat_tests) in
    simp (sound.0, sound.1.columns_are_named, names-apart earlier t later differ, some_column t.1.columns sound.1.key_is_int, sound.1.key_is_int, sound.1.names_differ, tables_room, columns_room)

-- ---- the tables of a catalog, one after another

table-decoded : (earlier : Tables) (t : List ℕ × TableDef) (later : Tables) → Sound t → has_same_table (earlier ++ t ∷ later) ≡ false → length (earlier ++ t ∷ later) ≤ max_tables
    → table_after earlier (data_of_table t) ≡ Ok (earlier ++ t ∷ [])
unfolding table_after
table-decoded earlier t later sound differ few =
    let columns = columns-back t sound in
    simp (columns.decoded, no_table_fault earlier t later sound differ few)

tables-decoded : (earlier later : Tables) (i : ℕ) → Every Sound later → has_same_table (earlier ++ later) ≡ false → length (earlier ++ later) ≤ max_tables
    → fold_items table_after i earlier (list_of (meanings data_of_table later)) ≡ Ok (earlier ++ later)
tables-decoded earlier [] i sound differ few = ap (λ ts. Ok ts) (sym (append-nil earlier))
tables-decoded earlier (t ∷ ts) i sound differ few =
    let same : (earlier ++ t ∷ []) ++ ts ≡ earlier ++ t ∷ ts = append_assoc earlier (t ∷ []) ts in
    let first = table-decoded earlier t ts sound.0 differ few in
    let rest = tables-decoded (earlier ++ t ∷ []) ts (suc i) sound.1 (ap has_same_table same ∙ differ) (subst (λ us. length us ≤ max_tables) (sym same) few) in
    simp first (rest ∙ ap (λ us. Ok us) same)

abbrev pub json_of_tables : Tables → json.Json
json_of_tables tables = json.array (trees json_of_table tables)

abbrev pub data_of_tables : Tables → Data
data_of_tables tables = spec.array (meanings data_of_table tables)

pub tables-back : (tables : Tables) → IsCatalog tables → IsReadBack 4 (json_of_tables tables) (tables_text tables) (data_of_tables tables) catalog tables
tables-back tables sound =
    let each_is_sound : Every Sound tables = every-both (λ t. is_name t.0 ≡ true) (λ t. IsTable t.1) Sound tables (λ t named def. (named, def)) (every _ tables sound.tables_are_named) (every _ tables sound.sound) in
    let items = array-back 3 json_of_table table_text data_of_table one_table tables (every-then Sound _ tables table-back each_is_sound) in
    also-back 4 (json_of_tables tables) (tables_text tables) (data_of_tables tables) (array_of one_table) tables catalog tables items
    (tables-decoded [] tables 0 each_is_sound sound.names_differ sound.few_tables)

-- the tables of a catalog are read back
pub tables_are_read_back : TablesAreReadBack
tables_are_read_back tables sound = read-back 4 (json_of_tables tables) (tables_text tables) (data_of_tables tables) catalog tables (tables-back tables sound) (omega arith)
