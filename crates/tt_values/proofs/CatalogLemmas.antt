-- The tables of a catalog, and the entries of its map.
use Rattle.std.proofs.Common.{◌≡◌, ℕ, ◌<◌, ◌≤◌, Bool, true, false, cond, ◌||◌, ◌&&◌, nat_le, nat_lt, List, [], ◌∷◌, ◌++◌, map, length, Some, None, is_some, slice_get, IsTrue, String, Global, refl, sym, ap, subst, ◌∙◌, arith, length-append}
use Rattle.std.specs.List.{list_any, list_all, position}
use Rattle.std.specs.Option.{option_map}
use Rattle.std.proofs.lemmas.Option.{slice_get-map, slice_get_within, get_or_from_slice_get}
use Rattle.std.specs.Map.{keys_of, lookup}
use Rattle.std.specs.Str.{bytes_eq}
use Rattle.std.specs.String.{string_bytes, string_eq}
use Rattle.std.proofs.lemmas.List.Elements.{All-push}
use Rattle.std.proofs.lemmas.Bool.{or_parts}
use Rattle.std.proofs.lemmas.Bool.Decides.{nat_tests}
use Rattle.std.proofs.lemmas.Slice.Eq.{bytes_eq-Decides}
use Rattle.indexmap.specs.IndexMap.{insert_entry}
use Rattle.tt_values.proofs.Positions.{position-map}
use Rattle.tt_values.proofs.FaultLemmas.{NoneHolds, none_holds, true_from_not}
use Rattle.tt_values.specs.Limits.{max_tables, max_columns}
use Rattle.tt_values.specs.declared.table.TableDef.{TableDef}
use Rattle.tt_values.specs.Tables.{Tables, table_position, is_key_int, IsTable, IsCatalog, is_name, has_same_name, has_same_table}
use Rattle.tt_values.specs.Catalog.{table_tests, table_fault}
use Rattle.tt_values.specs.Laws.{CatalogsGrow}

-- the tables of a map's entries
abbrev pub tables_of : List (String Global × TableDef) → Tables
tables_of es = map (λ t. (string_bytes t.0, t.1)) es

-- a table has the same position as its name among the keys
pub table_position-keys : (es : List (String Global × TableDef)) (name : List ℕ) → table_position (tables_of es) name ≡ position (λ k. bytes_eq name (string_bytes k)) (keys_of es)
table_position-keys es name = position-map (λ t. bytes_eq name t.0) (λ t. (string_bytes t.0, t.1)) es ∙ sym (position-map (λ k. bytes_eq name (string_bytes k)) (λ e. e.0) es)

-- a name is a table's exactly if it is a key
pub is_some-lookup : (es : List (String Global × TableDef)) (name : List ℕ) → is_some (lookup (λ k. bytes_eq name (string_bytes k)) es) ≡ list_any (λ t. bytes_eq name t.0) (tables_of es)
is_some-lookup [] name = refl
is_some-lookup (e ∷ es) name =
    elim (bytes_eq name (string_bytes e.0)) as (λ b. is_some (cond b (Some e.1) (lookup (λ k. bytes_eq name (string_bytes k)) es)) ≡ (b || list_any (λ t. bytes_eq name t.0) (tables_of es))) [ true ↦ refl | false ↦ is_some-lookup es name ]

-- an entry with a new key is a table at the end
pub tables_of-insert : (es : List (String Global × TableDef)) (key : String Global) (def : TableDef) → list_any (λ t. bytes_eq (string_bytes key) t.0) (tables_of es) ≡ false → tables_of (insert_entry string_eq es key def) ≡ tables_of es ++ (string_bytes key, def) ∷ []
tables_of-insert [] key def h = refl
tables_of-insert (e ∷ es) key def h = by (string_eq key e.0) h (tables_of-insert es key def)
  where
    by : (b : Bool) → (b || list_any (λ t. bytes_eq (string_bytes key) t.0) (tables_of es)) ≡ false
        → (list_any (λ t. bytes_eq (string_bytes key) t.0) (tables_of es) ≡ false → tables_of (insert_entry string_eq es key def) ≡ tables_of es ++ (string_bytes key, def) ∷ [])
        → tables_of (cond b ((e.0, def) ∷ es) (e ∷ insert_entry string_eq es key def)) ≡ tables_of (e ∷ es) ++ (string_bytes key, def) ∷ []
    by true g rest = cc
    by false g rest = ap (λ ts. (string_bytes e.0, e.1) ∷ ts) (rest g)

-- neither number is past its bound
both_within : (m n : ℕ) → (nat_le max_tables m || nat_lt max_columns n) ≡ false → (m < max_tables) × (n ≤ max_columns)
both_within m n h = (grind (arith, nat_tests), grind (arith, nat_tests))

-- the tests that a table without a fault passes
pub record IsAccepted (tables : Tables) (name : List ℕ) (def : TableDef) : Type 0 where
  pub is_new : list_any (λ t. bytes_eq name t.0) tables ≡ false
  pub key_is_int : IsTrue (is_key_int def.columns)
  pub has_room : length tables < max_tables
  pub few_columns : length def.columns ≤ max_columns
  pub names_are_valid : (is_name name && list_all (λ c. is_name c.name) def.columns) ≡ true
  pub names_differ : has_same_name def.columns ≡ false

pub accepted_without_fault : (tables : Tables) (name : List ℕ) (def : TableDef) → table_fault tables name def ≡ None → IsAccepted tables name def
accepted_without_fault tables name def h =
    let none = none_holds (table_tests tables name def) h in
    record {
      is_new = none.1.0;
      key_is_int = true_from_not (is_key_int def.columns) none.1.1.1.0;
      has_room = (room none).0;
      few_columns = (room none).1;
      names_are_valid = true_from_not (is_name name && list_all (λ c. is_name c.name) def.columns) none.0;
      names_differ = none.1.1.1.1.0;
    }
  where
    room : NoneHolds (table_tests tables name def) → (length tables < max_tables) × (length def.columns ≤ max_columns)
    room none = both_within (length tables) (length def.columns) none.1.1.1.1.1.0

-- names that differ one way differ the other way
differ_both_ways : (xs ys : List ℕ) → bytes_eq xs ys ≡ false → bytes_eq ys xs ≡ false
differ_both_ways xs ys h = by (bytes_eq ys xs) refl
  where
    by : (b : Bool) → bytes_eq ys xs ≡ b → b ≡ false
    by false e = refl
    by true e =
        let same : ys ≡ xs = (bytes_eq-Decides ys xs).0 e in
        let clash = sym ((bytes_eq-Decides xs ys).1 (sym same)) ∙ h in
        cc

none_with : (name : List ℕ) (ts : Tables) (t : List ℕ × TableDef) → list_any (λ u. bytes_eq name u.0) ts ≡ false → bytes_eq name t.0 ≡ false → list_any (λ u. bytes_eq name u.0) (ts ++ t ∷ []) ≡ false
none_with name [] t h e = ap (λ b. b || false) e
none_with name (u ∷ ts) t h e =
    let both = or_parts (bytes_eq name u.0) (list_any (λ v. bytes_eq name v.0) ts) h in
    (λ i. both.0 i || none_with name ts t both.1 e i)

-- after a table with a new name is added, all names still differ
names_differ-push : (ts : Tables) (t : List ℕ × TableDef) → has_same_table ts ≡ false → list_any (λ u. bytes_eq t.0 u.0) ts ≡ false → has_same_table (ts ++ t ∷ []) ≡ false
names_differ-push [] t old new = refl
names_differ-push (u ∷ ts) t old new =
    let apart = or_parts (list_any (λ v. bytes_eq u.0 v.0) ts) (has_same_table ts) old in
    let other = or_parts (bytes_eq t.0 u.0) (list_any (λ v. bytes_eq t.0 v.0) ts) new in
    (λ i. none_with u.0 ts t apart.0 (differ_both_ways t.0 u.0 other.0) i || names_differ-push ts t apart.1 other.1 i)

-- a catalog is still one after a table that passes the tests is added
catalog_with : (tables : Tables) (name : List ℕ) (def : TableDef) → IsCatalog tables → IsAccepted tables name def → IsCatalog (tables ++ (name, def) ∷ [])
catalog_with tables name def old new =
    let table : IsTable def = record { key_is_int = new.key_is_int; few_columns = new.few_columns; columns_are_named = both_named.1; names_differ = new.names_differ } in
    record {
      few_tables = omega (arith, length-append tables ((name, def) ∷ []), new.has_room);
      sound = All-push (λ t. IsTable t.1) tables (name, def) old.sound table;
      tables_are_named = All-push (λ t. IsTrue (is_name t.0)) tables (name, def) old.tables_are_named both_named.0;
      names_differ = names_differ-push tables (name, def) old.names_differ new.is_new;
    }
  where
    split : (a b : Bool) → (a && b) ≡ true → IsTrue a × IsTrue b
    split true b h = (refl, h)
    split false b h = cc

    both_named : IsTrue (is_name name) × IsTrue (list_all (λ c. is_name c.name) def.columns)
    both_named = split _ _ new.names_are_valid

pub catalogs_grow : CatalogsGrow
catalogs_grow tables name def old h = catalog_with tables name def old (accepted_without_fault tables name def h)

-- the tables after the entry of a table without a fault is inserted
pub tables_after : (es : List (String Global × TableDef)) (key : String Global) (def : TableDef) → table_fault (tables_of es) (string_bytes key) def ≡ None → tables_of (insert_entry string_eq es key def) ≡ tables_of es ++ (string_bytes key, def) ∷ []
tables_after es key def h = tables_of-insert es key def (accepted_without_fault (tables_of es) (string_bytes key) def h).is_new

pub catalog_after : (es : List (String Global × TableDef)) (key : String Global) (def : TableDef) → IsCatalog (tables_of es) → table_fault (tables_of es) (string_bytes key) def ≡ None → IsCatalog (tables_of (insert_entry string_eq es key def))
catalog_after es key def old h = subst IsCatalog (sym (tables_after es key def h)) (catalogs_grow (tables_of es) (string_bytes key) def old h)

-- every table of a catalog is valid
pub sound_at : (es : List (String Global × TableDef)) (i : ℕ) (key : String Global) (def : TableDef) → IsCatalog (tables_of es) → Some (key, def) ≡ slice_get es i → IsTable def
sound_at es i key def catalog there =
    let table : List ℕ × TableDef = (string_bytes key, def) in
    let at : slice_get (tables_of es) i ≡ Some table = slice_get-map (λ t. (string_bytes t.0, t.1)) es i ∙ ap (option_map (λ t. (string_bytes t.0, t.1))) (sym there) in
    subst (λ t. IsTable t.1) (get_or_from_slice_get (tables_of es) i table table at) (catalog.sound i table (slice_get_within (tables_of es) i table at))
