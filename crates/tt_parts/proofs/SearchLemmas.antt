-- What a search of nested maps finds, and how it changes.
use Rattle.std.proofs.Common.{◌≡◌, ℕ, ℤ, pos, Bool, true, false, cond, ◌&&◌, ◌||◌, ◌==◌, List, [], ◌∷◌, ◌++◌, map, filter, drop, Option, None, Some, is_some, IsTrue, if◌then◌else◌, refl, sym, ap, subst, ◌∙◌, eqb-true, eq-eqb}
use Rattle.std.specs.List.{list_any, flat_map}
use Rattle.std.specs.Option.{unwrap_or, IfSome}
use Rattle.std.specs.Ordering.{int_cmp, int_eq}
use Rattle.std.specs.Cmp.{int_cmp_total}
use Rattle.std.specs.FinMap.Entries as sorted
use Rattle.std.proofs.lemmas.Bool.{and_parts, and_from, or_left, or_right}
use Rattle.std.proofs.lemmas.Bool.Decides.{same_from_decides, Decides-like, Decides-eqb, Decides-int_eq}
use Rattle.std.proofs.lemmas.List.Folds.{list_any-append}
use Rattle.std.proofs.lemmas.Map.Views.{any-filter_same}
use Rattle.tt_values.specs.declared.row.Row.{Row}
use Rattle.tt_values.specs.declared.row_id.RowId.{RowId}
use Rattle.tt_values.specs.declared.table.Column.{Column}
use Rattle.tt_values.specs.declared.value.Value.{Value}
use Rattle.tt_values.specs.declared.value.Value.TheVariants as values
use Rattle.tt_values.specs.Row.{first_int}
use Rattle.tt_values.specs.Value.{is_same}
use Rattle.tt_values.specs.Digest.{digest_of}
use Rattle.tt_parts.specs.declared.partition.Partition.{Partition}
use Rattle.tt_parts.specs.declared.dirty_keys.DirtyKeys.{DirtyKeys}
use Rattle.tt_parts.specs.declared.same_digest.DirtyValue.{DirtyValue}
use Rattle.tt_parts.specs.Partitions.{parts_from, key_partition, is_same_partition, is_partition_in}
use Rattle.tt_parts.specs.Dirty.{is_row_in, is_table_in, SameRows, SamePartitions, SameMembers, HaveKeyPartitions, with_row, partitions_with_row, number_of, row_since, partition_since, table_since, NumbersAgree, since_or, IsSinceWithRow}
use Rattle.tt_parts.specs.Sets.{under, KeysByTable, ValuesByDigest, ValuesByColumn, ValuesByTable, is_filled, no_keys, keys_in, key_since, first_since, row_since_in, table_since_in, finds_row, finds_table, since_among, value_since, since_in_column, partition_since_in, finds_partition, with_key, with_value, with_value_in, rows_of_table, rows_found, partitions_of_values, partitions_of_column, partitions_of_table, partitions_found, dirty_found, numbered, since_found, PutsRow, AddsRow, AddsPartitions}
use Rattle.tt_parts.proofs.SoundnessLemmas.{equal_values, is_same_partition-itself, equal_partitions}
use Rattle.tt_parts.proofs.DirtySetLemmas.{agree, is_table_in-row, row_of_table}

-- ---- one level of maps

same_key : (q key : ℤ) → int_eq q key ≡ true → q ≡ key
same_key q key = (Decides-int_eq q key).0

int_eq-pos : (m n : ℕ) → int_eq (pos m) (pos n) ≡ (m == n)
int_eq-pos m n = same_from_decides _ _ (Decides-like (int_eq (pos m) (pos n)) (λ (e : pos m ≡ pos n). cc) (ap pos) (Decides-int_eq (pos m) (pos n))) (Decides-eqb m n)

-- a value is put at a key, where others give one for it
found-put : {X : Type 0} (other : X) (key : ℤ) (x : X) (before : List (ℤ × X)) (q : ℤ) → unwrap_or (sorted.find int_cmp q (sorted.put int_cmp key x before)) other ≡ cond (int_eq q key) x (unwrap_or (sorted.find int_cmp q before) other)
found-put other key x before q = ap (λ o. unwrap_or o other) (sorted.find-put int_cmp int_cmp_total q key x before) ∙ by (int_eq q key)
  where
    by : (b : Bool) → unwrap_or (cond b (Some x) (sorted.find int_cmp q before)) other ≡ cond b x (unwrap_or (sorted.find int_cmp q before) other)
    by true = refl
    by false = refl

-- the same at a position
at-put : {X : Type 0} (other : X) (position : ℕ) (x : X) (before : List (ℤ × X)) (p : ℕ) → unwrap_or (sorted.find int_cmp (pos p) (sorted.put int_cmp (pos position) x before)) other ≡ cond (p == position) x (unwrap_or (sorted.find int_cmp (pos p) before) other)
at-put other position x before p = found-put other (pos position) x before (pos p) ∙ ap (λ b. cond b x (unwrap_or (sorted.find int_cmp (pos p) before) other)) (int_eq-pos p position)

-- a test of the value at a key, where it holds, holds of an item of the whole map
any-under : {X Y : Type 0} (f : ℤ × X → List Y) (test : Y → Bool) (finds : X → Bool) (other : X) (key : ℤ) (entries : List (ℤ × X)) → finds other ≡ false
    → ((x : X) → finds x ≡ true → list_any test (f (key, x)) ≡ true) → finds (unwrap_or (sorted.find int_cmp key entries) other) ≡ true → list_any test (flat_map f entries) ≡ true
any-under f test finds other key [] none some h = cc
any-under f test finds other key (e ∷ es) none some h = list_any-append test (f e) (flat_map f es) ∙ by (int_eq key e.0) refl h (any-under f test finds other key es none some)
  where
    by : (b : Bool) → int_eq key e.0 ≡ b → finds (unwrap_or (cond b (Some e.1) (sorted.find int_cmp key es)) other) ≡ true → (finds (unwrap_or (sorted.find int_cmp key es) other) ≡ true → list_any test (flat_map f es) ≡ true)
        → (list_any test (f e) || list_any test (flat_map f es)) ≡ true
    by true same g rest = or_left _ _ (subst (λ k. list_any test (f (k, e.1)) ≡ true) (same_key key e.0 same) (some e.1 g))
    by false other g rest = or_right (list_any test (f e)) _ (rest g)

-- the items that a search finds, where it finds no other
any-found : {X : Type 0} (test found : X → Bool) (b : Bool) (xs : List X) → ((x : X) → test x ≡ true → found x ≡ b) → (b ≡ true → list_any test xs ≡ true) → list_any test (filter found xs) ≡ b
any-found test found true xs same all = any-filter_same test found true same xs ∙ all refl
any-found test found false xs same all = any-filter_same test found false same xs

-- ---- numbers that stay, and those that come

-- where each that is added has a number, all stay
since_or-there : (o : Option ℕ) (b : Bool) (number : ℕ) → (b ≡ true → is_some o ≡ true) → o ≡ since_or o b number
since_or-there None true number there = cc (there refl)
since_or-there None false number there = refl
since_or-there (Some old) b number there = refl

-- where none is added, all stay
since_or-none : (o : Option ℕ) (number : ℕ) → o ≡ since_or o false number
since_or-none None number = refl
since_or-none (Some old) number = refl

-- what has a number afterwards
is_some-since_or : (o : Option ℕ) (b : Bool) (number : ℕ) → is_some (since_or o b number) ≡ (b || is_some o)
is_some-since_or None true number = refl
is_some-since_or None false number = refl
is_some-since_or (Some old) true number = refl
is_some-since_or (Some old) false number = refl

-- one after another
since_or-then : (o : Option ℕ) (a b : Bool) (number : ℕ) → since_or (since_or o a number) b number ≡ since_or o (a || b) number
since_or-then None true b number = refl
since_or-then None false b number = refl
since_or-then (Some old) a b number = refl

-- ---- rows

any-key : (table : ℕ) (key : ℤ) (since : ℕ) (numbers : List (ℤ × ℕ)) → is_some (sorted.find int_cmp key numbers) ≡ true → is_row_in (rows_of_table (pos table, record { since = since; numbers = numbers })) table key ≡ true
any-key table key since [] h = cc
any-key table key since (k ∷ ks) h = by (int_eq key k.0) h (any-key table key since ks)
  where
    rows : List RowId
    rows = rows_of_table (pos table, record { since = since; numbers = ks })

    here : (table == table) ≡ true
    here = eq-eqb table table refl

    by : (b : Bool) → is_some (cond b (Some k.1) (sorted.find int_cmp key ks)) ≡ true → (is_some (sorted.find int_cmp key ks) ≡ true → is_row_in rows table key ≡ true)
        → (((table == table) && b) || is_row_in rows table key) ≡ true
    by true g rest = or_left _ _ (and_from _ _ here refl)
    by false g rest = or_right ((table == table) && false) _ (rest g)

pub rows_found_are : (tables : KeysByTable) (table : ℕ) (key : ℤ) → is_row_in (rows_found tables) table key ≡ finds_row tables table key
rows_found_are tables table key =
    any-found (λ r. (table == r.table) && int_eq key r.key) (λ r. finds_row tables r.table r.key) (finds_row tables table key) (flat_map rows_of_table tables) same
    (any-under rows_of_table (λ r. (table == r.table) && int_eq key r.key) (λ keys. is_some (key_since keys key)) no_keys (pos table) tables refl (λ keys. any-key table key keys.since keys.numbers))
  where
    same : (r : RowId) → ((table == r.table) && int_eq key r.key) ≡ true → finds_row tables r.table r.key ≡ finds_row tables table key
    same r h =
        let both = and_parts (table == r.table) (int_eq key r.key) h in
        let t = eqb-true table r.table both.0 in
        let k = same_key key r.key both.1 in
        λ i. finds_row tables (sym t i) (sym k i)

-- a table whose keys have this one has a key
filled : (numbers : List (ℤ × ℕ)) (key : ℤ) → is_some (sorted.find int_cmp key numbers) ≡ true → is_filled numbers ≡ true
filled [] key h = cc
filled (k ∷ ks) key h = refl

pub tables_found_are : (tables : KeysByTable) (table : ℕ) → is_table_in (rows_found tables) table ≡ finds_table tables table
tables_found_are tables table = agree (is_table_in (rows_found tables) table) (finds_table tables table) there back
  where
    there : is_table_in (rows_found tables) table ≡ true → finds_table tables table ≡ true
    there h =
        let row = row_of_table (rows_found tables) table h in
        filled (keys_in table tables).numbers row.0 (sym (rows_found_are tables table row.0) ∙ row.1)

    first : (numbers : List (ℤ × ℕ)) → is_filled numbers ≡ true → (key : ℤ) × (is_some (sorted.find int_cmp key numbers) ≡ true)
    first [] h = cc
    first (k ∷ ks) h = (k.0, ap (λ b. is_some (cond b (Some k.1) (sorted.find int_cmp k.0 ks))) ((Decides-int_eq k.0 k.0).1 refl))

    back : finds_table tables table ≡ true → is_table_in (rows_found tables) table ≡ true
    back h =
        let key = first (keys_in table tables).numbers h in
        is_table_in-row (rows_found tables) table key.0 (rows_found_are tables table key.0 ∙ key.1)

-- a table has a number where it has a row
table_since_in-found : (tables : KeysByTable) (table : ℕ) → is_some (table_since_in tables table) ≡ finds_table tables table
table_since_in-found tables table = by (is_filled (keys_in table tables).numbers)
  where
    by : (b : Bool) → is_some (if b then Some (keys_in table tables).since else None) ≡ b
    by true = refl
    by false = refl

-- ---- partitions

any-value : (table column : ℕ) (v : Value) (key : ℤ) (values : List DirtyValue) → is_some (since_among values v) ≡ true
    → is_partition_in (partitions_of_values table column (key, values)) (record { table = table; column = column; value = v }) ≡ true
any-value table column v key [] h = cc
any-value table column v key (d ∷ ds) h = by (is_same v d.value) h (any-value table column v key ds)
  where
    rest : Bool
    rest = is_partition_in (partitions_of_values table column (key, ds)) (record { table = table; column = column; value = v })

    here : ((table == table) && (column == column)) ≡ true
    here = and_from _ _ (eq-eqb table table refl) (eq-eqb column column refl)

    by : (b : Bool) → is_some (if b then Some d.since else since_among ds v) ≡ true → (is_some (since_among ds v) ≡ true → rest ≡ true)
        → ((((table == table) && (column == column)) && b) || rest) ≡ true
    by true g later = or_left _ _ (and_from _ _ here refl)
    by false g later = or_right (((table == table) && (column == column)) && false) _ (later g)

pub partitions_found_are : (tables : ValuesByTable) (p : Partition) → is_partition_in (partitions_found tables) p ≡ finds_partition tables p
partitions_found_are tables p =
    any-found (is_same_partition p) (finds_partition tables) (finds_partition tables p) (flat_map partitions_of_table tables)
    (λ q h. ap (finds_partition tables) (sym (equal_partitions p q h))) in_tables
  where
    in_column : (values : ValuesByDigest) → is_some (value_since values p.value) ≡ true → list_any (is_same_partition p) (partitions_of_column p.table (pos p.column, values)) ≡ true
    in_column values = any-under (partitions_of_values p.table p.column) (is_same_partition p) (λ ds. is_some (since_among ds p.value)) [] (digest_of p.value) values refl (any-value p.table p.column p.value (digest_of p.value))

    in_table : (columns : ValuesByColumn) → is_some (since_in_column columns p.column p.value) ≡ true → list_any (is_same_partition p) (partitions_of_table (pos p.table, columns)) ≡ true
    in_table columns = any-under (partitions_of_column p.table) (is_same_partition p) (λ values. is_some (value_since values p.value)) [] (pos p.column) columns refl in_column

    in_tables : finds_partition tables p ≡ true → list_any (is_same_partition p) (flat_map partitions_of_table tables) ≡ true
    in_tables = any-under partitions_of_table (is_same_partition p) (λ columns. is_some (since_in_column columns p.column p.value)) [] (pos p.table) tables refl in_table

-- ---- one row more

-- the keys of a table after one of them gets a number
pub PutsRow-put : (before : KeysByTable) (table : ℕ) (key : ℤ) (number : ℕ) → PutsRow before table key number (sorted.put int_cmp (pos table) (with_key key number (keys_in table before)) before)
PutsRow-put before table key number = record { rows = rows; tables = tables }
  where
    keys : DirtyKeys
    keys = keys_in table before

    after : KeysByTable
    after = sorted.put int_cmp (pos table) (with_key key number keys) before

    rows : (t : ℕ) (k : ℤ) → row_since_in after t k ≡ (if (t == table) && int_eq k key then Some number else row_since_in before t k)
    rows t k = ap (λ (ks : DirtyKeys). key_since ks k) (at-put no_keys table (with_key key number keys) before t) ∙ by (t == table) refl
      where
        one_more : (b : Bool) → cond b (Some number) (key_since keys k) ≡ (if b then Some number else key_since keys k)
        one_more true = refl
        one_more false = refl

        by : (a : Bool) → (t == table) ≡ a → key_since (cond a (with_key key number keys) (keys_in t before)) k ≡ (if a && int_eq k key then Some number else row_since_in before t k)
        by true same =
            sorted.find-put int_cmp int_cmp_total k key number keys.numbers ∙ one_more (int_eq k key)
            ∙ ap (λ n. if int_eq k key then Some number else row_since_in before n k) (sym (eqb-true t table same))
        by false other = refl

    tables : (t : ℕ) → table_since_in after t ≡ since_or (table_since_in before t) (t == table) number
    tables t = ap first_since (at-put no_keys table (with_key key number keys) before t) ∙ by (t == table) refl
      where
        is_there : is_filled (sorted.put int_cmp key number keys.numbers) ≡ true
        is_there = filled (sorted.put int_cmp key number keys.numbers) key (ap is_some (sorted.find-put int_cmp int_cmp_total key key number keys.numbers ∙ ap (λ b. cond b (Some number) (key_since keys key)) ((Decides-int_eq key key).1 refl)))

        first : (b : Bool) → Some (if b then keys.since else number) ≡ since_or (if b then Some keys.since else None) true number
        first true = refl
        first false = refl

        by : (a : Bool) → (t == table) ≡ a → first_since (cond a (with_key key number keys) (keys_in t before)) ≡ since_or (table_since_in before t) a number
        by true same =
            ap (λ b. if b then Some (with_key key number keys).since else None) is_there ∙ first (is_filled keys.numbers)
            ∙ ap (λ n. since_or (table_since_in before n) true number) (sym (eqb-true t table same))
        by false other = since_or-none (table_since_in before t) number

-- a row that isn't there
pub AddsRow-new : (before after : KeysByTable) (table : ℕ) (key : ℤ) (number : ℕ) → is_row_in (rows_found before) table key ≡ false → PutsRow before table key number after → AddsRow before table key number after
AddsRow-new before after table key number new puts = record {
  rows = λ t k. puts.rows t k ∙ by t k (t == table) refl (int_eq k key) refl;
  tables = puts.tables;
}
  where
    fresh : (o : Option ℕ) → is_some o ≡ false → Some number ≡ since_or o true number
    fresh None e = refl
    fresh (Some old) e = cc

    by : (t : ℕ) (k : ℤ) (a : Bool) → (t == table) ≡ a → (b : Bool) → int_eq k key ≡ b → (if a && b then Some number else row_since_in before t k) ≡ since_or (row_since_in before t k) (a && b) number
    by t k true same true equal =
        fresh (row_since_in before t k) ((λ i. is_some (row_since_in before (eqb-true t table same i) (same_key k key equal i))) ∙ sym (rows_found_are before table key) ∙ new)
    by t k true same false other = since_or-none (row_since_in before t k) number
    by t k false other b e = since_or-none (row_since_in before t k) number

-- a row that is there already
pub AddsRow-there : (tables : KeysByTable) (table : ℕ) (key : ℤ) (number : ℕ) → is_row_in (rows_found tables) table key ≡ true → AddsRow tables table key number tables
AddsRow-there tables table key number there = record {
  rows = λ t k. since_or-there (row_since_in tables t k) ((t == table) && int_eq k key) number (λ same.
      let both = and_parts (t == table) (int_eq k key) same in
      (λ i. is_some (row_since_in tables (eqb-true t table both.0 i) (same_key k key both.1 i))) ∙ found);
  tables = λ t. since_or-there (table_since_in tables t) (t == table) number (λ same.
      ap (λ n. is_some (table_since_in tables n)) (eqb-true t table same) ∙ table_since_in-found tables table ∙ filled (keys_in table tables).numbers key found);
}
  where
    found : finds_row tables table key ≡ true
    found = sym (rows_found_are tables table key) ∙ there

pub SameRows-add : (before after : KeysByTable) (table : ℕ) (key : ℤ) (number : ℕ) → AddsRow before table key number after → SameRows (rows_found after) (record { table = table; key = key } ∷ rows_found before)
SameRows-add before after table key number adds t k =
    rows_found_are after t k ∙ ap is_some (adds.rows t k) ∙ is_some-since_or (row_since_in before t k) ((t == table) && int_eq k key) number
    ∙ ap (λ b. ((t == table) && int_eq k key) || b) (sym (rows_found_are before t k))

-- ---- numbers of members

number_of-any : {X : Type 0} (is_it : X → Bool) (since : X → Option ℕ) (o : Option ℕ) (xs : List X) → ((x : X) → is_it x ≡ true → since x ≡ o) → number_of is_it (numbered since xs) ≡ (if list_any is_it xs then Some (unwrap_or o 0) else None)
number_of-any is_it since o [] same = refl
number_of-any is_it since o (x ∷ xs) same = by (is_it x) refl (number_of-any is_it since o xs same)
  where
    by : (b : Bool) → is_it x ≡ b → number_of is_it (numbered since xs) ≡ (if list_any is_it xs then Some (unwrap_or o 0) else None)
        → (if b then Some (unwrap_or (since x) 0) else number_of is_it (numbered since xs)) ≡ (if b || list_any is_it xs then Some (unwrap_or o 0) else None)
    by true e rest = ap (λ n. Some (unwrap_or n 0)) (same x e)
    by false e rest = rest

-- the number of a member is the one that is searched for it
number_of-numbered : {X : Type 0} (is_it : X → Bool) (since : X → Option ℕ) (o : Option ℕ) (xs : List X) → ((x : X) → is_it x ≡ true → since x ≡ o) → list_any is_it xs ≡ is_some o → number_of is_it (numbered since xs) ≡ o
number_of-numbered is_it since o xs same there = number_of-any is_it since o xs same ∙ ap (λ b. if b then Some (unwrap_or o 0) else None) there ∙ whole o
  where
    whole : (o : Option ℕ) → (if is_some o then Some (unwrap_or o 0) else None) ≡ o
    whole None = refl
    whole (Some n) = refl

pub row_since-found : (rows : KeysByTable) (partitions : ValuesByTable) (table : ℕ) (key : ℤ) → row_since (since_found rows partitions) table key ≡ row_since_in rows table key
row_since-found rows partitions table key = number_of-numbered (λ r. (table == r.table) && int_eq key r.key) (λ r. row_since_in rows r.table r.key) (row_since_in rows table key) (rows_found rows) same (rows_found_are rows table key)
  where
    same : (r : RowId) → ((table == r.table) && int_eq key r.key) ≡ true → row_since_in rows r.table r.key ≡ row_since_in rows table key
    same r h =
        let both = and_parts (table == r.table) (int_eq key r.key) h in
        let t = eqb-true table r.table both.0 in
        let k = same_key key r.key both.1 in
        λ i. row_since_in rows (sym t i) (sym k i)

pub partition_since-found : (rows : KeysByTable) (partitions : ValuesByTable) (p : Partition) → partition_since (since_found rows partitions) p ≡ partition_since_in partitions p
partition_since-found rows partitions p = number_of-numbered (is_same_partition p) (partition_since_in partitions) (partition_since_in partitions p) (partitions_found partitions)
    (λ q h. ap (partition_since_in partitions) (sym (equal_partitions p q h))) (partitions_found_are partitions p)

pub table_since-found : (rows : KeysByTable) (partitions : ValuesByTable) (table : ℕ) → table_since (since_found rows partitions) table ≡ table_since_in rows table
table_since-found rows partitions table = number_of-numbered (λ t. table == t) (table_since_in rows) (table_since_in rows table) (map (λ r. r.table) (rows_found rows))
    (λ t h. ap (table_since_in rows) (sym (eqb-true table t h))) (of_rows (rows_found rows) ∙ tables_found_are rows table ∙ sym (table_since_in-found rows table))
  where
    of_rows : (rs : List RowId) → list_any (λ t. table == t) (map (λ r. r.table) rs) ≡ is_table_in rs table
    of_rows [] = refl
    of_rows (r ∷ rs) = λ j. (table == r.table) || of_rows rs j

pub NumbersAgree-found : (rows : KeysByTable) (partitions : ValuesByTable) → NumbersAgree (dirty_found rows partitions) (since_found rows partitions)
NumbersAgree-found rows partitions = record {
  rows = λ t k. ap is_some (row_since-found rows partitions t k) ∙ sym (rows_found_are rows t k);
  partitions = λ p. ap is_some (partition_since-found rows partitions p) ∙ sym (partitions_found_are partitions p);
  tables = λ t. ap is_some (table_since-found rows partitions t) ∙ table_since_in-found rows t ∙ sym (tables_found_are rows t);
}

-- ---- partitions more

-- one value more at the end
since_among-last : (v : Value) (d : DirtyValue) (values : List DirtyValue) → since_among (values ++ d ∷ []) v ≡ since_or (since_among values v) (is_same v d.value) d.since
since_among-last v d [] = by (is_same v d.value)
  where
    by : (b : Bool) → (if b then Some d.since else None) ≡ since_or None b d.since
    by true = refl
    by false = refl
since_among-last v d (e ∷ es) = by (is_same v e.value) (since_among-last v d es)
  where
    by : (b : Bool) → since_among (es ++ d ∷ []) v ≡ since_or (since_among es v) (is_same v d.value) d.since
        → (if b then Some e.since else since_among (es ++ d ∷ []) v) ≡ since_or (if b then Some e.since else since_among es v) (is_same v d.value) d.since
    by true rest = refl
    by false rest = rest

-- the values of a column get one more
value_since-more : (before : ValuesByDigest) (d : DirtyValue) (v : Value) → value_since (with_value d before) v ≡ since_or (value_since before v) (is_same v d.value) d.since
value_since-more before d v =
    ap (λ (ds : List DirtyValue). since_among ds v) (found-put [] (digest_of d.value) values before (digest_of v)) ∙ by (int_eq (digest_of v) (digest_of d.value)) refl
  where
    values : List DirtyValue
    values = under (digest_of d.value) before ++ d ∷ []

    differ : (b : Bool) → is_same v d.value ≡ b → int_eq (digest_of v) (digest_of d.value) ≡ false → false ≡ b
    differ true same other = sym other ∙ (Decides-int_eq (digest_of v) (digest_of d.value)).1 (ap digest_of (equal_values v d.value same))
    differ false same other = refl

    by : (b : Bool) → int_eq (digest_of v) (digest_of d.value) ≡ b → since_among (cond b values (under (digest_of v) before)) v ≡ since_or (value_since before v) (is_same v d.value) d.since
    by true same = since_among-last v d (under (digest_of d.value) before) ∙ ap (λ q. since_or (since_among (under q before) v) (is_same v d.value) d.since) (sym (same_key (digest_of v) (digest_of d.value) same))
    by false other = since_or-none (value_since before v) d.since ∙ ap (λ b. since_or (value_since before v) b d.since) (differ (is_same v d.value) refl other)

since_in_column-more : (before : ValuesByColumn) (column : ℕ) (d : DirtyValue) (c : ℕ) (v : Value) → since_in_column (with_value_in column d before) c v ≡ since_or (since_in_column before c v) ((c == column) && is_same v d.value) d.since
since_in_column-more before column d c v =
    ap (λ (vs : ValuesByDigest). value_since vs v) (at-put [] column more before c) ∙ by (c == column) refl
  where
    more : ValuesByDigest
    more = with_value d (under (pos column) before)

    by : (a : Bool) → (c == column) ≡ a → value_since (cond a more (under (pos c) before)) v ≡ since_or (since_in_column before c v) (a && is_same v d.value) d.since
    by true same = value_since-more (under (pos column) before) d v ∙ ap (λ n. since_or (since_in_column before n v) (is_same v d.value) d.since) (sym (eqb-true c column same))
    by false other = since_or-none (since_in_column before c v) d.since

-- the columns of a table get one value more
pub AddsPartitions-put : (before : ValuesByTable) (p : Partition) (number : ℕ) → AddsPartitions before (p ∷ []) number (sorted.put int_cmp (pos p.table) (with_value_in p.column (record { value = p.value; since = number }) (under (pos p.table) before)) before)
AddsPartitions-put before p number = record {
  since = λ q.
      ap (λ (cs : ValuesByColumn). since_in_column cs q.column q.value) (at-put [] p.table more before q.table) ∙ by q (q.table == p.table) refl ∙ ap (λ b. since_or (partition_since_in before q) b number) (only (is_same_partition q p));
}
  where
    d : DirtyValue
    d = record { value = p.value; since = number }

    more : ValuesByColumn
    more = with_value_in p.column d (under (pos p.table) before)

    only : (b : Bool) → b ≡ (b || false)
    only true = refl
    only false = refl

    by : (q : Partition) (a : Bool) → (q.table == p.table) ≡ a → since_in_column (cond a more (under (pos q.table) before)) q.column q.value ≡ since_or (partition_since_in before q) ((a && (q.column == p.column)) && is_same q.value p.value) number
    by q true same =
        since_in_column-more (under (pos p.table) before) p.column d q.column q.value
        ∙ ap (λ n. since_or (since_in_column (under (pos n) before) q.column q.value) ((q.column == p.column) && is_same q.value p.value) number) (sym (eqb-true q.table p.table same))
    by q false other = since_or-none (partition_since_in before q) number

-- a partition that is a member already adds nothing
pub AddsPartitions-member : (tables : ValuesByTable) (p : Partition) (number : ℕ) → is_partition_in (partitions_found tables) p ≡ true → AddsPartitions tables (p ∷ []) number tables
AddsPartitions-member tables p number there = record { since = λ q. since_or-there (partition_since_in tables q) (is_partition_in (p ∷ []) q) number (found q) }
  where
    found : (q : Partition) → is_partition_in (p ∷ []) q ≡ true → is_some (partition_since_in tables q) ≡ true
    found q = by (is_same_partition q p) refl
      where
        by : (b : Bool) → is_same_partition q p ≡ b → (b || false) ≡ true → is_some (partition_since_in tables q) ≡ true
        by true same e = ap (λ r. is_some (partition_since_in tables r)) (equal_partitions q p same) ∙ sym (partitions_found_are tables p) ∙ there
        by false other e = cc

-- some are added, and then others
pub AddsPartitions-then : (ps qs : List Partition) (number : ℕ) (one two three : ValuesByTable) → AddsPartitions one ps number two → AddsPartitions two qs number three → AddsPartitions one (ps ++ qs) number three
AddsPartitions-then ps qs number one two three h g = record {
  since = λ p.
      g.since p ∙ ap (λ o. since_or o (is_partition_in qs p) number) (h.since p) ∙ since_or-then (partition_since_in one p) (is_partition_in ps p) (is_partition_in qs p) number
      ∙ ap (λ b. since_or (partition_since_in one p) b number) (sym (list_any-append (is_same_partition p) ps qs));
}

-- those that were added may be added again
pub AddsPartitions-again : (ps : List Partition) (number : ℕ) (before after : ValuesByTable) → AddsPartitions before ps number after → AddsPartitions after ps number after
AddsPartitions-again ps number before after h = record {
  since = λ p. since_or-there (partition_since_in after p) (is_partition_in ps p) number (λ added.
      ap is_some (h.since p) ∙ is_some-since_or (partition_since_in before p) (is_partition_in ps p) number ∙ or_left _ _ added);
}

-- adding some partitions to one set comes to adding others to another one
pub record SameAdded (members : ValuesByTable) (rest : List Partition) (before : ValuesByTable) (all : List Partition) (number : ℕ) : Type 0 where
  pub since : (p : Partition) → since_or (partition_since_in members p) (is_partition_in rest p) number ≡ since_or (partition_since_in before p) (is_partition_in all p) number

-- some of those that are left are added
pub SameAdded-step : (ps rest : List Partition) (members after before : ValuesByTable) (all : List Partition) (number : ℕ) → AddsPartitions members ps number after → SameAdded members (ps ++ rest) before all number → SameAdded after rest before all number
SameAdded-step ps rest members after before all number adds same = record {
  since = λ p.
      ap (λ o. since_or o (is_partition_in rest p) number) (adds.since p) ∙ since_or-then (partition_since_in members p) (is_partition_in ps p) (is_partition_in rest p) number
      ∙ ap (λ b. since_or (partition_since_in members p) b number) (sym (list_any-append (is_same_partition p) ps rest)) ∙ same.since p;
}

-- none is left
pub SameAdded-end : (members before : ValuesByTable) (all : List Partition) (number : ℕ) → SameAdded members [] before all number → AddsPartitions before all number members
SameAdded-end members before all number same = record { since = λ p. since_or-none (partition_since_in members p) number ∙ same.since p }

-- all are left, but those that are members
pub SameAdded-start : (ps rest : List Partition) (members : ValuesByTable) (number : ℕ) → AddsPartitions members ps number members → SameAdded members rest members (ps ++ rest) number
SameAdded-start ps rest members number there = SameAdded-step ps rest members members members (ps ++ rest) number there (record { since = λ p. refl })

-- a row whose first value is the key of a member lies in that partition, and in those of the columns after the first
pub SameAdded-first : (members : ValuesByTable) (table : ℕ) (key : ℤ) (columns : List Column) (values : List Value) (number : ℕ) → first_int values ≡ Some key → is_partition_in (partitions_found members) (key_partition table key) ≡ true
    → SameAdded members (parts_from table 1 (drop 1 columns) (drop 1 values)) members (parts_from table 0 columns values) number
SameAdded-first members table key [] values number first there = record { since = λ p. refl }
SameAdded-first members table key (c ∷ cs) [] number first there = cc
SameAdded-first members table key (c ∷ cs) (values.Text t ∷ vs) number first there = cc
SameAdded-first members table key (c ∷ cs) (values.Int n ∷ vs) number first there =
    let same : n ≡ key = cc in
    SameAdded-start (key_partition table n ∷ []) (parts_from table 1 cs vs) members number (AddsPartitions-member members (key_partition table n) number (ap (λ k. is_partition_in (partitions_found members) (key_partition table k)) same ∙ there))

pub SamePartitions-add : (before after : ValuesByTable) (ps : List Partition) (number : ℕ) → AddsPartitions before ps number after → SamePartitions (partitions_found after) (ps ++ partitions_found before)
SamePartitions-add before after ps number adds p =
    partitions_found_are after p ∙ ap is_some (adds.since p) ∙ is_some-since_or (partition_since_in before p) (is_partition_in ps p) number
    ∙ ap (λ b. is_partition_in ps p || b) (sym (partitions_found_are before p)) ∙ sym (list_any-append (is_same_partition p) ps (partitions_found before))

-- a partition that was added is a member
pub member-added : (p : Partition) (number : ℕ) (before after : ValuesByTable) → AddsPartitions before (p ∷ []) number after → is_partition_in (partitions_found after) p ≡ true
member-added p number before after adds = SamePartitions-add before after (p ∷ []) number adds p ∙ or_left _ _ (is_same_partition-itself p)

-- a member stays one where others are added
pub member-stays : (p : Partition) (ps : List Partition) (number : ℕ) (before after : ValuesByTable) → AddsPartitions before ps number after → is_partition_in (partitions_found before) p ≡ true → is_partition_in (partitions_found after) p ≡ true
member-stays p ps number before after adds there =
    SamePartitions-add before after ps number adds p ∙ list_any-append (is_same_partition p) ps (partitions_found before) ∙ or_right (list_any (is_same_partition p) ps) _ there

-- a member that is remembered stays one where partitions are added
pub last-stays : (last : Option Partition) (before after : ValuesByTable) (ps : List Partition) (number : ℕ) → AddsPartitions before ps number after → IfSome last (λ q. IsTrue (is_partition_in (partitions_found before) q))
    → IfSome last (λ q. IsTrue (is_partition_in (partitions_found after) q))
last-stays None before after ps number adds there = there
last-stays (Some q) before after ps number adds there = member-stays q ps number before after adds there

-- ---- a row and its partitions more

module _ (old new : KeysByTable) (before after : ValuesByTable) (table : ℕ) (columns : List Column) (key : ℤ) (first last : Option Row) (number : ℕ) (row : AddsRow old table key number new) (parts : AddsPartitions before (partitions_with_row table columns key first last) number after) where
  pub SameMembers-with_row : SameMembers (dirty_found new after) (with_row (dirty_found old before) table columns key first last)
  SameMembers-with_row = record {
    rows = SameRows-add old new table key number row;
    partitions = SamePartitions-add before after (partitions_with_row table columns key first last) number parts;
  }

  pub IsSinceWithRow-with_row : IsSinceWithRow (since_found old before) table columns key first last number (since_found new after)
  IsSinceWithRow-with_row = record {
    rows = λ t k. row_since-found new after t k ∙ row.rows t k ∙ ap (λ o. since_or o ((t == table) && int_eq k key) number) (sym (row_since-found old before t k));
    partitions = λ p. partition_since-found new after p ∙ parts.since p ∙ ap (λ o. since_or o (is_partition_in (partitions_with_row table columns key first last) p) number) (sym (partition_since-found old before p));
    tables = λ t. table_since-found new after t ∙ row.tables t ∙ ap (λ o. since_or o (t == table) number) (sym (table_since-found old before t));
  }

  pub HaveKeyPartitions-with_row : HaveKeyPartitions (rows_found old) (partitions_found before) → HaveKeyPartitions (rows_found new) (partitions_found after)
  HaveKeyPartitions-with_row keys t k there =
      SamePartitions-add before after all number parts (key_partition t k) ∙ by (t == table) refl (int_eq k key) refl (sym (SameRows-add old new table key number row t k) ∙ there)
    where
      all : List Partition
      all = partitions_with_row table columns key first last

      same : Partition → Bool
      same = is_same_partition (key_partition t k)

      stays : is_row_in (rows_found old) t k ≡ true → list_any same (all ++ partitions_found before) ≡ true
      stays h = list_any-append same all (partitions_found before) ∙ or_right (list_any same all) _ (keys t k h)

      by : (a : Bool) → (t == table) ≡ a → (b : Bool) → int_eq k key ≡ b → ((a && b) || is_row_in (rows_found old) t k) ≡ true → list_any same (all ++ partitions_found before) ≡ true
      by true table_is true key_is h = or_left _ _ (and_from _ _ (and_from _ _ table_is refl) key_is)
      by true table_is false other h = stays h
      by false other b e h = stays h

-- what is there already, what is new, and what was added
pub ruleset adds_members = (AddsRow-there, AddsRow-new, AddsPartitions-member, member-added)
