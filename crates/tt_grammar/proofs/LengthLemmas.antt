-- How long printed writes, actions and tables are at most.
use Rattle.std.proofs.Common.{◌≡◌, ℕ, suc, ◌+◌, ◌*◌, ◌≤◌, ◌<◌, ◌/◌, ◌%◌, pos, negsuc, Bool, true, false, cond, nat_lt, nat_le, eqb, ◌==◌, ◌||◌, List, [], ◌∷◌, ◌++◌, length, map, slice_get, None, Option, Some, codes, refl, sym, subst, arith, All, length-append}
use Rattle.std.proofs.Math.Nat.{mul-le-mul_left}
use Rattle.std.proofs.lemmas.Bool.{or_parts, not-false, ltb-false, leb-false, eqb-true}
use Rattle.std.proofs.lemmas.Fmt.{length_signed_le}
use Rattle.std.proofs.lemmas.List.{length-map}
use Rattle.std.proofs.lemmas.Map.Steps.{length-le_from_distinct_below}
use Rattle.std.specs.Fmt.{signed_decimal}
use Rattle.std.specs.List.{flat_map, list_any, IsDistinct, AllByRecursion}
use Rattle.tt_values.specs.declared.value.Value.{Value}
use Rattle.tt_values.specs.declared.value.Value.TheVariants as values
use Rattle.tt_values.specs.declared.value.Kind.{Kind}
use Rattle.tt_values.specs.declared.value.Kind.TheVariants as kinds
use Rattle.tt_values.specs.declared.row.Row.{Row}
use Rattle.tt_values.specs.declared.table.Column.{Column}
use Rattle.tt_values.specs.declared.table.TableDef.{TableDef}
use Rattle.tt_values.specs.declared.statement.Change.{Change}
use Rattle.tt_values.specs.declared.statement.Change.TheVariants.{Set, Add}
use Rattle.tt_values.specs.declared.comparison.Comparison.{Comparison}
use Rattle.tt_values.specs.declared.comparison.Comparison.TheVariants.{Is, IsNot, Below, AtMost, Above, AtLeast}
use Rattle.tt_values.specs.declared.statement.Equal.{Equal}
use Rattle.tt_values.specs.declared.statement.Write.{Write}
use Rattle.tt_values.specs.declared.statement.Write.TheVariants.{Insert, Update, Delete}
use Rattle.tt_values.specs.declared.action.Action.{Action}
use Rattle.tt_values.specs.Limits.{max_name_bytes, max_text_bytes, max_writes}
use Rattle.tt_values.specs.Value.{is_long_text}
use Rattle.tt_values.specs.Change.{column_of}
use Rattle.tt_values.specs.Check.{row_tests, equals_tests, update_tests, has_long_text, has_too_many, changes_no_column, is_long_change, sets_long_text, changes_twice, write_fault, first_write_fault, action_fault}
use Rattle.tt_values.specs.Tables.{Tables, IsTable, IsCatalog, is_name}
use Rattle.tt_grammar.specs.Quoting.{letter_of, hex_digit, escape_by, escape, quoted}
use Rattle.tt_grammar.specs.Printing.{value_text, row_text}
use Rattle.tt_grammar.specs.Comparisons.{before_value}
use Rattle.tt_grammar.specs.JsonText.{further_item, items_text, array_text, member_text, members_text, flag_text}
use Rattle.tt_grammar.specs.WriteText.{table_name, column_name, column_change_text, equal_text, write_text, writes_text, whole_members, action_members, kind_name, column_text, table_text, tables_text}
use Rattle.tt_grammar.specs.ReadBack.{IsStorable, value_of_change, values_of_equals, values_of_write}
use Rattle.tt_grammar.proofs.EveryLemmas.{Every, every, every-map, every-mapped, every-left, every-right, every-both, every-then, every-fails, every-holds, every-at}
use Rattle.tt_grammar.proofs.PieceLemmas.{condition-pieces}
use Rattle.tt_grammar.proofs.Utf8Lemmas.{short-name}
use Rattle.tt_grammar.proofs.StatementReadLemmas.{IsNamed}
use Rattle.tt_grammar.proofs.WriteReadLemmas.{row-is_array, no_fault, on_table, all_are_columns, table-named, columns-named}
use Rattle.tt_grammar.proofs.ActionReadLemmas.{few_writes, no_write_fault}

-- ---- texts, values and arrays

length-escape_by : (o : Option ℕ) (b : ℕ) → length (escape_by o b) ≤ 6
length-escape_by (Some letter) b = omega arith
length-escape_by None b =
    elim (nat_lt b 32) as (λ low. length (cond low (codes "\\u00" ++ hex_digit (b / 16) ∷ hex_digit (b % 16) ∷ []) (b ∷ [])) ≤ 6) [ true ↦ omega arith | false ↦ omega arith ]

length-escaped : (text : List ℕ) → length (flat_map escape text) ≤ 6 * length text
length-escaped [] = omega arith
length-escaped (b ∷ text) =
    let first : length (escape b) ≤ 6 = length-escape_by (letter_of b) b in
    let rest = length-escaped text in
    simp length-append (omega arith)

length-quoted : (text : List ℕ) (n : ℕ) → length text ≤ n → length (quoted text) ≤ 6 * n + 2
length-quoted text n h = let escaped = length-escaped text in simp length-append (omega arith)

-- the name of a table or a column
length-name : (name : List ℕ) → length name ≤ max_name_bytes → length (flat_map escape name) ≤ 384
length-name name h = let escaped = length-escaped name in omega arith

pub length-value : (v : Value) → IsStorable v → is_long_text v ≡ false → length (value_text v) ≤ 6146
length-value (values.Int (pos n)) h short = let digits = length_signed_le 19 (pos n) (omega (arith, h.sfits)) (omega (arith, h.sfits)) in omega arith
length-value (values.Int (negsuc n)) h short = let digits = length_signed_le 19 (negsuc n) (omega (arith, h.sfits)) (omega (arith, h.sfits)) in omega arith
length-value (values.Text t) h short = length-quoted t max_text_bytes (ltb-false max_text_bytes (length t) short)

length-further : (bound : ℕ) (items : List (List ℕ)) → Every (λ item. length item ≤ bound) items → length (flat_map further_item items) ≤ suc bound * length items
length-further bound [] h = omega arith
length-further bound (item ∷ items) h = let first = h.0 in let rest = length-further bound items h.1 in simp length-append (omega arith)

length-items : (bound : ℕ) (items : List (List ℕ)) → Every (λ item. length item ≤ bound) items → length (items_text items) ≤ suc bound * length items
length-items bound [] h = omega arith
length-items bound (item ∷ items) h = let first = h.0 in let rest = length-further bound items h.1 in simp length-append (omega arith)

pub length-array : (bound n : ℕ) (items : List (List ℕ)) → Every (λ item. length item ≤ bound) items → length items ≤ n → length (array_text items) ≤ suc bound * n + 2
length-array bound n items h few =
    let inside = length-items bound items h in
    let more : suc bound * length items ≤ suc bound * n = mul-le-mul_left (suc bound) few in
    simp length-append (omega arith)

-- the array of the texts of things
pub length-array_of : {X : Type 0} → (text : X → List ℕ) (bound n : ℕ) (xs : List X) → Every (λ x. length (text x) ≤ bound) xs → length xs ≤ n → length (array_text (map text xs)) ≤ suc bound * n + 2
length-array_of text bound n xs h few =
    length-array bound n (map text xs) (every-mapped (λ item. length item ≤ bound) text xs h) (subst (λ k. k ≤ n) (sym (length-map xs text)) few)

-- ---- conditions and changes

length-before_value : (how : Comparison) → length (before_value how) ≤ 6
length-before_value Is = omega arith
length-before_value IsNot = omega arith
length-before_value Below = omega arith
length-before_value AtMost = omega arith
length-before_value Above = omega arith
length-before_value AtLeast = omega arith

pub length-equal : (tables : Tables) (table : ℕ) (q : Equal) → IsNamed tables table q.column → IsStorable q.value → is_long_text q.value ≡ false → length (equal_text tables table q) ≤ 6600
length-equal tables table q named storable short =
    let name = length-name (column_name tables table q.column) named.short in
    let before = length-before_value q.how in
    let operand = length-value q.value storable short in
    subst (λ text. length text ≤ 6600) (sym (condition-pieces q.how (quoted (column_name tables table q.column)) (value_text q.value)))
    (simp length-append (omega (arith, length-append {A = ℕ})))

length-change : (tables : Tables) (table : ℕ) (c : Change) → IsNamed tables table (column_of c) → IsStorable (value_of_change c) → is_long_change c ≡ false
    → length (column_change_text tables table c) ≤ 6600
length-change tables table (Set column v) named storable short =
    let name = length-name (column_name tables table column) named.short in
    let operand = length-value v storable short in
    simp length-append (omega (arith, length-append {A = ℕ}))
length-change tables table (Add column by) named storable short =
    let name = length-name (column_name tables table column) named.short in
    let operand : length (signed_decimal by) ≤ 6146 = length-value (values.Int by) storable refl in
    simp length-append (omega (arith, length-append {A = ℕ}))

-- changes of columns, no two of the same one, are at most as many as the columns
apart_from : (c : Change) (cs : List Change) → list_any (λ d. column_of c == column_of d) cs ≡ false → AllByRecursion (λ n. eqb (column_of c) n ≡ false) (map column_of cs)
apart_from c [] h = tt
apart_from c (d ∷ ds) h = let parts = or_parts (column_of c == column_of d) (list_any (λ e. column_of c == column_of e) ds) h in (parts.0, apart_from c ds parts.1)

distinct_columns : (cs : List Change) → changes_twice cs ≡ false → IsDistinct eqb (map column_of cs)
unfolding IsDistinct
distinct_columns [] h = tt
distinct_columns (c ∷ cs) h = let parts = or_parts (list_any (λ d. column_of c == column_of d) cs) (changes_twice cs) h in (apart_from c cs parts.0, distinct_columns cs parts.1)

below_columns : (columns : List Column) (cs : List Change) → changes_no_column columns cs ≡ false → (q : ℕ) → list_any (eqb q) (map column_of cs) ≡ true → q < length columns
below_columns columns [] h q e = cc
below_columns columns (c ∷ cs) h q e =
    let parts = or_parts (nat_le (length columns) (column_of c)) (changes_no_column columns cs) h in
    by (eqb q (column_of c)) refl parts.0 (below_columns columns cs parts.1 q) e
  where
    by : (same : Bool) → eqb q (column_of c) ≡ same → nat_le (length columns) (column_of c) ≡ false → (list_any (eqb q) (map column_of cs) ≡ true → q < length columns)
        → (same || list_any (eqb q) (map column_of cs)) ≡ true → q < length columns
    by true is here rest any = let same : q ≡ column_of c = eqb-true q (column_of c) is in let low = leb-false (length columns) (column_of c) here in omega arith
    by false is here rest any = rest any

few_changes : (columns : List Column) (cs : List Change) → changes_no_column columns cs ≡ false → changes_twice cs ≡ false → length cs ≤ length columns
few_changes columns cs here twice =
    subst (λ n. n ≤ length columns) (length-map cs column_of) (length-le_from_distinct_below (map column_of cs) (length columns) (distinct_columns cs twice) (below_columns columns cs here))

-- ---- writes

few_columns : (tables : Tables) (table : ℕ) (t : List ℕ × TableDef) → IsCatalog tables → slice_get tables table ≡ Some t → length t.1.columns ≤ 32
few_columns tables table t catalog e = (every-at (λ u. IsTable u.1) tables table t (every (λ u. IsTable u.1) tables catalog.sound) e).few_columns

length-row : (values : List Value) → length values ≤ 32 → list_any is_long_text values ≡ false → Every IsStorable values → length (array_text (map value_text values)) ≤ 211300
length-row values few short storable =
    let row = length-array_of value_text 6146 32 values (every-both IsStorable (λ v. is_long_text v ≡ false) _ values length-value storable (every-fails is_long_text values short)) few in
    omega arith

length-equals : (tables : Tables) (table : ℕ) (qs : List Equal) → Every (λ q. IsNamed tables table q.column) qs → Every (λ q. IsStorable q.value) qs → has_long_text qs ≡ false → has_too_many qs ≡ false
    → length (array_text (map (equal_text tables table) qs)) ≤ 211300
length-equals tables table qs named storable short few =
    let both = every-both (λ q. IsNamed tables table q.column) (λ q. IsStorable q.value) (λ q. IsNamed tables table q.column × IsStorable q.value) qs (λ q n s. (n, s)) named storable in
    let each = every-both (λ q. IsNamed tables table q.column × IsStorable q.value) (λ q. is_long_text q.value ≡ false) (λ q. length (equal_text tables table q) ≤ 6600) qs
    (λ q n s. length-equal tables table q n.0 n.1 s) both (every-fails (λ q. is_long_text q.value) qs short) in
    let all = length-array_of (equal_text tables table) 6600 32 qs each (ltb-false 32 (length qs) few) in
    omega arith

length-changes : (tables : Tables) (table : ℕ) (cs : List Change) → Every (λ c. IsNamed tables table (column_of c)) cs → Every (λ c. IsStorable (value_of_change c)) cs → sets_long_text cs ≡ false → length cs ≤ 32
    → length (array_text (map (column_change_text tables table) cs)) ≤ 211300
length-changes tables table cs named storable short few =
    let both = every-both (λ c. IsNamed tables table (column_of c)) (λ c. IsStorable (value_of_change c)) (λ c. IsNamed tables table (column_of c) × IsStorable (value_of_change c)) cs (λ c n s. (n, s)) named storable in
    let each = every-both (λ c. IsNamed tables table (column_of c) × IsStorable (value_of_change c)) (λ c. is_long_change c ≡ false) (λ c. length (column_change_text tables table c) ≤ 6600) cs
    (λ c n s. length-change tables table c n.0 n.1 s) both (every-fails is_long_change cs short) in
    let all = length-array_of (column_change_text tables table) 6600 32 cs each few in
    omega arith

length-insert : (tables : Tables) (table : ℕ) (row : Row) → IsCatalog tables → write_fault tables (Insert table row) ≡ None → Every IsStorable row.values → length (write_text tables (Insert table row)) ≤ 430000
length-insert tables table row catalog sound storable =
    let on = on_table (slice_get tables table) (λ columns. row_tests columns row.values) sound in
    let passed = no_fault (row_tests on.0.1.columns row.values) on.2 in
    let name = length-name (table_name tables table) (table-named tables table on.0 catalog on.1).2 in
    let width : length row.values ≡ length on.0.1.columns = eqb-true (length row.values) (length on.0.1.columns) (not-false (length row.values == length on.0.1.columns) passed.1.0) in
    let few : length on.0.1.columns ≤ 32 = few_columns tables table on.0 catalog on.1 in
    let values : length (row_text row) ≤ 211300 = subst (λ text. length text ≤ 211300) (row-is_array row) (length-row row.values (omega arith) passed.1.1.0 storable) in
    simp length-append (omega (arith, length-append {A = ℕ}))

length-update : (tables : Tables) (table : ℕ) (cs : List Change) (qs : List Equal) → IsCatalog tables → write_fault tables (Update table cs qs) ≡ None
    → Every (λ c. IsStorable (value_of_change c)) cs → Every (λ q. IsStorable q.value) qs → length (write_text tables (Update table cs qs)) ≤ 430000
length-update tables table cs qs catalog sound storable_changes storable_equals =
    let on = on_table (slice_get tables table) (λ columns. update_tests columns cs qs) sound in
    let columns : List Column = on.0.1.columns in
    let passed = no_fault (update_tests columns cs qs) on.2 in
    let here = all_are_columns columns cs qs on.2 in
    let short = or_parts (sets_long_text cs) (has_long_text qs) passed.1.1.0 in
    let twice : changes_twice cs ≡ false = passed.1.1.1.1.0 in
    let name = length-name (table_name tables table) (table-named tables table on.0 catalog on.1).2 in
    let width : length columns ≤ 32 = few_columns tables table on.0 catalog on.1 in
    let few : length cs ≤ length columns = few_changes columns cs here.0 twice in
    let changes = length-changes tables table cs (columns-named tables table on.0 column_of cs catalog on.1 here.0) storable_changes short.0 (omega arith) in
    let equals = length-equals tables table qs (columns-named tables table on.0 (λ q. q.column) qs catalog on.1 here.1) storable_equals short.1 passed.1.1.1.1.1.0 in
    simp length-append (omega (arith, length-append {A = ℕ}))

length-delete : (tables : Tables) (table : ℕ) (qs : List Equal) → IsCatalog tables → write_fault tables (Delete table qs) ≡ None → Every (λ q. IsStorable q.value) qs
    → length (write_text tables (Delete table qs)) ≤ 430000
length-delete tables table qs catalog sound storable =
    let on = on_table (slice_get tables table) (λ columns. equals_tests columns qs) sound in
    let passed = no_fault (equals_tests on.0.1.columns qs) on.2 in
    let name = length-name (table_name tables table) (table-named tables table on.0 catalog on.1).2 in
    let equals = length-equals tables table qs (columns-named tables table on.0 (λ q. q.column) qs catalog on.1 passed.0) storable passed.1.1.0 passed.1.1.1.0 in
    simp length-append (omega (arith, length-append {A = ℕ}))

pub length-write : (tables : Tables) (w : Write) → IsCatalog tables → write_fault tables w ≡ None → All IsStorable (values_of_write w) → length (write_text tables w) ≤ 430000
length-write tables (Insert table row) catalog sound storable = length-insert tables table row catalog sound (every _ row.values storable)
length-write tables (Update table cs qs) catalog sound storable =
    let all = every IsStorable (map value_of_change cs ++ values_of_equals qs) storable in
    length-update tables table cs qs catalog sound
    (every-map IsStorable value_of_change cs (every-left IsStorable (map value_of_change cs) (values_of_equals qs) all))
    (every-map IsStorable (λ q. q.value) qs (every-right IsStorable (map value_of_change cs) (values_of_equals qs) all))
length-write tables (Delete table qs) catalog sound storable =
    length-delete tables table qs catalog sound (every-map IsStorable (λ q. q.value) qs (every IsStorable (values_of_equals qs) storable))

-- ---- actions and tables

pub length-writes : (tables : Tables) (ws : List Write) → IsCatalog tables → action_fault tables ws ≡ None → All (λ w. All IsStorable (values_of_write w)) ws → length (writes_text tables ws) ≤ 7000000
length-writes tables ws catalog sound storable =
    let parts = few_writes (nat_lt max_writes (length ws)) (first_write_fault tables ws) sound in
    let each = every-both (λ w. write_fault tables w ≡ None) (λ w. All IsStorable (values_of_write w)) (λ w. length (write_text tables w) ≤ 430000) ws (λ w none all. length-write tables w catalog none all)
    (no_write_fault tables ws parts.1) (every _ ws storable) in
    let all = length-array_of (write_text tables) 430000 16 ws each (ltb-false 16 (length ws) parts.0) in
    omega arith

-- that an action is whole
length-whole : (whole : Bool) → length (flat_map further_item (map member_text (whole_members (codes "whole") whole))) ≤ 13
length-whole false = omega arith
length-whole true = omega arith

pub length-action : (tables : Tables) (action : Action) → IsCatalog tables → action_fault tables action.writes ≡ None → All (λ w. All IsStorable (values_of_write w)) action.writes
    → length (members_text (action_members tables action)) ≤ 7000018
length-action tables action catalog sound storable =
    let writes = length-writes tables action.writes catalog sound storable in
    let whole = length-whole action.whole in
    simp length-append (omega (arith, length-append {A = ℕ}))

length-column : (c : Column) → is_name c.name ≡ true → length (column_text c) ≤ 500
length-column c named =
    let name = length-name c.name (short-name c.name named) in
    let kind : length (flat_map escape (kind_name c.kind)) ≤ 4 = kind-length c.kind in
    let flag : length (flag_text c.partition) ≤ 5 = flag-length c.partition in
    simp length-append (omega (arith, length-append {A = ℕ}))
  where
    kind-length : (k : Kind) → length (flat_map escape (kind_name k)) ≤ 4
    kind-length kinds.Int = omega arith
    kind-length kinds.Text = omega arith

    flag-length : (flag : Bool) → length (flag_text flag) ≤ 5
    flag-length true = omega arith
    flag-length false = omega arith

length-table : (t : List ℕ × TableDef) → (is_name t.0 ≡ true) × IsTable t.1 → length (table_text t) ≤ 20000
length-table t sound =
    let name = length-name t.0 (short-name t.0 sound.0) in
    let each = every-then (λ c. is_name c.name ≡ true) (λ c. length (column_text c) ≤ 500) t.1.columns length-column (every-holds (λ c. is_name c.name) t.1.columns sound.1.columns_are_named) in
    let columns = length-array_of column_text 500 32 t.1.columns each sound.1.few_columns in
    simp length-append (omega (arith, length-append {A = ℕ}))

pub length-tables : (tables : Tables) → IsCatalog tables → length (tables_text tables) ≤ 7000000
length-tables tables catalog =
    let sound = every-both (λ t. is_name t.0 ≡ true) (λ t. IsTable t.1) (λ t. (is_name t.0 ≡ true) × IsTable t.1) tables (λ t named def. (named, def))
    (every _ tables catalog.tables_are_named) (every _ tables catalog.sound) in
    let each = every-then (λ t. (is_name t.0 ≡ true) × IsTable t.1) (λ t. length (table_text t) ≤ 20000) tables length-table sound in
    let all = length-array_of table_text 20000 64 tables each catalog.few_tables in
    omega arith
