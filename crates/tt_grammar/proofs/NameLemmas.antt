-- Tables and columns are found by their names, which differ.
use Rattle.std.proofs.Common.{◌≡◌, ℕ, zero, suc, ◌<◌, Bool, true, false, cond, not, nat_lt, ◌||◌, List, [], ◌∷◌, length, Some, None, slice_get, position, refl, sym, ap, subst, ◌∙◌, arith, lt-ltb, bytes_eq}
use Rattle.std.proofs.lemmas.Bool.{or_parts, false_from_ne_true}
use Rattle.std.proofs.lemmas.Slice.Eq.{bytes_eq-Decides}
use Rattle.std.specs.List.{prefix_len, list_any}
use Rattle.tt_values.specs.declared.table.Column.{Column}
use Rattle.tt_values.specs.declared.table.TableDef.{TableDef}
use Rattle.tt_values.specs.Tables.{Tables, table_position, column_position, has_same_name, has_same_table}

-- whether two items have the same name
abbrev has_same : {X : Type 0} → (X → List ℕ) → List X → Bool
has_same name [] = false
has_same name (x ∷ xs) = list_any (λ y. bytes_eq (name x) (name y)) xs || has_same name xs

same_columns : (cs : List Column) → has_same (λ c. c.name) cs ≡ has_same_name cs
same_columns [] = refl
same_columns (c ∷ cs) = ap (λ b. list_any (λ d. bytes_eq c.name d.name) cs || b) (same_columns cs)

same_tables : (ts : Tables) → has_same (λ t. t.0) ts ≡ has_same_table ts
same_tables [] = refl
same_tables (t ∷ ts) = ap (λ b. list_any (λ u. bytes_eq t.0 u.0) ts || b) (same_tables ts)

-- no item passes the test
none_passes : {X : Type 0} → (test : X → Bool) (xs : List X) (i : ℕ) (x : X) → list_any test xs ≡ false → slice_get xs i ≡ Some x → test x ≡ false
none_passes test [] i x h e = cc
none_passes test (y ∷ ys) zero x h e = let same : y ≡ x = cc in subst (λ z. test z ≡ false) same (or_parts (test y) (list_any test ys) h).0
none_passes test (y ∷ ys) (suc i) x h e = none_passes test ys i x (or_parts (test y) (list_any test ys) h).1 e

pub differ_both_ways : (xs ys : List ℕ) → bytes_eq xs ys ≡ false → bytes_eq ys xs ≡ false
differ_both_ways xs ys h =
    false_from_ne_true (bytes_eq ys xs) (λ same. let both : bytes_eq xs ys ≡ true = (bytes_eq-Decides xs ys).1 (sym ((bytes_eq-Decides ys xs).0 same)) in cc)

-- the first item with the name of an item is this one
first_named : {X : Type 0} → (name : X → List ℕ) (xs : List X) (i : ℕ) (x : X) → has_same name xs ≡ false → slice_get xs i ≡ Some x
    → prefix_len (λ y. not (bytes_eq (name x) (name y))) xs ≡ i
first_named name [] i x h e = cc
first_named name (y ∷ ys) zero x h e =
    let same : y ≡ x = cc in
    let equal : bytes_eq (name x) (name y) ≡ true = (bytes_eq-Decides (name x) (name y)).1 (ap name (sym same)) in
    rw equal refl
first_named name (y ∷ ys) (suc i) x h e =
    let parts = or_parts (list_any (λ z. bytes_eq (name y) (name z)) ys) (has_same name ys) h in
    let other : bytes_eq (name x) (name y) ≡ false = differ_both_ways (name y) (name x) (none_passes (λ z. bytes_eq (name y) (name z)) ys i x parts.0 e) in
    let rest : prefix_len (λ z. not (bytes_eq (name x) (name z))) ys ≡ i = first_named name ys i x parts.1 e in
    rw other (omega (arith, rest))

within : {X : Type 0} → (xs : List X) (i : ℕ) (x : X) → slice_get xs i ≡ Some x → i < length xs
within [] i x e = cc
within (y ∷ ys) zero x e = omega arith
within (y ∷ ys) (suc i) x e = let rest : i < length ys = within ys i x e in omega arith

position_of_name : {X : Type 0} → (name : X → List ℕ) (xs : List X) (i : ℕ) (x : X) → has_same name xs ≡ false → slice_get xs i ≡ Some x
    → position (λ y. bytes_eq (name x) (name y)) xs ≡ Some i
position_of_name name xs i x h e =
    let first = first_named name xs i x h e in
    ap (λ n. cond (nat_lt n (length xs)) (Some n) None) first ∙ rw (lt-ltb i (length xs) (within xs i x e)) refl

pub column-found : (cs : List Column) (i : ℕ) (c : Column) → has_same_name cs ≡ false → slice_get cs i ≡ Some c → column_position cs c.name ≡ Some i
column-found cs i c h e = position_of_name (λ d. d.name) cs i c (same_columns cs ∙ h) e

pub table-found : (ts : Tables) (i : ℕ) (t : List ℕ × TableDef) → has_same_table ts ≡ false → slice_get ts i ≡ Some t → table_position ts t.0 ≡ Some i
table-found ts i t h e = position_of_name (λ u. u.0) ts i t (same_tables ts ∙ h) e
