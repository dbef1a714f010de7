-- What a write reads covers the rows that it matches.
use Rattle.std.proofs.Common.{◌≡◌, ℕ, zero, suc, ◌+◌, Bool, true, false, cond, ℤ, pos, List, [], ◌∷◌, map, filter, Option, None, Some, slice_get, if◌then◌else◌, All, IsSome, refl, sym, ap, subst, ◌∙◌, arith, eqb-true, eq-eqb}
use Rattle.std.specs.List.{Contains, list_all}
use Rattle.std.specs.Option.{unwrap_or, option_map_or}
use Rattle.std.proofs.lemmas.Bool.{and_parts, and_from, or_left, or_right}
use Rattle.std.proofs.lemmas.Bool.Decides.{Decides-int_eq}
use Rattle.std.proofs.lemmas.Slice.Eq.{bytes_eq-Decides}
use Rattle.std.proofs.lemmas.List.Elements.{All-nil, All-cons}
use Rattle.std.proofs.lemmas.List.Folds.{Any-from_list_any}
use Rattle.tt_values.specs.declared.value.Value.{Value}
use Rattle.tt_values.specs.declared.value.Value.TheVariants as values
use Rattle.tt_values.specs.declared.row.Row.{Row}
use Rattle.tt_values.specs.declared.table.Column.{Column}
use Rattle.tt_values.specs.declared.statement.Equal.{Equal}
use Rattle.tt_values.specs.declared.statement.Write.{Write}
use Rattle.tt_values.specs.declared.statement.Write.TheVariants.{Insert, Update, Delete}
use Rattle.tt_values.specs.Value.{is_same}
use Rattle.tt_values.specs.Row.{first_int, key_of}
use Rattle.tt_values.specs.declared.comparison.Comparison.{Comparison}
use Rattle.tt_values.specs.declared.comparison.Comparison.TheVariants.{Is, IsNot, Below, AtMost, Above, AtLeast}
use Rattle.tt_values.specs.Comparison.{is_equality}
use Rattle.tt_values.specs.Matches.{is_compared, holds, equates}
use Rattle.tt_values.specs.Check.{HasKey}
use Rattle.tt_parts.specs.declared.partition.Partition.{Partition}
use Rattle.tt_parts.specs.Partitions.{is_partition_column, parts_from, parts_of, key_partition, equates_partition, partition_of, equated_partitions, reads_or_all, reads_of, is_same_partition, is_partition_in}
use Rattle.tt_parts.specs.Soundness.{LiesIn, CoversMatches}
use Rattle.tt_parts.specs.Laws.{SamePartitionsAreEqual, EachPartitionIsInItsList, MatchedRowsLieInEquatedPartitions, RowsLieInTheirKeyPartition}

-- values that are the same are equal
pub equal_values : (v w : Value) → is_same v w ≡ true → v ≡ w
equal_values (values.Int m) (values.Int n) h = ap values.Int ((Decides-int_eq m n).0 h)
equal_values (values.Int m) (values.Text t) h = cc
equal_values (values.Text s) (values.Int n) h = cc
equal_values (values.Text s) (values.Text t) h = ap values.Text ((bytes_eq-Decides s t).0 h)

pub is_same-itself : (v : Value) → is_same v v ≡ true
is_same-itself (values.Int n) = (Decides-int_eq n n).1 refl
is_same-itself (values.Text t) = (bytes_eq-Decides t t).1 refl

pub is_same_partition-itself : (p : Partition) → is_same_partition p p ≡ true
is_same_partition-itself p = and_from _ _ (and_from _ _ (eq-eqb p.table p.table refl) (eq-eqb p.column p.column refl)) (is_same-itself p.value)

pub equal_partitions : (p q : Partition) → is_same_partition p q ≡ true → p ≡ q
equal_partitions p q h =
    let both = and_parts _ _ h in
    let table = eqb-true p.table q.table (and_parts _ _ both.0).0 in
    let column = eqb-true p.column q.column (and_parts _ _ both.0).1 in
    let value = equal_values p.value q.value both.1 in
    λ i. record { table = table i; column = column i; value = value i }

pub same_partitions_are_equal : SamePartitionsAreEqual
same_partitions_are_equal p q = (equal_partitions p q, λ e. ap (is_same_partition p) (sym e) ∙ is_same_partition-itself p)

-- a list that may begin with an item more has that item, and the items that it had
has_first : (b : Bool) (p : Partition) (ps : List Partition) → b ≡ true → is_partition_in (if b then p ∷ ps else ps) p ≡ true
has_first true p ps e = or_left _ _ (is_same_partition-itself p)
has_first false p ps e = cc

has_others : (b : Bool) (q p : Partition) (ps : List Partition) → is_partition_in ps p ≡ true → is_partition_in (if b then q ∷ ps else ps) p ≡ true
has_others true q p ps h = or_right _ _ h
has_others false q p ps h = h

-- where each item passes a test, each passes a wider one
list_all-wider : {X : Type 0} → (p q : X → Bool) → ((x : X) → p x ≡ true → q x ≡ true) → (xs : List X) → list_all p xs ≡ true → list_all q xs ≡ true
list_all-wider p q wider [] h = refl
list_all-wider p q wider (x ∷ xs) h = and_from _ _ (wider x (and_parts _ _ h).0) (list_all-wider p q wider xs (and_parts _ _ h).1)

pub each_partition_is_in_its_list : EachPartitionIsInItsList
each_partition_is_in_its_list [] = refl
each_partition_is_in_its_list (p ∷ ps) =
    and_from _ _ (or_left _ _ (is_same_partition-itself p))
    (list_all-wider (is_partition_in ps) (is_partition_in (p ∷ ps)) (λ q h. or_right (is_same_partition q p) _ h) ps (each_partition_is_in_its_list ps))

-- a row lies in the partition of the value that it has in a partition column
lies_in_part : (table first i position : ℕ) (cs : List Column) (vs : List Value) (v : Value) → position ≡ first + i →
    option_map_or (is_partition_column position) (slice_get cs i) false ≡ true → is_compared Is v (slice_get vs i) ≡ true →
    is_partition_in (parts_from table first cs vs) (record { table = table; column = position; value = v }) ≡ true
lies_in_part table first i position [] vs v e parts has = cc
lies_in_part table first i position (c ∷ cs) [] v e parts has = cc
lies_in_part table first zero position (c ∷ cs) (w ∷ vs) v e parts has =
    let here : position ≡ first = omega (arith, e) in
    let same = equal_values v w has in
    (λ k. is_partition_in (parts_from table first (c ∷ cs) (w ∷ vs)) (record { table = table; column = here k; value = same k }))
    ∙ has_first (is_partition_column first c) (record { table = table; column = first; value = w }) (parts_from table (suc first) cs vs) (ap (λ n. is_partition_column n c) (sym here) ∙ parts)
lies_in_part table first (suc i) position (c ∷ cs) (w ∷ vs) v e parts has =
    has_others (is_partition_column first c) (record { table = table; column = first; value = w }) _ (parts_from table (suc first) cs vs)
    (lies_in_part table (suc first) i position cs vs v (omega (arith, e)) parts has)

is_the_same : (how : Comparison) → is_equality how ≡ true → how ≡ Is
is_the_same Is h = refl
is_the_same IsNot h = cc
is_the_same Below h = cc
is_the_same AtMost h = cc
is_the_same Above h = cc
is_the_same AtLeast h = cc

-- an equality holds where the value is the same
holds-equality : (q : Equal) (row : Row) → equates q ≡ true → holds q row ≡ true → is_compared Is q.value (slice_get row.values q.column) ≡ true
holds-equality q row equality h = subst (λ how. is_compared how q.value (slice_get row.values q.column) ≡ true) (is_the_same q.how equality) h

pub matched_rows_lie_in_equated_partitions : MatchedRowsLieInEquatedPartitions
matched_rows_lie_in_equated_partitions table columns row [] h = refl
matched_rows_lie_in_equated_partitions table columns row (q ∷ qs) h =
    by (equates_partition columns q) refl (matched_rows_lie_in_equated_partitions table columns row qs (and_parts _ _ h).1)
  where
    has : Partition → Bool
    has = is_partition_in (parts_of table columns row)

    others : List Equal
    others = filter (equates_partition columns) qs

    by : (b : Bool) → equates_partition columns q ≡ b → list_all has (equated_partitions table columns qs) ≡ true → list_all has (map (partition_of table) (cond b (q ∷ others) others)) ≡ true
    by true parts rest =
        let equality = (and_parts _ _ parts).0 in
        and_from _ _ (lies_in_part table 0 q.column q.column columns row.values q.value (omega arith) (and_parts _ _ parts).1 (holds-equality q row equality (and_parts _ _ h).0)) rest
    by false parts rest = rest

-- the first value of a row with a key is the key
first_value : (vs : List Value) (key : ℤ) → first_int vs ≡ Some key → is_compared Is (values.Int key) (slice_get vs 0) ≡ true
first_value [] key h = cc
first_value (values.Int n ∷ vs) key h = (Decides-int_eq key n).1 cc
first_value (values.Text t ∷ vs) key h = cc

pub rows_lie_in_their_key_partition : RowsLieInTheirKeyPartition
rows_lie_in_their_key_partition table [] row key some h = absurd (omega (arith, some))
rows_lie_in_their_key_partition table (c ∷ cs) row key some h = lies_in_part table 0 0 0 (c ∷ cs) row.values (values.Int key) refl refl (first_value row.values key h)

-- the same in std's words: a list contains each partition that it has
Contains-is_partition_in : (ps : List Partition) (p : Partition) → is_partition_in ps p ≡ true → Contains ps p
Contains-is_partition_in ps p h =
    let w = Any-from_list_any (is_same_partition p) ps h in
    subst (Contains ps) (sym (equal_partitions p w.1 w.4)) (w.0, w.2, w.3)

All-list_all : {X : Type 0} → (P : X → Type 0) (test : X → Bool) → ((x : X) → test x ≡ true → P x) → (xs : List X) → list_all test xs ≡ true → All P xs
All-list_all P test holds [] h = All-nil P
All-list_all P test holds (x ∷ xs) h = All-cons P x xs (holds x (and_parts _ _ h).0) (All-list_all P test holds xs (and_parts _ _ h).1)

-- a row lies in what is read where it lies in each partition
lies_in : (table : ℕ) (columns : List Column) (row : Row) (ps : List Partition) → list_all (is_partition_in (parts_of table columns row)) ps ≡ true → LiesIn table columns row (reads_or_all table ps)
lies_in table columns row [] h = refl
lies_in table columns row (p ∷ ps) h = All-list_all (Contains (parts_of table columns row)) _ (Contains-is_partition_in (parts_of table columns row)) (p ∷ ps) h

unwrap_or-some : (o : Option ℤ) → IsSome o → o ≡ Some (unwrap_or o (pos 0))
unwrap_or-some None h = cc
unwrap_or-some (Some n) h = refl

pub is_sound : (columns : List Column) (write : Write) → HasKey write → CoversMatches columns write (reads_of columns write)
is_sound columns (Insert table new) has = record {
  covers = λ some row same.
      let key = same ∙ unwrap_or-some (first_int new.values) has in
      lies_in table columns row (key_partition table (key_of new) ∷ []) (and_from _ _ (rows_lie_in_their_key_partition table columns row (key_of new) some key) refl);
}
is_sound columns (Update table changes qs) has = record { covers = λ some row h. lies_in table columns row (equated_partitions table columns qs) (matched_rows_lie_in_equated_partitions table columns row qs h) }
is_sound columns (Delete table qs) has = record { covers = λ some row h. lies_in table columns row (equated_partitions table columns qs) (matched_rows_lie_in_equated_partitions table columns row qs h) }
