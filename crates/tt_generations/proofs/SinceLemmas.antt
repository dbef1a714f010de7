-- Numbers of which some may be missing, and the partitions that conditions equate.
use Rattle.std.proofs.Common.{◌≡◌, ℕ, max, Bool, true, false, cond, not, ◌||◌, ◌==◌, List, [], ◌∷◌, length, filter, map, Option, None, Some, refl, sym, ap, ◌∙◌, arith, true≢false}
use Rattle.std.specs.List.{list_any}
use Rattle.std.proofs.lemmas.Bool.{or_parts}
use Rattle.std.proofs.lemmas.Bool.Decides.{nat_tests}
use Rattle.tt_values.specs.declared.table.Column.{Column}
use Rattle.tt_values.specs.declared.statement.Equal.{Equal}
use Rattle.tt_parts.specs.declared.partition.Partition.{Partition}
use Rattle.tt_parts.specs.Partitions.{equates_partition, partition_of, equated_partitions}
use Rattle.tt_parts.specs.Dirty.{DirtySince, partition_since, table_since}
use Rattle.tt_causes.specs.Numbers.{later, latest, read_since}
use Rattle.tt_generations.specs.SlotCauses.{latest_of}

later-end : (a : Option ℕ) → later a (Some 0) ≡ a
later-end None = refl
later-end (Some m) = let same : max m 0 ≡ m = omega arith in ap Some same

latest-is : {X : Type 0} (number : X → Option ℕ) (x : X) (xs : List X) → latest number x xs ≡ latest_of number (x ∷ xs)
latest-is number x [] = sym (later-end (number x))
latest-is number x (y ∷ ys) = ap (later (number x)) (latest-is number y ys)

-- ---- the partitions that conditions equate

none_equated : (table : ℕ) (columns : List Column) (qs : List Equal) → list_any (equates_partition columns) qs ≡ false → equated_partitions table columns qs ≡ []
none_equated table columns [] h = refl
none_equated table columns (q ∷ qs) h =
    let both = or_parts (equates_partition columns q) (list_any (equates_partition columns) qs) h in
    ap (λ b. map (partition_of table) (cond b (q ∷ filter (equates_partition columns) qs) (filter (equates_partition columns) qs))) both.0
    ∙ none_equated table columns qs both.1

pub is_read_all : (table : ℕ) (columns : List Column) (qs : List Equal) → not (list_any (equates_partition columns) qs) ≡ (length (equated_partitions table columns qs) == 0)
is_read_all table columns [] = refl
is_read_all table columns (q ∷ qs) = by (equates_partition columns q) (is_read_all table columns qs)
  where
    by : (b : Bool) → not (list_any (equates_partition columns) qs) ≡ (length (equated_partitions table columns qs) == 0)
        → not (b || list_any (equates_partition columns) qs) ≡ (length (map (partition_of table) (cond b (q ∷ filter (equates_partition columns) qs) (filter (equates_partition columns) qs))) == 0)
    by true rest = grind (arith, nat_tests)
    by false rest = rest

pub read_since-all : (since : DirtySince) (table : ℕ) (columns : List Column) (qs : List Equal) → list_any (equates_partition columns) qs ≡ false
    → table_since since table ≡ read_since since table (equated_partitions table columns qs)
read_since-all since table columns qs h = ap (read_since since table) (sym (none_equated table columns qs h))

pub read_since-some : (since : DirtySince) (table : ℕ) (columns : List Column) (qs : List Equal) → list_any (equates_partition columns) qs ≡ true
    → latest_of (partition_since since) (equated_partitions table columns qs) ≡ read_since since table (equated_partitions table columns qs)
read_since-some since table columns qs h = by (equated_partitions table columns qs) (sym (is_read_all table columns qs) ∙ ap not h)
  where
    by : (ps : List Partition) → (length ps == 0) ≡ false → latest_of (partition_since since) ps ≡ read_since since table ps
    by [] e = absurd (true≢false e)
    by (p ∷ ps) e = sym (latest-is (partition_since since) p ps)
