-- The rows that differ between the sides of a table, found among the split ones.
use Rattle.std.proofs.Common.{◌≡◌, ℕ, ◌≤◌, ℤ, true, false, [], ◌∷◌, ◌++◌, length, take, Option, None, Some, IsTrue, T, is_some, if◌then◌else◌, refl, sym, ap, subst, ◌∙◌}
use Rattle.std.proofs.lemmas.List.{take_all, take_at}
use Rattle.std.specs.Option.{option_and_then}
use Rattle.std.specs.Ordering.{int_cmp}
use Rattle.std.specs.Cmp.{int_cmp_total}
use Rattle.std.specs.FinMap.{int_cmp-IsAntisymmetric}
use Rattle.std.specs.FinMap.Entries as sorted
use Rattle.tt_values.specs.declared.row.Row.{Row}
use Rattle.tt_values.specs.declared.reply.Reply.TheVariants.{Rows}
use Rattle.tt_values.specs.Same.{is_same_row}
use Rattle.tt_values.proofs.LawProofs.{same_replies_are_equal}
use Rattle.tt_versions.specs.Sides.{LineagesByKey, RowsOverTime, current_of, next_of, is_split, HasSplitKeys}
use Rattle.tt_versions.specs.Index.{KeySet}
use Rattle.tt_versions.specs.Pages.{those_after}
use Rattle.tt_versions.specs.Differences.{difference_of, DifferencesByKey, ListsDifferences, ListsFirstDifferences}
use Rattle.tt_versions.proofs.EntriesLemmas.{first, second}
use Rattle.tt_versions.proofs.SidesLemmas.{next_of-whole}
use Rattle.tt_versions.proofs.EntriesByLemmas.{entries_by, is_sorted-entries_by, find-entries_by, entries_by-after}

-- ---- the rows that differ are split

is_same_row-itself : (r : Row) → is_same_row r r ≡ true
is_same_row-itself r =
    let replies = Rows (r ∷ []) ∷ [] in
    first _ _ (second true _ (first _ _ (second true _ ((same_replies_are_equal replies replies).1 refl))))

difference_of-itself : (o : Option Row) → difference_of o o ≡ None
difference_of-itself None = refl
difference_of-itself (Some r) = ap (λ b. if b then None else Some (Some r, Some r)) (is_same_row-itself r)

-- what differs at a time at a key
abbrev pub differs_at : LineagesByKey → ℕ → ℤ → Option (Option Row × Option Row)
differs_at t time key = difference_of (current_of t key time) (next_of t key time)

differs_at-whole : (t : LineagesByKey) (time : ℕ) (key : ℤ) → is_split t key ≡ false → differs_at t time key ≡ None
differs_at-whole t time key whole = ap (λ rows. difference_of (current_of t key time) (rows time)) (next_of-whole t key whole) ∙ difference_of-itself (current_of t key time)

-- and at some keys
abbrev pub differences_among : LineagesByKey → ℕ → KeySet → DifferencesByKey
differences_among t time keys = entries_by (λ key u. differs_at t time key) keys

-- what differs at the keys of the split rows is all that differs
lists_differences : (keys : KeySet) (t : LineagesByKey) (time : ℕ) → HasSplitKeys keys t → IsTrue (sorted.is_sorted int_cmp keys)
    → ListsDifferences (differences_among t time keys) (current_of t) (next_of t) time
lists_differences keys t time split h = record {
  sorted = is_sorted-entries_by (λ key u. differs_at t time key) keys h;
  finds = λ q. find-entries_by (λ key u. differs_at t time key) keys q h ∙ by q (sorted.find int_cmp q keys) (split q);
}
  where
    by : (q : ℤ) (o : Option (Unit {0})) → is_some o ≡ is_split t q → option_and_then (λ u. differs_at t time q) o ≡ differs_at t time q
    by q None whole = sym (differs_at-whole t time q (sym whole))
    by q (Some u) split = refl

-- ---- the first of them

-- where as many are found as are asked for
pub first_differences-full : (es : DifferencesByKey) (low : Option ℤ) (most : ℕ) (keys left : KeySet) (t : LineagesByKey) (time : ℕ) → HasSplitKeys keys t → IsTrue (sorted.is_sorted int_cmp keys)
    → es ++ differences_among t time left ≡ differences_among t time (those_after low keys) → length es ≡ most → ListsFirstDifferences es low most (current_of t) (next_of t) time
first_differences-full es low most keys left t time split h whole full = record {
  all = differences_among t time keys;
  lists = lists_differences keys t time split h;
  first = sym (take_at es (differences_among t time left) most full) ∙ ap (take most) (whole ∙ entries_by-after (λ key u. differs_at t time key) low keys);
}

-- and where nothing is left
pub first_differences-all : (es : DifferencesByKey) (low : Option ℤ) (most : ℕ) (keys : KeySet) (t : LineagesByKey) (time : ℕ) → HasSplitKeys keys t → IsTrue (sorted.is_sorted int_cmp keys)
    → es ≡ differences_among t time (those_after low keys) → length es ≤ most → ListsFirstDifferences es low most (current_of t) (next_of t) time
first_differences-all es low most keys t time split h whole few = record {
  all = differences_among t time keys;
  lists = lists_differences keys t time split h;
  first = sym (take_all most es few) ∙ ap (take most) (whole ∙ entries_by-after (λ key u. differs_at t time key) low keys);
}

-- of whatever list has all that differs
pub first_differences-of_any : (es : DifferencesByKey) (low : Option ℤ) (most : ℕ) (current next : RowsOverTime) (time : ℕ) → ListsFirstDifferences es low most current next time
    → (all : DifferencesByKey) → ListsDifferences all current next time → es ≡ take most (those_after low all)
first_differences-of_any es low most current next time f all lists =
    f.first
    ∙ ap (λ (xs : DifferencesByKey). take most (those_after low xs))
    (sorted.same_entries int_cmp int_cmp_total int_cmp-IsAntisymmetric f.all all (subst T (sym f.lists.sorted) tt) (subst T (sym lists.sorted) tt) (λ q. f.lists.finds q ∙ sym (lists.finds q)))
