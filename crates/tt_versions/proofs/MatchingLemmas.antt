-- The rows that match, found by one key, by a set of keys, or among all.
use Rattle.std.proofs.Common.{◌≡◌, ℕ, ℤ, Bool, true, false, cond, List, [], ◌∷◌, Option, None, Some, IsTrue, T, is_some, if◌then◌else◌, refl, sym, ap, subst, ◌∙◌}
use Rattle.std.proofs.lemmas.Bool.Decides.{Decides-int_eq}
use Rattle.std.specs.Option.{option_and_then}
use Rattle.std.specs.Ordering.{int_cmp, int_eq}
use Rattle.std.specs.Cmp.{int_cmp_total}
use Rattle.std.specs.FinMap.{int_cmp-IsAntisymmetric}
use Rattle.std.specs.FinMap.Entries as sorted
use Rattle.tt_values.specs.declared.row.Row.{Row}
use Rattle.tt_values.specs.declared.statement.Equal.{Equal}
use Rattle.tt_values.specs.Matches.{matches}
use Rattle.tt_values.specs.Content.{RowsByKey, row_at}
use Rattle.tt_values.specs.Effect.{matching_rows}
use Rattle.tt_versions.specs.declared.side.Side.{Side}
use Rattle.tt_versions.specs.Versions.{visible_row}
use Rattle.tt_versions.specs.Lineage.{chain_on}
use Rattle.tt_versions.specs.Sides.{LineagesByKey, RowsOverTime, side_of, ListsRows}
use Rattle.tt_versions.specs.Matching.{if_matching, ListsMatches, ListsMatchingRows}
use Rattle.tt_versions.specs.Index.{KeySet, HaveKeysIn, HaveKey}
use Rattle.tt_versions.proofs.EntriesLemmas.{both, first, second, find-below}
use Rattle.tt_versions.proofs.SidesLemmas.{same_key}
use Rattle.tt_versions.proofs.EntriesByLemmas.{with_first, entries_by, find-other, find-same, is_sorted-entries_by, find-entries_by}
use Rattle.tt_versions.proofs.RowsAtLemmas.{rows_of, lists_rows}

-- ---- the rows of a list that match

below_all-matching : (equals : List Equal) (k : ℤ) (es : RowsByKey) → sorted.below_all int_cmp k es ≡ true → sorted.below_all int_cmp k (matching_rows equals es) ≡ true
below_all-matching equals k [] h = refl
below_all-matching equals k (e ∷ es) h = by (matches equals e.1) (below_all-matching equals k es (second _ _ h))
  where
    by : (b : Bool) → sorted.below_all int_cmp k (matching_rows equals es) ≡ true → sorted.below_all int_cmp k (cond b (e ∷ matching_rows equals es) (matching_rows equals es)) ≡ true
    by true rest = both _ _ (first _ _ h) rest
    by false rest = rest

is_sorted-matching : (equals : List Equal) (es : RowsByKey) → sorted.is_sorted int_cmp es ≡ true → sorted.is_sorted int_cmp (matching_rows equals es) ≡ true
is_sorted-matching equals [] h = refl
is_sorted-matching equals (e ∷ es) h = by (matches equals e.1) (is_sorted-matching equals es (second _ _ h))
  where
    by : (b : Bool) → sorted.is_sorted int_cmp (matching_rows equals es) ≡ true → sorted.is_sorted int_cmp (cond b (e ∷ matching_rows equals es) (matching_rows equals es)) ≡ true
    by true rest = both _ _ (below_all-matching equals e.0 es (first _ _ h)) rest
    by false rest = rest

-- at each key stands the row of the list, if it matches
row_at-matching : (equals : List Equal) (es : RowsByKey) (q : ℤ) → sorted.is_sorted int_cmp es ≡ true → row_at (matching_rows equals es) q ≡ if_matching equals (row_at es q)
row_at-matching equals [] q h = refl
row_at-matching equals (e ∷ es) q h = by (matches equals e.1) refl (int_eq q e.0) refl (row_at-matching equals es q (second _ _ h))
  where
    rest : RowsByKey
    rest = matching_rows equals es

    by : (b : Bool) → matches equals e.1 ≡ b → (c : Bool) → int_eq q e.0 ≡ c → row_at rest q ≡ if_matching equals (row_at es q)
        → row_at (cond b (e ∷ rest) rest) q ≡ if_matching equals (cond c (Some e.1) (row_at es q))
    by true m true is h' = ap (λ x. cond x (Some e.1) (row_at rest q)) is ∙ ap (λ x. if x then Some e.1 else None) (sym m)
    by true m false is h' = ap (λ x. cond x (Some e.1) (row_at rest q)) is ∙ h'
    by false m true is h' =
        let missing : row_at es q ≡ None = ap (row_at es) (same_key q e.0 is) ∙ find-below e.0 es (first _ _ h) in
        h' ∙ ap (if_matching equals) missing ∙ ap (λ x. if x then Some e.1 else None) (sym m)
    by false m false is h' = h'

-- of all rows of a side, those that match
lists_matches-of_rows : (equals : List Equal) (es : RowsByKey) (rows : RowsOverTime) (time : ℕ) → ListsRows es rows time → ListsMatches (matching_rows equals es) equals rows time
lists_matches-of_rows equals es rows time l = record {
  sorted = is_sorted-matching equals es l.sorted;
  finds = λ key. row_at-matching equals es key l.sorted ∙ ap (if_matching equals) (l.finds key);
}

-- the matching rows of all entries, one after another
abbrev pub matching_of : List Equal → ℕ → Side → LineagesByKey → RowsByKey
matching_of equals time side t = entries_by (λ key l. if_matching equals (visible_row time (chain_on side l))) t

matching_of-first : (equals : List Equal) (key : ℤ) (o : Option Row) (some all : RowsByKey) → some ≡ matching_rows equals all
    → with_first key (if_matching equals o) some ≡ matching_rows equals (with_first key o all)
matching_of-first equals key None some all h = h
matching_of-first equals key (Some row) some all h = by (matches equals row)
  where
    by : (b : Bool) → with_first key (if b then Some row else None) some ≡ cond b ((key, row) ∷ matching_rows equals all) (matching_rows equals all)
    by true = ap (λ rest. (key, row) ∷ rest) h
    by false = h

matching_of-rows : (equals : List Equal) (time : ℕ) (side : Side) (t : LineagesByKey) → matching_of equals time side t ≡ matching_rows equals (rows_of time side t)
matching_of-rows equals time side [] = refl
matching_of-rows equals time side (e ∷ es) =
    matching_of-first equals e.0 (visible_row time (chain_on side e.1)) (matching_of equals time side es) (rows_of time side es) (matching_of-rows equals time side es)

pub lists_matches-of_all : (equals : List Equal) (es : RowsByKey) (t : LineagesByKey) (time : ℕ) (side : Side) → IsTrue (sorted.is_sorted int_cmp t) → es ≡ matching_of equals time side t → ListsMatches es equals (side_of t side) time
lists_matches-of_all equals es t time side h is =
    subst (λ rows. ListsMatches rows equals (side_of t side) time) (sym (is ∙ matching_of-rows equals time side t))
    (lists_matches-of_rows equals (rows_of time side t) (side_of t side) time (lists_rows (rows_of time side t) t time side h refl))

-- ---- the rows of some keys

-- a row that doesn't match, or isn't there
no_match : (equals : List Equal) (o : Option Row) → ((row : Row) → o ≡ Some row → IsTrue (matches equals row) → ⊥) → if_matching equals o ≡ None
no_match equals None never = refl
no_match equals (Some row) never = by (matches equals row) refl
  where
    by : (b : Bool) → matches equals row ≡ b → (if b then Some row else None) ≡ None
    by true m = absurd (never row refl m)
    by false m = refl

-- the matching rows of a list of keys, one after another
abbrev pub matching_among : List Equal → (ℤ → Option Row) → KeySet → RowsByKey
matching_among equals rows keys = entries_by (λ key u. if_matching equals (rows key)) keys

pub lists_matches-among : (equals : List Equal) (es : RowsByKey) (t : LineagesByKey) (keys : KeySet) (time : ℕ) (side : Side) → HaveKeysIn t side time keys equals → IsTrue (sorted.is_sorted int_cmp keys)
    → es ≡ matching_among equals (λ k. side_of t side k time) keys → ListsMatches es equals (side_of t side) time
lists_matches-among equals es t keys time side have h is = subst (λ rows. ListsMatches rows equals (side_of t side) time) (sym is) (record {
  sorted = is_sorted-entries_by (λ key u. if_matching equals (side_of t side key time)) keys h;
  finds = λ q. find-entries_by (λ key u. if_matching equals (side_of t side key time)) keys q h ∙ by q (sorted.find int_cmp q keys) refl;
})
  where
    by : (q : ℤ) (o : Option (Unit {0})) → sorted.find int_cmp q keys ≡ o → option_and_then (λ u. if_matching equals (side_of t side q time)) o ≡ if_matching equals (side_of t side q time)
    by q None none = sym (no_match equals (side_of t side q time) (λ row shown m. let clash = sym (ap is_some none) ∙ have q row shown m in cc))
    by q (Some u) found = refl

-- the row of the one key
pub lists_matches-of_key : (equals : List Equal) (es : RowsByKey) (t : LineagesByKey) (key : ℤ) (time : ℕ) (side : Side) → HaveKey t key equals
    → es ≡ with_first key (if_matching equals (side_of t side key time)) [] → ListsMatches es equals (side_of t side) time
lists_matches-of_key equals es t key time side only is = subst (λ rows. ListsMatches rows equals (side_of t side) time) (sym is) (record {
  sorted = alone (if_matching equals (side_of t side key time));
  finds = λ q. by q (int_eq q key) refl;
})
  where
    o : Option Row
    o = if_matching equals (side_of t side key time)

    alone : (r : Option Row) → IsTrue (sorted.is_sorted int_cmp (with_first key r []))
    alone None = refl
    alone (Some row) = refl

    itself : (k : ℤ) → int_eq k k ≡ true
    itself k = (Decides-int_eq k k).1 refl

    by : (q : ℤ) (b : Bool) → int_eq q key ≡ b → row_at (with_first key o []) q ≡ if_matching equals (side_of t side q time)
    by q true e = find-same key o [] q e refl ∙ ap (λ k. if_matching equals (side_of t side k time)) (sym (same_key q key e))
    by q false e =
        find-other key o [] q e
        ∙ sym (no_match equals (side_of t side q time) (λ row shown m. let clash = sym e ∙ ap (λ k. int_eq k key) (only side q time row shown m) ∙ itself key in cc))

-- ---- and what they are of a content

pub lists_matching_rows-of : (es : RowsByKey) (equals : List Equal) (rows : RowsOverTime) (time : ℕ) → ListsMatches es equals rows time → ListsMatchingRows es equals rows time
lists_matching_rows-of es equals rows time l all lists =
    sorted.same_entries int_cmp int_cmp_total int_cmp-IsAntisymmetric es (matching_rows equals all) (subst T (sym l.sorted) tt) (subst T (sym (is_sorted-matching equals all lists.sorted)) tt)
    (λ q. l.finds q ∙ ap (if_matching equals) (sym (lists.finds q)) ∙ sym (row_at-matching equals all q lists.sorted))
