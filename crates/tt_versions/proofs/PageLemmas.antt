-- Pages of the rows that match, found by one key, by a set of keys, or among all.
use Rattle.std.proofs.Common.{◌≡◌, ℕ, ◌<◌, ◌≤◌, ℤ, int_lt, nat_lt, Bool, true, false, cond, List, [], ◌∷◌, ◌++◌, length, take, filter, Option, None, Some, IsTrue, Less, Equal, Greater, refl, sym, ap, subst, ◌∙◌, arith, length-append}
use Rattle.std.proofs.lemmas.Bool.Decides.{nat_tests}
use Rattle.std.proofs.lemmas.List.{take_all, take_at}
use Rattle.std.specs.Ordering.{int_cmp, is_lt}
use Rattle.std.specs.FinMap.Entries as sorted
use Rattle.tt_pages.specs.MapWalk.{entries_after}
use Rattle.tt_values.specs.declared.row.Row.{Row}
use Rattle.tt_values.specs.declared.statement.Equal.{Equal as Equality}
use Rattle.tt_values.specs.Content.{RowsByKey}
use Rattle.tt_versions.specs.declared.side.Side.{Side}
use Rattle.tt_versions.specs.declared.lineage.Lineage.{Lineage}
use Rattle.tt_versions.specs.Versions.{visible_row}
use Rattle.tt_versions.specs.Lineage.{chain_on}
use Rattle.tt_versions.specs.Sides.{LineagesByKey, RowsOverTime, side_of}
use Rattle.tt_versions.specs.Matching.{if_matching}
use Rattle.tt_versions.specs.Index.{KeySet, HaveKeysIn, HaveKey}
use Rattle.tt_versions.specs.Pages.{is_after, those_after, IsPage, ListsPage, ListsMatchingPage}
use Rattle.tt_versions.proofs.EntriesByLemmas.{with_first, after-first, entries_by-after}
use Rattle.tt_versions.proofs.MatchingLemmas.{matching_of, matching_among, lists_matches-of_all, lists_matches-among, lists_matches-of_key, lists_matching_rows-of}

-- ---- a walk from a key on

pub is_lt-int : (low key : ℤ) → is_lt (int_cmp low key) ≡ int_lt low key
is_lt-int low key = by (int_lt low key) (int_lt key low)
  where
    by : (b c : Bool) → is_lt (cond b Less (cond c Greater Equal)) ≡ b
    by true c = refl
    by false true = refl
    by false false = refl

-- it reads what has greater keys
pub walk-after : {V : Type 0} (low : ℤ) (es : List (ℤ × V)) → entries_after low es ≡ those_after (Some low) es
walk-after low es = λ i. filter (λ e. is_lt-int low e.0 i) es

-- and everything, where no key is given
pub walk-all : {V : Type 0} (es : List (ℤ × V)) → es ≡ those_after None es
walk-all [] = refl
walk-all (e ∷ es) = ap (λ rest. e ∷ rest) (walk-all es)

pub ruleset walks = (walk-after, walk-all)

-- ---- the matching rows of what comes after a key are those after it of the matching rows

pub matching_of-after : (low : Option ℤ) (equals : List Equality) (time : ℕ) (side : Side) (t : LineagesByKey)
    → matching_of equals time side (those_after low t) ≡ those_after low (matching_of equals time side t)
matching_of-after low equals time side t = entries_by-after (λ key l. if_matching equals (visible_row time (chain_on side l))) low t

matching_among-after : (low : Option ℤ) (equals : List Equality) (rows : ℤ → Option Row) (ks : KeySet)
    → matching_among equals rows (those_after low ks) ≡ those_after low (matching_among equals rows ks)
matching_among-after low equals rows ks = entries_by-after (λ key u. if_matching equals (rows key)) low ks

-- ---- pages

-- all rows after a key, where there are no more than are asked for
is_page-last : (es : RowsByKey) (low : Option ℤ) (most : ℕ) (whole : RowsByKey) → es ≡ those_after low whole → length es ≤ most → IsPage es false low most whole
is_page-last es low most whole is few = record {
  rows = sym (take_all most es few) ∙ ap (take most) is;
  more = ends (length es) few ∙ ap (λ xs. nat_lt most (length xs)) is;
}
  where
    ends : (n : ℕ) → n ≤ most → false ≡ nat_lt most n
    ends n h = sym (grind (arith, nat_tests))

-- the first rows after a key, where there is one more
is_page-more : (es : RowsByKey) (low : Option ℤ) (most : ℕ) (whole : RowsByKey) (e : ℤ × Row) (rest : RowsByKey)
    → es ++ e ∷ rest ≡ those_after low whole → length es ≡ most → IsPage es true low most whole
is_page-more es low most whole e rest is full = record {
  rows = sym (take_at es (e ∷ rest) most full) ∙ ap (take most) is;
  more = follows (length (es ++ e ∷ rest)) (omega (arith, length-append es (e ∷ rest))) ∙ ap (λ xs. nat_lt most (length xs)) is;
}
  where
    follows : (n : ℕ) → most < n → true ≡ nat_lt most n
    follows n h = sym (grind (arith, nat_tests))

-- the row of one key

none_before : (low : Option ℤ) (key : ℤ) (o : Option Row) → is_after low key ≡ false → [] ≡ those_after low (with_first key o [])
none_before low key o is = sym (after-first low key o [] ∙ ap (λ b. cond b (with_first key o []) []) is)

found : (low : Option ℤ) (key : ℤ) (o : Option Row) (row : Row) → is_after low key ≡ true → Some row ≡ o → (key, row) ∷ [] ≡ those_after low (with_first key o [])
found low key o row is there = sym (ap (λ b. cond b ((key, row) ∷ []) []) is) ∙ ap (λ r. those_after low (with_first key r [])) there

none_few : (es : RowsByKey) (most : ℕ) → es ≡ [] → length es ≤ most
none_few es most none = subst (λ (xs : RowsByKey). length xs ≤ most) (sym none) (omega arith)

-- ---- and of what lists they are pages

lists_page-of_all : (es : RowsByKey) (follow : Bool) (low : Option ℤ) (most : ℕ) (equals : List Equality) (t : LineagesByKey) (time : ℕ) (side : Side) → IsTrue (sorted.is_sorted int_cmp t)
    → IsPage es follow low most (matching_of equals time side t) → ListsPage es follow low most equals (side_of t side) time
lists_page-of_all es follow low most equals t time side h page = record {
  whole = matching_of equals time side t;
  lists = lists_matches-of_all equals (matching_of equals time side t) t time side h refl;
  page = page;
}

lists_page-among : (es : RowsByKey) (follow : Bool) (low : Option ℤ) (most : ℕ) (equals : List Equality) (t : LineagesByKey) (keys : KeySet) (time : ℕ) (side : Side) → HaveKeysIn t side time keys equals → IsTrue (sorted.is_sorted int_cmp keys)
    → IsPage es follow low most (matching_among equals (λ k. side_of t side k time) keys) → ListsPage es follow low most equals (side_of t side) time
lists_page-among es follow low most equals t keys time side have h page = record {
  whole = matching_among equals (λ k. side_of t side k time) keys;
  lists = lists_matches-among equals (matching_among equals (λ k. side_of t side k time) keys) t keys time side have h refl;
  page = page;
}

lists_page-of_key : (es : RowsByKey) (follow : Bool) (low : Option ℤ) (most : ℕ) (equals : List Equality) (t : LineagesByKey) (key : ℤ) (time : ℕ) (side : Side) → HaveKey t key equals
    → IsPage es follow low most (with_first key (if_matching equals (side_of t side key time)) []) → ListsPage es follow low most equals (side_of t side) time
lists_page-of_key es follow low most equals t key time side only page = record {
  whole = with_first key (if_matching equals (side_of t side key time)) [];
  lists = lists_matches-of_key equals (with_first key (if_matching equals (side_of t side key time)) []) t key time side only refl;
  page = page;
}

-- the page of one key, which isn't after the other
pub of_key-before : (es : RowsByKey) (low : Option ℤ) (most : ℕ) (equals : List Equality) (t : LineagesByKey) (key : ℤ) (time : ℕ) (side : Side) → HaveKey t key equals
    → es ≡ [] → is_after low key ≡ false → ListsPage es false low most equals (side_of t side) time
of_key-before es low most equals t key time side only none is =
    let o = if_matching equals (side_of t side key time) in
    lists_page-of_key es false low most equals t key time side only (is_page-last es low most (with_first key o []) (none ∙ none_before low key o is) (none_few es most none))

-- whose row doesn't match, or isn't there
pub of_key-none : (es : RowsByKey) (low : Option ℤ) (most : ℕ) (equals : List Equality) (t : LineagesByKey) (key : ℤ) (time : ℕ) (side : Side) → HaveKey t key equals
    → es ≡ [] → None ≡ if_matching equals (side_of t side key time) → ListsPage es false low most equals (side_of t side) time
of_key-none es low most equals t key time side only none is =
    let o = if_matching equals (side_of t side key time) in
    lists_page-of_key es false low most equals t key time side only
    (is_page-last es low most (with_first key o []) (none ∙ ap (λ r. those_after low (with_first key r [])) is) (none_few es most none))

-- whose row matches, where none is asked for
pub of_key-more : (es : RowsByKey) (low : Option ℤ) (most : ℕ) (equals : List Equality) (t : LineagesByKey) (key : ℤ) (time : ℕ) (side : Side) (row : Row) → HaveKey t key equals
    → es ≡ [] → is_after low key ≡ true → Some row ≡ if_matching equals (side_of t side key time) → most ≡ 0 → ListsPage es true low most equals (side_of t side) time
of_key-more es low most equals t key time side row only none is there zero =
    let o = if_matching equals (side_of t side key time) in
    lists_page-of_key es true low most equals t key time side only
    (is_page-more es low most (with_first key o []) (key, row) [] (ap (λ xs. xs ++ (key, row) ∷ []) none ∙ found low key o row is there) (ap length none ∙ sym zero))

-- whose row matches, where at least one is asked for
pub of_key-one : (es : RowsByKey) (low : Option ℤ) (most : ℕ) (equals : List Equality) (t : LineagesByKey) (key : ℤ) (time : ℕ) (side : Side) (row : Row) → HaveKey t key equals
    → es ≡ (key, row) ∷ [] → is_after low key ≡ true → Some row ≡ if_matching equals (side_of t side key time) → 0 < most → ListsPage es false low most equals (side_of t side) time
of_key-one es low most equals t key time side row only one is there some =
    let o = if_matching equals (side_of t side key time) in
    let few : length es ≤ most = subst (λ (xs : RowsByKey). length xs ≤ most) (sym one) (omega (arith, some)) in
    lists_page-of_key es false low most equals t key time side only (is_page-last es low most (with_first key o []) (one ∙ found low key o row is there) few)

-- the page of all rows, where a row more matches
pub of_all-more : (es : RowsByKey) (low : Option ℤ) (most : ℕ) (equals : List Equality) (t left rest : LineagesByKey) (e : ℤ × Lineage) (row : Row) (time : ℕ) (side : Side) → IsTrue (sorted.is_sorted int_cmp t)
    → es ++ matching_of equals time side left ≡ matching_of equals time side (those_after low t) → left ≡ e ∷ rest → Some row ≡ if_matching equals (visible_row time (chain_on side e.1)) → length es ≡ most
    → ListsPage es true low most equals (side_of t side) time
of_all-more es low most equals t left rest e row time side h whole next there full =
    let is = ap (λ r. es ++ with_first e.0 r (matching_of equals time side rest)) there ∙ ap (λ xs. es ++ matching_of equals time side xs) (sym next) ∙ whole ∙ matching_of-after low equals time side t in
    lists_page-of_all es true low most equals t time side h (is_page-more es low most (matching_of equals time side t) (e.0, row) (matching_of equals time side rest) is full)

-- or nothing is left
pub of_all-last : (es : RowsByKey) (low : Option ℤ) (most : ℕ) (equals : List Equality) (t : LineagesByKey) (time : ℕ) (side : Side) → IsTrue (sorted.is_sorted int_cmp t)
    → es ≡ matching_of equals time side (those_after low t) → length es ≤ most → ListsPage es false low most equals (side_of t side) time
of_all-last es low most equals t time side h whole few =
    lists_page-of_all es false low most equals t time side h (is_page-last es low most (matching_of equals time side t) (whole ∙ matching_of-after low equals time side t) few)

-- the page of some keys, where a row more matches
pub among-more : (es : RowsByKey) (low : Option ℤ) (most : ℕ) (equals : List Equality) (t : LineagesByKey) (keys left rest : KeySet) (k : ℤ × Unit {0}) (row : Row) (time : ℕ) (side : Side) → HaveKeysIn t side time keys equals → IsTrue (sorted.is_sorted int_cmp keys)
    → es ++ matching_among equals (λ q. side_of t side q time) left ≡ matching_among equals (λ q. side_of t side q time) (those_after low keys) → left ≡ k ∷ rest → Some row ≡ if_matching equals (side_of t side k.0 time) → length es ≡ most
    → ListsPage es true low most equals (side_of t side) time
among-more es low most equals t keys left rest k row time side have h whole next there full =
    let rows : ℤ → Option Row = λ q. side_of t side q time in
    let is = ap (λ r. es ++ with_first k.0 r (matching_among equals rows rest)) there ∙ ap (λ xs. es ++ matching_among equals rows xs) (sym next) ∙ whole ∙ matching_among-after low equals rows keys in
    lists_page-among es true low most equals t keys time side have h (is_page-more es low most (matching_among equals rows keys) (k.0, row) (matching_among equals rows rest) is full)

-- or nothing is left
pub among-last : (es : RowsByKey) (low : Option ℤ) (most : ℕ) (equals : List Equality) (t : LineagesByKey) (keys : KeySet) (time : ℕ) (side : Side) → HaveKeysIn t side time keys equals → IsTrue (sorted.is_sorted int_cmp keys)
    → es ≡ matching_among equals (λ q. side_of t side q time) (those_after low keys) → length es ≤ most → ListsPage es false low most equals (side_of t side) time
among-last es low most equals t keys time side have h whole few =
    let rows : ℤ → Option Row = λ q. side_of t side q time in
    lists_page-among es false low most equals t keys time side have h (is_page-last es low most (matching_among equals rows keys) (whole ∙ matching_among-after low equals rows keys) few)

-- whatever list has the rows of the side
pub lists_matching_page-of : (es : RowsByKey) (follow : Bool) (low : Option ℤ) (most : ℕ) (equals : List Equality) (rows : RowsOverTime) (time : ℕ) → ListsPage es follow low most equals rows time → ListsMatchingPage es follow low most equals rows time
lists_matching_page-of es follow low most equals rows time l all lists = subst (IsPage es follow low most) (lists_matching_rows-of l.whole equals rows time l.lists all lists) l.page
