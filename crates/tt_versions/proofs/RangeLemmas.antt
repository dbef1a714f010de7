-- Rows outside the range that comparisons leave don't match, so a walk need not read them.
use Rattle.std.proofs.Common.{◌≡◌, ℕ, ◌+◌, ◌<◌, ◌≤◌, nat_lt, slice_get, slice_index_or, FitsSigned, w64, ℤ, int_lt, Bool, true, false, cond, ◌&&◌, List, [], ◌∷◌, ◌++◌, length, Option, None, Some, IsTrue, if◌then◌else◌, refl, sym, ap, subst, ◌∙◌, arith, append-nil, T}
use Rattle.std.proofs.lemmas.Bool.Decides.{Decides-int_eq}
use Rattle.std.proofs.lemmas.Grind.{common_steps}
use Rattle.std.proofs.lemmas.Option.{slice_get-get_or}
use Rattle.std.proofs.lemmas.List.Folds.{list_all-append}
use Rattle.std.specs.List.{list_all}
use Rattle.std.specs.Option.{unwrap_or}
use Rattle.std.specs.Ordering.{int_cmp, int_eq, is_lt}
use Rattle.std.specs.FinMap.Entries as sorted
use Rattle.tt_values.specs.declared.row.Row.{Row}
use Rattle.tt_values.specs.declared.statement.Equal.{Equal}
use Rattle.tt_values.specs.Matches.{matches}
use Rattle.tt_values.specs.Content.{RowsByKey}
use Rattle.tt_versions.specs.declared.key_range.KeyRange.{KeyRange}
use Rattle.tt_versions.specs.declared.side.Side.{Side}
use Rattle.tt_versions.specs.declared.lineage.Lineage.{Lineage}
use Rattle.tt_versions.specs.Versions.{visible_row}
use Rattle.tt_versions.specs.Lineage.{chain_on, unwritten}
use Rattle.tt_versions.specs.Sides.{LineagesByKey, lineage_at, side_of}
use Rattle.tt_versions.specs.Index.{IndexState, ListsRow, ListsTable}
use Rattle.tt_versions.specs.Matching.{if_matching, ListsMatches}
use Rattle.tt_versions.specs.Pages.{is_after, those_after, ListsPage}
use Rattle.tt_versions.specs.KeyRange.{is_before, is_within, leaves_key, IsNarrowest, NarrowsTo, IsRangeOfMatches, HaveKeysWithin}
use Rattle.tt_versions.proofs.EntriesLemmas.{both, first, second, find-below}
use Rattle.tt_versions.proofs.SidesLemmas.{same_key, visible_row-unwritten}
use Rattle.tt_versions.proofs.IndexLemmas.{shown, visible_row-has}
use Rattle.tt_versions.proofs.EntriesByLemmas.{with_first}
use Rattle.tt_versions.proofs.MatchingLemmas.{matching_of, lists_matches-of_all}
use Rattle.tt_versions.proofs.PageLemmas.{is_lt-int, walk-all, matching_of-after, of_all-more}

-- ---- ranges

-- the conditions before a position leave the keys of a range
abbrev pub LeaveUpTo : ℕ → KeyRange → List Equal → Type 0
LeaveUpTo n range equals = (key : ℤ) → FitsSigned w64 key → IsTrue (is_within range key) → (k : ℕ) (q : Equal) → slice_get equals k ≡ Some q → k < n → IsTrue (leaves_key q key)

pub LeaveUpTo-start : (range : KeyRange) (equals : List Equal) → LeaveUpTo 0 range equals
LeaveUpTo-start range equals key fits within k q there below = absurd (omega (arith, below))

-- one more condition
pub LeaveUpTo-more : (equals : List Equal) (n : ℕ) (q : Equal) (before after : KeyRange) → slice_get equals n ≡ Some q → NarrowsTo before (leaves_key q) after → LeaveUpTo n before equals → LeaveUpTo (n + 1) after equals
LeaveUpTo-more equals n q before after there narrows h key fits within k p at below = by (nat_lt k n) refl
  where
    narrowed : IsTrue (is_within before key && leaves_key q key)
    narrowed = narrows key fits within

    by : (b : Bool) → nat_lt k n ≡ b → IsTrue (leaves_key p key)
    by true y = let lower : k < n = grind (arith, common_steps) in h key fits (first _ _ narrowed) k p at lower
    by false y =
        let same : k ≡ n = grind (arith, common_steps) in
        let here : slice_get equals n ≡ Some p = subst (λ m. slice_get equals m ≡ Some p) same at in
        let one : q ≡ p = cc in
        subst (λ x. IsTrue (leaves_key x key)) one (second _ _ narrowed)

pub LeaveUpTo-all : (equals : List Equal) (n : ℕ) (range : KeyRange) → length equals ≤ n → LeaveUpTo n range equals → IsNarrowest range equals
LeaveUpTo-all equals n range all h key fits within k d below =
    let lower : k < n = omega (arith, below, all) in
    h key fits within k (slice_index_or equals k d) (slice_get-get_or equals k d below) lower

pub HaveKeysWithin-covers : (index : IndexState) (range : KeyRange) (equals : List Equal) (t : LineagesByKey) → ListsTable index t → IsRangeOfMatches index range equals → HaveKeysWithin t range equals
unfolding side_of
HaveKeysWithin-covers index range equals t listed covers side key time row is m =
    covers key row (shown (ListsRow index key) (visible_row time (chain_on side (lineage_at t key))) row is (visible_row-has (ListsRow index key) side (lineage_at t key) time (listed key))) m

-- ---- the rows that match have keys in the range

-- each row that some entries show on a side at a time and that matches has its key in the range
abbrev ShowsWithin : ℕ → Side → LineagesByKey → KeyRange → List Equal → Type 0
ShowsWithin time side t range equals = (key : ℤ) (row : Row) → visible_row time (chain_on side (lineage_at t key)) ≡ Some row → IsTrue (matches equals row) → IsTrue (is_within range key)

shows_within : (time : ℕ) (side : Side) (t : LineagesByKey) (range : KeyRange) (equals : List Equal) → HaveKeysWithin t range equals → ShowsWithin time side t range equals
unfolding side_of
shows_within time side t range equals have key row = have side key time row

lineage_at-first : (e : ℤ × Lineage) (es : LineagesByKey) → lineage_at (e ∷ es) e.0 ≡ e.1
lineage_at-first e es = ap (λ b. unwrap_or (cond b (Some e.1) (sorted.find int_cmp e.0 es)) unwritten) ((Decides-int_eq e.0 e.0).1 refl)

-- and so do the entries behind the first
shows_within-rest : (time : ℕ) (side : Side) (e : ℤ × Lineage) (es : LineagesByKey) (range : KeyRange) (equals : List Equal) → sorted.below_all int_cmp e.0 es ≡ true
    → ShowsWithin time side (e ∷ es) range equals → ShowsWithin time side es range equals
shows_within-rest time side e es range equals below h key row is m = by (int_eq key e.0) refl
  where
    by : (b : Bool) → int_eq key e.0 ≡ b → IsTrue (is_within range key)
    by true same =
        let missing = ap (λ k. sorted.find int_cmp k es) (same_key key e.0 same) ∙ find-below e.0 es below in
        let none = ap (λ l. visible_row time (chain_on side (unwrap_or l unwritten))) missing ∙ visible_row-unwritten time side in
        let clash : None ≡ Some row = sym none ∙ is in
        cc
    by false other = h key row (ap (λ b. visible_row time (chain_on side (unwrap_or (cond b (Some e.1) (sorted.find int_cmp key es)) unwritten))) other ∙ is) m

-- what comes after a key still stands by rising key
pub is_sorted-after : (low : Option ℤ) (t : LineagesByKey) → IsTrue (sorted.is_sorted int_cmp t) → IsTrue (sorted.is_sorted int_cmp (those_after low t))
is_sorted-after low t h = is_true (sorted.is_sorted int_cmp (those_after low t)) (sorted.is_sorted-where_key int_cmp (is_after low) t (subst T (sym h) tt))
  where
    is_true : (b : Bool) → T b → b ≡ true
    is_true true h' = refl
    is_true false h' = absurd h'

pub is_sorted-rest : (left rest : LineagesByKey) (e : ℤ × Lineage) → left ≡ e ∷ rest → IsTrue (sorted.is_sorted int_cmp left) → IsTrue (sorted.is_sorted int_cmp rest)
is_sorted-rest left rest e next h = second _ _ (ap (sorted.is_sorted int_cmp) (sym next) ∙ h)

-- whether all keys of some rows lie in a range
abbrev all_within : KeyRange → RowsByKey → Bool
all_within range es = list_all (λ e. is_within range e.0) es

all_within-first : (range : KeyRange) (equals : List Equal) (key : ℤ) (o : Option Row) (rest : RowsByKey) → ((row : Row) → o ≡ Some row → IsTrue (matches equals row) → IsTrue (is_within range key))
    → all_within range rest ≡ true → all_within range (with_first key (if_matching equals o) rest) ≡ true
all_within-first range equals key None rest shows h = h
all_within-first range equals key (Some row) rest shows h = by (matches equals row) refl
  where
    by : (b : Bool) → matches equals row ≡ b → all_within range (with_first key (if b then Some row else None) rest) ≡ true
    by true m = both _ _ (shows row refl m) h
    by false m = h

all_within-matching : (time : ℕ) (side : Side) (t : LineagesByKey) (range : KeyRange) (equals : List Equal) → sorted.is_sorted int_cmp t ≡ true
    → ShowsWithin time side t range equals → all_within range (matching_of equals time side t) ≡ true
all_within-matching time side [] range equals h shows = refl
all_within-matching time side (e ∷ es) range equals h shows =
    all_within-first range equals e.0 (visible_row time (chain_on side e.1)) (matching_of equals time side es)
    (λ row is m. shows e.0 row (ap (λ l. visible_row time (chain_on side l)) (lineage_at-first e es) ∙ is) m)
    (all_within-matching time side es range equals (second _ _ h) (shows_within-rest time side e es range equals (first _ _ h) shows))

all_within-after : (low : Option ℤ) (range : KeyRange) (es : RowsByKey) → all_within range es ≡ true → all_within range (those_after low es) ≡ true
all_within-after low range [] h = refl
all_within-after low range (e ∷ es) h = by (is_after low e.0) (all_within-after low range es (second _ _ h))
  where
    by : (b : Bool) → all_within range (those_after low es) ≡ true → all_within range (cond b (e ∷ those_after low es) (those_after low es)) ≡ true
    by true rest = both _ _ (first _ _ h) rest
    by false rest = rest

-- ---- a walk that begins at the range

-- a key is greater than the first of these just where it is greater than the others
abbrev pub StartsAfter : Option ℤ → Option ℤ → Option ℤ → Type 0
StartsAfter start one other = (key : ℤ) → is_after start key ≡ (is_after one key && is_after other key)

pub starts_alone : (start : Option ℤ) → StartsAfter start start None
starts_alone start key = by (is_after start key)
  where
    by : (b : Bool) → b ≡ (b && true)
    by true = refl
    by false = refl

those_after-start : (start low : Option ℤ) (range : KeyRange) (es : RowsByKey) → StartsAfter start range.after low → all_within range es ≡ true → those_after start es ≡ those_after low es
those_after-start start low range [] starts h = refl
those_after-start start low range (e ∷ es) starts h =
    let same = starts e.0 ∙ ap (λ b. b && is_after low e.0) (first _ _ (first _ _ h)) in
    let rest = those_after-start start low range es starts (second _ _ h) in
    λ i. cond (same i) (e ∷ rest i) (rest i)

-- reads what matches
matching_of-start : (start low : Option ℤ) (range : KeyRange) (equals : List Equal) (time : ℕ) (side : Side) (t : LineagesByKey) → IsTrue (sorted.is_sorted int_cmp t) → HaveKeysWithin t range equals
    → StartsAfter start range.after low → matching_of equals time side (those_after start t) ≡ matching_of equals time side (those_after low t)
matching_of-start start low range equals time side t h have starts =
    matching_of-after start equals time side t
    ∙ those_after-start start low range (matching_of equals time side t) starts (all_within-matching time side t range equals h (shows_within time side t range equals have))
    ∙ sym (matching_of-after low equals time side t)

-- ---- and ends at it

int-not_before : (key k high : ℤ) → int_lt key k ≡ true → int_lt key high ≡ false → int_lt k high ≡ false
int-not_before key k high above not_before = grind arith

not_before : (high : Option ℤ) (key k : ℤ) → is_lt (int_cmp key k) ≡ true → is_before high key ≡ false → is_before high k ≡ false
not_before None key k above h = cc
not_before (Some high) key k above h = int-not_before key k high (sym (is_lt-int key k) ∙ above) h

not_shown : (range : KeyRange) (key : ℤ) (o : Option Row) (rest : RowsByKey) → is_before range.before key ≡ false → all_within range (with_first key o rest) ≡ true → o ≡ None
not_shown range key None rest behind h = refl
not_shown range key (Some row) rest behind h =
    let clash : false ≡ true = sym behind ∙ second (is_after range.after key) (is_before range.before key) (first (is_within range key) (all_within range rest) h) in
    cc

-- an entry that isn't before the end shows nothing that matches
matching_of-behind : (range : KeyRange) (equals : List Equal) (time : ℕ) (side : Side) (e : ℤ × Lineage) (es : LineagesByKey) → is_before range.before e.0 ≡ false
    → all_within range (matching_of equals time side (e ∷ es)) ≡ true → matching_of equals time side (e ∷ es) ≡ matching_of equals time side es
matching_of-behind range equals time side e es behind h =
    let o = if_matching equals (visible_row time (chain_on side e.1)) in
    ap (λ r. with_first e.0 r (matching_of equals time side es)) (not_shown range e.0 o (matching_of equals time side es) behind h)

-- nor do those behind it
none_behind : (range : KeyRange) (equals : List Equal) (time : ℕ) (side : Side) (key : ℤ) (es : LineagesByKey) → is_before range.before key ≡ false → sorted.below_all int_cmp key es ≡ true
    → all_within range (matching_of equals time side es) ≡ true → matching_of equals time side es ≡ []
none_behind range equals time side key [] behind below h = refl
none_behind range equals time side key (e ∷ es) behind below h =
    let same = matching_of-behind range equals time side e es (not_before range.before key e.0 (first _ _ below) behind) h in
    same ∙ none_behind range equals time side key es behind (second _ _ below) (ap (all_within range) (sym same) ∙ h)

nothing_left : (range : KeyRange) (equals : List Equal) (time : ℕ) (side : Side) (left rest : LineagesByKey) (e : ℤ × Lineage) → IsTrue (sorted.is_sorted int_cmp left) → left ≡ e ∷ rest
    → is_before range.before e.0 ≡ false → all_within range (matching_of equals time side left) ≡ true → matching_of equals time side left ≡ []
nothing_left range equals time side left rest e h next behind within =
    let sorted : IsTrue (sorted.is_sorted int_cmp (e ∷ rest)) = ap (sorted.is_sorted int_cmp) (sym next) ∙ h in
    let all = ap (λ xs. all_within range (matching_of equals time side xs)) (sym next) ∙ within in
    let same = matching_of-behind range equals time side e rest behind all in
    ap (matching_of equals time side) next ∙ same ∙ none_behind range equals time side e.0 rest behind (first _ _ sorted) (ap (all_within range) (sym same) ∙ all)

-- where a walk comes to the end of the range, it has read all that match
pub walked-to_end : (es : RowsByKey) (start low : Option ℤ) (range : KeyRange) (equals : List Equal) (time : ℕ) (side : Side) (t left rest : LineagesByKey) (e : ℤ × Lineage) → IsTrue (sorted.is_sorted int_cmp t)
    → HaveKeysWithin t range equals → StartsAfter start range.after low → es ++ matching_of equals time side left ≡ matching_of equals time side (those_after start t)
    → IsTrue (sorted.is_sorted int_cmp left) → left ≡ e ∷ rest → is_before range.before e.0 ≡ false → es ≡ matching_of equals time side (those_after low t)
walked-to_end es start low range equals time side t left rest e h have starts whole rises next behind =
    let all = all_within-matching time side t range equals h (shows_within time side t range equals have) in
    let read = whole ∙ matching_of-start start low range equals time side t h have starts in
    let within = ap (all_within range) (read ∙ matching_of-after low equals time side t) ∙ all_within-after low range (matching_of equals time side t) all in
    let left_within = second _ _ (sym (list_all-append (λ (x : ℤ × Row). is_within range x.0) es (matching_of equals time side left)) ∙ within) in
    let none = nothing_left range equals time side left rest e rises next behind left_within in
    sym (append-nil es) ∙ ap (λ xs. es ++ xs) (sym none) ∙ read

-- and where nothing is left
pub walked-all : (es : RowsByKey) (start low : Option ℤ) (range : KeyRange) (equals : List Equal) (time : ℕ) (side : Side) (t : LineagesByKey) → IsTrue (sorted.is_sorted int_cmp t)
    → HaveKeysWithin t range equals → StartsAfter start range.after low → es ≡ matching_of equals time side (those_after start t) → es ≡ matching_of equals time side (those_after low t)
walked-all es start low range equals time side t h have starts whole = whole ∙ matching_of-start start low range equals time side t h have starts

-- where a row more matches, the page is full
pub within-more : (es : RowsByKey) (start low : Option ℤ) (most : ℕ) (range : KeyRange) (equals : List Equal) (t left rest : LineagesByKey) (e : ℤ × Lineage) (row : Row) (time : ℕ) (side : Side) → IsTrue (sorted.is_sorted int_cmp t)
    → HaveKeysWithin t range equals → StartsAfter start range.after low → es ++ matching_of equals time side left ≡ matching_of equals time side (those_after start t) → left ≡ e ∷ rest
    → Some row ≡ if_matching equals (visible_row time (chain_on side e.1)) → length es ≡ most → ListsPage es true low most equals (side_of t side) time
within-more es start low most range equals t left rest e row time side h have starts whole next there full =
    of_all-more es low most equals t left rest e row time side h (whole ∙ matching_of-start start low range equals time side t h have starts) next there full

-- the rows of a range are those that match of all
pub lists_matches-within : (es : RowsByKey) (equals : List Equal) (t : LineagesByKey) (time : ℕ) (side : Side) → IsTrue (sorted.is_sorted int_cmp t)
    → es ≡ matching_of equals time side (those_after None t) → ListsMatches es equals (side_of t side) time
lists_matches-within es equals t time side h is = lists_matches-of_all equals es t time side h (is ∙ ap (matching_of equals time side) (sym (walk-all t)))
