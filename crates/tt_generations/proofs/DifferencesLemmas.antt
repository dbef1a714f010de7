-- What differs between the sides of a table is what differs between the contents that they show.
use Rattle.std.proofs.Common.{◌≡◌, ℕ, zero, suc, ◌+◌, ◌<◌, ◌≤◌, min, nat_lt, ℤ, Bool, true, false, cond, not, ◌&&◌, ◌||◌, List, [], ◌∷◌, map, filter, fold, take, length, IsTrue, T, Option, None, Some, is_some, if◌then◌else◌, refl, sym, ap, subst, ◌∙◌, arith, true≢false}
use Rattle.std.specs.declared.cmp.Ordering.{Ordering}
use Rattle.std.specs.declared.cmp.Ordering.TheVariants.{Less, Equal, Greater}
use Rattle.std.specs.Ordering.{int_cmp, is_lt, is_eq}
use Rattle.std.specs.Cmp.{Equal-is}
use Rattle.std.specs.FinMap.{int_cmp-IsAntisymmetric}
use Rattle.std.specs.FinMap.Entries as sorted
use Rattle.std.proofs.lemmas.Bool.{or_right}
use Rattle.std.proofs.lemmas.Bool.Decides.{nat_tests}
use Rattle.std.proofs.lemmas.Cmp.{int_cmp_total}
use Rattle.std.proofs.lemmas.List.{take-map, length-take, length-map}
use Rattle.tt_values.specs.declared.row.Row.{Row}
use Rattle.tt_values.specs.Content.{RowsByKey, row_at}
use Rattle.tt_values.specs.Tables.{Tables}
use Rattle.tt_values.specs.RowWrites.{Slots}
use Rattle.tt_values.proofs.LawProofs.{past_stays}
use Rattle.tt_versions.specs.declared.table.differences.RowDifference.{RowDifference}
use Rattle.tt_versions.specs.Sides.{RowsOverTime, LineagesByKey, ListsRows, current_of, next_of}
use Rattle.tt_versions.specs.Pages.{is_after, those_after}
use Rattle.tt_versions.specs.Differences.{DifferencesByKey, ListsDifferences, difference_of, differences_behind}
use Rattle.tt_versions.specs.Differences as sides
use Rattle.tt_repair_laws.specs.Edits.{edited_slots}
use Rattle.tt_repair_laws.specs.Due.{content_after}
use Rattle.tt_repair_laws.specs.NextSide.{current_side}
use Rattle.tt_causes.specs.Differences.{RowChange, is_unchanged, row_change_at, row_changes, differences}
use Rattle.tt_generations.specs.RowChanges.{change_behind, differences_in, changes_after}
use Rattle.tt_generations.specs.TwoGenerations.{Phase, Idle, Repairing, is_repairing, done_of, next_side_of, IsWithin}
use Rattle.tt_generations.proofs.GenerationsLemmas.{lists-current, lists-next}

left_of : (a b : Bool) → T (a && b) → T a
left_of true b p = tt
left_of false b p = p

right_of : (a b : Bool) → T (a && b) → T b
right_of true b p = p
right_of false b p = absurd p

both_of : (a b : Bool) → T a → T b → T (a && b)
both_of true b p q = q
both_of false b p q = absurd p

or-false : (b : Bool) → (b || false) ≡ b
or-false true = refl
or-false false = refl

true_from_T : (b : Bool) → T b → IsTrue b
true_from_T true h = refl
true_from_T false h = absurd h

-- a change as an entry by its key, and back
abbrev pub entry_of : RowChange → ℤ × (Option Row × Option Row)
entry_of c = (c.key, (c.before, c.after))

abbrev change_of : ℤ × (Option Row × Option Row) → RowChange
change_of e = record { key = e.0; before = e.1.0; after = e.1.1 }

same_unchanged : (o p : Option Row) → is_unchanged o p ≡ sides.is_unchanged o p
same_unchanged None None = refl
same_unchanged None (Some s) = refl
same_unchanged (Some r) None = refl
same_unchanged (Some r) (Some s) = refl

module _ (X Y : RowsByKey) where
  abbrev unchanged : ℤ → Bool
  unchanged k = is_unchanged (row_at X k) (row_at Y k)

  -- the changes at the keys of some entries, and by their keys
  abbrev chosen_at : RowsByKey → List RowChange
  chosen_at es = filter (λ c. not (is_unchanged c.before c.after)) (map (row_change_at X Y) (map (λ e. e.0) es))

  abbrev changes_at : RowsByKey → DifferencesByKey
  changes_at es = map entry_of (chosen_at es)

  abbrev Behind : ℤ → RowsByKey → Type 0
  Behind k es = T (sorted.below_all int_cmp k es)

  changes_behind : (k : ℤ) (es : RowsByKey) → Behind k es → T (sorted.below_all int_cmp k (changes_at es))
  changes_behind k [] h = tt
  changes_behind k (e ∷ es) h = by (unchanged e.0) (changes_behind k es (right_of (is_lt (int_cmp k e.0)) _ h))
    where
      by : (b : Bool) → T (sorted.below_all int_cmp k (changes_at es)) → T (sorted.below_all int_cmp k (map entry_of (cond (not b) (row_change_at X Y e.0 ∷ chosen_at es) (chosen_at es))))
      by true rest = rest
      by false rest = both_of (is_lt (int_cmp k e.0)) _ (left_of _ _ h) rest

  changes_rise : (es : RowsByKey) → T (sorted.is_sorted int_cmp es) → T (sorted.is_sorted int_cmp (changes_at es))
  changes_rise [] h = tt
  changes_rise (e ∷ es) h = by (unchanged e.0) (changes_rise es (right_of (sorted.below_all int_cmp e.0 es) _ h))
    where
      by : (b : Bool) → T (sorted.is_sorted int_cmp (changes_at es)) → T (sorted.is_sorted int_cmp (map entry_of (cond (not b) (row_change_at X Y e.0 ∷ chosen_at es) (chosen_at es))))
      by true rest = rest
      by false rest = both_of (sorted.below_all int_cmp e.0 (changes_at es)) _ (changes_behind e.0 es (left_of _ _ h)) rest

  -- a key that stands before all isn't there
  none_behind : (k : ℤ) (es : RowsByKey) → Behind k es → sorted.find int_cmp k es ≡ None
  none_behind k [] h = refl
  none_behind k (e ∷ es) h = by (int_cmp k e.0) (left_of _ _ h) (none_behind k es (right_of (is_lt (int_cmp k e.0)) _ h))
    where
      by : (o : Ordering) → T (is_lt o) → sorted.find int_cmp k es ≡ None → cond (is_eq o) (Some e.1) (sorted.find int_cmp k es) ≡ None
      by Less p rest = rest
      by Equal p rest = absurd p
      by Greater p rest = absurd p

  abbrev difference_at : ℤ → Option (Option Row × Option Row)
  difference_at k = sides.difference_of (row_at X k) (row_at Y k)

  difference_is : (k : ℤ) → difference_at k ≡ (if unchanged k then None else Some (row_at X k, row_at Y k))
  difference_is k = ap (λ b. if b then None else Some (row_at X k, row_at Y k)) (sym (same_unchanged (row_at X k) (row_at Y k)))

  found_changes : (es : RowsByKey) (k : ℤ) → T (sorted.is_sorted int_cmp es) → sorted.find int_cmp k (changes_at es) ≡ (if is_some (sorted.find int_cmp k es) then difference_at k else None)
  found_changes [] k h = refl
  found_changes (e ∷ es) k h = by (unchanged e.0) refl (is_eq (int_cmp k e.0)) refl (found_changes es k (right_of (sorted.below_all int_cmp e.0 es) _ h))
    where
      same : is_eq (int_cmp k e.0) ≡ true → k ≡ e.0
      same is = int_cmp-IsAntisymmetric k e.0 ((Equal-is (int_cmp k e.0)).0 is)

      -- the difference at the first key
      here : k ≡ e.0 → (u : Bool) → unchanged e.0 ≡ u → difference_at k ≡ (if u then None else Some (row_at X k, row_at Y k))
      here at u is = difference_is k ∙ ap (λ b. if b then None else Some (row_at X k, row_at Y k)) (ap unchanged at ∙ is)

      by : (u : Bool) → unchanged e.0 ≡ u → (b : Bool) → is_eq (int_cmp k e.0) ≡ b
          → sorted.find int_cmp k (changes_at es) ≡ (if is_some (sorted.find int_cmp k es) then difference_at k else None)
          → sorted.find int_cmp k (map entry_of (cond (not u) (row_change_at X Y e.0 ∷ chosen_at es) (chosen_at es)))
          ≡ (if is_some (cond b (Some e.1) (sorted.find int_cmp k es)) then difference_at k else None)
      by true u true b rest =
          let none : sorted.find int_cmp k es ≡ None = ap (λ q. sorted.find int_cmp q es) (same b) ∙ none_behind e.0 es (left_of _ _ h) in
          rest
          ∙ ap (λ (o : Option Row). if is_some o then difference_at k else None) none
          ∙ sym (here (same b) true u)
      by true u false b rest = rest
      by false u true b rest =
          ap (λ c. cond c (Some (row_at X e.0, row_at Y e.0)) (sorted.find int_cmp k (changes_at es))) b
          ∙ ap (λ q. Some (row_at X q, row_at Y q)) (sym (same b))
          ∙ sym (here (same b) false u)
      by false u false b rest = ap (λ c. cond c (Some (row_at X e.0, row_at Y e.0)) (sorted.find int_cmp k (changes_at es))) b ∙ rest

  -- ---- the keys of both

  abbrev both_rows : RowsByKey → RowsByKey → RowsByKey
  both_rows Z es = fold (λ ds e. sorted.put int_cmp e.0 e.1 ds) Z es

  both_rise : (es Z : RowsByKey) → T (sorted.is_sorted int_cmp Z) → T (sorted.is_sorted int_cmp (both_rows Z es))
  both_rise [] Z h = h
  both_rise (e ∷ es) Z h = both_rise es (sorted.put int_cmp e.0 e.1 Z) (sorted.is_sorted-put int_cmp int_cmp_total e.0 e.1 Z h)

  has_key : (es Z : RowsByKey) (k : ℤ) → is_some (sorted.find int_cmp k (both_rows Z es)) ≡ (is_some (row_at Z k) || is_some (row_at es k))
  has_key [] Z k = sym (or-false (is_some (row_at Z k)))
  has_key (e ∷ es) Z k =
      has_key es (sorted.put int_cmp e.0 e.1 Z) k
      ∙ ap (λ (o : Option Row). is_some o || is_some (row_at es k)) (sorted.find-put int_cmp int_cmp_total k e.0 e.1 Z)
      ∙ by (is_eq (int_cmp k e.0))
    where
      by : (b : Bool) → (is_some (cond b (Some e.1) (row_at Z k)) || is_some (row_at es k)) ≡ (is_some (row_at Z k) || is_some (cond b (Some e.1) (row_at es k)))
      by true = sym (or_right (is_some (row_at Z k)) true refl)
      by false = refl

  -- a key that has no row in either has none that differ
  only_keys : (k : ℤ) → (if is_some (row_at X k) || is_some (row_at Y k) then difference_at k else None) ≡ difference_at k
  only_keys k = by (row_at X k) (row_at Y k)
    where
      by : (o p : Option Row) → (if is_some o || is_some p then difference_of o p else None) ≡ difference_of o p
      by None None = refl
      by None (Some s) = refl
      by (Some r) p = refl

  found_row_changes : (k : ℤ) → T (sorted.is_sorted int_cmp X) → sorted.find int_cmp k (map entry_of (row_changes X Y)) ≡ difference_at k
  found_row_changes k h =
      found_changes (both_rows X Y) k (both_rise Y X h)
      ∙ ap (λ b. if b then difference_at k else None) (has_key Y X k)
      ∙ only_keys k

  lists-differences : (current next : RowsOverTime) (time : ℕ) → ListsRows X current time → ListsRows Y next time → ListsDifferences (map entry_of (row_changes X Y)) current next time
  lists-differences current next time before after =
      let rise : T (sorted.is_sorted int_cmp X) = subst T (sym before.sorted) tt in
      record {
        sorted = true_from_T _ (changes_rise (both_rows X Y) (both_rise Y X rise));
        finds = λ k. found_row_changes k rise ∙ (λ i. difference_of (before.finds k i) (after.finds k i));
      }

-- ---- pages

after-entries : (low : Option ℤ) (ds : List RowChange) → those_after low (map entry_of ds) ≡ map entry_of (changes_after low ds)
after-entries low [] = refl
after-entries low (d ∷ ds) = by (is_after low d.key) (after-entries low ds)
  where
    by : (b : Bool) → those_after low (map entry_of ds) ≡ map entry_of (changes_after low ds)
        → cond b (entry_of d ∷ those_after low (map entry_of ds)) (those_after low (map entry_of ds)) ≡ map entry_of (cond b (d ∷ changes_after low ds) (changes_after low ds))
    by true rest = ap (λ es. entry_of d ∷ es) rest
    by false rest = rest

change_of-entries : (ds : List RowChange) → map change_of (map entry_of ds) ≡ ds
change_of-entries [] = refl
change_of-entries (d ∷ ds) = ap (λ cs. d ∷ cs) (change_of-entries ds)

change_of-behind : (ds : List RowDifference) → map change_of (differences_behind ds) ≡ map change_behind ds
change_of-behind [] = refl
change_of-behind (d ∷ ds) = ap (λ cs. change_behind d ∷ cs) (change_of-behind ds)

-- the first differences of a table, as changes
pub first_changes : (ds : List RowDifference) (cs : List RowChange) (low : Option ℤ) (most : ℕ) → differences_behind ds ≡ take most (those_after low (map entry_of cs)) → map change_behind ds ≡ take most (changes_after low cs)
first_changes ds cs low most is =
    sym (change_of-behind ds)
    ∙ ap (map change_of) (is ∙ ap (take most) (after-entries low cs) ∙ take-map entry_of most (changes_after low cs))
    ∙ change_of-entries (take most (changes_after low cs))

-- ---- all of the changes, and pages of them

after-none : (cs : List RowChange) → changes_after None cs ≡ cs
after-none [] = refl
after-none (c ∷ cs) = ap (λ ds. c ∷ ds) (after-none cs)

take-short : {X : Type 0} (most : ℕ) (xs : List X) → length (take most xs) < most → take most xs ≡ xs
take-short zero xs h = absurd (omega (arith, h))
take-short (suc most) [] h = refl
take-short (suc most) (x ∷ xs) h = ap (λ ys. x ∷ ys) (take-short most xs (omega (arith, h)))

-- where fewer are told than are asked for, all are
pub all_changes : {X : Type 0} (told : X → RowChange) (most : ℕ) (xs : List X) (cs : List RowChange) → map told xs ≡ take most (changes_after None cs) → length xs < most → map told xs ≡ cs
all_changes told most xs cs is few =
    let many : length (take most (changes_after None cs)) ≡ length xs = ap length (sym is) ∙ length-map xs told in
    is ∙ take-short most (changes_after None cs) (omega (arith, many, few)) ∙ after-none cs

take-take : {X : Type 0} (most n : ℕ) (xs : List X) → most ≤ n → take most (take n xs) ≡ take most xs
take-take zero n xs h = refl
take-take (suc most) zero xs h = absurd (omega (arith, h))
take-take (suc most) (suc n) [] h = refl
take-take (suc most) (suc n) (x ∷ xs) h = ap (λ ys. x ∷ ys) (take-take most n xs (omega (arith, h)))

-- of one more than are asked for, the first are a page
pub page_changes : {X : Type 0} (told : X → RowChange) (most : ℕ) (xs page : List X) (cs : List RowChange) → map told xs ≡ take (most + 1) cs → page ≡ take most xs → map told page ≡ take most cs
page_changes told most xs page cs is first = ap (map told) first ∙ sym (take-map told most xs) ∙ ap (take most) is ∙ take-take most (most + 1) cs (omega arith)

pub more_changes : {X : Type 0} (told : X → RowChange) (most : ℕ) (xs : List X) (cs : List RowChange) → map told xs ≡ take (most + 1) cs → nat_lt most (length xs) ≡ nat_lt most (length cs)
more_changes told most xs cs is =
    let many : length xs ≡ min (most + 1) (length cs) = sym (length-map xs told) ∙ ap length is ∙ length-take (most + 1) cs in
    by (nat_lt most (length cs)) refl many
  where
    by : (b : Bool) → nat_lt most (length cs) ≡ b → length xs ≡ min (most + 1) (length cs) → nat_lt most (length xs) ≡ b
    by true h many = grind (arith, nat_tests)
    by false h many = grind (arith, nat_tests)

-- ---- the differences that a table finds

pub differences-found : (tables : Tables) (phase : Phase) (W : Slots) (table : ℕ) (t : LineagesByKey) (ds : List RowDifference) (low : Option ℤ) (most done : ℕ)
    → current_of t ≡ current_side W table → next_of t ≡ next_side_of tables phase W table → done ≡ done_of phase → IsWithin phase W → is_repairing phase ≡ true
    → ((all : DifferencesByKey) → ListsDifferences all (current_of t) (next_of t) done → differences_behind ds ≡ take most (those_after low all))
    → map change_behind ds ≡ take most (changes_after low (differences_in phase W table))
differences-found tables Idle W table t ds low most done current next at within repairing any = absurd (true≢false (sym repairing))
differences-found tables (Repairing E n) W table t ds low most done current next at within repairing any =
    first_changes ds (differences W E n table) low most (any _ lists)
  where
    before : ListsRows (content_after W n table) (current_side W table) n
    before = subst (λ (rows : RowsByKey). ListsRows rows (current_side W table) n) (λ i. past_stays W n (length W) n (omega arith) within i table) (lists-current W n table)

    after : ListsRows (content_after (edited_slots W E) n table) (next_side_of tables (Repairing E n) W table) n
    after = lists-next tables (Repairing E n) W table within

    lists : ListsDifferences (map entry_of (differences W E n table)) (current_of t) (next_of t) done
    lists = subst (λ m. ListsDifferences (map entry_of (differences W E n table)) (current_of t) (next_of t) m) (sym at)
        (lists-differences (content_after W n table) (content_after (edited_slots W E) n table) (current_of t) (next_of t) n
        (subst (λ rows. ListsRows (content_after W n table) rows n) (sym current) before)
        (subst (λ rows. ListsRows (content_after (edited_slots W E) n table) rows n) (sym next) after))
