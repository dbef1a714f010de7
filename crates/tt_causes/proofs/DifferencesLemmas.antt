-- What differs between the contents of two generations.
use Rattle.std.proofs.Common.{◌≡◌, ℤ, Bool, true, false, cond, not, ◌&&◌, ◌||◌, List, [], ◌∷◌, map, filter, fold, length, IsTrue, T, Option, None, Some, is_some, refl, sym, ap, subst, ◌∙◌, arith, true≢false}
use Rattle.std.specs.List.{list_any, list_all}
use Rattle.std.specs.Ordering.{int_cmp, int_eq}
use Rattle.std.specs.FinMap.{int_cmp-IsAntisymmetric}
use Rattle.std.specs.FinMap.Entries as sorted
use Rattle.std.proofs.lemmas.Bool.{or_parts, or_right, and_from, and_right}
use Rattle.std.proofs.lemmas.Bool.Decides.{Decides-int_eq}
use Rattle.std.proofs.lemmas.Cmp.{int_cmp_total}
use Rattle.tt_values.specs.declared.row.Row.{Row}
use Rattle.tt_values.specs.declared.statement.Write.{Write}
use Rattle.tt_values.specs.declared.statement.Write.TheVariants.{Insert, Update, Delete}
use Rattle.tt_values.specs.Same.{is_same_row}
use Rattle.tt_values.specs.Content.{RowsByKey, content_at, row_at, with_row_at}
use Rattle.tt_values.specs.RowWrites.{row_writes}
use Rattle.tt_values.proofs.LawProofs.{rows_rise, one_key_changes, rows_stay_by_rising_key, same_writes_are_equal}
use Rattle.tt_parts.specs.Dirty.{has_row}
use Rattle.tt_repair_laws.specs.Edits.{edited_slots}
use Rattle.tt_repair_laws.specs.Due.{content_after, dirty_after}
use Rattle.tt_repair_laws.proofs.LawProofs.{clean_rows_agree, edited_slots_are_as_many}
use Rattle.tt_causes.specs.Differences.{RowChange, is_unchanged, keys_of_both, row_change_at, row_changes, with_row_changes}
use Rattle.tt_causes.specs.Laws.{DifferentRowsAreDirty, DifferencesLeadToEditedContent, DifferencesLeadToSwitch}

-- rows are the same exactly where they are equal
row_of : List Write → Row → Row
row_of [] other = other
row_of (Insert table row ∷ ws) other = row
row_of (Update table cs qs ∷ ws) other = other
row_of (Delete table qs ∷ ws) other = other

same_row_equal : (r s : Row) → is_same_row r s ≡ true → r ≡ s
unfolding row_of
same_row_equal r s h = ap (λ ws. row_of ws r) ((same_writes_are_equal (Insert 0 r ∷ []) (Insert 0 s ∷ [])).0 (and_from (is_same_row r s) true h refl))

and-true : (b : Bool) → (b && true) ≡ b
and-true true = refl
and-true false = refl

or-false : (b : Bool) → (b || false) ≡ b
or-false true = refl
or-false false = refl

same_row_itself : (r : Row) → is_same_row r r ≡ true
same_row_itself r = sym (and-true (is_same_row r r)) ∙ ((same_writes_are_equal (Insert 0 r ∷ []) (Insert 0 r ∷ [])).1 refl)

unchanged_equal : (o p : Option Row) → is_unchanged o p ≡ true → o ≡ p
unchanged_equal None None h = refl
unchanged_equal None (Some s) h = absurd (true≢false (sym h))
unchanged_equal (Some r) None h = absurd (true≢false (sym h))
unchanged_equal (Some r) (Some s) h = ap Some (same_row_equal r s h)

unchanged_itself : (o : Option Row) → is_unchanged o o ≡ true
unchanged_itself None = refl
unchanged_itself (Some r) = same_row_itself r

same_key : (x y : ℤ) → int_eq x y ≡ true → x ≡ y
same_key x y h = (Decides-int_eq x y).0 h

last_wins : {A : Type 0} (later now : Bool) (new old : A) → cond later new (cond now new old) ≡ cond (now || later) new old
last_wins true true new old = refl
last_wins true false new old = refl
last_wins false true new old = refl
last_wins false false new old = refl

or-swap : (a b c : Bool) → ((a || b) || c) ≡ (b || (a || c))
or-swap true true c = refl
or-swap true false c = refl
or-swap false true c = refl
or-swap false false c = refl

module _ (X Y : RowsByKey) where
  abbrev differs : ℤ → Bool
  differs k = not (is_unchanged (row_at X k) (row_at Y k))

  abbrev chosen : List ℤ → List RowChange
  chosen ks = filter (λ c. not (is_unchanged c.before c.after)) (map (row_change_at X Y) ks)

  -- after the changes at some keys, a key has its new row if it is one of them and its rows differ
  row_at-changes : (ks : List ℤ) (Z : RowsByKey) (q : ℤ) → row_at (with_row_changes Z (chosen ks)) q ≡ cond (list_any (λ k. int_eq q k && differs k) ks) (row_at Y q) (row_at Z q)
  row_at-changes [] Z q = refl
  row_at-changes (k ∷ ks) Z q = by (differs k) (row_at-changes ks (with_row_at Z k (row_at Y k)) q) (row_at-changes ks Z q)
    where
      rest : List RowChange
      rest = chosen ks

      later : Bool
      later = list_any (λ k. int_eq q k && differs k) ks

      here : (b : Bool) → int_eq q k ≡ b → cond b (row_at Y k) (row_at Z q) ≡ cond b (row_at Y q) (row_at Z q)
      here true e = ap (row_at Y) (sym (same_key q k e))
      here false e = refl

      by : (b : Bool) → row_at (with_row_changes (with_row_at Z k (row_at Y k)) rest) q ≡ cond later (row_at Y q) (row_at (with_row_at Z k (row_at Y k)) q) → row_at (with_row_changes Z rest) q ≡ cond later (row_at Y q) (row_at Z q) →
          row_at (with_row_changes Z (cond b (row_change_at X Y k ∷ rest) rest)) q ≡ cond ((int_eq q k && b) || later) (row_at Y q) (row_at Z q)
      by true changed same =
          changed
          ∙ ap (cond later (row_at Y q)) (one_key_changes Z k (row_at Y k) q ∙ here (int_eq q k) refl)
          ∙ last_wins later (int_eq q k) (row_at Y q) (row_at Z q)
          ∙ ap (λ b. cond (b || later) (row_at Y q) (row_at Z q)) (sym (and-true (int_eq q k)))
      by false changed same = same ∙ ap (λ b. cond (b || later) (row_at Y q) (row_at Z q)) (sym (and_right (int_eq q k) false refl))

  -- the keys are those that have a row
  is_some-put : (es : RowsByKey) (Z : RowsByKey) (q : ℤ) → is_some (sorted.find int_cmp q (fold (λ es e. sorted.put int_cmp e.0 e.1 es) Z es)) ≡ (is_some (row_at Z q) || is_some (row_at es q))
  is_some-put [] Z q = sym (or-false (is_some (row_at Z q)))
  is_some-put (e ∷ es) Z q =
      is_some-put es (sorted.put int_cmp e.0 e.1 Z) q
      ∙ ap (λ o. is_some o || is_some (row_at es q)) (sorted.find-put int_cmp int_cmp_total q e.0 e.1 Z)
      ∙ by (int_eq q e.0)
    where
      by : (b : Bool) → (is_some (cond b (Some e.1) (row_at Z q)) || is_some (row_at es q)) ≡ (is_some (row_at Z q) || is_some (cond b (Some e.1) (row_at es q)))
      by true = sym (or_right (is_some (row_at Z q)) true refl)
      by false = refl

  has_key : (q : ℤ) → list_any (int_eq q) (keys_of_both X Y) ≡ (is_some (row_at X q) || is_some (row_at Y q))
  has_key q = sym (sorted.is_some-find int_cmp q (fold (λ es e. sorted.put int_cmp e.0 e.1 es) X Y)) ∙ is_some-put Y X q

  no_row : (o : Option Row) → is_some o ≡ false → o ≡ None
  no_row None h = refl
  no_row (Some r) h = absurd (true≢false h)

  -- a key that isn't chosen has the same row in both
  not_chosen : (ks : List ℤ) (q : ℤ) → list_any (λ k. int_eq q k && differs k) ks ≡ false → list_any (int_eq q) ks ≡ true → differs q ≡ false
  not_chosen [] q none there = absurd (true≢false (sym there))
  not_chosen (k ∷ ks) q none there = by (int_eq q k) refl both.0 there (not_chosen ks q both.1)
    where
      both : ((int_eq q k && differs k) ≡ false) × (list_any (λ k. int_eq q k && differs k) ks ≡ false)
      both = or_parts (int_eq q k && differs k) _ none

      by : (b : Bool) → int_eq q k ≡ b → (b && differs k) ≡ false → (b || list_any (int_eq q) ks) ≡ true → (list_any (int_eq q) ks ≡ true → differs q ≡ false) → differs q ≡ false
      by true e f g rest = ap differs (same_key q k e) ∙ f
      by false e f g rest = rest g

  not_false : (b : Bool) → not b ≡ false → b ≡ true
  not_false true h = refl
  not_false false h = sym h

  same_row_at : (q : ℤ) → row_at (with_row_changes X (row_changes X Y)) q ≡ row_at Y q
  same_row_at q = row_at-changes (keys_of_both X Y) X q ∙ by (list_any (λ k. int_eq q k && differs k) (keys_of_both X Y)) refl
    where
      old : list_any (λ k. int_eq q k && differs k) (keys_of_both X Y) ≡ false → (b : Bool) → list_any (int_eq q) (keys_of_both X Y) ≡ b → row_at X q ≡ row_at Y q
      old none true e = unchanged_equal (row_at X q) (row_at Y q) (not_false _ (not_chosen (keys_of_both X Y) q none e))
      old none false e =
          let both = or_parts (is_some (row_at X q)) (is_some (row_at Y q)) (sym (has_key q) ∙ e) in
          no_row (row_at X q) both.0 ∙ sym (no_row (row_at Y q) both.1)

      by : (b : Bool) → list_any (λ k. int_eq q k && differs k) (keys_of_both X Y) ≡ b → cond b (row_at Y q) (row_at X q) ≡ row_at Y q
      by true e = refl
      by false e = old e (list_any (int_eq q) (keys_of_both X Y)) refl

  -- a test that each chosen key passes
  all_chosen : (test : ℤ → Bool) → ((k : ℤ) → differs k ≡ true → test k ≡ true) → (ks : List ℤ) → list_all (λ (c : RowChange). test c.key) (chosen ks) ≡ true
  all_chosen test f [] = refl
  all_chosen test f (k ∷ ks) = by (differs k) refl (all_chosen test f ks)
    where
      by : (b : Bool) → differs k ≡ b → list_all (λ (c : RowChange). test c.key) (chosen ks) ≡ true → list_all (λ (c : RowChange). test c.key) (cond b (row_change_at X Y k ∷ chosen ks) (chosen ks)) ≡ true
      by true e rest = and_from _ _ (f k e) rest
      by false e rest = rest

is_sorted-changes : (cs : List RowChange) (rows : RowsByKey) → IsTrue (sorted.is_sorted int_cmp rows) → IsTrue (sorted.is_sorted int_cmp (with_row_changes rows cs))
is_sorted-changes [] rows h = h
is_sorted-changes (c ∷ cs) rows h = is_sorted-changes cs (with_row_at rows c.key c.after) (rows_stay_by_rising_key rows c.key c.after h)

pub differences_lead_to_the_edited_content : DifferencesLeadToEditedContent
differences_lead_to_the_edited_content W E n table =
    let X = content_after W n table in
    let Y = content_after (edited_slots W E) n table in
    let before : T (sorted.is_sorted int_cmp (with_row_changes X (row_changes X Y))) = subst T (sym (is_sorted-changes (row_changes X Y) X (rows_rise (row_writes W n) n table))) tt in
    let after : T (sorted.is_sorted int_cmp Y) = subst T (sym (rows_rise (row_writes (edited_slots W E) n) n table)) tt in
    sorted.same_entries int_cmp int_cmp_total int_cmp-IsAntisymmetric (with_row_changes X (row_changes X Y)) Y before after (same_row_at X Y)

pub differences_lead_to_the_switch : DifferencesLeadToSwitch
differences_lead_to_the_switch W E table =
    differences_lead_to_the_edited_content W E (length W) table ∙ ap (λ n. content_at (row_writes (edited_slots W E) n) (length W) table) (sym (edited_slots_are_as_many W E))

pub different_rows_are_dirty : DifferentRowsAreDirty
different_rows_are_dirty tables W E n table =
    all_chosen X Y (has_row (dirty_after tables W E n) table) dirty (keys_of_both X Y)
  where
    X : RowsByKey
    X = content_after W n table

    Y : RowsByKey
    Y = content_after (edited_slots W E) n table

    dirty : (k : ℤ) → not (is_unchanged (row_at X k) (row_at Y k)) ≡ true → has_row (dirty_after tables W E n) table k ≡ true
    dirty k h = by (has_row (dirty_after tables W E n) table k) refl
      where
        by : (b : Bool) → has_row (dirty_after tables W E n) table k ≡ b → b ≡ true
        by true e = refl
        by false e =
            let same = clean_rows_agree tables W E n n table k (omega arith) e in
            absurd (true≢false (sym h ∙ ap not (ap (is_unchanged (row_at X k)) same ∙ unchanged_itself (row_at X k))))
