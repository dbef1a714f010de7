-- Rows that are split, and the next side of tables.
use Rattle.std.proofs.Common.{◌≡◌, ℕ, zero, suc, ℤ, Bool, true, false, not, ◌&&◌, ◌||◌, nat_le, ◌==◌, List, [], ◌∷◌, ◌++◌, Option, cond, length, ◌+◌, ◌<◌, get_or, drop, if◌then◌else◌, refl, sym, ap, subst, ◌∙◌, arith, add-one, drop-cons}
use Rattle.std.specs.Ordering.{int_eq}
use Rattle.std.proofs.lemmas.Bool.Decides.{nat_tests, Decides-int_eq}
use Rattle.std.proofs.lemmas.List.Elements.{All-head, All-tail}
use Rattle.std.proofs.lemmas.List.Folds.{list_any-append}
use Rattle.tt_values.specs.declared.row.Row.{Row}
use Rattle.tt_versions.specs.Sides.{LineagesByKey, RowsOverTime, current_of, next_of, is_split, all_written_from, written_from, whole_among, just_before, rolled_back_from, with_key}
use Rattle.tt_parts.specs.Dirty.{is_row_in}
use Rattle.tt_values.specs.declared.row_id.RowId.{RowId}
use Rattle.tt_generations.specs.Rows.{TablesByPosition, versions_at, KeepsSplitRows, AreSplit, SplitsRows, WritesNext}
use Rattle.tt_generations.proofs.RowsLemmas.{PutsTable, same_table}

same_key : (q key : ℤ) → int_eq q key ≡ true → q ≡ key
same_key q key h = (Decides-int_eq q key).0 h

-- ---- current writes keep the split rows

-- writing the rows that aren't split leaves those that are
whole_among-keeps : (split : ℤ → Bool) (es : List (ℤ × Option Row)) (time : ℕ) (rows : RowsOverTime) (key : ℤ) → split key ≡ true
    → all_written_from (whole_among split es) time rows key ≡ rows key
whole_among-keeps split [] time rows key h = refl
whole_among-keeps split (e ∷ es) time rows key h = by (split e.0) refl (λ now. whole_among-keeps split es time now key h)
  where
    other : split e.0 ≡ false → (b : Bool) → int_eq key e.0 ≡ b → b ≡ false
    other whole true same = let clash = sym h ∙ ap split (same_key key e.0 same) ∙ whole in cc
    other whole false same = refl

    by : (b : Bool) → split e.0 ≡ b → ((now : RowsOverTime) → all_written_from (whole_among split es) time now key ≡ now key)
        → all_written_from (cond (not b) (e ∷ whole_among split es) (whole_among split es)) time rows key ≡ rows key
    by true s rest = rest rows
    by false s rest =
        rest (written_from e.0 e.1 time rows) ∙ (λ i u. ap (λ b. if b && nat_le time u then e.1 else rows key u) (other s (int_eq key e.0) refl) i)

pub KeepsSplitRows-put : (before after : TablesByPosition) (table : ℕ) (new : LineagesByKey) (time : ℕ) (effect : List (ℤ × Option Row)) → PutsTable table new before after
    → is_split new ≡ is_split (versions_at before table)
    → next_of new ≡ all_written_from (whole_among (is_split (versions_at before table)) effect) time (next_of (versions_at before table))
    → KeepsSplitRows before after
KeepsSplitRows-put before after table new time effect puts split next = record {
  split = λ t. ap is_split (puts.each t) ∙ splits t (t == table) refl;
  next = λ t key h. ap (λ v. next_of v key) (puts.each t) ∙ nexts t key h (t == table) refl;
}
  where
    old : LineagesByKey
    old = versions_at before table

    splits : (t : ℕ) (b : Bool) → (t == table) ≡ b → is_split (if b then new else versions_at before t) ≡ is_split (versions_at before t)
    splits t true e = split ∙ ap (λ n. is_split (versions_at before n)) (sym (same_table t table e))
    splits t false e = refl

    nexts : (t : ℕ) (key : ℤ) → is_split (versions_at before t) key ≡ true → (b : Bool) → (t == table) ≡ b
        → next_of (if b then new else versions_at before t) key ≡ next_of (versions_at before t) key
    nexts t key h true e =
        (λ i. next i key)
        ∙ whole_among-keeps (is_split old) effect time (next_of old) key (ap (λ n. is_split (versions_at before n) key) (sym (same_table t table e)) ∙ h)
        ∙ ap (λ n. next_of (versions_at before n) key) (sym (same_table t table e))
    nexts t key h false e = refl

-- the same tables keep their split rows, and so do two steps that do
pub KeepsSplitRows-none : (tables : TablesByPosition) → KeepsSplitRows tables tables
KeepsSplitRows-none tables = record { split = λ t. refl; next = λ t key h. refl }

pub KeepsSplitRows-append : (before between after : TablesByPosition) → KeepsSplitRows before between → KeepsSplitRows between after → KeepsSplitRows before after
KeepsSplitRows-append before between after one two = record {
  split = λ t. two.split t ∙ one.split t;
  next = λ t key h. two.next t key ((λ i. one.split t i key) ∙ h) ∙ one.next t key h;
}

-- ---- rows are split

-- what is alike before a time is alike just before it
pub just_before-alike : (time : ℕ) (f g : ℕ → Option Row) → ((u : ℕ) → nat_le time u ≡ false → f u ≡ g u) → just_before time f ≡ just_before time g
just_before-alike zero f g h = refl
just_before-alike (suc n) f g h = h n (grind (arith, nat_tests))

-- no row is split
pub SplitsRows-none : (tables : TablesByPosition) (time : ℕ) → SplitsRows tables tables [] time
SplitsRows-none tables time = record { current = λ t. refl; split = λ t key. refl; next = λ t key u. refl }

pub either_split : (r s p : Bool) → (s || (r || p)) ≡ ((r || s) || p)
either_split true true p = refl
either_split true false p = refl
either_split false s p = refl

rolled_back-after : {X : Type 0} → (r s p l : Bool) (back old : X)
    → (if s && not (r || p) && l then back else (if r && not p && l then back else old)) ≡ (if (r || s) && not p && l then back else old)
rolled_back-after true true true l back old = refl
rolled_back-after true true false true back old = refl
rolled_back-after true true false false back old = refl
rolled_back-after true false p l back old = refl
rolled_back-after false true true l back old = refl
rolled_back-after false true false true back old = refl
rolled_back-after false true false false back old = refl
rolled_back-after false false p l back old = refl

-- rows are split, and then further ones: those that are split by then aren't rolled back again
pub SplitsRows-append : (before between after : TablesByPosition) (rows further : List RowId) (time : ℕ)
    → SplitsRows before between rows time → SplitsRows between after further time → SplitsRows before after (rows ++ further) time
SplitsRows-append before between after rows further time one two = record {
  current = λ t. two.current t ∙ one.current t;
  split = λ t key.
      two.split t key ∙ ap (λ b. is_row_in further t key || b) (one.split t key)
      ∙ either_split (is_row_in rows t key) (is_row_in further t key) (is_split (versions_at before t) key)
      ∙ ap (λ b. b || is_split (versions_at before t) key) (sym (both t key));
  next = λ t key u.
      let p = is_split (versions_at before t) key in
      let old = next_of (versions_at before t) key in
      let now = next_of (versions_at between t) key in
      let r = is_row_in rows t key in
      let s = is_row_in further t key in
      let l = nat_le time u in
      two.next t key u
      ∙ (λ i. if s && not (one.split t key i) && l then just_before time now else one.next t key u i)
      ∙ ap (λ o. if s && not (r || p) && l then o else (if r && not p && l then just_before time old else old u)) (just_before-alike time now old (λ v earlier.
      one.next t key v ∙ not_yet (r && not p) (nat_le time v) earlier (just_before time old) (old v)))
      ∙ rolled_back-after r s p l (just_before time old) (old u)
      ∙ ap (λ b. if b && not p && l then just_before time old else old u) (sym (both t key));
}
  where
    both : (t : ℕ) (key : ℤ) → is_row_in (rows ++ further) t key ≡ (is_row_in rows t key || is_row_in further t key)
    both t key = list_any-append (λ r. (t == r.table) && int_eq key r.key) rows further

    not_yet : (b l : Bool) → l ≡ false → (back old : Option Row) → (if b && l then back else old) ≡ old
    not_yet true l h back old = ap (λ c. if c then back else old) h
    not_yet false l h back old = refl

-- one row of a list is split, and then those behind it
pub SplitsRows-next : (keys : List RowId) (n : ℕ) (none : RowId) (before between after : TablesByPosition) (time : ℕ) → n < length keys
    → SplitsRows before between (get_or keys n none ∷ []) time → SplitsRows between after (drop (n + 1) keys) time → SplitsRows before after (drop n keys) time
SplitsRows-next keys n none before between after time room one rest =
    let key = get_or keys n none in
    let all : drop n keys ≡ key ∷ drop (n + 1) keys = rw (add-one, drop-cons keys n none) refl in
    subst (λ ks. SplitsRows before after ks time) (sym all)
    (SplitsRows-append before between after (key ∷ []) (drop (n + 1) keys) time one rest)

-- one row that is split already
pub SplitsRows-already : (tables : TablesByPosition) (table : ℕ) (key : ℤ) (time : ℕ) → is_split (versions_at tables table) key ≡ true → SplitsRows tables tables (record { table = table; key = key } ∷ []) time
SplitsRows-already tables table key time h = record {
  current = λ t. refl;
  split = λ t k. splits t k (t == table) refl (int_eq k key) refl;
  next = λ t k u. nexts t k u (t == table) refl (int_eq k key) refl;
}
  where
    there : (t : ℕ) (k : ℤ) → (t == table) ≡ true → int_eq k key ≡ true → is_split (versions_at tables t) k ≡ true
    there t k e f = (λ i. is_split (versions_at tables (same_table t table e i)) (same_key k key f i)) ∙ h

    splits : (t : ℕ) (k : ℤ) (b : Bool) → (t == table) ≡ b → (c : Bool) → int_eq k key ≡ c
        → is_split (versions_at tables t) k ≡ (((b && c) || false) || is_split (versions_at tables t) k)
    splits t k true e true f = there t k e f
    splits t k true e false f = refl
    splits t k false e c f = refl

    nexts : (t : ℕ) (k : ℤ) (u : ℕ) (b : Bool) → (t == table) ≡ b → (c : Bool) → int_eq k key ≡ c → let old = next_of (versions_at tables t) k in
        old u ≡ (if ((b && c) || false) && not (is_split (versions_at tables t) k) && nat_le time u then just_before time old else old u)
    nexts t k u true e true f =
        let old = next_of (versions_at tables t) k in
        ap (λ p. if not p && nat_le time u then just_before time old else old u) (sym (there t k e f))
    nexts t k u true e false f = refl
    nexts t k u false e c f = refl

-- and any rows that are
pub SplitsRows-all_already : (tables : TablesByPosition) (rows : List RowId) (time : ℕ) → AreSplit tables rows → SplitsRows tables tables rows time
SplitsRows-all_already tables [] time h = SplitsRows-none tables time
SplitsRows-all_already tables (r ∷ rows) time h =
    SplitsRows-append tables tables tables (r ∷ []) rows time
    (SplitsRows-already tables r.table r.key time (All-head (λ s. is_split (versions_at tables s.table) s.key ≡ true) r rows h))
    (SplitsRows-all_already tables rows time (All-tail (λ s. is_split (versions_at tables s.table) s.key ≡ true) r rows h))

-- one row that wasn't
pub SplitsRows-put : (before after : TablesByPosition) (table : ℕ) (key : ℤ) (time : ℕ) (new : LineagesByKey) → PutsTable table new before after
    → is_split (versions_at before table) key ≡ false → current_of new ≡ current_of (versions_at before table)
    → next_of new ≡ rolled_back_from key time (next_of (versions_at before table)) → is_split new ≡ with_key key (is_split (versions_at before table))
    → SplitsRows before after (record { table = table; key = key } ∷ []) time
SplitsRows-put before after table key time new puts whole current next split = record {
  current = λ t. ap current_of (puts.each t) ∙ currents t (t == table) refl;
  split = λ t k. ap (λ v. is_split v k) (puts.each t) ∙ splits t k (t == table) refl (int_eq k key) refl;
  next = λ t k u. ap (λ v. next_of v k u) (puts.each t) ∙ nexts t k u (t == table) refl (int_eq k key) refl;
}
  where
    currents : (t : ℕ) (b : Bool) → (t == table) ≡ b → current_of (if b then new else versions_at before t) ≡ current_of (versions_at before t)
    currents t true e = current ∙ ap (λ n. current_of (versions_at before n)) (sym (same_table t table e))
    currents t false e = refl

    splits : (t : ℕ) (k : ℤ) (b : Bool) → (t == table) ≡ b → (c : Bool) → int_eq k key ≡ c
        → is_split (if b then new else versions_at before t) k ≡ (((b && c) || false) || is_split (versions_at before t) k)
    splits t k true e true f = (λ i. split i k) ∙ ap (λ b. b || is_split (versions_at before table) k) f
    splits t k true e false f = (λ i. split i k) ∙ ap (λ b. b || is_split (versions_at before table) k) f ∙ ap (λ n. is_split (versions_at before n) k) (sym (same_table t table e))
    splits t k false e c f = refl

    nexts : (t : ℕ) (k : ℤ) (u : ℕ) (b : Bool) → (t == table) ≡ b → (c : Bool) → int_eq k key ≡ c → let old = next_of (versions_at before t) k in
        next_of (if b then new else versions_at before t) k u
        ≡ (if ((b && c) || false) && not (is_split (versions_at before t) k) && nat_le time u then just_before time old else old u)
    nexts t k u true e true f =
        let old = next_of (versions_at before table) in
        (λ i. next i k u)
        ∙ ap (λ c. if c && nat_le time u then just_before time (old key) else old k u) f
        ∙ ap (λ q. if nat_le time u then just_before time (old q) else old k u) (sym (same_key k key f))
        ∙ ap (λ p. if not p && nat_le time u then just_before time (old k) else old k u) (sym (ap (is_split (versions_at before table)) (same_key k key f) ∙ whole))
        ∙ ap (λ n. if not (is_split (versions_at before n) k) && nat_le time u then just_before time (next_of (versions_at before n) k) else next_of (versions_at before n) k u) (sym (same_table t table e))
    nexts t k u true e false f =
        let old = next_of (versions_at before table) in
        (λ i. next i k u)
        ∙ ap (λ c. if c && nat_le time u then just_before time (old key) else old k u) f
        ∙ ap (λ n. next_of (versions_at before n) k u) (sym (same_table t table e))
    nexts t k u false e c f = refl

-- ---- writes on the next side

pub WritesNext-put : (before after : TablesByPosition) (table : ℕ) (new : LineagesByKey) (time : ℕ) (effect : List (ℤ × Option Row)) → PutsTable table new before after
    → current_of new ≡ current_of (versions_at before table) → next_of new ≡ all_written_from effect time (next_of (versions_at before table))
    → is_split new ≡ is_split (versions_at before table) → WritesNext before after time table effect
WritesNext-put before after table new time effect puts current next split = record {
  current = λ t. ap current_of (puts.each t) ∙ currents t (t == table) refl;
  split = λ t. ap is_split (puts.each t) ∙ splits t (t == table) refl;
  next = λ t. ap next_of (puts.each t) ∙ nexts t (t == table);
}
  where
    currents : (t : ℕ) (b : Bool) → (t == table) ≡ b → current_of (if b then new else versions_at before t) ≡ current_of (versions_at before t)
    currents t true e = current ∙ ap (λ n. current_of (versions_at before n)) (sym (same_table t table e))
    currents t false e = refl

    splits : (t : ℕ) (b : Bool) → (t == table) ≡ b → is_split (if b then new else versions_at before t) ≡ is_split (versions_at before t)
    splits t true e = split ∙ ap (λ n. is_split (versions_at before n)) (sym (same_table t table e))
    splits t false e = refl

    nexts : (t : ℕ) (b : Bool) → next_of (if b then new else versions_at before t)
        ≡ (if b then all_written_from effect time (next_of (versions_at before table)) else next_of (versions_at before t))
    nexts t true = next
    nexts t false = refl
