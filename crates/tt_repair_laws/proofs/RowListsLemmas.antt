-- Filtered rows of a table, and tests of lists.
use Rattle.std.proofs.Common.{◌≡◌, Bool, true, false, cond, not, ◌&&◌, ◌||◌, ℤ, List, [], ◌∷◌, ◌++◌, map, filter, Option, None, Some, is_some, refl, sym, ap, subst, ◌∙◌, T, int_cmp, int_eq, is_lt, is_eq, Ordering, Less, Equal, Greater, true≢false}
use Rattle.std.specs.List.{list_any, list_all}
use Rattle.std.specs.FinMap.Entries as sorted
use Rattle.std.proofs.lemmas.Bool.{and_parts, and_from, or_parts, or_left, or_right}
use Rattle.std.proofs.lemmas.List.Folds.{list_any-append}
use Rattle.std.proofs.lemmas.Bool.Decides.{Decides-int_eq}
use Rattle.tt_values.specs.declared.row.Row.{Row}
use Rattle.tt_values.specs.Content.{RowsByKey, row_at}

-- tests of lists
pub list_any-map : {X Y : Type 0} → (p : Y → Bool) (f : X → Y) (xs : List X) → list_any p (map f xs) ≡ list_any (λ x. p (f x)) xs
list_any-map p f [] = refl
list_any-map p f (x ∷ xs) = ap (λ b. p (f x) || b) (list_any-map p f xs)

pub list_all_if : {X : Type 0} → (p q : X → Bool) → ((x : X) → p x ≡ true → q x ≡ true) → (xs : List X) → list_all p xs ≡ true → list_all q xs ≡ true
list_all_if p q if [] h = refl
list_all_if p q if (x ∷ xs) h = let both = and_parts _ _ h in and_from _ _ (if x both.0) (list_all_if p q if xs both.1)

pub list_any_if : {X : Type 0} → (p q : X → Bool) → ((x : X) → p x ≡ true → q x ≡ true) → (xs : List X) → list_any p xs ≡ true → list_any q xs ≡ true
list_any_if p q if [] h = h
list_any_if p q if (x ∷ xs) h = by (p x) refl h (list_any_if p q if xs)
  where
    by : (b : Bool) → p x ≡ b → (b || list_any p xs) ≡ true → (list_any p xs ≡ true → list_any q xs ≡ true) → (q x || list_any q xs) ≡ true
    by true e g rest = or_left _ _ (if x e)
    by false e g rest = or_right _ _ (rest g)

pub list_none-append : {X : Type 0} → (p : X → Bool) (xs ys : List X) → list_any p (xs ++ ys) ≡ false → (list_any p xs ≡ false) × (list_any p ys ≡ false)
list_none-append p xs ys h = or_parts (list_any p xs) (list_any p ys) (sym (list_any-append p xs ys) ∙ h)

pub none_fails : {X : Type 0} → (p : X → Bool) (xs : List X) → list_all p xs ≡ true → list_any (λ x. not (p x)) xs ≡ false
none_fails p [] h = refl
none_fails p (x ∷ xs) h =
    let both = and_parts _ _ h in
    ap (λ b. not b || list_any (λ y. not (p y)) xs) both.0 ∙ none_fails p xs both.1

pub same_key : (x y : ℤ) → int_eq x y ≡ true → x ≡ y
same_key x y h = (Decides-int_eq x y).0 h

both : (a b : Bool) → T a → T b → T (a && b)
both true b p q = q
both false b p q = p

first : (a b : Bool) → T (a && b) → T a
first true b p = tt
first false b p = p

second : (a b : Bool) → T (a && b) → T b
second true b p = p
second false b p = absurd p

not_tied : (o : Ordering) → T (is_lt o) → is_eq o ≡ false
not_tied Less h = refl
not_tied Equal h = absurd h
not_tied Greater h = absurd h

not_None : (r : Row) → None ≡ Some r → ⊥
not_None r e = true≢false (sym (ap is_some e))

-- a key below all others has no row
row_at_below : (k : ℤ) (rows : RowsByKey) → T (sorted.below_all int_cmp k rows) → row_at rows k ≡ None
row_at_below k [] h = refl
row_at_below k (e ∷ es) h = ap (λ b. cond b (Some e.1) (row_at es k)) (not_tied _ (first _ _ h)) ∙ row_at_below k es (second _ _ h)

-- the row, if there is one and it passes a test
abbrev pub if_passes : (Row → Bool) → Option Row → Option Row
if_passes p None = None
if_passes p (Some r) = cond (p r) (Some r) None

module _ (p : Row → Bool) where
  abbrev passing : RowsByKey → RowsByKey
  passing rows = filter (λ e. p e.1) rows

  below_passing : (x : ℤ) (rows : RowsByKey) → T (sorted.below_all int_cmp x rows) → T (sorted.below_all int_cmp x (passing rows))
  below_passing x [] h = tt
  below_passing x (e ∷ es) h =
      let rest = below_passing x es (second _ _ h) in
      elim (p e.1) as (λ b. T (sorted.below_all int_cmp x (cond b (e ∷ passing es) (passing es)))) [ true ↦ both _ _ (first _ _ h) rest | false ↦ rest ]

  pub is_sorted-filter : (rows : RowsByKey) → T (sorted.is_sorted int_cmp rows) → T (sorted.is_sorted int_cmp (filter (λ e. p e.1) rows))
  is_sorted-filter [] h = tt
  is_sorted-filter (e ∷ es) h =
      let rest = is_sorted-filter es (second _ _ h) in
      elim (p e.1) as (λ b. T (sorted.is_sorted int_cmp (cond b (e ∷ passing es) (passing es)))) [ true ↦ both _ _ (below_passing e.0 es (first _ _ h)) rest | false ↦ rest ]

  -- in filtered rows a key has its row if the row passes
  pub row_at-filter : (rows : RowsByKey) (k : ℤ) → T (sorted.is_sorted int_cmp rows) → row_at (filter (λ e. p e.1) rows) k ≡ if_passes p (row_at rows k)
  row_at-filter [] k h = refl
  row_at-filter (e ∷ es) k h = by (int_eq k e.0) refl (row_at-filter es k (second _ _ h))
    where
      by : (b : Bool) → int_eq k e.0 ≡ b → row_at (passing es) k ≡ if_passes p (row_at es k) → row_at (cond (p e.1) (e ∷ passing es) (passing es)) k ≡ if_passes p (cond b (Some e.1) (row_at es k))
      by true t rest =
          let none = row_at_below k es (subst (λ x. T (sorted.below_all int_cmp x es)) (sym (same_key k e.0 t)) (first _ _ h)) in
          elim (p e.1) as (λ b. row_at (cond b (e ∷ passing es) (passing es)) k ≡ cond b (Some e.1) None) [
            | true ↦ ap (λ b. cond b (Some e.1) (row_at (passing es) k)) t
            | false ↦ rest ∙ ap (if_passes p) none
          ]
      by false t rest =
          elim (p e.1) as (λ b. row_at (cond b (e ∷ passing es) (passing es)) k ≡ if_passes p (row_at es k)) [
            | true ↦ ap (λ b. cond b (Some e.1) (row_at (passing es) k)) t ∙ rest
            | false ↦ rest
          ]

-- if no key of the rows passes a test, no key that has a row does
pub fails_at : (q : ℤ → Bool) (rows : RowsByKey) (k : ℤ) (r : Row) → row_at rows k ≡ Some r → list_any (λ e. q e.0) rows ≡ false → q k ≡ false
fails_at q [] k r is none = absurd (not_None r is)
fails_at q (e ∷ es) k r is none = by (int_eq k e.0) refl is (λ there. fails_at q es k r there (or_parts _ _ none).1)
  where
    by : (b : Bool) → int_eq k e.0 ≡ b → cond b (Some e.1) (row_at es k) ≡ Some r → (row_at es k ≡ Some r → q k ≡ false) → q k ≡ false
    by true t there rest = ap q (same_key k e.0 t) ∙ (or_parts _ _ none).0
    by false t there rest = rest there
