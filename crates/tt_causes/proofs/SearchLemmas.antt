-- The first item of a list, or the first number of a range, that passes a test.
use Rattle.std.proofs.Common.{◌≡◌, ℕ, zero, suc, ◌+◌, ◌<◌, ◌≤◌, Bool, true, false, cond, ◌||◌, ◌⊎◌, List, [], ◌∷◌, Option, None, Some, is_some, refl, sym, ap, ◌∙◌, arith, true≢false}
use Rattle.std.specs.List.{list_any, find, range_with_len}
use Rattle.std.specs.Option.{unwrap_or, option_or, option_map}
use Rattle.std.proofs.lemmas.Bool.{or_parts, cases_lt}
use mathlib.Core.Logic.{inl, inr, ⊎_elim}

pub none_is_some : {X : Type 0} (x : X) → None ≡ Some x → ⊥
none_is_some x e = true≢false (sym (ap is_some e))

pub same_value : {X : Type 0} (x y : X) → Some x ≡ Some y → x ≡ y
same_value x y e = ap (λ o. unwrap_or o x) e

-- either of two tests, where each implies another
pub or_if : (a b c d : Bool) → (a ≡ true → c ≡ true) → (b ≡ true → d ≡ true) → (a || b) ≡ true → (c || d) ≡ true
or_if true b c d f g h = ap (λ x. x || d) (f refl)
or_if false b true d f g h = refl
or_if false b false d f g h = g h

-- one of two options
pub is_some-or : {X : Type 0} (a b : Option X) → is_some (option_or a b) ≡ (is_some a || is_some b)
is_some-or None b = refl
is_some-or (Some x) b = refl

pub is_some-map : {X Y : Type 0} (f : X → Y) (o : Option X) → is_some (option_map f o) ≡ is_some o
is_some-map f None = refl
is_some-map f (Some x) = refl

pub from_either : {X : Type 0} (a b : Option X) (x : X) → option_or a b ≡ Some x → (a ≡ Some x) ⊎ (b ≡ Some x)
from_either None b x e = inr e
from_either (Some y) b x e = inl e

pub from_map : {X Y : Type 0} (f : X → Y) (o : Option X) (y : Y) → option_map f o ≡ Some y → (x : X) × (o ≡ Some x) × (f x ≡ y)
from_map f None y e = absurd (none_is_some y e)
from_map f (Some x) y e = (x, refl, same_value (f x) y e)

module _ {X : Type 0} (p : X → Bool) where
  -- there is one exactly where an item passes
  pub is_some-find : (xs : List X) → is_some (find p xs) ≡ list_any p xs
  is_some-find [] = refl
  is_some-find (x ∷ xs) = by (p x) (is_some-find xs)
    where
      by : (b : Bool) → is_some (find p xs) ≡ list_any p xs → is_some (cond b (Some x) (find p xs)) ≡ (b || list_any p xs)
      by true rest = refl
      by false rest = rest

  -- it passes
  pub found_passes : (xs : List X) (x : X) → find p xs ≡ Some x → p x ≡ true
  found_passes [] x e = absurd (none_is_some x e)
  found_passes (y ∷ ys) x e = by (p y) refl e (found_passes ys x)
    where
      by : (b : Bool) → p y ≡ b → cond b (Some y) (find p ys) ≡ Some x → (find p ys ≡ Some x → p x ≡ true) → p x ≡ true
      by true h g rest = ap p (sym (same_value y x g)) ∙ h
      by false h g rest = rest g

  -- it fails each test that no item of the list passes
  pub found_fails : (q : X → Bool) (xs : List X) (x : X) → find p xs ≡ Some x → list_any q xs ≡ false → q x ≡ false
  found_fails q [] x e none = absurd (none_is_some x e)
  found_fails q (y ∷ ys) x e none = by (p y) e (λ later. found_fails q ys x later both.1)
    where
      both : (q y ≡ false) × (list_any q ys ≡ false)
      both = or_parts (q y) (list_any q ys) none

      by : (b : Bool) → cond b (Some y) (find p ys) ≡ Some x → (find p ys ≡ Some x → q x ≡ false) → q x ≡ false
      by true g rest = ap q (sym (same_value y x g)) ∙ both.0
      by false g rest = rest g

module _ (p : ℕ → Bool) where
  -- the number found is in the range
  pub found_in_range : (a n m : ℕ) → find p (range_with_len a n) ≡ Some m → (a ≤ m) × (m < a + n)
  found_in_range a zero m e = absurd (none_is_some m e)
  found_in_range a (suc n) m e = by (p a) e (found_in_range (a + 1) n m)
    where
      by : (b : Bool) → cond b (Some a) (find p (range_with_len (a + 1) n)) ≡ Some m → (find p (range_with_len (a + 1) n) ≡ Some m → (a + 1 ≤ m) × (m < (a + 1) + n)) → (a ≤ m) × (m < a + suc n)
      by true g rest = let same = same_value a m g in (omega (arith, same), omega (arith, same))
      by false g rest = let later = rest g in (omega (arith, later.0), omega (arith, later.1))

  -- no number before it passes
  pub none_before : (a n m : ℕ) → find p (range_with_len a n) ≡ Some m → (i : ℕ) → a ≤ i → i < m → p i ≡ false
  none_before a zero m e i low high = absurd (none_is_some m e)
  none_before a (suc n) m e i low high = by (p a) refl e (none_before (a + 1) n m)
    where
      by : (b : Bool) → p a ≡ b → cond b (Some a) (find p (range_with_len (a + 1) n)) ≡ Some m → (find p (range_with_len (a + 1) n) ≡ Some m → (i : ℕ) → a + 1 ≤ i → i < m → p i ≡ false) → p i ≡ false
      by true h g rest = let same = same_value a m g in let none : ⊥ = omega (arith, same, low, high) in absurd none
      by false h g rest = ⊎_elim
          (λ later. rest g i (omega (arith, later)) high)
          (λ here. let same : i ≡ a = omega (arith, here, low) in ap p same ∙ h)
          (cases_lt a i)

  -- where there is none, no number of the range passes
  pub none_in_range : (a n : ℕ) → find p (range_with_len a n) ≡ None → (i : ℕ) → a ≤ i → i < a + n → p i ≡ false
  none_in_range a zero e i low high = let none : ⊥ = omega (arith, low, high) in absurd none
  none_in_range a (suc n) e i low high = by (p a) refl e (none_in_range (a + 1) n)
    where
      by : (b : Bool) → p a ≡ b → cond b (Some a) (find p (range_with_len (a + 1) n)) ≡ None → (find p (range_with_len (a + 1) n) ≡ None → (i : ℕ) → a + 1 ≤ i → i < (a + 1) + n → p i ≡ false) → p i ≡ false
      by true h g rest = absurd (none_is_some a (sym g))
      by false h g rest = ⊎_elim
          (λ later. rest g i (omega (arith, later)) (omega (arith, high)))
          (λ here. let same : i ≡ a = omega (arith, here, low) in ap p same ∙ h)
          (cases_lt a i)

-- tests that agree in the range find the same
pub find_agree : (p q : ℕ → Bool) (a n : ℕ) → ((i : ℕ) → a ≤ i → i < a + n → p i ≡ q i) → find p (range_with_len a n) ≡ find q (range_with_len a n)
find_agree p q a zero h = refl
find_agree p q a (suc n) h =
    let here = h a (omega arith) (omega arith) in
    let rest = find_agree p q (a + 1) n (λ i low high. h i (omega (arith, low)) (omega (arith, high))) in
    λ i. cond (here i) (Some a) (rest i)
