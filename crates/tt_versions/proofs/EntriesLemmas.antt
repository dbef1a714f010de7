-- Entries by rising key.
use Rattle.std.proofs.Common.{◌≡◌, ℤ, Bool, true, false, cond, ◌&&◌, List, [], ◌∷◌, None, Some, Less, Equal, Greater, refl, ap, ◌∙◌}
use Rattle.std.specs.declared.cmp.Ordering.{Ordering}
use Rattle.std.specs.Ordering.{int_cmp, is_lt, is_eq}
use Rattle.std.specs.FinMap.Entries as sorted
use Rattle.std.specs.FinMap.Entries.{by_order}

pub both : (a b : Bool) → a ≡ true → b ≡ true → (a && b) ≡ true
both a b p q = λ i. p i && q i

-- the two sides of a test
pub first : (a b : Bool) → (a && b) ≡ true → a ≡ true
first true b h = refl
first false b h = h

pub second : (a b : Bool) → (a && b) ≡ true → b ≡ true
second true b h = h
second false b h = cc

not_tied : (o : Ordering) → is_lt o ≡ true → is_eq o ≡ false
not_tied Less h = refl
not_tied Equal h = cc
not_tied Greater h = cc

-- a key below all of a list isn't in it
pub find-below : {X : Type 0} (k : ℤ) (es : List (ℤ × X)) → sorted.below_all int_cmp k es ≡ true → sorted.find int_cmp k es ≡ None
find-below k [] h = refl
find-below k (e ∷ es) h =
    ap (λ b. cond b (Some e.1) (sorted.find int_cmp k es)) (not_tied (int_cmp k e.0) (first _ _ h)) ∙ find-below k es (second _ _ h)
