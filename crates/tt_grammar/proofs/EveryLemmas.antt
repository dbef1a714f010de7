-- A property of each item of a list, one item after another.
use Rattle.std.proofs.Common.{◌≡◌, ℕ, zero, suc, ◌<◌, Bool, true, false, List, [], ◌∷◌, ◌++◌, length, map, Some, slice_get, refl, subst, arith, All}
use Rattle.std.proofs.lemmas.Bool.{or_parts, and_parts}
use Rattle.std.specs.List.{list_any, list_all}

-- each item has the property
abbrev pub Every : {X : Type 0} → (X → Type 0) → List X → Type 0
Every P [] = Unit {0}
Every P (x ∷ xs) = P x × Every P xs

pub every : {X : Type 0} → (P : X → Type 0) (xs : List X) → All P xs → Every P xs
every P [] all = tt
every P (x ∷ xs) all = (all 0 x (omega arith), every P xs (λ k d h. all (suc k) d (omega arith)))

pub every-map : {X Y : Type 0} → (P : Y → Type 0) (f : X → Y) (xs : List X) → Every P (map f xs) → Every (λ x. P (f x)) xs
every-map P f [] h = tt
every-map P f (x ∷ xs) h = (h.0, every-map P f xs h.1)

pub every-mapped : {X Y : Type 0} → (P : Y → Type 0) (f : X → Y) (xs : List X) → Every (λ x. P (f x)) xs → Every P (map f xs)
every-mapped P f [] h = tt
every-mapped P f (x ∷ xs) h = (h.0, every-mapped P f xs h.1)

pub every-left : {X : Type 0} → (P : X → Type 0) (xs ys : List X) → Every P (xs ++ ys) → Every P xs
every-left P [] ys h = tt
every-left P (x ∷ xs) ys h = (h.0, every-left P xs ys h.1)

pub every-right : {X : Type 0} → (P : X → Type 0) (xs ys : List X) → Every P (xs ++ ys) → Every P ys
every-right P [] ys h = h
every-right P (x ∷ xs) ys h = every-right P xs ys h.1

pub every-both : {X : Type 0} → (P Q R : X → Type 0) (xs : List X) → ((x : X) → P x → Q x → R x) → Every P xs → Every Q xs → Every R xs
every-both P Q R [] f p q = tt
every-both P Q R (x ∷ xs) f p q = (f x p.0 q.0, every-both P Q R xs f p.1 q.1)

pub every-then : {X : Type 0} → (P Q : X → Type 0) (xs : List X) → ((x : X) → P x → Q x) → Every P xs → Every Q xs
every-then P Q [] f h = tt
every-then P Q (x ∷ xs) f h = (f x h.0, every-then P Q xs f h.1)

pub every-fails : {X : Type 0} → (test : X → Bool) (xs : List X) → list_any test xs ≡ false → Every (λ x. test x ≡ false) xs
every-fails test [] h = tt
every-fails test (x ∷ xs) h = let parts = or_parts (test x) (list_any test xs) h in (parts.0, every-fails test xs parts.1)

pub every-holds : {X : Type 0} → (test : X → Bool) (xs : List X) → list_all test xs ≡ true → Every (λ x. test x ≡ true) xs
every-holds test [] h = tt
every-holds test (x ∷ xs) h = let both = and_parts (test x) (list_all test xs) h in (both.0, every-holds test xs both.1)

-- the item at a place has it
pub every-at : {X : Type 0} → (P : X → Type 0) (xs : List X) (i : ℕ) (x : X) → Every P xs → slice_get xs i ≡ Some x → P x
every-at P [] i x h e = cc
every-at P (y ∷ ys) zero x h e = let same : y ≡ x = cc in subst P same h.0
every-at P (y ∷ ys) (suc i) x h e = every-at P ys i x h.1 e

-- there is an item at each place of a list
pub some-at : {X : Type 0} → (xs : List X) (i : ℕ) → i < length xs → (x : X) × (slice_get xs i ≡ Some x)
some-at [] i h = absurd (omega arith)
some-at (y ∷ ys) zero h = (y, refl)
some-at (y ∷ ys) (suc i) h = some-at ys i (omega arith)
