-- Beginnings of lists, and lists of batches.
use Rattle.std.proofs.Common.{◌≡◌, ℕ, ◌<◌, ◌≤◌, Bool, true, false, MatchBool, List, [], ◌∷◌, ◌++◌, length, refl, ap, sym, subst, ◌∙◌, arith, append_assoc, length-append}
use Rattle.std.specs.Prelude.{nat_le}
use Rattle.std.proofs.lemmas.Bool.Decides.{nat_tests}
use Rattle.std.proofs.lemmas.List.{append-nil}
use mathlib.Core.List.{IsPrefix}
use Rattle.tt_store.specs.History.{joined}

pub prefix_self : {A : Type 0} (xs : List A) → IsPrefix xs xs
prefix_self xs = ([], append-nil xs)

pub prefix_trans : {A : Type 0} (xs ys zs : List A) → IsPrefix xs ys → IsPrefix ys zs → IsPrefix xs zs
prefix_trans xs ys zs p q = (p.0 ++ q.0, sym (append_assoc xs p.0 q.0) ∙ (ap (λ w. w ++ q.0) p.1 ∙ q.1))

pub prefix_length : {A : Type 0} (xs ys : List A) → IsPrefix xs ys → length xs ≤ length ys
prefix_length xs ys p = omega (arith, sym (ap length p.1) ∙ length-append xs p.0)

-- of two beginnings of one list the one that isn't longer begins the other
pub prefix_shorter : {A : Type 0} (xs ys zs : List A) → IsPrefix xs zs → IsPrefix ys zs → length xs ≤ length ys → IsPrefix xs ys
prefix_shorter [] ys zs p q le = (ys, refl)
prefix_shorter (x ∷ xs) [] zs p q le = absurd (omega arith)
prefix_shorter (x ∷ xs) (y ∷ ys) [] p q le = absurd (cc (p.1))
prefix_shorter (x ∷ xs) (y ∷ ys) (z ∷ zs) p q le =
    let heads : x ≡ y = cc (p.1, q.1) in
    let rest = prefix_shorter xs ys zs (p.0, cc (p.1)) (q.0, cc (q.1)) (omega arith) in
    (rest.0, cc (heads, rest.1))

-- a beginning as long as the whole is the whole
pub prefix_whole : {A : Type 0} (xs ys : List A) → IsPrefix xs ys → length ys ≤ length xs → xs ≡ ys
prefix_whole [] [] p le = refl
prefix_whole [] (y ∷ ys) p le = absurd (omega arith)
prefix_whole (x ∷ xs) [] p le = absurd (cc (p.1))
prefix_whole (x ∷ xs) (y ∷ ys) p le =
    let rest = prefix_whole xs ys (p.0, cc (p.1)) (omega arith) in cc (p.1, rest)

pub joined-append : {A : Type 0} (xs ys : List (List A)) → joined (xs ++ ys) ≡ joined xs ++ joined ys
joined-append [] ys = refl
joined-append (x ∷ xs) ys = ap (λ w. x ++ w) (joined-append xs ys) ∙ sym (append_assoc x (joined xs) (joined ys))

pub joined-prefix : {A : Type 0} (xs ys : List (List A)) → IsPrefix xs ys → IsPrefix (joined xs) (joined ys)
joined-prefix xs ys p = (joined p.0, sym (joined-append xs p.0) ∙ ap joined p.1)

-- where the test passes, the first begins the other
pub prefix_where_true : {A : Type 0} (xs ys front longer : List A) (b : Bool) → xs ≡ front → ys ≡ longer → b ≡ true → MatchBool b (IsPrefix xs ys) (IsPrefix ys xs) → IsPrefix front longer
prefix_where_true {A} xs ys front longer b first other is test =
    subst (λ (l : List A). IsPrefix front l) other (subst (λ (l : List A). IsPrefix l ys) first (subst (λ t. MatchBool t (IsPrefix xs ys) (IsPrefix ys xs)) is test))

-- the test of their lengths tells which of two beginnings of one list begins the other
pub prefix_by_test : {A : Type 0} (xs ys zs : List A) (n m : ℕ) → n ≡ length xs → m ≡ length ys → IsPrefix xs zs → IsPrefix ys zs
    → MatchBool (nat_le n m) (IsPrefix xs ys) (IsPrefix ys xs)
prefix_by_test xs ys zs n m is there p q = by_test (nat_le n m) refl
  where
    by_test : (b : Bool) → nat_le n m ≡ b → MatchBool b (IsPrefix xs ys) (IsPrefix ys xs)
    by_test true e = prefix_shorter xs ys zs p q (let less : n ≤ m = grind (arith, nat_tests) in omega (arith, less, is, there))
    by_test false e = prefix_shorter ys xs zs q p (let more : m < n = grind (arith, nat_tests) in omega (arith, more, is, there))
