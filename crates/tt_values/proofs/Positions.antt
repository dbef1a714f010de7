-- Positions in a list, and in a list of images of its items.
use Rattle.std.proofs.Common.{◌≡◌, ◌+◌, Bool, cond, not, nat_lt, List, [], ◌∷◌, map, Some, None, refl, ap}
use Rattle.std.proofs.lemmas.List.{length-map}
use Rattle.std.specs.List.{prefix_len, position}

prefix_len-map : {X Y : Type 0} → (p : Y → Bool) (f : X → Y) (xs : List X) → prefix_len p (map f xs) ≡ prefix_len (λ x. p (f x)) xs
prefix_len-map p f [] = refl
prefix_len-map p f (x ∷ xs) = ap (λ n. cond (p (f x)) (1 + n) 0) (prefix_len-map p f xs)

pub position-map : {X Y : Type 0} → (p : Y → Bool) (f : X → Y) (xs : List X) → position p (map f xs) ≡ position (λ x. p (f x)) xs
position-map p f xs =
    let same = prefix_len-map (λ y. not (p y)) f xs in
    λ i. cond (nat_lt (same i) (length-map xs f i)) (Some (same i)) None
