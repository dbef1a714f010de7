-- Items of an array, one after another.
use Rattle.std.proofs.Common.{◌≡◌, ℕ, zero, suc, ◌+◌, ◌-◌, ◌<◌, ◌≤◌, ◌==◌, ◌&&◌, Bool, true, false, List, [], ◌∷◌, ◌++◌, length, get_or, map, take, drop, Option, Some, None, slice_get, refl, sym, ap, ◌∙◌, arith, append_assoc, codes}
use Rattle.std.proofs.Math.Seq.{drop-cons, take-length}
use Rattle.std.proofs.Math.Bool.{and-false}
use Rattle.std.proofs.lemmas.Bool.Decides.{nat_tests}
use Rattle.std.specs.List.{flat_map}
use Rattle.std.specs.Option.{option_map}
use Rattle.std.proofs.lemmas.Grind.{flat_map-append}
use Rattle.tt_values.specs.declared.table.TableDef.{TableDef}
use Rattle.tt_values.specs.Tables.{Tables}
use Rattle.tt_grammar.specs.JsonText.{further_item, items_at, array_text}
use Rattle.tt_grammar.specs.WriteText.{table_text}

-- the items of two lists are those of the one, and then those of the other
pub items_at-append : (first : Bool) (xs ys : List (List ℕ)) → items_at first (xs ++ ys) ≡ items_at first xs ++ items_at (first && (length xs == 0)) ys
items_at-append true [] ys = refl
items_at-append true (x ∷ xs) ys =
    let further : (suc (length xs) == 0) ≡ false = grind (arith, nat_tests) in
    ap (λ t. x ++ t) (flat_map-append further_item xs ys)
    ∙ sym (append_assoc x (flat_map further_item xs) (flat_map further_item ys))
    ∙ ap (λ b. (x ++ flat_map further_item xs) ++ items_at b ys) (sym further)
items_at-append false xs ys = flat_map-append further_item xs ys

-- a first item and further ones are the array
pub array_text-first : {X : Type 0} → (text : X → List ℕ) (xs : List X) (x : X) → 1 ≤ length xs → x ≡ get_or xs 0 x
    → codes "[" ++ (text x ++ (flat_map further_item (map text (take (length xs - 1) (drop 1 xs))) ++ codes "]")) ≡ array_text (map text xs)
array_text-first text [] x h e = absurd (omega arith)
array_text-first {X = X} text (y ∷ ys) x h e =
    let count : suc (length ys) - 1 ≡ length ys = omega arith in
    let further : take (suc (length ys) - 1) ys ≡ ys = ap (λ n. take n ys) count ∙ take-length ys in
    ap (λ (zs : List X). codes "[" ++ (text x ++ (flat_map further_item (map text zs) ++ codes "]"))) further
    ∙ ap (λ (z : X). codes "[" ++ (text z ++ (flat_map further_item (map text ys) ++ codes "]"))) e
    ∙ ap (λ t. codes "[" ++ t) (sym (append_assoc (text y) (flat_map further_item (map text ys)) (codes "]")))

-- the rest of a list from an item on
drop-at : {X : Type 0} → (xs : List X) (i : ℕ) (x : X) → slice_get xs i ≡ Some x → drop i xs ≡ x ∷ drop (suc i) xs
drop-at [] i x h = cc
drop-at (y ∷ ys) zero x h = let same : y ≡ x = cc in ap (λ z. z ∷ ys) same
drop-at (y ∷ ys) (suc i) x h = drop-at ys i x h

-- the next table, and those after it
pub items_at-table : (tables : Tables) (i : ℕ) (name : List ℕ) (def : TableDef) (out new all : List ℕ) → Some name ≡ option_map (λ t. t.0) (slice_get tables i)
    → Some def ≡ option_map (λ t. t.1) (slice_get tables i) → out ++ items_at (i == 0) (map table_text (drop i tables)) ≡ all
    → new ≡ out ++ items_at (i == 0) (table_text (name, def) ∷ []) → new ++ items_at (i + 1 == 0) (map table_text (drop (i + 1) tables)) ≡ all
items_at-table tables i name def out new all named defined rest text = by (slice_get tables i) refl named defined
  where
    by : (o : Option (List ℕ × TableDef)) → slice_get tables i ≡ o → Some name ≡ option_map (λ t. t.0) o → Some def ≡ option_map (λ t. t.1) o
        → new ++ items_at (i + 1 == 0) (map table_text (drop (i + 1) tables)) ≡ all
    by None e f g = cc
    by (Some t) e f g =
        let same_name : name ≡ t.0 = cc in
        let same_def : def ≡ t.1 = cc in
        let same : (name, def) ≡ t = ap (λ (n : List ℕ). let p : List ℕ × TableDef = (n, def) in p) same_name ∙ ap (λ (d : TableDef). let p : List ℕ × TableDef = (t.0, d) in p) same_def in
        let after : i + 1 ≡ suc i = omega arith in
        let here : drop i tables ≡ t ∷ drop (i + 1) tables = drop-at tables i t e ∙ ap (λ j. t ∷ drop j tables) (sym after) in
        let left : List (List ℕ) = map table_text (drop (i + 1) tables) in
        let later : (i + 1 == 0) ≡ false = grind (arith, nat_tests) in
        let further : (i + 1 == 0) ≡ ((i == 0) && false) = later ∙ sym (and-false (i == 0)) in
        ap (λ u. u ++ items_at (i + 1 == 0) left) text
        ∙ append_assoc out (items_at (i == 0) (table_text (name, def) ∷ [])) (items_at (i + 1 == 0) left)
        ∙ ap (λ b. out ++ (items_at (i == 0) (table_text (name, def) ∷ []) ++ items_at b left)) further
        ∙ ap (λ u. out ++ u) (sym (items_at-append (i == 0) (table_text (name, def) ∷ []) left))
        ∙ ap (λ (u : List ℕ × TableDef). out ++ items_at (i == 0) (table_text u ∷ left)) same
        ∙ ap (λ (ts : Tables). out ++ items_at (i == 0) (map table_text ts)) (sym here)
        ∙ rest

-- the next item behind a comma, and those after it
pub further-next : {X : Type 0} → (text : X → List ℕ) (xs : List X) (i : ℕ) (x : X) (out separated new all : List ℕ) → i < length xs → x ≡ get_or xs i x
    → out ++ flat_map further_item (map text (drop i xs)) ≡ all → separated ≡ out ++ codes "," → new ≡ separated ++ text x
    → new ++ flat_map further_item (map text (drop (i + 1) xs)) ≡ all
further-next {X = X} text xs i x out separated new all h is rest comma item =
    let after : i + 1 ≡ suc i = omega arith in
    let here : drop i xs ≡ x ∷ drop (i + 1) xs = drop-cons xs i x h ∙ ap (λ (z : X). z ∷ drop (suc i) xs) (sym is) ∙ ap (λ j. x ∷ drop j xs) (sym after) in
    let left : List ℕ = flat_map further_item (map text (drop (i + 1) xs)) in
    ap (λ o. o ++ left) (item ∙ ap (λ o. o ++ text x) comma)
    ∙ append_assoc (out ++ codes ",") (text x) left
    ∙ append_assoc out (codes ",") (text x ++ left)
    ∙ ap (λ (zs : List X). out ++ flat_map further_item (map text zs)) (sym here)
    ∙ rest
