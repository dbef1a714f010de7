-- Lists that are compared item by item.
use Rattle.std.proofs.Common.{◌≡◌, ℕ, ◌+◌, ◌&&◌, Bool, List, [], ◌∷◌, drop, Option, Some, None, suc, zero, sym, ap, ◌∙◌, arith}
use Rattle.std.specs.List.{list_all, zip}
use Rattle.std.specs.Prelude.{slice_get}
use Rattle.std.specs.Option.{option_map}
use Rattle.tt_values.specs.declared.table.TableDef.{TableDef}
use Rattle.tt_values.specs.Tables.{Tables}
use Rattle.tt_session.specs.Reopening.{is_same_table}

some-same : {A : Type 0} (a b : A) → Some a ≡ Some b → a ≡ b
some-same a b is = cc

module _ {A : Type 0} (same : A → A → Bool) where
  abbrev pub are_same_from : ℕ → List A → List A → Bool
  are_same_from at xs ys = list_all (λ p. same p.0 p.1) (zip (drop at xs) (drop at ys))

  -- the first two items, and the others
  pub same-at : (at : ℕ) (xs ys : List A) (x y : A) → slice_get xs at ≡ Some x → slice_get ys at ≡ Some y → are_same_from at xs ys ≡ (same x y && are_same_from (at + 1) xs ys)
  same-at zero (a ∷ xs) (b ∷ ys) x y e f = λ i. same (some-same a x e i) (some-same b y f i) && are_same_from 0 xs ys
  same-at (suc n) (a ∷ xs) (b ∷ ys) x y e f =
      let next : suc (n + 1) ≡ suc n + 1 = omega arith in
      same-at n xs ys x y e f ∙ ap (λ k. same x y && are_same_from k (a ∷ xs) (b ∷ ys)) next
  same-at n [] ys x y e f = absurd (cc)
  same-at n xs [] x y e f = absurd (cc)

-- a table, told by its name and its columns
both-of : (table : Option (List ℕ × TableDef)) (name : List ℕ) (def : TableDef) → Some name ≡ option_map (λ t. t.0) table → Some def ≡ option_map (λ t. t.1) table → table ≡ Some (name, def)
both-of (Some t) name def e f = λ i. Some (sym (some-same name t.0 e) i, sym (some-same def t.1 f) i)
both-of None name def e f = absurd (cc)

pub tables-at : (first second : Tables) (at : ℕ) (name other_name : List ℕ) (def other : TableDef) → Some name ≡ option_map (λ t. t.0) (slice_get first at) → Some def ≡ option_map (λ t. t.1) (slice_get first at)
    → Some other_name ≡ option_map (λ t. t.0) (slice_get second at) → Some other ≡ option_map (λ t. t.1) (slice_get second at)
    → are_same_from is_same_table at first second ≡ (is_same_table (name, def) (other_name, other) && are_same_from is_same_table (at + 1) first second)
tables-at first second at name other_name def other e f g h = same-at is_same_table at first second (name, def) (other_name, other) (both-of _ name def e f) (both-of _ other_name other g h)
