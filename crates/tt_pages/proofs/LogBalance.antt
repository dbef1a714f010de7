-- The fewest items of a depth, and that a node with balanced branches has at least as many.
use Rattle.std.proofs.Common.{◌≡◌, ℕ, zero, suc, ◌+◌, ◌*◌, ◌^◌, ◌<◌, ◌≤◌, max, List, length, length-append, inl, inr, arith}
use Rattle.std.proofs.Math.Nat.{max-eq_left, max-eq_right}
use Rattle.std.proofs.lemmas.Bool.{cases_lt}
use Rattle.std.specs.Prelude.{⊤}
use Rattle.tt_pages.specs.LogDepth.{least}
use Rattle.tt_pages.specs.LogTree.{AreBalanced, IsFilled, node_items, node_depth}
use Rattle.tt_pages.specs.declared.log.tree.Node.{Node}
use Rattle.tt_pages.specs.declared.log.tree.Node.TheVariants.{Leaf, Fork}

pub least_rises : (d : ℕ) → least d ≤ least (suc d)
least_rises zero = omega arith
least_rises (suc zero) = omega arith
least_rises (suc (suc d)) = omega (arith, least_rises d)

pub least_doubles : (d : ℕ) → least (suc d) ≤ 2 * least d
least_doubles zero = omega arith
least_doubles (suc zero) = omega arith
least_doubles (suc (suc d)) = omega (arith, least_doubles d)

-- a shallower tree needs no more items
pub least_monotone : (c d : ℕ) → c ≤ d → least c ≤ least d
least_monotone c zero h = let e : c ≡ zero = omega (arith, h) in rw e (omega arith)
least_monotone c (suc d) h = elim (cases_lt d c) [
  | inl deeper ↦ let e : c ≡ suc d = omega (arith, h, deeper) in rw e (omega arith)
  | inr within ↦ omega (arith, least_monotone c d within, least_rises d)
]

not_both : {a b n : ℕ} → a ≤ b → b ≤ n → n < a → ⊥
not_both x y z = omega (arith, x, y, z)

-- a tree whose items are counted by a `usize` is less than 128 deep
pub shallow : (d n : ℕ) → least d ≤ n → n < 2 ^ 64 → d < 128
shallow d n has fits = elim (cases_lt d 128) [
  | inl less ↦ less
  | inr deep ↦ absurd (not_both (least_monotone 128 d deep) has fits)
]

-- what holds for both depths holds for the greater one
at_max : (P : ℕ → Type 0) (a b : ℕ) → P a → P b → P (max a b)
at_max P a b pa pb = elim (cases_lt a b) [
  | inl less ↦ let e : max a b ≡ b = max-eq_right (omega (arith, less)) in rw e pb
  | inr not_less ↦ let e : max a b ≡ a = max-eq_left not_less in rw e pa
]

module _ {T : Type 0} where
  -- a page, or a fork whose right branch has at least as many items as the left one
  abbrev pub IsFull : Node T → Type 0
  IsFull (Leaf page) = ⊤
  IsFull (Fork branches) = length branches.value.0.0 ≤ length branches.value.1.0

  -- a fork of balanced branches has enough items for its depth
  pub fork_has_least : (l r : List T × ℕ) → AreBalanced l r → least (suc (max l.1 r.1)) ≤ length l.0 + length r.0
  fork_has_least l r balanced = at_max (λ d. least (suc d) ≤ length l.0 + length r.0) l.1 r.1
      (omega (arith, balanced.left_full))
      (omega (arith, balanced.right_below, balanced.right_filled, least_doubles r.1))

  -- and for one more level, if its right branch has at least as many items as the left one
  pub full_fork_has_next : (l r : List T × ℕ) → AreBalanced l r → length l.0 ≤ length r.0 → least (suc (suc (max l.1 r.1))) ≤ length l.0 + length r.0
  full_fork_has_next l r balanced caught_up = at_max (λ d. least (suc (suc d)) ≤ length l.0 + length r.0) l.1 r.1
      (omega (arith, balanced.left_full, least_rises l.1, caught_up))
      (omega (arith, balanced.right_below, balanced.right_filled))

  -- a node has enough items for its depth
  pub node_has_least : (node : Node T) → IsFilled node → least (node_depth node) ≤ length (node_items node)
  node_has_least (Leaf page) filled = filled
  node_has_least (Fork branches) filled = omega (arith, length-append branches.value.0.0 branches.value.1.0, fork_has_least branches.value.0 branches.value.1 filled.2)

  -- a full node has enough items for one more level
  pub full_node_has_next : (node : Node T) → IsFilled node → IsFull node → least (suc (node_depth node)) ≤ length (node_items node)
  full_node_has_next (Leaf page) filled full = filled
  full_node_has_next (Fork branches) filled full = omega (arith, length-append branches.value.0.0 branches.value.1.0, full_fork_has_next branches.value.0 branches.value.1 filled.2 full)

  -- after its shorter right branch took a page, a fork has enough items for its depth even without that page
  pub grown_fork_has_least : (l r grown : List T × ℕ) → AreBalanced l r → length r.0 < length l.0 → least grown.1 ≤ length r.0 → least (suc (max l.1 grown.1)) ≤ length l.0 + length r.0
  grown_fork_has_least l r grown balanced short grows = at_max (λ d. least (suc d) ≤ length l.0 + length r.0) l.1 grown.1
      (omega (arith, balanced.left_full))
      (omega (arith, short, grows, least_doubles grown.1))
