-- Each branch of a fork is less deep than the fork.
use Rattle.std.specs.Prelude.{◌+◌, ◌*◌, ◌≤◌, ℕ, suc, max, List, [], ◌∷◌, All}
use Rattle.std.proofs.Common.{arith}
use Rattle.std.proofs.lemmas.List.Elements.{All-head, All-tail}
use denote.Param.Weighed.{most}
use Rattle.tt_pages.specs.declared.map.tree.Node.{Node}
use Rattle.tt_pages.specs.declared.map.tree.Node.TheVariants.{Leaf, Fork}
use Rattle.tt_pages.specs.declared.map.tree.Branch.TheDeep.{deep-Node}
use Rattle.tt_pages.specs.MapTree.{IsNode, IsBranch, node_value, branch_depth}
use Rattle.tt_pages.specs.MapValues.{BranchValue}

module _ {V : Type 0} where
  most_le : (d : ℕ) (bs : List (BranchValue V)) → All (IsBranch d) bs → most (λ (b : BranchValue V). suc (2 * b.tree.depth) + 1) bs ≤ 2 * suc d
  most_le d [] each = omega arith
  most_le d (b ∷ bs) each = omega (arith, (All-head (IsBranch d) b bs each).depth, most_le d bs (All-tail (IsBranch d) b bs each))

  pub deep_le-depth : (n : Node V) → IsNode n → max (deep-Node V n) 0 ≤ 2 * (node_value n).depth
  deep_le-depth (Leaf page) is = omega arith
  deep_le-depth (Fork branches) is = omega (arith, most_le (branch_depth branches.items) branches.items is.each)
