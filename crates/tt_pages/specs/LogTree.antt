-- The items and the depth of a node of a log's tree.
use Rattle.std.specs.Prelude.{ℕ, suc, ◌<◌, ◌≤◌, max, List, ◌++◌, length}
use Rattle.std.specs.declared.sync.Arc.{Arc}
use Rattle.std.specs.declared.alloc.Global.{Global}
use Rattle.tt_pages.specs.LogDepth.{least}
use Rattle.tt_pages.specs.declared.log.tree.Tree.{Tree}
use Rattle.tt_pages.specs.declared.log.tree.Node.{Node}
use Rattle.tt_pages.specs.declared.log.tree.Node.TheVariants.{Leaf, Fork}

module _ {T : Type 0} where
  -- the items of both branches of a fork, in order
  abbrev pub branch_items : Arc (Tree T × Tree T) Global → List T
  branch_items branches = branches.value.0.0 ++ branches.value.1.0

  -- the items of a node, in order
  abbrev pub node_items : Node T → List T
  node_items (Leaf page) = page.value
  node_items (Fork branches) = branch_items branches

  -- the number of forks on the longest path to a page
  abbrev pub node_depth : Node T → ℕ
  node_depth (Leaf page) = 0
  node_depth (Fork branches) = suc (max branches.value.0.1 branches.value.1.1)

  -- both branches have enough items for the right one's depth, and the left one for one more level than its own
  pub record AreBalanced (left right : List T × ℕ) : Type 0 where
    pub left_full : least (suc left.1) ≤ length left.0
    pub right_below : least right.1 ≤ length left.0
    pub right_filled : least right.1 ≤ length right.0

  -- a page has at least one item, and so does each branch of a fork; the branches are balanced
  abbrev pub IsFilled : Node T → Type 0
  IsFilled (Leaf page) = 0 < length page.value
  IsFilled (Fork branches) = (0 < length branches.value.0.0) × (0 < length branches.value.1.0) × AreBalanced branches.value.0 branches.value.1
