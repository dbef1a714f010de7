use Rattle.std.proofs.Common.{◌+◌, ◌*◌}
use Rattle.tt_pages.specs.MapTree.{node_value, branch_depth}
use Rattle.tt_pages.proofs.map.+map_remove.Given as goal

abbrev pub decreases-removal::remove_shared : goal.decreases-removal::remove_shared
decreases-removal::remove_shared g l = 5 * l.this.now.value.depth + 2

abbrev pub decreases-tree::Tree::remove : goal.decreases-tree::Tree::remove
decreases-tree::Tree::remove g l = 5 * l.self.now.depth + 1

abbrev pub decreases-tree::Node::remove : goal.decreases-tree::Node::remove
decreases-tree::Node::remove g l = 5 * (node_value l.self.now).depth

abbrev pub decreases-removal::remove_in_fork : goal.decreases-removal::remove_in_fork
decreases-removal::remove_in_fork g l = 5 * branch_depth l.branches.now.items + 4

abbrev pub decreases-tree::Branch::remove : goal.decreases-tree::Branch::remove
decreases-tree::Branch::remove g l = 5 * l.self.now.tree.depth + 3
