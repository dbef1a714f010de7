use Rattle.std.proofs.Common.{◌+◌, ◌*◌}
use Rattle.tt_pages.specs.MapTree.{node_value, branch_depth}
use Rattle.tt_pages.proofs.map.+map_put.Given as goal

abbrev pub decreases-putting::put_shared : goal.decreases-putting::put_shared
decreases-putting::put_shared g l = 5 * l.this.now.value.depth + 2

abbrev pub decreases-tree::Tree::put : goal.decreases-tree::Tree::put
decreases-tree::Tree::put g l = 5 * l.self.now.depth + 1

abbrev pub decreases-tree::Node::put : goal.decreases-tree::Node::put
decreases-tree::Node::put g l = 5 * (node_value l.self.now).depth

abbrev pub decreases-putting::put_in_fork : goal.decreases-putting::put_in_fork
decreases-putting::put_in_fork g l = 5 * branch_depth l.branches.now.items + 4

abbrev pub decreases-tree::Branch::put : goal.decreases-tree::Branch::put
decreases-tree::Branch::put g l = 5 * l.self.now.tree.depth + 3
