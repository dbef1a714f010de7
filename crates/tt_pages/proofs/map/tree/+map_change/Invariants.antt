use Rattle.std.proofs.Common.{◌+◌, ◌*◌}
use Rattle.tt_pages.specs.MapTree.{node_value, branch_depth}
use Rattle.tt_pages.proofs.map.tree.+map_change.Given as goal

abbrev pub decreases-Tree::change_shared : goal.decreases-Tree::change_shared
decreases-Tree::change_shared g l = 5 * l.this.now.value.depth + 2

abbrev pub decreases-Tree::change : goal.decreases-Tree::change
decreases-Tree::change g l = 5 * l.self.now.depth + 1

abbrev pub decreases-Node::change : goal.decreases-Node::change
decreases-Node::change g l = 5 * (node_value l.self.now).depth

abbrev pub decreases-Node::change_in_fork : goal.decreases-Node::change_in_fork
decreases-Node::change_in_fork g l = 5 * branch_depth l.branches.now.items + 4

abbrev pub decreases-Branch::change : goal.decreases-Branch::change
decreases-Branch::change g l = 5 * l.self.now.tree.depth + 3
