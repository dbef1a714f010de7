use Rattle.std.proofs.Common.{◌^◌, ◌<◌, arith}
use Rattle.tt_pages.proofs.LogBalance.{node_has_least, shallow}
use Rattle.tt_pages.proofs.log.tree.Tree.len.Goals as goal

pub returns-clause-shallow : goal.returns-clause-shallow
returns-clause-shallow g c =
    let fits : c.self.inside.len < 2 ^ 64 = grind arith in
    rw (← c.self.view_is) (shallow _ c.self.inside.len (rw (c.self.invariant.0) (node_has_least c.self.inside.node c.self.invariant.1)) fits)
