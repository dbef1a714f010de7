use Rattle.std.proofs.Common.{arith, ◌<◌, set, remove, subst, sym, ap, ◌∙◌, add-one}
use Rattle.std.specs.List.{HoldsAt}
use Rattle.tt_pages.specs.MapTree.{AreBranches, branch_depth, branch_entries, min_width}
use Rattle.tt_pages.specs.MapBranches.{IsBranchFor, IsJoin}
use Rattle.tt_pages.proofs.MapJoinLemmas.{beside, for_both, one-branches, one-entries, one-for, one-at}
use Rattle.tt_pages.proofs.map.removal.put_one.Goals as goal

pub returns-clause-fork : goal.returns-clause-fork
returns-clause-fork g c =
    let bs = c.args.branches.now.items in
    let left = c.args.left in
    let is = c.remove.ensures.items ∙ ap (remove (set bs left c.args.branch)) (add-one left) in
    let join = beside (λ l r. IsJoin l.tree r.tree c.args.branch) bs left c.requires.join in
    subst (AreBranches (branch_depth bs)) (sym is) (one-branches (branch_depth bs) c.args.branch bs left (omega (arith, c.requires.within)) c.requires.fork join)

pub returns-clause-same : goal.returns-clause-same
returns-clause-same g c =
    let bs = c.args.branches.now.items in
    let left = c.args.left in
    let is = c.remove.ensures.items ∙ ap (remove (set bs left c.args.branch)) (add-one left) in
    let join = beside (λ l r. IsJoin l.tree r.tree c.args.branch) bs left c.requires.join in
    ap branch_entries is ∙ one-entries (branch_depth bs) c.args.branch bs left (omega (arith, c.requires.within)) join

pub returns-clause-is_for : goal.returns-clause-is_for
returns-clause-is_for g c =
    let bs = c.args.branches.now.items in
    let left = c.args.left in
    let is = c.remove.ensures.items ∙ ap (remove (set bs left c.args.branch)) (add-one left) in
    let join = beside (λ l r. IsJoin l.tree r.tree c.args.branch) bs left c.requires.join in
    subst (λ es. IsBranchFor c.args.key.now es left) (sym is) (one-for (branch_depth bs) c.args.branch c.args.key.now bs left (omega (arith, c.requires.within)) c.requires.fork.each c.requires.fork.sorted join (for_both c.args.key.now bs left c.requires.is_for))

pub returns-clause-wide : goal.returns-clause-wide
returns-clause-wide g c =
    let bs = c.args.branches.now.items in
    let left = c.args.left in
    let is = c.remove.ensures.items ∙ ap (remove (set bs left c.args.branch)) (add-one left) in
    let join = beside (λ l r. IsJoin l.tree r.tree c.args.branch) bs left c.requires.join in
    subst (λ es. HoldsAt (λ b. min_width < b.tree.width) es left) (sym is) (one-at (branch_depth bs) c.args.branch bs left (λ b. min_width < b.tree.width) (omega (arith, c.requires.within)) (join c.args.branch c.args.branch).wide)
