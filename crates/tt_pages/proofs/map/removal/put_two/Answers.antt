use Rattle.std.proofs.Common.{arith, ◌<◌, suc, length, set, subst, sym, ap, ◌∙◌, add-one}
use Rattle.std.specs.List.{HoldsAt}
use Rattle.tt_pages.specs.MapTree.{AreBranches, branch_depth, branch_entries, min_width}
use Rattle.tt_pages.specs.MapBranches.{IsBranchFor, AreEven}
use Rattle.tt_pages.proofs.MapJoinLemmas.{with_two, beside, for_both, two-branches, two-entries, two-low_for, two-high_for, two-low_at, two-high_at}
use Rattle.tt_pages.proofs.map.removal.put_two.Goals as goal
use Rattle.tt_pages.proofs.map.removal.put_two.Goals.{then-is_above, else-is_above}

pub returns-clause-fork : goal.returns-clause-fork
returns-clause-fork g c =
    let bs = c.args.branches.now.items in
    let left = c.args.left in
    let halves = c.args.halves in
    let is = ap (λ n. set (set bs left halves.low) n halves.high) (add-one left) in
    let even = beside (λ l r. AreEven l.tree r.tree halves) bs left c.requires.even in
    subst (AreBranches (branch_depth bs)) (sym is) (two-branches (branch_depth bs) halves bs left (omega (arith, c.requires.within)) c.requires.fork even)

pub returns-clause-same : goal.returns-clause-same
returns-clause-same g c =
    let bs = c.args.branches.now.items in
    let left = c.args.left in
    let halves = c.args.halves in
    let is = ap (λ n. set (set bs left halves.low) n halves.high) (add-one left) in
    let even = beside (λ l r. AreEven l.tree r.tree halves) bs left c.requires.even in
    ap branch_entries is ∙ two-entries (branch_depth bs) halves bs left (omega (arith, c.requires.within)) even

pub returns-clause-is_for : goal.returns-clause-is_for
returns-clause-is_for g c =
    let bs = c.args.branches.now.items in
    let left = c.args.left in
    let halves = c.args.halves in
    let key = c.args.key.now in
    let is = ap (λ n. set (set bs left halves.low) n halves.high) (add-one left) in
    let even = beside (λ l r. AreEven l.tree r.tree halves) bs left c.requires.even in
    let both = for_both key bs left c.requires.is_for in
    elim c.if-is_above.branch [
      | then-is_above w ↦
          subst (λ es. IsBranchFor key es c.if-is_above.place) (sym is) (subst (IsBranchFor key (with_two bs left halves)) (sym w.place-is)
          (two-low_for (branch_depth bs) halves key bs left (omega (arith, c.requires.within)) c.requires.fork.each even both (sym c.is_above.ensures ∙ w.if-is_above.true)))
      | else-is_above w ↦
          subst (λ es. IsBranchFor key es c.if-is_above.place) (sym is) (subst (IsBranchFor key (with_two bs left halves)) (sym (w.place-is ∙ add-one left))
          (two-high_for (branch_depth bs) halves key bs left (omega (arith, c.requires.within)) c.requires.fork.each c.requires.fork.sorted even both (sym c.is_above.ensures ∙ w.if-is_above.false)))
    ]

pub returns-clause-wide : goal.returns-clause-wide
returns-clause-wide g c =
    let bs = c.args.branches.now.items in
    let left = c.args.left in
    let halves = c.args.halves in
    let is = ap (λ n. set (set bs left halves.low) n halves.high) (add-one left) in
    let even = beside (λ l r. AreEven l.tree r.tree halves) bs left c.requires.even in
    let within : suc left < length bs = omega (arith, c.requires.within) in
    elim c.if-is_above.branch [
      | then-is_above w ↦
          subst (λ es. HoldsAt (λ b. min_width < b.tree.width) es c.if-is_above.place) (sym is) (subst (HoldsAt (λ b. min_width < b.tree.width) (with_two bs left halves)) (sym w.place-is)
          (two-low_at (branch_depth bs) halves bs left (λ b. min_width < b.tree.width) within (even halves.low halves.low).low_wide))
      | else-is_above w ↦
          subst (λ es. HoldsAt (λ b. min_width < b.tree.width) es c.if-is_above.place) (sym is) (subst (HoldsAt (λ b. min_width < b.tree.width) (with_two bs left halves)) (sym (w.place-is ∙ add-one left))
          (two-high_at (branch_depth bs) halves bs left (λ b. min_width < b.tree.width) within (even halves.low halves.low).high_wide))
    ]
