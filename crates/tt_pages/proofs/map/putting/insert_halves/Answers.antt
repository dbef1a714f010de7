use Rattle.std.proofs.Common.{arith, ◌<◌, length, insert, set, sym, ap, subst, ◌∙◌, add-one}
use Rattle.std.specs.List.{HoldsAt}
use Rattle.std.proofs.lemmas.Grind.{common_steps}
use Rattle.tt_pages.specs.MapTree.{AreBranches, branch_depth, branch_entries, max_width}
use Rattle.tt_pages.specs.MapBranches.{IsBranchFor}
use Rattle.tt_pages.proofs.MapHalvesLemmas.{with_halves, halves-branches, halves-entries, halves-length, low-for, high-for, low-at, high-at}
use Rattle.tt_pages.proofs.map.putting.insert_halves.Goals as goal
use Rattle.tt_pages.proofs.map.putting.insert_halves.Goals.{then-is_above, else-is_above}

pub overflow_add-place : goal.overflow_add-place
overflow_add-place g c = omega (arith, c.requires.within, c.requires.room)

pub overflow_add-at : goal.overflow_add-at
overflow_add-at g c = omega (arith, c.requires.within, c.requires.room)

pub insert-requires : goal.insert-requires
insert-requires g c = grind (arith, common_steps, c.requires.within)

pub index_mut-requires : goal.index_mut-requires
index_mut-requires g c = grind (arith, common_steps, c.requires.within, c.in_ok-insert.ensures.len)

pub returns-clause-fork : goal.returns-clause-fork
returns-clause-fork g c =
    let bs = c.args.branches.now.items in
    let is = ap (λ es. set es c.args.at c.args.halves.low) (c.in_ok-insert.ensures.items ∙ ap (λ n. insert bs n c.args.halves.high) (add-one c.args.at)) in
    subst (AreBranches (branch_depth bs)) (sym is) (halves-branches (branch_depth bs) bs c.args.at c.args.halves c.requires.within c.requires.room c.requires.fork c.requires.halves)

pub returns-clause-same : goal.returns-clause-same
returns-clause-same g c =
    let bs = c.args.branches.now.items in
    let is = ap (λ es. set es c.args.at c.args.halves.low) (c.in_ok-insert.ensures.items ∙ ap (λ n. insert bs n c.args.halves.high) (add-one c.args.at)) in
    ap branch_entries is ∙ halves-entries bs c.args.at c.args.halves c.requires.within c.requires.halves

pub returns-clause-within : goal.returns-clause-within
returns-clause-within g c =
    let bs = c.args.branches.now.items in
    let is = ap (λ es. set es c.args.at c.args.halves.low) (c.in_ok-insert.ensures.items ∙ ap (λ n. insert bs n c.args.halves.high) (add-one c.args.at)) in
    let long = ap length is ∙ halves-length bs c.args.at c.args.halves c.requires.within in
    elim c.if-is_above.branch [
      | then-is_above w ↦ omega (arith, long, w.place-is, c.requires.within)
      | else-is_above w ↦ omega (arith, long, w.place-is, c.requires.within)
    ]

pub returns-clause-is_for : goal.returns-clause-is_for
returns-clause-is_for g c =
    let bs = c.args.branches.now.items in
    let key = c.args.key.now in
    let depth = branch_depth bs in
    let is = ap (λ es. set es c.args.at c.args.halves.low) (c.in_ok-insert.ensures.items ∙ ap (λ n. insert bs n c.args.halves.high) (add-one c.args.at)) in
    elim c.if-is_above.branch [
      | then-is_above w ↦
          subst (λ es. IsBranchFor key es c.if-is_above.place) (sym is) (subst (IsBranchFor key (with_halves bs c.args.at c.args.halves)) (sym w.place-is)
          (low-for key depth c.args.halves bs c.args.at c.requires.within c.requires.fork.each c.requires.halves c.requires.is_for (sym c.is_above.ensures ∙ w.if-is_above.true)))
      | else-is_above w ↦
          subst (λ es. IsBranchFor key es c.if-is_above.place) (sym is) (subst (IsBranchFor key (with_halves bs c.args.at c.args.halves)) (sym (w.place-is ∙ add-one c.args.at))
          (high-for key depth c.args.halves bs c.args.at c.requires.within c.requires.fork.each c.requires.halves c.requires.is_for (sym c.is_above.ensures ∙ w.if-is_above.false)))
    ]

pub returns-clause-wide : goal.returns-clause-wide
returns-clause-wide g c =
    let bs = c.args.branches.now.items in
    let both = c.requires.halves in
    let is = ap (λ es. set es c.args.at c.args.halves.low) (c.in_ok-insert.ensures.items ∙ ap (λ n. insert bs n c.args.halves.high) (add-one c.args.at)) in
    elim c.if-is_above.branch [
      | then-is_above w ↦
          subst (λ es. HoldsAt (λ b. b.tree.width < max_width) es c.if-is_above.place) (sym is) (subst (HoldsAt (λ b. b.tree.width < max_width) (with_halves bs c.args.at c.args.halves)) (sym w.place-is)
          (low-at bs c.args.at c.args.halves (λ b. b.tree.width < max_width) c.requires.within (both c.args.halves.low).low_room))
      | else-is_above w ↦
          subst (λ es. HoldsAt (λ b. b.tree.width < max_width) es c.if-is_above.place) (sym is) (subst (HoldsAt (λ b. b.tree.width < max_width) (with_halves bs c.args.at c.args.halves)) (sym (w.place-is ∙ add-one c.args.at))
          (high-at bs c.args.at c.args.halves (λ b. b.tree.width < max_width) c.requires.within (both c.args.halves.low).high_room))
    ]
