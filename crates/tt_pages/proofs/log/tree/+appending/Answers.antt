use Rattle.std.proofs.Common.{◌≡◌, ◌+◌, ◌<◌, ◌∙◌, refl, sym, ap, subst, inl, inr, length, length-append, arith}
use Rattle.std.proofs.lemmas.Result.{on_ok_weaker}
use Rattle.std.specs.Result.{IsOk}
use Rattle.tt_pages.specs.LogTree.{node_items, IsFilled}
use Rattle.tt_pages.specs.declared.log.tree.Node.TheVariants.{Fork}
use Rattle.tt_pages.proofs.LogBalance.{full_node_has_next, grown_fork_has_least, IsFull}
use Rattle.tt_pages.proofs.log.tree.+appending.Goals as goal
use Rattle.tt_pages.proofs.log.tree.+appending.Goals.{append_to_node-in_default-via-in-Fork+else-len, append_to_node-in_default-via-in_default}

pub append_to_node-add_fork-requires-clause-full : goal.append_to_node-add_fork-requires-clause-full
append_to_node-add_fork-requires-clause-full g t c = elim c.in_default.branch [
  | append_to_node-in_default-via-in-Fork+else-len w ↦
      let full : IsFull (Fork w.in-Fork.branches) = grind (arith, w.deref.ensures, w.len.ensures, w.if-len.false) in
      rw (w.node-is, c.requires.len, w.in-Fork.is) (full_node_has_next (Fork w.in-Fork.branches) (subst IsFilled w.in-Fork.is c.requires.filled) full)
  | append_to_node-in_default-via-in_default w ↦
      rw (w.node-is, c.requires.len) (full_node_has_next c.args.node.now c.requires.filled (subst IsFull (sym w.in_default.is) tt))
]

pub append_to_node-returns-in-Fork-clause-depth : goal.append_to_node-returns-in-Fork-clause-depth
append_to_node-returns-in-Fork-clause-depth g t c =
    let old = c.in-Fork.branches.value in
    let new = c.append_to_right.new.branches.value in
    let filled = subst IsFilled c.in-Fork.is c.requires.filled in
    let short : length old.1.0 < length old.0.0 = grind (arith, c.deref.ensures, c.len.ensures, c.if-len.true) in
    let len : c.args.len ≡ length old.0.0 + length old.1.0 = (c.requires.len ∙ ap (λ n. length (node_items n)) c.in-Fork.is) ∙ length-append old.0.0 old.1.0 in
    on_ok_weaker c.append_to_right.result (λ grows. rw (len, c.append_to_right.ensures.left) (grown_fork_has_least old.0 old.1 new.1 filled.2 short grows)) c.append_to_right.ensures.depth

pub append_to_right-returns-clause-depth : goal.append_to_right-returns-clause-depth
append_to_right-returns-clause-depth g t c =
    let same : c.in_ok-make_mut.field-0.now.1 ≡ c.args.branches.now.value.1 = elim c.in_ok-make_mut.ensures.value [ inl e ↦ ap (λ pair. pair.1) e | inr e ↦ e.1 ] in
    let lent = c.make_mut.follows.holds (c.in_ok-make_mut.field-0.now.0, c.append.new.self) (subst IsOk (sym c.in_ok-make_mut.was) refl) in
    rw (lent, ← same) c.append.ensures.depth
