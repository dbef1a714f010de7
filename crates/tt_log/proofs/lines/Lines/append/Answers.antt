-- The bytes of further lines are added to those of the others.
use Rattle.std.proofs.Common.{◌++◌, ◌∙◌, sym, ap, subst}
use Rattle.tt_log.specs.Lines.{logged, IsJoined}
use Rattle.tt_log.proofs.PendingLemmas.{joined_more, joined_more_is}
use Rattle.tt_log.proofs.lines.Lines.append.Goals as goal

pub invariant_of-self-2 : goal.invariant_of-self-2
invariant_of-self-2 c = subst IsJoined (sym (c.in_ok-extend_from_slice.ensures.items ∙ (λ j. c.self.inside.bytes.items ++ c.deref.ensures.value j))) (joined_more_is c.self.inside.bytes.items c.more.inside.bytes.items c.self.invariant c.more.invariant)

pub returns-clause-ok : goal.returns-clause-ok
returns-clause-ok c =
    ap logged (c.in_ok-extend_from_slice.ensures.items ∙ (λ j. c.self.inside.bytes.items ++ c.deref.ensures.value j))
    ∙ joined_more c.self.inside.bytes.items c.more.inside.bytes.items c.self.invariant c.more.invariant
    ∙ (λ j. c.self.view_is j ++ c.more.view_is j)
