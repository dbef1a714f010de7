-- The first bytes are those of the first lines.
use Rattle.std.proofs.Common.{◌∙◌, sym, ap, subst}
use Rattle.tt_log.specs.Lines.{logged, IsJoined}
use Rattle.tt_log.proofs.PendingLemmas.{joined_front, joined_front_is}
use Rattle.tt_log.proofs.lines.Lines.truncate.Goals as goal

pub invariant_of-self : goal.invariant_of-self
invariant_of-self c =
    let r = c.requires in
    subst IsJoined (sym c.truncate.ensures.items) (joined_front_is c.self.inside.bytes.items c.args.byte_len r.0 r.1 c.self.invariant (c.self.view_is ∙ r.2) r.3)

pub returns : goal.returns
returns c = λ kept more are is.
    ap logged c.truncate.ensures.items ∙ joined_front c.self.inside.bytes.items c.args.byte_len kept more c.self.invariant (c.self.view_is ∙ are) is
