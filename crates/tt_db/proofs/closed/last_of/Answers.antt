-- One generation more is kept.
use Rattle.std.proofs.Common.{◌≡◌, slice_get, Some, sym, ap, ◌∙◌, append_assoc}
use Rattle.std.specs.Option.{option_copied}
use Rattle.tt_db.proofs.ClosedLemmas.{drop_at_item}
use Rattle.tt_db.proofs.closed.last_of.Goals as goal

pub loop-position-preserved : goal.loop-position-preserved
loop-position-preserved c =
    let closed = c.args.closed.now in
    let k = c.loop-position.position in
    let at : slice_get closed k ≡ Some c.in-Some.generation.now = sym c.get.ensures ∙ ap option_copied c.in-Some.is in
    let rest = drop_at_item closed k c.in-Some.generation.now at in
    let kept = c.in_ok-generation.ensures in
    let pushed = c.in_ok-push.ensures.ok in
    c.loop-position.invariant ∙ rw (pushed, kept, rest, append_assoc)
