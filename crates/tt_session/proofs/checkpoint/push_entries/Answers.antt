-- One entry more is added.
use Rattle.std.proofs.Common.{◌+◌, ◌++◌, drop, ap, ◌∙◌}
use Rattle.std.specs.Option.{option_copied}
use Rattle.tt_session.proofs.RecoveryLemmas.{next-added}
use Rattle.tt_session.proofs.checkpoint.push_entries.Goals as goal

pub loop-place-preserved : goal.loop-place-preserved
loop-place-preserved c =
    let l = c.loop-place in
    let h = c.args.db.now.history in
    ap (λ xs. xs ++ drop (l.place + 1) h) c.in_ok-push_copy.ensures.ok
    ∙ next-added l.entries.items _ h l.place (option_copied c.entry.result) c.in-Some.entry.now c.entry.ensures (ap option_copied c.in-Some.is) l.invariant
