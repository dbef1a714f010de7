-- The line is pending, and then those that are pending are written.
use Rattle.std.proofs.Common.{[], ◌∷◌, ◌++◌, sym, subst}
use Rattle.tt_durable.specs.Renewing.{IsWriting}
use Rattle.tt_commands.proofs.ResultLemmas.{and_result}
use Rattle.tt_durable.proofs.RenewingLemmas.{writing-push, fails-then}
use Rattle.tt_durable.proofs.log_renewal.push_line.Goals as goal

pub returns-then-byte_len-lt-MANY_BYTES-clause-ok : goal.returns-then-byte_len-lt-MANY_BYTES-clause-ok
returns-then-byte_len-lt-MANY_BYTES-clause-ok g c = λ told before all so_far.
    let D = g.D.Device in
    let of = D in
    writing-push of before c.args.log.now c.args.lines.now c.push.new.self all c.args.line.now so_far c.in-Ok.ensures.line c.in-Ok.ensures.ok

pub returns-clause-ok : goal.returns-clause-ok
returns-clause-ok g c =
    let D = g.D.Device in
    let of = D in
    and_result c.write_pending.result c.write_pending.ensures.ok c.write_pending.ensures.lines
    (λ wrote none told before all so_far.
    subst (λ ls. IsWriting of before c.write_pending.new.log ls (all ++ c.args.line.now ∷ [])) (sym none)
    (wrote told before (all ++ c.args.line.now ∷ [])
    (writing-push of before c.args.log.now c.args.lines.now c.push.new.self all c.args.line.now so_far c.in-Ok.ensures.line c.in-Ok.ensures.ok)))

pub returns-clause-err : goal.returns-clause-err
returns-clause-err g c =
    let D = g.D.Device in
    let of = D in
    fails-then _ _ c.write_pending.result c.write_pending.ensures.err
    (λ fault failed told before all so_far.
    failed told before (all ++ c.args.line.now ∷ [])
    (writing-push of before c.args.log.now c.args.lines.now c.push.new.self all c.args.line.now so_far c.in-Ok.ensures.line c.in-Ok.ensures.ok))
