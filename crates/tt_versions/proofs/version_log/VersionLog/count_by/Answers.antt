-- At the end the two places meet.
use Rattle.std.proofs.Common.{◌≡◌, arith, drop, subst}
use Rattle.tt_versions.specs.Versions.{NoneHasStarted}
use Rattle.tt_versions.proofs.VersionsLemmas.{started_by-front, started_by-length}
use Rattle.tt_versions.proofs.version_log.VersionLog.count_by.Goals as goal

pub returns-clause-front : goal.returns-clause-front
returns-clause-front c =
    let last = c.loop-low.invariant in
    let met : c.loop-low.high ≡ c.loop-low.low = omega (arith, last.ordered, c.loop-low-test.false) in
    started_by-front c.args.self.now c.loop-low.low c.args.time last.front (subst (λ n. NoneHasStarted c.args.time (drop n c.args.self.now)) met last.rest)

pub returns-clause-count : goal.returns-clause-count
returns-clause-count c =
    let last = c.loop-low.invariant in
    started_by-length c.args.self.now c.loop-low.low c.args.time (omega (arith, last.ordered, last.within)) (returns-clause-front c)
