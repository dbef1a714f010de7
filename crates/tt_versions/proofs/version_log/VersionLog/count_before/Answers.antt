use Rattle.std.proofs.Common.{◌≡◌, arith, ap, ◌∙◌}
use Rattle.tt_versions.specs.Versions.{started_before}
use Rattle.tt_versions.proofs.VersionsLemmas.{started_before-zero}
use Rattle.tt_versions.proofs.version_log.VersionLog.count_before.Goals as goal

pub returns-in-None : goal.returns-in-None
returns-in-None c =
    let zero : c.args.time ≡ 0 = omega (arith, c.in-None.ensures) in
    ap (λ t. started_before t c.args.self.now) zero ∙ started_before-zero c.args.self.now
