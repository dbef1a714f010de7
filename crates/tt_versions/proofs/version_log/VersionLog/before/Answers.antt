use Rattle.std.proofs.Common.{arith, subst}
use Rattle.std.proofs.lemmas.Grind.{common_steps}
use Rattle.tt_versions.specs.Versions.{StartsRise}
use Rattle.tt_versions.proofs.VersionsLemmas.{StartsRise-front}
use Rattle.tt_versions.proofs.version_log.VersionLog.before.Goals as goal

pub invariant_of-result : goal.invariant_of-result
invariant_of-result c =
    subst StartsRise (grind (arith, common_steps)) (StartsRise-front c.args.time c.self.inside.versions c.self.invariant)
