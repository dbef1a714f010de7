-- The row is that of the last version that started by the time.
use Rattle.std.proofs.Common.{arith, sym, ◌∙◌}
use Rattle.std.proofs.lemmas.Grind.{common_steps}
use Rattle.tt_versions.proofs.VersionsLemmas.{visible_row-at}
use Rattle.tt_versions.proofs.version_log.VersionLog.at.Goals as goal

pub returns-in-Some : goal.returns-in-Some
returns-in-Some c =
    let visible = visible_row-at c.args.self.now c.in_ok-position.position c.count_by.result c.args.time c.in_ok-version.version.now c.count_by.ensures.front (grind (arith, common_steps)) (grind (arith, common_steps)) in
    sym c.in-Some.is ∙ sym visible

pub returns-in-None : goal.returns-in-None
returns-in-None c =
    let visible = visible_row-at c.args.self.now c.in_ok-position.position c.count_by.result c.args.time c.in_ok-version.version.now c.count_by.ensures.front (grind (arith, common_steps)) (grind (arith, common_steps)) in
    sym c.in-None.is ∙ sym visible
