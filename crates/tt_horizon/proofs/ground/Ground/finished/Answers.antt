-- The action of the writes that wait is of the ground, too.
use Rattle.std.proofs.Common.{sym, subst}
use Rattle.tt_horizon.specs.GroundEntries.{IsGround}
use Rattle.tt_horizon.proofs.LayingLemmas.{IsGround-push}
use Rattle.tt_horizon.proofs.ground.Ground.finished.Goals as goal

pub returns-clause-ground : goal.returns-clause-ground
returns-clause-ground c = λ ground.
    let made = c.in_ok-carry_out_waiting.ensures in
    subst IsGround (sym made.db) (IsGround-push c.args.self.db c.args.self.waiting.items ground made.ground)
