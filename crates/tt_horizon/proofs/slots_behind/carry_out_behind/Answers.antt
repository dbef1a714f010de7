-- Each slot has a worker, and one more is carried out.
use Rattle.std.proofs.Common.{◌<◌, ◌≤◌, sym, ◌∙◌, arith}
use Rattle.tt_db.specs.Database.{now_in}
use Rattle.tt_horizon.proofs.BehindLemmas.{has_worker, carried_out-next, carried_out-last}
use Rattle.tt_horizon.proofs.slots_behind.carry_out_behind.Goals.{in-Some+in_ok-action+in_ok-carry_out, in_default}
use Rattle.tt_horizon.proofs.slots_behind.carry_out_behind.Goals as goal

pub loop-before-preserved : goal.loop-before-preserved
loop-before-preserved c =
    let db = c.args.db.now in
    let before = c.loop-before.before in
    let there : before < now_in db = omega (arith, c.loop-before-test.true, c.now-before-end.ensures) in
    elim c.match-worker_of.branch [
      | in-Some+in_ok-action+in_ok-carry_out w ↦
          carried_out-next db c.loop-before.next c.match-worker_of.next before w.in-Some.worker w.in_ok-action.action there w.in-Some.ensures w.in_ok-action.ensures (w.next-is ∙ w.in_ok-carry_out.ensures)
          ∙ c.loop-before.invariant
      | in_default w ↦ absurd (has_worker db before there (sym w.in_default.is ∙ c.worker_of.ensures))
    ]

pub returns : goal.returns
returns c =
    let last : now_in c.args.db.now ≤ c.loop-before.before = omega (arith, c.loop-before-test.false, c.now-before-end.ensures) in
    carried_out-last c.args.db.now c.loop-before.next c.loop-before.before last ∙ c.loop-before.invariant
