-- The write waits, or completes an action.
use Rattle.std.proofs.Common.{◌≡◌, length, refl, arith}
use Rattle.tt_horizon.proofs.LayingLemmas.{AddsWrites-wait, AddsWrites-full}
use Rattle.tt_horizon.proofs.ground.Ground.add.Goals as goal

pub returns-in_ok-carry_out_waiting : goal.returns-in_ok-carry_out_waiting
returns-in_ok-carry_out_waiting c =
    let made = c.in_ok-carry_out_waiting.ensures in
    let full : length c.push.new.self.items ≡ 16 = omega (arith, c.len.ensures, c.if-len-eq-GROUND_WRITES.true, c.push.new.self.ok.0) in
    AddsWrites-full c.args.self.now c.carry_out_waiting.new.self c.args.write c.push.new.self.items c.in_ok-push.ensures.items full made.db made.ground made.waiting

pub returns-else-len-eq-GROUND_WRITES : goal.returns-else-len-eq-GROUND_WRITES
returns-else-len-eq-GROUND_WRITES c =
    AddsWrites-wait c.args.self.now (record c.args.self.now { waiting = c.push.new.self }) c.args.write c.in_ok-push.ensures.items refl
    (λ full. c.if-len-eq-GROUND_WRITES.false (omega (arith, c.len.ensures, full, c.push.new.self.ok.0)))
