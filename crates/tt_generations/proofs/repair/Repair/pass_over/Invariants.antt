-- the slots that are passed over so far, and those that are left
use Rattle.std.proofs.Common.{◌≡◌, ◌+◌, ◌-◌, ◌≤◌, length}
use Rattle.std.specs.List.{All}
use Rattle.tt_generations.specs.Limits.{max_slots}
use Rattle.tt_generations.specs.Repair.{HasKeysIfAny, undue_front}
use Rattle.tt_generations.proofs.repair.Repair.pass_over.Given as goal

abbrev pub invariant-loop-passed : goal.invariant-loop-passed
invariant-loop-passed l = record {
  done : l.self ≡ record l.fn.self { done = l.fn.self.done + l.passed };
  count : undue_front l.most l.fn.self l.fn.slots ≡ l.passed + undue_front (l.most - l.passed) l.self l.slots;
  room : l.self.done + length l.slots ≤ max_slots;
  keyed : All (λ k. HasKeysIfAny k.slot.action) l.slots;
}
