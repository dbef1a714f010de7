-- the slots done so far, and whether the last of them was due
use Rattle.std.proofs.Common.{◌≡◌, ◌-◌, ◌≤◌}
use Rattle.tt_generations.specs.Runs.{after_steps, is_last_due}
use Rattle.tt_generations.proofs.generations.Generations.steps.Given as goal

abbrev pub invariant-loop-left : goal.invariant-loop-left
invariant-loop-left l = record {
  few : l.left ≤ l.count;
  state : l.self ≡ after_steps (l.count - l.left) l.fn.self;
  due : l.is_due ≡ is_last_due (l.count - l.left) l.fn.self;
}

abbrev pub decreases-loop-left : goal.decreases-loop-left
decreases-loop-left l = l.left
