-- the map has the replacements of the edits from a place on
use Rattle.std.proofs.Common.{◌≤◌, length, drop}
use Rattle.tt_generations.specs.EditsByNumber.{HasEdits}
use Rattle.tt_generations.proofs.edits.replacements_of.Given as goal

abbrev pub invariant-loop-left : goal.invariant-loop-left
invariant-loop-left l = record {
  within : l.left ≤ length l.edits;
  edits : HasEdits l.replacements (drop l.left l.edits);
}

abbrev pub decreases-loop-left : goal.decreases-loop-left
decreases-loop-left l = l.left
