-- All steps of the repair are made.
use Rattle.std.proofs.Common.{ap, ◌∙◌}
use Rattle.tt_db.specs.Steps.{steps_made}
use Rattle.tt_db.proofs.TrialLemmas.{begin_accepted, tried-steps}
use Rattle.tt_db.proofs.database.Db.trial.Goals as goal

pub apply_shared-requires : goal.apply_shared-requires
apply_shared-requires c = begin_accepted c.args.self.now c.args.edits c.requires

pub returns : goal.returns
returns c =
    tried-steps c.args.self.now c.in_ok-trial.trial c.advance_steps.new.self c.args.edits c.in_ok-advance_steps.field-0.count
    c.requires c.in_ok-trial.ensures.state c.in_ok-advance_steps.ensures.state
    (c.in_ok-advance_steps.ensures.count ∙ ap (steps_made 0 c.in_ok-trial.trial) c.slots_left.ensures.left)
