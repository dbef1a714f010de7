-- There is room for the steps of the repair, so that it is tried where its beginning isn't refused.
use Rattle.std.proofs.Common.{◌≡◌, None, OnOk, IfOk, IfErr, sym, subst, ◌∙◌}
use Rattle.tt_db.specs.declared.event.Event.TheVariants as events
use Rattle.tt_db.specs.Database.{Database, now_in}
use Rattle.tt_db.specs.Trials.{tried_database}
use Rattle.tt_commands.specs.Failures.{IsRefusal}
use Rattle.tt_commands.specs.Room.{refusal_in_session}
use Rattle.tt_commands.proofs.TrialLemmas.{trial-accepted, trial-refused, trial-repairing}
use Rattle.tt_commands.proofs.trial.tried.Goals as goal

pub returns-clause-state : goal.returns-clause-state
returns-clause-state c = subst (λ (d : Database). IfOk c.tried.result (λ t. t ≡ tried_database d c.args.edits)) c.db-db.ensures.value c.tried.ensures.state

pub returns-clause-accepted : goal.returns-clause-accepted
returns-clause-accepted c =
    subst (λ (d : Database). OnOk c.tried.result (refusal_in_session d (events.Begin c.args.edits) ≡ None)) c.db-db.ensures.value
    (trial-accepted c.db-db.result.now c.args.edits c.tried.result (sym (c.beginning_leaves_no_room.ensures c.args.edits) ∙ c.if-beginning_leaves_no_room.false) c.tried.ensures.accepted)

pub returns-clause-refused : goal.returns-clause-refused
returns-clause-refused c =
    subst (λ (d : Database). IfErr c.tried.result (λ e. IsRefusal e (refusal_in_session d (events.Begin c.args.edits)))) c.db-db.ensures.value
    (trial-refused c.db-db.result.now c.args.edits c.tried.result (sym (c.beginning_leaves_no_room.ensures c.args.edits) ∙ c.if-beginning_leaves_no_room.false) c.tried.ensures.refused)

pub returns-clause-repairing : goal.returns-clause-repairing
returns-clause-repairing c = trial-repairing (now_in c.db-db.result.now) c.args.edits c.tried.result c.tried.ensures.done

pub refusal_without_room-requires : goal.refusal_without_room-requires
refusal_without_room-requires c = sym (c.beginning_leaves_no_room.ensures c.args.edits) ∙ c.if-beginning_leaves_no_room.true
