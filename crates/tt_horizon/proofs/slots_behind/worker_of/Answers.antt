-- The entry at the place of a slot is by its worker.
use Rattle.std.proofs.Common.{option_map, ap, ◌∙◌}
use Rattle.tt_db.specs.declared.event.Entry.{Entry}
use Rattle.tt_horizon.proofs.WorkerLemmas.{worker-nth, worker-none}
use Rattle.tt_horizon.proofs.slots_behind.worker_of.Goals as goal

pub returns-in_err-place : goal.returns-in_err-place
returns-in_err-place c = c.from_residual.ensures ∙ worker-none c.args.db.now.history c.args.number c.in_err-place.ensures

pub returns-in_err-entry : goal.returns-in_err-entry
returns-in_err-entry c =
    c.from_residual-in_err-entry.ensures
    ∙ ap (option_map (λ (e : Entry). e.worker)) c.in_err-entry.ensures
    ∙ worker-nth c.args.db.now.history c.args.number c.in_ok-place.place c.in_ok-place.ensures

pub returns : goal.returns
returns c =
    ap (option_map (λ (e : Entry). e.worker)) c.in_ok-entry.ensures
    ∙ worker-nth c.args.db.now.history c.args.number c.in_ok-place.place c.in_ok-place.ensures
