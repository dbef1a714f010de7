-- What repairs would come to by the history of a database, computed.
use Rattle.std.proofs.Common.{◌≡◌, ℕ, List, [], ◌∷◌, ◌++◌, map, length, None, Some, refl}
use Rattle.tt_values.specs.Action.{action_of}
use Rattle.tt_values.specs.RowWrites.{row_writes}
use Rattle.tt_values.proofs.worked_rows.Accounts.{tables, change_of_owner}
use Rattle.tt_repair_laws.specs.declared.edit.Edit.{Edit}
use Rattle.tt_repair_laws.specs.declared.edit.Edit.TheVariants.{Cancel}
use Rattle.tt_repair_laws.specs.Due.{dirty_after, reexecuted_count}
use Rattle.tt_generations.specs.TwoGenerations.{Repairing}
use Rattle.tt_db.specs.declared.limits.Limits.{Limits}
use Rattle.tt_db.specs.declared.event.Event.{Event}
use Rattle.tt_db.specs.declared.event.Event.TheVariants as events
use Rattle.tt_db.specs.declared.errors.DbError.TheVariants as errors
use Rattle.tt_db.specs.Limits.{max_limits}
use Rattle.tt_db.specs.Database.{Database, state_of, repair_of}
use Rattle.tt_db.specs.Trials.{tried_database, tried_refusal}

-- a database of four slots, whose history has room for this many entries
abbrev with_room : ℕ → Database
with_room entries = record {
  catalog = tables;
  limits = record max_limits { events = entries };
  history = map (λ w. record { worker = 1; event = events.Write (action_of (w ∷ [])) }) change_of_owner;
}

abbrev cancel : ℕ → List Edit
cancel t = Cancel t ∷ []

-- its second slot is cancelled: all four slots are done, and three of them were re-executed
tried :
    let trial = tried_database (with_room 9) (cancel 2) in
    ((state_of trial).phase ≡ Repairing (cancel 2) 4)
    × (repair_of trial ≡ Some (record { done = 4; left = 0; rerun = 3 }))
    × (length trial.history ≡ 9)
    × (tried_refusal (with_room 9) (cancel 2) ≡ None)
unfolding row_writes dirty_after reexecuted_count
tried = (refl, refl, refl, refl)

-- there must be room for the beginning and for all steps, and the edited slot must be there
refused :
    (tried_refusal (with_room 8) (cancel 2) ≡ Some (errors.Full 8))
    × (tried_refusal (with_room 4) (cancel 2) ≡ Some (errors.Full 4))
    × (tried_refusal (with_room 4) (cancel 5) ≡ Some (errors.NoSlot 5))
unfolding row_writes
refused = (refl, refl, refl)
