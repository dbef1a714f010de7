-- Histories that have forgotten what lies before a time, computed.
use Rattle.std.proofs.Common.{◌≡◌, ℕ, zero, suc, true, false, List, [], ◌∷◌, ◌++◌, Some, None, refl}
use Rattle.tt_values.specs.declared.statement.Write.{Write}
use Rattle.tt_values.specs.Action.{action_of, whole_of}
use Rattle.tt_values.specs.RowWrites.{row_writes}
use Rattle.tt_values.proofs.worked_rows.Accounts.{tables, ann, bob, eve, of_id, of_owner, balance_by, insert, update, delete}
use Rattle.tt_repair_laws.specs.declared.edit.Edit.TheVariants.{Cancel, Replace}
use Rattle.tt_db.specs.declared.event.Event.{Event}
use Rattle.tt_db.specs.declared.event.Event.TheVariants as events
use Rattle.tt_db.specs.declared.event.Entry.{Entry}
use Rattle.tt_db.specs.Limits.{max_limits}
use Rattle.tt_db.specs.Database.{Database}
use Rattle.tt_horizon.specs.declared.forgetting.ForgetError.TheVariants as errors
use Rattle.tt_horizon.specs.Forgetting.{entry_of, ground_of, forgotten_history, forget_refusal}
use Rattle.tt_horizon.specs.GroundEntries.{is_of_ground}

abbrev entry : ℕ → Event → Entry
entry worker event = record { worker = worker; event = event }

abbrev database : List Entry → Database
database history = record { catalog = tables; limits = max_limits; history = history }

-- an action of one write
abbrev write : ℕ → Write → Entry
write worker w = entry_of worker (action_of (w ∷ []))

-- four slots by two workers. A repair cancels the third and replaces the fourth
abbrev four_slots : List Entry
four_slots =
    write 1 (insert 2 bob 20)
    ∷ write 2 (insert 1 ann 10)
    ∷ write 2 (update (balance_by 5) (of_id 1))
    ∷ write 1 (delete (of_owner bob))
    ∷ []

abbrev repair : List Entry
repair =
    entry 3 (events.Begin (Cancel 3 ∷ Replace 4 (action_of (delete (of_owner ann) ∷ [])) ∷ []))
    ∷ entry 3 events.Step ∷ entry 3 events.Step ∷ entry 3 events.Step ∷ entry 3 events.Step
    ∷ []

abbrev repaired : List Entry
repaired = four_slots ++ repair ++ entry 3 events.Switch ∷ []

-- the ground has the rows by key, whatever the order of their inserts. Behind it the cancelled slot has no writes, the replaced one its new
-- action, and each its worker
forgotten_at_2 : forgotten_history (database repaired) 2
    ≡ entry_of 0 (action_of (insert 1 ann 10 ∷ insert 2 bob 20 ∷ [])) ∷ entry_of 2 (action_of []) ∷ write 1 (delete (of_owner ann)) ∷ []
unfolding row_writes
forgotten_at_2 = refl

-- nothing but the repair is forgotten at time 0, and all slots at the last one
forgotten_at_0 : forgotten_history (database repaired) 0
    ≡ write 1 (insert 2 bob 20) ∷ write 2 (insert 1 ann 10) ∷ entry_of 2 (action_of []) ∷ write 1 (delete (of_owner ann)) ∷ []
unfolding row_writes
forgotten_at_0 = refl

forgotten_at_4 : forgotten_history (database repaired) 4 ≡ write 0 (insert 2 bob 20) ∷ []
unfolding row_writes
forgotten_at_4 = refl

-- the rows of a time are those of the current generation
before_the_repair : forgotten_history (database four_slots) 3
    ≡ entry_of 0 (action_of (insert 1 ann 15 ∷ insert 2 bob 20 ∷ [])) ∷ write 1 (delete (of_owner bob)) ∷ []
unfolding row_writes
before_the_repair = refl

-- where no row is there, there is no ground
no_ground : forgotten_history (database (write 1 (insert 1 ann 10) ∷ write 1 (delete []) ∷ write 2 (insert 1 eve 5) ∷ [])) 2 ≡ write 2 (insert 1 eve 5) ∷ []
unfolding row_writes
no_ground = refl

-- seventeen rows make two actions
abbrev rows_from : ℕ → ℕ → List Write
rows_from id zero = []
rows_from id (suc n) = insert id ann 0 ∷ rows_from (suc id) n

seventeen_rows : ground_of (database (entry_of 1 (action_of (rows_from 3 10)) ∷ entry_of 1 (action_of (rows_from 13 7)) ∷ [])) 2 ≡ action_of (rows_from 3 16) ∷ action_of (rows_from 19 1) ∷ []
unfolding row_writes
seventeen_rows = refl

-- the ground isn't whole, also where the actions were that inserted its rows. A whole action behind it stays whole
abbrev whole : ℕ → List Write → Entry
whole worker ws = entry_of worker (whole_of ws)

whole_actions : forgotten_history (database (whole 1 (insert 1 ann 10 ∷ insert 2 bob 20 ∷ []) ∷ whole 2 (insert 3 eve 5 ∷ insert 1 eve 5 ∷ []) ∷ [])) 1
    ≡ entry_of 0 (action_of (insert 1 ann 10 ∷ insert 2 bob 20 ∷ [])) ∷ whole 2 (insert 3 eve 5 ∷ insert 1 eve 5 ∷ []) ∷ []
unfolding row_writes
whole_actions = refl

-- an action of the ground isn't whole
of_ground :
    (is_of_ground (database []) (action_of (insert 1 ann 10 ∷ [])) ≡ true)
    × (is_of_ground (database []) (whole_of (insert 1 ann 10 ∷ [])) ≡ false)
unfolding row_writes
of_ground = (refl, refl)

-- refusals: a repair comes before a later time
refusals :
    (forget_refusal (database (four_slots ++ repair)) 5 ≡ Some errors.Repairing)
    × (forget_refusal (database repaired) 5 ≡ Some (errors.Later 4))
    × (forget_refusal (database repaired) 4 ≡ None)
refusals = (refl, refl, refl)
