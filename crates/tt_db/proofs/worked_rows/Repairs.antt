-- Histories with repairs, computed.
use Rattle.std.proofs.Common.{◌≡◌, ℕ, pos, true, false, List, [], ◌∷◌, ◌++◌, map, None, Some, Ok, Err, refl}
use Rattle.tt_values.specs.declared.comparison.Comparison.TheVariants.{AtLeast}
use Rattle.tt_values.specs.declared.statement.Write.{Write}
use Rattle.tt_values.specs.declared.statement.Change.TheVariants.{Set}
use Rattle.tt_values.specs.declared.statement.Select.{Select}
use Rattle.tt_values.specs.declared.value.Value.TheVariants as values
use Rattle.tt_values.specs.declared.reply.Reply.TheVariants.{Inserted, Updated, Rows}
use Rattle.tt_values.specs.declared.checking.CheckError.TheVariants as faults
use Rattle.tt_values.specs.Action.{action_of, whole_of}
use Rattle.tt_values.specs.RowWrites.{row_writes}
use Rattle.tt_values.proofs.worked_rows.Accounts.{tables, ann, bob, eve, sold, account, id_is, of_id, of_owner, owner_to, balance_to, balance_by, balance_less, balance_compares, insert, update, delete, select}
use Rattle.tt_repair_laws.specs.declared.edit.Edit.{Edit}
use Rattle.tt_repair_laws.specs.declared.edit.Edit.TheVariants.{Cancel, Replace}
use Rattle.tt_repair_laws.specs.Due.{dirty_after, reexecuted_count}
use Rattle.tt_generations.specs.KeptSlots.{slot_at}
use Rattle.tt_generations.specs.TwoGenerations.{progress_of}
use Rattle.tt_db.specs.declared.limits.Limits.{Limits}
use Rattle.tt_db.specs.declared.event.Event.{Event}
use Rattle.tt_db.specs.declared.event.Event.TheVariants as events
use Rattle.tt_db.specs.declared.outcome.Outcome.TheVariants.{Begun, Stepped, Switched}
use Rattle.tt_db.specs.declared.errors.DbError.TheVariants as errors
use Rattle.tt_db.specs.declared.errors.ReadError.TheVariants as read_errors
use Rattle.tt_db.specs.Limits.{max_limits}
use Rattle.tt_db.specs.State.{State, after, now_of, current_at, refusal, outcome_of}
use Rattle.tt_db.specs.Database.{generations_in}
use Rattle.tt_db.specs.RightAnswers.{right_select, right_select_at, right_preview}

-- the state after events
abbrev after_events : List Event → State
after_events history = after max_limits (map (λ event. record { worker = 1; event = event }) history)

-- an action of one write
abbrev write : Write → Event
write w = events.Write (action_of (w ∷ []))

abbrev step : Event
step = events.Step

abbrev all : Select
all = select []

-- a repair of no edits in an empty database
empty_repair :
    (refusal tables max_limits (after_events []) (events.Begin []) ≡ None)
    × (outcome_of tables (after_events []) (events.Begin []) ≡ Begun)
    × (refusal tables max_limits (after_events (events.Begin [] ∷ [])) events.Switch ≡ None)
    × (outcome_of tables (after_events (events.Begin [] ∷ [])) events.Switch ≡ Switched 1 0 0)
unfolding row_writes reexecuted_count
empty_repair = (refl, refl, refl, refl)

-- an insert is cancelled, and a later one of its key is no duplicate any more
abbrev duplicate_repaired : List Event
duplicate_repaired = write (insert 1 ann 10) ∷ write (insert 1 bob 20) ∷ events.Begin (Cancel 1 ∷ []) ∷ step ∷ step ∷ []

cancelled_insert_before_duplicate :
    let S = after_events (duplicate_repaired ++ events.Switch ∷ []) in
    (outcome_of tables (after_events duplicate_repaired) events.Switch ≡ Switched 1 2 2)
    × (right_select_at tables S all 2 ≡ Ok (Rows (account 1 bob 20 ∷ [])))
    × (slot_at S.slots 1 ≡ Some (record { action = None; replies = None }))
    × (slot_at S.slots 2 ≡ Some (record { action = Some (action_of (insert 1 bob 20 ∷ [])); replies = Some (Inserted ∷ []) }))
unfolding row_writes dirty_after reexecuted_count
cancelled_insert_before_duplicate = (refl, refl, refl, refl)

-- a row was moved to another owner, and the move is cancelled
abbrev move_repaired : List Event
move_repaired =
    write (insert 1 ann 10)
    ∷ write (update (owner_to eve) (of_id 1))
    ∷ write (update (balance_to 0) (of_owner eve))
    ∷ write (update (balance_by 7) (of_owner ann))
    ∷ events.Begin (Cancel 2 ∷ [])
    ∷ step ∷ step ∷ step ∷ step ∷ []

cancelled_move :
    let S = after_events (move_repaired ++ events.Switch ∷ []) in
    (outcome_of tables (after_events move_repaired) events.Switch ≡ Switched 1 4 3)
    × (right_select_at tables S all 4 ≡ Ok (Rows (account 1 ann 17 ∷ [])))
    × (slot_at S.slots 3 ≡ Some (record { action = Some (action_of (update (balance_to 0) (of_owner eve) ∷ [])); replies = Some (Updated 0 ∷ []) }))
    × (slot_at S.slots 4 ≡ Some (record { action = Some (action_of (update (balance_by 7) (of_owner ann) ∷ [])); replies = Some (Updated 1 ∷ []) }))
unfolding row_writes dirty_after reexecuted_count
cancelled_move = (refl, refl, refl, refl)

-- there is enough for one of two sales. The first is cancelled, so the second is carried out
abbrev sale : ℕ → Event
sale id = events.Write (whole_of (update (balance_less 8) (id_is 1 ∷ balance_compares AtLeast 8 ∷ []) ∷ insert id sold 8 ∷ []))

abbrev sale_repaired : List Event
sale_repaired = write (insert 1 ann 10) ∷ sale 2 ∷ sale 3 ∷ events.Begin (Cancel 2 ∷ []) ∷ step ∷ step ∷ step ∷ []

cancelled_sale :
    let S = after_events (sale_repaired ++ events.Switch ∷ []) in
    (outcome_of tables (after_events sale_repaired) events.Switch ≡ Switched 1 3 2)
    × (right_select_at tables (after_events sale_repaired) all 3 ≡ Ok (Rows (account 1 ann 2 ∷ account 2 sold 8 ∷ [])))
    × (right_select_at tables S all 3 ≡ Ok (Rows (account 1 ann 2 ∷ account 3 sold 8 ∷ [])))
unfolding row_writes dirty_after reexecuted_count
cancelled_sale = (refl, refl, refl)

-- five slots, of which the fourth is replaced
abbrev five_slots : List Event
five_slots =
    write (insert 1 ann 5)
    ∷ write (insert 2 ann 6)
    ∷ write (insert 3 bob 7)
    ∷ write (delete (of_owner ann))
    ∷ write (update (balance_by 1) [])
    ∷ []

abbrev delete_of_bob : Event
delete_of_bob = events.Begin (Replace 4 (action_of (delete (of_owner bob) ∷ [])) ∷ [])

-- after four steps, and an insert meanwhile
abbrev four_steps : List Event
four_steps = five_slots ++ delete_of_bob ∷ step ∷ step ∷ step ∷ step ∷ write (insert 4 bob 1) ∷ []

replaced_delete :
    let S = after_events four_steps in
    (right_select tables (current_at S (now_of S)) (select (of_id 3)) ≡ Ok (Rows (account 3 bob 8 ∷ [])))
    × (right_preview tables S all ≡ Ok (Rows (account 1 ann 5 ∷ account 2 ann 6 ∷ [])))
    × (progress_of (generations_in tables S) ≡ Some (record { done = 4; left = 2; rerun = 1 }))
    × (outcome_of tables S step ≡ Stepped 5 true)
    × (outcome_of tables (after_events (four_steps ++ step ∷ [])) step ≡ Stepped 6 false)
    × (outcome_of tables (after_events (four_steps ++ step ∷ step ∷ [])) events.Switch ≡ Switched 1 6 2)
    × (right_select_at tables (after_events (four_steps ++ step ∷ step ∷ events.Switch ∷ [])) all 6
    ≡ Ok (Rows (account 1 ann 6 ∷ account 2 ann 7 ∷ account 4 bob 1 ∷ [])))
unfolding row_writes dirty_after reexecuted_count
replaced_delete = (refl, refl, refl, refl, refl, refl, refl)

-- a write to a split row meanwhile is in the current generation alone, until the repair does its slot
abbrev update_repaired : List Event
update_repaired =
    write (insert 1 ann 10)
    ∷ write (update (balance_to 0) (of_id 1))
    ∷ events.Begin (Cancel 2 ∷ [])
    ∷ step ∷ step
    ∷ write (update (balance_by 1) (of_id 1))
    ∷ []

write_to_split_row :
    let S = after_events update_repaired in
    (right_select_at tables S all 3 ≡ Ok (Rows (account 1 ann 1 ∷ [])))
    × (right_preview tables S all ≡ Ok (Rows (account 1 ann 10 ∷ [])))
    × (outcome_of tables (after_events (update_repaired ++ step ∷ [])) events.Switch ≡ Switched 1 3 2)
    × (right_select_at tables (after_events (update_repaired ++ step ∷ events.Switch ∷ [])) all 3 ≡ Ok (Rows (account 1 ann 11 ∷ [])))
unfolding row_writes dirty_after reexecuted_count
write_to_split_row = (refl, refl, refl, refl)

-- a further write meanwhile
abbrev moved_meanwhile : List Event
moved_meanwhile = update_repaired ++ write (update (owner_to eve) (of_id 1)) ∷ step ∷ step ∷ []

further_write :
    (outcome_of tables (after_events moved_meanwhile) events.Switch ≡ Switched 1 4 3)
    × (right_select_at tables (after_events (moved_meanwhile ++ events.Switch ∷ [])) all 4 ≡ Ok (Rows (account 1 eve 11 ∷ [])))
unfolding row_writes dirty_after reexecuted_count
further_write = (refl, refl)

-- a repair that is given up leaves the current answers, and another one may begin
given_up :
    let S = after_events (five_slots ++ delete_of_bob ∷ step ∷ step ∷ step ∷ step ∷ events.Abort ∷ []) in
    (right_select_at tables S all 5 ≡ Ok (Rows (account 3 bob 8 ∷ [])))
    × (right_preview tables S all ≡ Err read_errors.NotRepairing)
    × (progress_of (generations_in tables S) ≡ None)
    × (S.generation ≡ 0)
    × (refusal tables max_limits S delete_of_bob ≡ None)
unfolding row_writes
given_up = (refl, refl, refl, refl, refl)

-- a row that was deleted before the cancelled slot stays deleted
abbrev deleted_repaired : List Event
deleted_repaired = write (insert 1 ann 10) ∷ write (delete (of_id 1)) ∷ write (insert 1 bob 5) ∷ events.Begin (Cancel 3 ∷ []) ∷ step ∷ step ∷ step ∷ []

deleted_row_stays_deleted :
    let S = after_events (deleted_repaired ++ events.Switch ∷ []) in
    (outcome_of tables (after_events deleted_repaired) events.Switch ≡ Switched 1 3 1)
    × (right_select_at tables S all 1 ≡ Ok (Rows (account 1 ann 10 ∷ [])))
    × (right_select_at tables S all 2 ≡ Ok (Rows []))
    × (right_select_at tables S all 3 ≡ Ok (Rows []))
unfolding row_writes dirty_after reexecuted_count
deleted_row_stays_deleted = (refl, refl, refl, refl)

-- edits of slots that aren't there, and of a slot twice. The former are looked for first
refused_edits :
    let S = after_events five_slots in
    (refusal tables max_limits S (events.Begin (Cancel 0 ∷ [])) ≡ Some (errors.NoSlot 0))
    × (refusal tables max_limits S (events.Begin (Cancel 9 ∷ [])) ≡ Some (errors.NoSlot 9))
    × (refusal tables max_limits S (events.Begin (Cancel 3 ∷ Cancel 3 ∷ [])) ≡ Some (errors.EditTwice 3))
    × (refusal tables max_limits S (events.Begin (Cancel 3 ∷ Cancel 3 ∷ Cancel 9 ∷ [])) ≡ Some (errors.NoSlot 9))
refused_edits = (refl, refl, refl, refl)

-- the order of refusals
abbrev one_slot : List Event
one_slot = write (insert 1 ann 10) ∷ []

abbrev begun : List Event
begun = one_slot ++ events.Begin [] ∷ []

abbrev bad_edit : Edit
bad_edit = Replace 9 (action_of (update (Set 0 (values.Int (pos 2))) [] ∷ []))

order_of_refusals :
    (refusal tables max_limits (after_events one_slot) step ≡ Some errors.NotRepairing)
    × (refusal tables max_limits (after_events one_slot) (events.Begin []) ≡ None)
    × (refusal tables max_limits (after_events begun) (events.Begin (Cancel 9 ∷ [])) ≡ Some errors.Repairing)
    × (refusal tables max_limits (after_events begun) (events.Begin (bad_edit ∷ [])) ≡ Some (errors.Statement faults.SetsKey))
    × (refusal tables max_limits (after_events begun) events.Switch ≡ Some (errors.NotCaughtUp 1))
    × (outcome_of tables (after_events begun) step ≡ Stepped 1 false)
    × (refusal tables max_limits (after_events (begun ++ step ∷ [])) step ≡ Some errors.NothingLeft)
unfolding row_writes dirty_after
order_of_refusals = (refl, refl, refl, refl, refl, refl, refl)

-- limits of edits, and of entries in the midst of a repair
limits_in_a_repair :
    let few_edits : Limits = record max_limits { edits = 0 } in
    let few_events : Limits = record max_limits { events = 3 } in
    let S = after_events (one_slot ++ events.Begin [] ∷ step ∷ []) in
    (refusal tables few_edits (after_events one_slot) (events.Begin (Cancel 1 ∷ [])) ≡ Some errors.TooManyEdits)
    × (refusal tables few_edits (after_events one_slot) (events.Begin []) ≡ None)
    × (refusal tables few_events S events.Switch ≡ Some (errors.Full 3))
    × (refusal tables few_events S events.Abort ≡ Some (errors.Full 3))
    × (right_preview tables S all ≡ Ok (Rows (account 1 ann 10 ∷ [])))
unfolding row_writes
limits_in_a_repair = (refl, refl, refl, refl, refl)
