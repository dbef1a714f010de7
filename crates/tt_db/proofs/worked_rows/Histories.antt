-- Histories of accounts, computed.
use Rattle.std.proofs.Common.{◌≡◌, ℕ, pos, List, [], ◌∷◌, ◌++◌, map, None, Some, Result, Ok, Err, replicate, refl}
use Rattle.tt_values.specs.declared.row.Row.{Row}
use Rattle.tt_values.specs.declared.statement.Change.TheVariants.{Set}
use Rattle.tt_values.specs.declared.statement.Write.{Write}
use Rattle.tt_values.specs.declared.statement.Write.TheVariants.{Insert}
use Rattle.tt_values.specs.declared.statement.Select.{Select}
use Rattle.tt_values.specs.declared.value.Value.TheVariants as values
use Rattle.tt_values.specs.declared.reply.Reply.TheVariants.{Inserted, Duplicate, Updated, Deleted, Rows}
use Rattle.tt_values.specs.declared.action.Action.{Action}
use Rattle.tt_values.specs.declared.checking.CheckError.TheVariants as faults
use Rattle.tt_values.specs.Tables.{Tables}
use Rattle.tt_values.specs.Row.{first_int}
use Rattle.tt_values.specs.Action.{action_of, whole_of}
use Rattle.tt_values.specs.RowWrites.{row_writes}
use Rattle.tt_values.specs.Content.{row_at}
use Rattle.tt_values.proofs.worked_rows.Accounts.{tables, ann, bob, zed, min_int, account, account_of, narrow_account, of_id, of_owner, balance_to, balance_by, insert, update, delete, select, two_inserts_of_a_key, insert_and_update, insert_after_delete}
use Rattle.tt_db.specs.declared.limits.Limits.{Limits}
use Rattle.tt_db.specs.declared.event.Event.TheVariants as events
use Rattle.tt_db.specs.declared.event.Entry.{Entry}
use Rattle.tt_db.specs.declared.outcome.Outcome.{Outcome}
use Rattle.tt_db.specs.declared.outcome.Outcome.TheVariants.{Written}
use Rattle.tt_db.specs.declared.errors.DbError.{DbError}
use Rattle.tt_db.specs.declared.errors.DbError.TheVariants as errors
use Rattle.tt_db.specs.declared.errors.ReadError.TheVariants as read_errors
use Rattle.tt_db.specs.Limits.{max_limits}
use Rattle.tt_db.specs.State.{State, after, now_of, current_at, refusal, outcome_of}
use Rattle.tt_generations.specs.KeptSlots.{slot_at}
use Rattle.tt_db.specs.Database.{nth_item}
use Rattle.tt_db.specs.RightAnswers.{right_select, right_select_at}
use Rattle.tt_db.specs.Errors.{refusal_of_error}

-- entries are applied in order after a history. An accepted one joins the history; for one that isn't, the history stays
abbrev IsRun : Tables → Limits → List Entry → List Entry → List (Result Outcome DbError) → List Entry → Type 0
IsRun tables limits before [] [] last = last ≡ before
IsRun tables limits before (e ∷ entries) (Ok outcome ∷ answers) last =
    (refusal tables limits (after limits before) e.event ≡ None) × (outcome ≡ outcome_of tables (after limits before) e.event) × IsRun tables limits (before ++ e ∷ []) entries answers last
IsRun tables limits before (e ∷ entries) (Err error ∷ answers) last =
    (refusal tables limits (after limits before) e.event ≡ refusal_of_error error) × IsRun tables limits before entries answers last
IsRun tables limits before [] (answer ∷ answers) last = ⊥
IsRun tables limits before (e ∷ entries) [] last = ⊥

-- an entry of an action
abbrev action_entry : ℕ → Action → Entry
action_entry worker action = record { worker = worker; event = events.Write action }

-- the history of actions by worker 1, and the state after it
abbrev history_of_actions : List Action → List Entry
history_of_actions actions = map (action_entry 1) actions

abbrev state_after_actions : List Action → State
state_after_actions actions = after max_limits (history_of_actions actions)

-- an action of one write; the history of such actions, and the state after it
abbrev only : Write → Action
only w = action_of (w ∷ [])

abbrev history_of : List Write → List Entry
history_of writes = history_of_actions (map only writes)

abbrev state_after : List Write → State
state_after writes = after max_limits (history_of writes)

-- the first account of Ann
abbrev ann_first : Row
ann_first = account 1 ann 10

abbrev all : Select
all = select []

-- an account without a balance
abbrev narrow : Write
narrow = Insert 0 (narrow_account 1 ann)

-- an insert on a table that does not exist
abbrev in_no_table : Write
in_no_table = Insert 1 ann_first

abbrev from_no_table : Select
from_no_table = record { table = 1; equals = [] }

-- limits of slots and entries
abbrev limits_of : ℕ → ℕ → Limits
limits_of slots events = record max_limits { slots = slots; events = events }

-- without entries a select finds no rows
empty_select : right_select_at tables (after max_limits []) all 0 ≡ Ok (Rows [])
unfolding row_writes
empty_select = refl

-- the first insert is accepted, takes slot 1 and inserts its row
first_accepted : refusal tables max_limits (after max_limits []) (events.Write (only (insert 1 ann 10))) ≡ None
first_accepted = refl

first_outcome : outcome_of tables (after max_limits []) (events.Write (only (insert 1 ann 10))) ≡ Written 1 (Inserted ∷ [])
unfolding row_writes
first_outcome = refl

-- a select by owner has the row from time 1 on
select_by_owner :
    (right_select_at tables (state_after (insert 1 ann 10 ∷ [])) (select (of_owner ann)) 0 ≡ Ok (Rows []))
    × (right_select_at tables (state_after (insert 1 ann 10 ∷ [])) (select (of_owner ann)) 1 ≡ Ok (Rows (ann_first ∷ [])))
unfolding row_writes
select_by_owner = (refl, refl)

-- a select of the last content, and one of a table that does not exist
select_now :
    let S = state_after (insert 1 ann 10 ∷ []) in
    (right_select tables (current_at S (now_of S)) (select (of_owner ann)) ≡ Ok (Rows (ann_first ∷ [])))
    × (right_select tables (current_at S (now_of S)) from_no_table ≡ Err (read_errors.Statement faults.NoTable))
unfolding row_writes
select_now = (refl, refl)

-- a second insert of the key takes a slot, answers Duplicate and changes no row
second_outcome : outcome_of tables (state_after (insert 1 ann 10 ∷ [])) (events.Write (only (insert 1 bob 20))) ≡ Written 2 (Duplicate ∷ [])
unfolding row_writes
second_outcome = refl

two_slots : now_of (state_after two_inserts_of_a_key) ≡ 2
two_slots = refl

duplicate_select : right_select_at tables (state_after two_inserts_of_a_key) all 2 ≡ Ok (Rows (ann_first ∷ []))
unfolding row_writes
duplicate_select = refl

second_slot : slot_at (state_after two_inserts_of_a_key).slots 2 ≡ Some (record { action = Some (only (insert 1 bob 20)); replies = Some (Duplicate ∷ []) })
unfolding row_writes
second_slot = refl

-- places of the history count from 1
second_entry : nth_item (history_of two_inserts_of_a_key) 2 ≡ Some (action_entry 1 (only (insert 1 bob 20)))
second_entry = refl

no_entry_at_0 : nth_item (history_of two_inserts_of_a_key) 0 ≡ None
no_entry_at_0 = refl

-- rows are answered by rising key, whatever the order of the inserts
abbrev of_min_id : Row
of_min_id = account_of min_int ann (pos 0)

rising_keys : right_select_at tables (state_after (insert 2 bob 20 ∷ insert 1 ann 10 ∷ Insert 0 of_min_id ∷ [])) all 3 ≡ Ok (Rows (of_min_id ∷ ann_first ∷ account 2 bob 20 ∷ []))
unfolding row_writes
rising_keys = refl

-- refusals: full of slots, full of entries, full from the beginning
full_of_slots : refusal tables (limits_of 2 4000000) (state_after two_inserts_of_a_key) (events.Write (only (insert 3 ann 10))) ≡ Some (errors.Full 2)
full_of_slots = refl

full_of_entries : refusal tables (limits_of 2 1) (state_after (insert 1 ann 10 ∷ [])) (events.Write (only (insert 2 bob 20))) ≡ Some (errors.Full 1)
full_of_entries = refl

full_at_once : refusal tables (limits_of 0 4000000) (after max_limits []) (events.Write (only (insert 1 ann 10))) ≡ Some (errors.Full 0)
full_at_once = refl

-- a fault of the statement comes before a full database
width_first : refusal tables (limits_of 0 0) (after max_limits []) (events.Write (only narrow)) ≡ Some (errors.Statement faults.WrongWidth)
width_first = refl

no_table_first : refusal tables (limits_of 0 0) (after max_limits []) (events.Write (only in_no_table)) ≡ Some (errors.Statement faults.NoTable)
no_table_first = refl

key_change_first : refusal tables (limits_of 0 0) (after max_limits []) (events.Write (only (update (Set 0 (values.Int (pos 2))) []))) ≡ Some (errors.Statement faults.SetsKey)
key_change_first = refl

-- a run of four entries over two slots: accepted, a fault, a duplicate, and full. The two that are accepted are its history
run_answers : IsRun tables (limits_of 2 4000000) [] (history_of (insert 1 ann 10 ∷ narrow ∷ insert 1 bob 20 ∷ insert 2 bob 20 ∷ []))
    (Ok (Written 1 (Inserted ∷ [])) ∷ Err (errors.Statement faults.WrongWidth) ∷ Ok (Written 2 (Duplicate ∷ [])) ∷ Err (errors.Full 2) ∷ []) (history_of two_inserts_of_a_key)
unfolding row_writes
run_answers = (refl, refl, (refl, (refl, refl, (refl, refl))))

-- point-in-time reads up to the second slot, and later ones
past_reads :
    (right_select_at tables (state_after insert_and_update) all 0 ≡ Ok (Rows []))
    × (right_select_at tables (state_after insert_and_update) all 1 ≡ Ok (Rows (ann_first ∷ [])))
    × (right_select_at tables (state_after insert_and_update) all 2 ≡ Ok (Rows (account 1 ann 0 ∷ [])))
    × (right_select_at tables (state_after insert_and_update) all 3 ≡ Err (read_errors.Later 2))
    × (right_select_at tables (state_after insert_and_update) all 18446744073709551615 ≡ Err (read_errors.Later 2))
unfolding row_writes
past_reads = (refl, refl, refl, refl, refl)

-- a fault of the select comes before a later time
no_table_before_later : right_select_at tables (state_after insert_and_update) from_no_table 3 ≡ Err (read_errors.Statement faults.NoTable)
unfolding row_writes
no_table_before_later = refl

-- outcomes of an update without matching rows and of a delete, and the row after an addition
update_outcome : outcome_of tables (state_after (insert 1 ann 10 ∷ [])) (events.Write (only (update (balance_to 0) (of_owner zed)))) ≡ Written 2 (Updated 0 ∷ [])
unfolding row_writes
update_outcome = refl

row_after_addition : right_select_at tables (state_after (insert 1 ann 10 ∷ update (balance_by 5) [] ∷ [])) all 2 ≡ Ok (Rows (account 1 ann 15 ∷ []))
unfolding row_writes
row_after_addition = refl

delete_outcome : outcome_of tables (state_after (insert 2 bob 20 ∷ insert 1 ann 10 ∷ [])) (events.Write (only (delete []))) ≡ Written 3 (Deleted 2 ∷ [])
unfolding row_writes
delete_outcome = refl

-- a deleted key can be inserted again
reads_after_delete :
    (right_select_at tables (state_after insert_after_delete) all 1 ≡ Ok (Rows (ann_first ∷ [])))
    × (right_select_at tables (state_after insert_after_delete) all 2 ≡ Ok (Rows []))
    × (right_select_at tables (state_after insert_after_delete) all 3 ≡ Ok (Rows (account 1 bob 5 ∷ [])))
unfolding row_writes
reads_after_delete = (refl, refl, refl)

-- an updated row is stored under its key, with the key as its first value
updated_row :
    (row_at (current_at (state_after insert_and_update) 2 0) (pos 1) ≡ Some (account 1 ann 0))
    × (first_int (account 1 ann 0).values ≡ Some (pos 1))
unfolding row_writes
updated_row = (refl, refl)

-- an action of three writes takes one slot. Each write is answered on the rows that the ones before it left
abbrev insert_sum_insert : Action
insert_sum_insert = action_of (insert 1 ann 10 ∷ update (balance_by 5) (of_id 1) ∷ insert 1 bob 1 ∷ [])

action_accepted : refusal tables max_limits (after max_limits []) (events.Write insert_sum_insert) ≡ None
action_accepted = refl

action_outcome : outcome_of tables (after max_limits []) (events.Write insert_sum_insert) ≡ Written 1 (Inserted ∷ Updated 1 ∷ Duplicate ∷ [])
unfolding row_writes
action_outcome = refl

action_takes_one_slot :
    (now_of (state_after_actions (insert_sum_insert ∷ [])) ≡ 1)
    × ((state_after_actions (insert_sum_insert ∷ [])).events ≡ 1)
    × (slot_at (state_after_actions (insert_sum_insert ∷ [])).slots 1 ≡ Some (record { action = Some insert_sum_insert; replies = Some (Inserted ∷ Updated 1 ∷ Duplicate ∷ []) }))
unfolding row_writes
action_takes_one_slot = (refl, refl, refl)

-- no time shows the rows between its writes
reads_around_an_action :
    (right_select_at tables (state_after_actions (insert_sum_insert ∷ [])) all 0 ≡ Ok (Rows []))
    × (right_select_at tables (state_after_actions (insert_sum_insert ∷ [])) all 1 ≡ Ok (Rows (account 1 ann 15 ∷ [])))
unfolding row_writes
reads_around_an_action = (refl, refl)

-- an action without writes takes a slot too
empty_action :
    (refusal tables max_limits (after max_limits []) (events.Write (action_of [])) ≡ None)
    × (outcome_of tables (after max_limits []) (events.Write (action_of [])) ≡ Written 1 [])
    × (slot_at (state_after_actions (action_of [] ∷ [])).slots 1 ≡ Some (record { action = Some (action_of []); replies = Some [] }))
unfolding row_writes
empty_action = (refl, refl, refl)

-- a row that an action inserts and deletes is at no time
abbrev insert_delete : Action
insert_delete = action_of (insert 1 ann 1 ∷ delete (of_id 1) ∷ [])

insert_and_delete :
    (outcome_of tables (after max_limits []) (events.Write insert_delete) ≡ Written 1 (Inserted ∷ Deleted 1 ∷ []))
    × (right_select_at tables (state_after_actions (insert_delete ∷ [])) all 1 ≡ Ok (Rows []))
unfolding row_writes
insert_and_delete = (refl, refl)

-- a whole action takes a slot also where it writes nothing. Its writes up to the first without an effect are answered
abbrev insert_twice_insert : Action
insert_twice_insert = whole_of (insert 1 ann 1 ∷ insert 1 bob 2 ∷ insert 2 bob 3 ∷ [])

undone_action :
    (refusal tables max_limits (after max_limits []) (events.Write insert_twice_insert) ≡ None)
    × (outcome_of tables (after max_limits []) (events.Write insert_twice_insert) ≡ Written 1 (Inserted ∷ Duplicate ∷ []))
    × (slot_at (state_after_actions (insert_twice_insert ∷ [])).slots 1 ≡ Some (record { action = Some insert_twice_insert; replies = Some (Inserted ∷ Duplicate ∷ []) }))
    × (right_select_at tables (state_after_actions (insert_twice_insert ∷ [])) all 1 ≡ Ok (Rows []))
unfolding row_writes
undone_action = (refl, refl, refl, refl)

-- an action is refused where a later write of it has a fault, or where it has too many. Nothing of it is carried out
abbrev insert_set_key : Action
insert_set_key = action_of (insert 1 ann 1 ∷ update (Set 0 (values.Int (pos 2))) [] ∷ [])

-- so is a whole action with a fault behind a write without an effect
abbrev undone_before_fault : Action
undone_before_fault = whole_of (update (balance_by 1) [] ∷ update (Set 0 (values.Int (pos 2))) [] ∷ [])

faulty_actions :
    (refusal tables max_limits (after max_limits []) (events.Write insert_set_key) ≡ Some (errors.Statement faults.SetsKey))
    × (refusal tables max_limits (after max_limits []) (events.Write undone_before_fault) ≡ Some (errors.Statement faults.SetsKey))
    × (refusal tables max_limits (after max_limits []) (events.Write (action_of (replicate 16 (insert 1 ann 1)))) ≡ None)
    × (refusal tables max_limits (after max_limits []) (events.Write (action_of (replicate 17 (insert 1 ann 1)))) ≡ Some (errors.Statement faults.TooManyWrites))
faulty_actions = (refl, refl, refl, refl)

run_of_faulty_actions : IsRun tables max_limits [] (history_of_actions (insert_set_key ∷ action_of (replicate 17 (insert 1 ann 1)) ∷ []))
    (Err (errors.Statement faults.SetsKey) ∷ Err (errors.Statement faults.TooManyWrites) ∷ []) []
run_of_faulty_actions = (refl, (refl, refl))
