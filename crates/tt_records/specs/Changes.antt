-- The changed replies of calls: each record whose call is answered differently now, or will be after the repair under way.
use Rattle.std.specs.Prelude.{ℕ, Bool, false, nat_lt, List, [], ◌∷◌, Option, None, Some, option_map, option_and_then, if◌then◌else◌}
use Rattle.std.specs.List.{flat_map}
use Rattle.tt_values.specs.declared.statement.Select.{Select}
use Rattle.tt_values.specs.declared.reply.Reply.{Reply}
use Rattle.tt_values.specs.declared.checking.CheckError.{CheckError}
use Rattle.tt_values.specs.Tables.{Tables}
use Rattle.tt_values.specs.Check.{select_fault}
use Rattle.tt_values.specs.Effect.{answer_of}
use Rattle.tt_values.specs.Same.{are_same_by, is_same_reply}
use Rattle.tt_generations.specs.declared.slot.Slot.{Slot}
use Rattle.tt_generations.specs.KeptSlots.{slot_at}
use Rattle.tt_generations.specs.TwoGenerations.{done_of, next_slot_at}
use Rattle.tt_db.specs.State.{State, now_of, current_at, next_at}
use Rattle.tt_records.specs.declared.record.Record.{Record}
use Rattle.tt_records.specs.declared.record.What.{What}
use Rattle.tt_records.specs.declared.record.What.TheVariants.{Write, Read, Preview, Later, NotRepairing}
use Rattle.tt_records.specs.declared.changed.Changed.{Changed}
use Rattle.tt_records.specs.declared.changed.After.{After}
use Rattle.tt_records.specs.declared.changed.After.TheVariants.{Cancelled, Replies}

-- the replies that a record has. A read has one
abbrev pub replies_before : What → List Reply
replies_before (Write slot replies) = replies
replies_before (Read select time reply) = reply ∷ []
replies_before (Preview done reply) = reply ∷ []
replies_before (Later now) = []
replies_before NotRepairing = []

-- what a slot answers
abbrev pub replies_or_cancelled : Option (List Reply) → After
replies_or_cancelled None = Cancelled
replies_or_cancelled (Some replies) = Replies replies

abbrev pub after_of_slot : Slot → After
after_of_slot s = replies_or_cancelled s.replies

-- a select's answer now, at its time. None if it has a fault, or the time is later than now
abbrev pub answer_now : State → Select → ℕ → Option CheckError → Option After
answer_now S q time (Some fault) = None
answer_now S q time None = if nat_lt (now_of S) time then None else Some (Replies (answer_of q (current_at S time) ∷ []))

-- what the call of a record is answered now, if it can be: a write by its slot, a read by its select at its time
abbrev pub answered_now : Tables → State → What → Option After
answered_now tables S (Write slot replies) = option_map after_of_slot (slot_at S.slots slot)
answered_now tables S (Read select time reply) = answer_now S select time (select_fault tables select)
answered_now tables S (Preview done reply) = None
answered_now tables S (Later now) = None
answered_now tables S NotRepairing = None

-- whether an answer is the same replies as before
abbrev pub is_still : List Reply → After → Bool
is_still before Cancelled = false
is_still before (Replies replies) = are_same_by is_same_reply before replies

-- a changed reply, if the answer differs from the replies before
abbrev pub change_to : ℕ → List Reply → After → Option Changed
change_to call before after = if is_still before after then None else Some (record { call = call; before = before; after = after })

abbrev pub change_of : Tables → State → Record → Option Changed
change_of tables S r = option_and_then (change_to r.call (replies_before r.what)) (answered_now tables S r.what)

abbrev pub as_list : Option Changed → List Changed
as_list None = []
as_list (Some change) = change ∷ []

-- the changed replies, in the order of the records
abbrev pub changes_of : Tables → State → List Record → List Changed
changes_of tables S records = flat_map (λ r. as_list (change_of tables S r)) records

-- a select's answer in the next generation, at its time. None if it has a fault, or the repair hasn't done the slots up to the time
abbrev pub answer_next : State → Select → ℕ → Option CheckError → Option After
answer_next S q time (Some fault) = None
answer_next S q time None = if nat_lt (done_of S.phase) time then None else Some (Replies (answer_of q (next_at S time) ∷ []))

-- what the call of a record is answered in the next generation, as far as the repair is: a write by its slot as edited, a read by its select at its time
abbrev pub answered_next : Tables → State → What → Option After
answered_next tables S (Write slot replies) = option_map after_of_slot (next_slot_at S.phase S.slots slot)
answered_next tables S (Read select time reply) = answer_next S select time (select_fault tables select)
answered_next tables S (Preview done reply) = None
answered_next tables S (Later now) = None
answered_next tables S NotRepairing = None

abbrev pub next_change_of : Tables → State → Record → Option Changed
next_change_of tables S r = option_and_then (change_to r.call (replies_before r.what)) (answered_next tables S r.what)

-- the replies that the repair under way will have changed, as far as it is, in the order of the records
abbrev pub next_changes_of : Tables → State → List Record → List Changed
next_changes_of tables S records = flat_map (λ r. as_list (next_change_of tables S r)) records
