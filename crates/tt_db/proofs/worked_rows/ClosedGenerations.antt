-- Reads of closed generations, computed.
use Rattle.std.proofs.Common.{◌≡◌, ℕ, List, [], ◌∷◌, ◌++◌, map, Ok, Err, refl}
use Rattle.tt_values.specs.declared.statement.Write.{Write}
use Rattle.tt_values.specs.declared.statement.Select.{Select}
use Rattle.tt_values.specs.declared.reply.Reply.{Reply}
use Rattle.tt_values.specs.declared.reply.Reply.TheVariants.{Rows}
use Rattle.tt_values.specs.declared.checking.CheckError.TheVariants as faults
use Rattle.tt_values.specs.Action.{action_of}
use Rattle.tt_values.specs.RowWrites.{row_writes}
use Rattle.tt_values.proofs.worked_rows.Accounts.{tables, ann, bob, account, of_owner, balance_to, balance_by, insert, update, delete, select}
use Rattle.tt_repair_laws.specs.declared.edit.Edit.{Edit}
use Rattle.tt_repair_laws.specs.declared.edit.Edit.TheVariants.{Replace}
use Rattle.tt_db.specs.declared.limits.Limits.{Limits}
use Rattle.tt_db.specs.declared.event.Event.{Event}
use Rattle.tt_db.specs.declared.event.Event.TheVariants as events
use Rattle.tt_db.specs.declared.errors.ReadError.TheVariants as read_errors
use Rattle.tt_db.specs.Limits.{max_limits, usual_limits}
use Rattle.tt_db.specs.State.{State, after, oldest_of}
use Rattle.tt_db.specs.RightAnswers.{right_select_in}

-- the limits with so many closed generations
abbrev keeping : ℕ → Limits
keeping keep = record max_limits { keep = keep }

-- the state after events
abbrev after_events : Limits → List Event → State
after_events limits history = after limits (map (λ event. record { worker = 1; event = event }) history)

-- an action of one write
abbrev write : Write → Event
write w = events.Write (action_of (w ∷ []))

-- a repair with these edits over five slots
abbrev repair : List Edit → List Event
repair edits = events.Begin edits ∷ events.Step ∷ events.Step ∷ events.Step ∷ events.Step ∷ events.Step ∷ events.Switch ∷ []

-- five slots, of which the fourth is replaced
abbrev repaired : List Event
repaired =
    write (insert 1 ann 5)
    ∷ write (insert 2 ann 6)
    ∷ write (insert 3 bob 7)
    ∷ write (delete (of_owner ann))
    ∷ write (update (balance_by 1) [])
    ∷ repair (Replace 4 (action_of (delete (of_owner bob) ∷ [])) ∷ [])

abbrev all : Select
all = select []

-- the rows before the repair and after it
abbrev before : Reply
before = Rows (account 3 bob 8 ∷ [])

abbrev repaired_rows : Reply
repaired_rows = Rows (account 1 ann 6 ∷ account 2 ann 7 ∷ [])

-- the generation that the repair closed stays readable, at each of its times, beside the current one
closed_reads :
    let S = after_events usual_limits repaired in
    (right_select_in tables S 0 all 3 ≡ Ok (Rows (account 1 ann 5 ∷ account 2 ann 6 ∷ account 3 bob 7 ∷ [])))
    × (right_select_in tables S 0 all 5 ≡ Ok before)
    × (right_select_in tables S 1 all 5 ≡ Ok repaired_rows)
    × (oldest_of S.closed S.generation ≡ 0)
unfolding row_writes
closed_reads = (refl, refl, refl, refl)

-- refusals: a later time, a generation that isn't there yet, and, before these, a fault of the select
refused_reads :
    let S = after_events usual_limits repaired in
    (right_select_in tables S 0 all 6 ≡ Err (read_errors.Later 5))
    × (right_select_in tables S 2 all 9 ≡ Err (read_errors.NoGeneration 0 1))
    × (right_select_in tables S 2 (record { table = 1; equals = [] }) 9 ≡ Err (read_errors.Statement faults.NoTable))
unfolding row_writes
refused_reads = (refl, refl, refl)

-- none is kept
none_kept :
    let S = after_events (keeping 0) repaired in
    (right_select_in tables S 0 all 5 ≡ Err (read_errors.NoGeneration 1 1))
    × (right_select_in tables S 1 all 5 ≡ Ok repaired_rows)
unfolding row_writes
none_kept = (refl, refl)

-- one is kept, and the second repair drops the first generation
one_kept :
    let S = after_events (keeping 1) (repaired ++ repair []) in
    (right_select_in tables S 0 all 5 ≡ Err (read_errors.NoGeneration 1 2))
    × (right_select_in tables S 1 all 5 ≡ Ok repaired_rows)
    × (right_select_in tables S 2 all 5 ≡ Ok repaired_rows)
unfolding row_writes
one_kept = (refl, refl, refl)

-- a later write leaves a closed generation
write_leaves_closed :
    let S = after_events usual_limits (repaired ++ write (update (balance_to 0) []) ∷ []) in
    (right_select_in tables S 0 all 5 ≡ Ok before)
    × (right_select_in tables S 0 all 6 ≡ Err (read_errors.Later 5))
    × (right_select_in tables S 1 all 6 ≡ Ok (Rows (account 1 ann 0 ∷ account 2 ann 0 ∷ [])))
unfolding row_writes
write_leaves_closed = (refl, refl, refl)

-- a repair that is given up closes no generation
given_up :
    let S = after_events usual_limits (repaired ++ events.Begin [] ∷ events.Step ∷ events.Abort ∷ []) in
    (oldest_of S.closed S.generation ≡ 0)
    × (right_select_in tables S 1 all 5 ≡ Ok repaired_rows)
    × (right_select_in tables S 2 all 5 ≡ Err (read_errors.NoGeneration 0 1))
unfolding row_writes
given_up = (refl, refl, refl)
