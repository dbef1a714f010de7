-- The repair that a request asks about: the one under way, or one that closed a generation.
use Rattle.std.specs.Prelude.{ℕ, ◌+◌, ◌-◌, ◌==◌, ◌||◌, is_some, is_none, find, Option, None, Some, Result, Ok, Err, if◌then◌else◌}
use Rattle.std.specs.List.{range_with_len}
use Rattle.tt_causes.specs.Causes.{Cause}
use Rattle.tt_generations.specs.TwoGenerations.{is_repairing, done_of}
use Rattle.tt_db.specs.declared.errors.ReadError.TheVariants as read_errors
use Rattle.tt_db.specs.State.{slots_in}
use Rattle.tt_db.specs.Database.{Database, state_of}
use Rattle.tt_db.specs.Causes.{cause_of, cause_in_of}
use Rattle.tt_requests.specs.declared.told.ToldGeneration.{ToldGeneration}
use Rattle.tt_requests.specs.Numbers.{own_generation}
use Rattle.tt_answers.specs.declared.answer.Refusal.{Refusal}
use Rattle.tt_answers.specs.declared.answer.Refusal.TheVariants as refusals
use Rattle.tt_answers.specs.declared.answer.Answer.{Answer}
use Rattle.tt_commands.specs.declared.asked_repair.AskedRepair.{AskedRepair}
use Rattle.tt_commands.specs.declared.asked_repair.AskedRepair.TheVariants.{UnderWay, Closing}
use Rattle.tt_commands.specs.Session.{OpenSession, state_in}
use Rattle.tt_commands.specs.Answers.{Answered}
use Rattle.tt_commands.specs.Reading.{last_time_in}
use Rattle.tt_commands.specs.ToldRequests.{no_generation}

-- the repair that closed a generation of the database, which isn't the current one and is kept
abbrev pub closing : OpenSession → ℕ → Result AskedRepair Refusal
closing session number =
    let S = state_in session in
    if (number == S.generation) || is_none (slots_in S number) then Err (no_generation session) else Ok (Closing number)

-- the same of a generation, if it can be one of the database
abbrev pub closing_in : OpenSession → Option ℕ → Result AskedRepair Refusal
closing_in session None = Err (no_generation session)
closing_in session (Some number) = closing session number

-- the repair that closed a generation as it is told; the one under way where none is told
abbrev pub asked_repair : OpenSession → Option ToldGeneration → Result AskedRepair Refusal
asked_repair session None = if is_repairing (state_in session).phase then Ok UnderWay else Err (refusals.Read read_errors.NotRepairing)
asked_repair session (Some generation) = closing_in session (own_generation session.numbering generation)

-- how many slots a repair has done: one that closed a generation did all of its slots
abbrev pub done_by : Database → AskedRepair → ℕ
done_by db UnderWay = done_of (state_of db).phase
done_by db (Closing number) = last_time_in (state_of db) number

-- why a repair re-executed a slot, if it did
abbrev pub cause_by : Database → AskedRepair → ℕ → Option Cause
cause_by db UnderWay slot = cause_of db slot
cause_by db (Closing number) slot = cause_in_of db number slot

-- the first slot behind one that a repair re-executed
abbrev pub next_redone_by : Database → AskedRepair → ℕ → Option ℕ
next_redone_by db repair before = find (λ slot. is_some (cause_by db repair slot)) (range_with_len (before + 1) (done_by db repair - before))

-- the session stays, and tells what is asked about something, unless that isn't there
abbrev pub answer_of : {X : Type 0} → OpenSession → (X → Answer) → Result X Refusal → Result Answered Refusal
answer_of session answer (Ok asked) = Ok (record { answer = answer asked; session = session })
answer_of session answer (Err refusal) = Err refusal
