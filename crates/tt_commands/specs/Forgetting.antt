-- A session that forgets what lies before a time.
use Rattle.std.specs.Prelude.{ℕ, ◌-◌, drop, ◌==◌, ◌&&◌, ◌||◌, nat_lt, nat_le, Bool, length, Option, None, Some, Result, Ok, Err, if◌then◌else◌}
use Rattle.tt_generations.specs.TwoGenerations.{is_repairing}
use Rattle.tt_db.specs.declared.errors.DbError.TheVariants as errors
use Rattle.tt_db.specs.declared.errors.ReadError.TheVariants as read_errors
use Rattle.tt_db.specs.Database.{now_in}
use Rattle.tt_horizon.specs.Forgetting.{ground_of, forgotten_db}
use Rattle.tt_requests.specs.declared.told.ToldTime.{ToldTime}
use Rattle.tt_requests.specs.Numbers.{Numbering, number_limit, told_time, own_time, told_generation, is_forgotten_time}
use Rattle.tt_answers.specs.declared.answer.Refusal.{Refusal}
use Rattle.tt_answers.specs.declared.answer.Refusal.TheVariants as refusals
use Rattle.tt_answers.specs.declared.answer.Answer.TheVariants as answers
use Rattle.tt_commands.specs.Session.{OpenSession, Forgetting, state_in}
use Rattle.tt_commands.specs.Changes.{forgotten_by}
use Rattle.tt_commands.specs.Answers.{Answered}
use Rattle.tt_commands.specs.Repairing.{status_of}

-- how a session tells its numbers from then on
abbrev pub numbering_behind : OpenSession → ToldTime → ℕ → Numbering
numbering_behind session time size =
    record { horizon = time.number; ground_slots = size; generations = (told_generation session.numbering (state_in session).generation).number }

-- what becomes of a session that forgets what lies before a time
abbrev pub forgetting_of : OpenSession → ToldTime → Forgetting
forgetting_of session time =
    let own = own_time session.numbering time in
    let size = length (ground_of session.database own) in
    record {
      db = forgotten_db session.database own;
      time = own;
      ground_slots = size;
      numbering = numbering_behind session time size;
      stamps = drop (own - session.numbering.ground_slots) session.stamps;
    }

-- why a session doesn't forget, memory aside
abbrev pub forget_refusal : OpenSession → ToldTime → Option Refusal
forget_refusal session time =
    let now = now_in session.database in
    if is_repairing (state_in session).phase then Some (refusals.Event errors.Repairing) else (
    if nat_lt (told_time session.numbering now).number time.number then Some (refusals.Read (read_errors.Later now)) else (
    if is_forgotten_time session.numbering time then Some refusals.Forgotten else (
    if nat_le number_limit time.number || nat_le number_limit (told_generation session.numbering (state_in session).generation).number
    then Some (refusals.Event (errors.Full number_limit)) else None)))

-- whether nothing is left to forget: the horizon stays, and so does the number of entries
abbrev pub forgets_nothing : OpenSession → Forgetting → Bool
forgets_nothing session f = (length f.db.history == length session.database.history) && (f.numbering.horizon == session.numbering.horizon)

-- the session goes on behind a time, and tells how it stands. Where nothing is left to forget, it stays as it is
abbrev pub forgotten_answer : OpenSession → Forgetting → Answered
forgotten_answer session f =
    if forgets_nothing session f then record { answer = answers.Standing (status_of session.database); session = session }
    else record { answer = answers.Standing (status_of f.db); session = forgotten_by session f }

-- a session forgets what lies before a time, unless that is refused
abbrev pub unless_forget_refused : Option Refusal → Answered → Result Answered Refusal
unless_forget_refused None answered = Ok answered
unless_forget_refused (Some refusal) answered = Err refusal

abbrev pub forget : OpenSession → ToldTime → Result Answered Refusal
forget session time =
    unless_forget_refused (forget_refusal session time) (forgotten_answer session (forgetting_of session time))
