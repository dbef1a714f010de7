-- What selects and previews answer in a session, and which of them are recorded.
use Rattle.std.specs.Prelude.{ℕ, Bool, ◌&&◌, true, false, is_none, [], length, Option, None, Some, unwrap_or, Result, Ok, Err}
use Rattle.tt_values.specs.declared.statement.Select.{Select}
use Rattle.tt_values.specs.declared.reply.Reply.{Reply}
use Rattle.tt_generations.specs.TwoGenerations.{done_of}
use Rattle.tt_db.specs.declared.errors.ReadError.{ReadError}
use Rattle.tt_db.specs.State.{State, slots_in}
use Rattle.tt_db.specs.Database.{right_answer_in, right_preview_of}
use Rattle.tt_records.specs.declared.record.Record.{Record}
use Rattle.tt_records.specs.declared.record.What.{What}
use Rattle.tt_records.specs.declared.record.What.TheVariants as whats
use Rattle.tt_requests.specs.declared.request.Page.{Page}
use Rattle.tt_commands.specs.Session.{OpenSession, state_in, with_latest_if}
use Rattle.tt_answers.specs.declared.answer.Refusal.{Refusal}
use Rattle.tt_answers.specs.declared.answer.Refusal.TheVariants as refusals
use Rattle.tt_answers.specs.declared.answer.Answer.TheVariants as answers
use Rattle.tt_commands.specs.Answers.{Answered}
use Rattle.tt_commands.specs.Pages.{page_of_reply}

-- the last time of a generation, and 0 of one that can't be read
abbrev pub last_time_in : State → ℕ → ℕ
last_time_in S number = length (unwrap_or (slots_in S number) [])

-- whether a select asks for all its rows in the current generation
abbrev pub asks_for_all : Option ℕ → Page → Bool
asks_for_all generation page = is_none generation && is_none page.after && is_none page.most

-- the record of the last call, if it is kept
abbrev pub latest_if : Bool → OpenSession → ℕ → What → Option Record
latest_if true session worker what = Some (record { call = session.calls; worker = worker; what = what })
latest_if false session worker what = None

-- the session with the record of a select, if it asked for all its rows in the current generation
abbrev pub with_read : OpenSession → ℕ → Select → Option ℕ → Page → ℕ → Reply → OpenSession
with_read session worker select generation page time reply =
    with_latest_if session (latest_if (asks_for_all generation page) session worker (whats.Read select time reply))

-- a select is answered by a page of its reply
abbrev pub selected_by : OpenSession → ℕ → Select → Option ℕ → Page → ℕ → Result Reply ReadError → Result Answered Refusal
selected_by session worker select generation page time (Err error) = Err (refusals.Read error)
selected_by session worker select generation page time (Ok reply) = Ok (record {
  answer = answers.Selected time (page_of_reply page reply);
  session = with_read session worker select generation page time reply;
})

-- a select of a generation, which is the current one if none is given, at a time, which is the generation's last one if none is given
abbrev pub read : OpenSession → ℕ → Select → Option ℕ → Option ℕ → Page → Result Answered Refusal
read session worker select generation at page =
    let number = unwrap_or generation (state_in session).generation in
    let time = unwrap_or at (last_time_in (state_in session) number) in
    selected_by session worker select generation page time (right_answer_in session.database number select time)

-- a preview is answered by a page of its reply
abbrev pub previewed_by : OpenSession → Page → Result Reply ReadError → Result Answered Refusal
previewed_by session page (Err error) = Err (refusals.Read error)
previewed_by session page (Ok reply) = Ok (record {
  answer = answers.Previewed (done_of (state_in session).phase) (page_of_reply page reply);
  session = session;
})

-- a select of the next generation, at the last slot that the repair has done
abbrev pub preview : OpenSession → Select → Page → Result Answered Refusal
preview session select page = previewed_by session page (right_preview_of session.database select)
