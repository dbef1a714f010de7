-- What a select of a worker is answered.
use Rattle.std.specs.Prelude.{Result}
use Rattle.tt_db.specs.Database.{right_answer_in}
use Rattle.tt_requests.specs.declared.request.Page.{Page}
use Rattle.tt_answers.specs.declared.answer.Refusal.{Refusal}
use Rattle.tt_commands.specs.declared.reading.Reading.{Reading}
use Rattle.tt_commands.specs.Session.{OpenSession}
use Rattle.tt_commands.specs.Answers.{Answered}
use Rattle.tt_commands.specs.Reading.{selected_by}

-- a select of a worker is answered by a page of its reply
abbrev pub answer_to : OpenSession → Reading → Page → Result Answered Refusal
answer_to session reading page =
    selected_by session reading.worker reading.select reading.generation page reading.time
    (right_answer_in session.database reading.number reading.select reading.time)
