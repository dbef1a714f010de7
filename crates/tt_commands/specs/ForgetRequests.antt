-- A request to forget what lies before a time, and what becomes of it.
use Rattle.std.specs.Prelude.{◌≡◌, false, Option, None, Some, Result, Ok}
use Rattle.tt_db.specs.Database.{now_in}
use Rattle.tt_answers.specs.declared.answer.Answer.{Answer}
use Rattle.tt_answers.specs.declared.answer.Refusal.{Refusal}
use Rattle.tt_requests.specs.declared.asked.ForgetRequest.{ForgetRequest}
use Rattle.tt_commands.specs.Session.{OpenSession, Forgetting}
use Rattle.tt_commands.specs.Answers.{Answered}
use Rattle.tt_commands.specs.Changes.{forgotten_by}
use Rattle.tt_commands.specs.Commands.{moved_to, unless_moved}
use Rattle.tt_commands.specs.Forgetting.{forget, forgets_nothing}

-- what becomes of a request to forget
abbrev pub outcome_of_forget : OpenSession → ForgetRequest → Result Answered Refusal
outcome_of_forget session f = unless_moved (moved_to session.numbering (now_in session.database) f.expected) (forget session f.time)

-- a request to forget is answered, and the session stays as it is; or it goes on with this forgetting
abbrev pub AnswersForget : OpenSession → Result Answered Refusal → Answer → Option Forgetting → Type 0
AnswersForget session outcome answer None = outcome ≡ Ok (record { answer = answer; session = session })
AnswersForget session outcome answer (Some f) =
    (outcome ≡ Ok (record { answer = answer; session = forgotten_by session f })) × (forgets_nothing session f ≡ false)
