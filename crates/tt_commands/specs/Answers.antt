-- An answer of an open session, and what changes with it.
use Rattle.std.specs.Prelude.{◌≡◌, Result, Ok, Err}
use Rattle.tt_answers.specs.declared.answer.Answer.{Answer}
use Rattle.tt_answers.specs.declared.answer.Refusal.{Refusal}
use Rattle.tt_commands.specs.declared.response.Response.{Response}
use Rattle.tt_commands.specs.declared.failure.Failure.{Failure}
use Rattle.tt_commands.specs.Session.{OpenSession}
use Rattle.tt_commands.specs.Changes.{with_change}
use Rattle.tt_commands.specs.Failures.{FailsWith}

-- an answer, and the session after it
pub record Answered : Type 0 where
  pub answer : Answer
  pub session : OpenSession

-- the answer of a request that is carried out, and the session after it
abbrev pub answered_by : OpenSession → Response → Answered
answered_by session response = record { answer = response.answer; session = with_change session response.change }

-- a request becomes this: it is carried out and leaves this session, or refused. Without memory nothing is said of it
abbrev pub Becomes : OpenSession → Result Response Failure → Result Answered Refusal → Type 0
Becomes session (Ok response) expected = expected ≡ Ok (answered_by session response)
Becomes session (Err failure) expected = FailsWith failure expected
