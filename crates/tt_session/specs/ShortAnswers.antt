-- Answers that are written without taking memory.
use Rattle.std.specs.Prelude.{ℕ, List, []}
use Rattle.tt_answers.specs.declared.answer.Answer.TheVariants as answers
use Rattle.tt_answers.specs.declared.answer.Refusal.TheVariants as refusals
use Rattle.tt_answers.specs.RefusalText.{too_long}
use Rattle.tt_answers.specs.AnswerText.{opening_text, call_text}
use Rattle.tt_requests.specs.Numbers.{nothing_forgotten}
use Rattle.tt_session.specs.declared.short_answer.ShortAnswer.{ShortAnswer}
use Rattle.tt_session.specs.declared.short_answer.ShortAnswer.TheVariants as shorts

-- the line of a short answer, which names no table and tells no slot
abbrev pub short_text : ShortAnswer → List ℕ
short_text shorts.OpeningOutOfMemory = opening_text nothing_forgotten answers.OutOfMemory
short_text shorts.OpeningTooLong = opening_text nothing_forgotten (answers.Faulty too_long)
short_text (shorts.CallOutOfMemory call) = call_text [] nothing_forgotten call answers.OutOfMemory
short_text (shorts.CallWithoutLog call) = call_text [] nothing_forgotten call (answers.Refused refusals.Log)
short_text (shorts.CallTooLong call) = call_text [] nothing_forgotten call (answers.Faulty too_long)
