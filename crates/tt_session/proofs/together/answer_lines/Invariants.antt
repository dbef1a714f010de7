-- the lines so far are answered
use Rattle.std.proofs.Common.{◌-◌, length}
use Rattle.tt_session.specs.declared.session.Session.TheVariants.{Open}
use Rattle.tt_session.specs.Together.{AnswersFront}
use Rattle.tt_session.proofs.together.answer_lines.Given as goal

abbrev pub invariant-loop-taken : goal.invariant-loop-taken
invariant-loop-taken l = AnswersFront l.bytes l.taken (Open l.initial.session) (Open l.session) l.initial.out.items l.out.items l.initial.workspace.lines l.workspace.lines

abbrev pub decreases-loop-taken : goal.decreases-loop-taken
decreases-loop-taken l = length l.bytes - l.taken
