-- Before the session is open, nothing is answered together.
use Rattle.std.proofs.Common.{subst, sym, ap}
use Rattle.tt_session.specs.declared.together.Extent.{Extent}
use Rattle.tt_session.specs.Together.{AnswersFront}
use Rattle.tt_session.proofs.TogetherLemmas.{front-nil}
use Rattle.tt_session.proofs.session.Session.answer_lines.Goals as goal

pub returns-in-NotOpen : goal.returns-in-NotOpen
returns-in-NotOpen c =
    let session = c.args.self.now in
    let out = c.args.out.now.items in
    let lines = c.args.workspace.now.lines in
    subst (λ n. AnswersFront c.args.bytes.now n session session out out lines lines) (sym (ap (λ (b : Extent). b.taken) c.of.ensures)) (front-nil c.args.bytes.now session out lines)
