-- There is no whole line, or the first one is passed over, or it is answered.
use Rattle.std.proofs.Common.{sym, subst, ◌∙◌}
use Rattle.tt_commands.specs.Session.{OpenSession}
use Rattle.tt_session.specs.declared.session.Session.TheVariants.{Open}
use Rattle.tt_session.specs.Together.{AnswersFront, BeginsWithLine, IsFirstLine}
use Rattle.tt_session.proofs.TogetherLemmas.{front-nil, front-passed, front-line, front-stays}
use Rattle.tt_session.proofs.together.answer_first.Goals as goal

pub returns-in-NotWhole-clause-answered : goal.returns-in-NotWhole-clause-answered
returns-in-NotWhole-clause-answered c =
    front-stays c.args.bytes.now 0 c.args.session.now c.of.new.session c.args.out.now.items c.args.workspace.now.lines c.in_ok-of.ensures.stays
    (front-nil c.args.bytes.now (Open c.args.session.now) c.args.out.now.items c.args.workspace.now.lines)

-- the line asks to forget
pub returns-then-asks_to_forget-clause-answered : goal.returns-then-asks_to_forget-clause-answered
returns-then-asks_to_forget-clause-answered c =
    front-stays c.args.bytes.now 0 c.args.session.now c.of.new.session c.args.out.now.items c.args.workspace.now.lines c.in_ok-of.ensures.stays
    (front-nil c.args.bytes.now (Open c.args.session.now) c.args.out.now.items c.args.workspace.now.lines)

pub returns-in-PassedOver-clause-answered : goal.returns-in-PassedOver-clause-answered
returns-in-PassedOver-clause-answered c =
    front-stays c.args.bytes.now c.in-PassedOver.len c.args.session.now c.of.new.session c.args.out.now.items c.args.workspace.now.lines c.in_ok-of.ensures.stays
    (front-passed c.args.bytes.now c.in-PassedOver.len (Open c.args.session.now) c.args.out.now.items c.args.workspace.now.lines
    (subst (IsFirstLine c.args.session.now.database.catalog c.args.bytes.now) c.in-PassedOver.is c.in_ok-of.ensures.line))

pub returns-in_ok-answer-in-Read-clause-answered : goal.returns-in_ok-answer-in-Read-clause-answered
returns-in_ok-answer-in-Read-clause-answered c =
    let line = c.in-Read.field-0 in
    let done = c.in_ok-answer-in-Read.ensures in
    let stays = c.in_ok-of.ensures.stays in
    let bytes = c.args.bytes.now in
    let begins = subst (IsFirstLine c.args.session.now.database.catalog bytes) c.in-Read.is c.in_ok-of.ensures.line in
    subst (λ (s : OpenSession). AnswersFront bytes line.len (Open s) (Open c.answer.new.self) c.args.out.now.items c.answer.new.out.items c.args.workspace.now.lines c.answer.new.workspace.lines) stays
    (front-line bytes line.len line.asked c.of.new.session c.answer.new.self c.args.out.now.items c.answer.new.out.items c.args.workspace.now.lines c.answer.new.workspace.lines
    (sym c.asks_to_forget.ensures ∙ c.if-asks_to_forget.false) (subst (λ (s : OpenSession). BeginsWithLine s.database.catalog bytes line.len line.asked) (sym stays) begins)
    done.text done.session done.calls done.lines)
