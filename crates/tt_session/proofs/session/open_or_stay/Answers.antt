-- An opening keeps no more than openings may, and the session that it opens tells how it stands.
use Rattle.std.proofs.Common.{◌++◌, ap, ◌∙◌}
use Rattle.tt_requests.specs.LineValue.{value_of_line}
use Rattle.tt_requests.specs.Opening.{opening_of}
use Rattle.tt_session.proofs.OpeningLemmas.{is_opening, opened-text}
use Rattle.tt_session.proofs.session.open_or_stay.Goals as goal

pub new-session-requires-clause-keep : goal.new-session-requires-clause-keep
new-session-requires-clause-keep c = (is_opening (value_of_line c.args.line.now) c.in-Ok.opening c.in-Ok.ensures).keep

pub new-session-requires-clause-records : goal.new-session-requires-clause-records
new-session-requires-clause-records c = (is_opening (value_of_line c.args.line.now) c.in-Ok.opening c.in-Ok.ensures).records

pub returns-in_ok-push_opening_answer-in-Ok-clause-text : goal.returns-in_ok-push_opening_answer-in-Ok-clause-text
returns-in_ok-push_opening_answer-in-Ok-clause-text c =
    c.in_ok-push_opening_answer-in-Ok.ensures.text
    ∙ ap (λ t. c.args.out.now.items ++ t) (opened-text (opening_of (value_of_line c.args.line.now)) c.in-Ok.opening c.new-session.result c.db.result.now c.numbering.result c.status_of-status.result
    c.in-Ok.ensures c.new-session.ensures c.db.ensures.value c.numbering.ensures c.status_of-status.ensures)
