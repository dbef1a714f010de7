-- An opening keeps no more records than openings may.
use Rattle.tt_requests.specs.LineValue.{value_of_line}
use Rattle.tt_session.proofs.OpeningLemmas.{is_opening}
use Rattle.tt_session.proofs.reopening.reopen.Goals as goal

pub answer_opening-requires : goal.answer_opening-requires
answer_opening-requires c = (is_opening (value_of_line c.args.line.now) c.in-Ok.opening c.in-Ok.ensures).records
