-- What is read is within its bounds.
use Rattle.tt_requests.specs.LineValue.{value_of_line}
use Rattle.tt_requests.proofs.LogOpeningLemmas.{gives_bounds}
use Rattle.tt_requests.proofs.log_opening.LogOpening.from_line.Goals as goal

pub returns-clause-bounds : goal.returns-clause-bounds
returns-clause-bounds c = gives_bounds c.from_text.result (value_of_line c.args.line.now) c.from_text.ensures
