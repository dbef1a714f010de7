-- A line without a JSON value.
use Rattle.tt_requests.specs.LineValue.{value_of_line}
use Rattle.tt_requests.proofs.SessionLineLemmas.{faulty-line}
use Rattle.tt_requests.proofs.session_line.SessionLine.from_line_with.Goals as goal

pub returns-in-Err : goal.returns-in-Err
returns-in-Err c =
    faulty-line c.args.version c.args.catalog.now (value_of_line c.args.line.now) c.in-Err.fault c.in_document.result c.faulty.result
    c.in-Err.ensures.gives c.in_document.ensures c.faulty.ensures.told c.faulty.ensures.known
