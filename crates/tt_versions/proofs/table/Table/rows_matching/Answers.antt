-- The rows that are found are those that match of whatever list has the rows of the side.
use Rattle.tt_versions.proofs.MatchingLemmas.{lists_matching_rows-of}
use Rattle.tt_versions.proofs.table.Table.rows_matching.Goals as goal

pub returns-clause-content : goal.returns-clause-content
returns-clause-content c = lists_matching_rows-of _ _ _ _ c.in_ok-rows.ensures
