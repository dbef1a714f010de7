-- The page that is found is one of the rows that match of whatever list has the rows of the side.
use Rattle.tt_versions.proofs.PageLemmas.{lists_matching_page-of}
use Rattle.tt_versions.proofs.table.Table.page_matching.Goals as goal

pub returns-clause-content : goal.returns-clause-content
returns-clause-content c = lists_matching_page-of _ _ _ _ _ _ _ c.in_ok-page.ensures
