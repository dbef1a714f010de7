use Rattle.tt_pages.proofs.MapEntriesLemmas.{find-place}
use Rattle.tt_pages.proofs.map.page.get_in.Goals as goal

pub returns-in-Ok : goal.returns-in-Ok
returns-in-Ok g c = find-place c.args.key.now c.args.page.now c.index-page-at.result c.in-Ok.at c.requires c.in-Ok.ensures.present
