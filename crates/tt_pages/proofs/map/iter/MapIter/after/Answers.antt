use Rattle.tt_pages.specs.MapTree.{entries_of_root}
use Rattle.tt_pages.proofs.MapWalkLemmas.{unread-after}
use Rattle.tt_pages.proofs.map.iter.MapIter.after.Goals as goal

pub returns : goal.returns
returns g c = unread-after (entries_of_root c.args.root.now) c.requires c.args.key.now c.page_after.result.now c.page_after.ensures
