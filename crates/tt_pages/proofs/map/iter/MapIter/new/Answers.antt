use Rattle.tt_pages.specs.MapTree.{entries_of_root}
use Rattle.tt_pages.proofs.MapWalkLemmas.{unread-all}
use Rattle.tt_pages.proofs.map.iter.MapIter.new.Goals as goal

pub returns : goal.returns
returns g c = unread-all (entries_of_root c.args.root.now) c.requires c.first_page.result.now c.first_page.ensures
