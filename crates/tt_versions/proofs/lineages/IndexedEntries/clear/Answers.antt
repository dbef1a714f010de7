-- Without entries nothing is split or to be listed.
use Rattle.tt_versions.proofs.UnsplitLemmas.{HasSplitKeys-empty}
use Rattle.tt_versions.proofs.IndexedLemmas.{IsIndexed-empty}
use Rattle.tt_versions.proofs.lineages.IndexedEntries.clear.Goals as goal

pub returns : goal.returns
returns c = rw (c.new.ensures, c.new-2.ensures) (record { split = HasSplitKeys-empty; indexed = IsIndexed-empty c.clear.new.self c.args.self.now.latest c.clear.ensures })
