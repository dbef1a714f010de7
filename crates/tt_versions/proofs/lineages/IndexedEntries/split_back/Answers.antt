-- The key is listed as split, and the index fits the rows still.
use Rattle.std.proofs.Common.{w64, refl, sym, subst}
use mir.Val.{to_z, of_z}
use Rattle.tt_versions.specs.Lineage.{split_back}
use Rattle.tt_versions.specs.Sides.{LineagesByKey, lineage_at}
use Rattle.tt_versions.specs.IndexedEntries.{IsConsistent}
use Rattle.tt_versions.proofs.UnsplitLemmas.{HasSplitKeys-put}
use Rattle.tt_versions.proofs.IndexedLemmas.{IsIndexed-split_back}
use Rattle.tt_versions.proofs.lineages.IndexedEntries.split_back.Goals as goal

pub returns-clause-stored : goal.returns-clause-stored
returns-clause-stored c =
    let before = c.args.self.now in
    let stored = c.requires in
    let key = to_z w64 (of_z w64 c.args.key) in
    let lineage = split_back c.args.time (lineage_at before.entries key) in
    subst (λ (t : LineagesByKey). IsConsistent (record before { entries = t; split_keys = c.mark.new.keys })) (sym c.in_ok-split_entry.ensures) (record {
      split = HasSplitKeys-put key before.split_keys c.mark.new.keys before.entries lineage refl stored.split c.in_ok-mark.ensures;
      indexed = IsIndexed-split_back key before.index before.latest c.args.time before.entries stored.indexed;
    })
