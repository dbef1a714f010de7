use Rattle.std.proofs.Common.{List, sym, subst}
use Rattle.std.specs.List.{All}
use Rattle.tt_versions.specs.declared.indexed_column.IndexedColumn.{IndexedColumn}
use Rattle.tt_versions.specs.Index.{HasNoKeys}
use Rattle.tt_versions.proofs.UnsplitLemmas.{HasSplitKeys-empty}
use Rattle.tt_versions.proofs.IndexedLemmas.{IsIndexed-empty}
use Rattle.tt_versions.proofs.lineages.Lineages.new.Goals as goal

pub invariant_of-result : goal.invariant_of-result
invariant_of-result c =
    rw (c.new.ensures, c.new-2.ensures) (record { split = HasSplitKeys-empty; indexed = IsIndexed-empty c.new-3.result 0 (subst (λ (cs : List IndexedColumn). All HasNoKeys cs) (sym c.new-3.ensures) c.requires) })
