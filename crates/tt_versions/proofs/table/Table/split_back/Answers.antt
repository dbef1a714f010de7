-- The shared table is this one.
use Rattle.std.proofs.Common.{w64, ℤ, subst}
use Rattle.std.proofs.lemmas.Int.{to_z-of_z}
use Rattle.tt_versions.specs.Sides.{LineagesByKey, next_of}
use Rattle.tt_versions.specs.RowsByWrites.{DropsRowWrites}
use Rattle.tt_versions.proofs.table.Table.split_back.Goals as goal

pub returns-clause-next_drops : goal.returns-clause-next_drops
returns-clause-next_drops c =
    subst (λ (t : LineagesByKey). DropsRowWrites (next_of t) (next_of c.split_row_back.new.self) c.args.key c.args.time) c.in_ok-table.ensures
    (subst (λ (k : ℤ). DropsRowWrites (next_of c.in_ok-table.table) (next_of c.split_row_back.new.self) k c.args.time) (to_z-of_z w64 c.args.key c.ranges.key) c.in_ok-split_row_back.ensures.next_drops)
