-- whether one of the writes that are left names a dirty row decides it for all
use Rattle.std.proofs.Common.{◌≡◌, drop}
use Rattle.std.specs.List.{list_any}
use Rattle.tt_repair_laws.specs.Due.{names_dirty_row}
use Rattle.tt_generations.proofs.affected.name_dirty_row.Given as goal

abbrev pub invariant-loop-write : goal.invariant-loop-write
invariant-loop-write l = list_any (names_dirty_row l.dirty.dirty) (drop l.write-index l.writes) ≡ list_any (names_dirty_row l.dirty.dirty) l.writes
