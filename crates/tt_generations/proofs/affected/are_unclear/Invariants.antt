-- whether one of the writes that are left isn't clear decides it for all
use Rattle.std.proofs.Common.{◌≡◌, not, drop}
use Rattle.std.specs.List.{list_any}
use Rattle.tt_repair_laws.specs.Due.{is_write_clear}
use Rattle.tt_generations.proofs.affected.are_unclear.Given as goal

abbrev pub invariant-loop-write : goal.invariant-loop-write
invariant-loop-write l =
    list_any (λ w. not (is_write_clear l.dirty.catalog l.dirty.dirty w)) (drop l.write-index l.writes)
    ≡ list_any (λ w. not (is_write_clear l.dirty.catalog l.dirty.dirty w)) l.writes
