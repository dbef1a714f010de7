-- none of the writes so far names a dirty row
use Rattle.std.proofs.Common.{◌≡◌, drop}
use Rattle.std.specs.List.{find}
use Rattle.tt_causes.specs.Numbers.{is_by, named_since}
use Rattle.tt_generations.proofs.causes.row_named.Given as goal

abbrev pub invariant-loop-write : goal.invariant-loop-write
invariant-loop-write l = find (λ w. is_by l.since (named_since l.dirty.since w)) l.writes ≡ find (λ w. is_by l.since (named_since l.dirty.since w)) (drop l.write-index l.writes)
