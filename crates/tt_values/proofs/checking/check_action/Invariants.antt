-- no write so far has a fault, and each of them that is an insert has a key
use Rattle.std.proofs.Common.{◌≡◌, ℕ, ◌<◌, drop, slice_index_or}
use Rattle.tt_values.specs.declared.statement.Write.{Write}
use Rattle.tt_values.specs.Check.{first_write_fault, HasKey}
use Rattle.tt_values.proofs.checking.check_action.Given as goal

abbrev pub invariant-loop-write : goal.invariant-loop-write
invariant-loop-write l = record {
  fault : first_write_fault l.catalog (drop l.write-index l.writes) ≡ first_write_fault l.catalog l.writes;
  keys : (k : ℕ) (d : Write) → k < l.write-index → HasKey (slice_index_or l.writes k d);
}
