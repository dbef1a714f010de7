-- the keys so far have the key of each row that matches, and no equality so far says fewer
use Rattle.std.proofs.Common.{IfSome, option_map}
use Rattle.tt_versions.specs.Keys.{all_of, size}
use Rattle.tt_versions.specs.Index.{CoversMatches}
use Rattle.tt_versions.proofs.IndexLemmas.{IsLeastBefore}
use Rattle.tt_versions.proofs.index.Index.keys_for.Given as goal

abbrev pub invariant-loop-equal : goal.invariant-loop-equal
invariant-loop-equal l = record {
  covers : IfSome l.smallest (λ keys. CoversMatches l.reach l.self (all_of keys) l.equals);
  smallest : IsLeastBefore l.reach l.equal-index (option_map size l.smallest) l.self.columns l.equals;
}
