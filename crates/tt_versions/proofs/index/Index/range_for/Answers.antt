-- Where the index is keyed, the first value of a row is its key.
use Rattle.std.proofs.Common.{IsTrue, sym, ap, ◌∙◌}
use Rattle.tt_versions.specs.Index.{IndexState}
use Rattle.tt_versions.proofs.index.Index.range_for.Goals as goal

pub returns-then-self-clause-has : goal.returns-then-self-clause-has
returns-then-self-clause-has c =
    let keyed : IsTrue c.args.self.now.is_keyed = sym (ap (λ (i : IndexState). i.is_keyed) c.self.view_is) ∙ c.if-self.true in
    λ key row listed m. c.of.ensures.has key row (listed.first keyed) m
