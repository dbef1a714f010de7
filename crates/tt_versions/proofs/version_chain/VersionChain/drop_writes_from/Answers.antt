use Rattle.std.proofs.Common.{◌≡◌, Some, arith, subst, sym, ap, ◌∙◌}
use Rattle.tt_versions.specs.Versions.{started_before, StartsRise}
use Rattle.tt_versions.specs.Chains.{log_versions, newest_version, versions_of}
use Rattle.tt_versions.proofs.VersionsLemmas.{started_before-whole, StartsRise-left, StartsRise-cut}
use Rattle.tt_versions.proofs.version_chain.VersionChain.drop_writes_from.Goals as goal
use Rattle.tt_versions.proofs.version_chain.VersionChain.drop_writes_from.Goals.{in-Some+else-version-time, in_default}

pub returns-then-version-time : goal.returns-then-version-time
returns-then-version-time c =
    let view : versions_of c.self.inside.older (Some c.in-Some.version) ≡ c.args.self.now = ap (versions_of c.self.inside.older) (sym c.in-Some.is) ∙ c.self.view_is in
    let rise = subst (λ newest. StartsRise (versions_of c.self.inside.older newest)) c.in-Some.is c.self.invariant in
    let whole = started_before-whole (log_versions c.self.inside.older) c.in-Some.version c.args.time rise (omega (arith, c.if-version-time.true)) in
    sym view ∙ sym whole ∙ ap (started_before c.args.time) view

pub invariant_of-self : goal.invariant_of-self
invariant_of-self c =
    let rise : StartsRise (log_versions c.self.inside.older) = StartsRise-left (log_versions c.self.inside.older) (newest_version c.self.inside.newest) c.self.invariant in
    let here : StartsRise (log_versions c.match-self.self-inside.older) = elim c.match-self.branch [
      | in-Some+else-version-time w ↦ subst (λ i. StartsRise (log_versions i.older)) (sym w.self-inside-is) rise
      | in_default w ↦ subst (λ i. StartsRise (log_versions i.older)) (sym w.self-inside-is) rise
    ] in
    StartsRise-cut c.keep_before.result c.args.time (log_versions c.match-self.self-inside.older) (log_versions c.keep_before.new.older) c.keep_before.ensures.ok c.keep_before.ensures.err here
