use Rattle.std.proofs.Common.{◌≡◌, [], ◌++◌, subst, sym, ap, refl, ◌∙◌, append-nil}
use Rattle.tt_versions.specs.Versions.{StartsRise}
use Rattle.tt_versions.specs.Chains.{log_versions, newest_version, versions_of}
use Rattle.tt_versions.proofs.VersionsLemmas.{StartsRise-left, StartsRise-push}
use Rattle.tt_versions.proofs.version_chain.VersionChain.write_over.Goals as goal

-- the newest version was taken out, and the others stay
pub invariant_of-self : goal.invariant_of-self
invariant_of-self c =
    let older = log_versions c.self.inside.older in
    let same : log_versions c.add_version.new.older ++ [] ≡ older = append-nil _ ∙ c.in_err-add_version.ensures.err in
    subst (λ newest. StartsRise (versions_of c.add_version.new.older newest)) (sym c.take.ensures.after)
    (subst StartsRise (sym same) (StartsRise-left older (newest_version c.self.inside.newest) c.self.invariant))

-- all versions that are left started before the new one
pub invariant_of-self-2 : goal.invariant_of-self-2
invariant_of-self-2 c =
    let front : log_versions c.add_version.new.older ≡ versions_of c.self.inside.older c.self.inside.newest =
    c.in_ok-add_version.ensures.ok ∙ ap (versions_of c.self.inside.older) c.take.ensures.value in
    let rise = subst StartsRise (sym front) c.self.invariant in
    StartsRise-push c.args.time c.args.self.now (log_versions c.add_version.new.older) _ (front ∙ c.self.view_is ∙ c.in_ok-drop_writes_from.ensures) refl rise
