use Rattle.std.proofs.Common.{◌≡◌, ◌++◌, ◌∷◌, [], ◌<◌, OnOk, arith, subst, sym, ap, ◌∙◌}
use Rattle.tt_versions.specs.Versions.{started_before, with_write, StartsRise}
use Rattle.tt_versions.specs.Chains.{log_versions, versions_of}
use Rattle.tt_versions.proofs.VersionsLemmas.{started_before-whole, StartsRise-newer, written_behind}
use Rattle.tt_versions.proofs.version_chain.VersionChain.write.Goals as goal
use Rattle.tt_versions.proofs.version_chain.VersionChain.write.Goals.{After-add_version}

-- the versions that there were rise
rise : (c : After-add_version) → StartsRise (log_versions c.self.inside.older ++ c.in-Some.newest ∷ [])
rise c = subst (λ newest. StartsRise (versions_of c.self.inside.older newest)) c.in-Some.is c.self.invariant

-- the newest of them is put behind the others
put_behind : (c : After-add_version) → OnOk c.add_version.result (log_versions c.add_version.new.older ≡ log_versions c.self.inside.older ++ c.in-Some.newest ∷ [])
put_behind c = subst (λ v. OnOk c.add_version.result (log_versions c.add_version.new.older ≡ log_versions c.self.inside.older ++ v ∷ [])) c.replace-before.ensures.value c.add_version.ensures.ok

pub invariant_of-self : goal.invariant_of-self
invariant_of-self c =
    let later : c.in-Some.newest.start < c.replace-before.new.dest.start = omega (arith, c.if-newest-time.true, ap (λ v. v.start) c.replace-before.ensures.after) in
    StartsRise-newer c.add_version.result (log_versions c.self.inside.older) (log_versions c.add_version.new.older) c.in-Some.newest c.replace-before.new.dest (put_behind c) c.add_version.ensures.err (rise c) later

pub returns-then-newest-time : goal.returns-then-newest-time
returns-then-newest-time c =
    let older = log_versions c.self.inside.older in
    let view : older ++ c.in-Some.newest ∷ [] ≡ c.args.self.now = ap (versions_of c.self.inside.older) (sym c.in-Some.is) ∙ c.self.view_is in
    let whole : started_before c.args.time (older ++ c.in-Some.newest ∷ []) ≡ older ++ c.in-Some.newest ∷ [] = started_before-whole older c.in-Some.newest c.args.time (rise c) c.if-newest-time.true in
    let done = written_behind c.add_version.result (older ++ c.in-Some.newest ∷ []) (log_versions c.add_version.new.older) c.args.row c.args.time (put_behind c) whole in
    subst (λ v. OnOk c.add_version.result (log_versions c.add_version.new.older ++ v ∷ [] ≡ with_write c.args.row c.args.time c.args.self.now)) (sym c.replace-before.ensures.after)
    (subst (λ all. OnOk c.add_version.result (log_versions c.add_version.new.older ++ record { start = c.args.time; row = c.args.row } ∷ [] ≡ with_write c.args.row c.args.time all)) view done)
