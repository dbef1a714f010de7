-- A walk from a key on reads what has greater keys.
use Rattle.std.proofs.Common.{◌≡◌, w64, ℤ, rules, sym, ap, ◌∙◌}
use Rattle.std.proofs.lemmas.Int.{to_z-of_z}
use mir.Val.{to_z, of_z}
use Rattle.tt_pages.specs.MapWalk.{entries_after}
use Rattle.tt_versions.specs.Pages.{those_after}
use Rattle.tt_versions.proofs.PageLemmas.{walk-after}
use Rattle.tt_versions.proofs.walk.iter_after.Goals as goal

pub returns-in-Some-clause-all : goal.returns-in-Some-clause-all
returns-in-Some-clause-all g c =
    let same : to_z w64 (of_z w64 c.in-Some.low) ≡ c.in-Some.low = search (rules, to_z-of_z) in
    c.iter_after.ensures.after ∙ ap (λ (k : ℤ). entries_after k c.args.entries.now) same ∙ walk-after c.in-Some.low c.args.entries.now
    ∙ ap (λ o. those_after o c.args.entries.now) (sym c.in-Some.is)
