-- The value that is there is changed.
use Rattle.std.proofs.Common.{ℤ, pos, SFits, w64, rules, sym, ap, subst, ◌∙◌}
use Rattle.std.proofs.lemmas.Int.{to_z-of_z}
use Rattle.std.proofs.lemmas.Result.{on_ok_weaker}
use Rattle.std.specs.Option.{option_copied}
use Rattle.tt_pages.specs.MapEntries.{ChangesAt}
use Rattle.tt_parts.proofs.EntriesLemmas.{changed_there}
use Rattle.tt_parts.proofs.by_position.change_at.Goals as goal

pub returns-in-Some : goal.returns-in-Some
returns-in-Some g c =
    let fits : SFits w64 c.from.result = search rules in
    let key = to_z-of_z w64 c.from.result fits ∙ c.from.ensures in
    let change = g.M.Modify.after c.args.change in
    let found = sym c.value_at.ensures ∙ ap option_copied c.in-Some.is in
    on_ok_weaker c.change.result
    (λ changes. changed_there (pos c.args.position) change c.args.empty _ c.args.map.now c.change.new.self found
    (subst (λ (k : ℤ). ChangesAt k change c.args.map.now c.change.new.self) key changes))
    c.change.ensures.ok
