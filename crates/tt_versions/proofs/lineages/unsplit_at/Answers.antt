-- The row is unsplit, and the index fits it.
use Rattle.std.proofs.Common.{ℤ, w64, sym, ap, subst, ◌∙◌}
use mir.Val.{to_z, of_z}
use Rattle.std.proofs.lemmas.Int.{to_z-of_z}
use Rattle.std.proofs.lemmas.Result.{on_ok_weaker}
use Rattle.std.specs.Option.{option_copied, unwrap_or}
use Rattle.tt_versions.specs.declared.lineage.Lineage.{Lineage}
use Rattle.tt_versions.specs.Lineage.{unwritten, unsplit}
use Rattle.tt_versions.specs.Sides.{LineagesByKey, UnsplitsRow}
use Rattle.tt_versions.specs.Index.{MovesUnsplit, IsIndexed}
use Rattle.tt_versions.proofs.SidesLemmas.{changed-there}
use Rattle.tt_versions.proofs.UnsplitLemmas.{UnsplitsRow-changed}
use Rattle.tt_versions.proofs.IndexedLemmas.{IsIndexed-unsplit}
use Rattle.tt_versions.proofs.lineages.unsplit_at.Goals as goal

pub returns-clause-entries : goal.returns-clause-entries
returns-clause-entries c =
    let key = to_z w64 (of_z w64 c.args.key) in
    let found = sym c.get.ensures ∙ ap option_copied c.in-Some.is in
    on_ok_weaker c.change.result
    (λ changes. subst (λ (k : ℤ). UnsplitsRow c.args.side k c.args.entries.now c.change.new.self) (to_z-of_z w64 c.args.key c.ranges.key)
    (UnsplitsRow-changed c.args.side key c.args.entries.now c.change.new.self _ found changes))
    c.change.ensures.ok

pub returns-clause-indexed : goal.returns-clause-indexed
returns-clause-indexed c =
    let key = to_z w64 (of_z w64 c.args.key) in
    let before = c.args.entries.now in
    let side = c.args.side in
    let found = sym c.get.ensures ∙ ap option_copied c.in-Some.is in
    let here = sym (ap (λ o. unwrap_or o unwritten) found) in
    let moves = subst (λ (l : Lineage). MovesUnsplit side key l c.args.index.now c.list_unsplit.new.index) here c.in_ok-list_unsplit.ensures in
    on_ok_weaker c.change.result
    (λ changes. subst (λ (t : LineagesByKey). IsIndexed c.list_unsplit.new.index c.args.latest t) (sym (changed-there before c.change.new.self key (unsplit side) c.in-Some.lineage.now found changes))
    (IsIndexed-unsplit side key c.args.index.now c.list_unsplit.new.index c.args.latest before c.requires moves))
    c.change.ensures.ok
