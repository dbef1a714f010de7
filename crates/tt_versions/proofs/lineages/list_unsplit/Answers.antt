-- The rows that the sides show last are those that the index moves the key for.
use Rattle.std.proofs.Common.{ℤ, Option, w64, arith, sym, subst, ◌∙◌}
use mir.Val.{to_z, of_z}
use Rattle.std.proofs.lemmas.Int.{to_z-of_z}
use Rattle.std.proofs.lemmas.Result.{on_ok_weaker}
use Rattle.std.specs.List.{All}
use Rattle.std.specs.Option.{option_copied}
use Rattle.tt_values.specs.declared.row.Row.{Row}
use Rattle.tt_versions.specs.declared.side.Side.{Side}
use Rattle.tt_versions.specs.declared.side.Side.TheVariants.{Next}
use Rattle.tt_versions.specs.Versions.{last_row}
use Rattle.tt_versions.specs.Lineage.{chain_on}
use Rattle.tt_versions.specs.Index.{ListsCurrent, MovesUnsplit}
use Rattle.tt_versions.proofs.StartLemmas.{visible_row-latest, StartsBy-on}
use Rattle.tt_versions.proofs.MoveLemmas.{moves-as}
use Rattle.tt_versions.proofs.lineages.list_unsplit.Goals as goal

pub change_row-requires : goal.change_row-requires
change_row-requires c =
    let chain = c.args.lineage.now.current in
    let columns = c.args.index.now.columns in
    let current = c.at-old.ensures ∙ visible_row-latest c.args.latest c.args.latest chain (omega arith) c.requires.starts.0 in
    subst (λ (row : Option Row). All (ListsCurrent (to_z w64 (of_z w64 c.args.key)) row) columns) (sym current)
    (subst (λ (k : ℤ). All (ListsCurrent k (last_row chain)) columns) (sym (to_z-of_z w64 c.args.key c.ranges.key)) c.requires.current)

pub returns-in-Next : goal.returns-in-Next
returns-in-Next c =
    let lineage = c.args.lineage.now in
    let latest = c.args.latest in
    let before = c.args.index.now in
    let after = c.change_row.new.self in
    let key_is = to_z-of_z w64 c.args.key c.ranges.key in
    let old = c.at-old.ensures ∙ visible_row-latest latest latest lineage.current (omega arith) c.requires.starts.0 in
    let new = c.at-new.ensures ∙ visible_row-latest latest latest (chain_on Next lineage) (omega arith) (StartsBy-on latest Next lineage c.requires.starts) in
    on_ok_weaker c.change_row.result
    (λ moves. subst (λ (side : Side). MovesUnsplit side c.args.key lineage before after) (sym c.in-Next.is)
    (moves-as (to_z w64 (of_z w64 c.args.key)) c.args.key (option_copied c.at-new.result) (last_row (chain_on Next lineage)) (option_copied c.at-old.result) (last_row lineage.current) (option_copied c.at-new.result) (last_row (chain_on Next lineage)) before after key_is new old new moves))
    c.change_row.ensures
