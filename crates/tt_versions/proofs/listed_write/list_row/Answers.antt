-- The current row is the last one, and the index moves the key for it.
use Rattle.std.proofs.Common.{ℤ, Option, w64, arith, sym, subst, ◌∙◌}
use mir.Val.{to_z, of_z}
use Rattle.std.proofs.lemmas.Int.{to_z-of_z}
use Rattle.std.proofs.lemmas.Result.{on_ok_weaker}
use Rattle.std.specs.List.{All}
use Rattle.std.specs.Option.{option_copied}
use Rattle.tt_values.specs.declared.row.Row.{Row}
use Rattle.tt_versions.specs.declared.side.Side.{Side}
use Rattle.tt_versions.specs.Versions.{last_row}
use Rattle.tt_versions.specs.Index.{ListsCurrent, MovesWrite}
use Rattle.tt_versions.proofs.StartLemmas.{visible_row-latest}
use Rattle.tt_versions.proofs.MoveLemmas.{moves-as}
use Rattle.tt_versions.proofs.listed_write.list_row.Goals as goal

pub change_row-requires : goal.change_row-requires
change_row-requires c =
    let chain = c.args.lineage.now.current in
    let columns = c.args.index.now.columns in
    let current = c.at-current.ensures ∙ visible_row-latest c.args.latest c.args.latest chain (omega arith) c.requires.starts.0 in
    subst (λ (row : Option Row). All (ListsCurrent (to_z w64 (of_z w64 c.args.key)) row) columns) (sym current)
    (subst (λ (k : ℤ). All (ListsCurrent k (last_row chain)) columns) (sym (to_z-of_z w64 c.args.key c.ranges.key)) c.requires.current)

pub change_row-requires-in-Next : goal.change_row-requires-in-Next
change_row-requires-in-Next c =
    let chain = c.args.lineage.now.current in
    let columns = c.args.index.now.columns in
    let current = c.at-current.ensures ∙ visible_row-latest c.args.latest c.args.latest chain (omega arith) c.requires.starts.0 in
    subst (λ (row : Option Row). All (ListsCurrent (to_z w64 (of_z w64 c.args.key)) row) columns) (sym current)
    (subst (λ (k : ℤ). All (ListsCurrent k (last_row chain)) columns) (sym (to_z-of_z w64 c.args.key c.ranges.key)) c.requires.current)

pub returns-in-Current : goal.returns-in-Current
returns-in-Current c =
    let lineage = c.args.lineage.now in
    let write = c.args.write.now in
    let before = c.args.index.now in
    let after = c.change_row.new.self in
    let key_is = to_z-of_z w64 c.args.key c.ranges.key in
    let current = c.at-current.ensures ∙ visible_row-latest c.args.latest c.args.latest lineage.current (omega arith) c.requires.starts.0 in
    let row = c.as_ref-row.ensures.value in
    on_ok_weaker c.change_row.result
    (λ moves. subst (λ (side : Side). MovesWrite side c.args.key lineage write.row before after) (sym c.in-Current.is)
    (moves-as (to_z w64 (of_z w64 c.args.key)) c.args.key (option_copied c.as_ref-row.result) write.row (option_copied c.at-current.result) (last_row lineage.current) (option_copied c.as_ref-row.result) write.row before after key_is row current row moves))
    c.change_row.ensures

pub returns-in-Next : goal.returns-in-Next
returns-in-Next c =
    let lineage = c.args.lineage.now in
    let write = c.args.write.now in
    let before = c.args.index.now in
    let after = c.change_row-in-Next.new.self in
    let key_is = to_z-of_z w64 c.args.key c.ranges.key in
    let current = c.at-current.ensures ∙ visible_row-latest c.args.latest c.args.latest lineage.current (omega arith) c.requires.starts.0 in
    let row = c.as_ref-row.ensures.value in
    on_ok_weaker c.change_row-in-Next.result
    (λ moves. subst (λ (side : Side). MovesWrite side c.args.key lineage write.row before after) (sym c.in-Next.is)
    (moves-as (to_z w64 (of_z w64 c.args.key)) c.args.key (option_copied c.at-current.result) (last_row lineage.current) (option_copied c.as_ref-row.result) write.row (option_copied c.as_ref-row.result) write.row before after key_is current row row moves))
    c.change_row-in-Next.ensures
