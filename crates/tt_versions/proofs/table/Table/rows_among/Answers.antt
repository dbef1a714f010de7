-- At the end no key is left, and the rows are those that match of all keys.
use Rattle.std.proofs.Common.{◌++◌, ℤ, List, append-nil, sym, ap, ◌∙◌}
use Rattle.std.specs.Borrow.{Bor}
use Rattle.tt_values.specs.declared.row.Row.{Row}
use Rattle.tt_values.specs.Content.{RowsByKey}
use Rattle.tt_versions.proofs.PageLemmas.{walk-all}
use Rattle.tt_versions.specs.Keys.{all_of}
use Rattle.tt_versions.specs.Sides.{side_of, rows_behind}
use Rattle.tt_versions.specs.Index.{KeySet}
use Rattle.tt_versions.proofs.MatchingLemmas.{matching_among, lists_matches-among}
use Rattle.tt_versions.proofs.table.Table.rows_among.Goals as goal

pub loop-key-init : goal.loop-key-init
loop-key-init c =
    let among : KeySet → RowsByKey = matching_among c.args.equals.now (λ k. side_of c.args.self.now c.args.side k c.args.time) in
    ap (λ (rs : List (ℤ × Bor Row)). rows_behind rs ++ among c.iter_after-left.result) c.in_ok-rows.ensures.items
    ∙ ap among (c.iter_after-left.ensures.all ∙ sym (walk-all (all_of c.args.keys)))

pub returns : goal.returns
returns c = lists_matches-among c.args.equals.now (rows_behind c.loop-key.rows.items) c.args.self.now (all_of c.args.keys) c.args.time c.args.side c.requires c.iter_after-left.ensures.sorted
    (sym (append-nil (rows_behind c.loop-key.rows.items))
    ∙ ap (λ (ks : KeySet). rows_behind c.loop-key.rows.items ++ matching_among c.args.equals.now (λ k. side_of c.args.self.now c.args.side k c.args.time) ks) (sym c.in_default.ensures.none)
    ∙ c.loop-key.invariant)
