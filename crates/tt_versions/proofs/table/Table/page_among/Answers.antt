-- The rows so far are a page, where one more matches, or where no key is left.
use Rattle.std.proofs.Common.{◌≡◌, ◌++◌, append-nil, w64, ℤ, rules, sym, ap, ◌∙◌, arith}
use Rattle.std.proofs.lemmas.Int.{to_z-of_z}
use Rattle.std.proofs.lemmas.Grind.{common_steps}
use mir.Val.{to_z, of_z}
use Rattle.tt_versions.specs.Index.{KeySet}
use Rattle.tt_versions.specs.Keys.{all_of}
use Rattle.tt_versions.proofs.MatchingLemmas.{matching_among}
use Rattle.tt_versions.specs.Sides.{side_of, rows_behind}
use Rattle.tt_versions.specs.Matching.{if_matching}
use Rattle.tt_versions.proofs.PageLemmas.{among-more, among-last}
use Rattle.tt_versions.proofs.table.Table.page_among.Goals as goal

pub returns-then-len-query : goal.returns-then-len-query
returns-then-len-query c =
    let q = c.args.query.now in
    let same : to_z w64 (of_z w64 c.in-Some.key) ≡ c.in-Some.key = search (rules, to_z-of_z) in
    among-more (rows_behind c.loop-key.rows.items) q.after q.most q.equals.now c.args.self.now (all_of c.args.keys) c.loop-key.left c.next.new.self (c.in-Some.key, tt) c.in-Some-matching.row.now
    q.time q.side c.requires c.iter_after-left.ensures.sorted c.loop-key.invariant.rows c.in-Some.ensures.some
    (c.in-Some-matching.ensures ∙ ap (λ (k : ℤ). if_matching q.equals.now (side_of c.args.self.now q.side k q.time)) same) (grind (arith, common_steps))

pub returns : goal.returns
returns c =
    let q = c.args.query.now in
    among-last (rows_behind c.loop-key.rows.items) q.after q.most q.equals.now c.args.self.now (all_of c.args.keys) q.time q.side c.requires c.iter_after-left.ensures.sorted
    (sym (append-nil (rows_behind c.loop-key.rows.items))
    ∙ ap (λ (ks : KeySet). rows_behind c.loop-key.rows.items ++ matching_among q.equals.now (λ k. side_of c.args.self.now q.side k q.time) ks) (sym c.in_default.ensures.none)
    ∙ c.loop-key.invariant.rows) c.loop-key.invariant.few
