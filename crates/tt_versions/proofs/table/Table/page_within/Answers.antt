-- The rows so far are a page, where one more matches, where the range ends, or where nothing is left.
use Rattle.std.proofs.Common.{◌≡◌, ℤ, w64, rules, sym, ap, ◌∙◌, arith}
use Rattle.std.proofs.lemmas.Int.{to_z-of_z}
use Rattle.std.proofs.lemmas.Grind.{common_steps}
use Rattle.std.specs.Ordering.{int_cmp}
use Rattle.std.specs.FinMap.Entries as sorted
use mir.Val.{to_z, of_z}
use Rattle.tt_versions.specs.Sides.{LineagesByKey, rows_behind}
use Rattle.tt_versions.specs.Pages.{those_after}
use Rattle.tt_versions.specs.KeyRange.{is_before}
use Rattle.tt_versions.proofs.RangeLemmas.{is_sorted-after, walked-to_end, walked-all, within-more}
use Rattle.tt_versions.proofs.PageLemmas.{of_all-last}
use Rattle.tt_versions.proofs.table.Table.page_within.Goals as goal

pub loop-key-init : goal.loop-key-init
loop-key-init c =
    let start = c.starting_after-ahead.result.after in
    let entries : c.into_iter-key-iterator.result ≡ those_after start c.args.self.now = cc in
    record {
      rows = search rules;
      few = search rules;
      rises = ap (λ (t : LineagesByKey). sorted.is_sorted int_cmp t) entries ∙ is_sorted-after start c.args.self.now (cc);
    }

pub returns-then-not-is_before : goal.returns-then-not-is_before
returns-then-not-is_before c =
    let q = c.args.query.now in
    let range = c.args.range in
    let start = c.starting_after-ahead.result.after in
    let t = c.args.self.now in
    let rows = rows_behind c.loop-key.rows.items in
    let key = c.in-Some.key.now in
    let same : to_z w64 (of_z w64 key) ≡ key = search (rules, to_z-of_z) in
    let behind = ap (λ high. is_before high key) (sym c.starting_after-ahead.ensures.end) ∙ ap (λ (k : ℤ). is_before c.starting_after-ahead.result.before k) (sym same) ∙ sym c.is_before.ensures ∙ c.if-not-is_before.true in
    of_all-last rows q.after q.most q.equals.now t q.time q.side (cc)
    (walked-to_end rows start q.after range q.equals.now q.time q.side t c.loop-key.key-iterator c.next.new.self (key, c.in-Some.lineage.now)
    (cc) c.requires c.starting_after-ahead.ensures.start c.loop-key.invariant.rows c.loop-key.invariant.rises c.in-Some.ensures.steps behind)
    c.loop-key.invariant.few

pub returns-then-len-query : goal.returns-then-len-query
returns-then-len-query c =
    let q = c.args.query.now in
    within-more (rows_behind c.loop-key.rows.items) c.starting_after-ahead.result.after q.after q.most c.args.range q.equals.now c.args.self.now c.loop-key.key-iterator c.next.new.self (c.in-Some.key.now, c.in-Some.lineage.now) c.in-Some-matching.row.now
    q.time q.side (cc) c.requires c.starting_after-ahead.ensures.start c.loop-key.invariant.rows c.in-Some.ensures.steps c.in-Some-matching.ensures (grind (arith, common_steps))

pub returns : goal.returns
returns c =
    let q = c.args.query.now in
    let rows = rows_behind c.loop-key.rows.items in
    of_all-last rows q.after q.most q.equals.now c.args.self.now q.time q.side (cc)
    (walked-all rows c.starting_after-ahead.result.after q.after c.args.range q.equals.now q.time q.side c.args.self.now (cc) c.requires c.starting_after-ahead.ensures.start (grind (arith, common_steps)))
    c.loop-key.invariant.few
