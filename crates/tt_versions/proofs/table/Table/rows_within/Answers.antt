-- Where the walk ends, at the range's end or at that of all entries, it has read all rows that match.
use Rattle.std.proofs.Common.{◌≡◌, None, ℤ, w64, rules, sym, ap, ◌∙◌, arith}
use Rattle.std.proofs.lemmas.Int.{to_z-of_z}
use Rattle.std.proofs.lemmas.Grind.{common_steps}
use Rattle.std.specs.Ordering.{int_cmp}
use Rattle.std.specs.FinMap.Entries as sorted
use mir.Val.{to_z, of_z}
use Rattle.tt_versions.specs.Sides.{LineagesByKey, rows_behind}
use Rattle.tt_versions.specs.Pages.{those_after}
use Rattle.tt_versions.specs.KeyRange.{is_before}
use Rattle.tt_versions.proofs.RangeLemmas.{is_sorted-after, starts_alone, walked-to_end, walked-all, lists_matches-within}
use Rattle.tt_versions.proofs.table.Table.rows_within.Goals as goal

pub loop-key-init : goal.loop-key-init
loop-key-init c =
    let low = c.args.range.after in
    let entries : c.into_iter-key-iterator.result ≡ those_after low c.args.self.now = cc in
    record {
      rows = search rules;
      rises = ap (λ (t : LineagesByKey). sorted.is_sorted int_cmp t) entries ∙ is_sorted-after low c.args.self.now (cc);
    }

pub returns-then-not-is_before : goal.returns-then-not-is_before
returns-then-not-is_before c =
    let range = c.args.range in
    let equals = c.args.equals.now in
    let rows = rows_behind c.loop-key.rows.items in
    let key = c.in-Some.key.now in
    let same : to_z w64 (of_z w64 key) ≡ key = search (rules, to_z-of_z) in
    let behind = ap (λ (k : ℤ). is_before range.before k) (sym same) ∙ sym c.is_before.ensures ∙ c.if-not-is_before.true in
    lists_matches-within rows equals c.args.self.now c.args.time c.args.side (cc)
    (walked-to_end rows range.after None range equals c.args.time c.args.side c.args.self.now c.loop-key.key-iterator c.next.new.self (key, c.in-Some.lineage.now)
    (cc) c.requires (starts_alone range.after) c.loop-key.invariant.rows c.loop-key.invariant.rises c.in-Some.ensures.steps behind)

pub returns : goal.returns
returns c =
    let range = c.args.range in
    let equals = c.args.equals.now in
    let rows = rows_behind c.loop-key.rows.items in
    lists_matches-within rows equals c.args.self.now c.args.time c.args.side (cc)
    (walked-all rows range.after None range equals c.args.time c.args.side c.args.self.now (cc) c.requires (starts_alone range.after) (grind (arith, common_steps)))
