-- The page has the one row, if it's there, matches and comes after the key.
use Rattle.std.proofs.Common.{w64, ℤ, sym, ap, ◌∙◌, arith}
use Rattle.std.proofs.lemmas.Int.{to_z-of_z}
use Rattle.std.proofs.lemmas.Grind.{common_steps}
use Rattle.tt_versions.specs.Matching.{if_matching}
use Rattle.tt_versions.specs.Sides.{side_of, rows_behind}
use Rattle.tt_versions.specs.Pages.{is_after}
use Rattle.tt_versions.proofs.PageLemmas.{of_key-before, of_key-none, of_key-more, of_key-one}
use Rattle.tt_versions.proofs.table.Table.page_with_key.Goals as goal

pub returns-then-not-is_after : goal.returns-then-not-is_after
returns-then-not-is_after c =
    let q = c.args.query.now in
    let same = to_z-of_z w64 c.args.key c.ranges.key in
    of_key-before _ q.after q.most q.equals.now c.args.self.now c.args.key q.time q.side c.requires (ap rows_behind c.new-rows.ensures.items)
    (ap (λ (k : ℤ). is_after q.after k) (sym same) ∙ sym c.is_after.ensures ∙ c.if-not-is_after.true)

pub returns-in_default : goal.returns-in_default
returns-in_default c =
    let q = c.args.query.now in
    let same = to_z-of_z w64 c.args.key c.ranges.key in
    of_key-none _ q.after q.most q.equals.now c.args.self.now c.args.key q.time q.side c.requires (ap rows_behind c.new-rows.ensures.items)
    (c.in_default.ensures ∙ ap (λ (k : ℤ). if_matching q.equals.now (side_of c.args.self.now q.side k q.time)) same)

pub returns-then-query-eq0 : goal.returns-then-query-eq0
returns-then-query-eq0 c =
    let q = c.args.query.now in
    let same = to_z-of_z w64 c.args.key c.ranges.key in
    of_key-more _ q.after q.most q.equals.now c.args.self.now c.args.key q.time q.side c.in-Some.row.now c.requires (ap rows_behind c.new-rows.ensures.items)
    (ap (λ (k : ℤ). is_after q.after k) (sym same) ∙ sym c.is_after.ensures ∙ c.if-not-is_after.false)
    (c.in-Some.ensures ∙ ap (λ (k : ℤ). if_matching q.equals.now (side_of c.args.self.now q.side k q.time)) same) c.if-query-eq0.true

pub returns : goal.returns
returns c =
    let q = c.args.query.now in
    let same = to_z-of_z w64 c.args.key c.ranges.key in
    of_key-one _ q.after q.most q.equals.now c.args.self.now c.args.key q.time q.side c.in-Some.row.now c.requires (grind (arith, common_steps))
    (ap (λ (k : ℤ). is_after q.after k) (sym same) ∙ sym c.is_after.ensures ∙ c.if-not-is_after.false)
    (c.in-Some.ensures ∙ ap (λ (k : ℤ). if_matching q.equals.now (side_of c.args.self.now q.side k q.time)) same) (omega arith)
