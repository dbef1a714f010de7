-- One more row is written, and the same rows are split.
use Rattle.std.proofs.Common.{◌≡◌, ℤ, Bool, List, Option, sym, ap, subst, ◌∙◌, w64, rules}
use Rattle.std.specs.List.{All}
use Rattle.std.proofs.lemmas.List.Elements.{All-head, All-tail}
use Rattle.std.proofs.lemmas.Int.{to_z-of_z}
use Rattle.tt_values.specs.declared.row.Row.{Row}
use Rattle.tt_versions.specs.Lineage.{with_write_on}
use Rattle.tt_versions.specs.Sides.{LineagesByKey, lineage_at, is_split, with_writes, StaysSplit}
use Rattle.std.specs.Ordering.{int_cmp}
use Rattle.std.specs.FinMap.Entries.{put}
use Rattle.tt_versions.proofs.SidesLemmas.{is_split-write_on}
use Rattle.tt_versions.proofs.lineages.IndexedEntries.write_each.Goals as goal

pub write_row-requires : goal.write_row-requires
write_row-requires c =
    let side = c.args.side in
    let before = c.args.self.now.entries in
    let inv = c.loop-key.invariant in
    let left = subst (λ (es : List (ℤ × Option Row)). All (λ e. StaysSplit side (is_split before) e.0) es) c.in-Some.ensures.steps.0 inv.left in
    let head = All-head (λ e. StaysSplit side (is_split before) e.0) (c.in-Some.key, c.in-Some.row) c.next.new.self.rest.items left in
    let here = subst (λ (split : ℤ → Bool). StaysSplit side split c.in-Some.key) (sym inv.split) head in
    record {
      stored = inv.stored;
      split = subst (λ (k : ℤ). StaysSplit side (is_split c.loop-key.self.entries) k) (sym (to_z-of_z w64 c.in-Some.key (search rules))) here;
    }

pub loop-key-preserved : goal.loop-key-preserved
loop-key-preserved c =
    let side = c.args.side in
    let before = c.args.self.now.entries in
    let inv = c.loop-key.invariant in
    let key = c.in-Some.key in
    let row = c.in-Some.row in
    let time = c.args.time in
    let rest = c.next.new.self.rest.items in
    let entries = c.loop-key.self.entries in
    let taken = c.in-Some.ensures.steps.0 in
    let left = subst (λ (es : List (ℤ × Option Row)). All (λ e. StaysSplit side (is_split before) e.0) es) taken inv.left in
    let head = All-head (λ e. StaysSplit side (is_split before) e.0) (key, row) rest left in
    let here = subst (λ (split : ℤ → Bool). StaysSplit side split key) (sym inv.split) head in
    let written : c.write_row.new.self.entries ≡ put int_cmp key (with_write_on side row time (lineage_at entries key)) entries =
    c.in_ok-write_row.ensures.entries ∙ ap (λ (k : ℤ). put int_cmp k (with_write_on side row time (lineage_at entries k)) entries) (to_z-of_z w64 key (search rules)) in
    record {
      writes = ap (λ (t : LineagesByKey). with_writes side rest time t) written ∙ ap (λ (es : List (ℤ × Option Row)). with_writes side es time entries) (sym taken) ∙ inv.writes;
      stored = c.in_ok-write_row.ensures.stored;
      split = ap is_split written ∙ is_split-write_on side entries key row time here ∙ inv.split;
      left = All-tail (λ e. StaysSplit side (is_split before) e.0) (key, row) rest left;
    }
