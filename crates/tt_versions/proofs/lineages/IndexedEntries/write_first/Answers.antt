-- The split keys stay, and the index fits the entries with the row.
use Rattle.std.proofs.Common.{ℤ, None, ◌≡◌, w64, arith, refl, sym, ap, subst, ◌∙◌}
use mir.Val.{to_z, of_z}
use Rattle.std.proofs.lemmas.Int.{to_z-of_z}
use Rattle.std.proofs.lemmas.Result.{on_ok_weaker}
use Rattle.std.specs.Option.{option_copied, unwrap_or}
use Rattle.std.specs.Ordering.{int_cmp}
use Rattle.std.specs.FinMap.Entries.{find, put}
use Rattle.tt_versions.specs.declared.lineage.Lineage.{Lineage}
use Rattle.tt_versions.specs.Lineage.{unwritten, with_write_on}
use Rattle.tt_versions.specs.Sides.{is_split, StaysSplit}
use Rattle.tt_versions.proofs.MoveLemmas.{moves-as}
use Rattle.tt_versions.proofs.IndexedLemmas.{first-fits, first-moves, IsConsistent-write}
use Rattle.tt_versions.proofs.lineages.IndexedEntries.write_first.Goals as goal

pub change_row-requires : goal.change_row-requires
change_row-requires c =
    let before = c.args.self.now in
    let none = subst (λ (k : ℤ). find int_cmp k before.entries ≡ None) (sym (to_z-of_z w64 c.args.key c.ranges.key)) c.requires.absent in
    first-fits (to_z w64 (of_z w64 c.args.key)) before.index before.latest before.entries c.requires.stored.indexed none

pub returns-clause-stored : goal.returns-clause-stored
returns-clause-stored c =
    let key = to_z w64 (of_z w64 c.args.key) in
    let before = c.args.self.now in
    let write = c.args.write in
    let none = subst (λ (k : ℤ). find int_cmp k before.entries ≡ None) (sym (to_z-of_z w64 c.args.key c.ranges.key)) c.requires.absent in
    let unwritten_before = ap (λ o. unwrap_or o unwritten) none in
    let change = with_write_on write.side write.row write.time in
    let written = c.in_ok-write.ensures ∙ ap change (c.new-lineage.ensures ∙ sym unwritten_before) in
    let after = record before { entries = c.put.new.self; index = c.change_row.new.self } in
    let stays = subst (λ (k : ℤ). StaysSplit write.side (is_split before.entries) k) (sym (to_z-of_z w64 c.args.key c.ranges.key)) c.requires.split in
    let row = c.as_ref-row.ensures.value in
    let first = moves-as key key (option_copied c.as_ref-row.result) write.row _ _ (option_copied c.as_ref-row.result) write.row before.index after.index refl row refl row c.in_ok-change_row.ensures in
    on_ok_weaker c.put.result
    (λ is. IsConsistent-write write.side key write.row write.time before after stays c.requires.stored refl (omega arith) c.requires.starts (first-moves write.side key before.entries write.row before.index after.index none stays first)
    (is ∙ ap (λ (l : Lineage). put int_cmp key l before.entries) written))
    c.put.ensures.ok
