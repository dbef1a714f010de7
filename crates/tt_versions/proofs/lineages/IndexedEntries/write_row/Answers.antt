-- The split keys stay, and the index fits the entries with the row.
use Rattle.std.proofs.Common.{◌≡◌, ◌≤◌, ℕ, ℤ, w64, refl, true, is_some, sym, subst, ◌∙◌}
use mir.Val.{to_z, of_z}
use Rattle.std.proofs.lemmas.Int.{to_z-of_z}
use Rattle.std.specs.Ordering.{int_cmp}
use Rattle.std.specs.FinMap.Entries.{find}
use Rattle.tt_versions.specs.Lineage.{with_write_on}
use Rattle.tt_versions.specs.Sides.{is_split, StaysSplit}
use Rattle.tt_versions.specs.Index.{MovesWrite}
use Rattle.tt_versions.proofs.SidesLemmas.{changed-if-there, moved-if-there}
use Rattle.tt_versions.proofs.StartLemmas.{max-first, max-second}
use Rattle.tt_versions.proofs.IndexedLemmas.{absent, fits-write, IsConsistent-write, IsConsistent-later}
use Rattle.tt_versions.proofs.lineages.IndexedEntries.write_row.Goals as goal

pub change_with-requires : goal.change_with-requires
change_with-requires c =
    let before = c.args.self.now in
    let later : before.latest ≤ c.max-self.result = subst (λ (n : ℕ). before.latest ≤ n) (sym c.max-self.ensures) (max-first before.latest c.args.write.time) in
    fits-write (to_z w64 (of_z w64 c.args.key)) before.index before.latest c.max-self.result before.entries later c.requires.stored.indexed

pub returns-then-branch-clause-stored : goal.returns-then-branch-clause-stored
returns-then-branch-clause-stored c =
    let key = to_z w64 (of_z w64 c.args.key) in
    let before = c.args.self.now in
    let write = c.args.write in
    let given = c.in_ok-change_with.ensures in
    let after = record before { entries = c.change_with.new.self; index = c.change_with.new.context; latest = c.max-self.result } in
    let there : is_some (find int_cmp key before.entries) ≡ true = sym given.found ∙ c.if-branch.true in
    let stays = subst (λ (k : ℤ). StaysSplit write.side (is_split before.entries) k) (sym (to_z-of_z w64 c.args.key c.ranges.key)) c.requires.split in
    let later : before.latest ≤ c.max-self.result = subst (λ (n : ℕ). before.latest ≤ n) (sym c.max-self.ensures) (max-first before.latest write.time) in
    let upto : write.time ≤ c.max-self.result = subst (λ (n : ℕ). write.time ≤ n) (sym c.max-self.ensures) (max-second before.latest write.time) in
    IsConsistent-write write.side key write.row write.time before after stays c.requires.stored refl later upto
    (moved-if-there before.entries key (λ l. MovesWrite write.side key l write.row) before.index after.index there given.moves)
    (changed-if-there before.entries after.entries key (with_write_on write.side write.row write.time) there given.ok)

pub write_first-requires-clause-stored : goal.write_first-requires-clause-stored
write_first-requires-clause-stored c =
    let key = to_z w64 (of_z w64 c.args.key) in
    let before = c.args.self.now in
    let given = c.in_ok-change_with.ensures in
    let after = record before { entries = c.change_with.new.self; index = c.change_with.new.context; latest = c.max-self.result } in
    let none = absent (find int_cmp key before.entries) (sym given.found ∙ c.if-branch.false) in
    let later : before.latest ≤ c.max-self.result = subst (λ (n : ℕ). before.latest ≤ n) (sym c.max-self.ensures) (max-first before.latest c.args.write.time) in
    IsConsistent-later before after c.requires.stored refl (given.stays none) (given.kept c.if-branch.false).1 later
