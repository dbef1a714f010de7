-- The column's partition moves to the members from those that are left.
use Rattle.std.proofs.Common.{◌≡◌, suc, List, ◌++◌, drop, Some, slice_get, length, w64, rules, refl, ap, subst, ◌∙◌, add-one}
use Rattle.std.proofs.lemmas.Int.{to_z-of_z}
use Rattle.std.proofs.lemmas.Option.{slice_get_read}
use Rattle.tt_parts.specs.declared.partition.Partition.{Partition}
use Rattle.tt_parts.specs.Partitions.{part_at, parts_from, parts_of}
use Rattle.tt_parts.specs.Sets.{AddsPartitions}
use Rattle.tt_parts.proofs.PartitionsLemmas.{parts_from-drop}
use Rattle.tt_parts.proofs.SearchLemmas.{SameAdded, SameAdded-step, SameAdded-first}
use Rattle.tt_parts.proofs.members.add_parts_of.Goals as goal
use Rattle.tt_parts.proofs.members.add_parts_of.Goals.{then-begins_with, else-begins_with}

pub loop-i-init : goal.loop-i-init
loop-i-init c = elim c.if-begins_with.branch [
  | then-begins_with w ↦
      let first = c.begins_with.ensures w.if-begins_with.true ∙ ap Some (to_z-of_z w64 c.args.id.key (search rules)) in
      rw w.first-is (SameAdded-first c.args.members.now c.args.id.table c.args.id.key c.args.columns.now c.args.row.now.values c.args.number first c.requires.key)
  | else-begins_with w ↦ rw w.first-is (record { since = λ p. refl })
]

pub loop-i-preserved : goal.loop-i-preserved
loop-i-preserved c =
    let columns = c.args.columns.now in
    let values = c.args.row.now.values in
    let table = c.args.id.table in
    let number = c.args.number in
    let i = c.loop-i.i in
    let column = c.index-columns-i.result in
    let members = c.loop-i.members in
    let all = parts_of table columns c.args.row.now in
    let rest = parts_from table (suc i) (drop (suc i) columns) (drop (suc i) values) in
    let here : slice_get columns i ≡ Some column = slice_get_read columns (length columns) i column refl c.loop-i-test.true c.index-columns-i.is in
    let part = part_at table i column (slice_get values i) in
    let added : AddsPartitions members part number c.add_part.new.members = subst (λ v. AddsPartitions members (part_at table i column v) number c.add_part.new.members) c.get.ensures c.in_ok-add_part.ensures in
    let before : SameAdded members (part ++ rest) c.args.members.now all number = subst (λ (ps : List Partition). SameAdded members ps c.args.members.now all number) (parts_from-drop table i i columns values column here) c.loop-i.invariant in
    rw add-one (SameAdded-step part rest members c.add_part.new.members c.args.members.now all number added before)
