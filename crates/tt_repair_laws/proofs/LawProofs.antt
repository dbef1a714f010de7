-- The proofs of this crate's laws. Other crates cite these lemmas of it, and no others.
use Rattle.tt_repair_laws.specs.Laws.{ActionsAreAffectedByTheirWrites, NoAffectedSlotIsMissed, CleanRowsAgree, DirtyRowsLieInDirtyPartitions, LaterSlotsChangeNoRepair, EditedSlotsAreAsMany, EditedSlotIsNext, UneditedSlotsStay, LaterSlotsStay}
use Rattle.tt_repair_laws.specs.Steps.{DueDependsOnMembers, DirtyRowsDependOnMembers, DirtyRowsGrow, NothingIsDirtyAtFirst, UndueSlotsDirtyNothing, DueSlotsDirtyReexecutedRows, NoSlotIsReexecutedAtFirst, DueSlotsAreReexecuted, UndueSlotsAreNotReexecuted, UnwrittenRowsStay, UntouchedRowsStay, WrittenRowsAreTouched, WrittenRowsAreMatched, UpdatesAndDeletesWriteWhatTheyMatch, ContentAfterIsKept}
use Rattle.tt_repair_laws.specs.NextSide.{LastRowsStay, LastEditedRowsStay, DirtyRowsAreAsEdited, CleanRowsAreAsCurrent, NextSideBeginsAsCurrent, NextSideShowsEditedSlots, UndueSlotsLeaveNextSide, DueSlotsChangeReexecutedRows, LaterSlotsLeaveDirtyRows, NextSideEndsAsEditedSlots}
use Rattle.tt_repair_laws.proofs.EditsLemmas as edits
use Rattle.tt_repair_laws.proofs.AffectedLemmas as affected
use Rattle.tt_repair_laws.proofs.EffectsLemmas as effects
use Rattle.tt_repair_laws.proofs.DirtyLemmas as rows
use Rattle.tt_repair_laws.proofs.MembersLemmas as members
use Rattle.tt_repair_laws.proofs.DueLemmas as due
use Rattle.tt_repair_laws.proofs.StepsLemmas as steps
use Rattle.tt_repair_laws.proofs.LaterSlotsLemmas as later
use Rattle.tt_repair_laws.proofs.NextSideLemmas as sides

pub actions_are_affected_by_their_writes : ActionsAreAffectedByTheirWrites
actions_are_affected_by_their_writes = affected.actions_are_affected_by_their_writes

pub no_affected_slot_is_missed : NoAffectedSlotIsMissed
no_affected_slot_is_missed = due.no_affected_slot_is_missed

pub clean_rows_agree : CleanRowsAgree
clean_rows_agree = due.clean_rows_agree

pub dirty_rows_lie_in_dirty_partitions : DirtyRowsLieInDirtyPartitions
dirty_rows_lie_in_dirty_partitions = due.dirty_rows_lie_in_dirty_partitions

pub later_slots_change_no_repair : LaterSlotsChangeNoRepair
later_slots_change_no_repair = later.later_slots_change_no_repair

pub edited_slots_are_as_many : EditedSlotsAreAsMany
edited_slots_are_as_many = edits.edited_slots_are_as_many

pub edited_slot_is_next : EditedSlotIsNext
edited_slot_is_next = edits.edited_slot_is_next

pub unedited_slots_stay : UneditedSlotsStay
unedited_slots_stay = edits.unedited_slots_stay

pub later_slots_stay : LaterSlotsStay
later_slots_stay = edits.later_slots_stay

pub due_depends_on_members : DueDependsOnMembers
due_depends_on_members = members.due_depends_on_members

pub dirty_rows_depend_on_members : DirtyRowsDependOnMembers
dirty_rows_depend_on_members = members.dirty_rows_depend_on_members

pub dirty_rows_grow : DirtyRowsGrow
dirty_rows_grow = rows.dirty_rows_grow

pub nothing_is_dirty_at_first : NothingIsDirtyAtFirst
nothing_is_dirty_at_first = steps.nothing_is_dirty_at_first

pub undue_slots_dirty_nothing : UndueSlotsDirtyNothing
undue_slots_dirty_nothing = steps.undue_slots_dirty_nothing

pub due_slots_dirty_reexecuted_rows : DueSlotsDirtyReexecutedRows
due_slots_dirty_reexecuted_rows = steps.due_slots_dirty_reexecuted_rows

pub no_slot_is_reexecuted_at_first : NoSlotIsReexecutedAtFirst
no_slot_is_reexecuted_at_first = steps.no_slot_is_reexecuted_at_first

pub due_slots_are_reexecuted : DueSlotsAreReexecuted
due_slots_are_reexecuted = steps.due_slots_are_reexecuted

pub undue_slots_are_not_reexecuted : UndueSlotsAreNotReexecuted
undue_slots_are_not_reexecuted = steps.undue_slots_are_not_reexecuted

pub unwritten_rows_stay : UnwrittenRowsStay
unwritten_rows_stay = steps.unwritten_rows_stay

pub untouched_rows_stay : UntouchedRowsStay
untouched_rows_stay = steps.untouched_rows_stay

pub written_rows_are_touched : WrittenRowsAreTouched
written_rows_are_touched = effects.written_rows_are_touched

pub written_rows_are_matched : WrittenRowsAreMatched
written_rows_are_matched = effects.written_rows_are_matched

pub updates_and_deletes_write_what_they_match : UpdatesAndDeletesWriteWhatTheyMatch
updates_and_deletes_write_what_they_match = effects.updates_and_deletes_write_what_they_match

pub content_after_is_kept : ContentAfterIsKept
content_after_is_kept = steps.content_after_is_kept

pub last_rows_stay : LastRowsStay
last_rows_stay = sides.last_rows_stay

pub last_edited_rows_stay : LastEditedRowsStay
last_edited_rows_stay = sides.last_edited_rows_stay

pub dirty_rows_are_as_edited : DirtyRowsAreAsEdited
dirty_rows_are_as_edited = sides.dirty_rows_are_as_edited

pub clean_rows_are_as_current : CleanRowsAreAsCurrent
clean_rows_are_as_current = sides.clean_rows_are_as_current

pub next_side_begins_as_current : NextSideBeginsAsCurrent
next_side_begins_as_current = sides.next_side_begins_as_current

pub next_side_shows_edited_slots : NextSideShowsEditedSlots
next_side_shows_edited_slots = sides.next_side_shows_edited_slots

pub undue_slots_leave_next_side : UndueSlotsLeaveNextSide
undue_slots_leave_next_side = sides.undue_slots_leave_next_side

pub due_slots_change_reexecuted_rows : DueSlotsChangeReexecutedRows
due_slots_change_reexecuted_rows = sides.due_slots_change_reexecuted_rows

pub later_slots_leave_dirty_rows : LaterSlotsLeaveDirtyRows
later_slots_leave_dirty_rows = sides.later_slots_leave_dirty_rows

pub next_side_ends_as_edited_slots : NextSideEndsAsEditedSlots
next_side_ends_as_edited_slots = sides.next_side_ends_as_edited_slots
