-- The proofs of the laws, for proofs in other crates. All other lemmas are private to this crate.
use Rattle.tt_values.specs.Laws.{ShowsLastRowWrite, RowsRise, SlotsFollow, LaterSlotsChangeNothing, PastStays, LastContentStays, NextContent, OneKeyChanges, RowsStayByRisingKey, RowWriteChangesOneRow, LastRowWriteCounts, EarlierSlotsStay, AddedSlotIsNext, AddedSlotLeavesPast, AcceptedInsertsHaveKeys, AcceptedUpdatesKeepKeys, CatalogsGrow}
use Rattle.tt_values.specs.ActionLaws.{WritesLeaveTheirLastContent, ActionLeavesItsLastContent, ActionOfOneWrite, FewWritesAreWhole, EffectiveWritesAreWhole, IdleWritesChangeNothing, UndoneActionsChangeNothing, AllWritesAreTried, UndoneActionsStop, WritesWriteEachRowOnce, ActionWritesEachRowOnce, WrittenRowsAreTouched, WritesFollow, ActionsFollow, UndoneActionsStayUndone, AcceptedActionsHaveKeys}
use Rattle.tt_values.specs.Same.{SameRepliesAreEqual, SameWritesAreEqual, SameActionsAreEqual}
use Rattle.tt_values.proofs.CatalogLemmas as catalogs
use Rattle.tt_values.proofs.ContentLemmas as contents
use Rattle.tt_values.proofs.RowWritesLemmas as slots
use Rattle.tt_values.proofs.CheckLemmas as checks
use Rattle.tt_values.proofs.WritesLemmas as writes
use Rattle.tt_values.proofs.ActionLemmas as actions
use Rattle.tt_values.proofs.SameLemmas as comparisons

pub shows_last_row_write : ShowsLastRowWrite
shows_last_row_write = contents.shows_last_row_write

pub rows_rise : RowsRise
rows_rise = contents.rows_rise

pub slots_follow : SlotsFollow
slots_follow = slots.slots_follow

pub later_slots_change_nothing : LaterSlotsChangeNothing
later_slots_change_nothing = slots.later_slots_change_nothing

pub past_stays : PastStays
past_stays = slots.past_stays

pub last_content_stays : LastContentStays
last_content_stays = slots.last_content_stays

pub next_content : NextContent
next_content = slots.next_content

pub one_key_changes : OneKeyChanges
one_key_changes = contents.one_key_changes

pub rows_stay_by_rising_key : RowsStayByRisingKey
rows_stay_by_rising_key = contents.rows_stay_by_rising_key

pub row_write_changes_one_row : RowWriteChangesOneRow
row_write_changes_one_row = contents.row_write_changes_one_row

pub last_row_write_counts : LastRowWriteCounts
last_row_write_counts = contents.last_row_write_counts

pub earlier_slots_stay : EarlierSlotsStay
earlier_slots_stay = slots.earlier_slots_stay

pub added_slot_is_next : AddedSlotIsNext
added_slot_is_next = slots.added_slot_is_next

pub added_slot_leaves_past : AddedSlotLeavesPast
added_slot_leaves_past = slots.added_slot_leaves_past

pub accepted_inserts_have_keys : AcceptedInsertsHaveKeys
accepted_inserts_have_keys = checks.accepted_inserts_have_keys

pub accepted_updates_keep_keys : AcceptedUpdatesKeepKeys
accepted_updates_keep_keys = checks.accepted_updates_keep_keys

pub writes_leave_their_last_content : WritesLeaveTheirLastContent
writes_leave_their_last_content = writes.writes_leave_their_last_content

pub action_leaves_its_last_content : ActionLeavesItsLastContent
action_leaves_its_last_content = actions.action_leaves_its_last_content

pub action_of_one_write : ActionOfOneWrite
action_of_one_write = actions.action_of_one_write

pub few_writes_are_whole : FewWritesAreWhole
few_writes_are_whole = actions.few_writes_are_whole

pub effective_writes_are_whole : EffectiveWritesAreWhole
effective_writes_are_whole = actions.effective_writes_are_whole

pub idle_writes_change_nothing : IdleWritesChangeNothing
idle_writes_change_nothing = actions.idle_writes_change_nothing

pub undone_actions_change_nothing : UndoneActionsChangeNothing
undone_actions_change_nothing = actions.undone_actions_change_nothing

pub all_writes_are_tried : AllWritesAreTried
all_writes_are_tried = actions.all_writes_are_tried

pub undone_actions_stop : UndoneActionsStop
undone_actions_stop = actions.undone_actions_stop

pub writes_write_each_row_once : WritesWriteEachRowOnce
writes_write_each_row_once = writes.writes_write_each_row_once

pub action_writes_each_row_once : ActionWritesEachRowOnce
action_writes_each_row_once = actions.action_writes_each_row_once

pub written_rows_are_touched : WrittenRowsAreTouched
written_rows_are_touched = actions.written_rows_are_touched

pub writes_follow : WritesFollow
writes_follow = writes.writes_follow

pub actions_follow : ActionsFollow
actions_follow = actions.actions_follow

pub undone_actions_stay_undone : UndoneActionsStayUndone
undone_actions_stay_undone = actions.undone_actions_stay_undone

pub accepted_actions_have_keys : AcceptedActionsHaveKeys
accepted_actions_have_keys = checks.accepted_actions_have_keys

pub same_replies_are_equal : SameRepliesAreEqual
same_replies_are_equal = comparisons.same_replies_are_equal

pub same_writes_are_equal : SameWritesAreEqual
same_writes_are_equal = comparisons.same_writes_are_equal

pub same_actions_are_equal : SameActionsAreEqual
same_actions_are_equal = comparisons.same_actions_are_equal

pub catalogs_grow : CatalogsGrow
catalogs_grow = catalogs.catalogs_grow
