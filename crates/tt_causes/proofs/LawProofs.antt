-- The proofs of this crate's laws. Other crates cite these lemmas of it, and no others.
use Rattle.tt_causes.specs.Laws.{WhatIsDirtyStaysDirty, DueSlotsHaveCause, CausesAreAsMany, CausesNameWhatGotDirty, CausesLeadToAnEdit, LaterSlotsChangeNoCause, CausesAreFoundByNumbers, DifferentRowsAreDirty, DifferencesLeadToEditedContent, DifferencesLeadToSwitch}
use Rattle.tt_causes.specs.Numbers.{NumbersTellWhatIsDirty, NoNumbersAtFirst, NumbersStayUndue, NumbersGrow, LaterSlotsChangeNoNumber}
use Rattle.tt_causes.proofs.DirtyLemmas as dirty
use Rattle.tt_causes.proofs.CausesLemmas as slots
use Rattle.tt_causes.proofs.NumbersLemmas as numbers
use Rattle.tt_causes.proofs.DifferencesLemmas as rows

pub what_is_dirty_stays_dirty : WhatIsDirtyStaysDirty
what_is_dirty_stays_dirty = dirty.what_is_dirty_stays_dirty

pub due_slots_have_a_cause : DueSlotsHaveCause
due_slots_have_a_cause = slots.due_slots_have_a_cause

pub causes_are_as_many : CausesAreAsMany
causes_are_as_many = slots.causes_are_as_many

pub causes_name_what_got_dirty : CausesNameWhatGotDirty
causes_name_what_got_dirty = slots.causes_name_what_got_dirty

pub causes_lead_to_an_edit : CausesLeadToAnEdit
causes_lead_to_an_edit = slots.causes_lead_to_an_edit

pub later_slots_change_no_cause : LaterSlotsChangeNoCause
later_slots_change_no_cause = slots.later_slots_change_no_cause

pub causes_are_found_by_numbers : CausesAreFoundByNumbers
causes_are_found_by_numbers = numbers.causes_are_found_by_numbers

pub different_rows_are_dirty : DifferentRowsAreDirty
different_rows_are_dirty = rows.different_rows_are_dirty

pub differences_lead_to_the_edited_content : DifferencesLeadToEditedContent
differences_lead_to_the_edited_content = rows.differences_lead_to_the_edited_content

pub differences_lead_to_the_switch : DifferencesLeadToSwitch
differences_lead_to_the_switch = rows.differences_lead_to_the_switch

pub numbers_tell_what_is_dirty : NumbersTellWhatIsDirty
numbers_tell_what_is_dirty = numbers.numbers_tell_what_is_dirty

pub no_numbers_at_first : NoNumbersAtFirst
no_numbers_at_first = numbers.no_numbers_at_first

pub numbers_stay_undue : NumbersStayUndue
numbers_stay_undue = numbers.numbers_stay_undue

pub numbers_grow : NumbersGrow
numbers_grow = numbers.numbers_grow

pub later_slots_change_no_number : LaterSlotsChangeNoNumber
later_slots_change_no_number = numbers.later_slots_change_no_number
