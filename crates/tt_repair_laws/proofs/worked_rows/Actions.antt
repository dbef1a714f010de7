-- Repairs of actions of several writes, or none.
use Rattle.std.proofs.Common.{◌≡◌, pos, true, false, List, [], ◌∷◌, None, Some, refl}
use Rattle.tt_values.specs.declared.row_id.RowId.{RowId}
use Rattle.tt_values.specs.declared.reply.Reply.TheVariants.{Inserted, Duplicate, Updated, Deleted}
use Rattle.tt_values.specs.Action.{action_of}
use Rattle.tt_values.specs.RowWrites.{Slots, slot_after, row_writes}
use Rattle.tt_values.proofs.worked_rows.Accounts.{tables, ann, bob, eve, account, of_id, of_owner, owner_to, balance_to, balance_by, insert, update, delete, slot_of, slot_of_writes}
use Rattle.tt_repair_laws.specs.declared.edit.Edit.{Edit}
use Rattle.tt_repair_laws.specs.declared.edit.Edit.TheVariants.{Cancel, Replace}
use Rattle.tt_repair_laws.specs.Edits.{edited_slots}
use Rattle.tt_repair_laws.specs.Due.{content_after, slot_rows_written, slot_rows_matched, dirty_after, reexecuted_count}
use Rattle.tt_repair_laws.proofs.worked_rows.Repairs.{due_slots, replies, accounts}

-- an insert is cancelled: an action whose second write sees what its first one left is due, and an insert of another key isn't
abbrev moved_account : Slots
moved_account = slot_of (insert 1 ann 10) ∷ slot_of_writes (update (owner_to eve) (of_owner ann) ∷ update (balance_to 0) (of_owner eve) ∷ []) ∷ slot_of (insert 2 ann 1) ∷ []

insert_before_action_cancelled :
    (replies moved_account ≡ Some (Inserted ∷ []) ∷ Some (Updated 1 ∷ Updated 1 ∷ []) ∷ Some (Inserted ∷ []) ∷ [])
    × (accounts moved_account ≡ (pos 1, account 1 eve 0) ∷ (pos 2, account 2 ann 1) ∷ [])
    × (due_slots moved_account (Cancel 1 ∷ []) ≡ true ∷ true ∷ false ∷ [])
    × (reexecuted_count tables moved_account (Cancel 1 ∷ []) 3 ≡ 2)
    × (replies (edited_slots moved_account (Cancel 1 ∷ [])) ≡ None ∷ Some (Updated 0 ∷ Updated 0 ∷ []) ∷ Some (Inserted ∷ []) ∷ [])
    × (accounts (edited_slots moved_account (Cancel 1 ∷ [])) ≡ (pos 2, account 2 ann 1) ∷ [])
unfolding row_writes dirty_after reexecuted_count
insert_before_action_cancelled = (refl, refl, refl, refl, refl, refl)

-- an insert is replaced by an action that then gives the account to Eve: the update of her accounts is due
abbrev no_account_of_eve : Slots
no_account_of_eve = slot_of (insert 1 ann 10) ∷ slot_of (update (balance_by 1) (of_owner eve)) ∷ []

abbrev insert_for_eve : List Edit
insert_for_eve = Replace 1 (action_of (insert 1 ann 10 ∷ update (owner_to eve) (of_id 1) ∷ [])) ∷ []

insert_replaced_by_action :
    (replies no_account_of_eve ≡ Some (Inserted ∷ []) ∷ Some (Updated 0 ∷ []) ∷ [])
    × (due_slots no_account_of_eve insert_for_eve ≡ true ∷ true ∷ [])
    × (reexecuted_count tables no_account_of_eve insert_for_eve 2 ≡ 2)
    × (replies (edited_slots no_account_of_eve insert_for_eve) ≡ Some (Inserted ∷ Updated 1 ∷ []) ∷ Some (Updated 1 ∷ []) ∷ [])
    × (accounts (edited_slots no_account_of_eve insert_for_eve) ≡ (pos 1, account 1 eve 11) ∷ [])
unfolding row_writes dirty_after reexecuted_count
insert_replaced_by_action = (refl, refl, refl, refl, refl)

abbrev account_1 : RowId
account_1 = record { table = 0; key = pos 1 }

-- an action inserts a row and deletes it: it wrote the row, and once it is cancelled each later action on the row is due
abbrev insert_and_delete : Slots
insert_and_delete =
    slot_of_writes (insert 1 ann 10 ∷ delete (of_id 1) ∷ [])
    ∷ slot_of (insert 1 bob 5)
    ∷ slot_of (update (balance_by 1) (of_owner bob))
    ∷ slot_of (update (balance_by 1) (of_owner ann))
    ∷ slot_of (insert 2 eve 0)
    ∷ []

deleted_row_is_written :
    (slot_rows_written (slot_after insert_and_delete 0) (content_after insert_and_delete 0) ≡ account_1 ∷ account_1 ∷ [])
    × (due_slots insert_and_delete (Cancel 1 ∷ []) ≡ true ∷ true ∷ true ∷ false ∷ false ∷ [])
    × (reexecuted_count tables insert_and_delete (Cancel 1 ∷ []) 5 ≡ 3)
    × (accounts (edited_slots insert_and_delete (Cancel 1 ∷ [])) ≡ (pos 1, account 1 bob 6) ∷ (pos 2, account 2 eve 0) ∷ [])
unfolding row_writes dirty_after reexecuted_count
deleted_row_is_written = (refl, refl, refl, refl)

-- an insert is cancelled: due is an action that inserts its key and deletes the row, as its replies change
abbrev insert_and_delete_again : Slots
insert_and_delete_again = slot_of (insert 1 bob 5) ∷ slot_of_writes (insert 1 ann 10 ∷ delete (of_owner ann) ∷ []) ∷ []

insert_before_delete_cancelled :
    (replies insert_and_delete_again ≡ Some (Inserted ∷ []) ∷ Some (Duplicate ∷ Deleted 0 ∷ []) ∷ [])
    × (accounts insert_and_delete_again ≡ (pos 1, account 1 bob 5) ∷ [])
    × (due_slots insert_and_delete_again (Cancel 1 ∷ []) ≡ true ∷ true ∷ [])
    × (replies (edited_slots insert_and_delete_again (Cancel 1 ∷ [])) ≡ None ∷ Some (Inserted ∷ Deleted 1 ∷ []) ∷ [])
    × (accounts (edited_slots insert_and_delete_again (Cancel 1 ∷ [])) ≡ [])
unfolding row_writes dirty_after
insert_before_delete_cancelled = (refl, refl, refl, refl, refl)

-- each write of an action matches rows in its turn: the delete matches the account that the update gave to Bob
abbrev one_account : Slots
one_account = slot_of (insert 1 ann 10) ∷ slot_of (delete (of_owner bob)) ∷ slot_of (update (balance_by 1) (of_owner ann)) ∷ slot_of (insert 1 eve 2) ∷ []

abbrev delete_for_bob : List Edit
delete_for_bob = Replace 2 (action_of (update (owner_to bob) (of_owner ann) ∷ delete (of_owner bob) ∷ [])) ∷ []

writes_match_in_their_turn :
    (slot_rows_matched (slot_after (edited_slots one_account delete_for_bob) 1) (content_after (edited_slots one_account delete_for_bob) 1) ≡ account_1 ∷ account_1 ∷ [])
    × (due_slots one_account delete_for_bob ≡ false ∷ true ∷ true ∷ true ∷ [])
    × (replies one_account ≡ Some (Inserted ∷ []) ∷ Some (Deleted 0 ∷ []) ∷ Some (Updated 1 ∷ []) ∷ Some (Duplicate ∷ []) ∷ [])
    × (replies (edited_slots one_account delete_for_bob) ≡ Some (Inserted ∷ []) ∷ Some (Updated 1 ∷ Deleted 1 ∷ []) ∷ Some (Updated 0 ∷ []) ∷ Some (Inserted ∷ []) ∷ [])
    × (accounts (edited_slots one_account delete_for_bob) ≡ (pos 1, account 1 eve 2) ∷ [])
unfolding row_writes dirty_after
writes_match_in_their_turn = (refl, refl, refl, refl, refl)

-- an action without writes isn't affected, and in place of an insert it leaves no row
abbrev insert_then_nothing : Slots
insert_then_nothing = slot_of (insert 1 ann 10) ∷ slot_of_writes [] ∷ []

replaced_by_no_writes :
    (due_slots insert_then_nothing (Replace 1 (action_of []) ∷ []) ≡ true ∷ false ∷ [])
    × (replies (edited_slots insert_then_nothing (Replace 1 (action_of []) ∷ [])) ≡ Some [] ∷ Some [] ∷ [])
    × (accounts (edited_slots insert_then_nothing (Replace 1 (action_of []) ∷ [])) ≡ [])
unfolding row_writes dirty_after
replaced_by_no_writes = (refl, refl, refl)
