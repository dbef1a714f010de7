-- Repairs of accounts: the slots that are due, the replies, and the accounts at the end.
use Rattle.std.proofs.Common.{◌≡◌, ℕ, zero, suc, pos, Bool, true, false, List, [], ◌∷◌, ◌++◌, length, Option, None, Some, refl}
use Rattle.tt_values.specs.declared.reply.Reply.{Reply}
use Rattle.tt_values.specs.declared.reply.Reply.TheVariants.{Inserted, Duplicate, Updated, Deleted}
use Rattle.tt_values.specs.Content.{RowsByKey}
use Rattle.tt_values.specs.Action.{action_of}
use Rattle.tt_values.specs.RowWrites.{Slots, slot_after, slot_replies, row_writes}
use Rattle.tt_values.proofs.worked_rows.Accounts.{tables, ann, bob, eve, account, of_id, of_owner, owner_to, balance_by, insert, update, delete, slot_of, slots_of, two_inserts_of_a_key, insert_and_update, change_of_owner, insert_after_delete, three_accounts}
use Rattle.tt_repair_laws.specs.declared.edit.Edit.{Edit}
use Rattle.tt_repair_laws.specs.declared.edit.Edit.TheVariants.{Cancel, Replace}
use Rattle.tt_repair_laws.specs.Edits.{edited_slots}
use Rattle.tt_repair_laws.specs.Due.{content_after, is_due, dirty_after, reexecuted_count}

-- whether each of some slots is due, from slot i + 1 on
abbrev due_from : Slots → List Edit → ℕ → ℕ → List Bool
due_from W E i zero = []
due_from W E i (suc more) = is_due tables W E i ∷ due_from W E (suc i) more

abbrev pub due_slots : Slots → List Edit → List Bool
due_slots W E = due_from W E 0 (length W)

-- the replies of some slots, from slot i + 1 on
abbrev replies_from : Slots → ℕ → ℕ → List (Option (List Reply))
replies_from W i zero = []
replies_from W i (suc more) = slot_replies (slot_after W i) (content_after W i) ∷ replies_from W (suc i) more

abbrev pub replies : Slots → List (Option (List Reply))
replies W = replies_from W 0 (length W)

-- the replies to a slot of one write
abbrev pub answered : Reply → Option (List Reply)
answered reply = Some (reply ∷ [])

-- the accounts after all slots
abbrev pub accounts : Slots → RowsByKey
accounts W = content_after W (length W) 0

-- an insert is cancelled that another of the same key follows, as a duplicate
abbrev two_inserts : Slots
two_inserts = slots_of two_inserts_of_a_key

first_insert_cancelled :
    (replies two_inserts ≡ answered Inserted ∷ answered Duplicate ∷ [])
    × (due_slots two_inserts (Cancel 1 ∷ []) ≡ true ∷ true ∷ [])
    × (reexecuted_count tables two_inserts (Cancel 1 ∷ []) 2 ≡ 2)
    × (replies (edited_slots two_inserts (Cancel 1 ∷ [])) ≡ None ∷ answered Inserted ∷ [])
    × (accounts (edited_slots two_inserts (Cancel 1 ∷ [])) ≡ (pos 1, account 1 bob 20) ∷ [])
unfolding row_writes dirty_after reexecuted_count
first_insert_cancelled = (refl, refl, refl, refl, refl)

-- a change of owner is cancelled: the updates of both owners' accounts are due
abbrev owner_changes : Slots
owner_changes = slots_of change_of_owner

change_of_owner_cancelled :
    (replies owner_changes ≡ answered Inserted ∷ answered (Updated 1) ∷ answered (Updated 1) ∷ answered (Updated 0) ∷ [])
    × (due_slots owner_changes (Cancel 2 ∷ []) ≡ false ∷ true ∷ true ∷ true ∷ [])
    × (reexecuted_count tables owner_changes (Cancel 2 ∷ []) 4 ≡ 3)
    × (replies (edited_slots owner_changes (Cancel 2 ∷ [])) ≡ answered Inserted ∷ None ∷ answered (Updated 0) ∷ answered (Updated 1) ∷ [])
    × (accounts (edited_slots owner_changes (Cancel 2 ∷ [])) ≡ (pos 1, account 1 ann 17) ∷ [])
unfolding row_writes dirty_after reexecuted_count
change_of_owner_cancelled = (refl, refl, refl, refl, refl)

-- a delete of one owner's accounts is replaced by one of another's: the update of the whole table after it is due
abbrev deletion : Slots
deletion = slots_of (three_accounts ++ delete (of_owner ann) ∷ update (balance_by 1) [] ∷ [])

abbrev delete_bob : List Edit
delete_bob = Replace 4 (action_of (delete (of_owner bob) ∷ [])) ∷ []

delete_replaced :
    (replies deletion ≡ answered Inserted ∷ answered Inserted ∷ answered Inserted ∷ answered (Deleted 2) ∷ answered (Updated 1) ∷ [])
    × (accounts deletion ≡ (pos 3, account 3 bob 8) ∷ [])
    × (due_slots deletion delete_bob ≡ false ∷ false ∷ false ∷ true ∷ true ∷ [])
    × (reexecuted_count tables deletion delete_bob 5 ≡ 2)
    × (replies (edited_slots deletion delete_bob) ≡ answered Inserted ∷ answered Inserted ∷ answered Inserted ∷ answered (Deleted 1) ∷ answered (Updated 2) ∷ [])
    × (accounts (edited_slots deletion delete_bob) ≡ (pos 1, account 1 ann 6) ∷ (pos 2, account 2 ann 7) ∷ [])
unfolding row_writes dirty_after reexecuted_count
delete_replaced = (refl, refl, refl, refl, refl, refl)

-- an insert is cancelled, and all other slots are of another owner: none of them is due
abbrev two_owners : Slots
two_owners = slots_of (insert 1 ann 1 ∷ insert 2 bob 0 ∷ insert 3 bob 0 ∷ update (balance_by 1) (of_owner bob) ∷ update (balance_by 1) (of_owner bob) ∷ [])

insert_of_other_owner_cancelled :
    (due_slots two_owners (Cancel 1 ∷ []) ≡ true ∷ false ∷ false ∷ false ∷ false ∷ [])
    × (reexecuted_count tables two_owners (Cancel 1 ∷ []) 5 ≡ 1)
    × (accounts (edited_slots two_owners (Cancel 1 ∷ [])) ≡ (pos 2, account 2 bob 2) ∷ (pos 3, account 3 bob 2) ∷ [])
unfolding row_writes dirty_after reexecuted_count
insert_of_other_owner_cancelled = (refl, refl, refl)

-- an update is cancelled, and another of the same account is added during the repair
abbrev two_updates : Slots
two_updates = slots_of (insert_and_update ++ update (balance_by 1) (of_id 1) ∷ [])

update_cancelled :
    (accounts two_updates ≡ (pos 1, account 1 ann 1) ∷ [])
    × (due_slots two_updates (Cancel 2 ∷ []) ≡ false ∷ true ∷ true ∷ [])
    × (reexecuted_count tables two_updates (Cancel 2 ∷ []) 3 ≡ 2)
    × (content_after (edited_slots two_updates (Cancel 2 ∷ [])) 2 0 ≡ (pos 1, account 1 ann 10) ∷ [])
    × (accounts (edited_slots two_updates (Cancel 2 ∷ [])) ≡ (pos 1, account 1 ann 11) ∷ [])
unfolding row_writes dirty_after reexecuted_count
update_cancelled = (refl, refl, refl, refl, refl)

-- and a further update changes its owner
abbrev three_updates : Slots
three_updates = two_updates ++ slot_of (update (owner_to eve) (of_id 1)) ∷ []

later_update_is_due :
    (due_slots three_updates (Cancel 2 ∷ []) ≡ false ∷ true ∷ true ∷ true ∷ [])
    × (accounts (edited_slots three_updates (Cancel 2 ∷ [])) ≡ (pos 1, account 1 eve 11) ∷ [])
unfolding row_writes dirty_after
later_update_is_due = (refl, refl)

-- an insert after a delete of its key is cancelled: the account stays deleted
abbrev deleted_account : Slots
deleted_account = slots_of insert_after_delete

insert_after_delete_cancelled :
    (due_slots deleted_account (Cancel 3 ∷ []) ≡ false ∷ false ∷ true ∷ [])
    × (content_after (edited_slots deleted_account (Cancel 3 ∷ [])) 1 0 ≡ (pos 1, account 1 ann 10) ∷ [])
    × (accounts (edited_slots deleted_account (Cancel 3 ∷ [])) ≡ [])
unfolding row_writes dirty_after
insert_after_delete_cancelled = (refl, refl, refl)
