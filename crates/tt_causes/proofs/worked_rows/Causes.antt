-- Causes of repairs of accounts.
use Rattle.std.proofs.Common.{◌≡◌, ℕ, pos, Bool, true, false, List, [], ◌∷◌, ◌++◌, map, length, Some, refl}
use Rattle.tt_values.specs.declared.row_id.RowId.{RowId}
use Rattle.tt_values.specs.declared.value.Value.TheVariants as values
use Rattle.tt_values.specs.declared.comparison.Comparison.TheVariants.{IsNot, Below, Above, AtLeast}
use Rattle.tt_values.specs.Action.{action_of}
use Rattle.tt_values.specs.RowWrites.{Slots, row_writes}
use Rattle.tt_values.proofs.worked_rows.Accounts.{tables, ann, bob, eve, of_id, id_is, owner_is, id_compares, owner_compares, balance_compares, of_owner, of_balance, owner_to, balance_to, balance_by, balance_less, insert, update, delete, slot_of, slot_of_writes, slots_of, two_inserts_of_a_key, change_of_owner, three_accounts}
use Rattle.tt_parts.specs.declared.partition.Partition.{Partition}
use Rattle.tt_repair_laws.specs.declared.edit.Edit.{Edit}
use Rattle.tt_repair_laws.specs.declared.edit.Edit.TheVariants.{Cancel, Replace}
use Rattle.tt_repair_laws.specs.Edits.{edited_slots}
use Rattle.tt_repair_laws.specs.Due.{dirty_after}
use Rattle.tt_causes.specs.Causes.{Cause, Edited, Wrote, Names, Reads, Scans, causes, leads_to_edit}

-- the slots that are re-executed, each with its cause
abbrev pub all_causes : Slots → List Edit → List (ℕ × Cause)
all_causes W E = causes tables W E (length W)

abbrev pub account_row : ℕ → RowId
account_row id = record { table = 0; key = pos id }

-- the partition of an owner
abbrev accounts_of : List ℕ → Partition
accounts_of owner = record { table = 0; column = 1; value = values.Text owner }

-- an insert is cancelled: the next one is of the same key
key_is_named : all_causes (slots_of two_inserts_of_a_key) (Cancel 1 ∷ []) ≡ (1, Edited) ∷ (2, Names (account_row 1) 1) ∷ []
unfolding row_writes dirty_after
key_is_named = refl

-- a change of owner is cancelled: an update wrote the account, and another reads the accounts of the old owner
owner_is_read : all_causes (slots_of change_of_owner) (Cancel 2 ∷ []) ≡ (2, Edited) ∷ (3, Wrote (account_row 1) 2) ∷ (4, Reads (accounts_of ann) 2) ∷ []
unfolding row_writes dirty_after
owner_is_read = refl

-- a delete is replaced: the update of all accounts wrote the one that is deleted now
row_is_written : all_causes (slots_of (three_accounts ++ delete (of_owner ann) ∷ update (balance_by 1) [] ∷ [])) (Replace 4 (action_of (delete (of_owner bob) ∷ [])) ∷ []) ≡ (4, Edited) ∷ (5, Wrote (account_row 3) 4) ∷ []
unfolding row_writes dirty_after
row_is_written = refl

-- the action of two writes wrote the account whose insert is cancelled
abbrev moved_account : Slots
moved_account = slot_of (insert 1 ann 10) ∷ slot_of_writes (update (owner_to eve) (of_owner ann) ∷ update (balance_to 0) (of_owner eve) ∷ []) ∷ slot_of (insert 2 ann 1) ∷ []

row_is_written_by_action : all_causes moved_account (Cancel 1 ∷ []) ≡ (1, Edited) ∷ (2, Wrote (account_row 1) 1) ∷ []
unfolding row_writes dirty_after
row_is_written_by_action = refl

-- an update by balance reads the whole table
table_is_scanned : all_causes (slots_of (insert 1 ann 10 ∷ insert 2 bob 1 ∷ update (balance_by 1) (of_balance 7) ∷ [])) (Cancel 1 ∷ []) ≡ (1, Edited) ∷ (3, Scans 0 1) ∷ []
unfolding row_writes dirty_after
table_is_scanned = refl

-- slots on another owner's accounts have no cause
others_have_none : all_causes (slots_of (insert 1 ann 1 ∷ insert 2 bob 0 ∷ insert 3 bob 0 ∷ update (balance_by 1) (of_owner bob) ∷ update (balance_by 1) (of_owner bob) ∷ [])) (Cancel 1 ∷ []) ≡ (1, Edited) ∷ []
unfolding row_writes dirty_after
others_have_none = refl

-- of two partitions that are read, the cause is the one that got dirty last: since then both are dirty
last_partition_counts :
    all_causes (slots_of (insert 1 ann 1 ∷ update (owner_to bob) (of_id 1) ∷ update (balance_by 1) (owner_is ann ∷ owner_is bob ∷ []) ∷ [])) (Replace 1 (action_of (insert 1 ann 2 ∷ [])) ∷ [])
    ≡ (1, Edited) ∷ (2, Wrote (account_row 1) 1) ∷ (3, Reads (accounts_of bob) 2) ∷ []
unfolding row_writes dirty_after
last_partition_counts = refl

-- the row that got dirty first counts, not the least that is dirty by now
first_dirty_row_counts : all_causes (slots_of (insert 2 ann 1 ∷ insert 1 bob 1 ∷ update (balance_by 1) [] ∷ [])) (Cancel 1 ∷ Cancel 2 ∷ []) ≡ (1, Edited) ∷ (2, Edited) ∷ (3, Wrote (account_row 2) 1) ∷ []
unfolding row_writes dirty_after
first_dirty_row_counts = refl

-- after a switch, another repair: slots that the first one cancelled or left without an effect have no cause
abbrev after_switch : Slots
after_switch = edited_slots (slots_of change_of_owner) (Cancel 2 ∷ [])

second_repair : all_causes after_switch (Cancel 1 ∷ []) ≡ (1, Edited) ∷ (4, Wrote (account_row 1) 1) ∷ []
unfolding row_writes dirty_after
second_repair = refl

-- a slot before the edited one has no cause, although its row is dirty at the end
earlier_slots_have_none : all_causes (slots_of (insert 1 ann 10 ∷ update (balance_to 0) (of_id 1) ∷ [])) (Cancel 2 ∷ []) ≡ (2, Edited) ∷ []
unfolding row_writes dirty_after
earlier_slots_have_none = refl

-- a condition that compares reads the whole table
comparisons_scan :
    all_causes
    (slots_of (insert 1 ann 1 ∷ insert 2 bob 1 ∷ update (balance_by 1) (owner_is bob ∷ balance_compares Below 5 ∷ []) ∷ update (balance_by 1) (owner_compares AtLeast (98 ∷ []) ∷ []) ∷ []))
    (Cancel 1 ∷ [])
    ≡ (1, Edited) ∷ (4, Scans 0 1) ∷ []
unfolding row_writes dirty_after
comparisons_scan = refl

all_comparisons_scan :
    all_causes
    (
    slots_of (
    insert 1 ann 1
    ∷ insert 2 bob 1
    ∷ update (balance_by 1) (id_compares Below 2 ∷ balance_compares Above 5 ∷ [])
    ∷ update (balance_by 1) (owner_compares IsNot bob ∷ balance_compares Above 5 ∷ [])
    ∷ update (balance_by 1) (owner_compares Below (98 ∷ []) ∷ balance_compares Above 5 ∷ [])
    ∷ []
    )
    )
    (Replace 1 (action_of (insert 1 ann 9 ∷ [])) ∷ [])
    ≡ (1, Edited) ∷ (3, Scans 0 1) ∷ (4, Scans 0 1) ∷ (5, Scans 0 1) ∷ []
unfolding row_writes dirty_after
all_comparisons_scan = refl

-- a sale is cancelled: the other one names the account by its key, as it didn't sell
sale_names_the_account :
    all_causes
    (slots_of (insert 1 ann 10 ∷ update (balance_less 8) (id_is 1 ∷ balance_compares AtLeast 8 ∷ []) ∷ update (balance_less 8) (id_is 1 ∷ balance_compares AtLeast 8 ∷ []) ∷ []))
    (Cancel 2 ∷ [])
    ≡ (2, Edited) ∷ (3, Names (account_row 1) 2) ∷ []
unfolding row_writes dirty_after
sale_names_the_account = refl

-- a chain of causes takes a step for each cause that isn't an edit
abbrev owner_chain : ℕ → Bool
owner_chain steps = leads_to_edit tables (slots_of (insert 1 ann 1 ∷ update (owner_to bob) (of_id 1) ∷ update (balance_by 1) (owner_is ann ∷ owner_is bob ∷ []) ∷ [])) (Replace 1 (action_of (insert 1 ann 2 ∷ [])) ∷ []) steps
    (Some (Reads (accounts_of bob) 2))

chain_has_two_steps : map owner_chain (1 ∷ 2 ∷ 3 ∷ []) ≡ false ∷ true ∷ true ∷ []
unfolding row_writes dirty_after
chain_has_two_steps = refl
