-- Single rules for the slots that are due.
use Rattle.std.proofs.Common.{◌≡◌, pos, negsuc, true, false, List, [], ◌∷◌, None, refl}
use Rattle.tt_values.specs.declared.comparison.Comparison.TheVariants.{IsNot, Below, Above, AtLeast}
use Rattle.tt_values.specs.declared.statement.Change.TheVariants.{Add}
use Rattle.tt_values.specs.declared.reply.Reply.TheVariants.{Inserted, Updated}
use Rattle.tt_values.specs.Action.{action_of}
use Rattle.tt_values.specs.RowWrites.{Slots, row_writes}
use Rattle.tt_values.proofs.worked_rows.Accounts.{ann, bob, eve, zed, account, id_is, owner_is, id_compares, owner_compares, balance_compares, of_id, of_owner, owner_to, balance_to, balance_by, insert, update, slot_of, slots_of, two_inserts_of_a_key}
use Rattle.tt_repair_laws.specs.declared.edit.Edit.{Edit}
use Rattle.tt_repair_laws.specs.declared.edit.Edit.TheVariants.{Cancel, Replace}
use Rattle.tt_repair_laws.specs.Edits.{edited_slots}
use Rattle.tt_repair_laws.specs.Due.{dirty_after}
use Rattle.tt_repair_laws.proofs.worked_rows.Repairs.{due_slots, accounts, replies, answered}

-- an account goes to Eve instead of Bob. Due are statements on the owner before, on the owner after, on the owner by
-- the old slots, and on the account; not those on another owner or account
abbrev goes_to_bob : Slots
goes_to_bob =
    slots_of (
    insert 1 ann 10
    ∷ update (owner_to bob) (of_id 1)
    ∷ update (balance_by 1) (of_owner ann)
    ∷ update (balance_by 1) (of_owner eve)
    ∷ update (balance_by 1) (of_owner bob)
    ∷ update (balance_by 1) (id_is 1 ∷ owner_is zed ∷ [])
    ∷ update (balance_by 1) (of_owner zed)
    ∷ update (balance_by 1) (of_id 2)
    ∷ insert 2 ann 5
    ∷ []
    )

abbrev to_eve : List Edit
to_eve = Replace 2 (action_of (update (owner_to eve) (of_id 1) ∷ [])) ∷ []

three_owners_due :
    (due_slots goes_to_bob to_eve ≡ false ∷ true ∷ true ∷ true ∷ true ∷ true ∷ false ∷ false ∷ false ∷ [])
    × (accounts (edited_slots goes_to_bob to_eve) ≡ (pos 1, account 1 eve 11) ∷ (pos 2, account 2 ann 5) ∷ [])
unfolding row_writes dirty_after
three_owners_due = (refl, refl)

-- of two edits of one slot the first counts
first_edit_counts : edited_slots (slots_of two_inserts_of_a_key) (Cancel 1 ∷ Replace 1 (action_of (insert 1 eve 1 ∷ [])) ∷ []) ≡ None ∷ slot_of (insert 1 bob 20) ∷ []
first_edit_counts = refl

-- a slot that is cancelled already is due only with an edit
cancelled_slots :
    (due_slots (None ∷ slot_of (insert 1 bob 20) ∷ []) (Cancel 2 ∷ []) ≡ false ∷ true ∷ [])
    × (due_slots (slot_of (insert 2 ann 10) ∷ None ∷ []) (Replace 2 (action_of (insert 1 bob 20 ∷ [])) ∷ []) ≡ false ∷ true ∷ [])
unfolding row_writes dirty_after
cancelled_slots = (refl, refl)

-- an update that matched nothing is replaced by one that matches an account: the account gets dirty
abbrev matches_nothing : Slots
matches_nothing = slots_of (insert 1 ann 10 ∷ update (balance_to 0) (of_owner bob) ∷ update (balance_by 1) (of_owner eve) ∷ [])

matched_account_is_dirty :
    (due_slots matches_nothing to_eve ≡ false ∷ true ∷ true ∷ [])
    × (accounts (edited_slots matches_nothing to_eve) ≡ (pos 1, account 1 eve 11) ∷ [])
unfolding row_writes dirty_after
matched_account_is_dirty = (refl, refl)

-- an insert is replaced by one of a key that is there: that account gets dirty too, although it stays the same
abbrev two_keys : Slots
two_keys = slots_of (insert 1 ann 10 ∷ insert 2 bob 20 ∷ update (balance_by 1) (of_id 1) ∷ [])

account_of_key_is_dirty :
    (due_slots two_keys (Replace 2 (action_of (insert 1 eve 1 ∷ [])) ∷ []) ≡ false ∷ true ∷ true ∷ [])
    × (accounts (edited_slots two_keys (Replace 2 (action_of (insert 1 eve 1 ∷ [])) ∷ [])) ≡ (pos 1, account 1 ann 11) ∷ [])
unfolding row_writes dirty_after
account_of_key_is_dirty = (refl, refl)

-- a condition that isn't an equality fixes neither a key nor a partition: the whole table is read, also where comparisons leave but one value
abbrev compares_owners : Slots
compares_owners =
    slots_of (
    insert 1 ann 1
    ∷ insert 2 bob 1
    ∷ update (balance_by 1) (owner_is bob ∷ balance_compares Below 5 ∷ [])
    ∷ update (balance_by 1) (owner_compares AtLeast (98 ∷ []) ∷ [])
    ∷ []
    )

comparison_reads_the_table : due_slots compares_owners (Cancel 1 ∷ []) ≡ true ∷ false ∷ false ∷ true ∷ []
unfolding row_writes dirty_after
comparison_reads_the_table = refl

abbrev compares_all : Slots
compares_all =
    slots_of (
    insert 1 ann 1
    ∷ insert 2 bob 1
    ∷ update (balance_by 1) (id_compares Below 2 ∷ balance_compares Above 5 ∷ [])
    ∷ update (balance_by 1) (owner_compares IsNot bob ∷ balance_compares Above 5 ∷ [])
    ∷ update (balance_by 1) (owner_compares Below (98 ∷ []) ∷ balance_compares Above 5 ∷ [])
    ∷ []
    )

abbrev richer : List Edit
richer = Replace 1 (action_of (insert 1 ann 9 ∷ [])) ∷ []

comparisons_name_no_row :
    (due_slots compares_all richer ≡ true ∷ false ∷ true ∷ true ∷ true ∷ [])
    × (accounts (edited_slots compares_all richer) ≡ (pos 1, account 1 ann 12) ∷ (pos 2, account 2 bob 1) ∷ [])
unfolding row_writes dirty_after
comparisons_name_no_row = (refl, refl)

-- a rule in a condition is kept by a repair: each sale is made only while the balance bears it
abbrev sales : Slots
sales =
    slots_of (
    insert 1 ann 10
    ∷ update (Add 2 (negsuc 7)) (id_is 1 ∷ balance_compares AtLeast 8 ∷ [])
    ∷ update (Add 2 (negsuc 7)) (id_is 1 ∷ balance_compares AtLeast 8 ∷ [])
    ∷ []
    )

other_sale_is_made :
    (due_slots sales (Cancel 2 ∷ []) ≡ false ∷ true ∷ true ∷ [])
    × (accounts sales ≡ (pos 1, account 1 ann 2) ∷ [])
    × (accounts (edited_slots sales (Cancel 2 ∷ [])) ≡ (pos 1, account 1 ann 2) ∷ [])
    × (replies sales ≡ answered Inserted ∷ answered (Updated 1) ∷ answered (Updated 0) ∷ [])
    × (replies (edited_slots sales (Cancel 2 ∷ [])) ≡ answered Inserted ∷ None ∷ answered (Updated 1) ∷ [])
unfolding row_writes dirty_after
other_sale_is_made = (refl, refl, refl, refl, refl)
