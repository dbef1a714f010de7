-- Repairs of whole actions: which are due, also of those that write nothing.
use Rattle.std.proofs.Common.{◌≡◌, ℕ, pos, true, false, List, [], ◌∷◌, codes, None, Some, refl}
use Rattle.tt_values.specs.declared.row_id.RowId.{RowId}
use Rattle.tt_values.specs.declared.comparison.Comparison.TheVariants.{AtLeast}
use Rattle.tt_values.specs.declared.statement.Write.{Write}
use Rattle.tt_values.specs.declared.reply.Reply.TheVariants.{Inserted, Duplicate, Updated, Deleted}
use Rattle.tt_values.specs.Action.{action_of, whole_of}
use Rattle.tt_values.specs.RowWrites.{Slots, slot_after, row_writes}
use Rattle.tt_values.proofs.worked_rows.Accounts.{tables, ann, bob, eve, sold, account, id_is, of_id, of_owner, balance_by, balance_less, balance_compares, insert, update, delete, slot_of, slot_of_writes, whole_slot_of}
use Rattle.tt_repair_laws.specs.declared.edit.Edit.{Edit}
use Rattle.tt_repair_laws.specs.declared.edit.Edit.TheVariants.{Cancel, Replace}
use Rattle.tt_repair_laws.specs.Edits.{edited_slots}
use Rattle.tt_repair_laws.specs.Due.{content_after, slot_rows_written, slot_rows_touched, slot_rows_matched, dirty_after, reexecuted_count}
use Rattle.tt_repair_laws.proofs.worked_rows.Repairs.{due_slots, replies, accounts}

abbrev account_row : ℕ → RowId
account_row id = record { table = 0; key = pos id }

-- a whole action that takes an amount from account 1, if that has as much
abbrev take : ℕ → Write
take amount = update (balance_less amount) (id_is 1 ∷ balance_compares AtLeast amount ∷ [])

-- a sale takes 8 and notes it under another key
abbrev sale : ℕ → List Write
sale id = take 8 ∷ insert id sold 8 ∷ []

-- there is enough for one of two sales: the first is cancelled, so the second is carried out
abbrev two_sales : Slots
two_sales = slot_of (insert 1 ann 10) ∷ whole_slot_of (sale 2) ∷ whole_slot_of (sale 3) ∷ []

sale_cancelled :
    (replies two_sales ≡ Some (Inserted ∷ []) ∷ Some (Updated 1 ∷ Inserted ∷ []) ∷ Some (Updated 0 ∷ []) ∷ [])
    × (accounts two_sales ≡ (pos 1, account 1 ann 2) ∷ (pos 2, account 2 sold 8) ∷ [])
    × (due_slots two_sales (Cancel 2 ∷ []) ≡ false ∷ true ∷ true ∷ [])
    × (reexecuted_count tables two_sales (Cancel 2 ∷ []) 3 ≡ 2)
    × (replies (edited_slots two_sales (Cancel 2 ∷ [])) ≡ Some (Inserted ∷ []) ∷ None ∷ Some (Updated 1 ∷ Inserted ∷ []) ∷ [])
    × (accounts (edited_slots two_sales (Cancel 2 ∷ [])) ≡ (pos 1, account 1 ann 2) ∷ (pos 3, account 3 sold 8) ∷ [])
unfolding row_writes dirty_after reexecuted_count
sale_cancelled = (refl, refl, refl, refl, refl, refl)

-- an action that wrote nothing touched the account: it is due once the account is another one's, as its replies change
abbrev undone_update : Slots
undone_update = slot_of (insert 1 ann 10) ∷ whole_slot_of (update (balance_by 1) (of_owner ann) ∷ update (balance_by 1) (of_id 99) ∷ []) ∷ []

abbrev to_bob : List Edit
to_bob = Replace 1 (action_of (insert 1 bob 10 ∷ [])) ∷ []

touched_row_is_dirty :
    (slot_rows_written (slot_after undone_update 1) (content_after undone_update 1) ≡ [])
    × (slot_rows_touched (slot_after undone_update 1) (content_after undone_update 1) ≡ account_row 1 ∷ [])
    × (replies undone_update ≡ Some (Inserted ∷ []) ∷ Some (Updated 1 ∷ Updated 0 ∷ []) ∷ [])
    × (due_slots undone_update to_bob ≡ true ∷ true ∷ [])
    × (reexecuted_count tables undone_update to_bob 2 ≡ 2)
    × (replies (edited_slots undone_update to_bob) ≡ Some (Inserted ∷ []) ∷ Some (Updated 0 ∷ []) ∷ [])
unfolding row_writes dirty_after reexecuted_count
touched_row_is_dirty = (refl, refl, refl, refl, refl, refl)

-- 3 are taken three times, the last time after a payment: without the payment the last isn't carried out
abbrev three_takings : Slots
three_takings =
    slot_of (insert 1 ann 5)
    ∷ whole_slot_of (take 3 ∷ [])
    ∷ whole_slot_of (take 3 ∷ [])
    ∷ slot_of (update (balance_by 3) (of_id 1))
    ∷ whole_slot_of (take 3 ∷ [])
    ∷ []

payment_cancelled :
    (replies three_takings ≡ Some (Inserted ∷ []) ∷ Some (Updated 1 ∷ []) ∷ Some (Updated 0 ∷ []) ∷ Some (Updated 1 ∷ []) ∷ Some (Updated 1 ∷ []) ∷ [])
    × (accounts three_takings ≡ (pos 1, account 1 ann 2) ∷ [])
    × (due_slots three_takings (Cancel 4 ∷ []) ≡ false ∷ false ∷ false ∷ true ∷ true ∷ [])
    × (reexecuted_count tables three_takings (Cancel 4 ∷ []) 5 ≡ 2)
    × (replies (edited_slots three_takings (Cancel 4 ∷ [])) ≡ Some (Inserted ∷ []) ∷ Some (Updated 1 ∷ []) ∷ Some (Updated 0 ∷ []) ∷ None ∷ Some (Updated 0 ∷ []) ∷ [])
    × (accounts (edited_slots three_takings (Cancel 4 ∷ [])) ≡ (pos 1, account 1 ann 2) ∷ [])
unfolding row_writes dirty_after reexecuted_count
payment_cancelled = (refl, refl, refl, refl, refl, refl)

-- a row is there under the key that an action inserts: the action then leaves account 1 as it was
abbrev replacing_action : Slots
replacing_action = slot_of (insert 1 ann 10) ∷ whole_slot_of (update (balance_by 1) (of_id 1) ∷ insert 2 (codes "new") 0 ∷ delete (of_id 1) ∷ []) ∷ []

abbrev key_taken : List Edit
key_taken = Replace 1 (action_of (insert 1 ann 10 ∷ insert 2 (codes "old") 0 ∷ [])) ∷ []

duplicate_undoes :
    (replies replacing_action ≡ Some (Inserted ∷ []) ∷ Some (Updated 1 ∷ Inserted ∷ Deleted 1 ∷ []) ∷ [])
    × (accounts replacing_action ≡ (pos 2, account 2 (codes "new") 0) ∷ [])
    × (due_slots replacing_action key_taken ≡ true ∷ true ∷ [])
    × (reexecuted_count tables replacing_action key_taken 2 ≡ 2)
    × (replies (edited_slots replacing_action key_taken) ≡ Some (Inserted ∷ Inserted ∷ []) ∷ Some (Updated 1 ∷ Duplicate ∷ []) ∷ [])
    × (accounts (edited_slots replacing_action key_taken) ≡ (pos 1, account 1 ann 10) ∷ (pos 2, account 2 (codes "old") 0) ∷ [])
unfolding row_writes dirty_after reexecuted_count
duplicate_undoes = (refl, refl, refl, refl, refl, refl)

-- an action touches the rows of two owners and writes nothing; it stops earlier once the first of them has no row
abbrev two_owners : Slots
two_owners =
    slot_of (insert 1 ann 1)
    ∷ slot_of (insert 2 bob 1)
    ∷ whole_slot_of (update (balance_by 1) (of_owner ann) ∷ update (balance_by 1) (of_owner bob) ∷ update (balance_by 1) (of_id 99) ∷ [])
    ∷ []

abbrev to_eve : List Edit
to_eve = Replace 1 (action_of (insert 1 eve 1 ∷ [])) ∷ []

stops_earlier :
    (slot_rows_touched (slot_after two_owners 2) (content_after two_owners 2) ≡ account_row 1 ∷ account_row 2 ∷ [])
    × (replies two_owners ≡ Some (Inserted ∷ []) ∷ Some (Inserted ∷ []) ∷ Some (Updated 1 ∷ Updated 1 ∷ Updated 0 ∷ []) ∷ [])
    × (due_slots two_owners to_eve ≡ true ∷ false ∷ true ∷ [])
    × (reexecuted_count tables two_owners to_eve 3 ≡ 2)
    × (replies (edited_slots two_owners to_eve) ≡ Some (Inserted ∷ []) ∷ Some (Inserted ∷ []) ∷ Some (Updated 0 ∷ []) ∷ [])
unfolding row_writes dirty_after reexecuted_count
stops_earlier = (refl, refl, refl, refl, refl)

-- a write behind the one without an effect has an equality with a dirty key: the action is due, though it isn't carried out so far
abbrev key_behind : Slots
key_behind = slot_of (insert 1 ann 1) ∷ whole_slot_of (update (balance_by 1) (of_id 99) ∷ update (balance_by 1) (of_id 1) ∷ []) ∷ []

writes_behind_count :
    (slot_rows_touched (slot_after key_behind 1) (content_after key_behind 1) ≡ [])
    × (replies key_behind ≡ Some (Inserted ∷ []) ∷ Some (Updated 0 ∷ []) ∷ [])
    × (due_slots key_behind (Cancel 1 ∷ []) ≡ true ∷ true ∷ [])
    × (reexecuted_count tables key_behind (Cancel 1 ∷ []) 2 ≡ 2)
    × (replies (edited_slots key_behind (Cancel 1 ∷ [])) ≡ None ∷ Some (Updated 0 ∷ []) ∷ [])
unfolding row_writes dirty_after reexecuted_count
writes_behind_count = (refl, refl, refl, refl, refl)

-- an action that writes nothing on both sides is due, and what it touches gets dirty with it: so is the update of account 2
abbrev undone_on_both_sides : Slots
undone_on_both_sides =
    slot_of (insert 1 ann 1)
    ∷ slot_of (insert 2 bob 1)
    ∷ whole_slot_of (update (balance_by 1) (of_owner bob) ∷ update (balance_by 1) (id_is 1 ∷ balance_compares AtLeast 5 ∷ []) ∷ [])
    ∷ slot_of (update (balance_by 1) (of_id 2))
    ∷ []

abbrev one_more : List Edit
one_more = Replace 1 (action_of (insert 1 ann 2 ∷ [])) ∷ []

touched_rows_get_dirty :
    (slot_rows_matched (slot_after (edited_slots undone_on_both_sides one_more) 2) (content_after (edited_slots undone_on_both_sides one_more) 2) ≡ account_row 2 ∷ [])
    × (replies undone_on_both_sides ≡ Some (Inserted ∷ []) ∷ Some (Inserted ∷ []) ∷ Some (Updated 1 ∷ Updated 0 ∷ []) ∷ Some (Updated 1 ∷ []) ∷ [])
    × (due_slots undone_on_both_sides one_more ≡ true ∷ false ∷ true ∷ true ∷ [])
    × (reexecuted_count tables undone_on_both_sides one_more 4 ≡ 3)
    × (replies (edited_slots undone_on_both_sides one_more) ≡ Some (Inserted ∷ []) ∷ Some (Inserted ∷ []) ∷ Some (Updated 1 ∷ Updated 0 ∷ []) ∷ Some (Updated 1 ∷ []) ∷ [])
    × (accounts (edited_slots undone_on_both_sides one_more) ≡ (pos 1, account 1 ann 2) ∷ (pos 2, account 2 bob 2) ∷ [])
unfolding row_writes dirty_after reexecuted_count
touched_rows_get_dirty = (refl, refl, refl, refl, refl, refl)

-- an action becomes whole: the replies stay, and the row goes
abbrev two_inserts : List Write
two_inserts = insert 1 ann 1 ∷ insert 1 bob 2 ∷ []

abbrev nothing_then_inserts : Slots
nothing_then_inserts = whole_slot_of [] ∷ slot_of_writes two_inserts ∷ []

becomes_whole :
    (replies nothing_then_inserts ≡ Some [] ∷ Some (Inserted ∷ Duplicate ∷ []) ∷ [])
    × (accounts nothing_then_inserts ≡ (pos 1, account 1 ann 1) ∷ [])
    × (due_slots nothing_then_inserts (Replace 2 (whole_of two_inserts) ∷ []) ≡ false ∷ true ∷ [])
    × (reexecuted_count tables nothing_then_inserts (Replace 2 (whole_of two_inserts) ∷ []) 2 ≡ 1)
    × (replies (edited_slots nothing_then_inserts (Replace 2 (whole_of two_inserts) ∷ [])) ≡ Some [] ∷ Some (Inserted ∷ Duplicate ∷ []) ∷ [])
    × (accounts (edited_slots nothing_then_inserts (Replace 2 (whole_of two_inserts) ∷ [])) ≡ [])
unfolding row_writes dirty_after reexecuted_count
becomes_whole = (refl, refl, refl, refl, refl, refl)
