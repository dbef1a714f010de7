-- What selects answer at each time.
use Rattle.std.proofs.Common.{◌≡◌, ℕ, pos, List, [], ◌∷◌, ◌++◌, None, refl}
use Rattle.tt_values.specs.declared.statement.Write.{Write}
use Rattle.tt_values.specs.declared.statement.Write.TheVariants.{Insert}
use Rattle.tt_values.specs.declared.reply.Reply.{Reply}
use Rattle.tt_values.specs.declared.reply.Reply.TheVariants.{Rows}
use Rattle.tt_values.specs.Effect.{answer_of}
use Rattle.tt_values.specs.RowWrites.{Slots, row_writes, content_of}
use Rattle.tt_values.proofs.worked_rows.Accounts.{ann, bob, eve, zed, max_int, account, account_of, of_id, of_owner, balance_to, balance_by, insert, update, delete, select, slot_of, slots_of, two_inserts_of_a_key, insert_and_update, change_of_owner, insert_after_delete, three_accounts}

-- all accounts at a time, after slots and after writes of which none is cancelled
abbrev accounts_after_slots : Slots → ℕ → Reply
accounts_after_slots W time = answer_of (select []) (content_of W time)

abbrev accounts_at : List Write → ℕ → Reply
accounts_at writes time = accounts_after_slots (slots_of writes) time

no_accounts : accounts_at [] 0 ≡ Rows []
unfolding row_writes
no_accounts = refl

-- a row is selected by its owner and by no other
selects_by_owner :
    (answer_of (select (of_owner ann)) (content_of (slots_of (insert 1 ann 10 ∷ [])) 1) ≡ Rows (account 1 ann 10 ∷ []))
    × (answer_of (select (of_owner bob)) (content_of (slots_of (insert 1 ann 10 ∷ [])) 1) ≡ Rows [])
unfolding row_writes
selects_by_owner = (refl, refl)

-- a duplicate changes nothing; with the first slot cancelled the second inserts
after_a_duplicate : accounts_at two_inserts_of_a_key 2 ≡ Rows (account 1 ann 10 ∷ [])
unfolding row_writes
after_a_duplicate = refl

after_a_cancelled_slot : accounts_after_slots (None ∷ slot_of (insert 1 bob 20) ∷ []) 2 ≡ Rows (account 1 bob 20 ∷ [])
unfolding row_writes
after_a_cancelled_slot = refl

-- each time has its own rows
before_and_after_an_update :
    (accounts_at insert_and_update 0 ≡ Rows [])
    × (accounts_at insert_and_update 1 ≡ Rows (account 1 ann 10 ∷ []))
    × (accounts_at insert_and_update 2 ≡ Rows (account 1 ann 0 ∷ []))
unfolding row_writes
before_and_after_an_update = (refl, refl, refl)

after_an_update_of_no_row : accounts_at (insert 1 ann 10 ∷ update (balance_to 0) (of_owner zed) ∷ []) 2 ≡ Rows (account 1 ann 10 ∷ [])
unfolding row_writes
after_an_update_of_no_row = refl

after_a_sum_at_max : accounts_at (Insert 0 (account_of (pos 1) ann max_int) ∷ update (balance_by 5) (of_id 1) ∷ []) 2 ≡ Rows (account_of (pos 1) ann max_int ∷ [])
unfolding row_writes
after_a_sum_at_max = refl

-- the row of the account, with its change of owner and without
after_a_change_of_owner : accounts_at change_of_owner 4 ≡ Rows (account 1 eve 0 ∷ [])
unfolding row_writes
after_a_change_of_owner = refl

without_the_change_of_owner :
    accounts_after_slots (slot_of (insert 1 ann 10) ∷ None ∷ slot_of (update (balance_to 0) (of_owner eve)) ∷ slot_of (update (balance_by 7) (of_owner ann)) ∷ []) 4
    ≡ Rows (account 1 ann 17 ∷ [])
unfolding row_writes
without_the_change_of_owner = refl

-- a deleted row is there before, and another one under its key afterwards
around_a_delete :
    (accounts_at insert_after_delete 1 ≡ Rows (account 1 ann 10 ∷ []))
    × (accounts_at insert_after_delete 2 ≡ Rows [])
    × (accounts_at insert_after_delete 3 ≡ Rows (account 1 bob 5 ∷ []))
unfolding row_writes
around_a_delete = (refl, refl, refl)

after_a_cancelled_insert : accounts_after_slots (slot_of (insert 1 ann 10) ∷ slot_of (delete (of_id 1)) ∷ None ∷ []) 3 ≡ Rows []
unfolding row_writes
after_a_cancelled_insert = refl

-- of three accounts one owner's are deleted, then all are updated
after_deletes_by_owner :
    (accounts_at (three_accounts ++ delete (of_owner ann) ∷ update (balance_by 1) [] ∷ []) 5 ≡ Rows (account 3 bob 8 ∷ []))
    × (accounts_at (three_accounts ++ delete (of_owner bob) ∷ update (balance_by 1) [] ∷ []) 5 ≡ Rows (account 1 ann 6 ∷ account 2 ann 7 ∷ []))
unfolding row_writes
after_deletes_by_owner = (refl, refl)
