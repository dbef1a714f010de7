-- The next side of two accounts during a repair, before and after a write is added.
use Rattle.std.proofs.Common.{◌≡◌, ℕ, ℤ, pos, List, [], ◌∷◌, ◌++◌, map, Option, None, Some, refl}
use Rattle.tt_values.specs.declared.row.Row.{Row}
use Rattle.tt_values.specs.RowWrites.{Slots, row_writes}
use Rattle.tt_values.proofs.worked_rows.Accounts.{tables, ann, bob, account, of_id, balance_to, balance_by, insert, update, slot_of, slots_of}
use Rattle.tt_repair_laws.specs.declared.edit.Edit.{Edit}
use Rattle.tt_repair_laws.specs.declared.edit.Edit.TheVariants.{Cancel}
use Rattle.tt_repair_laws.specs.Due.{dirty_after}
use Rattle.tt_repair_laws.specs.NextSide.{current_side, next_side}

abbrev two_accounts : Slots
two_accounts = slots_of (insert 1 ann 10 ∷ insert 2 bob 20 ∷ update (balance_to 0) (of_id 1) ∷ [])

-- the same slots, and one that is added during the repair
abbrev one_slot_more : Slots
one_slot_more = two_accounts ++ slot_of (update (balance_by 5) []) ∷ []

-- the update of account 1 is cancelled
abbrev no_update : List Edit
no_update = Cancel 3 ∷ []

abbrev times : List ℕ
times = 0 ∷ 1 ∷ 2 ∷ 3 ∷ 4 ∷ []

-- an account on the next side after n slots, at each of the times
abbrev next_at_times : Slots → ℕ → ℤ → List (Option Row)
next_at_times W n key = map (next_side tables W no_update n 0 key) times

current_account : map (current_side two_accounts 0 (pos 1)) times ≡ None ∷ Some (account 1 ann 10) ∷ Some (account 1 ann 10) ∷ Some (account 1 ann 0) ∷ Some (account 1 ann 0) ∷ []
unfolding row_writes
current_account = refl

-- before the cancelled slot the next side is the current one, after it account 1 has its old balance
next_account :
    (next_at_times two_accounts 2 (pos 1) ≡ None ∷ Some (account 1 ann 10) ∷ Some (account 1 ann 10) ∷ Some (account 1 ann 0) ∷ Some (account 1 ann 0) ∷ [])
    × (next_at_times two_accounts 3 (pos 1) ≡ None ∷ Some (account 1 ann 10) ∷ Some (account 1 ann 10) ∷ Some (account 1 ann 10) ∷ Some (account 1 ann 10) ∷ [])
unfolding row_writes dirty_after
next_account = (refl, refl)

-- the slot that is added leaves account 1, which is dirty, and account 2 is as on the current side
after_a_write :
    (next_at_times one_slot_more 3 (pos 1) ≡ next_at_times two_accounts 3 (pos 1))
    × (next_at_times one_slot_more 3 (pos 2) ≡ None ∷ None ∷ Some (account 2 bob 20) ∷ Some (account 2 bob 20) ∷ Some (account 2 bob 25) ∷ [])
unfolding row_writes dirty_after
after_a_write = (refl, refl)

-- at the end account 1 has that write too
at_the_end : next_at_times one_slot_more 4 (pos 1) ≡ None ∷ Some (account 1 ann 10) ∷ Some (account 1 ann 10) ∷ Some (account 1 ann 10) ∷ Some (account 1 ann 15) ∷ []
unfolding row_writes dirty_after
at_the_end = refl
