-- The ground of some accounts, and the slots that stand on it.
use Rattle.std.proofs.Common.{◌≡◌, ℕ, pos, List, [], ◌∷◌, ◌++◌, None, map, refl}
use Rattle.std.specs.List.{range_with_len}
use Rattle.tt_values.specs.declared.statement.Write.{Write}
use Rattle.tt_values.specs.declared.action.Action.{Action}
use Rattle.tt_values.specs.declared.statement.Write.TheVariants.{Insert}
use Rattle.tt_values.specs.Action.{action_of, whole_of}
use Rattle.tt_values.specs.RowWrites.{Slots, row_writes, content_of}
use Rattle.tt_values.proofs.worked_rows.Accounts.{ann, bob, eve, account, of_id, of_owner, owner_to, balance_by, insert, update, delete, slot_of, slot_of_writes, whole_slot_of, slots_of, two_inserts_of_a_key}
use Rattle.tt_repair_laws.specs.declared.edit.Edit.TheVariants.{Cancel, Replace}
use Rattle.tt_horizon.specs.Ground.{inserts_of_tables, in_pieces, ground_of_content, on_ground, moved, moved_edit}

-- five slots leave two of three accounts, one with a new balance; then one slot is cancelled, and one gives Ann's account to Eve
abbrev pub accounts_and_more : Slots
accounts_and_more =
    slots_of (insert 2 bob 20 ∷ insert 1 ann 10 ∷ insert 3 bob 30 ∷ update (balance_by 5) (of_owner ann) ∷ delete (of_id 3) ∷ [])
    ++ None
    ∷ slot_of (update (owner_to eve) (of_owner ann))
    ∷ []

-- one action with the accounts after the first five slots, by key
abbrev pub two_accounts : List Action
two_accounts = action_of (insert 1 ann 15 ∷ insert 2 bob 20 ∷ []) ∷ []

-- it is their ground
ground_of_accounts : ground_of_content 1 (content_of accounts_and_more 5) ≡ two_accounts
unfolding row_writes
ground_of_accounts = refl

-- an account in another table, and two in the first
abbrev rows_of_two_tables : Slots
rows_of_two_tables = slots_of (Insert 1 (account 1 eve 7) ∷ insert 2 bob 20 ∷ insert 1 ann 10 ∷ [])

-- the rows of a table come before those of the next one, and other tables don't count
tables_in_order :
    (inserts_of_tables 2 (content_of rows_of_two_tables 3) ≡ insert 1 ann 10 ∷ insert 2 bob 20 ∷ Insert 1 (account 1 eve 7) ∷ [])
    × (inserts_of_tables 1 (content_of rows_of_two_tables 3) ≡ insert 1 ann 10 ∷ insert 2 bob 20 ∷ [])
unfolding row_writes
tables_in_order = (refl, refl)

-- the slots on this ground
abbrev pub accounts_on_ground : Slots
accounts_on_ground = on_ground two_accounts accounts_and_more 5

-- the cancelled slot is an action of no writes there
slots_on_ground : accounts_on_ground ≡ slot_of_writes (insert 1 ann 15 ∷ insert 2 bob 20 ∷ []) ∷ slot_of_writes [] ∷ slot_of (update (owner_to eve) (of_owner ann)) ∷ []
slots_on_ground = refl

-- time 5 comes to stand at 1, time 7 at 3
places : (moved 5 1 5 ≡ 1) × (moved 5 1 6 ≡ 2) × (moved 5 1 7 ≡ 3) × (moved_edit 5 1 (Cancel 7) ≡ Cancel 3) × (moved_edit 5 1 (Replace 6 (whole_of [])) ≡ Replace 2 (whole_of []))
places = (refl, refl, refl, refl, refl)

-- from time 5 on the accounts are the same
same_accounts :
    (content_of accounts_on_ground 1 0 ≡ (pos 1, account 1 ann 15) ∷ (pos 2, account 2 bob 20) ∷ [])
    × (content_of accounts_on_ground 2 0 ≡ content_of accounts_and_more 6 0)
    × (content_of accounts_on_ground 3 0 ≡ (pos 1, account 1 eve 15) ∷ (pos 2, account 2 bob 20) ∷ [])
    × (content_of accounts_and_more 7 0 ≡ (pos 1, account 1 eve 15) ∷ (pos 2, account 2 bob 20) ∷ [])
unfolding row_writes
same_accounts = (refl, refl, refl, refl)

-- a whole action stays whole behind a ground, and leaves no row in one if it wrote nothing
abbrev whole_slot_last : Slots
whole_slot_last = slot_of (insert 2 eve 3) ∷ whole_slot_of two_inserts_of_a_key ∷ []

whole_slots_stay :
    (on_ground (ground_of_content 1 (content_of whole_slot_last 1)) whole_slot_last 1 ≡ whole_slot_last)
    × (ground_of_content 1 (content_of whole_slot_last 2) ≡ action_of (insert 2 eve 3 ∷ []) ∷ [])
unfolding row_writes
whole_slots_stay = (refl, refl)

-- no rows have no ground; the last piece may have fewer items, and none is empty
pieces :
    (ground_of_content 1 (content_of accounts_and_more 0) ≡ [])
    × (in_pieces {X = ℕ} 2 (1 ∷ 2 ∷ 3 ∷ 4 ∷ []) ≡ (1 ∷ 2 ∷ []) ∷ (3 ∷ 4 ∷ []) ∷ [])
    × (in_pieces {X = ℕ} 2 (1 ∷ 2 ∷ 3 ∷ []) ≡ (1 ∷ 2 ∷ []) ∷ (3 ∷ []) ∷ [])
unfolding row_writes
pieces = (refl, refl, refl)

-- 17 accounts
abbrev many_accounts : List Write
many_accounts = map (λ id. insert id ann 0) (range_with_len 1 17)

-- their ground has an action of 16 of them and one of the last
ground_of_many : ground_of_content 1 (content_of (slots_of many_accounts) 17) ≡ action_of (map (λ id. insert id ann 0) (range_with_len 1 16)) ∷ action_of (insert 17 ann 0 ∷ []) ∷ []
unfolding row_writes
ground_of_many = refl
