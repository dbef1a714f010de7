-- What whole actions answer, the rows that they touch, and what they leave.
use Rattle.std.proofs.Common.{◌≡◌, ℕ, ℤ, pos, true, false, List, [], ◌∷◌, Some, refl}
use Rattle.tt_values.specs.declared.row.Row.{Row}
use Rattle.tt_values.specs.declared.row_id.RowId.{RowId}
use Rattle.tt_values.specs.declared.comparison.Comparison.TheVariants.{Below, AtLeast}
use Rattle.tt_values.specs.declared.statement.Write.{Write}
use Rattle.tt_values.specs.declared.statement.Write.TheVariants.{Insert, Update}
use Rattle.tt_values.specs.declared.reply.Reply.TheVariants.{Inserted, Duplicate, Updated, Deleted}
use Rattle.tt_values.specs.declared.action.Action.{Action}
use Rattle.tt_values.specs.Content.{RowsByKey, Content, empty_content}
use Rattle.tt_values.specs.Action.{action_of, whole_of, content_after_action, replies_of, rows_touched, effect_of_action, action_writes, is_undone}
use Rattle.tt_values.specs.RowWrites.{Slots, slot_after, slot_replies, row_writes, content_of}
use Rattle.tt_values.proofs.worked_rows.Accounts.{ann, bob, sold, max_int, account, account_of, id_is, of_id, balance_by, balance_less, balance_compares, insert, update, delete, slot_of, whole_slot_of}

-- a row of the table of accounts; an account under its key
abbrev account_row : ℕ → RowId
account_row id = record { table = 0; key = pos id }

abbrev keyed : ℕ → List ℕ → ℕ → ℤ × Row
keyed id owner balance = (pos id, account id owner balance)

-- the accounts after an action
abbrev accounts_after : Action → Content → RowsByKey
accounts_after a X = content_after_action a X 0

-- one account, of Ann
abbrev one_account : Content
one_account = content_after_action (action_of (insert 1 ann 1 ∷ [])) empty_content

-- two inserts of a key: the second has no effect, so no row is written
abbrev two_inserts : List Write
two_inserts = insert 1 ann 1 ∷ insert 1 bob 2 ∷ []

duplicate_undoes :
    (is_undone (whole_of two_inserts) empty_content ≡ true)
    × (replies_of (whole_of two_inserts) empty_content ≡ Inserted ∷ Duplicate ∷ [])
    × (rows_touched (whole_of two_inserts) empty_content ≡ account_row 1 ∷ [])
    × (effect_of_action (whole_of two_inserts) empty_content ≡ [])
    × (action_writes 7 (whole_of two_inserts) empty_content ≡ [])
    × (accounts_after (whole_of two_inserts) empty_content ≡ [])
duplicate_undoes = (refl, refl, refl, refl, refl, refl)

-- an action of the same writes that isn't whole writes the first row
not_whole :
    (is_undone (action_of two_inserts) empty_content ≡ false)
    × (replies_of (action_of two_inserts) empty_content ≡ Inserted ∷ Duplicate ∷ [])
    × (accounts_after (action_of two_inserts) empty_content ≡ keyed 1 ann 1 ∷ [])
not_whole = (refl, refl, refl)

-- a sale takes 8 of account 1, if that has as much, and notes it under another key
abbrev sale : ℕ → List Write
sale id = update (balance_less 8) (id_is 1 ∷ balance_compares AtLeast 8 ∷ []) ∷ insert id sold 8 ∷ []

abbrev two_sales : Slots
two_sales = slot_of (insert 1 ann 10) ∷ whole_slot_of (sale 2) ∷ whole_slot_of (sale 3) ∷ []

-- there is enough for the first sale alone: of the second the insert isn't carried out
second_sale_is_undone :
    (slot_replies (slot_after two_sales 1) (content_of two_sales 1) ≡ Some (Updated 1 ∷ Inserted ∷ []))
    × (slot_replies (slot_after two_sales 2) (content_of two_sales 2) ≡ Some (Updated 0 ∷ []))
    × (content_of two_sales 3 0 ≡ keyed 1 ann 2 ∷ keyed 2 sold 8 ∷ [])
unfolding row_writes
second_sale_is_undone = (refl, refl, refl)

-- a row is deleted, and an update that then matches no row brings it back
abbrev delete_then_update : Action
delete_then_update = whole_of (delete (of_id 1) ∷ update (balance_by 1) (of_id 1) ∷ [])

deleted_row_comes_back :
    (replies_of delete_then_update one_account ≡ Deleted 1 ∷ Updated 0 ∷ [])
    × (rows_touched delete_then_update one_account ≡ account_row 1 ∷ [])
    × (accounts_after delete_then_update one_account ≡ keyed 1 ann 1 ∷ [])
deleted_row_comes_back = (refl, refl, refl)

-- each write has an effect on what the ones before it left
abbrev delete_then_insert : Action
delete_then_insert = whole_of (delete (of_id 1) ∷ insert 1 bob 1 ∷ update (balance_by 1) (balance_compares Below 2 ∷ []) ∷ [])

each_write_has_an_effect :
    (is_undone delete_then_insert one_account ≡ false)
    × (replies_of delete_then_insert one_account ≡ Deleted 1 ∷ Inserted ∷ Updated 1 ∷ [])
    × (accounts_after delete_then_insert one_account ≡ keyed 1 bob 2 ∷ [])
each_write_has_an_effect = (refl, refl, refl)

-- an update that matches has an effect, also if its sum saturates or it changes no value
abbrev at_max : Content
at_max = content_after_action (action_of (Insert 0 (account_of (pos 1) ann max_int) ∷ [])) empty_content

abbrev no_value_changes : Action
no_value_changes = whole_of (update (balance_by 1) (of_id 1) ∷ Update 0 [] (of_id 1) ∷ insert 2 sold 1 ∷ [])

matches_are_effects :
    (replies_of no_value_changes at_max ≡ Updated 1 ∷ Updated 1 ∷ Inserted ∷ [])
    × (accounts_after no_value_changes at_max ≡ (pos 1, account_of (pos 1) ann max_int) ∷ keyed 2 sold 1 ∷ [])
matches_are_effects = (refl, refl)

-- a whole action without writes, and one of a write without an effect
few_writes :
    (replies_of (whole_of []) one_account ≡ [])
    × (is_undone (whole_of []) one_account ≡ false)
    × (accounts_after (whole_of []) one_account ≡ keyed 1 ann 1 ∷ [])
    × (replies_of (whole_of (insert 1 bob 2 ∷ [])) one_account ≡ Duplicate ∷ [])
    × (accounts_after (whole_of (insert 1 bob 2 ∷ [])) one_account ≡ keyed 1 ann 1 ∷ [])
few_writes = (refl, refl, refl, refl, refl)
