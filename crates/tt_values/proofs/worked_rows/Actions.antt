-- What actions answer, the rows that they write, and their faults.
use Rattle.std.proofs.Common.{◌≡◌, ℕ, ℤ, pos, List, [], ◌∷◌, ◌++◌, Option, None, Some, replicate, refl}
use Rattle.tt_values.specs.declared.value.Value.TheVariants as values
use Rattle.tt_values.specs.declared.row.Row.{Row}
use Rattle.tt_values.specs.declared.statement.Change.TheVariants.{Set}
use Rattle.tt_values.specs.declared.statement.Write.{Write}
use Rattle.tt_values.specs.declared.statement.Write.TheVariants.{Insert, Delete}
use Rattle.tt_values.specs.declared.reply.Reply.{Reply}
use Rattle.tt_values.specs.declared.reply.Reply.TheVariants.{Inserted, Duplicate, Updated, Deleted}
use Rattle.tt_values.specs.declared.checking.CheckError.TheVariants as errors
use Rattle.tt_values.specs.Check.{action_fault}
use Rattle.tt_values.specs.Content.{RowsByKey, Content, RowWrite, empty_content}
use Rattle.tt_values.specs.declared.row_id.RowId.{RowId}
use Rattle.tt_values.specs.Action.{action_of, content_after_action, replies_of, rows_touched, effect_of_action, action_writes}
use Rattle.tt_values.proofs.worked_rows.Accounts.{tables, ann, bob, eve, account, of_id, of_owner, of_balance, owner_to, balance_to, balance_by, insert, update, delete, three_accounts}

-- a row of a table; the row of an account; an account under its key
abbrev row_of : ℕ → ℕ → RowId
row_of table key = record { table = table; key = pos key }

abbrev account_row : ℕ → RowId
account_row id = row_of 0 id

abbrev keyed : ℕ → List ℕ → ℕ → ℤ × Row
keyed id owner balance = (pos id, account id owner balance)

-- what an action of these writes answers, the rows that it touches, its effect, its row writes and
-- the content after it
abbrev replies : List Write → Content → List Reply
replies ws X = replies_of (action_of ws) X

abbrev rows : List Write → Content → List RowId
rows ws X = rows_touched (action_of ws) X

abbrev effect : List Write → Content → List (RowId × Option Row)
effect ws X = effect_of_action (action_of ws) X

abbrev row_writes : ℕ → List Write → Content → List RowWrite
row_writes time ws X = action_writes time (action_of ws) X

abbrev content_after : List Write → Content → Content
content_after ws X = content_after_action (action_of ws) X

-- the accounts after an action on no rows, and after one on the three accounts
abbrev accounts_after : List Write → RowsByKey
accounts_after ws = content_after ws empty_content 0

abbrev accounts : Content
accounts = content_after three_accounts empty_content

-- an insert, a sum, and an insert of the same key: the effect has the row once, with the sum
abbrev insert_sum_insert : List Write
insert_sum_insert = insert 1 ann 10 ∷ update (balance_by 5) (of_id 1) ∷ insert 1 bob 1 ∷ []

replies_one_by_one : replies insert_sum_insert empty_content ≡ Inserted ∷ Updated 1 ∷ Duplicate ∷ []
replies_one_by_one = refl

a_row_written_twice : rows insert_sum_insert empty_content ≡ account_row 1 ∷ account_row 1 ∷ []
a_row_written_twice = refl

a_row_once : effect insert_sum_insert empty_content ≡ (account_row 1, Some (account 1 ann 15)) ∷ []
a_row_once = refl

row_writes_of_the_row : row_writes 7 insert_sum_insert empty_content ≡ record { time = 7; table = 0; key = pos 1; row = Some (account 1 ann 15) } ∷ []
row_writes_of_the_row = refl

its_last_row : accounts_after insert_sum_insert ≡ keyed 1 ann 15 ∷ []
its_last_row = refl

-- an action without writes
empty_action :
    (replies [] accounts ≡ [])
    × (effect [] accounts ≡ [])
    × (row_writes 7 [] accounts ≡ [])
    × (content_after [] accounts 0 ≡ accounts 0)
empty_action = (refl, refl, refl, refl)

-- a row that is inserted and deleted is written, as none
abbrev insert_delete : List Write
insert_delete = insert 1 ann 1 ∷ delete (of_id 1) ∷ []

insert_and_delete :
    (replies insert_delete empty_content ≡ Inserted ∷ Deleted 1 ∷ [])
    × (effect insert_delete empty_content ≡ (account_row 1, None) ∷ [])
    × (accounts_after insert_delete ≡ [])
insert_and_delete = (refl, refl, refl)

-- the key of a deleted row is free for the next write
abbrev insert_again : List Write
insert_again = insert 1 ann 10 ∷ update (balance_to 0) (of_owner ann) ∷ delete (of_balance 0) ∷ insert 1 bob 5 ∷ []

four_writes_of_a_row :
    (replies insert_again empty_content ≡ Inserted ∷ Updated 1 ∷ Deleted 1 ∷ Inserted ∷ [])
    × (effect insert_again empty_content ≡ (account_row 1, Some (account 1 bob 5)) ∷ [])
    × (accounts_after insert_again ≡ keyed 1 bob 5 ∷ [])
four_writes_of_a_row = (refl, refl, refl)

-- a row gets another owner, and is deleted by the new one; or stays, as the old one has it no more
abbrev to_eve : Write
to_eve = update (owner_to eve) (of_id 2)

delete_by_new_owner :
    (replies (to_eve ∷ delete (of_owner eve) ∷ []) accounts ≡ Updated 1 ∷ Deleted 1 ∷ [])
    × (effect (to_eve ∷ delete (of_owner eve) ∷ []) accounts ≡ (account_row 2, None) ∷ [])
    × (content_after (to_eve ∷ delete (of_owner eve) ∷ []) accounts 0 ≡ keyed 1 ann 5 ∷ keyed 3 bob 7 ∷ [])
delete_by_new_owner = (refl, refl, refl)

delete_by_old_owner :
    (replies (to_eve ∷ delete (of_owner ann) ∷ []) accounts ≡ Updated 1 ∷ Deleted 1 ∷ [])
    × (effect (to_eve ∷ delete (of_owner ann) ∷ []) accounts ≡ (account_row 1, None) ∷ (account_row 2, Some (account 2 eve 6)) ∷ [])
delete_by_old_owner = (refl, refl)

-- a write matches the rows that the ones before it made
matches_an_insert :
    (replies (insert 4 bob 0 ∷ update (balance_by 1) (of_owner bob) ∷ []) accounts ≡ Inserted ∷ Updated 2 ∷ [])
    × (effect (insert 4 bob 0 ∷ update (balance_by 1) (of_owner bob) ∷ []) accounts ≡ (account_row 3, Some (account 3 bob 8)) ∷ (account_row 4, Some (account 4 bob 1)) ∷ [])
matches_an_insert = (refl, refl)

matches_an_update : replies (update (balance_to 9) (of_owner ann) ∷ delete (of_balance 9) ∷ delete (of_balance 9) ∷ []) accounts ≡ Updated 2 ∷ Deleted 2 ∷ Deleted 0 ∷ []
matches_an_update = refl

-- the effect stands by table, then by key, whatever the order of the writes
abbrev two_tables : List Write
two_tables = Insert 1 (account 2 bob 0) ∷ insert 3 ann 1 ∷ Insert 1 (account 1 eve 2) ∷ insert 2 ann 3 ∷ []

writes_over_two_tables :
    (rows two_tables empty_content ≡ row_of 1 2 ∷ row_of 0 3 ∷ row_of 1 1 ∷ row_of 0 2 ∷ [])
    × (effect two_tables empty_content
    ≡ (row_of 0 2, Some (account 2 ann 3))
    ∷ (row_of 0 3, Some (account 3 ann 1))
    ∷ (row_of 1 1, Some (account 1 eve 2))
    ∷ (row_of 1 2, Some (account 2 bob 0))
    ∷ [])
writes_over_two_tables = (refl, refl)

-- faults: that of the first write that has one
abbrev good : Write
good = insert 1 ann 1

abbrev sets_key : Write
sets_key = update (Set 0 (values.Int (pos 2))) []

abbrev of_no_table : Write
of_no_table = Delete 1 []

one_faulty_write : action_fault tables (good ∷ sets_key ∷ []) ≡ Some errors.SetsKey
one_faulty_write = refl

two_faulty_writes :
    (action_fault tables (good ∷ sets_key ∷ of_no_table ∷ []) ≡ Some errors.SetsKey)
    × (action_fault tables (good ∷ of_no_table ∷ sets_key ∷ []) ≡ Some errors.NoTable)
two_faulty_writes = (refl, refl)

-- 16 writes are allowed, and 17 are too many, whatever the writes
numbers_of_writes :
    (action_fault tables [] ≡ None)
    × (action_fault tables (replicate 16 good) ≡ None)
    × (action_fault tables (replicate 17 good) ≡ Some errors.TooManyWrites)
    × (action_fault tables (sets_key ∷ replicate 16 good) ≡ Some errors.TooManyWrites)
    × (action_fault tables (replicate 15 good ++ sets_key ∷ []) ≡ Some errors.SetsKey)
numbers_of_writes = (refl, refl, refl, refl, refl)
