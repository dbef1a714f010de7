-- What writes answer, and the rows that they write.
use Rattle.std.proofs.Common.{◌≡◌, ℕ, pos, negsuc, List, [], ◌∷◌, ◌++◌, length, None, Some, refl}
use Rattle.tt_values.specs.declared.statement.Change.TheVariants.{Add}
use Rattle.tt_values.specs.declared.statement.Write.{Write}
use Rattle.tt_values.specs.declared.statement.Write.TheVariants.{Insert, Update}
use Rattle.tt_values.specs.declared.reply.Reply.{Reply}
use Rattle.tt_values.specs.declared.reply.Reply.TheVariants.{Inserted, Duplicate, Updated, Deleted}
use Rattle.tt_values.specs.Change.{changed}
use Rattle.tt_values.specs.Content.{RowWrite}
use Rattle.tt_values.specs.Effect.{reply_of}
use Rattle.tt_values.specs.RowWrites.{Slots, row_writes, content_of}
use Rattle.tt_values.proofs.worked_rows.Accounts.{ann, bob, eve, zed, max_int, min_int, account, account_of, of_id, of_owner, owner_to, balance_to, balance_by, insert, update, delete, slot_of, slots_of, three_accounts}

-- what a write answers after slots, and after writes of which none is cancelled
abbrev reply_after_slots : Slots → Write → Reply
reply_after_slots W w = reply_of w (content_of W (length W))

abbrev reply_after : List Write → Write → Reply
reply_after writes w = reply_after_slots (slots_of writes) w

abbrev first_insert : Write
first_insert = insert 1 ann 10

-- a row write of the table of accounts that puts a row of key 1
abbrev written_at : ℕ → ℕ → RowWrite
written_at time balance = record { time = time; table = 0; key = pos 1; row = Some (account 1 ann balance) }

-- an insert adds its row once; a second one of the key is a duplicate
inserts : (reply_after [] first_insert ≡ Inserted) × (reply_after (first_insert ∷ []) (insert 1 bob 20) ≡ Duplicate)
unfolding row_writes
inserts = (refl, refl)

-- the row writes of an insert; a duplicate has none
insert_row_writes :
    (row_writes (slots_of (first_insert ∷ [])) 1 ≡ written_at 1 10 ∷ [])
    × (row_writes (slots_of (first_insert ∷ insert 1 bob 20 ∷ [])) 2 ≡ written_at 1 10 ∷ [])
unfolding row_writes
insert_row_writes = (refl, refl)

-- changes of a row: a sum, two columns, none, and one on no column of it
sum : changed (account 1 ann 10) (balance_by 5 ∷ []) ≡ account 1 ann 15
sum = refl

two_changes : changed (account 1 ann 10) (balance_to 0 ∷ owner_to bob ∷ []) ≡ account 1 bob 0
two_changes = refl

no_changes : changed (account 1 ann 10) [] ≡ account 1 ann 10
no_changes = refl

change_past_the_row : changed (account 1 ann 10) (Add 3 (pos 5) ∷ []) ≡ account 1 ann 10
change_past_the_row = refl

-- a sum stops at the bounds of an `i64`
sum_at_max : changed (account_of (pos 1) ann max_int) (balance_by 5 ∷ []) ≡ account_of (pos 1) ann max_int
sum_at_max = refl

sum_at_min : changed (account_of (pos 1) ann min_int) (Add 2 (negsuc 4) ∷ []) ≡ account_of (pos 1) ann min_int
sum_at_min = refl

sum_of_the_bounds : changed (account_of (pos 1) ann max_int) (Add 2 min_int ∷ []) ≡ account_of (pos 1) ann (negsuc 0)
sum_of_the_bounds = refl

-- the reply counts a row at the bound too
update_at_max : reply_after (Insert 0 (account_of (pos 1) ann max_int) ∷ []) (update (balance_by 5) (of_id 1)) ≡ Updated 1
unfolding row_writes
update_at_max = refl

-- an update counts the rows that match: none, and one that stays the same
update_of_no_row : reply_after (first_insert ∷ []) (update (balance_to 0) (of_owner zed)) ≡ Updated 0
unfolding row_writes
update_of_no_row = refl

update_to_the_same : reply_after (first_insert ∷ []) (update (owner_to ann) []) ≡ Updated 1
unfolding row_writes
update_to_the_same = refl

update_without_changes : reply_after (first_insert ∷ []) (Update 0 [] (of_id 1)) ≡ Updated 1
unfolding row_writes
update_without_changes = refl

-- an update that changes no value still makes a row write
row_write_without_changes : row_writes (slots_of (first_insert ∷ Update 0 [] (of_id 1) ∷ [])) 2 ≡ written_at 1 10 ∷ written_at 2 10 ∷ []
unfolding row_writes
row_write_without_changes = refl

-- a row matches by its new owner and no longer by the old one
abbrev to_eve : Write
to_eve = update (owner_to eve) (of_id 1)

abbrev empty_eves : Write
empty_eves = update (balance_to 0) (of_owner eve)

abbrev raise_anns : Write
raise_anns = update (balance_by 7) (of_owner ann)

updates_by_owner : (reply_after (first_insert ∷ to_eve ∷ []) empty_eves ≡ Updated 1) × (reply_after (first_insert ∷ to_eve ∷ empty_eves ∷ []) raise_anns ≡ Updated 0)
unfolding row_writes
updates_by_owner = (refl, refl)

-- with the change of owner cancelled it's the other way round
updates_without_change :
    (reply_after_slots (slot_of first_insert ∷ None ∷ []) empty_eves ≡ Updated 0)
    × (reply_after_slots (slot_of first_insert ∷ None ∷ slot_of empty_eves ∷ []) raise_anns ≡ Updated 1)
unfolding row_writes
updates_without_change = (refl, refl)

-- a row is deleted once, and then its key is free
deletes : (reply_after (first_insert ∷ []) (delete (of_id 1)) ≡ Deleted 1) × (reply_after (first_insert ∷ delete (of_id 1) ∷ []) (delete (of_id 1)) ≡ Deleted 0)
unfolding row_writes
deletes = (refl, refl)

insert_of_a_free_key : reply_after (first_insert ∷ delete (of_id 1) ∷ []) (insert 1 bob 5) ≡ Inserted
unfolding row_writes
insert_of_a_free_key = refl

-- of three accounts one owner's are deleted, then all are updated
abbrev raise_all : Write
raise_all = update (balance_by 1) []

deletes_by_owner : (reply_after three_accounts (delete (of_owner ann)) ≡ Deleted 2) × (reply_after three_accounts (delete (of_owner bob)) ≡ Deleted 1)
unfolding row_writes
deletes_by_owner = (refl, refl)

updates_after_deletes :
    (reply_after (three_accounts ++ delete (of_owner ann) ∷ []) raise_all ≡ Updated 1)
    × (reply_after (three_accounts ++ delete (of_owner bob) ∷ []) raise_all ≡ Updated 2)
unfolding row_writes
updates_after_deletes = (refl, refl)
