-- Causes of repairs of whole actions.
use Rattle.std.proofs.Common.{◌≡◌, ℕ, [], ◌∷◌, refl}
use Rattle.tt_values.specs.declared.comparison.Comparison.TheVariants.{AtLeast}
use Rattle.tt_values.specs.declared.statement.Write.{Write}
use Rattle.tt_values.specs.Action.{action_of}
use Rattle.tt_values.specs.RowWrites.{Slots, row_writes}
use Rattle.tt_values.proofs.worked_rows.Accounts.{ann, bob, eve, sold, of_id, id_is, of_owner, balance_by, balance_less, balance_compares, insert, update, slot_of, whole_slot_of}
use Rattle.tt_repair_laws.specs.declared.edit.Edit.TheVariants.{Cancel, Replace}
use Rattle.tt_repair_laws.specs.Due.{dirty_after}
use Rattle.tt_causes.specs.Causes.{Edited, Wrote, Names}
use Rattle.tt_causes.proofs.worked_rows.Causes.{all_causes, account_row}

-- an amount is taken from account 1, if that has as much
abbrev take : ℕ → Write
take amount = update (balance_less amount) (id_is 1 ∷ balance_compares AtLeast amount ∷ [])

-- a sale that wasn't made names the account
abbrev two_sales : Slots
two_sales = slot_of (insert 1 ann 10) ∷ whole_slot_of (take 8 ∷ insert 2 sold 8 ∷ []) ∷ whole_slot_of (take 8 ∷ insert 3 sold 8 ∷ []) ∷ []

sale_names_the_account : all_causes two_sales (Cancel 2 ∷ []) ≡ (2, Edited) ∷ (3, Names (account_row 1) 2) ∷ []
unfolding row_writes dirty_after
sale_names_the_account = refl

-- an action that wrote nothing touched the account
abbrev undone_update : Slots
undone_update = slot_of (insert 1 ann 10) ∷ whole_slot_of (update (balance_by 1) (of_owner ann) ∷ update (balance_by 1) (of_id 99) ∷ []) ∷ []

touched_row_counts : all_causes undone_update (Replace 1 (action_of (insert 1 bob 10 ∷ [])) ∷ []) ≡ (1, Edited) ∷ (2, Wrote (account_row 1) 1) ∷ []
unfolding row_writes dirty_after
touched_row_counts = refl

-- 3 are taken three times, the last time after a payment
abbrev three_takings : Slots
three_takings = slot_of (insert 1 ann 5) ∷ whole_slot_of (take 3 ∷ []) ∷ whole_slot_of (take 3 ∷ []) ∷ slot_of (update (balance_by 3) (of_id 1)) ∷ whole_slot_of (take 3 ∷ []) ∷ []

last_taking_wrote : all_causes three_takings (Cancel 4 ∷ []) ≡ (4, Edited) ∷ (5, Wrote (account_row 1) 4) ∷ []
unfolding row_writes dirty_after
last_taking_wrote = refl

-- two accounts were touched before the write without an effect
abbrev two_updates : Slots
two_updates =
    slot_of (insert 1 ann 1)
    ∷ slot_of (insert 2 bob 1)
    ∷ whole_slot_of (update (balance_by 1) (of_owner ann) ∷ update (balance_by 1) (of_owner bob) ∷ update (balance_by 1) (of_id 99) ∷ [])
    ∷ []

first_touched_row_counts : all_causes two_updates (Replace 1 (action_of (insert 1 eve 1 ∷ [])) ∷ []) ≡ (1, Edited) ∷ (3, Wrote (account_row 1) 1) ∷ []
unfolding row_writes dirty_after
first_touched_row_counts = refl

-- a write behind the one without an effect names the account all the same
later_write_names_the_account : all_causes (slot_of (insert 1 ann 1) ∷ whole_slot_of (update (balance_by 1) (of_id 99) ∷ update (balance_by 1) (of_id 1) ∷ []) ∷ []) (Cancel 1 ∷ []) ≡ (1, Edited) ∷ (2, Names (account_row 1) 1) ∷ []
unfolding row_writes dirty_after
later_write_names_the_account = refl

-- a whole action that is due dirties what it touched, though it writes nothing before and after
abbrev undone_before_and_after : Slots
undone_before_and_after =
    slot_of (insert 1 ann 1)
    ∷ slot_of (insert 2 bob 1)
    ∷ whole_slot_of (update (balance_by 1) (of_owner bob) ∷ update (balance_by 1) (id_is 1 ∷ balance_compares AtLeast 5 ∷ []) ∷ [])
    ∷ slot_of (update (balance_by 1) (of_id 2))
    ∷ []

touched_row_is_the_cause : all_causes undone_before_and_after (Replace 1 (action_of (insert 1 ann 2 ∷ [])) ∷ []) ≡ (1, Edited) ∷ (3, Names (account_row 1) 1) ∷ (4, Wrote (account_row 2) 3) ∷ []
unfolding row_writes dirty_after
touched_row_is_the_cause = refl
