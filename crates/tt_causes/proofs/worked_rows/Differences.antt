-- What differs between generations of accounts.
use Rattle.std.proofs.Common.{◌≡◌, ℕ, pos, List, [], ◌∷◌, ◌++◌, Option, None, Some, refl}
use Rattle.tt_values.specs.declared.row.Row.{Row}
use Rattle.tt_values.specs.Action.{action_of}
use Rattle.tt_values.specs.RowWrites.{Slots, row_writes}
use Rattle.tt_values.proofs.worked_rows.Accounts.{ann, bob, account, of_id, of_owner, balance_by, update, delete, slots_of, insert_and_update, three_accounts}
use Rattle.tt_repair_laws.specs.declared.edit.Edit.{Edit}
use Rattle.tt_repair_laws.specs.declared.edit.Edit.TheVariants.{Cancel, Replace}
use Rattle.tt_repair_laws.specs.Due.{content_after}
use Rattle.tt_causes.specs.Differences.{RowChange, differences}

abbrev changed : ℕ → Option Row → Option Row → RowChange
changed id before after = record { key = pos id; before = before; after = after }

-- a delete is replaced: two accounts are there again, and another one is gone
abbrev deletion : Slots
deletion = slots_of (three_accounts ++ delete (of_owner ann) ∷ update (balance_by 1) [] ∷ [])

abbrev delete_bob : List Edit
delete_bob = Replace 4 (action_of (delete (of_owner bob) ∷ [])) ∷ []

rows_come_and_go :
    (differences deletion delete_bob 3 0 ≡ [])
    × (differences deletion delete_bob 4 0 ≡ changed 1 None (Some (account 1 ann 5)) ∷ changed 2 None (Some (account 2 ann 6)) ∷ changed 3 (Some (account 3 bob 7)) None ∷ [])
    × (differences deletion delete_bob 5 0 ≡ changed 1 None (Some (account 1 ann 6)) ∷ changed 2 None (Some (account 2 ann 7)) ∷ changed 3 (Some (account 3 bob 8)) None ∷ [])
unfolding row_writes
rows_come_and_go = (refl, refl, refl)

-- both sides are of the slots that are done, not of now: the update behind them doesn't count
abbrev two_updates : Slots
two_updates = slots_of (insert_and_update ++ update (balance_by 1) (of_id 1) ∷ [])

slots_to_come_do_not_differ :
    (differences two_updates (Cancel 2 ∷ []) 2 0 ≡ changed 1 (Some (account 1 ann 0)) (Some (account 1 ann 10)) ∷ [])
    × (content_after two_updates 3 0 ≡ (pos 1, account 1 ann 1) ∷ [])
unfolding row_writes
slots_to_come_do_not_differ = (refl, refl)
