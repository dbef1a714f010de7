-- A repair of accounts with and without the slots before the horizon.
use Rattle.std.proofs.Common.{◌≡◌, ℕ, zero, suc, pos, Bool, true, false, List, [], ◌∷◌, ◌++◌, length, refl}
use Rattle.tt_values.specs.Content.{RowsByKey}
use Rattle.tt_values.specs.RowWrites.{Slots, row_writes}
use Rattle.tt_values.proofs.worked_rows.Accounts.{tables, ann, bob, eve, account, of_owner, balance_by, insert, update, slot_of}
use Rattle.tt_repair_laws.specs.declared.edit.Edit.{Edit}
use Rattle.tt_repair_laws.specs.declared.edit.Edit.TheVariants.{Cancel}
use Rattle.tt_repair_laws.specs.Edits.{edited_slots}
use Rattle.tt_repair_laws.specs.Due.{content_after, is_due, dirty_after, reexecuted_count}
use Rattle.tt_horizon.specs.Ground.{moved_edit}
use Rattle.tt_horizon.proofs.worked_rows.Grounds.{accounts_and_more, accounts_on_ground}

-- whether each of some slots is due, from slot i + 1 on
abbrev due_from : Slots → List Edit → ℕ → ℕ → List Bool
due_from W E i zero = []
due_from W E i (suc more) = is_due tables W E i ∷ due_from W E (suc i) more

-- whether each slot is due
abbrev due_slots : Slots → List Edit → List Bool
due_slots W E = due_from W E 0 (length W)

-- the accounts after all slots
abbrev accounts : Slots → RowsByKey
accounts W = content_after W (length W) 0

-- after the horizon come an update of Eve's accounts and an insert
abbrev more_slots : Slots
more_slots = slot_of (update (balance_by 1) (of_owner eve)) ∷ slot_of (insert 4 bob 0) ∷ []

-- what is left if Ann keeps her account
abbrev as_kept : RowsByKey
as_kept = (pos 1, account 1 ann 15) ∷ (pos 2, account 2 bob 20) ∷ (pos 4, account 4 bob 0) ∷ []

-- the slot that gave Ann's account to Eve is cancelled: the update of Eve's accounts is due, on the ground as without it
owner_kept :
    (due_slots (accounts_and_more ++ more_slots) (Cancel 7 ∷ []) ≡ false ∷ false ∷ false ∷ false ∷ false ∷ false ∷ true ∷ true ∷ false ∷ [])
    × (due_slots (accounts_on_ground ++ more_slots) (moved_edit 5 1 (Cancel 7) ∷ []) ≡ false ∷ false ∷ true ∷ true ∷ false ∷ [])
    × (reexecuted_count tables (accounts_and_more ++ more_slots) (Cancel 7 ∷ []) 9 ≡ 2)
    × (reexecuted_count tables (accounts_on_ground ++ more_slots) (Cancel 3 ∷ []) 5 ≡ 2)
    × (accounts (accounts_on_ground ++ more_slots) ≡ (pos 1, account 1 eve 16) ∷ (pos 2, account 2 bob 20) ∷ (pos 4, account 4 bob 0) ∷ [])
    × (accounts (edited_slots (accounts_on_ground ++ more_slots) (Cancel 3 ∷ [])) ≡ as_kept)
    × (accounts (edited_slots (accounts_and_more ++ more_slots) (Cancel 7 ∷ [])) ≡ as_kept)
unfolding row_writes dirty_after reexecuted_count
owner_kept = (refl, refl, refl, refl, refl, refl, refl)
