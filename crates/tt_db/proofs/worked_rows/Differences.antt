-- Differences between generations by the history of a database, computed.
use Rattle.std.proofs.Common.{◌≡◌, ℕ, pos, List, [], ◌∷◌, ◌++◌, map, Option, None, Some, Result, Ok, Err, refl}
use Rattle.tt_values.specs.declared.row.Row.{Row}
use Rattle.tt_values.specs.declared.checking.CheckError.TheVariants as check_errors
use Rattle.tt_values.specs.Action.{action_of}
use Rattle.tt_values.specs.RowWrites.{row_writes}
use Rattle.tt_values.proofs.worked_rows.Accounts.{tables, ann, bob, account, of_owner, balance_by, update, delete, three_accounts}
use Rattle.tt_repair_laws.specs.declared.edit.Edit.TheVariants.{Replace}
use Rattle.tt_causes.specs.Differences.{RowChange}
use Rattle.tt_db.specs.declared.event.Event.{Event}
use Rattle.tt_db.specs.declared.event.Event.TheVariants as events
use Rattle.tt_db.specs.declared.errors.ReadError.{ReadError}
use Rattle.tt_db.specs.declared.errors.ReadError.TheVariants as read_errors
use Rattle.tt_db.specs.Limits.{usual_limits}
use Rattle.tt_db.specs.Database.{Database}
use Rattle.tt_db.specs.Differences.{right_diff, right_diff_in}

abbrev after_events : List Event → Database
after_events history = record { catalog = tables; limits = usual_limits; history = map (λ event. record { worker = 1; event = event }) history }

abbrev changed : ℕ → Option Row → Option Row → RowChange
changed id before after = record { key = pos id; before = before; after = after }

-- a delete is replaced, and the repair has done all slots
abbrev repaired : List Event
repaired =
    map (λ w. events.Write (action_of (w ∷ []))) (three_accounts ++ delete (of_owner ann) ∷ update (balance_by 1) [] ∷ [])
    ++ events.Begin (Replace 4 (action_of (delete (of_owner bob) ∷ [])) ∷ [])
    ∷ events.Step ∷ events.Step ∷ events.Step ∷ events.Step ∷ events.Step ∷ []

abbrev differing : List RowChange
differing = changed 1 None (Some (account 1 ann 6)) ∷ changed 2 None (Some (account 2 ann 7)) ∷ changed 3 (Some (account 3 bob 8)) None ∷ []

under_way :
    let db = after_events repaired in
    (right_diff db 0 ≡ Ok differing)
    × (right_diff db 1 ≡ Err (read_errors.Statement check_errors.NoTable))
    × (right_diff_in db 0 0 ≡ Err (read_errors.NoGeneration 0 0))
unfolding row_writes
under_way = (refl, refl, refl)

-- after the switch they are those of the generation that was closed
switched :
    let db = after_events (repaired ++ events.Switch ∷ []) in
    (right_diff db 0 ≡ Err read_errors.NotRepairing)
    × (right_diff_in db 0 0 ≡ Ok differing)
    × (right_diff_in db 1 0 ≡ Err (read_errors.NoGeneration 0 1))
unfolding row_writes
switched = (refl, refl, refl)
