-- Causes of repairs by their histories, computed.
use Rattle.std.proofs.Common.{◌≡◌, ℕ, pos, List, [], ◌∷◌, ◌++◌, map, Option, None, Some, refl}
use Rattle.tt_values.specs.declared.row_id.RowId.{RowId}
use Rattle.tt_values.specs.declared.value.Value.TheVariants as values
use Rattle.tt_values.specs.Action.{action_of}
use Rattle.tt_values.specs.RowWrites.{row_writes}
use Rattle.tt_values.proofs.worked_rows.Accounts.{tables, ann, change_of_owner}
use Rattle.tt_repair_laws.specs.declared.edit.Edit.TheVariants.{Cancel}
use Rattle.tt_repair_laws.specs.Due.{dirty_after}
use Rattle.tt_causes.specs.Causes.{Cause, Edited, Wrote, Reads}
use Rattle.tt_db.specs.declared.limits.Limits.{Limits}
use Rattle.tt_db.specs.declared.event.Event.{Event}
use Rattle.tt_db.specs.declared.event.Event.TheVariants as events
use Rattle.tt_db.specs.Limits.{max_limits, usual_limits}
use Rattle.tt_db.specs.Database.{Database}
use Rattle.tt_db.specs.Causes.{cause_of, cause_in_of}

-- the limits with so many closed generations
abbrev keeping : ℕ → Limits
keeping keep = record max_limits { keep = keep }

-- the database after events
abbrev after_events : Limits → List Event → Database
after_events limits history = record { catalog = tables; limits = limits; history = map (λ event. record { worker = 1; event = event }) history }

abbrev step : Event
step = events.Step

abbrev cancel : ℕ → Event
cancel t = events.Begin (Cancel t ∷ [])

-- a change of owner is cancelled, by a repair that is switched to
abbrev cancelled_change : List Event
cancelled_change = map (λ w. events.Write (action_of (w ∷ []))) change_of_owner ++ cancel 2 ∷ step ∷ step ∷ step ∷ step ∷ events.Switch ∷ []

abbrev first_row : RowId
first_row = record { table = 0; key = pos 1 }

-- the accounts of ann got dirty with a slot
abbrev reads_accounts_of_ann : ℕ → Cause
reads_accounts_of_ann since = Reads (record { table = 0; column = 1; value = values.Text ann }) since

-- the causes of the four slots, and of the numbers before and behind them, which have none
abbrev causes_of : Database → List (Option Cause)
causes_of db = map (cause_of db) (0 ∷ 1 ∷ 2 ∷ 3 ∷ 4 ∷ 5 ∷ [])

abbrev causes_in : Database → ℕ → List (Option Cause)
causes_in db generation = map (cause_in_of db generation) (0 ∷ 1 ∷ 2 ∷ 3 ∷ 4 ∷ 5 ∷ [])

abbrev no_causes : List (Option Cause)
no_causes = None ∷ None ∷ None ∷ None ∷ None ∷ None ∷ []

abbrev causes_of_change : List (Option Cause)
causes_of_change = None ∷ None ∷ Some Edited ∷ Some (Wrote first_row 2) ∷ Some (reads_accounts_of_ann 2) ∷ None ∷ []

abbrev causes_of_insert : List (Option Cause)
causes_of_insert = None ∷ Some Edited ∷ None ∷ None ∷ Some (Wrote first_row 1) ∷ None ∷ []

-- after the switch no repair is under way, and the causes of the last one are told of the generation that it closed
switched :
    let db = after_events usual_limits cancelled_change in
    (causes_of db ≡ no_causes)
    × (causes_in db 0 ≡ causes_of_change)
    × (causes_in db 1 ≡ no_causes)
unfolding row_writes dirty_after
switched = (refl, refl, refl)

-- then the insert is cancelled, too: what the first repair cancelled or left without an effect isn't re-executed
second_repair :
    let db = after_events usual_limits (cancelled_change ++ cancel 1 ∷ step ∷ step ∷ step ∷ step ∷ []) in
    (causes_of db ≡ causes_of_insert)
    × (causes_in db 1 ≡ causes_of_insert)
    × (causes_in db 0 ≡ causes_of_change)
    × (causes_in db 2 ≡ no_causes)
unfolding row_writes dirty_after
second_repair = (refl, refl, refl, refl)

-- a slot that isn't done yet has none
three_slots_done : causes_of (after_events usual_limits (cancelled_change ++ cancel 1 ∷ step ∷ step ∷ step ∷ [])) ≡ None ∷ Some Edited ∷ None ∷ None ∷ None ∷ None ∷ []
unfolding row_writes dirty_after
three_slots_done = refl

-- nor has one of a repair that is given up, or of a generation that isn't kept
given_up : causes_of (after_events usual_limits (cancelled_change ++ cancel 1 ∷ step ∷ events.Abort ∷ [])) ≡ no_causes
unfolding row_writes dirty_after
given_up = refl

none_kept :
    let db = after_events (keeping 0) (cancelled_change ++ cancel 1 ∷ step ∷ step ∷ step ∷ step ∷ []) in
    (causes_in db 0 ≡ no_causes)
    × (causes_in db 1 ≡ causes_of_insert)
unfolding row_writes dirty_after
none_kept = (refl, refl)
