-- The databases that events lead to, one event after another.
use Rattle.std.specs.Prelude.{◌≡◌, ℕ, List, [], ◌∷◌, ◌++◌, Option, None, Some}
use Rattle.tt_db.specs.declared.event.Event.{Event}
use Rattle.tt_db.specs.Database.{Database}
use Rattle.tt_store.specs.declared.errors.Unreached.{Unreached}
use Rattle.tt_store.specs.declared.call.Reached.{Reached}
use Rattle.tt_store.specs.Calls.{steps, planned, Reaches, IsInWay}

-- events of a worker have led from a database to this one; none, where there were no events
abbrev pub HasReached : Database → ℕ → List Event → Option Reached → Type 0
HasReached from worker made None = made ≡ []
HasReached from worker made (Some r) = Reaches from worker made r.db r.outcome

-- whatever events have led from a database to another, these and one more lead to this one
abbrev pub IsOneMore : Database → ℕ → Option Reached → Event → Reached → Type 0
IsOneMore from worker before event r = (made : List Event) → HasReached from worker made before → Reaches from worker (made ++ event ∷ []) r.db r.outcome

-- whatever events have led there, this is why these and one more, and what is behind it, don't lead further
abbrev pub IsInWayOfMore : Database → ℕ → Option Reached → Event → Unreached → Type 0
IsInWayOfMore from worker before event why = (made rest : List Event) → HasReached from worker made before → IsInWay from (made ++ event ∷ rest) why

-- however many steps have led there, these and at most one event lead to this database
abbrev pub IsPlanned : Database → ℕ → Option Reached → Option Event → Option Reached → Type 0
IsPlanned from worker stepped last r = (count : ℕ) → HasReached from worker (steps count) stepped → HasReached from worker (planned count last) r

-- however many steps have led there, this is why the event behind them doesn't lead further
abbrev pub IsInWayOfPlan : Database → ℕ → Option Reached → Option Event → Unreached → Type 0
IsInWayOfPlan from worker stepped last why = (count : ℕ) → HasReached from worker (steps count) stepped → IsInWay from (planned count last) why
