-- One history, and the beginnings of it that workers have seen.
use Rattle.std.specs.Prelude.{ℕ, ◌+◌, ◌==◌, List, [], ◌∷◌, ◌++◌, map, if◌then◌else◌}
use Rattle.logbook.specs.Pages.{Book}
use Rattle.tt_db.specs.declared.event.Event.{Event}
use Rattle.tt_db.specs.declared.event.Entry.{Entry}

-- a beginning of the one history that a book keeps
pub record Beginning : Type 0 where
  pub book : Book
  pub entries : List Entry

-- the batches of a history, one after another
abbrev pub joined : {X : Type 0} → List (List X) → List X
joined [] = []
joined (batch ∷ batches) = batch ++ joined batches

-- the entries that a worker makes of events
abbrev pub entries_by : ℕ → List Event → List Entry
entries_by worker events = map (λ event. record { worker = worker; event = event }) events

-- the places of the entries that bear a number, where the first entry of the list has this place
abbrev pub places_from : ℕ → ℕ → List Entry → List ℕ
places_from place worker [] = []
places_from place worker (e ∷ history) =
    if e.worker == worker then place ∷ places_from (place + 1) worker history else places_from (place + 1) worker history

-- the places of the entries of a history that bear a worker's number, counted from 1
abbrev pub places_of : ℕ → List Entry → List ℕ
places_of worker history = places_from 1 worker history
