-- The workers with which a store is closed: their numbers, and their places in the one history.
use Rattle.std.specs.Prelude.{◌≡◌, ℕ, ◌-◌, ◌<◌, ◌≤◌, ◌==◌, List, [], ◌∷◌, length, map, set, count_by, sum_by, Vec}
use mathlib.Core.List.{IsPrefix}
use Rattle.tt_db.specs.declared.event.Entry.{Entry}
use Rattle.tt_store.specs.declared.closing.Unclosed.{Unclosed}
use Rattle.tt_store.specs.declared.closing.Unclosed.TheVariants as unclosed
use Rattle.tt_store.specs.History.{places_of}
use Rattle.tt_store.specs.Calls.{numbers_from}
use Rattle.tt_store.specs.Workers.{WorkerState, IsAmong}

-- how many workers bear a number
abbrev pub bearers : ℕ → List WorkerState → ℕ
bearers number workers = count_by (λ w. number == w.number) workers

-- workers bear the numbers from 1 to this one, each once
pub record EachOnce (count : ℕ) (workers : List WorkerState) : Type 0 where
  pub as_many : length workers ≡ count
  pub once : (number : ℕ) → 0 < number → number ≤ count → bearers number workers ≡ 1

-- why a store isn't closed with these workers: `Missing` exactly where they aren't those of the store, each once
abbrev pub IsUnclosed : ℕ → List WorkerState → Unclosed → Type 0
IsUnclosed count workers unclosed.Missing = EachOnce count workers → ⊥
IsUnclosed count workers unclosed.NoReading = EachOnce count workers
IsUnclosed count workers unclosed.Memory = EachOnce count workers

-- a worker has seen a beginning of a history, and its places are among those of its entries there
pub record IsBehind (history : List Entry) (w : WorkerState) : Type 0 where
  pub seen : IsPrefix w.seen history
  pub among : IsAmong w.own (places_of w.number history)

-- a worker has seen a beginning of a history, and has made all of its entries that bear its number
pub record IsPartOf (history : List Entry) (w : WorkerState) : Type 0 where
  pub seen : IsPrefix w.seen history
  pub own : w.own ≡ places_of w.number history

-- a worker bears a number from 1 to this one
pub record IsNumbered (count : ℕ) (w : WorkerState) : Type 0 where
  pub some : 0 < w.number
  pub within : w.number ≤ count

-- an entry bears a number from 1 to this one
pub record IsOfWorker (count : ℕ) (e : Entry) : Type 0 where
  pub some : 0 < e.worker
  pub within : e.worker ≤ count

-- the places of the entries of each worker: a list for each number from 1 to the count, in this order
abbrev pub places_by_worker : ℕ → List Entry → List (List ℕ)
places_by_worker count history = map (λ number. places_of number history) (numbers_from 1 count)

-- the lists in lists
abbrev pub lists_of : {X Z : Type 0} → List (Vec X Z) → List (List X)
lists_of vecs = map (λ vec. vec.items) vecs

-- the lists after each worker's places are put where its number says
abbrev pub with_places : List (List ℕ) → List WorkerState → List (List ℕ)
with_places lists [] = lists
with_places lists (w ∷ workers) = with_places (set lists (w.number - 1) w.own) workers

-- how many places workers have
abbrev pub places_made : List WorkerState → ℕ
places_made workers = sum_by (λ w. length w.own) workers
