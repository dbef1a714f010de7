-- What a store is opened with.
use Rattle.std.specs.Prelude.{ℕ, zero, suc, List, [], ◌∷◌, ◌++◌}
use Rattle.tt_store.specs.Workers.{WorkerState}

-- the largest number of workers
abbrev pub max_workers : ℕ
max_workers = 16

-- a worker that has seen nothing and made nothing
abbrev pub new_worker : ℕ → WorkerState
new_worker number = record { number = number; seen = []; own = [] }

-- a number of new workers, numbered from 1 in the order of the list
abbrev pub new_workers : ℕ → List WorkerState
new_workers zero = []
new_workers (suc n) = new_workers n ++ new_worker (suc n) ∷ []
