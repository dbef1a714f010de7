-- What a store and its workers leave when it is closed, or why it isn't.
use Rattle.std.specs.Prelude.{◌≡◌, ℕ, List, All}
use Rattle.tt_values.specs.Tables.{Tables}
use Rattle.tt_db.specs.declared.limits.Limits.{Limits}
use Rattle.tt_store.specs.declared.closing.Closed.{Closed}
use Rattle.tt_store.specs.declared.closing.CloseFault.{CloseFault}
use Rattle.tt_store.specs.declared.closing.CloseFault.TheVariants as faults
use Rattle.tt_store.specs.Workers.{WorkerState}
use Rattle.tt_store.specs.Closing.{EachOnce, IsPartOf, IsOfWorker, places_by_worker, lists_of}

-- a store with this number of workers is closed: the history of its database, which has the tables and limits of the store, begins
-- with what each worker had seen, and has the entries of the workers and no others
pub record Closes (tables : Tables) (limits : Limits) (count : ℕ) (workers : List WorkerState) (closed : Closed) : Type 0 where
  pub each_once : EachOnce count workers
  pub same_tables : closed.db.catalog ≡ tables
  pub same_limits : closed.db.limits ≡ limits
  pub parts : All (IsPartOf closed.db.history) workers
  pub places : lists_of closed.places.items ≡ places_by_worker count closed.db.history
  pub entries : All (IsOfWorker count) closed.db.history

-- why a store with this number of workers isn't closed: `Missing` exactly where the numbers of the workers aren't those that opening
-- gave, each once. The workers are handed back
abbrev pub HandsBack : {L G R : Type 0} → ℕ → List WorkerState → CloseFault L G R → Type 0
HandsBack count workers (faults.Missing store back) = (EachOnce count workers → ⊥) × (back.items ≡ workers)
HandsBack count workers (faults.NoReading store back) = EachOnce count workers × (back.items ≡ workers)
HandsBack count workers (faults.Memory store back) = EachOnce count workers × (back.items ≡ workers)
