-- The faults of a run in threads.
use Rattle.std.specs.Prelude.{◌≡◌, List, [], ◌∷◌, Option, None, Some, Result, Ok, Err}
use Rattle.tt_store.specs.declared.closing.CloseFault.{CloseFault}
use Rattle.tt_store.specs.declared.closing.CloseFault.TheVariants as unclosed
use Rattle.tt_workload.specs.declared.run_fault.RunFault.{RunFault}
use Rattle.tt_workload.specs.declared.run_fault.RunFault.TheVariants as faults

-- the store refused a call, or memory ran out
abbrev pub IsStoreFault : RunFault → Type 0
IsStoreFault (faults.Store text) = Unit {0}
IsStoreFault faults.Memory = Unit {0}
IsStoreFault faults.Read = ⊥
IsStoreFault (faults.Document fault) = ⊥
IsStoreFault faults.Write = ⊥

-- the fault where a store isn't closed; where memory ran out, it is `Memory`
abbrev pub IsFaultOfClose : {L G R : Type 0} → CloseFault L G R → RunFault → Type 0
IsFaultOfClose (unclosed.Memory store workers) fault = fault ≡ faults.Memory
IsFaultOfClose (unclosed.Missing store workers) fault = IsStoreFault fault
IsFaultOfClose (unclosed.NoReading store workers) fault = IsStoreFault fault

-- the fault of the first thread that has ended in one
abbrev pub first_fault : {Left : Type 0} → List (Result Left RunFault) → Option RunFault
first_fault [] = None
first_fault (Ok left ∷ results) = first_fault results
first_fault (Err fault ∷ results) = Some fault
