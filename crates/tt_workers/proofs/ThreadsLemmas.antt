-- The calls of all workers, each in a thread of its own.
use Rattle.std.proofs.Common.{◌≡◌, ℕ, suc, ◌<◌, List, [], ◌∷◌, ◌++◌, map, length, get_or, slice_index_or, All, Some, Result, Ok, Err, IfOk, refl, sym, ap, subst, ◌∙◌, arith}
use Rattle.tt_db.specs.declared.limits.Limits.{Limits}
use Rattle.tt_document.specs.declared.document.Call.{Call}
use Rattle.tt_store.specs.Workers.{WorkerState}
use Rattle.tt_workload.specs.declared.run_fault.RunFault.{RunFault}
use Rattle.tt_workers.specs.declared.answered_call.AnsweredCall.{AnsweredCall}
use Rattle.tt_workers.specs.Calls.{Works, AllWork, AllEnd}
use Rattle.tt_workers.specs.Faults.{first_fault}

-- where no thread has ended in a fault
pub all_work : {Left : Type 0} (limits : Limits) (number : ℕ) (calls : List Call) (worker : Left → WorkerState) (answers : Left → List AnsweredCall) (olds : List WorkerState) (runs : List Left)
    → AllEnd (λ old run. Works limits number calls old (worker run) (answers run)) olds (map Ok runs) → AllWork limits number calls olds (map worker runs) (map answers runs)
all_work limits number calls worker answers [] [] h = tt
all_work limits number calls worker answers [] (r ∷ runs) h = absurd h
all_work limits number calls worker answers (old ∷ olds) [] h = absurd h
all_work limits number calls worker answers (old ∷ olds) (r ∷ runs) h = (h.0, all_work limits number calls worker answers olds runs h.1)

-- from what is said of each place
pub ends_each : {Left : Type 0} (Holds : WorkerState → Left → Type 0) (olds : List WorkerState) (results : List (Result Left RunFault)) → length results ≡ length olds
    → ((i : ℕ) (w : WorkerState) (d : Result Left RunFault) → i < length olds → IfOk (get_or results i d) (Holds (get_or olds i w))) → AllEnd Holds olds results
ends_each Holds [] [] is each = tt
ends_each Holds [] (r ∷ results) is each = absurd (omega (arith, is))
ends_each Holds (old ∷ olds) [] is each = absurd (omega (arith, is))
ends_each Holds (old ∷ olds) (r ∷ results) is each =
    (each 0 old r (omega arith), ends_each Holds olds results (omega (arith, is)) (λ i w d lt. each (suc i) w d (omega (arith, lt))))

-- what holds of each item holds of those after the first
pub all_rest : {X : Type 0} (P : X → Type 0) (all rest : List X) (x : X) → all ≡ x ∷ rest → All P all → All P rest
all_rest P all rest x is h k d lt =
    subst (λ xs. P (slice_index_or xs (suc k) d)) is (h (suc k) d (omega (arith, lt, ap length is)))

-- a fault after runs that have ended well is the first one
fault_behind : {Left : Type 0} (runs : List Left) (rest : List (Result Left RunFault)) (e : RunFault) → first_fault (map Ok runs ++ Err e ∷ rest) ≡ Some e
fault_behind [] rest e = refl
fault_behind (r ∷ runs) rest e = fault_behind runs rest e

pub fault_next : {Left : Type 0} (runs : List Left) (all left rest : List (Result Left RunFault)) (result : Result Left RunFault) (e : RunFault)
    → map Ok runs ++ left ≡ all → left ≡ result ∷ rest → result ≡ Err e → first_fault all ≡ Some e
fault_next runs all left rest result e is next fault =
    ap first_fault (sym is ∙ ap (λ l. map Ok runs ++ l) (next ∙ ap (λ r. r ∷ rest) fault)) ∙ fault_behind runs rest e
