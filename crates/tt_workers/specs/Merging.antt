-- The answers of all workers, by rising call.
use Rattle.std.specs.Prelude.{ℕ, ◌-◌, ◌≤◌, List, [], ◌∷◌, ◌++◌, drop, set, slice_get, Option, None, Some}
use Rattle.tt_document.specs.declared.document.Call.{Call}
use Rattle.tt_workers.specs.declared.answered_call.AnsweredCall.{AnsweredCall}

-- each call is made by one of this many workers
abbrev pub AreOf : ℕ → List Call → Type 0
AreOf count [] = Unit {0}
AreOf count (c ∷ calls) = (1 ≤ c.worker) × (c.worker ≤ count) × AreOf count calls

-- the first answer of a list, if there is one
abbrev pub first_of : Option (List AnsweredCall) → List AnsweredCall
first_of None = []
first_of (Some []) = []
first_of (Some (a ∷ answers)) = a ∷ []

-- a list without its first answer
abbrev pub rest_of : Option (List AnsweredCall) → List AnsweredCall
rest_of None = []
rest_of (Some answers) = drop 1 answers

-- lists of answers, one for each worker by number, without the first answer of one worker
abbrev pub without_first : List (List AnsweredCall) → ℕ → List (List AnsweredCall)
without_first queues worker = set queues (worker - 1) (rest_of (slice_get queues (worker - 1)))

-- the answers of such lists in the order of these calls
abbrev pub merged_answers : List Call → List (List AnsweredCall) → List AnsweredCall
merged_answers [] queues = []
merged_answers (c ∷ calls) queues = first_of (slice_get queues (c.worker - 1)) ++ merged_answers calls (without_first queues c.worker)
