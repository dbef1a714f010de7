-- Faults in order.
use Rattle.std.specs.Prelude.{◌≡◌, Bool, List, [], ◌∷◌, if◌then◌else◌, Option, None, Some, Result, MatchResult}

-- the fault of the first test that is true
abbrev pub first_fault : {E : Type 0} → List (Bool × E) → Option E
first_fault [] = None
first_fault (test ∷ tests) = if test.0 then Some test.1 else first_fault tests

-- Ok if there is no fault, and the fault as the error otherwise
abbrev pub ReportsFault : {T E : Type 0} → Result T E → Option E → Type 0
ReportsFault r fault = MatchResult r (λ _. fault ≡ None) (λ e. fault ≡ Some e)
