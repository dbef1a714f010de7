-- Tests without a fault.
use Rattle.std.proofs.Common.{◌≡◌, Bool, true, false, not, IsTrue, List, [], ◌∷◌, None, refl}
use Rattle.tt_values.specs.Faults.{first_fault}

-- every test is false
abbrev pub NoneHolds : {E : Type 0} → List (Bool × E) → Type 0
NoneHolds [] = Unit {0}
NoneHolds (test ∷ tests) = (test.0 ≡ false) × NoneHolds tests

-- if there is no fault, every test is false
pub none_holds : {E : Type 0} → (tests : List (Bool × E)) → first_fault tests ≡ None → NoneHolds tests
none_holds [] h = tt
none_holds (test ∷ tests) h = by test.0 refl h (none_holds tests)
  where
    by : (b : Bool) → test.0 ≡ b → first_fault ((b, test.1) ∷ tests) ≡ None → (first_fault tests ≡ None → NoneHolds tests) → (test.0 ≡ false) × NoneHolds tests
    by true e g rest = cc
    by false e g rest = (e, rest g)

pub true_from_not : (b : Bool) → not b ≡ false → IsTrue b
true_from_not true h = refl
true_from_not false h = cc
