-- Faults, and results of reading: a value, or the first fault with its path and its cause.
use Rattle.std.specs.Prelude.{◌≡◌, ℕ, List, [], ◌++◌, Option, Some, None, Result, Ok, Err, codes}
use Rattle.std.specs.Fmt.{decimal}
use Rattle.tt_grammar.specs.declared.fault.DocFault.{DocFault}
use Rattle.tt_grammar.specs.declared.fault.DocFault.TheVariants.{At, Memory}

-- one value is read after another, and the first fault ends the reading
infixl 10 ◌>>=◌
abbrev pub ◌>>=◌ : {A B : Type 0} → Result A DocFault → (A → Result B DocFault) → Result B DocFault
(Ok x) >>= f = f x
(Err fault) >>= f = Err fault

-- a fault of the value itself: its path is empty
abbrev pub fault_here : List ℕ → DocFault
fault_here cause = At [] cause

-- the value is refused for this cause
abbrev pub refuse : {T : Type 0} → List ℕ → Result T DocFault
refuse cause = Err (fault_here cause)

-- a value, or else a fault with this cause
abbrev pub or_refuse : {T : Type 0} → List ℕ → Option T → Result T DocFault
or_refuse cause None = refuse cause
or_refuse cause (Some x) = Ok x

-- a fault of an inner value as one of the outer value: with a longer path
abbrev pub fault_at : (List ℕ → List ℕ) → DocFault → DocFault
fault_at path_of (At path cause) = At (path_of path) cause
fault_at path_of Memory = Memory

-- a result whose fault gets a longer path
abbrev pub with_path : {T : Type 0} → (List ℕ → List ℕ) → Result T DocFault → Result T DocFault
with_path path_of (Ok x) = Ok x
with_path path_of (Err fault) = Err (fault_at path_of fault)

-- paths: of a member, of an item, and of the whole document
abbrev pub member_path : List ℕ → List ℕ → List ℕ
member_path name path = codes "." ++ (name ++ path)

abbrev pub item_path : ℕ → List ℕ → List ℕ
item_path i path = codes "[" ++ (decimal i ++ (codes "]" ++ path))

abbrev pub document_path : List ℕ → List ℕ
document_path path = codes "$" ++ path

-- a fault of the whole document, with this cause
abbrev pub document_fault : List ℕ → DocFault
document_fault cause = fault_at document_path (fault_here cause)

-- what reading failed with is this fault. If memory ran out, nothing is said of the fault
abbrev pub IsFault : DocFault → DocFault → Type 0
IsFault Memory fault = Unit {0}
IsFault (At path cause) fault = fault ≡ At path cause

-- what reading failed with is the fault of this result. If memory ran out, nothing is said of the result
abbrev pub FailsWith : {T : Type 0} → DocFault → Result T DocFault → Type 0
FailsWith Memory reading = Unit {0}
FailsWith (At path cause) reading = reading ≡ Err (At path cause)

-- a function returns the result of reading
abbrev pub Gives : {T : Type 0} → Result T DocFault → Result T DocFault → Type 0
Gives (Ok x) reading = reading ≡ Ok x
Gives (Err fault) reading = FailsWith fault reading

-- the same of a value that is seen through a view
abbrev pub GivesViewed : {S T : Type 0} → (S → T) → Result S DocFault → Result T DocFault → Type 0
GivesViewed view (Ok x) reading = reading ≡ Ok (view x)
GivesViewed view (Err fault) reading = FailsWith fault reading
