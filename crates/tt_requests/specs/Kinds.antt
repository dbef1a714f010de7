-- The kinds of requests, each named by a member.
use Rattle.std.specs.Prelude.{ℕ, Bool, if◌then◌else◌, List, [], ◌∷◌, ◌++◌, map, flat_map, Option, Some, None, Result, codes}
use Rattle.serde_json.specs.Data.{Data}
use Rattle.tt_grammar.specs.declared.fault.DocFault.{DocFault}
use Rattle.tt_grammar.specs.Fault.{or_refuse}
use Rattle.tt_grammar.specs.Decoder.{has}
use Rattle.tt_requests.specs.declared.kinds.RequestKind.{RequestKind}
use Rattle.tt_requests.specs.declared.kinds.RequestKind.TheVariants.{Insert, Update, Delete, Select, Preview, Do, Begin, Step, Finish, Abort, Status, Slots, Changes, Tables, Why, Diff, Would, Forget}

-- each kind with the member that names it, in the order in which they are looked for
abbrev pub kinds : List (List ℕ × RequestKind)
kinds =
    (codes "insert", Insert)
    ∷ (codes "update", Update)
    ∷ (codes "delete", Delete)
    ∷ (codes "select", Select)
    ∷ (codes "preview", Preview)
    ∷ (codes "do", Do)
    ∷ (codes "begin", Begin)
    ∷ (codes "step", Step)
    ∷ (codes "finish", Finish)
    ∷ (codes "abort", Abort)
    ∷ (codes "status", Status)
    ∷ (codes "slots", Slots)
    ∷ (codes "changes", Changes)
    ∷ (codes "tables", Tables)
    ∷ (codes "why", Why)
    ∷ (codes "diff", Diff)
    ∷ (codes "would", Would)
    ∷ (codes "forget", Forget)
    ∷ []

-- names with a comma between them
abbrev pub listed : List (List ℕ) → List ℕ
listed [] = []
listed (name ∷ names) = name ++ flat_map (λ other. codes ", " ++ other) names

-- why a request is refused that has none of the kinds
abbrev pub no_kind : List ℕ
no_kind = codes "missing one of " ++ listed (map (λ kind. kind.0) kinds)

-- the first of some kinds whose member is there, by a test of names
abbrev pub first_of : (List ℕ → Bool) → List (List ℕ × RequestKind) → Option RequestKind
first_of is_there [] = None
first_of is_there (kind ∷ others) = if is_there kind.0 then Some kind.1 else first_of is_there others

-- the first kind that an object has a member of
abbrev pub first_kind : Data → Option RequestKind
first_kind v = first_of (λ name. has name v) kinds

-- the kind of an object, which must have one
abbrev pub kind_of : Data → Result RequestKind DocFault
kind_of v = or_refuse no_kind (first_kind v)
