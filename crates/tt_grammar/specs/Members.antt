-- The members of an object that the grammar doesn't know.
use Rattle.std.specs.Prelude.{ℕ, Bool, List, ◌++◌, Option, Some, None, Result, Ok, codes, ⊤}
use Rattle.std.specs.List.{list_any}
use Rattle.std.specs.Str.{bytes_eq}
use Rattle.serde_json.specs.Data.{Data}
use Rattle.tt_json.specs.Value.{least_unknown}
use Rattle.tt_grammar.specs.declared.fault.DocFault.{DocFault}
use Rattle.tt_grammar.specs.Fault.{refuse}
use Rattle.tt_grammar.specs.Quoting.{quoted}

-- whether a name is one of these
abbrev pub is_one_of : List (List ℕ) → List ℕ → Bool
is_one_of names name = list_any (λ known. bytes_eq name known) names

-- the object is refused for an unknown member
abbrev pub refuse_member : Option (List ℕ) → Result ⊤ DocFault
refuse_member None = Ok tt
refuse_member (Some name) = refuse (codes "unknown member " ++ quoted name)

-- an object has only members that the test knows
abbrev pub no_members_but : (List ℕ → Bool) → Data → Result ⊤ DocFault
no_members_but is_known v = refuse_member (least_unknown is_known v)
