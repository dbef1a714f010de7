-- Members that an object names twice, in the JSON of a text, whose objects are lists of members as they stand there.
use Rattle.std.specs.Prelude.{ℕ, suc, List, [], ◌∷◌, ◌++◌, Option, None, Some, option_map, Result, Ok, Err, codes, ⊤, if◌then◌else◌}
use Rattle.std.specs.Option.{option_or}
use Rattle.json.specs.Json as json
use Rattle.tt_grammar.specs.declared.fault.DocFault.{DocFault}
use Rattle.tt_grammar.specs.Fault.{fault_here, fault_at, member_path, item_path}
use Rattle.tt_grammar.specs.Members.{is_one_of}
use Rattle.tt_grammar.specs.Quoting.{quoted}

-- an object's fault of naming a member twice
abbrev pub named_twice : List ℕ → DocFault
named_twice name = fault_here (codes "member " ++ (quoted name ++ codes " named twice"))

-- a fault of an inner value, if it has one, as one of the outer value
abbrev pub inside : (List ℕ → List ℕ) → Option DocFault → Option DocFault
inside path_of fault = option_map (fault_at path_of) fault

-- the first name in the text that its object has already, as that object's fault
abbrev mutual
  pub repeated_member : json.Json → Option DocFault
  repeated_member json.null = None
  repeated_member (json.boolean b) = None
  repeated_member (json.number s) = None
  repeated_member (json.string s) = None
  repeated_member (json.array js) = repeated_in_items 0 js
  repeated_member (json.object ms) = repeated_in_members [] ms

  -- the same in the items of an array, the first of which has this number
  pub repeated_in_items : ℕ → json.Items → Option DocFault
  repeated_in_items i json.no_items = None
  repeated_in_items i (json.item j js) = option_or (inside (item_path i) (repeated_member j)) (repeated_in_items (suc i) js)

  -- the same in the members of an object, after members with these names
  pub repeated_in_members : List (List ℕ) → json.Members → Option DocFault
  repeated_in_members earlier json.no_members = None
  repeated_in_members earlier (json.member name j ms) =
      if is_one_of earlier name then Some (named_twice name)
      else option_or (inside (member_path name) (repeated_member j)) (repeated_in_members (earlier ++ name ∷ []) ms)

-- nothing, unless there is a fault
abbrev pub unless_fault : Option DocFault → Result ⊤ DocFault
unless_fault None = Ok tt
unless_fault (Some fault) = Err fault

-- no object of a value names a member twice
abbrev pub names_once : json.Json → Result ⊤ DocFault
names_once j = unless_fault (repeated_member j)
