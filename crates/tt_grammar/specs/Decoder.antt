-- JSON values of the types that the grammar needs. A decoder gives the meaning of a value: what it stands for, or its first fault.
use Rattle.std.specs.Prelude.{ℕ, ℤ, Bool, List, ◌++◌, length, Option, Some, None, is_some, option_map, option_and_then, Result, Ok, codes, ⊤, nat_lt, ◌||◌, if◌then◌else◌}
use Rattle.serde_json.specs.Data.{Data}
use Rattle.serde_json.specs.Find.{get, as_bool, as_number, as_str, as_array, as_object, as_i64, as_u64}
use Rattle.tt_json.specs.Value.{list_of}
use Rattle.tt_grammar.specs.declared.fault.DocFault.{DocFault}
use Rattle.tt_grammar.specs.Fault.{◌>>=◌, refuse, or_refuse, with_path, member_path}

-- what a value is, where it's of the wanted type
abbrev pub or_wrong_type : {T : Type 0} → Option T → Result T DocFault
or_wrong_type = or_refuse (codes "wrong type")

-- the value is an object
abbrev pub object : Data → Result ⊤ DocFault
object v = or_wrong_type (option_map (λ _. tt) (as_object v))

-- the text that a value is
abbrev pub text : Data → Result (List ℕ) DocFault
text v = or_wrong_type (as_str v)

-- true or false
abbrev pub flag : Data → Result Bool DocFault
flag v = or_wrong_type (as_bool v)

-- the Int that a value is: a number without a fraction that fits 64 bits with a sign
abbrev pub int : Data → Result ℤ DocFault
int v = or_wrong_type (option_and_then as_i64 (as_number v))

-- the count that a value is: a number that isn't below zero and fits 64 bits
abbrev pub count : Data → Result ℕ DocFault
count v = or_wrong_type (option_and_then as_u64 (as_number v))

-- the items of the array that a value is
abbrev pub array : Data → Result (List Data) DocFault
array v = or_wrong_type (option_map list_of (as_array v))

-- the items are at most this many
abbrev pub within_limit : ℕ → List Data → Result ⊤ DocFault
within_limit limit ds = if nat_lt limit (length ds) then refuse (codes "out of range") else Ok tt

-- a number within bounds
abbrev pub within : ℕ → ℕ → ℕ → Result ℕ DocFault
within min max n = if nat_lt n min || nat_lt max n then refuse (codes "out of range") else Ok n

-- a count within bounds
abbrev pub count_within : ℕ → ℕ → Data → Result ℕ DocFault
count_within min max v = do
  n ← count v
  within min max n

-- whether an object has a member
abbrev pub has : List ℕ → Data → Bool
has name v = is_some (get name v)

-- the meaning of a member's value, its faults at the member's path; the member must be there
abbrev pub read_member : {T : Type 0} → List ℕ → (Data → Result T DocFault) → Option Data → Result T DocFault
read_member name decode None = refuse (codes "missing member " ++ name)
read_member name decode (Some d) = with_path (member_path name) (decode d)

-- the meaning of an object's member
abbrev pub member : {T : Type 0} → List ℕ → (Data → Result T DocFault) → Data → Result T DocFault
member name decode v = read_member name decode (get name v)

-- the meaning of a member's value, where the member may be left out
abbrev pub read_optional : {T : Type 0} → List ℕ → (Data → Result T DocFault) → Option Data → Result (Option T) DocFault
read_optional name decode None = Ok None
read_optional name decode (Some d) = do
  x ← with_path (member_path name) (decode d)
  Ok (Some x)

-- the meaning of an object's member that may be left out
abbrev pub optional : {T : Type 0} → List ℕ → (Data → Result T DocFault) → Data → Result (Option T) DocFault
optional name decode v = read_optional name decode (get name v)
