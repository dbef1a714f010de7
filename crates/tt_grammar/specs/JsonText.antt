-- JSON as it is printed, without white space.
use Rattle.std.specs.Prelude.{ℕ, Bool, true, false, List, [], ◌∷◌, ◌++◌, map, Option, None, Some, codes}
use Rattle.std.specs.List.{flat_map}
use Rattle.std.specs.Fmt.{decimal}
use Rattle.tt_grammar.specs.Quoting.{quoted}

-- a further item, behind a comma
abbrev pub further_item : List ℕ → List ℕ
further_item item = codes "," ++ item

-- items with commas between them
abbrev pub items_text : List (List ℕ) → List ℕ
items_text [] = []
items_text (item ∷ items) = item ++ flat_map further_item items

-- items of an array: its first ones, or further ones
abbrev pub items_at : Bool → List (List ℕ) → List ℕ
items_at true items = items_text items
items_at false items = flat_map further_item items

-- an array, by the texts of its items
abbrev pub array_text : List (List ℕ) → List ℕ
array_text items = codes "[" ++ (items_text items ++ codes "]")

-- a member of an object: its name, and the text of its value
abbrev pub Member : Type 0
Member = List ℕ × List ℕ

-- a member whose value is a number
abbrev pub number_member : List ℕ → ℕ → Member
number_member name n = (name, decimal n)

-- a member: its name in quotes, a colon, and its value
abbrev pub member_text : Member → List ℕ
member_text m = quoted m.0 ++ (codes ":" ++ m.1)

-- members with commas between them
abbrev pub members_text : List Member → List ℕ
members_text members = items_text (map member_text members)

-- an object, by its members
abbrev pub object_text : List Member → List ℕ
object_text members = codes "{" ++ (members_text members ++ codes "}")

-- true or false
abbrev pub flag_text : Bool → List ℕ
flag_text true = codes "true"
flag_text false = codes "false"

-- a text, or null where there is none
abbrev pub text_or_null : Option (List ℕ) → List ℕ
text_or_null None = codes "null"
text_or_null (Some text) = text
