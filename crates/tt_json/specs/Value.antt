-- Values, as serde_json's definitions have them: the items of an array as a list, and the names of an object's members.
use Rattle.std.specs.Prelude.{ℕ, Bool, not, List, [], ◌∷◌, filter, Option, Some, None}
use Rattle.std.specs.List.{list_any}
use Rattle.std.specs.Str.{bytes_eq}
use Rattle.std.specs.Ordering.{nat_cmp, match_ordering}
use Rattle.std.specs.Cmp.Lexicographic.{slice_cmp}
use Rattle.serde_json.specs.Data.{Data, Items, no_items, item, Members, no_members, member}
use Rattle.serde_json.specs.Find.{as_array, as_object}

-- items, as a list
abbrev pub list_of : Items → List Data
list_of no_items = []
list_of (item d ds) = d ∷ list_of ds

-- the items of an array, as a list; another value has none
abbrev pub list_or_none : Option Items → List Data
list_or_none None = []
list_or_none (Some ds) = list_of ds

abbrev pub items_in : Data → List Data
items_in v = list_or_none (as_array v)

-- the names of members, in order
abbrev pub member_names : Members → List (List ℕ)
member_names no_members = []
member_names (member name d ms) = name ∷ member_names ms

-- the names of an object's members; another value has none
abbrev pub names_of : Option Members → List (List ℕ)
names_of None = []
names_of (Some ms) = member_names ms

-- the lesser of two names, by their bytes
abbrev pub lesser : List ℕ → Option (List ℕ) → List ℕ
lesser name None = name
lesser name (Some other) = match_ordering (slice_cmp nat_cmp name other) name name other

-- the least of some names
abbrev pub least : List (List ℕ) → Option (List ℕ)
least [] = None
least (name ∷ names) = Some (lesser name (least names))

-- whether a name is one of these
abbrev pub is_among : List (List ℕ) → List ℕ → Bool
is_among names name = list_any (λ known. bytes_eq name known) names

-- the least name of an object's members that the test doesn't know
abbrev pub least_unknown : (List ℕ → Bool) → Data → Option (List ℕ)
least_unknown is_known v = least (filter (λ name. not (is_known name)) (names_of (as_object v)))
