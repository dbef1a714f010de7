-- What is printed is UTF-8: names, arrays and objects.
use Rattle.std.proofs.Common.{◌≡◌, ℕ, ◌≤◌, Bool, true, ◌&&◌, nat_lt, nat_le, List, [], ◌∷◌, ◌++◌, length, map, codes, IsUtf8, refl, arith}
use Rattle.std.proofs.lemmas.Bool.{and_parts, leb-true}
use Rattle.std.proofs.lemmas.Bool.Decides.{nat_tests}
use Rattle.std.proofs.lemmas.Str.{IsUtf8-append, IsUtf8-nil}
use Rattle.std.specs.List.{flat_map, list_all}
use Rattle.json.proofs.Printed.Utf8.{are_ascii, IsUtf8-are_ascii}
use Rattle.tt_values.specs.Limits.{max_name_bytes}
use Rattle.tt_values.specs.Tables.{is_name_byte, is_name}
use Rattle.tt_grammar.specs.Quoting.{quoted}
use Rattle.tt_grammar.proofs.QuotingLemmas.{IsUtf8-quoted}
use Rattle.tt_grammar.specs.JsonText.{further_item, items_text, array_text, Member, member_text, members_text, object_text}
use Rattle.tt_grammar.proofs.EveryLemmas.{Every}

-- names, which are short too
name_byte-ascii : (b : ℕ) → is_name_byte b ≡ true → nat_lt b 128 ≡ true
name_byte-ascii b h = grind (arith, nat_tests)

name_bytes-ascii : (name : List ℕ) → list_all is_name_byte name ≡ true → are_ascii name ≡ true
name_bytes-ascii [] h = refl
name_bytes-ascii (b ∷ name) h =
    let both = and_parts (is_name_byte b) (list_all is_name_byte name) h in
    rw (name_byte-ascii b both.0, name_bytes-ascii name both.1) refl

pub IsUtf8-name : (name : List ℕ) → is_name name ≡ true → IsUtf8 name
IsUtf8-name name h =
    let short : Bool = nat_le 1 (length name) && nat_le (length name) max_name_bytes in
    IsUtf8-are_ascii name (name_bytes-ascii name (and_parts short (list_all is_name_byte name) h).1)

pub short-name : (name : List ℕ) → is_name name ≡ true → length name ≤ max_name_bytes
short-name name h =
    let short : Bool = nat_le 1 (length name) && nat_le (length name) max_name_bytes in
    let both = and_parts (nat_le 1 (length name)) (nat_le (length name) max_name_bytes) (and_parts short (list_all is_name_byte name) h).0 in
    leb-true (length name) max_name_bytes both.1

-- items of an array
further_items-utf8 : (items : List (List ℕ)) → Every IsUtf8 items → IsUtf8 (flat_map further_item items)
further_items-utf8 [] h = IsUtf8-nil
further_items-utf8 (item ∷ items) h =
    IsUtf8-append (further_item item) (flat_map further_item items) (IsUtf8-append (codes ",") item (IsUtf8-are_ascii (codes ",") refl) h.0) (further_items-utf8 items h.1)

items-utf8 : (items : List (List ℕ)) → Every IsUtf8 items → IsUtf8 (items_text items)
items-utf8 [] h = IsUtf8-nil
items-utf8 (item ∷ items) h = IsUtf8-append item (flat_map further_item items) h.0 (further_items-utf8 items h.1)

pub IsUtf8-array : (items : List (List ℕ)) → Every IsUtf8 items → IsUtf8 (array_text items)
IsUtf8-array items h =
    IsUtf8-append (codes "[") (items_text items ++ codes "]") (IsUtf8-are_ascii (codes "[") refl)
    (IsUtf8-append (items_text items) (codes "]") (items-utf8 items h) (IsUtf8-are_ascii (codes "]") refl))

-- members of an object
member-utf8 : (m : Member) → IsUtf8 m.0 × IsUtf8 m.1 → IsUtf8 (member_text m)
member-utf8 m h = IsUtf8-append (quoted m.0) (codes ":" ++ m.1) (IsUtf8-quoted m.0 h.0) (IsUtf8-append (codes ":") m.1 (IsUtf8-are_ascii (codes ":") refl) h.1)

members-utf8 : (ms : List Member) → Every (λ m. IsUtf8 m.0 × IsUtf8 m.1) ms → Every IsUtf8 (map member_text ms)
members-utf8 [] h = tt
members-utf8 (m ∷ ms) h = (member-utf8 m h.0, members-utf8 ms h.1)

pub IsUtf8-object : (ms : List Member) → Every (λ m. IsUtf8 m.0 × IsUtf8 m.1) ms → IsUtf8 (object_text ms)
IsUtf8-object ms h =
    IsUtf8-append (codes "{") (members_text ms ++ codes "}") (IsUtf8-are_ascii (codes "{") refl)
    (IsUtf8-append (members_text ms) (codes "}") (items-utf8 (map member_text ms) (members-utf8 ms h)) (IsUtf8-are_ascii (codes "}") refl))
