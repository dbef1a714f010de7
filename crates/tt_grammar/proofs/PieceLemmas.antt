-- The pieces of an object or an array, one after another.
use Rattle.std.proofs.Common.{◌≡◌, ℕ, List, [], ◌∷◌, ◌++◌, map, Option, Some, None, codes, refl, ap, ◌∙◌, append_assoc, append-nil}
use Rattle.std.specs.List.{flat_map}
use Rattle.std.proofs.lemmas.Grind.{flat_map-append}
use Rattle.std.proofs.lemmas.List.{map-append}
use Rattle.tt_values.specs.declared.comparison.Comparison.{Comparison}
use Rattle.tt_values.specs.declared.comparison.Comparison.TheVariants.{Is, IsNot, Below, AtMost, Above, AtLeast}
use Rattle.tt_values.specs.declared.action.Action.{Action}
use Rattle.tt_values.specs.Tables.{Tables}
use Rattle.tt_grammar.specs.Comparisons.{items_of_condition, before_value}
use Rattle.tt_grammar.specs.JsonText.{further_item, array_text, Member, member_text, members_text}
use Rattle.tt_grammar.specs.WriteText.{writes_text, whole_members, action_members_or_null}

-- four pieces
pub four-pieces : (out first second third all one two three four : List ℕ) → first ≡ out ++ one → second ≡ first ++ two → third ≡ second ++ three
    → all ≡ third ++ four → all ≡ out ++ (one ++ (two ++ (three ++ four)))
four-pieces out first second third all one two three four p q r s =
    s ∙ ap (λ o. o ++ four) (r ∙ ap (λ o. o ++ three) (q ∙ ap (λ o. o ++ two) p)) ∙ simp append_assoc

-- an object of two members, each of which is a label and a value
pub two-members : (out first label second all label_1 value_1 label_2 value_2 end : List ℕ) → first ≡ out ++ (label_1 ++ value_1) → label ≡ first ++ label_2
    → second ≡ label ++ value_2 → all ≡ second ++ end → all ≡ out ++ (label_1 ++ ((value_1 ++ (label_2 ++ (value_2 ++ []))) ++ end))
two-members out first label second all label_1 value_1 label_2 value_2 end p q r s =
    s ∙ ap (λ o. o ++ end) (r ∙ ap (λ o. o ++ value_2) (q ∙ ap (λ o. o ++ label_2) p)) ∙ simp (append_assoc, append-nil)

-- the same of three
pub three-members : (out first label second relabel third all label_1 value_1 label_2 value_2 label_3 value_3 end : List ℕ) → first ≡ out ++ (label_1 ++ value_1)
    → label ≡ first ++ label_2 → second ≡ label ++ value_2 → relabel ≡ second ++ label_3 → third ≡ relabel ++ value_3 → all ≡ third ++ end
    → all ≡ out ++ (label_1 ++ ((value_1 ++ (label_2 ++ (value_2 ++ (label_3 ++ (value_3 ++ []))))) ++ end))
three-members out first label second relabel third all label_1 value_1 label_2 value_2 label_3 value_3 end p q r s t u =
    u ∙ ap (λ o. o ++ end) (t ∙ ap (λ o. o ++ value_3) (s ∙ ap (λ o. o ++ label_3) (r ∙ ap (λ o. o ++ value_2) (q ∙ ap (λ o. o ++ label_2) p))))
    ∙ simp (append_assoc, append-nil)

-- a condition: its column, what stands before its value, and its value
pub condition-pieces : (how : Comparison) (column value : List ℕ)
    → array_text (items_of_condition how column value) ≡ codes "[" ++ (column ++ (before_value how ++ (value ++ codes "]")))
condition-pieces Is column value = simp (append_assoc, append-nil)
condition-pieces IsNot column value = simp (append_assoc, append-nil)
condition-pieces Below column value = simp (append_assoc, append-nil)
condition-pieces AtMost column value = simp (append_assoc, append-nil)
condition-pieces Above column value = simp (append_assoc, append-nil)
condition-pieces AtLeast column value = simp (append_assoc, append-nil)

-- members behind others and before others: a comma, those members as they stand first, and the others
further-members : (m : Member) (ms ns : List Member)
    → flat_map further_item (map member_text ((m ∷ ms) ++ ns)) ≡ codes "," ++ (members_text (m ∷ ms) ++ flat_map further_item (map member_text ns))
further-members m ms ns = ap (flat_map further_item) (map-append member_text (m ∷ ms) ns) ∙ flat_map-append further_item (map member_text (m ∷ ms)) (map member_text ns)

-- the same of the members of an action, or of a `do` that is null
pub further-action : (tables : Tables) (action : Option Action) (ns : List Member)
    → flat_map further_item (map member_text (action_members_or_null tables action ++ ns))
    ≡ codes "," ++ (members_text (action_members_or_null tables action) ++ flat_map further_item (map member_text ns))
further-action tables None ns = refl
further-action tables (Some action) ns = further-members (codes "do", writes_text tables action.writes) (whole_members (codes "whole") action.whole) ns
