-- A JSON value that is printed is read as what it stands for.
use Rattle.std.proofs.Common.{◌≡◌, ℕ, ◌≤◌, Bool, true, false, List, [], ◌∷◌, ◌++◌, map, None, Some, if◌then◌else◌, IsUtf8, inl, inr, ◌⊎◌, refl, sym, ap, subst, ◌∙◌, codes, append_assoc, append-nil, option_and_then}
use Rattle.std.proofs.lemmas.Bool.{cases_eq, ne_eqb}
use Rattle.std.proofs.lemmas.Str.{is_utf8-from_IsUtf8}
use Rattle.std.specs.List.{flat_map}
use Rattle.json.specs.Token.{Token}
use Rattle.json.specs.Json as json
use Rattle.json.specs.Lex.{tokens}
use Rattle.json.specs.Print.{print, print_from, escape_byte}
use Rattle.json.specs.Print as json_print
use Rattle.json.specs.Tree.{json_tokens, items_tokens, members_tokens, depth, HasNumbers}
use Rattle.json.proofs.Printed.Tokens.{tokens-print}
use Rattle.json.proofs.Printed.Trees.{value-json_tokens, ArePrintable-json_tokens}
use Rattle.serde_json.specs.Read.{max_depth}
use Rattle.serde_json.specs.Written.{comma_if}
use Rattle.tt_json.specs.Text.{json_of_text}
use Rattle.tt_grammar.specs.Quoting.{escape, quoted}
use Rattle.tt_grammar.specs.TextValue.{json_of_bytes}
use Rattle.tt_grammar.specs.JsonText.{further_item, items_text, array_text, Member, member_text, members_text, object_text, flag_text}

-- ---- texts in quotes

abbrev SameEscape : ℕ → Type 0
SameEscape b = escape_byte b ≡ escape b

escape-same : (b : ℕ) → SameEscape b
unfolding escape_byte
escape-same b = go (cases_eq b 34) (cases_eq b 92) (cases_eq b 8) (cases_eq b 9) (cases_eq b 10) (cases_eq b 12) (cases_eq b 13)
  where
    go : (b ≡ 34) ⊎ (b ≡ 34 → ⊥) → (b ≡ 92) ⊎ (b ≡ 92 → ⊥) → (b ≡ 8) ⊎ (b ≡ 8 → ⊥) → (b ≡ 9) ⊎ (b ≡ 9 → ⊥) → (b ≡ 10) ⊎ (b ≡ 10 → ⊥)
        → (b ≡ 12) ⊎ (b ≡ 12 → ⊥) → (b ≡ 13) ⊎ (b ≡ 13 → ⊥) → escape_byte b ≡ escape b
    go (inl e) q r s t u v = subst SameEscape (sym e) refl
    go (inr p) (inl e) r s t u v = subst SameEscape (sym e) refl
    go (inr p) (inr q) (inl e) s t u v = subst SameEscape (sym e) refl
    go (inr p) (inr q) (inr r) (inl e) t u v = subst SameEscape (sym e) refl
    go (inr p) (inr q) (inr r) (inr s) (inl e) u v = subst SameEscape (sym e) refl
    go (inr p) (inr q) (inr r) (inr s) (inr t) (inl e) v = subst SameEscape (sym e) refl
    go (inr p) (inr q) (inr r) (inr s) (inr t) (inr u) (inl e) = subst SameEscape (sym e) refl
    go (inr p) (inr q) (inr r) (inr s) (inr t) (inr u) (inr v) =
        simp (ne_eqb b 34 p, ne_eqb b 92 q, ne_eqb b 8 r, ne_eqb b 9 s, ne_eqb b 10 t, ne_eqb b 12 u, ne_eqb b 13 v)

escaped-same : (text : List ℕ) → flat_map escape_byte text ≡ flat_map escape text
escaped-same [] = refl
escaped-same (b ∷ text) = ap (λ s. s ++ flat_map escape_byte text) (escape-same b) ∙ ap (λ s. escape b ++ s) (escaped-same text)

quoted-same : (text : List ℕ) → json_print.quoted text ≡ quoted text
quoted-same text = ap (λ s. 34 ∷ (s ++ 34 ∷ [])) (escaped-same text)

-- ---- the text of a tree

-- a tree is printed as this text, wherever it stands
abbrev pub Prints : json.Json → List ℕ → Type 0
Prints j text = (later : Bool) (ts : List Token) → print_from later (json_tokens j ++ ts) ≡ comma_if later ++ (text ++ print_from true ts)

abbrev pub ItemsPrint : json.Items → List (List ℕ) → Type 0
ItemsPrint json.no_items [] = Unit {0}
ItemsPrint json.no_items (text ∷ texts) = ⊥
ItemsPrint (json.item j js) [] = ⊥
ItemsPrint (json.item j js) (text ∷ texts) = Prints j text × ItemsPrint js texts

abbrev pub MembersPrint : json.Members → List Member → Type 0
MembersPrint json.no_members [] = Unit {0}
MembersPrint json.no_members (m ∷ ms) = ⊥
MembersPrint (json.member k j js) [] = ⊥
MembersPrint (json.member k j js) (m ∷ ms) = (k ≡ m.0) × Prints j m.1 × MembersPrint js ms

pub number-prints : (digits : List ℕ) → Prints (json.number digits) digits
unfolding print_from
number-prints digits = λ later ts. elim later as (λ b. print_from b (Token.number digits ∷ ts) ≡ comma_if b ++ (digits ++ print_from true ts)) [ true ↦ refl | false ↦ refl ]

pub string-prints : (text : List ℕ) → Prints (json.string text) (quoted text)
unfolding print_from
string-prints text = λ later ts.
    elim later as (λ b. print_from b (Token.string text ∷ ts) ≡ comma_if b ++ (quoted text ++ print_from true ts)) [
      | true ↦ ap (λ q. 44 ∷ (q ++ print_from true ts)) (quoted-same text)
      | false ↦ ap (λ q. q ++ print_from true ts) (quoted-same text)
    ]

pub flag-prints : (flag : Bool) → Prints (json.boolean flag) (flag_text flag)
unfolding print_from
flag-prints true later ts = elim later as (λ b. print_from b (Token.boolean true ∷ ts) ≡ comma_if b ++ (codes "true" ++ print_from true ts)) [ true ↦ refl | false ↦ refl ]
flag-prints false later ts = elim later as (λ b. print_from b (Token.boolean false ∷ ts) ≡ comma_if b ++ (codes "false" ++ print_from true ts)) [ true ↦ refl | false ↦ refl ]

further_items-print : (js : json.Items) (texts : List (List ℕ)) → ItemsPrint js texts → (ts : List Token)
    → print_from true (items_tokens js ++ ts) ≡ flat_map further_item texts ++ (codes "]" ++ print_from true ts)
unfolding print_from
further_items-print json.no_items [] h ts = refl
further_items-print json.no_items (text ∷ texts) h ts = absurd h
further_items-print (json.item j js) [] h ts = absurd h
further_items-print (json.item j js) (text ∷ texts) h ts =
    ap (print_from true) (append_assoc (json_tokens j) (items_tokens js) ts)
    ∙ h.0 true (items_tokens js ++ ts)
    ∙ ap (λ s. 44 ∷ (text ++ s)) (further_items-print js texts h.1 ts)
    ∙ ap (λ s. 44 ∷ s) (sym (append_assoc text (flat_map further_item texts) (codes "]" ++ print_from true ts)))

items-print : (js : json.Items) (texts : List (List ℕ)) → ItemsPrint js texts → (ts : List Token)
    → print_from false (items_tokens js ++ ts) ≡ items_text texts ++ (codes "]" ++ print_from true ts)
unfolding print_from
items-print json.no_items [] h ts = refl
items-print json.no_items (text ∷ texts) h ts = absurd h
items-print (json.item j js) [] h ts = absurd h
items-print (json.item j js) (text ∷ texts) h ts =
    ap (print_from false) (append_assoc (json_tokens j) (items_tokens js) ts)
    ∙ h.0 false (items_tokens js ++ ts)
    ∙ ap (λ s. text ++ s) (further_items-print js texts h.1 ts)
    ∙ sym (append_assoc text (flat_map further_item texts) (codes "]" ++ print_from true ts))

pub array-prints : (js : json.Items) (texts : List (List ℕ)) → ItemsPrint js texts → Prints (json.array js) (array_text texts)
unfolding print_from
array-prints js texts h = λ later ts.
    let inner : print_from false (items_tokens js ++ ts) ≡ (items_text texts ++ codes "]") ++ print_from true ts =
    items-print js texts h ts ∙ sym (append_assoc (items_text texts) (codes "]") (print_from true ts)) in
    elim later as (λ b. print_from b (Token.begin_array ∷ (items_tokens js ++ ts)) ≡ comma_if b ++ (array_text texts ++ print_from true ts)) [
      | true ↦ ap (λ s. 44 ∷ 91 ∷ s) inner
      | false ↦ ap (λ s. 91 ∷ s) inner
    ]

regroup : (q text rest close : List ℕ) → (q ++ 58 ∷ []) ++ (text ++ (rest ++ close)) ≡ ((q ++ 58 ∷ text) ++ rest) ++ close
regroup q text rest close =
    append_assoc q (58 ∷ []) (text ++ (rest ++ close))
    ∙ ap (λ s. q ++ 58 ∷ s) (sym (append_assoc text rest close))
    ∙ sym (append_assoc q (58 ∷ (text ++ rest)) close)
    ∙ ap (λ s. s ++ close) (sym (append_assoc q (58 ∷ text) rest))

further_members-print : (js : json.Members) (ms : List Member) → MembersPrint js ms → (ts : List Token)
    → print_from true (members_tokens js ++ ts) ≡ flat_map further_item (map member_text ms) ++ (codes "}" ++ print_from true ts)
unfolding print_from
further_members-print json.no_members [] h ts = refl
further_members-print json.no_members (m ∷ ms) h ts = absurd h
further_members-print (json.member k j js) [] h ts = absurd h
further_members-print (json.member k j js) (m ∷ ms) h ts =
    let rest : List ℕ = flat_map further_item (map member_text ms) in
    let close : List ℕ = codes "}" ++ print_from true ts in
    ap (λ l. 44 ∷ ((json_print.quoted k ++ 58 ∷ []) ++ print_from false l)) (append_assoc (json_tokens j) (members_tokens js) ts)
    ∙ ap (λ s. 44 ∷ ((json_print.quoted k ++ 58 ∷ []) ++ s)) (h.1 false (members_tokens js ++ ts) ∙ ap (λ s. m.1 ++ s) (further_members-print js ms h.2 ts))
    ∙ ap (λ q. 44 ∷ ((q ++ 58 ∷ []) ++ (m.1 ++ (rest ++ close)))) (quoted-same k ∙ ap quoted h.0)
    ∙ ap (λ s. 44 ∷ s) (regroup (quoted m.0) m.1 rest close)

members-print : (js : json.Members) (ms : List Member) → MembersPrint js ms → (ts : List Token)
    → print_from false (members_tokens js ++ ts) ≡ members_text ms ++ (codes "}" ++ print_from true ts)
unfolding print_from
members-print json.no_members [] h ts = refl
members-print json.no_members (m ∷ ms) h ts = absurd h
members-print (json.member k j js) [] h ts = absurd h
members-print (json.member k j js) (m ∷ ms) h ts =
    let rest : List ℕ = flat_map further_item (map member_text ms) in
    let close : List ℕ = codes "}" ++ print_from true ts in
    ap (λ l. (json_print.quoted k ++ 58 ∷ []) ++ print_from false l) (append_assoc (json_tokens j) (members_tokens js) ts)
    ∙ ap (λ s. (json_print.quoted k ++ 58 ∷ []) ++ s) (h.1 false (members_tokens js ++ ts) ∙ ap (λ s. m.1 ++ s) (further_members-print js ms h.2 ts))
    ∙ ap (λ q. (q ++ 58 ∷ []) ++ (m.1 ++ (rest ++ close))) (quoted-same k ∙ ap quoted h.0)
    ∙ regroup (quoted m.0) m.1 rest close

pub object-prints : (js : json.Members) (ms : List Member) → MembersPrint js ms → Prints (json.object js) (object_text ms)
unfolding print_from
object-prints js ms h = λ later ts.
    let inner : print_from false (members_tokens js ++ ts) ≡ (members_text ms ++ codes "}") ++ print_from true ts =
    members-print js ms h ts ∙ sym (append_assoc (members_text ms) (codes "}") (print_from true ts)) in
    elim later as (λ b. print_from b (Token.begin_object ∷ (members_tokens js ++ ts)) ≡ comma_if b ++ (object_text ms ++ print_from true ts)) [
      | true ↦ ap (λ s. 44 ∷ 123 ∷ s) inner
      | false ↦ ap (λ s. 123 ∷ s) inner
    ]

-- ---- a printed tree is read

pub json-printed : (j : json.Json) (text : List ℕ) → Prints j text → HasNumbers j → depth j ≤ max_depth → IsUtf8 text → json_of_bytes text ≡ Some j
unfolding print_from
json-printed j text prints numbers shallow utf8 =
    let same : print (json_tokens j) ≡ text = ap (print_from false) (sym (append-nil (json_tokens j))) ∙ prints false [] ∙ append-nil text in
    let all : tokens text ≡ json_tokens j ++ [] = ap tokens (sym same) ∙ tokens-print (json_tokens j) (ArePrintable-json_tokens j numbers) ∙ sym (append-nil (json_tokens j)) in
    let found : json.value max_depth (tokens text) ≡ Some (j, []) = ap (json.value max_depth) all ∙ value-json_tokens j max_depth [] shallow in
    ap (λ b. if b then json_of_text text else None) (is_utf8-from_IsUtf8 text utf8) ∙ ap (λ o. option_and_then (λ p. json.if_last p.0 p.1) o) found
