-- The items and members of a tape, one after another.
use Rattle.std.proofs.Common.{◌≡◌, ℕ, suc, ◌^◌, ◌<◌, ◌≤◌, length-append, List, [], ◌∷◌, ◌++◌, length, Option, Some, None, is_some, option_map, option_and_then, refl, sym, ap, ◌∙◌, subst, arith, append_assoc, Bool, true}
use Rattle.std.specs.Prelude.{MatchOption, IsSome}
use Rattle.json.specs.Lex.{tokens}
use Rattle.tt_json.specs.Fit.{tokens_fit}
use Rattle.tt_json.proofs.FitLemmas.{read-fit}
use Rattle.json.specs.Token.{Token}
use Rattle.json.specs.Json as json
use Rattle.json.specs.Json.{parse_map}
use Rattle.json.specs.Tree as tree
use Rattle.json.specs.Tree.{json_tokens, items_tokens, members_tokens}
use Rattle.json.specs.Find as jfind
use Rattle.json.specs.Find.{BeginsWith, InItems, InMembers, NextItem, Finds}
use Rattle.json.proofs.Found.{not_found, Some_inj, items_go_on, items_close}
use Rattle.json.proofs.Grammar.{closed_array, value-begin_array}
use Rattle.json.proofs.Printed.Trees.{value-json_tokens}
use Rattle.json.proofs.Unique.Spelling.{value-json_tokens_back}
use Rattle.serde_json.specs.Data.{Data, array, object, Items, item, Members, no_members}
use Rattle.serde_json.specs.Find as sfind
use Rattle.serde_json.specs.Read.{number_of, of_json, of_items, of_members, max_depth, read}
use Rattle.tt_json.specs.Value.{list_of, list_or_none, items_in}
use Rattle.tt_json.specs.Tape.{value_at, items_at, or_no_items, IsValue, AreItems, AreMembers}
use Rattle.tt_json.proofs.DataLemmas.{mapped, chained, value_at-is, as_array-data, as_str-data, as_bool-data, as_number-data, as_object-data}

first_of : json.Items → json.Json → json.Json
first_of json.no_items j = j
first_of (json.item i js) j = i

rest_of : json.Items → json.Items
rest_of json.no_items = json.no_items
rest_of (json.item i js) = js

abbrev Spelled : json.Items → Type 0
Spelled js = (ts : List Token) → InItems ts js → (rest : List Token) × (ts ≡ items_tokens js ++ rest)

over : (js : json.Items) (ts r : List Token) → json.after_end_array ts ≡ Some r → InItems ts js → (rest : List Token) × (ts ≡ items_tokens js ++ rest)
over js ts r e h =
    let is = closed_array ts r e in
    let none = items_close r js (subst (λ l. InItems l js) is h) in
    (r, is ∙ ap (λ x. items_tokens x ++ r) (sym none))

no_more : (o : Option (List Token)) (ts : List Token) → json.after_end_array ts ≡ o → InItems ts json.no_items → (rest : List Token) × (ts ≡ Token.end_array ∷ rest)
no_more (Some r) ts e h = over json.no_items ts r e h
no_more None ts e h = let f = items_go_on ts json.no_items e h in absurd (cc)

one_more : (j : json.Json) (js : json.Items) → Spelled js → (o : Option (List Token)) (ts : List Token) → json.after_end_array ts ≡ o → InItems ts (json.item j js) → (rest : List Token) × (ts ≡ items_tokens (json.item j js) ++ rest)
unfolding rest_of first_of
one_more j js again (Some r) ts e h = over (json.item j js) ts r e h
one_more j js again None ts e h =
    let f = items_go_on ts (json.item j js) e h in
    let same_first : j ≡ f.1 = ap (λ x. first_of x j) f.5 in
    let same_rest : js ≡ f.3 = ap rest_of f.5 in
    let more = again f.2 (subst (InItems f.2) (sym same_rest) f.6) in
    (more.0, value-json_tokens_back f.0 ts f.2 f.1 f.4 ∙ ap (λ x. json_tokens x ++ f.2) (sym same_first) ∙ ap (λ l. json_tokens j ++ l) more.1 ∙ sym (append_assoc (json_tokens j) (items_tokens js) more.0))

-- what the tokens spell
spelled : (js : json.Items) → Spelled js
spelled json.no_items ts h = no_more (json.after_end_array ts) ts refl h
spelled (json.item j js) ts h = one_more j js (spelled js) (json.after_end_array ts) ts refl h

array_items : json.Json → json.Items
array_items json.null = json.no_items
array_items (json.boolean b) = json.no_items
array_items (json.number s) = json.no_items
array_items (json.string s) = json.no_items
array_items (json.array js) = js
array_items (json.object ms) = json.no_items

inside : (o : Option (json.Items × List Token)) (js : json.Items) (rest : List Token) → parse_map json.array o ≡ Some (json.array js, rest) → o ≡ Some (js, rest)
unfolding array_items
inside None js rest e = not_found _ e
inside (Some p) js rest e = let both = Some_inj _ _ e in ap (λ x. Some (array_items x.0, x.1)) both

-- any reading of items is the reading of `items_at`
pub items_at-is : (ts : List Token) (js : json.Items) (ds : Items) → InItems ts js → tree.items_depth js ≤ max_depth → of_items js ≡ Some ds → items_at ts ≡ list_of ds
unfolding items_at
items_at-is ts js ds h shallow is =
    let s = spelled js ts h in
    let whole = value-json_tokens (json.array js) 128 s.0 (omega arith) in
    let read = inside (json.items (json.value max_depth) (length (items_tokens js ++ s.0)) (items_tokens js ++ s.0)) js s.0 (sym (value-begin_array 128 (items_tokens js ++ s.0) (omega arith)) ∙ whole) in
    let again : json.items (json.value max_depth) (length ts) ts ≡ Some (js, s.0) = ap (λ l. json.items (json.value max_depth) (length l) l) s.1 ∙ read in
    ap (λ o. list_of (or_no_items (option_and_then of_items (option_map (λ p. p.0) o)))) again ∙ ap (λ o. list_of (or_no_items o)) is

-- ---- the items of an array

pub items-array : (ts : List Token) (r : Option (List Token)) → IsValue ts → ((j : json.Json) → BeginsWith ts j → MatchOption r (jfind.as_array j ≡ None) (λ rest. (js : json.Items) × (j ≡ json.array js) × InItems rest js))
    → MatchOption r (sfind.as_array (value_at ts) ≡ None) (λ rest. AreItems rest × (option_map list_of (sfind.as_array (value_at ts)) ≡ Some (items_at rest)))
items-array ts None (j, begins, small, (shallow, d, is)) h =
    ap sfind.as_array (value_at-is ts j d begins shallow is) ∙ sym (as_array-data j d is) ∙ ap (option_and_then of_items) (h j begins)
items-array ts (Some rest) (j, begins, small, (shallow, d, is)) h =
    let a = h j begins in
    let m = mapped array (of_items a.0) d (ap of_json (sym a.1) ∙ is) in
    let less : tree.items_depth a.0 ≤ max_depth = omega (arith, subst (λ x. tree.depth x ≤ max_depth) a.1 shallow) in
    let fewer : length (items_tokens a.0) < 2 ^ 64 = omega (arith, subst (λ x. length (json_tokens x) < 2 ^ 64) a.1 small) in
    ((a.0, a.2, fewer, less, m.0, m.1), ap (λ x. option_map list_of (sfind.as_array x)) (value_at-is ts j d begins shallow is ∙ m.2) ∙ ap Some (sym (items_at-is rest a.0 m.0 a.2 less m.1)))

pub items-next : (old new : List Token) (r : Option (List Token)) → AreItems old → NextItem old r new
    → MatchOption r (items_at old ≡ []) (λ ts. IsValue ts × AreItems new × (items_at old ≡ value_at ts ∷ items_at new))
items-next old new None (js, within, small, shallow, ds, is) h =
    let none = h js within in
    items_at-is old js ds within shallow is ∙ ap list_of (Some_inj _ _ (sym is ∙ ap of_items none))
items-next old new (Some ts) (js, within, small, shallow, ds, is) h =
    let f = h js within in
    let c = chained (λ d. option_map (item d) (of_items f.1)) (of_json f.0) ds (ap of_items (sym f.2) ∙ is) in
    let m = mapped (item c.0) (of_items f.1) ds c.2 in
    let deep = subst (λ x. tree.items_depth x ≤ max_depth) f.2 shallow in
    let first : tree.depth f.0 ≤ max_depth = omega (arith, deep) in
    let rest : tree.items_depth f.1 ≤ max_depth = omega (arith, deep) in
    let all : length (json_tokens f.0 ++ items_tokens f.1) < 2 ^ 64 = subst (λ x. length (items_tokens x) < 2 ^ 64) f.2 small in
    let first_small : length (json_tokens f.0) < 2 ^ 64 = omega (arith, all, length-append (json_tokens f.0) (items_tokens f.1)) in
    let rest_small : length (items_tokens f.1) < 2 ^ 64 = omega (arith, all, length-append (json_tokens f.0) (items_tokens f.1)) in (
      (f.0, f.3, first_small, (first, c.0, c.1)),
      (f.1, f.4, rest_small, rest, m.0, m.1),
      items_at-is old js ds within shallow is ∙ ap list_of m.2 ∙ ap (λ d. d ∷ list_of m.0) (sym (value_at-is ts f.0 c.0 f.3 first c.1)) ∙ ap (λ l. value_at ts ∷ l) (sym (items_at-is new f.1 m.0 f.4 rest m.1)),
    )

some_token : (j : json.Json) → 1 ≤ length (json_tokens j)
some_token json.null = omega arith
some_token (json.boolean b) = omega arith
some_token (json.number s) = omega arith
some_token (json.string s) = omega arith
some_token (json.array js) = omega arith
some_token (json.object ms) = omega arith

-- there are no more items than tokens
length-items : (js : json.Items) (ds : Items) → of_items js ≡ Some ds → length (list_of ds) ≤ length (items_tokens js)
length-items json.no_items ds is = omega (arith, ap (λ x. length (list_of x)) (sym (Some_inj _ _ is)))
length-items (json.item j js) ds is =
    let c = chained (λ d. option_map (item d) (of_items js)) (of_json j) ds is in
    let m = mapped (item c.0) (of_items js) ds c.2 in
    omega (arith, length-items js m.0 m.1, ap (λ x. length (list_of x)) m.2, some_token j, length-append (json_tokens j) (items_tokens js))

pub few_items : (ts : List Token) → AreItems ts → length (items_at ts) < 2 ^ 64
few_items ts (js, within, small, shallow, ds, is) = omega (arith, ap length (items_at-is ts js ds within shallow is), length-items js ds is, small)

-- the items that are left are one fewer, or none
pub items-fewer : (old new : List Token) (r : Option (List Token)) → AreItems old → NextItem old r new
    → MatchOption r (length (items_at old) ≡ 0) (λ ts. AreItems new × (length (items_at old) ≡ suc (length (items_at new))))
items-fewer old new None h next = ap length (items-next old new None h next)
items-fewer old new (Some ts) h next = let f = items-next old new (Some ts) h next in (f.1, ap length f.2)

some_list : (o : Option Items) (ds : List Data) → option_map list_of o ≡ Some ds → list_or_none o ≡ ds
some_list None ds e = not_found ds e
some_list (Some is) ds e = Some_inj _ _ e

-- the items of an array that was seen from inside
pub length-items_in : (inner outer : List Token) (ds : List Data) → inner ≡ outer → option_map list_of (sfind.as_array (value_at inner)) ≡ Some ds
    → length (items_in (value_at outer)) ≡ length ds
length-items_in inner outer ds same e =
    ap (λ ts. length (items_in (value_at ts))) (sym same) ∙ ap length (some_list (sfind.as_array (value_at inner)) ds e)

pub no_items_in : (inner outer : List Token) → inner ≡ outer → sfind.as_array (value_at inner) ≡ None → 0 ≡ length (items_in (value_at outer))
no_items_in inner outer same e =
    ap (λ o. length (list_or_none o)) (sym e) ∙ ap (λ ts. length (items_in (value_at ts))) same

-- ---- the members of an object

pub object-value : (ts : List Token) (r : Option (List Token)) → IsValue ts → ((j : json.Json) → BeginsWith ts j → MatchOption r (jfind.as_object j ≡ None) (λ rest. (ms : json.Members) × (j ≡ json.object ms) × InMembers rest ms))
    → is_some r ≡ is_some (sfind.as_object (value_at ts))
object-value ts None (j, begins, small, (shallow, d, is)) h =
    ap is_some (sym (ap (option_and_then (λ ms. of_members ms no_members)) (h j begins)) ∙ as_object-data j d is ∙ ap sfind.as_object (sym (value_at-is ts j d begins shallow is)))
object-value ts (Some rest) (j, begins, small, (shallow, d, is)) h =
    let a = h j begins in
    let m = mapped object (of_members a.0 no_members) d (ap of_json (sym a.1) ∙ is) in
    ap (λ x. is_some (sfind.as_object x)) (sym m.2 ∙ sym (value_at-is ts j d begins shallow is))

-- the members of an object, and none of another value
pub members-object : (ts : List Token) (r : Option (List Token)) → IsValue ts → ((j : json.Json) → BeginsWith ts j → MatchOption r (jfind.as_object j ≡ None) (λ rest. (ms : json.Members) × (j ≡ json.object ms) × InMembers rest ms))
    → MatchOption r (sfind.as_object (value_at ts) ≡ None) (λ rest. (all : Members) × AreMembers rest no_members all × (sfind.as_object (value_at ts) ≡ Some all))
members-object ts None (j, begins, small, (shallow, d, is)) h =
    ap sfind.as_object (value_at-is ts j d begins shallow is) ∙ sym (as_object-data j d is) ∙ ap (option_and_then (λ ms. of_members ms no_members)) (h j begins)
members-object ts (Some rest) (j, begins, small, (shallow, d, is)) h =
    let a = h j begins in
    let m = mapped object (of_members a.0 no_members) d (ap of_json (sym a.1) ∙ is) in
    let less : tree.members_depth a.0 ≤ max_depth = omega (arith, subst (λ x. tree.depth x ≤ max_depth) a.1 shallow) in
    let fewer : length (members_tokens a.0) < 2 ^ 64 = omega (arith, subst (λ x. length (json_tokens x) < 2 ^ 64) a.1 small) in
    (m.0, (a.0, a.2, fewer, less, m.1), ap sfind.as_object (value_at-is ts j d begins shallow is ∙ m.2))

-- ---- leaves

pub str-value : (ts : List Token) (r : Option (List ℕ)) → IsValue ts → ((j : json.Json) → BeginsWith ts j → r ≡ jfind.as_str j) → r ≡ sfind.as_str (value_at ts)
str-value ts r (j, begins, small, (shallow, d, is)) h = h j begins ∙ as_str-data j d is ∙ ap sfind.as_str (sym (value_at-is ts j d begins shallow is))

pub bool-value : (ts : List Token) (r : Option Bool) → IsValue ts → ((j : json.Json) → BeginsWith ts j → r ≡ jfind.as_bool j) → r ≡ sfind.as_bool (value_at ts)
bool-value ts r (j, begins, small, (shallow, d, is)) h = h j begins ∙ as_bool-data j d is ∙ ap sfind.as_bool (sym (value_at-is ts j d begins shallow is))

pub number-value : (ts : List Token) (r : Option (List ℕ)) → IsValue ts → ((j : json.Json) → BeginsWith ts j → r ≡ jfind.as_number j) → option_and_then number_of r ≡ sfind.as_number (value_at ts)
number-value ts r (j, begins, small, (shallow, d, is)) h = ap (option_and_then number_of) (h j begins) ∙ as_number-data j d is ∙ ap sfind.as_number (sym (value_at-is ts j d begins shallow is))

-- ---- a whole text

pub whole_value : (text : List ℕ) (ts : List Token) → ts ≡ tokens text → length ts < 2 ^ 64 → IsSome (json.document text) → ((j : json.Json) → json.document text ≡ Some j → BeginsWith ts j) → tokens_fit 0 ts ≡ true
    → IsValue ts × (read text ≡ Some (value_at ts))
whole_value text ts same few some begins fit = go (json.document text) refl some
  where
    go : (o : Option json.Json) → json.document text ≡ o → IsSome o → IsValue ts × (read text ≡ Some (value_at ts))
    go None e h = cc
    go (Some j) e h =
        let r = read-fit text j e (ap (tokens_fit 0) (sym same) ∙ fit) in
        let b = begins j e in
        let spelled = value-json_tokens_back b.0 ts b.1 j b.2 in
        let small : length (json_tokens j) < 2 ^ 64 = omega (arith, few, ap length spelled, length-append (json_tokens j) b.1) in
        ((j, b, small, r.0), r.1 ∙ r.0.2 ∙ ap Some (sym (value_at-is ts j r.0.1 (begins j e) r.0.0 r.0.2)))
