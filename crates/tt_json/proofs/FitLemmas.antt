-- A text that fits is read by serde_json, and one that doesn't is refused.
use Rattle.std.proofs.Common.{◌≡◌, ℕ, suc, ◌+◌, ◌-◌, ◌≤◌, List, [], ◌∷◌, ◌++◌, Bool, true, false, Option, Some, None, is_some, option_map, option_and_then, refl, sym, ap, ◌∙◌, arith, append_assoc, append-nil, true≢false}
use Rattle.std.specs.Prelude.{◌&&◌, nat_lt}
use Rattle.json.specs.Token.{Token}
use Rattle.json.specs.Lex.{tokens}
use Rattle.json.specs.Json as json
use Rattle.json.specs.Tree.{json_tokens, items_tokens, members_tokens}
use Rattle.serde_json.specs.Read.{max_depth}
use Rattle.std.proofs.lemmas.Bool.{and_parts, and_from, lt-ltb, ltb-true}
use Rattle.json.specs.Json.{if_last, document}
use Rattle.json.specs.Tree as tree
use Rattle.json.proofs.Found.{not_found, Some_inj}
use Rattle.json.proofs.Nesting.{value-depth}
use Rattle.json.proofs.Printed.Trees.{value-json_tokens}
use Rattle.json.proofs.Unique.Spelling.{tokens-document, value-json_tokens_back}
use Rattle.serde_json.specs.Data.{Data, number, array, object, item, Items, Members, put}
use Rattle.serde_json.specs.Read.{number_of, of_json, of_items, of_members, read}
use Rattle.tt_json.specs.Tape.{IsRead}
use Rattle.tt_json.specs.Text.{json_of_text}
use Rattle.tt_json.proofs.DataLemmas.{mapped, chained}
use Rattle.tt_json.specs.Fit.{tokens_fit, fits, items_fit, members_fit}

and_assoc : (a b c : Bool) → (a && b) && c ≡ a && (b && c)
and_assoc true b c = refl
and_assoc false b c = refl

mutual
  -- the flat test, a value at a time
  pub tokens_fit-json : (d : ℕ) (j : json.Json) (ts : List Token) → tokens_fit d (json_tokens j ++ ts) ≡ fits d j && tokens_fit d ts
  tokens_fit-json d json.null ts = refl
  tokens_fit-json d (json.boolean b) ts = refl
  tokens_fit-json d (json.number s) ts = refl
  tokens_fit-json d (json.string s) ts = refl
  tokens_fit-json d (json.array js) ts = ap (λ b. nat_lt d max_depth && b) (tokens_fit-items d js ts) ∙ sym (and_assoc (nat_lt d max_depth) (items_fit (suc d) js) _)
  tokens_fit-json d (json.object ms) ts = ap (λ b. nat_lt d max_depth && b) (tokens_fit-members d ms ts) ∙ sym (and_assoc (nat_lt d max_depth) (members_fit (suc d) ms) _)

  tokens_fit-items : (d : ℕ) (js : json.Items) (ts : List Token) → tokens_fit (suc d) (items_tokens js ++ ts) ≡ items_fit (suc d) js && tokens_fit d ts
  tokens_fit-items d json.no_items ts = let e : suc d - 1 ≡ d = omega arith in ap (λ n. tokens_fit n ts) e
  tokens_fit-items d (json.item j js) ts =
      ap (tokens_fit (suc d)) (append_assoc (json_tokens j) (items_tokens js) ts) ∙ tokens_fit-json (suc d) j (items_tokens js ++ ts)
      ∙ ap (λ b. fits (suc d) j && b) (tokens_fit-items d js ts) ∙ sym (and_assoc (fits (suc d) j) (items_fit (suc d) js) _)

  tokens_fit-members : (d : ℕ) (ms : json.Members) (ts : List Token) → tokens_fit (suc d) (members_tokens ms ++ ts) ≡ members_fit (suc d) ms && tokens_fit d ts
  tokens_fit-members d json.no_members ts = let e : suc d - 1 ≡ d = omega arith in ap (λ n. tokens_fit n ts) e
  tokens_fit-members d (json.member k j ms) ts =
      ap (tokens_fit (suc d)) (append_assoc (json_tokens j) (members_tokens ms) ts) ∙ tokens_fit-json (suc d) j (members_tokens ms ++ ts)
      ∙ ap (λ b. fits (suc d) j && b) (tokens_fit-members d ms ts) ∙ sym (and_assoc (fits (suc d) j) (members_fit (suc d) ms) _)

-- ---- what fits is read

some_of : {A : Type 0} (o : Option A) → is_some o ≡ true → (a : A) × (o ≡ Some a)
some_of None e = absurd (true≢false (sym e))
some_of (Some a) e = (a, refl)

mutual
  read-fits : (d : ℕ) (j : json.Json) → d ≤ max_depth → fits d j ≡ true → (tree.depth j + d ≤ max_depth) × (e : Data) × (of_json j ≡ Some e)
  read-fits d json.null h e = (omega arith, _, refl)
  read-fits d (json.boolean b) h e = (omega arith, _, refl)
  read-fits d (json.number s) h e = let n = some_of (number_of s) e in (omega arith, number n.0, ap (option_map number) n.1)
  read-fits d (json.string s) h e = (omega arith, _, refl)
  read-fits d (json.array js) h e =
      let both = and_parts (nat_lt d max_depth) (items_fit (suc d) js) e in
      let less = ltb-true d max_depth both.0 in
      let inner = read-items_fit (suc d) js (omega arith) both.1 in
      (omega (arith, inner.0), array inner.1, ap (option_map array) inner.2)
  read-fits d (json.object ms) h e =
      let both = and_parts (nat_lt d max_depth) (members_fit (suc d) ms) e in
      let less = ltb-true d max_depth both.0 in
      let inner = read-members_fit (suc d) ms Members.no_members (omega arith) both.1 in
      (omega (arith, inner.0), object inner.1, ap (option_map object) inner.2)

  read-items_fit : (d : ℕ) (js : json.Items) → d ≤ max_depth → items_fit d js ≡ true → (tree.items_depth js + d ≤ max_depth) × (es : Items) × (of_items js ≡ Some es)
  read-items_fit d json.no_items h e = (omega arith, _, refl)
  read-items_fit d (json.item j js) h e =
      let both = and_parts (fits d j) (items_fit d js) e in
      let first = read-fits d j h both.0 in
      let rest = read-items_fit d js h both.1 in
      (omega (arith, first.0, rest.0), item first.1 rest.1, ap (option_and_then (λ x. option_map (item x) (of_items js))) first.2 ∙ ap (option_map (item first.1)) rest.2)

  read-members_fit : (d : ℕ) (ms : json.Members) (old : Members) → d ≤ max_depth → members_fit d ms ≡ true → (tree.members_depth ms + d ≤ max_depth) × (es : Members) × (of_members ms old ≡ Some es)
  read-members_fit d json.no_members old h e = (omega arith, old, refl)
  read-members_fit d (json.member k j ms) old h e =
      let both = and_parts (fits d j) (members_fit d ms) e in
      let first = read-fits d j h both.0 in
      let rest = read-members_fit d ms (put k first.1 old) h both.1 in
      (omega (arith, first.0, rest.0), rest.1, ap (option_and_then (λ x. of_members ms (put k x old))) first.2 ∙ rest.2)

-- ---- what is read fits

mutual
  fits-read : (d : ℕ) (j : json.Json) (e : Data) → tree.depth j + d ≤ max_depth → of_json j ≡ Some e → fits d j ≡ true
  fits-read d json.null e h is = refl
  fits-read d (json.boolean b) e h is = refl
  fits-read d (json.number s) e h is = let m = mapped number (number_of s) e is in ap is_some m.1
  fits-read d (json.string s) e h is = refl
  fits-read d (json.array js) e h is =
      let m = mapped array (of_items js) e is in
      and_from (nat_lt d max_depth) _ (lt-ltb d max_depth (omega arith)) (items_fit-read (suc d) js m.0 (omega arith) m.1)
  fits-read d (json.object ms) e h is =
      let m = mapped object (of_members ms Members.no_members) e is in
      and_from (nat_lt d max_depth) _ (lt-ltb d max_depth (omega arith)) (members_fit-read (suc d) ms Members.no_members m.0 (omega arith) m.1)

  items_fit-read : (d : ℕ) (js : json.Items) (es : Items) → tree.items_depth js + d ≤ max_depth → of_items js ≡ Some es → items_fit d js ≡ true
  items_fit-read d json.no_items es h is = refl
  items_fit-read d (json.item j js) es h is =
      let c = chained (λ x. option_map (item x) (of_items js)) (of_json j) es is in
      let m = mapped (item c.0) (of_items js) es c.2 in
      and_from (fits d j) _ (fits-read d j c.0 (omega arith) c.1) (items_fit-read d js m.0 (omega arith) m.1)

  members_fit-read : (d : ℕ) (ms : json.Members) (old es : Members) → tree.members_depth ms + d ≤ max_depth → of_members ms old ≡ Some es → members_fit d ms ≡ true
  members_fit-read d json.no_members old es h is = refl
  members_fit-read d (json.member k j ms) old es h is =
      let c = chained (λ x. of_members ms (put k x old)) (of_json j) es is in
      and_from (fits d j) _ (fits-read d j c.0 (omega arith) c.1) (members_fit-read d ms (put k c.0 old) es (omega arith) c.2)

-- ---- a whole text

last : (o : Option (json.Json × List Token)) (j : json.Json) → option_and_then (λ p. if_last p.0 p.1) o ≡ Some j → o ≡ Some (j, [])
last None j e = not_found j e
last (Some (i, [])) j e = ap (λ x. Some (x, [])) (Some_inj i j e)
last (Some (i, t ∷ ts)) j e = not_found j e

whole_fits : (text : List ℕ) (j : json.Json) → document text ≡ Some j → tokens_fit 0 (tokens text) ≡ fits 0 j
whole_fits text j e = ap (tokens_fit 0) (tokens-document text j e ∙ sym (append-nil _)) ∙ tokens_fit-json 0 j [] ∙ and_true (fits 0 j)
  where
    and_true : (b : Bool) → b && true ≡ b
    and_true true = refl
    and_true false = refl

-- the grammar at a depth that is enough
json_of_text-shallow : (text : List ℕ) (j : json.Json) → document text ≡ Some j → tree.depth j ≤ max_depth → json_of_text text ≡ Some j
json_of_text-shallow text j e shallow =
    let same : json.value max_depth (tokens text) ≡ Some (j, []) = ap (json.value max_depth) (tokens-document text j e ∙ sym (append-nil _)) ∙ value-json_tokens j max_depth [] shallow in
    ap (λ o. option_and_then (λ p. if_last p.0 p.1) o) same

at_depth : (text : List ℕ) (j : json.Json) → document text ≡ Some j → tree.depth j ≤ max_depth → read text ≡ of_json j
at_depth text j e shallow = ap (option_and_then of_json) (json_of_text-shallow text j e shallow)

-- a value that serde_json reads, and the value of the grammar
read_parts : (text : List ℕ) (d : Data) → read text ≡ Some d → (j : json.Json) × (tree.depth j ≤ max_depth) × (of_json j ≡ Some d) × (document text ≡ Some j)
read_parts text d e =
    let c = chained of_json (option_and_then (λ p. if_last p.0 p.1) (json.value max_depth (tokens text))) d e in
    let whole = last (json.value max_depth (tokens text)) c.0 c.1 in
    let shallow = value-depth max_depth (tokens text) [] c.0 whole in
    let spelled = value-json_tokens_back max_depth (tokens text) [] c.0 whole in
    let deeper : json.value json.max_depth (tokens text) ≡ Some (c.0, []) = ap (json.value json.max_depth) spelled ∙ value-json_tokens c.0 json.max_depth [] (omega arith) in
    (c.0, shallow, c.2, ap (option_and_then (λ p. if_last p.0 p.1)) deeper)

-- serde_json reads a text whose tokens fit
pub read-fit : (text : List ℕ) (j : json.Json) → document text ≡ Some j → tokens_fit 0 (tokens text) ≡ true → IsRead j × (read text ≡ of_json j)
read-fit text j e fit =
    let r = read-fits 0 j (omega arith) (sym (whole_fits text j e) ∙ fit) in
    ((omega (arith, r.0), r.1, r.2), at_depth text j e (omega (arith, r.0)))

-- and no other
pub read-unfit : (text : List ℕ) → tokens_fit 0 (tokens text) ≡ false → read text ≡ None
read-unfit text unfit = go (read text) refl
  where
    go : (o : Option Data) → read text ≡ o → o ≡ None
    go None is = refl
    go (Some d) is =
        let p = read_parts text d is in
        absurd (true≢false (sym (fits-read 0 p.0 d (omega (arith, p.1)) p.2) ∙ sym (whole_fits text p.0 p.3) ∙ unfit))

pub read-refused : (text : List ℕ) → document text ≡ None → read text ≡ None
read-refused text e = go (read text) refl
  where
    go : (o : Option Data) → read text ≡ o → o ≡ None
    go None is = refl
    go (Some d) is = let p = read_parts text d is in not_found p.0 (sym e ∙ p.3)

-- the JSON of a text that serde_json reads is the one of the grammar
pub json_of_text-document : (text : List ℕ) (d : Data) → read text ≡ Some d → json_of_text text ≡ document text
json_of_text-document text d e =
    let p = read_parts text d e in
    json_of_text-shallow text p.0 p.3 p.1 ∙ sym p.3
