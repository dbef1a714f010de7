-- A look-up in what was read finds what serde_json's does.
use Rattle.std.proofs.Common.{◌≡◌, ℕ, ◌≤◌, List, Bool, true, false, cond, Option, Some, None, option_map, option_and_then, refl, sym, ap, ◌∙◌, bytes_eq, true≢false}
use Rattle.std.proofs.lemmas.Slice.Eq.{bytes_eq-Decides}
use Rattle.json.specs.Token.{Token}
use Rattle.json.specs.Json as json
use Rattle.json.specs.Tree as tree
use Rattle.json.specs.Find as jfind
use Rattle.json.specs.Find.{BeginsWith, Finds}
use Rattle.json.proofs.Found.{not_found, Some_inj}
use Rattle.json.proofs.Printed.Trees.{value-json_tokens}
use Rattle.json.proofs.Unique.Spelling.{value-json_tokens_back}
use Rattle.serde_json.specs.Data.{Data, number, array, object, Members, put}
use Rattle.serde_json.specs.Find as sfind
use Rattle.serde_json.specs.Read.{number_of, of_json, of_items, of_members, max_depth}
use Rattle.serde_json.proofs.Views.{get_member-put, get_member-put_other}
use Rattle.tt_json.specs.Tape.{or_null, value_at}

-- any reading at a place is the reading of `value_at`
pub value_at-is : (ts : List Token) (j : json.Json) (d : Data) → BeginsWith ts j → tree.depth j ≤ max_depth → of_json j ≡ Some d → value_at ts ≡ d
unfolding value_at
value_at-is ts j d (depth, rest, e) shallow is =
    let spelled = value-json_tokens_back depth ts rest j e in
    let again : json.value max_depth ts ≡ Some (j, rest) = ap (json.value max_depth) spelled ∙ value-json_tokens j max_depth rest shallow in
    ap (λ o. or_null (option_and_then of_json (option_map (λ p. p.0) o))) again ∙ ap or_null is

-- ---- a mapped option

pub mapped : {A B : Type 0} (f : A → B) (o : Option A) (b : B) → option_map f o ≡ Some b → (a : A) × (o ≡ Some a) × (b ≡ f a)
mapped f None b e = not_found b e
mapped f (Some a) b e = (a, refl, sym (Some_inj _ _ e))

pub chained : {A B : Type 0} (f : A → Option B) (o : Option A) (b : B) → option_and_then f o ≡ Some b → (a : A) × (o ≡ Some a) × (f a ≡ Some b)
chained f None b e = not_found b e
chained f (Some a) b e = (a, refl, e)

-- ---- one level

pub as_str-data : (j : json.Json) (d : Data) → of_json j ≡ Some d → jfind.as_str j ≡ sfind.as_str d
as_str-data json.null d e = ap sfind.as_str (Some_inj _ _ e)
as_str-data (json.boolean b) d e = ap sfind.as_str (Some_inj _ _ e)
as_str-data (json.number s) d e = let m = mapped number (number_of s) d e in ap sfind.as_str (sym m.2)
as_str-data (json.string s) d e = ap sfind.as_str (Some_inj _ _ e)
as_str-data (json.array js) d e = let m = mapped array (of_items js) d e in ap sfind.as_str (sym m.2)
as_str-data (json.object ms) d e = let m = mapped object _ d e in ap sfind.as_str (sym m.2)

pub as_bool-data : (j : json.Json) (d : Data) → of_json j ≡ Some d → jfind.as_bool j ≡ sfind.as_bool d
as_bool-data json.null d e = ap sfind.as_bool (Some_inj _ _ e)
as_bool-data (json.boolean b) d e = ap sfind.as_bool (Some_inj _ _ e)
as_bool-data (json.number s) d e = let m = mapped number (number_of s) d e in ap sfind.as_bool (sym m.2)
as_bool-data (json.string s) d e = ap sfind.as_bool (Some_inj _ _ e)
as_bool-data (json.array js) d e = let m = mapped array (of_items js) d e in ap sfind.as_bool (sym m.2)
as_bool-data (json.object ms) d e = let m = mapped object _ d e in ap sfind.as_bool (sym m.2)

pub as_number-data : (j : json.Json) (d : Data) → of_json j ≡ Some d → option_and_then number_of (jfind.as_number j) ≡ sfind.as_number d
as_number-data json.null d e = ap sfind.as_number (Some_inj _ _ e)
as_number-data (json.boolean b) d e = ap sfind.as_number (Some_inj _ _ e)
as_number-data (json.number s) d e = let m = mapped number (number_of s) d e in m.1 ∙ ap sfind.as_number (sym m.2)
as_number-data (json.string s) d e = ap sfind.as_number (Some_inj _ _ e)
as_number-data (json.array js) d e = let m = mapped array (of_items js) d e in ap sfind.as_number (sym m.2)
as_number-data (json.object ms) d e = let m = mapped object _ d e in ap sfind.as_number (sym m.2)

pub as_array-data : (j : json.Json) (d : Data) → of_json j ≡ Some d → option_and_then of_items (jfind.as_array j) ≡ sfind.as_array d
as_array-data json.null d e = ap sfind.as_array (Some_inj _ _ e)
as_array-data (json.boolean b) d e = ap sfind.as_array (Some_inj _ _ e)
as_array-data (json.number s) d e = let m = mapped number (number_of s) d e in ap sfind.as_array (sym m.2)
as_array-data (json.string s) d e = ap sfind.as_array (Some_inj _ _ e)
as_array-data (json.array js) d e = let m = mapped array (of_items js) d e in m.1 ∙ ap sfind.as_array (sym m.2)
as_array-data (json.object ms) d e = let m = mapped object _ d e in ap sfind.as_array (sym m.2)

pub as_object-data : (j : json.Json) (d : Data) → of_json j ≡ Some d → option_and_then (λ ms. of_members ms Members.no_members) (jfind.as_object j) ≡ sfind.as_object d
as_object-data json.null d e = ap sfind.as_object (Some_inj _ _ e)
as_object-data (json.boolean b) d e = ap sfind.as_object (Some_inj _ _ e)
as_object-data (json.number s) d e = let m = mapped number (number_of s) d e in ap sfind.as_object (sym m.2)
as_object-data (json.string s) d e = ap sfind.as_object (Some_inj _ _ e)
as_object-data (json.array js) d e = let m = mapped array (of_items js) d e in ap sfind.as_object (sym m.2)
as_object-data (json.object ms) d e = let m = mapped object _ d e in m.1 ∙ ap sfind.as_object (sym m.2)

-- ---- members by name: the last one of a name

-- the value found in the text, or else what stood there before
abbrev pub found_or : Option json.Json → Option Data → Option Data
found_or None before = before
found_or (Some j) before = of_json j

after_put : (name k : List ℕ) (j : json.Json) (d : Data) (old : Members) (b : Bool) → bytes_eq k name ≡ b → of_json j ≡ Some d
    → sfind.get_member name (put k d old) ≡ found_or (cond b (Some j) None) (sfind.get_member name old)
after_put name k j d old true same e =
    let is : k ≡ name = (bytes_eq-Decides k name).0 same in
    ap (λ n. sfind.get_member n (put k d old)) (sym is) ∙ get_member-put k d old ∙ sym e
after_put name k j d old false other e =
    let apart = λ (is : name ≡ k). true≢false (sym ((bytes_eq-Decides k name).1 (sym is)) ∙ other) in
    get_member-put_other name k d old apart

later : (o p : Option json.Json) (before : Option Data) → found_or o (found_or p before) ≡ found_or (jfind.later_or o p) before
later None p before = refl
later (Some j) p before = refl

pub get_member-data : (name : List ℕ) (ms : json.Members) (old new : Members) → of_members ms old ≡ Some new → sfind.get_member name new ≡ found_or (jfind.get_member name ms) (sfind.get_member name old)
get_member-data name json.no_members old new e = ap (sfind.get_member name) (sym (Some_inj _ _ e))
get_member-data name (json.member k j ms) old new e =
    let c = chained (λ d. of_members ms (put k d old)) (of_json j) new e in
    get_member-data name ms (put k c.0 old) new c.2
    ∙ ap (found_or (jfind.get_member name ms)) (after_put name k j c.0 old _ refl c.1)
    ∙ later (jfind.get_member name ms) (cond (bytes_eq k name) (Some j) None) (sfind.get_member name old)
