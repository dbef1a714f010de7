-- Members that are looked for while the members of an object are put one after another.
use Rattle.std.proofs.Common.{◌≡◌, ℕ, Bool, true, false, List, [], ◌∷◌, ◌++◌, Option, Some, None, option_map, map, Bor, refl, sym, ap, ◌∙◌, bytes_eq, true≢false}
use Rattle.std.specs.Prelude.{◌||◌}
use Rattle.std.specs.List.{list_any}
use Rattle.std.proofs.lemmas.Slice.Eq.{bytes_eq-Decides}
use Rattle.json.specs.Token.{Token}
use Rattle.json.specs.Find.{NextMember}
use Rattle.serde_json.specs.Data.{Data, null, boolean, number, string, array, object, Members, no_members, put}
use Rattle.serde_json.specs.Find.{get, get_member, as_object}
use Rattle.serde_json.proofs.Views.{get_member-put, get_member-put_other}
use Rattle.tt_json.specs.Value.{is_among}
use Rattle.tt_json.specs.Tape.{IsValue, AreMembers, value_at}
use Rattle.tt_json.proofs.LeastLemmas.{members-next}

-- some members have been taken, and these are left
abbrev pub AreLeft : List Token → Type 0
AreLeft left = (all : Members) × (found : Members) × AreMembers left found all

pub left-next : (old new ts : List Token) (k : List ℕ) → AreLeft old → NextMember old (Some (k, ts)) new → IsValue ts × AreLeft new
left-next old new ts k (all, found, are) next =
    let more = members-next old new (Some (k, ts)) found all are next in
    (more.2, (all, put k more.0 found, more.1))

-- the value is the one of this name among the members that have been taken from the start on
abbrev pub IsFoundSoFar : List ℕ → List Token → List Token → Option (List Token) → Type 0
IsFoundSoFar name start left o =
    (all : Members) → AreMembers start no_members all
    → (found : Members) × AreMembers left found all × (option_map value_at o ≡ get_member name found)

pub found-here : (name k : List ℕ) (start old new ts : List Token) (o : Option (List Token))
    → IsFoundSoFar name start old o → NextMember old (Some (k, ts)) new → bytes_eq k name ≡ true → IsFoundSoFar name start new (Some ts)
found-here name k start old new ts o before next same all h =
    let so_far = before all h in
    let more = members-next old new (Some (k, ts)) so_far.0 all so_far.1 next in
    let is : k ≡ name = (bytes_eq-Decides k name).0 same in
    (put k more.0 so_far.0, more.1, ap Some more.3 ∙ sym (get_member-put k more.0 so_far.0) ∙ ap (λ n. get_member n (put k more.0 so_far.0)) is)

pub found-elsewhere : (name k : List ℕ) (start old new ts : List Token) (o : Option (List Token))
    → IsFoundSoFar name start old o → NextMember old (Some (k, ts)) new → bytes_eq k name ≡ false → IsFoundSoFar name start new o
found-elsewhere name k start old new ts o before next other all h =
    let so_far = before all h in
    let more = members-next old new (Some (k, ts)) so_far.0 all so_far.1 next in
    let apart = λ (is : name ≡ k). true≢false (sym ((bytes_eq-Decides k name).1 (sym is)) ∙ other) in
    (put k more.0 so_far.0, more.1, so_far.2 ∙ sym (get_member-put_other name k more.0 so_far.0 apart))

pub found-end : (name : List ℕ) (start old new : List Token) (o : Option (List Token)) (all : Members)
    → IsFoundSoFar name start old o → NextMember old None new → AreMembers start no_members all → option_map value_at o ≡ get_member name all
found-end name start old new o all before next h =
    let so_far = before all h in
    so_far.2 ∙ ap (get_member name) (members-next old new None so_far.0 all so_far.1 next)

-- ---- the member of an object, and of another value none

abbrev pub get_in : List ℕ → Option Members → Option Data
get_in name None = None
get_in name (Some ms) = get_member name ms

pub get-as_object : (name : List ℕ) (d : Data) → get name d ≡ get_in name (as_object d)
get-as_object name null = refl
get-as_object name (boolean b) = refl
get-as_object name (number n) = refl
get-as_object name (string s) = refl
get-as_object name (array ds) = refl
get-as_object name (object ms) = refl

-- what an object's members give, where the object is written in other words
pub of_object : (name : List ℕ) (inner outer : List Token) (o : Option Members) → inner ≡ outer → as_object (value_at inner) ≡ o → get_in name o ≡ get name (value_at outer)
of_object name inner outer o same e = ap (get_in name) (sym e) ∙ sym (get-as_object name (value_at inner)) ∙ ap (λ ts. get name (value_at ts)) same

-- ---- a name among the known ones and two more

three : (a b c : Bool) → ((a || b) || c) ≡ (a || (b || c))
three true b c = refl
three false b c = refl

pub among : (name f s : List ℕ) (known : List (Bor (List ℕ))) → is_among (map (λ k. k.now) known ++ f ∷ s ∷ []) name ≡ (list_any (λ k. bytes_eq name k.now) known || (bytes_eq name f || (bytes_eq name s || false)))
among name f s [] = refl
among name f s (k ∷ ks) = ap (λ b. bytes_eq name k.now || b) (among name f s ks) ∙ sym (three (bytes_eq name k.now) _ _)

or_true : (a b : Bool) → b ≡ true → (a || b) ≡ true
or_true true b e = refl
or_true false b e = e

or_false : (a b : Bool) → b ≡ false → (a || b) ≡ a
or_false true b e = refl
or_false false b e = e

pub among-first : (name f s : List ℕ) (known : List (Bor (List ℕ))) → bytes_eq name f ≡ true → is_among (map (λ k. k.now) known ++ f ∷ s ∷ []) name ≡ true
among-first name f s known e = among name f s known ∙ or_true _ _ (ap (λ b. b || (bytes_eq name s || false)) e)

pub among-second : (name f s : List ℕ) (known : List (Bor (List ℕ))) → bytes_eq name s ≡ true → is_among (map (λ k. k.now) known ++ f ∷ s ∷ []) name ≡ true
among-second name f s known e = among name f s known ∙ or_true _ _ (or_true _ _ (ap (λ b. b || false) e))

pub among-neither : (name f s : List ℕ) (known : List (Bor (List ℕ))) → bytes_eq name f ≡ false → bytes_eq name s ≡ false
    → is_among (map (λ k. k.now) known ++ f ∷ s ∷ []) name ≡ list_any (λ k. bytes_eq name k.now) known
among-neither name f s known e g = among name f s known ∙ or_false _ _ (ap (λ b. b || (bytes_eq name s || false)) e ∙ ap (λ b. b || false) g)

-- a name isn't two names that differ
pub not_second : (name f s : List ℕ) → bytes_eq f s ≡ false → bytes_eq name f ≡ true → bytes_eq name s ≡ false
not_second name f s apart same = ap (λ n. bytes_eq n s) ((bytes_eq-Decides name f).0 same) ∙ apart
