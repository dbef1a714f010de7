-- The first kind that an object has a member of, found as its members are put one after another.
use Rattle.std.proofs.Common.{◌≡◌, ℕ, zero, suc, ◌+◌, ◌≤◌, ◌<◌, min, nat_lt, length, arith, Bool, true, false, not, cond, List, [], ◌∷◌, map, take, Option, Some, None, Bor, refl, sym, ap, subst, ◌∙◌, bytes_eq, true≢false}
use Rattle.std.specs.Prelude.{◌||◌, is_some, position, slice_index_or}
use Rattle.std.specs.List.{position_or_len}
use Rattle.std.proofs.lemmas.List.{length-take-le, take-map, length-map}
use Rattle.std.proofs.lemmas.List.Sums.{prefix_len-le-length}
use Rattle.std.proofs.lemmas.Slice.Eq.{bytes_eq-Decides}
use Rattle.json.specs.Token.{Token}
use Rattle.json.specs.Find.{NextMember}
use Rattle.json.specs.Json as json
use Rattle.serde_json.specs.Data.{Data, Members, no_members, put}
use Rattle.serde_json.specs.Find.{get_member, as_object}
use Rattle.serde_json.specs.Read.{of_json, of_members}
use Rattle.serde_json.proofs.Views.{get_member-put, get_member-put_other}
use Rattle.tt_json.specs.Tape.{AreMembers, value_at}
use Rattle.tt_json.proofs.DataLemmas.{chained}
use Rattle.tt_json.proofs.LeastLemmas.{members-next}
use Rattle.tt_json.proofs.FindLemmas.{of_object}
use Rattle.tt_grammar.specs.Decoder.{has}
use Rattle.tt_requests.specs.declared.kinds.RequestKind.{RequestKind}
use Rattle.tt_requests.specs.Kinds.{kinds, first_of, first_kind}

-- ---- the first place at which either of two tests passes

either-at : (a b c : Bool) (n m k : ℕ) → c ≡ (b || a) → k ≡ min n m → cond (not c) (1 + k) 0 ≡ min (cond (not a) (1 + n) 0) (cond (not b) (1 + m) 0)
either-at true true c n m k either later = rw either refl
either-at true false c n m k either later = rw either (omega arith)
either-at false true c n m k either later = rw either (omega arith)
either-at false false c n m k either later = rw either (omega (arith, later))

first-either : {X : Type 0} (p q r : X → Bool) (xs : List X) → ((x : X) → r x ≡ (q x || p x)) → position_or_len r xs ≡ min (position_or_len p xs) (position_or_len q xs)
first-either p q r [] either = refl
first-either p q r (x ∷ xs) either = either-at (p x) (q x) (r x) (position_or_len p xs) (position_or_len q xs) (position_or_len r xs) (either x) (first-either p q r xs either)

some_same : {X : Type 0} (x y : X) → ◌≡◌ {A = Option X} (Some x) (Some y) → x ≡ y
some_same x y e = cc

place-found : (b : Bool) (n i : ℕ) → cond b (Some n) None ≡ Some i → n ≡ i
place-found true n i e = some_same n i e
place-found false n i e = cc

place-none : (n m : ℕ) → cond (nat_lt n m) (Some n) None ≡ None → m ≤ n
place-none n m e = grind (arith)

prefix-short : {X : Type 0} (p : X → Bool) (xs : List X) → position_or_len p xs ≤ length xs
prefix-short p xs = omega (arith, prefix_len-le-length (λ x. not (p x)) xs)

taken-at : (b : Bool) (n m k : ℕ) → k ≡ min n m → cond (not b) (1 + k) 0 ≡ min (suc n) (cond (not b) (1 + m) 0)
taken-at true n m k later = omega arith
taken-at false n m k later = omega (arith, later)

-- the first place among some of the elements
first-taken : {X : Type 0} (p : X → Bool) (n : ℕ) (xs : List X) → position_or_len p (take n xs) ≡ min n (position_or_len p xs)
first-taken p zero xs = omega arith
first-taken p (suc n) [] = omega arith
first-taken p (suc n) (x ∷ xs) = taken-at (p x) n (position_or_len p xs) (position_or_len p (take n xs)) (first-taken p n xs)

found-is : {X : Type 0} (q : X → Bool) (xs : List X) (i : ℕ) → position q xs ≡ Some i → position_or_len q xs ≡ i
found-is q xs i e = place-found (nat_lt (position_or_len q xs) (length xs)) (position_or_len q xs) i e

pub found-before : {X : Type 0} (q : X → Bool) (xs : List X) (place i : ℕ) → position q (take place xs) ≡ Some i → i ≤ place
found-before q xs place i e = omega (arith, found-is q (take place xs) i e, first-taken q place xs)

either-found : {X : Type 0} (p q r : X → Bool) (xs : List X) (place i : ℕ) → ((x : X) → r x ≡ (q x || p x)) → place ≡ position_or_len p xs
    → position q (take place xs) ≡ Some i → i ≡ position_or_len r xs
either-found p q r xs place i either so_far e =
    omega (arith, so_far, found-is q (take place xs) i e, first-taken q place xs, first-either p q r xs either)

either-none : {X : Type 0} (p q r : X → Bool) (xs : List X) (place : ℕ) → ((x : X) → r x ≡ (q x || p x)) → place ≡ position_or_len p xs
    → position q (take place xs) ≡ None → place ≡ position_or_len r xs
either-none p q r xs place either so_far e =
    let none = place-none (position_or_len q (take place xs)) (length (take place xs)) e in
    let long = length-take-le place xs (omega (arith, so_far, prefix-short p xs)) in
    omega (arith, so_far, none, long, first-taken q place xs, first-either p q r xs either)

fewer-at : (a b : Bool) (n m : ℕ) → (a ≡ true → b ≡ true) → m ≤ n → cond (not b) (1 + m) 0 ≤ cond (not a) (1 + n) 0
fewer-at true true n m weaker later = omega arith
fewer-at true false n m weaker later = absurd (true≢false (sym (weaker refl)))
fewer-at false true n m weaker later = omega arith
fewer-at false false n m weaker later = omega (arith, later)

first-fewer : {X : Type 0} (p q : X → Bool) (xs : List X) → ((x : X) → p x ≡ true → q x ≡ true) → position_or_len q xs ≤ position_or_len p xs
first-fewer p q [] weaker = omega arith
first-fewer p q (x ∷ xs) weaker = fewer-at (p x) (q x) (position_or_len p xs) (position_or_len q xs) (weaker x) (first-fewer p q xs weaker)

-- ---- one more member

has-put_at : (b : Bool) (name k : List ℕ) (d : Data) (ms : Members) → bytes_eq k name ≡ b → is_some (get_member name (put k d ms)) ≡ (b || is_some (get_member name ms))
has-put_at true name k d ms e = ap (λ n. is_some (get_member n (put k d ms))) (sym ((bytes_eq-Decides k name).0 e)) ∙ ap is_some (get_member-put k d ms)
has-put_at false name k d ms e = ap is_some (get_member-put_other name k d ms (λ same. true≢false (sym ((bytes_eq-Decides k name).1 (sym same)) ∙ e)))

has-put : (name k : List ℕ) (d : Data) (ms : Members) → is_some (get_member name (put k d ms)) ≡ (bytes_eq k name || is_some (get_member name ms))
has-put name k d ms = has-put_at (bytes_eq k name) name k d ms refl

-- the place of the first kind that is among some members
abbrev pub place_in : Members → ℕ
place_in ms = position_or_len (λ kind. is_some (get_member kind.0 ms)) kinds

-- the place is that of the first kind among the members that have been taken from the start on
abbrev pub IsFirstSoFar : List Token → List Token → ℕ → Type 0
IsFirstSoFar start left place =
    (all : Members) → AreMembers start no_members all → (found : Members) × AreMembers left found all × (place ≡ place_in found)

pub first-start : (start : List Token) → IsFirstSoFar start start (length kinds)
first-start start all h = (no_members, h, refl)

pub first-next : (start old new ts : List Token) (k : List ℕ) (place i : ℕ) → IsFirstSoFar start old place → NextMember old (Some (k, ts)) new
    → position (λ kind. bytes_eq k kind.0) (take place kinds) ≡ Some i → IsFirstSoFar start new i
first-next start old new ts k place i before next e all h =
    let so_far = before all h in
    let more = members-next old new (Some (k, ts)) so_far.0 all so_far.1 next in (
      put k more.0 so_far.0,
      more.1,
      either-found (λ kind. is_some (get_member kind.0 so_far.0)) (λ kind. bytes_eq k kind.0) (λ kind. is_some (get_member kind.0 (put k more.0 so_far.0))) kinds place i
          (λ kind. has-put kind.0 k more.0 so_far.0) so_far.2 e,
    )

pub first-kept : (start old new ts : List Token) (k : List ℕ) (place : ℕ) → IsFirstSoFar start old place → NextMember old (Some (k, ts)) new
    → position (λ kind. bytes_eq k kind.0) (take place kinds) ≡ None → IsFirstSoFar start new place
first-kept start old new ts k place before next e all h =
    let so_far = before all h in
    let more = members-next old new (Some (k, ts)) so_far.0 all so_far.1 next in (
      put k more.0 so_far.0,
      more.1,
      either-none (λ kind. is_some (get_member kind.0 so_far.0)) (λ kind. bytes_eq k kind.0) (λ kind. is_some (get_member kind.0 (put k more.0 so_far.0))) kinds place
          (λ kind. has-put kind.0 k more.0 so_far.0) so_far.2 e,
    )

or-true : (a b : Bool) → b ≡ true → (a || b) ≡ true
or-true true b e = refl
or-true false b e = e

-- a member that has been found stays
stays : (name : List ℕ) (left : json.Members) (found all : Members) → of_members left found ≡ Some all → is_some (get_member name found) ≡ true → is_some (get_member name all) ≡ true
stays name json.no_members found all e there = subst (λ ms. is_some (get_member name ms) ≡ true) (some_same found all e) there
stays name (json.member k j left) found all e there =
    let one = chained (λ d. of_members left (put k d found)) (of_json j) all e in
    stays name left (put k one.0 found) all one.2 (has-put name k one.0 found ∙ or-true (bytes_eq k name) (is_some (get_member name found)) there)

-- nothing comes before the first kind of all
pub first-of_all : (start left : List Token) (all : Members) → IsFirstSoFar start left 0 → AreMembers start no_members all → 0 ≡ place_in all
first-of_all start left all so_far h =
    let f = so_far all h in
    let fewer = first-fewer (λ kind. is_some (get_member kind.0 f.0)) (λ kind. is_some (get_member kind.0 all)) kinds (λ kind. stays kind.0 f.1.0 f.0 all f.1.4) in
    omega (arith, f.2, fewer)

pub first-end : (start old new : List Token) (place : ℕ) (all : Members) → IsFirstSoFar start old place → NextMember old None new → AreMembers start no_members all → place ≡ place_in all
first-end start old new place all before next h =
    let so_far = before all h in
    so_far.2 ∙ ap place_in (members-next old new None so_far.0 all so_far.1 next)

-- ---- the place of a name in the table

abbrev spelled : Bor (List ℕ) × RequestKind → List ℕ × RequestKind
spelled kind = (kind.0.now, kind.1)

first-spelled : (test : List ℕ → Bool) (xs : List (Bor (List ℕ) × RequestKind)) → position_or_len (λ kind. test kind.0.now) xs ≡ position_or_len (λ kind. test kind.0) (map spelled xs)
first-spelled test [] = refl
first-spelled test (x ∷ xs) = ap (λ n. cond (not (test x.0.now)) (1 + n) 0) (first-spelled test xs)

same-place : (i j n m : ℕ) → i ≡ j → n ≡ m → ◌≡◌ {A = Option ℕ} (cond (nat_lt i n) (Some i) None) (cond (nat_lt j m) (Some j) None)
same-place i j n m e f = cc

place-spelled : (test : List ℕ → Bool) (xs : List (Bor (List ℕ) × RequestKind)) → position (λ kind. test kind.0.now) xs ≡ position (λ kind. test kind.0) (map spelled xs)
place-spelled test xs = same-place _ _ _ _ (first-spelled test xs) (sym (length-map xs spelled))

pub place-taken : (test : List ℕ → Bool) (n : ℕ) (xs : List (Bor (List ℕ) × RequestKind))
    → position (λ kind. test kind.0.now) (take n xs) ≡ position (λ kind. test kind.0) (take n (map spelled xs))
place-taken test n xs = place-spelled test (take n xs) ∙ ap (position (λ (kind : List ℕ × RequestKind). test kind.0)) (sym (take-map spelled n xs))

-- ---- the kind at a place

chosen-at : (b : Bool) (n i : ℕ) (y x : Bor (List ℕ) × RequestKind) (ys : List (Bor (List ℕ) × RequestKind)) (o : Option RequestKind) → i ≡ cond (not b) (1 + n) 0 → i < suc (length ys) → x ≡ slice_index_or (y ∷ ys) i x
    → (n < length ys → x ≡ slice_index_or ys n x → o ≡ Some x.1) → cond b (Some y.1) o ≡ Some x.1
chosen-at true n i y x ys o place inside is later = ap (λ z. Some z.1) (sym (subst (λ m. x ≡ slice_index_or (y ∷ ys) m x) place is))
chosen-at false n i y x ys o place inside is later =
    let next : i ≡ suc n = omega (arith, place) in
    later (omega (arith, next, inside)) (subst (λ m. x ≡ slice_index_or (y ∷ ys) m x) next is)

pub chosen : (is_there : List ℕ → Bool) (xs : List (Bor (List ℕ) × RequestKind)) (i : ℕ) (x : Bor (List ℕ) × RequestKind) → i < length xs → x ≡ slice_index_or xs i x
    → i ≡ position_or_len (λ kind. is_there kind.0.now) xs → first_of is_there (map (λ kind. (kind.0.now, kind.1)) xs) ≡ Some x.1
chosen is_there [] i x inside is place = absurd (omega (arith, inside))
chosen is_there (y ∷ ys) i x inside is place =
    chosen-at (is_there y.0.now) (position_or_len (λ kind. is_there kind.0.now) ys) i y x ys (first_of is_there (map (λ kind. (kind.0.now, kind.1)) ys)) place inside is
    (λ within same. chosen is_there ys (position_or_len (λ kind. is_there kind.0.now) ys) x within same refl)

none-at : (b : Bool) (n m : ℕ) (kind : RequestKind) (o : Option RequestKind) → suc m ≤ cond (not b) (1 + n) 0 → (m ≤ n → o ≡ None) → cond b (Some kind) o ≡ None
none-at true n m kind o past later = absurd (omega (arith, past))
none-at false n m kind o past later = later (omega (arith, past))

none-there : (is_there : List ℕ → Bool) (xs : List (Bor (List ℕ) × RequestKind)) → length xs ≤ position_or_len (λ kind. is_there kind.0.now) xs → first_of is_there (map (λ kind. (kind.0.now, kind.1)) xs) ≡ None
none-there is_there [] past = refl
none-there is_there (y ∷ ys) past =
    none-at (is_there y.0.now) (position_or_len (λ kind. is_there kind.0.now) ys) (length ys) y.1 (first_of is_there (map (λ kind. (kind.0.now, kind.1)) ys)) past (none-there is_there ys)

pub none-chosen : (is_there : List ℕ → Bool) (xs : List (Bor (List ℕ) × RequestKind)) (i : ℕ) → length xs ≤ i → i ≡ position_or_len (λ kind. is_there kind.0.now) xs
    → first_of is_there (map (λ kind. (kind.0.now, kind.1)) xs) ≡ None
none-chosen is_there xs i past place = none-there is_there xs (subst (λ n. length xs ≤ n) place past)

-- ---- the first kind of an object

first_of-same : (p q : List ℕ → Bool) (ks : List (List ℕ × RequestKind)) → ((name : List ℕ) → p name ≡ q name) → first_of p ks ≡ first_of q ks
first_of-same p q [] same = refl
first_of-same p q (kind ∷ others) same = ap (λ b. cond b (Some kind.1) (first_of p others)) (same kind.0) ∙ ap (λ o. cond (q kind.0) (Some kind.1) o) (first_of-same p q others same)

pub first_kind-members : (inner outer : List Token) (all : Members) → inner ≡ outer → as_object (value_at inner) ≡ Some all → first_of (λ name. is_some (get_member name all)) kinds ≡ first_kind (value_at outer)
first_kind-members inner outer all same e =
    first_of-same (λ name. is_some (get_member name all)) (λ name. has name (value_at outer)) kinds (λ name. ap is_some (of_object name inner outer (Some all) same e))

pub first_kind-none : (inner outer : List Token) → inner ≡ outer → as_object (value_at inner) ≡ None → None ≡ first_kind (value_at outer)
first_kind-none inner outer same e =
    first_of-same (λ name. false) (λ name. has name (value_at outer)) kinds (λ name. ap is_some (of_object name inner outer None same e))
