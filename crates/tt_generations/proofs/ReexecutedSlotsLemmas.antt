-- The numbers of the slots that a repair re-executed, and the first of them behind a number.
use Rattle.std.proofs.Common.{◌≡◌, ℕ, zero, suc, pred, ◌+◌, ◌-◌, ◌<◌, ◌≤◌, nat_lt, not, Bool, true, false, List, [], ◌∷◌, ◌++◌, length, slice_get, get_or, Option, None, Some, if◌then◌else◌, refl, sym, ap, subst, ◌∙◌, true≢false, arith, length-append}
use Rattle.std.proofs.lemmas.Bool.Decides.{nat_tests}
use Rattle.std.proofs.lemmas.Option.{none-some, slice_get-get_or, slice_get_past}
use Rattle.std.proofs.lemmas.List.Folds.{find-append}
use Rattle.std.specs.List.{find, range_with_len}
use Rattle.std.specs.Option.{option_or, option_map_or}
use Rattle.tt_generations.specs.ReexecutedSlots.{numbers_of, begins_above, ends_up_to, DividesAt}

-- ---- one slot more

pub numbers-more : (test : ℕ → Bool) (n : ℕ) → test n ≡ true → numbers_of test (suc n) ≡ numbers_of test n ++ suc n ∷ []
numbers-more test n is = ap (λ b. if b then numbers_of test n ++ suc n ∷ [] else numbers_of test n) is

pub numbers-stay : (test : ℕ → Bool) (n : ℕ) → test n ≡ false → numbers_of test (suc n) ≡ numbers_of test n
numbers-stay test n is = ap (λ b. if b then numbers_of test n ++ suc n ∷ [] else numbers_of test n) is

pub numbers-same : (test other : ℕ → Bool) (n : ℕ) → ((i : ℕ) → i < n → test i ≡ other i) → numbers_of test n ≡ numbers_of other n
numbers-same test other zero same = refl
numbers-same test other (suc n) same =
    let last : test n ≡ other n = same n (omega arith) in
    let rest = numbers-same test other n (λ i h. same i (omega (arith, h))) in
    λ i. if last i then rest i ++ suc n ∷ [] else rest i

-- ---- an item of a list with one item more

get-before : {X : Type 0} (xs : List X) (x : X) (i : ℕ) → i < length xs → slice_get (xs ++ x ∷ []) i ≡ slice_get xs i
get-before [] x i h = absurd (omega (arith, h))
get-before (y ∷ xs) x zero h = refl
get-before (y ∷ xs) x (suc i) h = get-before xs x i (omega (arith, h))

get-last : {X : Type 0} (xs : List X) (x : X) → slice_get (xs ++ x ∷ []) (length xs) ≡ Some x
get-last [] x = refl
get-last (y ∷ xs) x = get-last xs x

-- ---- the place that divides rising numbers

pub nothing_before : (numbers : List ℕ) (number : ℕ) → ends_up_to numbers number 0 ≡ true
unfolding ends_up_to
nothing_before numbers number = refl

pub one_before : (numbers : List ℕ) (number i : ℕ) → begins_above numbers number i ≡ false → ends_up_to numbers number (i + 1) ≡ true
unfolding ends_up_to
one_before numbers number i is =
    let next : i + 1 ≡ suc i = omega arith in
    ap (ends_up_to numbers number) next ∙ ap not is

pub nothing_behind : (numbers : List ℕ) (number : ℕ) → begins_above numbers number (length numbers) ≡ true
nothing_behind numbers number = ap (λ o. option_map_or (λ first. nat_lt number first) o true) (slice_get_past numbers (length numbers) (omega arith))

pub ruleset divided = (nothing_before, one_before, nothing_behind)

ends-front : (xs : List ℕ) (x number place : ℕ) → place ≤ length xs → ends_up_to (xs ++ x ∷ []) number place ≡ ends_up_to xs number place
unfolding ends_up_to
ends-front xs x number zero h = refl
ends-front xs x number (suc i) h = ap (λ o. not (option_map_or (λ first. nat_lt number first) o true)) (get-before xs x i (omega (arith, h)))

at_most : (a b : ℕ) → not (nat_lt a b) ≡ true → b ≤ a
at_most a b h = by (nat_lt a b) refl h
  where
    by : (c : Bool) → nat_lt a b ≡ c → not c ≡ true → b ≤ a
    by true e h = absurd (true≢false (sym h))
    by false e h = grind (arith, nat_tests)

-- before a place behind the last item stands that item
last-up_to : (xs : List ℕ) (x number place : ℕ) → length xs < place → ends_up_to (xs ++ x ∷ []) number place ≡ true → x ≤ number
unfolding ends_up_to
last-up_to xs x number zero h is = absurd (omega (arith, h))
last-up_to xs x number (suc i) h is = by (nat_lt (length xs) i) refl
  where
    by : (b : Bool) → nat_lt (length xs) i ≡ b → x ≤ number
    by true e =
        let past : length xs < i = grind (arith, nat_tests) in
        let none : slice_get (xs ++ x ∷ []) i ≡ None = slice_get_past (xs ++ x ∷ []) i (omega (arith, past, length-append xs (x ∷ []))) in
        absurd (true≢false (sym is ∙ ap (λ o. not (option_map_or (λ first. nat_lt number first) o true)) none))
    by false e =
        let short : i ≤ length xs = grind (arith, nat_tests) in
        let end : i ≡ length xs = omega (arith, h, short) in
        at_most number x (sym (ap (λ o. not (option_map_or (λ first. nat_lt number first) o true)) (ap (slice_get (xs ++ x ∷ [])) end ∙ get-last xs x)) ∙ is)

-- ---- the first number behind another

counting-last : (a n j : ℕ) → a + n ≡ j → range_with_len a (suc n) ≡ range_with_len a n ++ j ∷ []
counting-last a zero j e = let is : a ≡ j = omega (arith, e) in ap (λ k. k ∷ []) is
counting-last a (suc n) j e = ap (λ ks. a ∷ ks) (counting-last (a + 1) n j (omega (arith, e)))

counting-more : (a n j : ℕ) → a + n ≡ j → range_with_len a (n + 1) ≡ range_with_len a n ++ j ∷ []
counting-more a n j e = let on : n + 1 ≡ suc n = omega arith in ap (range_with_len a) on ∙ counting-last a n j e

abbrev first_behind : (ℕ → Bool) → ℕ → ℕ → Option ℕ
first_behind test number n = find (λ t. test (pred t)) (range_with_len (number + 1) (n - number))

first-none : (test : ℕ → Bool) (number n : ℕ) → n ≤ number → first_behind test number n ≡ None
first-none test number n past =
    let none : n - number ≡ 0 = omega (arith, past) in
    ap (λ k. find (λ t. test (pred t)) (range_with_len (number + 1) k)) none

first-more : (test : ℕ → Bool) (number n : ℕ) → number ≤ n → first_behind test number (suc n) ≡ option_or (first_behind test number n) (if test n then Some (suc n) else None)
first-more test number n within =
    let one : suc n - number ≡ (n - number) + 1 = omega (arith, within) in
    ap (λ k. find (λ t. test (pred t)) (range_with_len (number + 1) k)) one
    ∙ ap (find (λ t. test (pred t))) (counting-more (number + 1) (n - number) (suc n) (omega (arith, within)))
    ∙ find-append (λ t. test (pred t)) (range_with_len (number + 1) (n - number)) (suc n ∷ [])

or-none : {X : Type 0} (o : Option X) → option_or o None ≡ o
or-none None = refl
or-none (Some x) = refl

first-stays : (test : ℕ → Bool) (number n : ℕ) → test n ≡ false → first_behind test number (suc n) ≡ first_behind test number n
first-stays test number n is = by (nat_lt n number) refl
  where
    by : (b : Bool) → nat_lt n number ≡ b → first_behind test number (suc n) ≡ first_behind test number n
    by true e =
        let past : n < number = grind (arith, nat_tests) in
        first-none test number (suc n) (omega (arith, past)) ∙ sym (first-none test number n (omega (arith, past)))
    by false e =
        let within : number ≤ n = grind (arith, nat_tests) in
        first-more test number n within
        ∙ ap (λ b. option_or (first_behind test number n) (if b then Some (suc n) else None)) is
        ∙ or-none (first_behind test number n)

first-kept : (test : ℕ → Bool) (number n found : ℕ) → first_behind test number n ≡ Some found → first_behind test number (suc n) ≡ Some found
first-kept test number n found is = by (nat_lt n number) refl
  where
    by : (b : Bool) → nat_lt n number ≡ b → first_behind test number (suc n) ≡ Some found
    by true e =
        let past : n < number = grind (arith, nat_tests) in
        absurd (none-some found (sym (first-none test number n (omega (arith, past))) ∙ is))
    by false e =
        let within : number ≤ n = grind (arith, nat_tests) in
        first-more test number n within ∙ ap (λ o. option_or o (if test n then Some (suc n) else None)) is

first-new : (test : ℕ → Bool) (number n : ℕ) → number ≤ n → test n ≡ true → first_behind test number n ≡ None → first_behind test number (suc n) ≡ Some (suc n)
first-new test number n within is none =
    first-more test number n within
    ∙ ap (λ b. option_or (first_behind test number n) (if b then Some (suc n) else None)) is
    ∙ ap (λ o. option_or o (Some (suc n))) none

below-next : (a b : ℕ) → nat_lt a (suc b) ≡ true → a ≤ b
below-next a b h = grind (arith, nat_tests)

-- with a slot more that the test holds of
first-at_more : (test : ℕ → Bool) (number place n : ℕ) (xs : List ℕ) → (DividesAt xs number place → slice_get xs place ≡ first_behind test number n) → test n ≡ true
    → DividesAt (xs ++ suc n ∷ []) number place → slice_get (xs ++ suc n ∷ []) place ≡ first_behind test number (suc n)
first-at_more test number place n xs rest is at = by (nat_lt place (length xs)) (nat_lt (length xs) place) refl refl
  where
    by : (early late : Bool) → nat_lt place (length xs) ≡ early → nat_lt (length xs) place ≡ late → slice_get (xs ++ suc n ∷ []) place ≡ first_behind test number (suc n)
    by true late e f =
        let inside : place < length xs = grind (arith, nat_tests) in
        let same = get-before xs (suc n) place inside in
        let got = slice_get-get_or xs place 0 inside in
        let old = rest (record {
          before = sym (ends-front xs (suc n) number place (omega (arith, inside))) ∙ at.before;
          behind = sym (ap (λ o. option_map_or (λ first. nat_lt number first) o true) same) ∙ at.behind;
        }) in
        same ∙ got ∙ sym (first-kept test number n (get_or xs place 0) (sym old ∙ got))
    by false true e f =
        let past : length xs < place = grind (arith, nat_tests) in
        let up_to = last-up_to xs (suc n) number place past at.before in
        slice_get_past (xs ++ suc n ∷ []) place (omega (arith, past, length-append xs (suc n ∷ []))) ∙ sym (first-none test number (suc n) up_to)
    by false false e f =
        let end : place ≡ length xs = grind (arith, nat_tests) in
        let got : slice_get (xs ++ suc n ∷ []) place ≡ Some (suc n) = ap (slice_get (xs ++ suc n ∷ [])) end ∙ get-last xs (suc n) in
        let above : nat_lt number (suc n) ≡ true = sym (ap (λ o. option_map_or (λ first. nat_lt number first) o true) got) ∙ at.behind in
        let none : slice_get xs place ≡ None = slice_get_past xs place (omega (arith, end)) in
        let old = rest (record {
          before = sym (ends-front xs (suc n) number place (omega (arith, end))) ∙ at.before;
          behind = ap (λ o. option_map_or (λ first. nat_lt number first) o true) none;
        }) in
        got ∙ sym (first-new test number n (below-next number n above) is (sym old ∙ none))

-- the item at the place that divides the numbers at a number is the first behind it
pub first-at : (test : ℕ → Bool) (n number place : ℕ) → DividesAt (numbers_of test n) number place → slice_get (numbers_of test n) place ≡ first_behind test number n
first-at test zero number place at = sym (first-none test number 0 (omega arith))
first-at test (suc n) number place at = by (test n) refl (first-at test n number place)
  where
    by : (b : Bool) → test n ≡ b → (DividesAt (numbers_of test n) number place → slice_get (numbers_of test n) place ≡ first_behind test number n)
        → slice_get (numbers_of test (suc n)) place ≡ first_behind test number (suc n)
    by true is rest =
        let shape = numbers-more test n is in
        ap (λ (xs : List ℕ). slice_get xs place) shape
        ∙ first-at_more test number place n (numbers_of test n) rest is (subst (λ (xs : List ℕ). DividesAt xs number place) shape at)
    by false is rest =
        let shape = numbers-stay test n is in
        ap (λ (xs : List ℕ). slice_get xs place) shape
        ∙ rest (subst (λ (xs : List ℕ). DividesAt xs number place) shape at)
        ∙ sym (first-stays test number n is)

-- tests that agree on a range find the same there
pub find-same : (test other : ℕ → Bool) (from count : ℕ) → ((t : ℕ) → from ≤ t → t < from + count → test t ≡ other t) → find test (range_with_len from count) ≡ find other (range_with_len from count)
find-same test other from zero same = refl
find-same test other from (suc count) same =
    let here : test from ≡ other from = same from (omega arith) (omega arith) in
    let rest = find-same test other (from + 1) count (λ t low high. same t (omega (arith, low)) (omega (arith, high))) in
    λ i. if here i then Some from else rest i
