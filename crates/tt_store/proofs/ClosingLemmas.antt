-- Workers that bear the numbers from 1 on, each once, and the places of all entries of a history.
use Rattle.std.proofs.Common.{◌≡◌, ℕ, zero, suc, ◌+◌, ◌-◌, ◌<◌, ◌≤◌, ◌==◌, ◌≢◌, Bool, true, false, cond, if◌then◌else◌, List, [], ◌∷◌, map, set, get_or, replicate, length, All, Vec, sum_by, refl, sym, ap, subst, ◌∙◌, ⊎_elim, arith, length-set, get_or-set_same, get_or-set_other, ext_get_or}
use Rattle.std.proofs.lemmas.Bool.{cases_lt}
use Rattle.std.proofs.lemmas.Bool.Decides.{Decides-eqb}
use Rattle.std.proofs.lemmas.List.{length-map, length-replicate, map-set, get_or_read}
use Rattle.std.proofs.lemmas.List.Sums.{sum_by-cons}
use Rattle.tt_db.specs.declared.event.Entry.{Entry}
use Rattle.tt_store.specs.History.{places_from, places_of}
use Rattle.tt_store.specs.Calls.{numbers_from}
use Rattle.tt_store.specs.Workers.{WorkerState, IsAmong}
use Rattle.tt_store.specs.Closing.{bearers, EachOnce, IsBehind, IsPartOf, IsNumbered, IsOfWorker, places_by_worker, with_places, places_made, lists_of}
use Rattle.tt_store.proofs.DraftLemmas.{length-numbers_from}

-- 1 where a test passes
abbrev one_if : Bool → ℕ
one_if b = cond b 1 0

passes : (b : Bool) → 0 < one_if b → b ≡ true
passes true h = refl
passes false h = absurd (omega arith)

fails : (b : Bool) → one_if b ≡ 0 → b ≡ false
fails true h = absurd (omega arith)
fails false h = refl

one_at_most : (b : Bool) → one_if b ≤ 1
one_at_most true = omega arith
one_at_most false = omega arith

other_number : (a b : ℕ) → a ≢ b → (a == b) ≡ false
other_number a b other = by_test (a == b) refl
  where
    by_test : (t : Bool) → (a == b) ≡ t → t ≡ false
    by_test true is = absurd (other ((Decides-eqb a b).0 is))
    by_test false is = refl

bearers-cons : (number : ℕ) (w : WorkerState) (ws : List WorkerState) → bearers number (w ∷ ws) ≡ one_if (number == w.number) + bearers number ws
bearers-cons number w ws = sum_by-cons (λ (x : WorkerState). one_if (number == x.number)) w ws

-- how many workers bear numbers from 1 to this one
abbrev bearers_to : ℕ → List WorkerState → ℕ
bearers_to zero ws = 0
bearers_to (suc n) ws = bearers (suc n) ws + bearers_to n ws

bearers_to-none : (n : ℕ) → bearers_to n [] ≡ 0
bearers_to-none zero = refl
bearers_to-none (suc n) = omega (arith, bearers_to-none n)

-- a worker bears one number
one_number_if : (n number : ℕ) (w : WorkerState) (ws : List WorkerState) → (0 < number → suc n < number)
    → bearers_to n (w ∷ ws) + one_if (suc n == w.number) ≤ 1 + bearers_to n ws
    → bearers_to n (w ∷ ws) + one_if (number == w.number) ≤ 1 + bearers_to n ws
    → (b : Bool) → (suc n == w.number) ≡ b → bearers_to (suc n) (w ∷ ws) + one_if (number == w.number) ≤ 1 + bearers_to (suc n) ws
one_number_if n number w ws beyond last others true is =
    let same : suc n ≡ w.number = (Decides-eqb (suc n) w.number).0 is in
    let other : number ≢ w.number = λ (h : number ≡ w.number). omega (arith, h, same, beyond) in
    let here : one_if (suc n == w.number) ≡ 1 = ap one_if is in
    let none : one_if (number == w.number) ≡ 0 = ap one_if (other_number number w.number other) in
    omega (arith, here, none, bearers-cons (suc n) w ws, last)
one_number_if n number w ws beyond last others false is =
    let none : one_if (suc n == w.number) ≡ 0 = ap one_if is in
    omega (arith, none, bearers-cons (suc n) w ws, others)

one_number : (n number : ℕ) (w : WorkerState) (ws : List WorkerState) → (0 < number → n < number)
    → bearers_to n (w ∷ ws) + one_if (number == w.number) ≤ 1 + bearers_to n ws
one_number zero number w ws beyond = omega (arith, one_at_most (number == w.number))
one_number (suc n) number w ws beyond =
    one_number_if n number w ws beyond (one_number n (suc n) w ws (λ h. omega arith)) (one_number n number w ws (λ h. omega (arith, beyond h))) (suc n == w.number) refl

-- those who bear numbers from 1 to this one, and those who bear one beyond, are workers
all_bearers : (n number : ℕ) (ws : List WorkerState) → (0 < number → n < number) → bearers_to n ws + bearers number ws ≤ length ws
all_bearers n number [] beyond = omega (arith, bearers_to-none n)
all_bearers n number (w ∷ ws) beyond = omega (arith, all_bearers n number ws beyond, one_number n number w ws beyond, bearers-cons number w ws)

bearers_of_each : (n m : ℕ) (ws : List WorkerState) → EachOnce n ws → m ≤ n → bearers_to m ws ≡ m
bearers_of_each n zero ws each le = refl
bearers_of_each n (suc m) ws each le = omega (arith, each.once (suc m) (omega arith) le, bearers_of_each n m ws each (omega arith))

none_beyond : (n number : ℕ) (ws : List WorkerState) → EachOnce n ws → (0 < number → n < number) → bearers number ws ≡ 0
none_beyond n number ws each beyond = omega (arith, all_bearers n number ws beyond, bearers_of_each n n ws each (omega arith), each.as_many)

once_at_most : (n : ℕ) (ws : List WorkerState) → EachOnce n ws → (number : ℕ) → bearers number ws ≤ 1
once_at_most n ws each zero = omega (arith, none_beyond n 0 ws each (λ h. absurd (omega arith)))
once_at_most n ws each (suc m) =
    ⊎_elim (λ (lt : n < suc m). omega (arith, none_beyond n (suc m) ws each (λ h. lt))) (λ (le : suc m ≤ n). omega (arith, each.once (suc m) (omega arith) le)) (cases_lt n (suc m))

-- who bears a number bears one from 1 on
borne_within : (n : ℕ) (ws : List WorkerState) → EachOnce n ws → (number : ℕ) → 0 < bearers number ws → (0 < number) × (number ≤ n)
borne_within n ws each zero some = absurd (omega (arith, none_beyond n 0 ws each (λ h. absurd (omega arith))))
borne_within n ws each (suc m) some =
    ⊎_elim (λ (lt : n < suc m). absurd (omega (arith, none_beyond n (suc m) ws each (λ h. lt)))) (λ (le : suc m ≤ n). (omega arith, le)) (cases_lt n (suc m))

bears_its_own : (ws : List WorkerState) (k : ℕ) (d : WorkerState) → k < length ws → 0 < bearers (get_or ws k d).number ws
bears_its_own [] k d lt = absurd (omega arith)
bears_its_own (w ∷ ws) zero d lt =
    let here : one_if (w.number == w.number) ≡ 1 = ap one_if ((Decides-eqb w.number w.number).1 refl) in
    omega (arith, here, bearers-cons w.number w ws)
bears_its_own (w ∷ ws) (suc k) d lt = omega (arith, bears_its_own ws k d (omega arith), bearers-cons (get_or ws k d).number w ws)

-- workers that bear the numbers from 1 on, each once, bear no others
pub all_numbered : (n : ℕ) (ws : List WorkerState) → EachOnce n ws → All (IsNumbered n) ws
all_numbered n ws each k d lt =
    let is = borne_within n ws each (get_or ws k d).number (bears_its_own ws k d lt) in record { some = is.0; within = is.1 }

-- how many places a history has of workers, where its first entry has this place
abbrev places_there : ℕ → List Entry → List WorkerState → ℕ
places_there place history ws = sum_by (λ w. length (places_from place w.number history)) ws

length_if : (b : Bool) (place : ℕ) (rest : List ℕ) → length (if b then place ∷ rest else rest) ≡ one_if b + length rest
length_if true place rest = omega arith
length_if false place rest = omega arith

there-none : (place : ℕ) (ws : List WorkerState) → places_there place [] ws ≡ 0
there-none place [] = refl
there-none place (w ∷ ws) = omega (arith, sum_by-cons (λ (x : WorkerState). length (places_from place x.number [])) w ws, there-none place ws)

there-cons : (place : ℕ) (e : Entry) (history : List Entry) (ws : List WorkerState)
    → places_there place (e ∷ history) ws ≡ bearers e.worker ws + places_there (place + 1) history ws
there-cons place e history [] = refl
there-cons place e history (w ∷ ws) = omega (
  arith,
  sum_by-cons (λ (x : WorkerState). length (places_from place x.number (e ∷ history))) w ws,
  sum_by-cons (λ (x : WorkerState). length (places_from (place + 1) x.number history)) w ws,
  bearers-cons e.worker w ws,
  length_if (e.worker == w.number) place (places_from (place + 1) w.number history),
  there-cons place e history ws,
)

-- where no number is borne twice, a history has no more places of the workers than entries
there-le : (place : ℕ) (history : List Entry) (ws : List WorkerState) → ((number : ℕ) → bearers number ws ≤ 1) → places_there place history ws ≤ length history
there-le place [] ws once = omega (arith, there-none place ws)
there-le place (e ∷ history) ws once = omega (arith, there-cons place e history ws, once e.worker, there-le (place + 1) history ws once)

-- where it has as many, each entry is of a worker
all_borne : (place : ℕ) (history : List Entry) (ws : List WorkerState) → ((number : ℕ) → bearers number ws ≤ 1) → length history ≤ places_there place history ws
    → (k : ℕ) (d : Entry) → k < length history → 0 < bearers (get_or history k d).worker ws
all_borne place [] ws once le k d lt = absurd (omega arith)
all_borne place (e ∷ history) ws once le zero d lt = omega (arith, there-cons place e history ws, there-le (place + 1) history ws once)
all_borne place (e ∷ history) ws once le (suc k) d lt =
    all_borne (place + 1) history ws once (omega (arith, there-cons place e history ws, once e.worker)) k d (omega arith)

among_length : (xs ys : List ℕ) → IsAmong xs ys → length xs ≤ length ys
among_length [] ys h = omega arith
among_length (x ∷ xs) [] h = absurd h
among_length (x ∷ xs) (y ∷ ys) h =
    ⊎_elim (λ (t : (x ≡ y) × IsAmong xs ys). omega (arith, among_length xs ys t.1)) (λ (t : IsAmong (x ∷ xs) ys). omega (arith, among_length (x ∷ xs) ys t)) h

-- numbers among no more numbers are these
among_whole : (xs ys : List ℕ) → IsAmong xs ys → length ys ≤ length xs → xs ≡ ys
among_whole [] [] h le = refl
among_whole [] (y ∷ ys) h le = absurd (omega arith)
among_whole (x ∷ xs) [] h le = absurd h
among_whole (x ∷ xs) (y ∷ ys) h le =
    ⊎_elim (λ (t : (x ≡ y) × IsAmong xs ys). cc (t.0, among_whole xs ys t.1 (omega arith))) (λ (t : IsAmong (x ∷ xs) ys). absurd (omega (arith, among_length (x ∷ xs) ys t))) h

made_there : (history : List Entry) (ws : List WorkerState) → All (IsBehind history) ws → places_made ws ≤ places_there 1 history ws
made_there history [] behind = omega arith
made_there history (w ∷ ws) behind = omega (
  arith,
  sum_by-cons (λ (x : WorkerState). length x.own) w ws,
  sum_by-cons (λ (x : WorkerState). length (places_from 1 x.number history)) w ws,
  among_length w.own (places_of w.number history) (behind zero w (omega arith)).among,
  made_there history ws (λ k d lt. behind (suc k) d (omega arith)),
)

-- workers that made as many entries as the history has of them made just those
all_parts : (history : List Entry) (ws : List WorkerState) → All (IsBehind history) ws → places_there 1 history ws ≤ places_made ws → All (IsPartOf history) ws
all_parts history [] behind le k d lt = absurd (omega arith)
all_parts history (w ∷ ws) behind le zero d lt =
    let here = behind zero w (omega arith) in
    let there = made_there history ws (λ k d lt. behind (suc k) d (omega arith)) in
    record {
      seen = here.seen;
      own = among_whole w.own (places_of w.number history) here.among (omega (
        arith,
        sum_by-cons (λ (x : WorkerState). length x.own) w ws,
        sum_by-cons (λ (x : WorkerState). length (places_from 1 x.number history)) w ws,
        there,
      ));
    }
all_parts history (w ∷ ws) behind le (suc k) d lt =
    all_parts history ws (λ k d lt. behind (suc k) d (omega arith))
    (omega (
      arith,
      sum_by-cons (λ (x : WorkerState). length x.own) w ws,
      sum_by-cons (λ (x : WorkerState). length (places_from 1 x.number history)) w ws,
      among_length w.own (places_of w.number history) (behind zero w (omega arith)).among,
    ))
    k d (omega arith)

length-with_places : (lists : List (List ℕ)) (ws : List WorkerState) → length (with_places lists ws) ≡ length lists
length-with_places lists [] = refl
length-with_places lists (w ∷ ws) = length-with_places (set lists (w.number - 1) w.own) ws ∙ length-set lists (w.number - 1) w.own

-- a list stays where no worker bears its number
list_stays : (n : ℕ) (lists : List (List ℕ)) (ws : List WorkerState) (k : ℕ) → All (IsNumbered n) ws → bearers (suc k) ws ≡ 0
    → get_or (with_places lists ws) k [] ≡ get_or lists k []
list_stays n lists [] k numbered none = refl
list_stays n lists (w ∷ ws) k numbered none =
    let cons = bearers-cons (suc k) w ws in
    let test = fails (suc k == w.number) (omega (arith, cons)) in
    let some : 0 < w.number = (numbered zero w (omega arith)).some in
    let other : k ≢ w.number - 1 = λ (h : k ≡ w.number - 1).
    let same : suc k ≡ w.number = omega arith in
    let yes = (Decides-eqb (suc k) w.number).1 same in absurd (cc (yes, test)) in
    list_stays n (set lists (w.number - 1) w.own) ws k (λ j d lt. numbered (suc j) d (omega arith)) (omega (arith, cons))
    ∙ get_or-set_other lists (w.number - 1) k w.own [] other

-- and has the places of the worker that bears it
list_has : (n : ℕ) (history : List Entry) (lists : List (List ℕ)) (ws : List WorkerState) (k : ℕ) → k < length lists → All (IsNumbered n) ws → All (IsPartOf history) ws
    → 0 < bearers (suc k) ws → get_or (with_places lists ws) k [] ≡ places_of (suc k) history
list_has n history lists [] k lt numbered parts some = absurd (omega arith)
list_has n history lists (w ∷ ws) k lt numbered parts some =
    ⊎_elim
    (λ (later : 0 < bearers (suc k) ws).
    list_has n history (set lists (w.number - 1) w.own) ws k (omega (arith, length-set lists (w.number - 1) w.own)) (λ j d h. numbered (suc j) d (omega arith)) (λ j d h. parts (suc j) d (omega arith)) later)
    (λ (none : bearers (suc k) ws ≤ 0).
    let test = passes (suc k == w.number) (omega (arith, bearers-cons (suc k) w ws)) in
    let same : suc k ≡ w.number = (Decides-eqb (suc k) w.number).0 test in
    let place : w.number - 1 ≡ k = omega arith in
    list_stays n (set lists (w.number - 1) w.own) ws k (λ j d h. numbered (suc j) d (omega arith)) (omega arith)
    ∙ ap (λ i. get_or (set lists i w.own) k []) place
    ∙ get_or-set_same lists k w.own [] lt
    ∙ (parts zero w (omega arith)).own
    ∙ ap (λ number. places_of number history) (sym same))
    (cases_lt 0 (bearers (suc k) ws))

list_of_number : (history : List Entry) (first n k : ℕ) → k < n → get_or (map (λ number. places_of number history) (numbers_from first n)) k [] ≡ places_of (first + k) history
list_of_number history first zero k lt = absurd (omega arith)
list_of_number history first (suc n) zero lt = ap (λ number. places_of number history) (let same : first ≡ first + 0 = omega arith in same)
list_of_number history first (suc n) (suc k) lt =
    list_of_number history (first + 1) n k (omega arith) ∙ ap (λ number. places_of number history) (let same : first + 1 + k ≡ first + suc k = omega arith in same)

-- all lists have the places of their workers
all_placed : (n : ℕ) (history : List Entry) (ws : List WorkerState) → EachOnce n ws → All (IsPartOf history) ws → with_places (replicate n []) ws ≡ places_by_worker n history
all_placed n history ws each parts =
    ext_get_or [] (with_places (replicate n []) ws) (places_by_worker n history)
    (long ∙ sym (length-map (numbers_from 1 n) (λ number. places_of number history) ∙ length-numbers_from 1 n))
    (λ k lt.
    let below : k < n = omega (arith, long) in
    let number : 1 + k ≡ suc k = omega arith in
    list_has n history (replicate n []) ws k (omega (arith, length-replicate {A = List ℕ} n [])) (all_numbered n ws each) parts (omega (arith, each.once (suc k) (omega arith) (omega arith)))
    ∙ sym (list_of_number history 1 n k below ∙ ap (λ m. places_of m history) number))
  where
    long : length (with_places (replicate n []) ws) ≡ n
    long = length-with_places (replicate n []) ws ∙ length-replicate n []

-- workers of the numbers from 1 on, each once, that made as many entries as a history has, made just its entries
pub record Made (n : ℕ) (history : List Entry) (ws : List WorkerState) : Type 0 where
  pub parts : All (IsPartOf history) ws
  pub places : with_places (replicate n []) ws ≡ places_by_worker n history
  pub entries : All (IsOfWorker n) history

pub made_whole : (n : ℕ) (history : List Entry) (ws : List WorkerState) → EachOnce n ws → All (IsBehind history) ws → places_made ws ≡ length history → Made n history ws
made_whole n history ws each behind whole = record {
  parts = parts;
  places = all_placed n history ws each parts;
  entries = λ k d lt. let is = borne_within n ws each (get_or history k d).worker (all_borne 1 history ws once (omega (arith, there)) k d lt) in record { some = is.0; within = is.1 };
}
  where
    once : (number : ℕ) → bearers number ws ≤ 1
    once = once_at_most n ws each

    there : places_made ws ≤ places_there 1 history ws
    there = made_there history ws behind

    parts : All (IsPartOf history) ws
    parts = all_parts history ws behind (omega (arith, there-le 1 history ws once))

-- the first of workers, and the others
pub numbered-head : (n : ℕ) (all rest : List WorkerState) (w : WorkerState) → all ≡ w ∷ rest → All (IsNumbered n) all → IsNumbered n w
numbered-head n all rest w is numbered = subst (IsNumbered n) (ap (λ xs. get_or xs zero w) is) (numbered zero w (omega (arith, ap length is)))

pub numbered-tail : (n : ℕ) (all rest : List WorkerState) (w : WorkerState) → all ≡ w ∷ rest → All (IsNumbered n) all → All (IsNumbered n) rest
numbered-tail n all rest w is numbered k d lt = subst (IsNumbered n) (ap (λ xs. get_or xs (suc k) d) is) (numbered (suc k) d (omega (arith, ap length is)))

pub made-cons : (all rest : List WorkerState) (w : WorkerState) → all ≡ w ∷ rest → places_made all ≡ length w.own + places_made rest
made-cons all rest w is = ap places_made is ∙ sum_by-cons (λ (x : WorkerState). length x.own) w rest

lists_of-set : {X Z : Type 0} (vecs : List (Vec X Z)) (i : ℕ) (vec : Vec X Z) → lists_of (set vecs i vec) ≡ set (lists_of vecs) i vec.items
lists_of-set vecs i vec = map-set (λ v. v.items) vecs i vec

-- the places of the first worker are put, and then those of the others
pub put_first : {Z : Type 0} (vecs : List (Vec ℕ Z)) (number : ℕ) (own : Vec ℕ Z) (all rest : List WorkerState) (w : WorkerState) (end : List (List ℕ))
    → all ≡ w ∷ rest → number ≡ w.number → own.items ≡ w.own → with_places (lists_of vecs) all ≡ end → with_places (lists_of (set vecs (number - 1) own)) rest ≡ end
put_first vecs number own all rest w end is same places before =
    ap (λ lists. with_places lists rest) (lists_of-set vecs (number - 1) own ∙ (λ i. set (lists_of vecs) (same i - 1) (places i)))
    ∙ sym (ap (with_places (lists_of vecs)) is)
    ∙ before

-- what holds of the workers before one, and of that one, holds of those up to it
pub up_to_next : (P : WorkerState → Type 0) (ws : List WorkerState) (index : ℕ) (w : WorkerState) → index < length ws → w ≡ get_or ws index w → P w
    → ((k : ℕ) (d : WorkerState) → k < index → P (get_or ws k d)) → (k : ℕ) (d : WorkerState) → k < index + 1 → P (get_or ws k d)
up_to_next P ws index w inside is here before k d lt =
    ⊎_elim
    (λ (earlier : k < index). before k d earlier)
    (λ (next : index ≤ k).
    let same : index ≡ k = omega arith in
    subst P (get_or_read ws index w inside is d ∙ ap (λ i. get_or ws i d) same) here)
    (cases_lt k index)

-- each number up to one is borne once, and the next one too
pub once_up_to_next : (ws : List WorkerState) (before : ℕ) → bearers (before + 1) ws ≡ 1
    → ((number : ℕ) → 0 < number → number ≤ before → bearers number ws ≡ 1) → (number : ℕ) → 0 < number → number ≤ before + 1 → bearers number ws ≡ 1
once_up_to_next ws before next earlier number some le =
    ⊎_elim
    (λ (lt : before < number).
    let same : before + 1 ≡ number = omega arith in
    subst (λ n. bearers n ws ≡ 1) same next)
    (λ (within : number ≤ before). earlier number some within)
    (cases_lt before number)

pub as_many_lists : {X Z : Type 0} (vecs : List (Vec X Z)) (n : ℕ) → lists_of vecs ≡ replicate n [] → length vecs ≡ n
as_many_lists vecs n is = sym (length-map vecs (λ v. v.items)) ∙ ap length is ∙ length-replicate n []
