-- The entries at a worker's places: they stay in a longer history, and what the worker adds is added to them.
use Rattle.std.proofs.Common.{◌≡◌, ℕ, zero, suc, ◌+◌, ◌-◌, ◌<◌, ◌≤◌, ◌==◌, Bool, true, false, if◌then◌else◌, List, [], ◌∷◌, ◌++◌, drop, length, slice_get, Some, refl, sym, ap, subst, ◌∙◌, ⊎_elim, arith, append_assoc, length-append}
use Rattle.std.specs.List.{cons_option}
use Rattle.std.proofs.lemmas.List.{drop_at}
use Rattle.std.proofs.lemmas.List.Elements.{filter_map-append}
use Rattle.tt_db.specs.declared.event.Entry.{Entry}
use Rattle.tt_db.specs.Database.{nth_item}
use Rattle.tt_store.specs.History.{places_from, places_of}
use Rattle.tt_store.specs.Calls.{numbers_from}
use Rattle.tt_store.specs.Workers.{IsAmong}
use Rattle.tt_store.specs.Own.{entries_at, RisesAbove}

rises_lower : (low high : ℕ) (xs : List ℕ) → low ≤ high → RisesAbove high xs → RisesAbove low xs
rises_lower low high [] le h = tt
rises_lower low high (x ∷ xs) le h = (omega (arith, h.0), h.1)

rises_if : (b : Bool) (place before : ℕ) (places : List ℕ) → before < place → RisesAbove place places → RisesAbove before (if b then place ∷ places else places)
rises_if true place before places lt rises = (lt, rises)
rises_if false place before places lt rises = rises_lower before place places (omega arith) rises

-- places of entries rise
places_rise : (place before worker : ℕ) (history : List Entry) → before < place → RisesAbove before (places_from place worker history)
places_rise place before worker [] lt = tt
places_rise place before worker (e ∷ history) lt =
    rises_if (e.worker == worker) place before (places_from (place + 1) worker history) lt (places_rise (place + 1) place worker history (omega arith))

among_rises : (low : ℕ) (xs ys : List ℕ) → IsAmong xs ys → RisesAbove low ys → RisesAbove low xs
among_rises low [] ys h rises = tt
among_rises low (x ∷ xs) [] h rises = absurd h
among_rises low (x ∷ xs) (y ∷ ys) h rises =
    ⊎_elim
    (λ (t : (x ≡ y) × IsAmong xs ys). (omega (arith, t.0, rises.0), among_rises x xs ys t.1 (subst (λ n. RisesAbove n ys) (sym t.0) rises.1)))
    (λ (t : IsAmong (x ∷ xs) ys). among_rises low (x ∷ xs) ys t (rises_lower low y ys (omega (arith, rises.0)) rises.1))
    h

-- a worker's places rise
pub own_rises : (own : List ℕ) (worker : ℕ) (history : List Entry) → IsAmong own (places_of worker history) → RisesAbove 0 own
own_rises own worker history h = among_rises 0 own (places_of worker history) h (places_rise 1 0 worker history (omega arith))

-- numbers from 1 on that are below this one
abbrev AllBelow : ℕ → List ℕ → Type 0
AllBelow n [] = Unit {0}
AllBelow n (x ∷ xs) = (0 < x) × (x < n) × AllBelow n xs

below_if : (b : Bool) (n place : ℕ) (places : List ℕ) → 0 < place → place < n → AllBelow n places → AllBelow n (if b then place ∷ places else places)
below_if true n place places some lt below = (some, lt, below)
below_if false n place places some lt below = below

places_below : (n place worker : ℕ) (history : List Entry) → 0 < place → place + length history ≤ n → AllBelow n (places_from place worker history)
places_below n place worker [] some le = tt
places_below n place worker (e ∷ history) some le =
    below_if (e.worker == worker) n place (places_from (place + 1) worker history) some (omega arith)
    (places_below n (place + 1) worker history (omega arith) (omega arith))

among_below : (n : ℕ) (xs ys : List ℕ) → IsAmong xs ys → AllBelow n ys → AllBelow n xs
among_below n [] ys h below = tt
among_below n (x ∷ xs) [] h below = absurd h
among_below n (x ∷ xs) (y ∷ ys) h below =
    ⊎_elim (λ (t : (x ≡ y) × IsAmong xs ys). (omega (arith, t.0, below.0), omega (arith, t.0, below.1), among_below n xs ys t.1 below.2))
    (λ (t : IsAmong (x ∷ xs) ys). among_below n (x ∷ xs) ys t below.2) h

get_longer : (xs ys : List Entry) (k : ℕ) → k < length xs → slice_get (xs ++ ys) k ≡ slice_get xs k
get_longer [] ys k lt = absurd (omega arith)
get_longer (x ∷ xs) ys zero lt = refl
get_longer (x ∷ xs) ys (suc k) lt = get_longer xs ys k (omega arith)

nth_longer : (xs ys : List Entry) (place : ℕ) → 0 < place → place < length xs + 1 → nth_item (xs ++ ys) place ≡ nth_item xs place
nth_longer xs ys zero some lt = absurd (omega arith)
nth_longer xs ys (suc k) some lt = get_longer xs ys k (omega arith)

entries_longer : (front more : List Entry) (own : List ℕ) → AllBelow (length front + 1) own → entries_at (front ++ more) own ≡ entries_at front own
entries_longer front more [] below = refl
entries_longer front more (x ∷ own) below =
    (λ i. cons_option (nth_longer front more x below.0 below.1 i) (entries_longer front more own below.2 i))

-- the entries at a worker's places stay in a longer history
pub entries_stay : (own : List ℕ) (worker : ℕ) (front more : List Entry) → IsAmong own (places_of worker front) → entries_at (front ++ more) own ≡ entries_at front own
entries_stay own worker front more h =
    entries_longer front more own (among_below (length front + 1) own (places_of worker front) h (places_below (length front + 1) 1 worker front (omega arith) (omega arith)))

get_next : (front : List Entry) (e : Entry) (rest : List Entry) → slice_get (front ++ e ∷ rest) (length front) ≡ Some e
get_next [] e rest = refl
get_next (x ∷ front) e rest = get_next front e rest

nth_next : (front : List Entry) (e : Entry) (rest : List Entry) (place : ℕ) → place ≡ length front + 1 → nth_item (front ++ e ∷ rest) place ≡ Some e
nth_next front e rest zero is = absurd (omega arith)
nth_next front e rest (suc k) is = ap (slice_get (front ++ e ∷ rest)) (let same : k ≡ length front = omega arith in same) ∙ get_next front e rest

-- the entries behind a front are those at the places behind it
entries_behind : (front made : List Entry) → entries_at (front ++ made) (numbers_from (length front + 1) (length made)) ≡ made
entries_behind front [] = refl
entries_behind front (e ∷ made) =
    let longer = front ++ e ∷ [] in
    let place : length front + 1 + 1 ≡ length longer + 1 = omega (arith, length-append front (e ∷ [])) in
    let rest : entries_at (front ++ e ∷ made) (numbers_from (length front + 1 + 1) (length made)) ≡ made =
    (λ i. entries_at (sym (append_assoc front (e ∷ []) made) i) (numbers_from (place i) (length made))) ∙ entries_behind longer made in
    (λ i. cons_option (nth_next front e made (length front + 1) refl i) (rest i))

-- the entries of a worker grow by what it adds
pub entries_added : (own : List ℕ) (worker : ℕ) (front made : List Entry) → IsAmong own (places_of worker front)
    → entries_at (front ++ made) (own ++ numbers_from (length front + 1) (length made)) ≡ entries_at front own ++ made
entries_added own worker front made h =
    filter_map-append (λ place. nth_item (front ++ made) place) own (numbers_from (length front + 1) (length made))
    ∙ (λ i. entries_stay own worker front made h i ++ entries_behind front made i)

-- and so for a history that is longer by that
pub own_added : (own : List ℕ) (worker : ℕ) (front history made : List Entry) → history ≡ front ++ made → IsAmong own (places_of worker front)
    → entries_at history (own ++ numbers_from (length front + 1) (length history - length front)) ≡ entries_at front own ++ drop (length front) history
own_added own worker front history made is h =
    let count : length history - length front ≡ length made = omega (arith, ap length is, length-append front made) in
    (λ i. entries_at (is i) (own ++ numbers_from (length front + 1) (count i)))
    ∙ entries_added own worker front made h
    ∙ ap (λ rest. entries_at front own ++ rest) (sym (ap (drop (length front)) is ∙ drop_at front made (length front) refl))
