-- Where the writes of a history stand, by how many writes are before its other entries.
use Rattle.std.proofs.Common.{◌≡◌, ℕ, zero, suc, ◌+◌, ◌-◌, ◌<◌, ◌≤◌, Bool, true, false, List, [], ◌∷◌, ◌++◌, length, take, drop, replicate, fold, slice_get, None, Some, if◌then◌else◌, refl, sym, ap, subst, ◌∙◌, arith, length-append}
use Rattle.tt_values.specs.RowWrites.{Slots}
use Rattle.tt_repair_laws.proofs.LawProofs.{edited_slots_are_as_many}
use Rattle.tt_generations.specs.TwoGenerations.{Phase, Idle, Repairing, slots_edited_by}
use Rattle.tt_db.specs.declared.limits.Limits.{Limits}
use Rattle.tt_db.specs.declared.event.Event.{Event}
use Rattle.tt_db.specs.declared.event.Event.TheVariants as events
use Rattle.tt_db.specs.declared.event.Entry.{Entry}
use Rattle.tt_db.specs.State.{State, start, after, now_of, next_state}
use Rattle.tt_db.specs.Database.{nth_item}
use Rattle.tt_db.specs.Steps.{step_by}
use Rattle.tt_db.specs.History.{is_write, write_places, writes_before_others, AllBelow, NoneBelow, IsCut}

-- ---- numbers that don't fall

NoneBelow-less : (m n : ℕ) (xs : List ℕ) → m ≤ n → NoneBelow n xs → NoneBelow m xs
NoneBelow-less m n [] h none = tt
NoneBelow-less m n (x ∷ xs) h none = (omega (arith, h, none.0), NoneBelow-less m n xs h none.1)

NoneBelow-at : (n : ℕ) (xs : List ℕ) (p v : ℕ) → NoneBelow n xs → slice_get xs p ≡ Some v → n ≤ v
NoneBelow-at n [] p v none at = cc
NoneBelow-at n (x ∷ xs) zero v none at = let same : x ≡ v = cc in omega (arith, same, none.0)
NoneBelow-at n (x ∷ xs) (suc p) v none at = NoneBelow-at n xs p v none.1 at

-- each is at most any of those behind it
abbrev DontFall : List ℕ → Type 0
DontFall [] = Unit {0}
DontFall (x ∷ xs) = NoneBelow x xs × DontFall xs

below-front : (n : ℕ) (xs : List ℕ) (p v : ℕ) → DontFall xs → slice_get xs p ≡ Some v → v < n → AllBelow n (take (suc p) xs)
below-front n [] p v rise at h = cc
below-front n (x ∷ xs) zero v rise at h = let same : x ≡ v = cc in (omega (arith, same, h), tt)
below-front n (x ∷ xs) (suc p) v rise at h = (omega (arith, h, NoneBelow-at x xs p v rise.0 at), below-front n xs p v rise.1 at h)

none-rest : (n : ℕ) (xs : List ℕ) (p v : ℕ) → DontFall xs → slice_get xs p ≡ Some v → n ≤ v → NoneBelow n (drop p xs)
none-rest n [] p v rise at h = cc
none-rest n (x ∷ xs) zero v rise at h = let same : x ≡ v = cc in (omega (arith, same, h), NoneBelow-less n x xs (omega (arith, same, h)) rise.0)
none-rest n (x ∷ xs) (suc p) v rise at h = none-rest n xs p v rise.1 at h

none-front : (n low : ℕ) (xs : List ℕ) → NoneBelow n xs → low ≤ length xs → AllBelow n (take low xs) → low ≡ 0
none-front n zero xs none within front = refl
none-front n (suc low) [] none within front = absurd (omega (arith, within))
none-front n (suc low) (x ∷ xs) none within front = absurd (omega (arith, none.0, front.0))

-- ---- how many writes are before the other entries

at_least : (n : ℕ) (H : List Entry) → NoneBelow n (writes_before_others n H)
at_least n [] = tt
at_least n (e ∷ H) = by (is_write e.event) (at_least n H) (at_least (suc n) H)
  where
    by : (b : Bool) → NoneBelow n (writes_before_others n H) → NoneBelow (suc n) (writes_before_others (suc n) H)
        → NoneBelow n (if b then writes_before_others (suc n) H else n ∷ writes_before_others n H)
    by true same more = NoneBelow-less n (suc n) (writes_before_others (suc n) H) (omega arith) more
    by false same more = (omega arith, same)

dont_fall : (n : ℕ) (H : List Entry) → DontFall (writes_before_others n H)
dont_fall n [] = tt
dont_fall n (e ∷ H) = by (is_write e.event) (dont_fall n H) (dont_fall (suc n) H)
  where
    by : (b : Bool) → DontFall (writes_before_others n H) → DontFall (writes_before_others (suc n) H)
        → DontFall (if b then writes_before_others (suc n) H else n ∷ writes_before_others n H)
    by true same more = more
    by false same more = (at_least n H, same)

pub has_fewer : (H : List Entry) (number p v : ℕ) → slice_get (writes_before_others 0 H) p ≡ Some v → v < number → AllBelow number (take (p + 1) (writes_before_others 0 H))
has_fewer H number p v at h = let next : suc p ≡ p + 1 = omega arith in subst (λ k. AllBelow number (take k (writes_before_others 0 H))) next (below-front number (writes_before_others 0 H) p v (dont_fall 0 H) at h)

pub has_no_fewer : (H : List Entry) (number p v : ℕ) → slice_get (writes_before_others 0 H) p ≡ Some v → number ≤ v → NoneBelow number (drop p (writes_before_others 0 H))
has_no_fewer H number p v at h = none-rest number (writes_before_others 0 H) p v (dont_fall 0 H) at h

-- each entry is a write or another one
pub entries-count : (place n : ℕ) (H : List Entry) → length (write_places place H) + length (writes_before_others n H) ≡ length H
entries-count place n [] = refl
entries-count place n (e ∷ H) = by (is_write e.event) (entries-count (suc place) (suc n) H) (entries-count (suc place) n H)
  where
    by : (b : Bool) → length (write_places (suc place) H) + length (writes_before_others (suc n) H) ≡ length H
        → length (write_places (suc place) H) + length (writes_before_others n H) ≡ length H
        → length (if b then place ∷ write_places (suc place) H else write_places (suc place) H) + length (if b then writes_before_others (suc n) H else n ∷ writes_before_others n H) ≡ suc (length H)
    by true more same = omega (arith, more)
    by false more same = omega (arith, same)

-- one more entry
others-push : (n : ℕ) (H : List Entry) (e : Entry) → let others = writes_before_others n H in
    writes_before_others n (H ++ e ∷ []) ≡ (if is_write e.event then others else others ++ (n + (length H - length others)) ∷ [])
others-push n [] e = by (is_write e.event)
  where
    by : (b : Bool) → (if b then [] else n ∷ []) ≡ (if b then [] else (n + 0) ∷ [])
    by true = refl
    by false = ap (λ m. m ∷ []) (omega arith)
others-push n (d ∷ H) e = by (is_write d.event) (is_write e.event) (others-push n H e) (others-push (suc n) H e)
  where
    few : (m : ℕ) → length (writes_before_others m H) ≤ length H
    few m = omega (arith, entries-count 0 m H)

    by : (a b : Bool)
        → writes_before_others n (H ++ e ∷ []) ≡ (if b then writes_before_others n H else writes_before_others n H ++ (n + (length H - length (writes_before_others n H))) ∷ [])
        → writes_before_others (suc n) (H ++ e ∷ []) ≡ (if b then writes_before_others (suc n) H else writes_before_others (suc n) H ++ (suc n + (length H - length (writes_before_others (suc n) H))) ∷ [])
        → let others = if a then writes_before_others (suc n) H else n ∷ writes_before_others n H in
        (if a then writes_before_others (suc n) (H ++ e ∷ []) else n ∷ writes_before_others n (H ++ e ∷ []))
        ≡ (if b then others else others ++ (n + (suc (length H) - length others)) ∷ [])
    by true true same more = more
    by true false same more = more ∙ ap (λ m. writes_before_others (suc n) H ++ m ∷ []) (omega (arith, few (suc n)))
    by false true same more = ap (λ xs. n ∷ xs) same
    by false false same more = ap (λ xs. n ∷ xs) same ∙ ap (λ m. n ∷ (writes_before_others n H ++ m ∷ [])) (omega (arith, few n))

pub others-write : (H : List Entry) (e : Entry) → is_write e.event ≡ true → writes_before_others 0 (H ++ e ∷ []) ≡ writes_before_others 0 H
others-write H e is = others-push 0 H e ∙ ap (λ b. let others = writes_before_others 0 H in if b then others else others ++ (0 + (length H - length others)) ∷ []) is

pub others-other : (H : List Entry) (e : Entry) → is_write e.event ≡ false → let others = writes_before_others 0 H in
    writes_before_others 0 (H ++ e ∷ []) ≡ others ++ (length H - length others) ∷ []
others-other H e is = others-push 0 H e ∙ ap (λ b. let others = writes_before_others 0 H in if b then others else others ++ (0 + (length H - length others)) ∷ []) is
    ∙ ap (λ m. writes_before_others 0 H ++ m ∷ []) (omega arith)

-- steps have as many writes before them as there are
others-steps-from : (n k worker : ℕ) (H : List Entry) → let others = writes_before_others n H in
    writes_before_others n (H ++ replicate k (step_by worker)) ≡ others ++ replicate k (n + (length H - length others))
others-steps-from n k worker [] = steps k ∙ ap (replicate k) (omega arith)
  where
    steps : (k : ℕ) → writes_before_others n (replicate k (step_by worker)) ≡ replicate k n
    steps zero = refl
    steps (suc k) = ap (λ xs. n ∷ xs) (steps k)
others-steps-from n k worker (d ∷ H) = by (is_write d.event) (others-steps-from n k worker H) (others-steps-from (suc n) k worker H)
  where
    few : (m : ℕ) → length (writes_before_others m H) ≤ length H
    few m = omega (arith, entries-count 0 m H)

    steps : List Entry
    steps = replicate k (step_by worker)

    by : (b : Bool)
        → writes_before_others n (H ++ steps) ≡ writes_before_others n H ++ replicate k (n + (length H - length (writes_before_others n H)))
        → writes_before_others (suc n) (H ++ steps) ≡ writes_before_others (suc n) H ++ replicate k (suc n + (length H - length (writes_before_others (suc n) H)))
        → let others = if b then writes_before_others (suc n) H else n ∷ writes_before_others n H in
        (if b then writes_before_others (suc n) (H ++ steps) else n ∷ writes_before_others n (H ++ steps))
        ≡ others ++ replicate k (n + (suc (length H) - length others))
    by true same more = more ∙ ap (λ m. writes_before_others (suc n) H ++ replicate k m) (omega (arith, few (suc n)))
    by false same more = ap (λ xs. n ∷ xs) same ∙ ap (λ m. n ∷ (writes_before_others n H ++ replicate k m)) (omega (arith, few n))

pub others-steps : (H : List Entry) (k worker : ℕ) → let others = writes_before_others 0 H in
    writes_before_others 0 (H ++ replicate k (step_by worker)) ≡ others ++ replicate k (length H - length others)
others-steps H k worker = others-steps-from 0 k worker H ∙ ap (λ m. writes_before_others 0 H ++ replicate k m) (omega arith)

-- ---- the place of a write: its number, and as many others as have fewer writes before them

place-at : (H : List Entry) (place n k low : ℕ) → k < length (write_places place H) → IsCut (writes_before_others n H) (suc (n + k)) low → slice_get (write_places place H) k ≡ Some (place + (k + low))
place-at [] place n k low there cut = absurd (omega (arith, there))
place-at (e ∷ H) place n k low there cut = by (is_write e.event) (λ j l. place-at H (suc place) (suc n) j l) (λ j l. place-at H (suc place) n j l) k low there cut
  where
    others : Bool → List ℕ
    others b = if b then writes_before_others (suc n) H else n ∷ writes_before_others n H

    places : Bool → List ℕ
    places b = if b then place ∷ write_places (suc place) H else write_places (suc place) H

    by : (b : Bool)
        → ((j l : ℕ) → j < length (write_places (suc place) H) → IsCut (writes_before_others (suc n) H) (suc (suc n + j)) l → slice_get (write_places (suc place) H) j ≡ Some (suc place + (j + l)))
        → ((j l : ℕ) → j < length (write_places (suc place) H) → IsCut (writes_before_others n H) (suc (n + j)) l → slice_get (write_places (suc place) H) j ≡ Some (suc place + (j + l)))
        → (k low : ℕ) → k < length (places b) → IsCut (others b) (suc (n + k)) low → slice_get (places b) k ≡ Some (place + (k + low))
    by true more same zero low there cut =
        let first : suc (n + 0) ≡ suc n = omega arith in
        let front = subst (λ m. AllBelow m (take low (writes_before_others (suc n) H))) first cut.front in
        let none : low ≡ 0 = none-front (suc n) low (writes_before_others (suc n) H) (at_least (suc n) H) cut.within front in
        ap Some (omega (arith, none))
    by true more same (suc k) low there cut =
        let next : suc (n + suc k) ≡ suc (suc n + k) = omega arith in
        more k low (omega (arith, there)) (subst (λ m. IsCut (writes_before_others (suc n) H) m low) next cut)
        ∙ ap Some (omega arith)
    by false more same k zero there cut = absurd (omega (arith, cut.rest.0))
    by false more same k (suc low) there cut =
        same k low there (record { within = omega (arith, cut.within); front = cut.front.1; rest = cut.rest })
        ∙ ap Some (omega arith)

pub place-of : (H : List Entry) (number low : ℕ) → 1 ≤ number → number ≤ length H - length (writes_before_others 0 H) → IsCut (writes_before_others 0 H) number low
    → Some (number + low) ≡ nth_item (write_places 1 H) number
place-of H zero low first there cut = absurd (omega (arith, first))
place-of H (suc k) low first there cut =
    let number : suc k ≡ suc (0 + k) = omega arith in
    sym (place-at H 1 0 k low (omega (arith, there, entries-count 1 0 H)) (subst (λ m. IsCut (writes_before_others 0 H) m low) number cut) ∙ ap Some (omega arith))

none-past : (xs : List ℕ) (k : ℕ) → length xs ≤ k → None ≡ slice_get xs k
none-past [] k h = refl
none-past (x ∷ xs) zero h = absurd (omega (arith, h))
none-past (x ∷ xs) (suc k) h = none-past xs k (omega (arith, h))

pub no_place : (H : List Entry) (number : ℕ) → length H - length (writes_before_others 0 H) < number → None ≡ nth_item (write_places 1 H) number
no_place H zero past = refl
no_place H (suc k) past = none-past (write_places 1 H) k (omega (arith, past, entries-count 1 0 H))

-- ---- the same of numbers that are known to be these

pub few_others : (xs : List ℕ) (H : List Entry) → xs ≡ writes_before_others 0 H → length xs ≤ length H
few_others xs H is = omega (arith, ap length is, entries-count 1 0 H)

pub not_past : (xs : List ℕ) (p : ℕ) → p < length xs → None ≡ slice_get xs p → ⊥
not_past [] p inside at = omega (arith, inside)
not_past (x ∷ xs) zero inside at = cc
not_past (x ∷ xs) (suc p) inside at = not_past xs p (omega (arith, inside)) at

-- ---- there are as many writes as slots

length-edited : (phase : Phase) (W : Slots) → length (slots_edited_by phase W) ≡ length W
length-edited Idle W = refl
length-edited (Repairing edits n) W = edited_slots_are_as_many W edits

slots-count : (limits : Limits) (S : State) (place : ℕ) (H : List Entry) → length (write_places place H) + now_of S ≡ now_of (fold (λ T e. next_state limits T e.event) S H)
slots-count limits S place [] = omega arith
slots-count limits S place (e ∷ H) = by e.event (slots-count limits (next_state limits S e.event) (suc place) H)
  where
    last : Event → ℕ
    last event = now_of (fold (λ T d. next_state limits T d.event) (next_state limits S event) H)

    by : (event : Event) → length (write_places (suc place) H) + now_of (next_state limits S event) ≡ last event
        → length (if is_write event then place ∷ write_places (suc place) H else write_places (suc place) H) + now_of S ≡ last event
    by (events.Write action) rest = omega (arith, rest, length-append S.slots (Some action ∷ []))
    by (events.Begin edits) rest = rest
    by events.Step rest = rest
    by events.Switch rest = omega (arith, rest, length-edited S.phase S.slots)
    by events.Abort rest = rest

pub slots-places : (limits : Limits) (H : List Entry) → length (write_places 1 H) ≡ now_of (after limits H)
slots-places limits H = let count = slots-count limits start 1 H in omega (arith, count)
