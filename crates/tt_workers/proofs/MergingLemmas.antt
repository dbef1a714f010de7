-- The answers of all workers by rising call: each is right at its front.
use Rattle.std.proofs.Common.{◌≡◌, ℕ, zero, suc, ◌+◌, ◌-◌, ◌<◌, ◌≤◌, ◌==◌, Bool, true, false, if◌then◌else◌, MatchBool, List, [], ◌∷◌, ◌++◌, set, map, length, slice_get, Some, refl, sym, ap, subst, ◌∙◌, arith}
use Rattle.std.proofs.lemmas.Bool.Decides.{Decides-eqb}
use mathlib.Core.List.{IsPrefix}
use Rattle.tt_db.specs.declared.limits.Limits.{Limits}
use Rattle.tt_db.specs.declared.event.Entry.{Entry}
use Rattle.tt_document.specs.declared.document.Call.{Call}
use Rattle.tt_store.specs.Workers.{WorkerState}
use Rattle.tt_workers.specs.declared.answered_call.AnsweredCall.{AnsweredCall}
use Rattle.tt_workers.specs.Calls.{seen_after, IsRight, AreAnswers, AllWork}
use Rattle.tt_workers.specs.Merging.{AreOf, first_of, rest_of, without_first, merged_answers}
use Rattle.tt_workers.specs.Report.{with_seen, AreAnswered}
use Rattle.tt_workers.proofs.WorkLemmas.{answers_longer}

-- there is one answer for each call, right at its front; this much each worker had seen at first, and that much at last
abbrev pub AreMerged : Limits → List Entry → ℕ → ℕ → (ℕ → ℕ) → List Call → List AnsweredCall → (ℕ → ℕ) → Type 0
AreMerged limits history n number from [] [] to = (w : ℕ) → 1 ≤ w → w ≤ n → from w ≤ to w
AreMerged limits history n number from [] (a ∷ answers) to = ⊥
AreMerged limits history n number from (c ∷ calls) [] to = ⊥
AreMerged limits history n number from (c ∷ calls) (a ∷ answers) to =
    IsRight limits history number c (from c.worker) a × AreMerged limits history n (number + 1) (with_seen from c.worker (seen_after c.ask a.front)) calls answers to

-- each of this many workers has a list of answers to its calls among these
abbrev pub HasQueues : Limits → List Entry → ℕ → ℕ → (ℕ → ℕ) → List Call → List (List AnsweredCall) → (ℕ → ℕ) → Type 0
HasQueues limits history n number from calls queues to =
    (w : ℕ) → 1 ≤ w → w ≤ n → (q : List AnsweredCall) × (slice_get queues (w - 1) ≡ Some q) × AreAnswers limits history w number (from w) calls q (to w)

get_set_same : {A : Type 0} (xs : List A) (i : ℕ) (x y : A) → slice_get xs i ≡ Some y → slice_get (set xs i x) i ≡ Some x
get_set_same [] i x y h = absurd (cc)
get_set_same (z ∷ xs) zero x y h = refl
get_set_same (z ∷ xs) (suc i) x y h = get_set_same xs i x y h

get_set_other : {A : Type 0} (xs : List A) (i j : ℕ) (x : A) → (i ≡ j → ⊥) → slice_get (set xs i x) j ≡ slice_get xs j
get_set_other [] i j x h = refl
get_set_other (z ∷ xs) zero zero x h = absurd (h refl)
get_set_other (z ∷ xs) zero (suc j) x h = refl
get_set_other (z ∷ xs) (suc i) zero x h = refl
get_set_other (z ∷ xs) (suc i) (suc j) x h = get_set_other xs i j x (λ e. h (ap suc e))

eqb-same : (n : ℕ) → (n == n) ≡ true
eqb-same n = (Decides-eqb n n).1 refl

other_number : (a b : ℕ) → (a ≡ b → ⊥) → (a == b) ≡ false
other_number a b other = by_test (a == b) refl
  where
    by_test : (t : Bool) → (a == b) ≡ t → t ≡ false
    by_test true is = absurd (other ((Decides-eqb a b).0 is))
    by_test false is = refl

-- the queues are left without the answer to the first call
queues_rest : (limits : Limits) (history : List Entry) (n number : ℕ) (from to : ℕ → ℕ) (c : Call) (calls : List Call) (queues : List (List AnsweredCall)) (a : AnsweredCall) (answers : List AnsweredCall)
    → HasQueues limits history n number from (c ∷ calls) queues to → slice_get queues (c.worker - 1) ≡ Some (a ∷ answers) → 1 ≤ c.worker
    → AreAnswers limits history c.worker (number + 1) (seen_after c.ask a.front) calls answers (to c.worker)
    → HasQueues limits history n (number + 1) (with_seen from c.worker (seen_after c.ask a.front)) calls (without_first queues c.worker) to
queues_rest limits history n number from to c calls queues a answers has got some here w low high = by (w == c.worker) refl
  where
    seen : ℕ → ℕ
    seen = with_seen from c.worker (seen_after c.ask a.front)

    rest : rest_of (slice_get queues (c.worker - 1)) ≡ answers
    rest = ap rest_of got

    by : (b : Bool) → (w == c.worker) ≡ b
        → (q : List AnsweredCall) × (slice_get (without_first queues c.worker) (w - 1) ≡ Some q) × AreAnswers limits history w (number + 1) (seen w) calls q (to w)
    by true e =
        let same : w ≡ c.worker = (Decides-eqb w c.worker).0 e in
        let mine : slice_get (without_first queues c.worker) (c.worker - 1) ≡ Some answers =
        get_set_same queues (c.worker - 1) (rest_of (slice_get queues (c.worker - 1))) (a ∷ answers) got ∙ ap Some rest in
        let seen_is : seen w ≡ seen_after c.ask a.front = ap (λ b. if b then seen_after c.ask a.front else from w) e in
        let answered : AreAnswers limits history w (number + 1) (seen_after c.ask a.front) calls answers (to w) =
        subst (λ k. AreAnswers limits history k (number + 1) (seen_after c.ask a.front) calls answers (to k)) (sym same) here in
        (answers, ap (λ k. slice_get (without_first queues c.worker) (k - 1)) same ∙ mine, subst (λ k. AreAnswers limits history w (number + 1) k calls answers (to w)) (sym seen_is) answered)
    by false e =
        let q = has w low high in
        let differ : c.worker - 1 ≡ w - 1 → ⊥ = λ h.
        let same : w ≡ c.worker = omega (arith, h, low, some) in
        let yes : (w == c.worker) ≡ true = (Decides-eqb w c.worker).1 same in
        cc in
        let not_mine : (c.worker == w) ≡ false = other_number c.worker w (λ h. differ (ap (λ k. k - 1) h)) in
        let seen_is : seen w ≡ from w = ap (λ b. if b then seen_after c.ask a.front else from w) e in (
          q.0,
          get_set_other queues (c.worker - 1) (w - 1) (rest_of (slice_get queues (c.worker - 1))) differ ∙ q.1,
          subst (λ k. AreAnswers limits history w (number + 1) k calls q.0 (to w)) (sym seen_is) (passed q.0 not_mine q.2),
        )
      where
        passed : (list : List AnsweredCall) → (c.worker == w) ≡ false → AreAnswers limits history w number (from w) (c ∷ calls) list (to w) → AreAnswers limits history w (number + 1) (from w) calls list (to w)
        passed [] unlike h = subst (λ b. MatchBool b ⊥ (AreAnswers limits history w (number + 1) (from w) calls [] (to w))) unlike h
        passed (x ∷ list) unlike h =
            subst (λ b. MatchBool b (IsRight limits history number c (from w) x × AreAnswers limits history w (number + 1) (seen_after c.ask x.front) calls list (to w)) (AreAnswers limits history w (number + 1) (from w) calls (x ∷ list) (to w))) unlike h

-- the answers in such lists, in the order of the calls
pub merged_right : (limits : Limits) (history : List Entry) (n number : ℕ) (from to : ℕ → ℕ) (calls : List Call) (queues : List (List AnsweredCall))
    → HasQueues limits history n number from calls queues to → AreOf n calls → AreMerged limits history n number from calls (merged_answers calls queues) to
merged_right limits history n number from to [] queues has of = λ w low high. last w (has w low high).0 (has w low high).2
  where
    last : (w : ℕ) (list : List AnsweredCall) → AreAnswers limits history w number (from w) [] list (to w) → from w ≤ to w
    last w [] h = h
    last w (a ∷ list) h = absurd h
merged_right limits history n number from to (c ∷ calls) queues has of =
    let q = has c.worker of.0 of.1 in
    here (λ seen rest. merged_right limits history n (number + 1) seen to calls (without_first queues c.worker) rest of.2) q.0 q.1 q.2
  where
    here : ((seen : ℕ → ℕ) → HasQueues limits history n (number + 1) seen calls (without_first queues c.worker) to → AreMerged limits history n (number + 1) seen calls (merged_answers calls (without_first queues c.worker)) to)
        → (list : List AnsweredCall) → slice_get queues (c.worker - 1) ≡ Some list → AreAnswers limits history c.worker number (from c.worker) (c ∷ calls) list (to c.worker)
        → AreMerged limits history n number from (c ∷ calls) (merged_answers (c ∷ calls) queues) to
    here go [] got h = absurd (subst (λ b. MatchBool b ⊥ (AreAnswers limits history c.worker (number + 1) (from c.worker) calls [] (to c.worker))) (eqb-same c.worker) h)
    here go (a ∷ list) got h =
        let both : IsRight limits history number c (from c.worker) a × AreAnswers limits history c.worker (number + 1) (seen_after c.ask a.front) calls list (to c.worker) =
        subst (λ b. MatchBool b (IsRight limits history number c (from c.worker) a × AreAnswers limits history c.worker (number + 1) (seen_after c.ask a.front) calls list (to c.worker)) (AreAnswers limits history c.worker (number + 1) (from c.worker) calls (a ∷ list) (to c.worker))) (eqb-same c.worker) h in
        let rest = queues_rest limits history n number from to c calls queues a list has got of.0 both.1 in
        let more = go (with_seen from c.worker (seen_after c.ask a.front)) rest in
        let first : first_of (slice_get queues (c.worker - 1)) ≡ a ∷ [] = ap first_of got in
        subst (λ fs. AreMerged limits history n number from (c ∷ calls) (fs ++ merged_answers calls (without_first queues c.worker)) to) (sym first) (both.0, more)

-- there are as many answers as calls
pub length-merged_answers : (limits : Limits) (history : List Entry) (n number : ℕ) (from to : ℕ → ℕ) (calls : List Call) (answers : List AnsweredCall)
    → AreMerged limits history n number from calls answers to → length answers ≡ length calls
length-merged_answers limits history n number from to [] [] h = refl
length-merged_answers limits history n number from to [] (a ∷ answers) h = absurd h
length-merged_answers limits history n number from to (c ∷ calls) [] h = absurd h
length-merged_answers limits history n number from to (c ∷ calls) (a ∷ answers) h =
    ap suc (length-merged_answers limits history n (number + 1) (with_seen from c.worker (seen_after c.ask a.front)) to calls answers h.1)

-- the records and the fronts apart
pub merged_answered : (limits : Limits) (history : List Entry) (n number : ℕ) (from to : ℕ → ℕ) (calls : List Call) (answers : List AnsweredCall)
    → AreMerged limits history n number from calls answers to → AreAnswered limits history from number calls (map (λ a. a.answer) answers) (map (λ a. a.front) answers)
merged_answered limits history n number from to [] [] h = tt
merged_answered limits history n number from to [] (a ∷ answers) h = absurd h
merged_answered limits history n number from to (c ∷ calls) [] h = absurd h
merged_answered limits history n number from to (c ∷ calls) (a ∷ answers) h =
    (record { later = h.0.later; within = h.0.within; entry = h.0.entry; right = h.0.right }, merged_answered limits history n (number + 1) (with_seen from c.worker (seen_after c.ask a.front)) to calls answers h.1)

-- workers may have seen less at first
abbrev pub IsLower : ℕ → (ℕ → ℕ) → (ℕ → ℕ) → Type 0
IsLower n low high = (w : ℕ) → 1 ≤ w → w ≤ n → low w ≤ high w

lower_seen : (n : ℕ) (low high : ℕ → ℕ) (worker count : ℕ) → IsLower n low high → IsLower n (with_seen low worker count) (with_seen high worker count)
lower_seen n low high worker count le w some last = by (w == worker)
  where
    by : (b : Bool) → (if b then count else low w) ≤ (if b then count else high w)
    by true = omega arith
    by false = le w some last

pub merged_lower : (limits : Limits) (history : List Entry) (n number : ℕ) (low from to : ℕ → ℕ) (calls : List Call) (answers : List AnsweredCall) → IsLower n low from → AreOf n calls
    → AreMerged limits history n number from calls answers to → AreMerged limits history n number low calls answers to
merged_lower limits history n number low from to [] [] le of h = λ w some last. omega (arith, le w some last, h w some last)
merged_lower limits history n number low from to [] (a ∷ answers) le of h = absurd h
merged_lower limits history n number low from to (c ∷ calls) [] le of h = absurd h
merged_lower limits history n number low from to (c ∷ calls) (a ∷ answers) le of h = (
  record { later = omega (arith, h.0.later, le c.worker of.0 of.1); within = h.0.within; entry = h.0.entry; right = h.0.right },
  merged_lower limits history n (number + 1) (with_seen low c.worker (seen_after c.ask a.front)) (with_seen from c.worker (seen_after c.ask a.front)) to calls answers
      (lower_seen n low from c.worker (seen_after c.ask a.front) le) of.2 h.1,
)

-- further calls go on from what was seen
pub merged_append : (limits : Limits) (history : List Entry) (n number next : ℕ) (from middle to : ℕ → ℕ) (calls more : List Call) (answers others : List AnsweredCall) → next ≡ number + length calls → AreOf n more
    → AreMerged limits history n number from calls answers middle → AreMerged limits history n next middle more others to
    → AreMerged limits history n number from (calls ++ more) (answers ++ others) to
merged_append limits history n number next from middle to [] more [] others is of h rest =
    let same : next ≡ number = omega (arith, is) in
    subst (λ k. AreMerged limits history n k from more others to) same (merged_lower limits history n next from middle to more others h of rest)
merged_append limits history n number next from middle to [] more (a ∷ answers) others is of h rest = absurd h
merged_append limits history n number next from middle to (c ∷ calls) more [] others is of h rest = absurd h
merged_append limits history n number next from middle to (c ∷ calls) more (a ∷ answers) others is of h rest =
    (h.0, merged_append limits history n (number + 1) next (with_seen from c.worker (seen_after c.ask a.front)) middle to calls more answers others (omega (arith, is)) of h.1 rest)

-- ---- the workers of a phase

-- how much the worker at a place of a list has seen
abbrev pub seen_at : List WorkerState → ℕ → ℕ
seen_at [] i = 0
seen_at (w ∷ workers) zero = length w.seen
seen_at (w ∷ workers) (suc i) = seen_at workers i

-- the same, by its number
abbrev pub seen_by : List WorkerState → ℕ → ℕ
seen_by workers number = seen_at workers (number - 1)

-- workers are numbered in order, from this number on
abbrev pub NumberedFrom : ℕ → List WorkerState → Type 0
NumberedFrom k [] = Unit {0}
NumberedFrom k (w ∷ workers) = (w.number ≡ k) × NumberedFrom (k + 1) workers

-- workers have seen beginnings of a history
abbrev pub HaveSeen : List Entry → List WorkerState → Type 0
HaveSeen history [] = Unit {0}
HaveSeen history (w ∷ workers) = IsPrefix w.seen history × HaveSeen history workers

queue_at : (limits : Limits) (history : List Entry) (number k : ℕ) (calls : List Call) (olds news : List WorkerState) (queues : List (List AnsweredCall)) (i : ℕ)
    → AllWork limits number calls olds news queues → NumberedFrom k olds → HaveSeen history news → i < length olds
    → (q : List AnsweredCall) × (slice_get queues i ≡ Some q) × AreAnswers limits history (k + i) number (seen_at olds i) calls q (seen_at news i)
queue_at limits history number k calls [] news queues i h numbers seen lt = absurd (omega arith)
queue_at limits history number k calls (old ∷ olds) [] queues i h numbers seen lt = absurd h
queue_at limits history number k calls (old ∷ olds) (new ∷ news) [] i h numbers seen lt = absurd h
queue_at limits history number k calls (old ∷ olds) (new ∷ news) (q ∷ queues) zero h numbers seen lt =
    let is : old.number ≡ k + 0 = omega (arith, numbers.0) in (
      q,
      refl,
      subst (λ w. AreAnswers limits history w number (length old.seen) calls q (length new.seen)) is
          (answers_longer limits new.seen history old.number number (length old.seen) calls q (length new.seen) seen.0 h.0.answered),
    )
queue_at limits history number k calls (old ∷ olds) (new ∷ news) (q ∷ queues) (suc i) h numbers seen lt =
    let rest = queue_at limits history number (k + 1) calls olds news queues i h.1 numbers.1 seen.1 (omega arith) in
    let same : k + 1 + i ≡ k + suc i = omega arith in
    (rest.0, rest.1, subst (λ w. AreAnswers limits history w number (seen_at olds i) calls rest.0 (seen_at news i)) same rest.2)

pub has_queues : (limits : Limits) (history : List Entry) (n number : ℕ) (calls : List Call) (olds news : List WorkerState) (queues : List (List AnsweredCall))
    → AllWork limits number calls olds news queues → NumberedFrom 1 olds → HaveSeen history news → length olds ≡ n
    → HasQueues limits history n number (seen_by olds) calls queues (seen_by news)
has_queues limits history n number calls olds news queues h numbers seen count w some last =
    let q = queue_at limits history number 1 calls olds news queues (w - 1) h numbers seen (omega (arith, count, some, last)) in
    let same : 1 + (w - 1) ≡ w = omega (arith, some) in
    (q.0, q.1, subst (λ k. AreAnswers limits history k number (seen_by olds w) calls q.0 (seen_by news w)) same q.2)
