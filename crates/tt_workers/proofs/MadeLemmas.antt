-- What workers have made: the entries of their calls, and no others that bear their numbers.
use Rattle.std.proofs.Common.{◌≡◌, ℕ, zero, suc, ◌+◌, ◌≤◌, ◌==◌, Bool, true, false, cond, if◌then◌else◌, List, [], ◌∷◌, ◌++◌, length, slice_get, Some, refl, sym, ap, ◌∙◌, ⊎_elim, arith, append_assoc, length-append}
use Rattle.std.specs.List.{cons_option}
use Rattle.std.proofs.lemmas.List.{append-nil}
use Rattle.std.proofs.lemmas.List.Elements.{filter-append}
use Rattle.tt_db.specs.declared.limits.Limits.{Limits}
use Rattle.tt_db.specs.declared.event.Entry.{Entry}
use Rattle.tt_db.specs.Database.{nth_item}
use Rattle.tt_document.specs.declared.document.Call.{Call}
use Rattle.tt_store.specs.History.{places_from, places_of}
use Rattle.tt_store.specs.Own.{entries_at}
use Rattle.tt_store.specs.Workers.{WorkerState, IsAmong, own_entries}
use Rattle.tt_store.specs.Opening.{new_worker, new_workers}
use Rattle.tt_store.specs.Closing.{IsPartOf}
use Rattle.tt_workload.specs.History.{entries_of, history_of}
use Rattle.tt_workers.specs.declared.answered_call.AnsweredCall.{AnsweredCall}
use Rattle.tt_workers.specs.Calls.{made_by, AllWork}
use Rattle.tt_workers.proofs.MergingLemmas.{NumberedFrom}

-- workers, numbered from this number on, have made the entries of their calls among these, and nothing else
abbrev pub HaveMade : ℕ → List Call → List WorkerState → Type 0
HaveMade k calls [] = Unit {0}
HaveMade k calls (w ∷ workers) = (w.number ≡ k) × (own_entries w ≡ made_by k (history_of calls)) × HaveMade (k + 1) calls workers

pub numbered : (k : ℕ) (calls : List Call) (workers : List WorkerState) → HaveMade k calls workers → NumberedFrom k workers
numbered k calls [] h = tt
numbered k calls (w ∷ workers) h = (h.0, numbered (k + 1) calls workers h.2)

history_of-append : (calls more : List Call) → history_of (calls ++ more) ≡ history_of calls ++ history_of more
history_of-append [] more = refl
history_of-append (c ∷ calls) more = ap (λ es. entries_of c ++ es) (history_of-append calls more) ∙ sym (append_assoc (entries_of c) (history_of calls) (history_of more))

made_by-append : (worker : ℕ) (calls more : List Call) → made_by worker (history_of (calls ++ more)) ≡ made_by worker (history_of calls) ++ made_by worker (history_of more)
made_by-append worker calls more = ap (made_by worker) (history_of-append calls more) ∙ filter-append (λ e. e.worker == worker) (history_of calls) (history_of more)

-- further calls
pub made_more : (limits : Limits) (number k : ℕ) (before calls : List Call) (olds news : List WorkerState) (queues : List (List AnsweredCall))
    → HaveMade k before olds → AllWork limits number calls olds news queues → HaveMade k (before ++ calls) news
made_more limits number k before calls [] [] [] made h = tt
made_more limits number k before calls [] [] (q ∷ queues) made h = absurd h
made_more limits number k before calls [] (new ∷ news) queues made h = absurd h
made_more limits number k before calls (old ∷ olds) [] queues made h = absurd h
made_more limits number k before calls (old ∷ olds) (new ∷ news) [] made h = absurd h
made_more limits number k before calls (old ∷ olds) (new ∷ news) (q ∷ queues) made h =
    let grew = h.0.grew in
    let own : own_entries new ≡ made_by k (history_of before) ++ made_by k (history_of calls) =
    grew.entries ∙ (λ i. made.1 i ++ made_by (made.0 i) (history_of calls)) in
    (grew.number ∙ made.0, own ∙ sym (made_by-append k before calls), made_more limits number (k + 1) before calls olds news queues made.2 h.1)

pub length-work : (limits : Limits) (number : ℕ) (calls : List Call) (olds news : List WorkerState) (queues : List (List AnsweredCall)) → AllWork limits number calls olds news queues
    → length news ≡ length olds
length-work limits number calls [] [] [] h = refl
length-work limits number calls [] [] (q ∷ queues) h = absurd h
length-work limits number calls [] (new ∷ news) queues h = absurd h
length-work limits number calls (old ∷ olds) [] queues h = absurd h
length-work limits number calls (old ∷ olds) (new ∷ news) [] h = absurd h
length-work limits number calls (old ∷ olds) (new ∷ news) (q ∷ queues) h = ap suc (length-work limits number calls olds news queues h.1)

pub length-queues : (limits : Limits) (number : ℕ) (calls : List Call) (olds news : List WorkerState) (queues : List (List AnsweredCall)) → AllWork limits number calls olds news queues
    → length queues ≡ length olds
length-queues limits number calls [] [] [] h = refl
length-queues limits number calls [] [] (q ∷ queues) h = absurd h
length-queues limits number calls [] (new ∷ news) queues h = absurd h
length-queues limits number calls (old ∷ olds) [] queues h = absurd h
length-queues limits number calls (old ∷ olds) (new ∷ news) [] h = absurd h
length-queues limits number calls (old ∷ olds) (new ∷ news) (q ∷ queues) h = ap suc (length-queues limits number calls olds news queues h.1)

made_last : (k : ℕ) (calls : List Call) (workers : List WorkerState) (w : WorkerState) → HaveMade k calls workers → w.number ≡ k + length workers
    → own_entries w ≡ made_by (k + length workers) (history_of calls) → HaveMade k calls (workers ++ w ∷ [])
made_last k calls [] w made number own =
    let is : k + 0 ≡ k = omega arith in
    (number ∙ is, own ∙ ap (λ n. made_by n (history_of calls)) is, tt)
made_last k calls (x ∷ workers) w made number own =
    let is : k + suc (length workers) ≡ k + 1 + length workers = omega arith in
    (made.0, made.1, made_last (k + 1) calls workers w made.2 (number ∙ is) (own ∙ ap (λ n. made_by n (history_of calls)) is))

pub length-new_workers : (n : ℕ) → length (new_workers n) ≡ n
length-new_workers zero = refl
length-new_workers (suc n) = length-append (new_workers n) (new_worker (suc n) ∷ []) ∙ (let more : length (new_workers n) + 1 ≡ suc n = omega (arith, length-new_workers n) in more)

-- new workers have made nothing
pub new_made : (n : ℕ) → HaveMade 1 [] (new_workers n)
new_made zero = tt
new_made (suc n) =
    let is : suc n ≡ 1 + length (new_workers n) = omega (arith, length-new_workers n) in
    made_last 1 [] (new_workers n) (new_worker (suc n)) (new_made n) is refl

-- ---- the end

among_length : (xs ys : List ℕ) → IsAmong xs ys → length xs ≤ length ys
among_length [] ys h = omega arith
among_length (x ∷ xs) [] h = absurd h
among_length (x ∷ xs) (y ∷ ys) h =
    ⊎_elim (λ (t : (x ≡ y) × IsAmong xs ys). (let less = among_length xs ys t.1 in omega (arith, less)))
    (λ (t : IsAmong (x ∷ xs) ys). (let less = among_length (x ∷ xs) ys t in omega (arith, less))) h

-- entries that bear a number have as many places
length-places : (place worker : ℕ) (history : List Entry) → length (places_from place worker history) ≡ length (made_by worker history)
length-places place worker [] = refl
length-places place worker (e ∷ history) = by (length-places (place + 1) worker history) (e.worker == worker)
  where
    by : length (places_from (place + 1) worker history) ≡ length (made_by worker history)
        → (b : Bool) → length (if b then place ∷ places_from (place + 1) worker history else places_from (place + 1) worker history) ≡ length (cond b (e ∷ made_by worker history) (made_by worker history))
    by rest true = ap suc rest
    by rest false = rest

places-append : (place worker : ℕ) (history more : List Entry) → places_from place worker (history ++ more) ≡ places_from place worker history ++ places_from (place + length history) worker more
places-append place worker [] more = ap (λ n. places_from n worker more) (let is : place ≡ place + 0 = omega arith in is)
places-append place worker (e ∷ history) more = by (places-append (place + 1) worker history more ∙ ap (λ n. places_from (place + 1) worker history ++ places_from n worker more) (omega arith)) (e.worker == worker)
  where
    by : places_from (place + 1) worker (history ++ more) ≡ places_from (place + 1) worker history ++ places_from (place + suc (length history)) worker more
        → (b : Bool) → (if b then place ∷ places_from (place + 1) worker (history ++ more) else places_from (place + 1) worker (history ++ more))
        ≡ (if b then place ∷ places_from (place + 1) worker history else places_from (place + 1) worker history) ++ places_from (place + suc (length history)) worker more
    by rest true = ap (λ ps. place ∷ ps) rest
    by rest false = rest

get_next : (front : List Entry) (e : Entry) (rest : List Entry) → slice_get (front ++ e ∷ rest) (length front) ≡ Some e
get_next [] e rest = refl
get_next (x ∷ front) e rest = get_next front e rest

nth_next : (front : List Entry) (e : Entry) (rest : List Entry) (place : ℕ) → place ≡ length front + 1 → nth_item (front ++ e ∷ rest) place ≡ Some e
nth_next front e rest zero is = absurd (omega (arith, is))
nth_next front e rest (suc k) is = ap (slice_get (front ++ e ∷ rest)) (let same : k ≡ length front = omega (arith, is) in same) ∙ get_next front e rest

-- the entries at the places of a worker are those that bear its number
entries_at_places : (front history : List Entry) (worker place : ℕ) → place ≡ length front + 1 → entries_at (front ++ history) (places_from place worker history) ≡ made_by worker history
entries_at_places front [] worker place is = refl
entries_at_places front (e ∷ history) worker place is =
    by (entries_at_places (front ++ e ∷ []) history worker (place + 1) (omega (arith, is, length-append front (e ∷ [])))) (e.worker == worker)
  where
    by : entries_at ((front ++ e ∷ []) ++ history) (places_from (place + 1) worker history) ≡ made_by worker history
        → (b : Bool) → entries_at (front ++ e ∷ history) (if b then place ∷ places_from (place + 1) worker history else places_from (place + 1) worker history)
        ≡ cond b (e ∷ made_by worker history) (made_by worker history)
    by got b =
        let rest : entries_at (front ++ e ∷ history) (places_from (place + 1) worker history) ≡ made_by worker history =
        ap (λ es. entries_at es (places_from (place + 1) worker history)) (sym (append_assoc front (e ∷ []) history)) ∙ got in
        chosen rest b
      where
        chosen : entries_at (front ++ e ∷ history) (places_from (place + 1) worker history) ≡ made_by worker history
            → (b : Bool) → entries_at (front ++ e ∷ history) (if b then place ∷ places_from (place + 1) worker history else places_from (place + 1) worker history)
            ≡ cond b (e ∷ made_by worker history) (made_by worker history)
        chosen rest true = (λ i. cons_option (nth_next front e history place is i) (rest i))
        chosen rest false = rest

no_length : {A : Type 0} (xs : List A) → length xs ≤ 0 → xs ≡ []
no_length [] h = refl
no_length (x ∷ xs) h = absurd (omega arith)

-- at the end a worker's own entries are all that bear its number
pub all_own : (history : List Entry) (w : WorkerState) → IsAmong w.own (places_of w.number w.seen) → IsPartOf history w → own_entries w ≡ made_by w.number history
all_own history w among part =
    let rest = part.seen.0 in
    let whole : w.seen ++ rest ≡ history = part.seen.1 in
    let places : places_of w.number history ≡ places_of w.number w.seen ++ places_from (1 + length w.seen) w.number rest =
    ap (places_of w.number) (sym whole) ∙ places-append 1 w.number w.seen rest in
    let fewer : length w.own ≤ length (places_of w.number w.seen) = among_length w.own (places_of w.number w.seen) among in
    let own_is : w.own ≡ places_of w.number w.seen ++ places_from (1 + length w.seen) w.number rest = part.own ∙ places in
    let none : length (places_from (1 + length w.seen) w.number rest) ≤ 0 =
    omega (arith, fewer, ap length own_is, length-append (places_of w.number w.seen) (places_from (1 + length w.seen) w.number rest)) in
    let nothing : made_by w.number rest ≡ [] = no_length (made_by w.number rest) (omega (arith, none, length-places (1 + length w.seen) w.number rest)) in
    let own : w.own ≡ places_of w.number w.seen =
    own_is ∙ ap (λ ps. places_of w.number w.seen ++ ps) (no_length (places_from (1 + length w.seen) w.number rest) none) ∙ append-nil (places_of w.number w.seen) in
    let here : own_entries w ≡ made_by w.number w.seen = ap (entries_at w.seen) own ∙ entries_at_places [] w.seen w.number 1 refl in
    here ∙ sym (ap (made_by w.number) (sym whole) ∙ filter-append (λ e. e.worker == w.number) w.seen rest ∙ ap (λ es. made_by w.number w.seen ++ es) nothing ∙ append-nil (made_by w.number w.seen))
