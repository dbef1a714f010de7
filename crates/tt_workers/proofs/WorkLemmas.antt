-- The calls of one worker, one after another.
use Rattle.std.proofs.Common.{◌≡◌, ℕ, zero, suc, drop, ◌+◌, ◌≤◌, ◌==◌, Bool, true, false, cond, MatchBool, List, [], ◌∷◌, ◌++◌, take, length, refl, sym, ap, subst, ◌∙◌, arith, append_assoc}
use Rattle.std.proofs.lemmas.List.{append-nil}
use Rattle.std.proofs.lemmas.List.Elements.{filter-append}
use mathlib.Core.List.{IsPrefix}
use Rattle.tt_db.specs.declared.limits.Limits.{Limits}
use Rattle.tt_db.specs.declared.event.Entry.{Entry}
use Rattle.tt_db.specs.State.{after}
use Rattle.tt_document.specs.declared.document.Call.{Call}
use Rattle.tt_document.specs.declared.document.Ask.{Ask}
use Rattle.tt_document.specs.declared.document.Ask.TheVariants as asks
use Rattle.tt_repair.specs.Growth.{GrewBy}
use Rattle.tt_repair.proofs.GrowthLemmas.{grew_then}
use Rattle.tt_store.specs.Workers.{WorkerState, own_entries}
use Rattle.tt_store.proofs.Prefixes.{prefix_self, prefix_length}
use Rattle.tt_workload.specs.Records.{record_in}
use Rattle.tt_workload.specs.History.{entries_of, history_of}
use Rattle.tt_workers.specs.declared.answered_call.AnsweredCall.{AnsweredCall}
use Rattle.tt_workers.specs.Calls.{made_by, seen_after, Makes, IsRight, AreAnswers, Works, MakesIfOwn}
use Rattle.tt_workers.proofs.CallLemmas.{take_longer}

pub seen_after_front : (ask : Ask) (front : ℕ) → front ≤ seen_after ask front
seen_after_front (asks.Write action) front = omega arith
seen_after_front (asks.Read q at) front = omega arith
seen_after_front (asks.Preview q) front = omega arith

-- what was right at a front of a history is right at that front of a longer one
pub right_longer : (limits : Limits) (history longer : List Entry) (number : ℕ) (call : Call) (from : ℕ) (a : AnsweredCall) → IsPrefix history longer
    → IsRight limits history number call from a → IsRight limits longer number call from a
right_longer limits history longer number call from a p h =
    let within : a.front ≤ length history = omega (arith, seen_after_front call.ask a.front, h.within) in
    let same : take a.front longer ≡ take a.front history = ap (take a.front) (sym p.1) ∙ take_longer a.front history p.0 within in
    let all : take (seen_after call.ask a.front) longer ≡ take (seen_after call.ask a.front) history = ap (take (seen_after call.ask a.front)) (sym p.1) ∙ take_longer (seen_after call.ask a.front) history p.0 h.within in
    record {
      later = h.later;
      within = omega (arith, h.within, prefix_length history longer p);
      entry = all ∙ h.entry ∙ ap (λ es. es ++ entries_of call) (sym same);
      right = h.right ∙ ap (λ (f : List Entry). record_in number (after limits f) call) (sym same);
    }

pub answers_longer : (limits : Limits) (history longer : List Entry) (worker number from : ℕ) (calls : List Call) (answers : List AnsweredCall) (to : ℕ) → IsPrefix history longer
    → AreAnswers limits history worker number from calls answers to → AreAnswers limits longer worker number from calls answers to
answers_longer limits history longer worker number from [] [] to p h = h
answers_longer limits history longer worker number from [] (a ∷ answers) to p h = absurd h
answers_longer limits history longer worker number from (c ∷ calls) [] to p h = by (λ k. answers_longer limits history longer worker (number + 1) from calls [] to p k) (c.worker == worker) h
  where
    by : (AreAnswers limits history worker (number + 1) from calls [] to → AreAnswers limits longer worker (number + 1) from calls [] to)
        → (b : Bool) → MatchBool b ⊥ (AreAnswers limits history worker (number + 1) from calls [] to) → MatchBool b ⊥ (AreAnswers limits longer worker (number + 1) from calls [] to)
    by rest true h = absurd h
    by rest false h = rest h
answers_longer limits history longer worker number from (c ∷ calls) (a ∷ answers) to p h =
    by (λ k. answers_longer limits history longer worker (number + 1) (seen_after c.ask a.front) calls answers to p k) (λ k. answers_longer limits history longer worker (number + 1) from calls (a ∷ answers) to p k)
    (c.worker == worker) h
  where
    by : (AreAnswers limits history worker (number + 1) (seen_after c.ask a.front) calls answers to → AreAnswers limits longer worker (number + 1) (seen_after c.ask a.front) calls answers to)
        → (AreAnswers limits history worker (number + 1) from calls (a ∷ answers) to → AreAnswers limits longer worker (number + 1) from calls (a ∷ answers) to)
        → (b : Bool)
        → MatchBool b (IsRight limits history number c from a × AreAnswers limits history worker (number + 1) (seen_after c.ask a.front) calls answers to) (AreAnswers limits history worker (number + 1) from calls (a ∷ answers) to)
        → MatchBool b (IsRight limits longer number c from a × AreAnswers limits longer worker (number + 1) (seen_after c.ask a.front) calls answers to) (AreAnswers limits longer worker (number + 1) from calls (a ∷ answers) to)
    by mine others true h = (right_longer limits history longer number c from a p h.0, mine h.1)
    by mine others false h = others h

-- a worker may have seen less at first
pub answers_lower : (limits : Limits) (history : List Entry) (worker number low from : ℕ) (calls : List Call) (answers : List AnsweredCall) (to : ℕ) → low ≤ from
    → AreAnswers limits history worker number from calls answers to → AreAnswers limits history worker number low calls answers to
answers_lower limits history worker number low from [] [] to le h = omega (arith, h)
answers_lower limits history worker number low from [] (a ∷ answers) to le h = absurd h
answers_lower limits history worker number low from (c ∷ calls) [] to le h = by (λ k. answers_lower limits history worker (number + 1) low from calls [] to le k) (c.worker == worker) h
  where
    by : (AreAnswers limits history worker (number + 1) from calls [] to → AreAnswers limits history worker (number + 1) low calls [] to)
        → (b : Bool) → MatchBool b ⊥ (AreAnswers limits history worker (number + 1) from calls [] to) → MatchBool b ⊥ (AreAnswers limits history worker (number + 1) low calls [] to)
    by rest true h = absurd h
    by rest false h = rest h
answers_lower limits history worker number low from (c ∷ calls) (a ∷ answers) to le h =
    by (λ k. answers_lower limits history worker (number + 1) low from calls (a ∷ answers) to le k) (c.worker == worker) h
  where
    by : (AreAnswers limits history worker (number + 1) from calls (a ∷ answers) to → AreAnswers limits history worker (number + 1) low calls (a ∷ answers) to)
        → (b : Bool)
        → MatchBool b (IsRight limits history number c from a × AreAnswers limits history worker (number + 1) (seen_after c.ask a.front) calls answers to) (AreAnswers limits history worker (number + 1) from calls (a ∷ answers) to)
        → MatchBool b (IsRight limits history number c low a × AreAnswers limits history worker (number + 1) (seen_after c.ask a.front) calls answers to) (AreAnswers limits history worker (number + 1) low calls (a ∷ answers) to)
    by others true h = (record { later = omega (arith, h.0.later, le); within = h.0.within; entry = h.0.entry; right = h.0.right }, h.1)
    by others false h = others h

-- the entries of a call are its worker's
own_call : (worker : ℕ) (call : Call) (b : Bool) → (call.worker == worker) ≡ b → made_by worker (entries_of call) ≡ cond b (entries_of call) []
own_call worker call b is = by call.ask
  where
    by : (ask : Ask) → made_by worker (Rattle.tt_workload.specs.History.entries_of_ask call.worker ask) ≡ cond b (Rattle.tt_workload.specs.History.entries_of_ask call.worker ask) []
    by (asks.Write action) = one b is
      where
        one : (t : Bool) → (call.worker == worker) ≡ t → made_by worker (Rattle.tt_workload.specs.History.entries_of_ask call.worker (asks.Write action)) ≡ cond t (Rattle.tt_workload.specs.History.entries_of_ask call.worker (asks.Write action)) []
        one true e = rw e refl
        one false e = rw e refl
    by (asks.Read q at) = none b
      where
        none : (t : Bool) → ◌≡◌ {A = List Entry} [] (cond t [] [])
        none true = refl
        none false = refl
    by (asks.Preview q) = none b
      where
        none : (t : Bool) → ◌≡◌ {A = List Entry} [] (cond t [] [])
        none true = refl
        none false = refl

-- no call, and no answer
pub works_none : (limits : Limits) (number : ℕ) (w : WorkerState) → Works limits number [] w w []
works_none limits number w = record {
  grew = record { number = refl; seen = prefix_self w.seen; entries = sym (append-nil (own_entries w)) };
  answered = omega arith;
}

-- one call before others
pub works_call : (limits : Limits) (number : ℕ) (call : Call) (calls : List Call) (old middle new : WorkerState) (before now answers : List AnsweredCall)
    → MakesIfOwn limits number call old middle before now → Works limits (number + 1) calls middle new answers
    → (more : List AnsweredCall) × Works limits number (call ∷ calls) old new more × (now ++ answers ≡ before ++ more)
works_call limits number call calls old middle new before now answers goes works = by (call.worker == old.number) refl goes
  where
    by : (b : Bool) → (call.worker == old.number) ≡ b → MatchBool b ((a : AnsweredCall) × Makes limits number call old middle a × (now ≡ before ++ a ∷ [])) ((middle ≡ old) × (now ≡ before))
        → (more : List AnsweredCall) × Works limits number (call ∷ calls) old new more × (now ++ answers ≡ before ++ more)
    by true own g =
        let a = g.0 in
        let made = g.1 in
        let same = made.grew.number in
        let rest : GrewBy middle new (made_by old.number (history_of calls)) = subst (λ n. GrewBy middle new (made_by n (history_of calls))) same works.grew in
        let all : made_by old.number (entries_of call ++ history_of calls) ≡ entries_of call ++ made_by old.number (history_of calls) =
        filter-append (λ e. e.worker == old.number) (entries_of call) (history_of calls) ∙ ap (λ es. es ++ made_by old.number (history_of calls)) (own_call old.number call true own) in
        let answered : AreAnswers limits new.seen old.number (number + 1) (seen_after call.ask a.front) calls answers (length new.seen) =
        subst (λ n. AreAnswers limits new.seen old.number (number + 1) n calls answers (length new.seen)) made.seen
        (subst (λ n. AreAnswers limits new.seen n (number + 1) (length middle.seen) calls answers (length new.seen)) same works.answered) in
        let here : IsRight limits middle.seen number call (length old.seen) a = record { later = made.later; within = omega (arith, made.seen); entry = made.entry; right = made.right } in
        let right = right_longer limits middle.seen new.seen number call (length old.seen) a works.grew.seen here in (
          a ∷ answers,
          record {
            grew = subst (λ es. GrewBy old new es) (sym all) (grew_then old middle new (entries_of call) (made_by old.number (history_of calls)) made.grew rest);
            answered = subst (λ b. MatchBool b (IsRight limits new.seen number call (length old.seen) a × AreAnswers limits new.seen old.number (number + 1) (seen_after call.ask a.front) calls answers (length new.seen)) (AreAnswers limits new.seen old.number (number + 1) (length old.seen) calls (a ∷ answers) (length new.seen))) (sym own) (right, answered);
          },
          ap (λ xs. xs ++ answers) g.2 ∙ append_assoc before (a ∷ []) answers,
        )
    by false own g =
        let works' : Works limits (number + 1) calls old new answers = subst (λ (w : WorkerState). Works limits (number + 1) calls w new answers) g.0 works in
        let all : made_by old.number (entries_of call ++ history_of calls) ≡ made_by old.number (history_of calls) =
        filter-append (λ e. e.worker == old.number) (entries_of call) (history_of calls) ∙ ap (λ es. es ++ made_by old.number (history_of calls)) (own_call old.number call false own) in (
          answers,
          record {
            grew = subst (λ es. GrewBy old new es) (sym all) works'.grew;
            answered = passes answers works'.answered;
          },
          ap (λ xs. xs ++ answers) g.1,
        )
      where
        passes : (others : List AnsweredCall) → AreAnswers limits new.seen old.number (number + 1) (length old.seen) calls others (length new.seen) → AreAnswers limits new.seen old.number number (length old.seen) (call ∷ calls) others (length new.seen)
        passes [] h = subst (λ b. MatchBool b ⊥ (AreAnswers limits new.seen old.number (number + 1) (length old.seen) calls [] (length new.seen))) (sym own) h
        passes (a ∷ others) h = subst (λ b. MatchBool b (IsRight limits new.seen number call (length old.seen) a × AreAnswers limits new.seen old.number (number + 1) (seen_after call.ask a.front) calls others (length new.seen)) (AreAnswers limits new.seen old.number (number + 1) (length old.seen) calls (a ∷ others) (length new.seen))) (sym own) h

-- after some calls of a list the answers are these, and whatever the worker makes of the rest is what it makes of all
abbrev pub Continues : Limits → ℕ → List Call → WorkerState → List AnsweredCall → ℕ → List Call → WorkerState → Type 0
Continues limits first calls old answers number rest now =
    (new : WorkerState) (more : List AnsweredCall) → Works limits number rest now new more → Works limits first calls old new (answers ++ more)

pub continues_first : (limits : Limits) (first : ℕ) (calls : List Call) (old : WorkerState) → Continues limits first calls old [] first calls old
continues_first limits first calls old new more h = h

pub continues_call : (limits : Limits) (first : ℕ) (calls : List Call) (old : WorkerState) (before answers : List AnsweredCall) (number : ℕ) (call : Call) (rest : List Call) (now next : WorkerState)
    → Continues limits first calls old before number (call ∷ rest) now → MakesIfOwn limits number call now next before answers
    → Continues limits first calls old answers (number + 1) rest next
continues_call limits first calls old before answers number call rest now next k goes new more works =
    let one = works_call limits number call rest now next new before answers more goes works in
    subst (λ others. Works limits first calls old new others) (sym one.2) (k new one.0 one.1)

pub continues_last : (limits : Limits) (first : ℕ) (calls : List Call) (old : WorkerState) (answers : List AnsweredCall) (number : ℕ) (now : WorkerState)
    → Continues limits first calls old answers number [] now → Works limits first calls old now answers
continues_last limits first calls old answers number now k =
    subst (λ others. Works limits first calls old now others) (append-nil answers) (k now [] (works_none limits number now))

pub drop_end : {A : Type 0} (n : ℕ) (xs : List A) → length xs ≤ n → drop n xs ≡ []
drop_end zero [] h = refl
drop_end zero (x ∷ xs) h = absurd (omega arith)
drop_end (suc n) [] h = refl
drop_end (suc n) (x ∷ xs) h = drop_end n xs (omega arith)
