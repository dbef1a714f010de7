-- One call of a worker: what a store does for it is what was asked for.
use Rattle.std.proofs.Common.{◌≡◌, ℕ, zero, suc, ◌+◌, ◌-◌, ◌≤◌, nat_lt, Bool, true, false, if◌then◌else◌, List, [], ◌∷◌, ◌++◌, take, length, Option, None, Some, Result, Ok, Err, refl, sym, ap, subst, ◌∙◌, arith, length-append, append-nil}
use Rattle.tt_values.specs.declared.action.Action.{Action}
use Rattle.tt_values.specs.declared.statement.Select.{Select}
use Rattle.tt_values.specs.declared.reply.Reply.{Reply}
use Rattle.tt_values.specs.declared.checking.CheckError.{CheckError}
use Rattle.tt_values.specs.Tables.{Tables}
use Rattle.tt_values.specs.Check.{select_fault}
use Rattle.tt_values.specs.Effect.{answer_of}
use Rattle.tt_values.specs.Action.{replies_of}
use Rattle.tt_generations.specs.TwoGenerations.{is_repairing, done_of}
use Rattle.tt_db.specs.declared.limits.Limits.{Limits}
use Rattle.tt_db.specs.declared.event.Event.TheVariants as events
use Rattle.tt_db.specs.declared.event.Entry.{Entry}
use Rattle.tt_db.specs.declared.outcome.Outcome.{Outcome}
use Rattle.tt_db.specs.declared.outcome.Outcome.TheVariants as outcomes
use Rattle.tt_db.specs.declared.errors.ReadError.{ReadError}
use Rattle.tt_db.specs.declared.errors.ReadError.TheVariants as read_errors
use Rattle.tt_db.specs.State.{State, after, now_of, current_at, next_at}
use Rattle.tt_db.specs.RightAnswers.{unless_fault, unless_later, unless_idle, right_select, right_select_at, right_preview}
use Rattle.tt_records.specs.declared.record.What.{What}
use Rattle.tt_records.specs.declared.record.What.TheVariants as whats
use Rattle.tt_repair.specs.Growth.{GrewBy}
use Rattle.tt_repair.proofs.GrowthLemmas.{grew_none, grew_one}
use Rattle.tt_document.specs.declared.document.Call.{Call}
use Rattle.tt_document.specs.declared.document.Ask.{Ask}
use Rattle.tt_document.specs.declared.document.Ask.TheVariants as asks
use Rattle.tt_store.specs.declared.answer.Answer.{Answer}
use Rattle.tt_store.specs.declared.answer.Written.{Written}
use Rattle.tt_store.specs.Workers.{WorkerState, Looks, AnswersRightly}
use Rattle.tt_store.specs.Store.{Wrote}
use Rattle.tt_store.proofs.Prefixes.{prefix_length}
use Rattle.tt_workload.specs.Records.{read_in, preview_in, answer_in}
use Rattle.tt_workload.specs.History.{entries_of_ask}
use Rattle.tt_workers.specs.Calls.{IsMade, Makes, seen_after, what_of_read, what_of_preview}

pub take_front : {A : Type 0} (xs ys : List A) → take (length xs) (xs ++ ys) ≡ xs
take_front [] ys = refl
take_front (x ∷ xs) ys = ap (λ zs. x ∷ zs) (take_front xs ys)

pub take_whole : {A : Type 0} (xs : List A) → take (length xs) xs ≡ xs
take_whole [] = refl
take_whole (x ∷ xs) = ap (λ zs. x ∷ zs) (take_whole xs)

-- a longer list has the same front
pub take_longer : {A : Type 0} (n : ℕ) (xs ys : List A) → n ≤ length xs → take n (xs ++ ys) ≡ take n xs
take_longer zero xs ys le = refl
take_longer (suc n) [] ys le = absurd (omega arith)
take_longer (suc n) (x ∷ xs) ys le = ap (λ zs. x ∷ zs) (take_longer n xs ys (omega arith))

what_written : (action : Action) (S : State) (slot : ℕ) (replies : List Reply) → ◌≡◌ {A = Outcome} (outcomes.Written (now_of S + 1) (replies_of action (current_at S (now_of S)))) (outcomes.Written slot replies)
    → whats.Write slot replies ≡ answer_in S (asks.Write action)
what_written action S slot replies h = cc

-- an action that the store has carried out
pub made_action : (tables : Tables) (limits : Limits) (action : Action) (old new : WorkerState) (w : Written) → Wrote tables limits action old new w
    → IsMade limits (asks.Write action) old new (whats.Write w.slot w.replies) (w.place - 1)
made_action tables limits action old new w wrote =
    let p = wrote.published in
    let entry : Entry = record { worker = old.number; event = events.Write action } in
    let front_is : w.place - 1 ≡ length wrote.front = omega (arith, p.place_is) in
    let front : take (w.place - 1) new.seen ≡ wrote.front =
    ap (λ n. take n new.seen) front_is ∙ ap (take (length wrote.front)) p.seen ∙ take_front wrote.front (entry ∷ []) in
    let right = what_written action (after limits wrote.front) w.slot w.replies wrote.outcome in
    let seen : length new.seen ≡ w.place - 1 + 1 = omega (arith, front_is, ap length p.seen, length-append wrote.front (entry ∷ [])) in
    record {
      grew = grew_one tables limits (events.Write action) old new wrote.front w.place p;
      later = omega (arith, front_is, prefix_length old.seen wrote.front p.later);
      seen = seen;
      entry = ap (λ n. take n new.seen) (sym seen) ∙ take_whole new.seen ∙ p.seen ∙ ap (λ es. es ++ entry ∷ []) (sym front);
      right = right ∙ ap (λ (f : List Entry). answer_in (after limits f) (asks.Write action)) (sym front);
    }

-- a read, or a preview, at what the worker has then seen
pub made_reading : (limits : Limits) (ask : Ask) (old new : WorkerState) (what : What) (front : ℕ) → Looks old new → front ≡ length new.seen
    → entries_of_ask old.number ask ≡ [] → seen_after ask front ≡ front → what ≡ answer_in (after limits new.seen) ask → IsMade limits ask old new what front
made_reading limits ask old new what front looks is none reads right = record {
  grew = subst (λ es. GrewBy old new es) (sym none) (grew_none old new looks);
  later = omega (arith, is, prefix_length old.seen new.seen looks.seen);
  seen = sym (reads ∙ is);
  entry = ap (λ n. take n new.seen) reads ∙ sym (ap (λ es. take front new.seen ++ es) none ∙ append-nil (take front new.seen));
  right = right ∙ ap (λ (f : List Entry). answer_in (after limits f) ask) (sym (ap (λ n. take n new.seen) is ∙ take_whole new.seen));
}

pub made_read : (limits : Limits) (q : Select) (at : Option ℕ) (old new : WorkerState) (what : What) (front : ℕ) → Looks old new → front ≡ length new.seen
    → what ≡ read_in (after limits new.seen) q at → IsMade limits (asks.Read q at) old new what front
made_read limits q at old new what front looks is right = made_reading limits (asks.Read q at) old new what front looks is refl refl right

pub made_preview : (limits : Limits) (q : Select) (old new : WorkerState) (what : What) (front : ℕ) → Looks old new → front ≡ length new.seen
    → what ≡ preview_in (after limits new.seen) q → IsMade limits (asks.Preview q) old new what front
made_preview limits q old new what front looks is right = made_reading limits (asks.Preview q) old new what front looks is refl refl right

no_fault : (fault : Option CheckError) (right answer : Result Reply ReadError) → fault ≡ None → unless_fault fault right ≡ answer → right ≡ answer
no_fault fault right answer none h = subst (λ (f : Option CheckError). unless_fault f right ≡ answer) none h

-- what a read now is
pub right_read : (tables : Tables) (S : State) (q : Select) (old new : WorkerState) (answer : Result Answer ReadError) (what : What) → select_fault tables q ≡ None
    → AnswersRightly tables q (right_select tables (current_at S (now_of S)) q) (now_of S) old new answer → what_of_read q answer ≡ Some what → what ≡ read_in S q None
right_read tables S q old new (Ok a) what none h is =
    let reply = no_fault (select_fault tables q) (Ok (answer_of q (current_at S (now_of S)))) (Ok a.reply) none h.0 in
    let time = h.1 in
    cc
right_read tables S q old new (Err read_errors.NoReading) what none h is = absurd (cc)
right_read tables S q old new (Err read_errors.Memory) what none h is = absurd (cc)
right_read tables S q old new (Err read_errors.NotRepairing) what none h is = absurd (cc)
right_read tables S q old new (Err (read_errors.Statement fault)) what none h is = absurd (cc)
right_read tables S q old new (Err (read_errors.NoGeneration oldest newest)) what none h is = absurd (cc)
right_read tables S q old new (Err (read_errors.Later now)) what none h is =
    let bad : ◌≡◌ {A = Result Reply ReadError} (Ok (answer_of q (current_at S (now_of S)))) (Err (read_errors.Later now)) =
    no_fault (select_fault tables q) (Ok (answer_of q (current_at S (now_of S)))) (Err (read_errors.Later now)) none h in
    absurd (cc)

later_or_not : (S : State) (q : Select) (time : ℕ) (reply : Reply) → unless_later time (now_of S) (answer_of q (current_at S time)) ≡ Ok reply
    → whats.Read q time reply ≡ read_in S q (Some time)
later_or_not S q time reply h = by (nat_lt (now_of S) time) refl
  where
    by : (b : Bool) → nat_lt (now_of S) time ≡ b → whats.Read q time reply ≡ read_in S q (Some time)
    by true later =
        let bad : ◌≡◌ {A = Result Reply ReadError} (Err (read_errors.Later (now_of S))) (Ok reply) =
        subst (λ b. (if b then Err (read_errors.Later (now_of S)) else Ok (answer_of q (current_at S time))) ≡ Ok reply) later h in
        absurd (cc)
    by false later =
        let is : ◌≡◌ {A = Result Reply ReadError} (Ok (answer_of q (current_at S time))) (Ok reply) =
        subst (λ b. (if b then Err (read_errors.Later (now_of S)) else Ok (answer_of q (current_at S time))) ≡ Ok reply) later h in
        let same : answer_of q (current_at S time) ≡ reply = cc in
        rw later (ap (λ (r : Reply). whats.Read q time r) (sym same))

is_later : (S : State) (q : Select) (time now : ℕ) → unless_later time (now_of S) (answer_of q (current_at S time)) ≡ Err (read_errors.Later now)
    → whats.Later now ≡ read_in S q (Some time)
is_later S q time now h = by (nat_lt (now_of S) time) refl
  where
    by : (b : Bool) → nat_lt (now_of S) time ≡ b → whats.Later now ≡ read_in S q (Some time)
    by true later =
        let is : ◌≡◌ {A = Result Reply ReadError} (Err (read_errors.Later (now_of S))) (Err (read_errors.Later now)) =
        subst (λ b. (if b then Err (read_errors.Later (now_of S)) else Ok (answer_of q (current_at S time))) ≡ Err (read_errors.Later now)) later h in
        let same : now_of S ≡ now = cc in
        rw later (ap (λ (n : ℕ). whats.Later n) (sym same))
    by false later =
        let bad : ◌≡◌ {A = Result Reply ReadError} (Ok (answer_of q (current_at S time))) (Err (read_errors.Later now)) =
        subst (λ b. (if b then Err (read_errors.Later (now_of S)) else Ok (answer_of q (current_at S time))) ≡ Err (read_errors.Later now)) later h in
        absurd (cc)

-- what a read at a time is
pub right_read_at : (tables : Tables) (S : State) (q : Select) (time : ℕ) (old new : WorkerState) (answer : Result Answer ReadError) (what : What) → select_fault tables q ≡ None
    → AnswersRightly tables q (right_select_at tables S q time) time old new answer → what_of_read q answer ≡ Some what → what ≡ read_in S q (Some time)
right_read_at tables S q time old new (Ok a) what none h is =
    let reply = no_fault (select_fault tables q) _ (Ok a.reply) none h.0 in
    let read = later_or_not S q time a.reply reply in
    let same : whats.Read q a.time a.reply ≡ what = cc in
    sym same ∙ ap (λ (t : ℕ). whats.Read q t a.reply) h.1 ∙ read
right_read_at tables S q time old new (Err read_errors.NoReading) what none h is = absurd (cc)
right_read_at tables S q time old new (Err read_errors.Memory) what none h is = absurd (cc)
right_read_at tables S q time old new (Err read_errors.NotRepairing) what none h is = absurd (cc)
right_read_at tables S q time old new (Err (read_errors.Statement fault)) what none h is = absurd (cc)
right_read_at tables S q time old new (Err (read_errors.NoGeneration oldest newest)) what none h is = absurd (cc)
right_read_at tables S q time old new (Err (read_errors.Later now)) what none h is =
    let refused = no_fault (select_fault tables q) _ (Err (read_errors.Later now)) none h in
    let read = is_later S q time now refused in
    let same : whats.Later now ≡ what = cc in
    sym same ∙ read

previewed : (S : State) (q : Select) (reply : Reply) → unless_idle S.phase (Ok (answer_of q (next_at S (done_of S.phase)))) ≡ Ok reply
    → whats.Preview (done_of S.phase) reply ≡ preview_in S q
previewed S q reply h = by (is_repairing S.phase) refl
  where
    by : (b : Bool) → is_repairing S.phase ≡ b → whats.Preview (done_of S.phase) reply ≡ preview_in S q
    by true under_way =
        let is : ◌≡◌ {A = Result Reply ReadError} (Ok (answer_of q (next_at S (done_of S.phase)))) (Ok reply) =
        subst (λ b. (if b then Ok (answer_of q (next_at S (done_of S.phase))) else Err read_errors.NotRepairing) ≡ Ok reply) under_way h in
        let same : answer_of q (next_at S (done_of S.phase)) ≡ reply = cc in
        rw under_way (ap (λ (r : Reply). whats.Preview (done_of S.phase) r) (sym same))
    by false under_way =
        let bad : ◌≡◌ {A = Result Reply ReadError} (Err read_errors.NotRepairing) (Ok reply) =
        subst (λ b. (if b then Ok (answer_of q (next_at S (done_of S.phase))) else Err read_errors.NotRepairing) ≡ Ok reply) under_way h in
        absurd (cc)

is_idle : (S : State) (q : Select) → unless_idle S.phase (Ok (answer_of q (next_at S (done_of S.phase)))) ≡ Err read_errors.NotRepairing → whats.NotRepairing ≡ preview_in S q
is_idle S q h = by (is_repairing S.phase) refl
  where
    by : (b : Bool) → is_repairing S.phase ≡ b → whats.NotRepairing ≡ preview_in S q
    by true under_way =
        let bad : ◌≡◌ {A = Result Reply ReadError} (Ok (answer_of q (next_at S (done_of S.phase)))) (Err read_errors.NotRepairing) =
        subst (λ b. (if b then Ok (answer_of q (next_at S (done_of S.phase))) else Err read_errors.NotRepairing) ≡ Err read_errors.NotRepairing) under_way h in
        absurd (cc)
    by false under_way = rw under_way refl

-- what a preview is
pub right_preview_in : (tables : Tables) (S : State) (q : Select) (old new : WorkerState) (answer : Result Answer ReadError) (what : What) → select_fault tables q ≡ None
    → AnswersRightly tables q (right_preview tables S q) (done_of S.phase) old new answer → what_of_preview answer ≡ Some what → what ≡ preview_in S q
right_preview_in tables S q old new (Ok a) what none h is =
    let reply = no_fault (select_fault tables q) _ (Ok a.reply) none h.0 in
    let shown = previewed S q a.reply reply in
    let same : whats.Preview a.time a.reply ≡ what = cc in
    sym same ∙ ap (λ (t : ℕ). whats.Preview t a.reply) h.1 ∙ shown
right_preview_in tables S q old new (Err read_errors.NoReading) what none h is = absurd (cc)
right_preview_in tables S q old new (Err read_errors.Memory) what none h is = absurd (cc)
right_preview_in tables S q old new (Err read_errors.NotRepairing) what none h is =
    let refused = no_fault (select_fault tables q) _ (Err read_errors.NotRepairing) none h in
    let idle = is_idle S q refused in
    let same : whats.NotRepairing ≡ what = cc in
    sym same ∙ idle
right_preview_in tables S q old new (Err (read_errors.Statement fault)) what none h is = absurd (cc)
right_preview_in tables S q old new (Err (read_errors.NoGeneration oldest newest)) what none h is = absurd (cc)
right_preview_in tables S q old new (Err (read_errors.Later now)) what none h is = absurd (cc)

-- a call of the worker that bears its number, and its record
pub makes_call : (limits : Limits) (number : ℕ) (call : Call) (old new : WorkerState) (what : What) (front : ℕ) → call.worker ≡ old.number
    → IsMade limits call.ask old new what front
    → Makes limits number call old new (record { answer = record { call = number; worker = call.worker; what = what }; front = front })
makes_call limits number call old new what front own made = record {
  grew = subst (λ n. GrewBy old new (entries_of_ask n call.ask)) (sym own) made.grew;
  later = made.later;
  seen = made.seen;
  entry = made.entry ∙ ap (λ n. take front new.seen ++ entries_of_ask n call.ask) (sym own);
  right = ap (λ (w : What). record { call = number; worker = call.worker; what = w }) made.right;
}
