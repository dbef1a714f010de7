-- The lists of answers that workers have left: one after another is taken in the order of the calls.
use Rattle.std.proofs.Common.{◌≡◌, ℕ, ◌-◌, ◌≤◌, List, [], ◌∷◌, ◌++◌, drop, get_or, map, set, length, slice_get, option_map, Some, refl, sym, ap, subst, ◌∙◌, arith}
use Rattle.std.proofs.lemmas.List.{append_assoc, append-nil, map-append, map-set, length-map, length-set}
use Rattle.std.proofs.lemmas.Option.{slice_get-map, slice_get_read}
use Rattle.tt_db.specs.declared.limits.Limits.{Limits}
use Rattle.tt_document.specs.declared.document.Call.{Call}
use Rattle.tt_store.specs.Workers.{WorkerState}
use Rattle.tt_workers.specs.declared.answered_call.AnsweredCall.{AnsweredCall}
use Rattle.tt_workers.specs.declared.merging.Records.{Records}
use Rattle.tt_workers.specs.Calls.{AllWork}
use Rattle.tt_workers.specs.Merging.{AreOf, first_of, rest_of, without_first, merged_answers}
use Rattle.tt_workers.specs.Running.{MadeCalls}
use Rattle.tt_workers.proofs.MadeLemmas.{length-queues}

-- the first answer of a worker's queue is taken
pub queues_popped : {Q : Type 0} (f : Q → List AnsweredCall) (queues : List Q) (worker : ℕ) (old new : Q) → 1 ≤ worker → worker ≤ length queues → old ≡ get_or queues (worker - 1) old
    → f new ≡ drop 1 (f old) → map f (set queues (worker - 1) new) ≡ without_first (map f queues) worker
queues_popped f queues worker old new some within is popped =
    let queue : slice_get queues (worker - 1) ≡ Some old = slice_get_read queues (length queues) (worker - 1) old refl (omega (arith, some, within)) is in
    let list : slice_get (map f queues) (worker - 1) ≡ Some (f old) = slice_get-map f queues (worker - 1) ∙ ap (option_map f) queue in
    map-set f queues (worker - 1) new ∙ ap (set (map f queues) (worker - 1)) (popped ∙ ap rest_of (sym list))

-- there are as many queues as before
pub as_many_queues : {Q : Type 0} (f : Q → List AnsweredCall) (olds news : List Q) (worker : ℕ) → map f news ≡ without_first (map f olds) worker → length news ≡ length olds
as_many_queues f olds news worker is =
    sym (length-map news f) ∙ ap length is ∙ length-set (map f olds) (worker - 1) (rest_of (slice_get (map f olds) (worker - 1))) ∙ length-map olds f

-- once the answer to a call is pushed, those to the calls that are left make up the whole
pub merged_next : {X : Type 0} (g : AnsweredCall → X) (before now whole : List X) (left rest : List Call) (call : Call) (lists others : List (List AnsweredCall)) (next : List AnsweredCall)
    → before ++ map g (merged_answers left lists) ≡ whole → left ≡ call ∷ rest → now ≡ before ++ map g next → next ≡ first_of (slice_get lists (call.worker - 1))
    → others ≡ without_first lists call.worker → now ++ map g (merged_answers rest others) ≡ whole
merged_next g before now whole left rest call lists others next all is kept first other =
    let here : now ++ map g (merged_answers rest others) ≡ (before ++ map g next) ++ map g (merged_answers rest others) = ap (λ xs. xs ++ map g (merged_answers rest others)) kept in
    let joined : (before ++ map g next) ++ map g (merged_answers rest others) ≡ before ++ map g (next ++ merged_answers rest others) =
    append_assoc before (map g next) (map g (merged_answers rest others)) ∙ ap (λ xs. before ++ xs) (sym (map-append g next (merged_answers rest others))) in
    let both : next ++ merged_answers rest others ≡ merged_answers left lists = (λ i. first i ++ merged_answers rest (other i)) ∙ ap (λ calls. merged_answers calls lists) (sym is) in
    here ∙ joined ∙ ap (λ answers. before ++ map g answers) both ∙ all

-- no call is left
pub merged_end : {X : Type 0} (g : AnsweredCall → X) (before whole : List X) (left : List Call) (lists : List (List AnsweredCall)) → before ++ map g (merged_answers left lists) ≡ whole → left ≡ []
    → before ≡ whole
merged_end g before whole left lists all none = sym (append-nil before) ∙ ap (λ calls. before ++ map g (merged_answers calls lists)) (sym none) ∙ all

-- the next item of the rest is kept
pub kept_next : {R X : Type 0} (f : R → X) (before now whole : List X) (all rest : List R) (r : R) → before ++ map f all ≡ whole → all ≡ r ∷ rest → now ≡ before ++ f r ∷ []
    → now ++ map f rest ≡ whole
kept_next f before now whole all rest r so_far is kept =
    ap (λ xs. xs ++ map f rest) kept ∙ append_assoc before (f r ∷ []) (map f rest) ∙ ap (λ rs. before ++ map f rs) (sym is) ∙ so_far

-- a list to which one item was pushed, seen as another
pub map_push : {A B : Type 0} (f : A → B) (xs ys : List A) (x : A) → ys ≡ xs ++ x ∷ [] → map f ys ≡ map f xs ++ f x ∷ []
map_push f xs ys x is = ap (map f) is ∙ map-append f xs (x ∷ [])

-- nothing is left
pub kept_end : {R X : Type 0} (f : R → X) (before whole : List X) (all : List R) → before ++ map f all ≡ whole → all ≡ [] → before ≡ whole
kept_end f before whole all so_far none = sym (append-nil before) ∙ ap (λ rs. before ++ map f rs) (sym none) ∙ so_far

-- ---- the calls of a phase

-- the calls are of as many workers as there are queues
pub queues_of_all : {Q : Type 0} (f : Q → List AnsweredCall) (limits : Limits) (number : ℕ) (calls : List Call) (olds news : List WorkerState) (lists : List (List AnsweredCall)) (queues : List Q)
    → AllWork limits number calls olds news lists → map f queues ≡ lists → AreOf (length olds) calls → AreOf (length queues) calls
queues_of_all f limits number calls olds news lists queues work is of =
    let many : length queues ≡ length olds = sym (length-map queues f) ∙ ap length is ∙ length-queues limits number calls olds news lists work in
    subst (λ count. AreOf count calls) (sym many) of

-- the records of all answers are pushed
pub made_calls : {Q : Type 0} (f : Q → List AnsweredCall) (limits : Limits) (number : ℕ) (calls : List Call) (olds news left : List WorkerState) (lists : List (List AnsweredCall)) (queues : List Q) (before now : Records)
    → AllWork limits number calls olds left lists → news ≡ left → map f queues ≡ lists → now.records.items ≡ before.records.items ++ map (λ a. a.answer) (merged_answers calls (map f queues))
    → now.fronts.items ≡ before.fronts.items ++ map (λ a. a.front) (merged_answers calls (map f queues)) → MadeCalls limits number calls olds news before now
made_calls f limits number calls olds news left lists queues before now work same is records fronts = record {
  queues = map f queues;
  work = subst (λ workers. AllWork limits number calls olds workers (map f queues)) (sym same) (subst (λ answers. AllWork limits number calls olds left answers) (sym is) work);
  records = records;
  fronts = fronts;
}
