-- The calls of a worker: their answers, the fronts at which these are right, and the entries that they add to the history.
use Rattle.std.specs.Prelude.{◌≡◌, ℕ, ◌+◌, ◌≤◌, ◌==◌, List, [], ◌∷◌, ◌++◌, length, take, filter, MatchBool, Option, None, Some, Result, Ok, Err, IfOk, IfErr, ◌<◌, slice_index_or}
use Rattle.tt_values.specs.declared.statement.Select.{Select}
use Rattle.tt_db.specs.declared.limits.Limits.{Limits}
use Rattle.tt_db.specs.declared.event.Entry.{Entry}
use Rattle.tt_db.specs.declared.errors.ReadError.{ReadError}
use Rattle.tt_db.specs.declared.errors.ReadError.TheVariants as read_errors
use Rattle.tt_db.specs.State.{after}
use Rattle.tt_records.specs.declared.record.Record.{Record}
use Rattle.tt_records.specs.declared.record.What.{What}
use Rattle.tt_records.specs.declared.record.What.TheVariants as whats
use Rattle.tt_repair.specs.Growth.{GrewBy}
use Rattle.tt_document.specs.declared.document.Call.{Call}
use Rattle.tt_document.specs.declared.document.Ask.{Ask}
use Rattle.tt_document.specs.declared.document.Ask.TheVariants as asks
use Rattle.tt_store.specs.declared.answer.Answer.{Answer}
use Rattle.tt_store.specs.Workers.{WorkerState}
use Rattle.tt_workload.specs.Records.{answer_in, record_in}
use Rattle.tt_workload.specs.History.{entries_of_ask, entries_of, history_of}
use Rattle.tt_workload.specs.declared.run_fault.RunFault.{RunFault}
use Rattle.tt_workers.specs.Faults.{IsStoreFault}
use Rattle.tt_workers.specs.declared.answered_call.AnsweredCall.{AnsweredCall}

-- the entries of a history that bear a worker's number
abbrev pub made_by : ℕ → List Entry → List Entry
made_by worker history = filter (λ e. e.worker == worker) history

-- how much a worker has seen after a call that is answered at a front of this length: an action adds an entry
abbrev pub seen_after : Ask → ℕ → ℕ
seen_after (asks.Write action) front = front + 1
seen_after (asks.Read select at) front = front
seen_after (asks.Preview select) front = front

-- the record of the call of a number that is answered at the front of this length
abbrev pub record_at : Limits → List Entry → ℕ → Call → ℕ → Record
record_at limits history number call front = record_in number (after limits (take front history)) call

-- a worker has made what it was asked for: the answer is right at a front of this length, which begins with what it had seen. It has then
-- seen that front, followed by the entry of an action
pub record IsMade (limits : Limits) (ask : Ask) (old new : WorkerState) (what : What) (front : ℕ) : Type 0 where
  pub grew : GrewBy old new (entries_of_ask old.number ask)
  pub later : length old.seen ≤ front
  pub seen : length new.seen ≡ seen_after ask front
  pub entry : take (seen_after ask front) new.seen ≡ take front new.seen ++ entries_of_ask old.number ask
  pub right : what ≡ answer_in (after limits (take front new.seen)) ask

-- the same, of the call of a number, as it is recorded
pub record Makes (limits : Limits) (number : ℕ) (call : Call) (old new : WorkerState) (a : AnsweredCall) : Type 0 where
  pub grew : GrewBy old new (entries_of call)
  pub later : length old.seen ≤ a.front
  pub seen : length new.seen ≡ seen_after call.ask a.front
  pub entry : take (seen_after call.ask a.front) new.seen ≡ take a.front new.seen ++ entries_of call
  pub right : a.answer ≡ record_at limits new.seen number call a.front

-- what a select is recorded as, where it was answered or refused as later
abbrev pub what_of_read : Select → Result Answer ReadError → Option What
what_of_read q (Ok answer) = Some (whats.Read q answer.time answer.reply)
what_of_read q (Err (read_errors.Later now)) = Some (whats.Later now)
what_of_read q (Err error) = None

-- what a preview is recorded as, where it was answered or refused as not repairing
abbrev pub what_of_preview : Result Answer ReadError → Option What
what_of_preview (Ok answer) = Some (whats.Preview answer.time answer.reply)
what_of_preview (Err read_errors.NotRepairing) = Some whats.NotRepairing
what_of_preview (Err error) = None

-- an answer to the call of a number is right at a front of a history. The front isn't shorter than this, and with the entry of an
-- action, which follows it, it is within the history
pub record IsRight (limits : Limits) (history : List Entry) (number : ℕ) (call : Call) (from : ℕ) (a : AnsweredCall) : Type 0 where
  pub later : from ≤ a.front
  pub within : seen_after call.ask a.front ≤ length history
  pub entry : take (seen_after call.ask a.front) history ≡ take a.front history ++ entries_of call
  pub right : a.answer ≡ record_at limits history number call a.front

-- the answers of a worker to its calls among these, numbered from this number on: each is right at a front that isn't shorter than what
-- the worker had seen before. It had seen `from` entries at first, and `to` in the end
abbrev pub AreAnswers : Limits → List Entry → ℕ → ℕ → ℕ → List Call → List AnsweredCall → ℕ → Type 0
AreAnswers limits history worker number from [] [] to = from ≤ to
AreAnswers limits history worker number from [] (a ∷ answers) to = ⊥
AreAnswers limits history worker number from (c ∷ calls) [] to =
    MatchBool (c.worker == worker) ⊥ (AreAnswers limits history worker (number + 1) from calls [] to)
AreAnswers limits history worker number from (c ∷ calls) (a ∷ answers) to =
    MatchBool (c.worker == worker)
    (IsRight limits history number c from a × AreAnswers limits history worker (number + 1) (seen_after c.ask a.front) calls answers to)
    (AreAnswers limits history worker (number + 1) from calls (a ∷ answers) to)

-- a worker has made its calls among these, numbered from this number on
pub record Works (limits : Limits) (number : ℕ) (calls : List Call) (old new : WorkerState) (answers : List AnsweredCall) : Type 0 where
  pub grew : GrewBy old new (made_by old.number (history_of calls))
  pub answered : AreAnswers limits new.seen old.number number (length old.seen) calls answers (length new.seen)

-- a worker makes a call, if it is one of its own, and keeps the answer
abbrev pub MakesIfOwn : Limits → ℕ → Call → WorkerState → WorkerState → List AnsweredCall → List AnsweredCall → Type 0
MakesIfOwn limits number call old new before now =
    MatchBool (call.worker == old.number)
    ((a : AnsweredCall) × Makes limits number call old new a × (now ≡ before ++ a ∷ []))
    ((new ≡ old) × (now ≡ before))

-- each of the workers has made its own calls among these
abbrev pub AllWork : Limits → ℕ → List Call → List WorkerState → List WorkerState → List (List AnsweredCall) → Type 0
AllWork limits number calls [] [] [] = Unit {0}
AllWork limits number calls (old ∷ olds) (new ∷ news) (answers ∷ queues) =
    Works limits number calls old new answers × AllWork limits number calls olds news queues
AllWork limits number calls olds news queues = ⊥

-- this holds of each worker and the result of its thread, or the thread has ended in a fault
abbrev pub AllEnd : {Left : Type 0} → (WorkerState → Left → Type 0) → List WorkerState → List (Result Left RunFault) → Type 0
AllEnd Holds [] [] = Unit {0}
AllEnd Holds (old ∷ olds) (result ∷ results) = IfOk result (Holds old) × AllEnd Holds olds results
AllEnd Holds olds results = ⊥

-- the same, stated by position
abbrev pub EachEnds : {Left : Type 0} → (WorkerState → Left → Type 0) → List WorkerState → List (Result Left RunFault) → Type 0
EachEnds {Left} Holds olds results =
    (i : ℕ) (d : Result Left RunFault) (w : WorkerState) → i < length olds → IfOk (slice_index_or results i d) (Holds (slice_index_or olds i w))

-- each of this many threads that ends in a fault ends in a fault of the store or out of memory
abbrev pub EachFails : {Left : Type 0} → ℕ → List (Result Left RunFault) → Type 0
EachFails {Left} count results = (i : ℕ) (d : Result Left RunFault) → i < count → IfErr (slice_index_or results i d) IsStoreFault
