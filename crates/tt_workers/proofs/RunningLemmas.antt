-- A whole run: what its workers leave is a report of the document.
use Rattle.std.proofs.Common.{◌≡◌, ℕ, zero, suc, ◌+◌, ◌-◌, ◌<◌, ◌≤◌, List, [], ◌∷◌, ◌++◌, map, length, slice_get, All, Option, None, Some, IfSome, Result, Ok, Err, IfOk, refl, sym, ap, subst, ◌∙◌, arith, append_assoc, length-append}
use Rattle.std.specs.List.{AllByRecursion as Each}
use Rattle.std.proofs.lemmas.List.{append-nil, length-map, map-append}
use Rattle.std.proofs.lemmas.List.Elements.{recursion_from_All}
use mathlib.Core.List.{IsPrefix}
use Rattle.tt_values.specs.Tables.{Tables}
use Rattle.tt_repair_laws.specs.declared.edit.Edit.{Edit}
use Rattle.tt_repair_laws.specs.declared.edit.Edit.TheVariants.{Cancel, Replace}
use Rattle.tt_db.specs.declared.limits.Limits.{Limits}
use Rattle.tt_db.specs.declared.event.Event.TheVariants as events
use Rattle.tt_db.specs.declared.event.Entry.{Entry}
use Rattle.tt_db.specs.declared.outcome.Outcome.{Outcome}
use Rattle.tt_db.specs.declared.outcome.Outcome.TheVariants.{Switched}
use Rattle.tt_db.specs.State.{after, outcome_of}
use Rattle.tt_db.specs.Limits.{usual_limits}
use Rattle.tt_db.specs.Database.{Database, state_of}
use Rattle.tt_document.specs.declared.document.Document.{Document}
use Rattle.tt_document.specs.declared.document.Plan.{Plan}
use Rattle.tt_document.specs.declared.document.Call.{Call}
use Rattle.tt_document.specs.Document.{IsValidCall, IsValidEdit, IsValidPlan, IsValidDocument}
use Rattle.tt_records.specs.declared.record.Record.{Record}
use Rattle.tt_repair.specs.declared.repaired.Repaired.{Repaired}
use Rattle.tt_records.specs.Changes.{changes_of}
use Rattle.tt_repair.specs.Repairing.{HasRepaired, begun_steps, entry_by}
use Rattle.tt_store.specs.History.{entries_by, places_of}
use Rattle.tt_store.specs.Calls.{numbers_from}
use Rattle.tt_store.specs.Workers.{WorkerState, Looks, IsAmong, own_entries}
use Rattle.tt_store.specs.Opening.{new_worker, new_workers}
use Rattle.tt_store.specs.Closing.{IsPartOf, IsOfWorker}
use Rattle.tt_store.proofs.Prefixes.{prefix_trans}
use Rattle.tt_workload.specs.History.{history_of, edit_of_slot, slot_in_record, administrator}
use Rattle.tt_workload.specs.declared.run_fault.RunFault.{RunFault}
use Rattle.tt_workers.specs.declared.answered_call.AnsweredCall.{AnsweredCall}
use Rattle.tt_workers.specs.declared.report.Report.{Report}
use Rattle.tt_workers.specs.declared.merging.Records.{Records}
use Rattle.tt_workers.specs.Calls.{made_by, seen_after, AllWork}
use Rattle.tt_workers.specs.Merging.{AreOf, first_of, without_first, merged_answers}
use Rattle.tt_workers.specs.Running.{MadeCalls, MadeRepair, MadeRepairIf, MadeAll}
use Rattle.tt_workers.specs.Report.{with_seen, AreAnswered, nothing_seen, all_calls, meanwhile_of, IsRepaired, IsRepairOf, IsReportOf}
use Rattle.tt_workers.proofs.MergingLemmas.{AreMerged, HaveSeen, seen_by, has_queues, merged_right, merged_answered, merged_lower, merged_append, length-merged_answers}
use Rattle.tt_workers.proofs.MadeLemmas.{HaveMade, numbered, made_more, length-work, length-new_workers, new_made, all_own}

-- ---- lists of workers

snoc_same : {A : Type 0} (xs ys : List A) (x y : A) → xs ++ x ∷ [] ≡ ys ++ y ∷ [] → (xs ≡ ys) × (x ≡ y)
snoc_same [] [] x y h = (refl, cc)
snoc_same [] (z ∷ []) x y h = absurd (cc)
snoc_same [] (z ∷ w ∷ ys) x y h = absurd (cc)
snoc_same (z ∷ []) [] x y h = absurd (cc)
snoc_same (z ∷ w ∷ xs) [] x y h = absurd (cc)
snoc_same (z ∷ xs) (w ∷ ys) x y h =
    let heads : z ≡ w = cc in
    let rest = snoc_same xs ys x y (cc) in
    (cc, rest.1)

each_front : {A : Type 0} (P : A → Type 0) (xs ys : List A) → Each P (xs ++ ys) → Each P xs
each_front P [] ys h = tt
each_front P (x ∷ xs) ys h = (h.0, each_front P xs ys h.1)

each_last : {A : Type 0} (P : A → Type 0) (xs : List A) (y : A) → Each P (xs ++ y ∷ []) → P y
each_last P [] y h = h.0
each_last P (x ∷ xs) y h = each_last P xs y h.1

-- the own entries of a worker are all that bear its number
abbrev OwnsAll : List Entry → WorkerState → Type 0
OwnsAll history w = own_entries w ≡ made_by w.number history

owns_each : (history : List Entry) (workers : List WorkerState) → Each (λ w. IsAmong w.own (places_of w.number w.seen)) workers → Each (IsPartOf history) workers → Each (OwnsAll history) workers
owns_each history [] among parts = tt
owns_each history (w ∷ workers) among parts = (all_own history w among.0 parts.0, owns_each history workers among.1 parts.1)

seen_each : (history : List Entry) (workers : List WorkerState) → Each (IsPartOf history) workers → HaveSeen history workers
seen_each history [] parts = tt
seen_each history (w ∷ workers) parts = (parts.0.seen, seen_each history workers parts.1)

made_at : (history : List Entry) (k i : ℕ) (calls : List Call) (workers : List WorkerState) → HaveMade k calls workers → Each (OwnsAll history) workers → i < length workers
    → made_by (k + i) history ≡ made_by (k + i) (history_of calls)
made_at history k i calls [] made owns lt = absurd (omega arith)
made_at history k zero calls (w ∷ workers) made owns lt =
    let is : w.number ≡ k + 0 = omega (arith, made.0) in
    let here : made_by w.number history ≡ made_by k (history_of calls) = sym owns.0 ∙ made.1 in
    subst (λ n. made_by n history ≡ made_by (k + 0) (history_of calls)) is (here ∙ ap (λ n. made_by n (history_of calls)) (let same : k ≡ k + 0 = omega arith in same))
made_at history k (suc i) calls (w ∷ workers) made owns lt =
    let same : k + 1 + i ≡ k + suc i = omega arith in
    subst (λ n. made_by n history ≡ made_by n (history_of calls)) same (made_at history (k + 1) i calls workers made.2 owns.1 (omega arith))

made_by_all : (history : List Entry) (n : ℕ) (calls : List Call) (workers : List WorkerState) → HaveMade 1 calls workers → Each (OwnsAll history) workers → length workers ≡ n
    → (worker : ℕ) → 1 ≤ worker → worker ≤ n → made_by worker history ≡ made_by worker (history_of calls)
made_by_all history n calls workers made owns count worker some last =
    let same : 1 + (worker - 1) ≡ worker = omega (arith, some) in
    subst (λ k. made_by k history ≡ made_by k (history_of calls)) same (made_at history 1 (worker - 1) calls workers made owns (omega (arith, some, last, count)))

-- ---- calls of a document

pub of_valid : (tables : Tables) (n : ℕ) (calls : List Call) → Each (IsValidCall tables n) calls → AreOf n calls
of_valid tables n [] h = tt
of_valid tables n (c ∷ calls) h = (h.0.from_one, h.0.to_last, of_valid tables n calls h.1)

pub of_valid_calls : (tables : Tables) (n : ℕ) (calls : List Call) → All (IsValidCall tables n) calls → AreOf n calls
of_valid_calls tables n calls h = of_valid tables n calls (recursion_from_All (IsValidCall tables n) calls h)

-- records bear the numbers of their calls
pub numbered_records : (limits : Limits) (history : List Entry) (seen : ℕ → ℕ) (number : ℕ) (calls : List Call) (records : List Record) (fronts : List ℕ)
    → AreAnswered limits history seen number calls records fronts → map (λ r. r.call) records ≡ numbers_from number (length records)
numbered_records limits history seen number [] [] [] h = refl
numbered_records limits history seen number [] [] (f ∷ fronts) h = absurd h
numbered_records limits history seen number [] (r ∷ records) fronts h = absurd h
numbered_records limits history seen number (c ∷ calls) [] fronts h = absurd h
numbered_records limits history seen number (c ∷ calls) (r ∷ records) [] h = absurd h
numbered_records limits history seen number (c ∷ calls) (r ∷ records) (f ∷ fronts) h =
    let is : r.call ≡ number = ap (λ (x : Record). x.call) h.0.right in
    let rest = numbered_records limits history (with_seen seen c.worker (seen_after c.ask f)) (number + 1) calls records fronts h.1 in
    (λ i. is i ∷ rest i)

-- ---- edits

get_longer : {A : Type 0} (xs ys : List A) (k : ℕ) → k < length xs → slice_get (xs ++ ys) k ≡ slice_get xs k
get_longer [] ys k lt = absurd (omega arith)
get_longer (x ∷ xs) ys zero lt = refl
get_longer (x ∷ xs) ys (suc k) lt = get_longer xs ys k (omega arith)

edit_longer : (records more : List Record) (calls : List Call) (tables : Tables) (e : Edit) → length records ≡ length calls → IsValidEdit tables calls e
    → edit_of_slot records e ≡ edit_of_slot (records ++ more) e
edit_longer records more calls tables (Cancel number) count valid =
    ap (λ r. Cancel (slot_in_record r)) (sym (get_longer records more (number - 1) (omega (arith, count, valid.from_one, valid.to_last))))
edit_longer records more calls tables (Replace number action) count valid =
    ap (λ r. Replace (slot_in_record r) action) (sym (get_longer records more (number - 1) (omega (arith, count, valid.from_one, valid.to_last))))

edits_longer : (records more : List Record) (calls : List Call) (tables : Tables) (edits : List Edit) → length records ≡ length calls → Each (IsValidEdit tables calls) edits
    → map (edit_of_slot records) edits ≡ map (edit_of_slot (records ++ more)) edits
edits_longer records more calls tables [] count valid = refl
edits_longer records more calls tables (e ∷ edits) count valid =
    let first = edit_longer records more calls tables e count valid.0 in
    let rest = edits_longer records more calls tables edits count valid.1 in
    (λ i. first i ∷ rest i)

-- ---- the calls of a phase

pub phase_merged : (limits : Limits) (history : List Entry) (n number : ℕ) (calls : List Call) (olds news : List WorkerState) (before now : Records) (done : List Call)
    → (made : MadeCalls limits number calls olds news before now) → HaveMade 1 done olds → length olds ≡ n → HaveSeen history news → AreOf n calls
    → AreMerged limits history n number (seen_by olds) calls (merged_answers calls made.queues) (seen_by news)
phase_merged limits history n number calls olds news before now done made have count seen of =
    merged_right limits history n number (seen_by olds) (seen_by news) calls made.queues
    (has_queues limits history n number calls olds news made.queues made.work (numbered 1 done olds have) seen count) of

-- what the run leaves, as far as the history and the records tell
pub record Leaves (document : Document) (history : List Entry) (records : List Record) (fronts : List ℕ) (repaired : Option Repaired) : Type 0 where
  pub answered : AreAnswered usual_limits history nothing_seen 1 (all_calls document) records fronts
  pub made : (worker : ℕ) → 1 ≤ worker → worker ≤ document.workers → made_by worker history ≡ made_by worker (history_of (all_calls document))
  pub repair : IsRepairOf document records history document.repair repaired

-- the calls of a document, before its repair
pub record FirstCalls (limits : Limits) (document : Document) (history : List Entry) (news : List WorkerState) (middle : Records) (answers : List AnsweredCall) : Type 0 where
  pub records : middle.records.items ≡ map (λ a. a.answer) answers
  pub fronts : middle.fronts.items ≡ map (λ a. a.front) answers
  pub merged_is : AreMerged limits history document.workers 1 nothing_seen document.calls answers (seen_by news)
  pub have : HaveMade 1 document.calls news
  pub count : length news ≡ document.workers

-- what was seen before further calls is a beginning of the history, too
have_seen_before : (limits : Limits) (number : ℕ) (calls : List Call) (history : List Entry) (olds news : List WorkerState) (queues : List (List AnsweredCall)) → AllWork limits number calls olds news queues
    → HaveSeen history news → HaveSeen history olds
have_seen_before limits number calls history [] [] [] work seen = tt
have_seen_before limits number calls history [] [] (q ∷ queues) work seen = absurd work
have_seen_before limits number calls history [] (new ∷ news) queues work seen = absurd work
have_seen_before limits number calls history (old ∷ olds) [] queues work seen = absurd work
have_seen_before limits number calls history (old ∷ olds) (new ∷ news) [] work seen = absurd work
have_seen_before limits number calls history (old ∷ olds) (new ∷ news) (q ∷ queues) work seen =
    (prefix_trans old.seen new.seen history work.0.grew.seen seen.0, have_seen_before limits number calls history olds news queues work.1 seen.1)

-- how a run of a document begins: on a store with its tables and the usual limits, with new workers and without records
pub record Begins (tables : Tables) (limits : Limits) (document : Document) (start : List WorkerState) (none : Records) : Type 0 where
  pub valid : IsValidDocument document
  pub same_tables : tables ≡ document.catalog
  pub same_limits : limits ≡ usual_limits
  pub new : start ≡ new_workers (document.workers + 1)
  pub no_records : none.records.items ≡ []
  pub no_fronts : none.fronts.items ≡ []

module _ (tables : Tables) (limits : Limits) (document : Document) (history : List Entry) (start : List WorkerState) (none : Records) (begins : Begins tables limits document start none) where
  first_calls : (middle : Records) (news : List WorkerState) → (made : MadeCalls limits 1 document.calls (new_workers document.workers) news none middle) → HaveSeen history news
      → FirstCalls limits document history news middle (merged_answers document.calls made.queues)
  first_calls middle news made seen =
      let answers = merged_answers document.calls made.queues in
      let of = of_valid_calls document.catalog document.workers document.calls begins.valid.valid_calls in
      let new = new_workers document.workers in
      record {
        records = made.records ∙ ap (λ rs. rs ++ map (λ a. a.answer) answers) begins.no_records;
        fronts = made.fronts ∙ ap (λ fs. fs ++ map (λ a. a.front) answers) begins.no_fronts;
        merged_is = merged_lower limits history document.workers 1 nothing_seen (seen_by new) (seen_by news) document.calls answers (λ w some last. omega arith) of
            (phase_merged limits history document.workers 1 document.calls new news none middle [] made (new_made document.workers) (length-new_workers document.workers) seen of);
        have = made_more limits 1 1 [] document.calls new news made.queues (new_made document.workers) made.work;
        count = length-work limits 1 document.calls new news made.queues made.work ∙ length-new_workers document.workers;
      }

  -- a document without a repair
  leaves_alone : (now : Records) (news : List WorkerState) → MadeCalls limits 1 document.calls (new_workers document.workers) news none now → document.repair ≡ None
      → Each (λ w. IsAmong w.own (places_of w.number w.seen)) (news ++ new_worker (suc document.workers) ∷ []) → Each (IsPartOf history) (news ++ new_worker (suc document.workers) ∷ [])
      → Leaves document history now.records.items now.fronts.items None
  leaves_alone now news made no_repair among parts =
      let last = new_worker (suc document.workers) in
      let owns = owns_each history (news ++ last ∷ []) among parts in
      let own = each_front (OwnsAll history) news (last ∷ []) owns in
      let seen = seen_each history news (each_front (IsPartOf history) news (last ∷ []) parts) in
      let first = first_calls now news made seen in
      let answers = merged_answers document.calls made.queues in
      let all : document.calls ≡ all_calls document = sym (ap (λ (p : Option Plan). document.calls ++ meanwhile_of p) no_repair ∙ append-nil document.calls) in
      let answered : AreAnswered limits history nothing_seen 1 document.calls now.records.items now.fronts.items =
      subst (λ (rs : List Record). AreAnswered limits history nothing_seen 1 document.calls rs now.fronts.items) (sym first.records)
      (subst (λ (fs : List ℕ). AreAnswered limits history nothing_seen 1 document.calls (map (λ a. a.answer) answers) fs) (sym first.fronts)
      (merged_answered limits history document.workers 1 nothing_seen (seen_by news) document.calls answers first.merged_is)) in
      record {
        answered = subst (λ (l : Limits). AreAnswered l history nothing_seen 1 (all_calls document) now.records.items now.fronts.items) begins.same_limits
            (subst (λ (cs : List Call). AreAnswered limits history nothing_seen 1 cs now.records.items now.fronts.items) all answered);
        made = subst (λ (cs : List Call). (worker : ℕ) → 1 ≤ worker → worker ≤ document.workers → made_by worker history ≡ made_by worker (history_of cs)) all
            (made_by_all history document.workers document.calls news first.have own first.count);
        repair = subst (λ (p : Option Plan). IsRepairOf document now.records.items history p None) (sym no_repair)
            (ap (λ k. made_by k history) (let same : administrator document ≡ suc document.workers = omega arith in same) ∙ sym (each_last (OwnsAll history) news last owns));
      }

  -- what the administrator has made
  repaired_is : (plan : Plan) (edits : List Edit) (records : List Record) (new middle last : WorkerState) (r : Repaired) → new ≡ new_worker (suc document.workers)
      → Looks new middle → HasRepaired tables limits edits middle last r → edits ≡ map (edit_of_slot records) plan.edits → OwnsAll history last → IsPrefix last.seen history → IsRepaired document plan records history r
  repaired_is plan edits records new middle last r is looks has edits_are owns seen =
      let number : middle.number ≡ administrator document =
      looks.number ∙ ap (λ (w : WorkerState). w.number) is ∙ (let same : suc document.workers ≡ administrator document = omega arith in same) in
      let last_number : last.number ≡ administrator document = has.grew.number ∙ number in
      let nothing : own_entries middle ≡ [] = looks.entries ∙ ap own_entries is in
      let made = begun_steps edits has.count ++ events.Switch ∷ [] in
      let own : own_entries last ≡ entries_by middle.number made = has.grew.entries ∙ ap (λ es. es ++ entries_by middle.number made) nothing in
      let entries : made_by (administrator document) history ≡ entries_by (administrator document) made =
      ap (λ k. made_by k history) (sym last_number) ∙ sym owns ∙ own ∙ ap (λ k. entries_by k made) number in
      let switch : Entry = entry_by (administrator document) events.Switch in
      let whole : history ≡ has.front ++ switch ∷ seen.0 =
      sym seen.1 ∙ ap (λ xs. xs ++ seen.0) (has.seen ∙ ap (λ k. has.front ++ entry_by k events.Switch ∷ []) number) ∙ append_assoc has.front (switch ∷ []) seen.0 in
      let switched : Outcome = Switched r.generation r.slots r.rerun in
      record {
        steps = has.count;
        before = has.front;
        rest = seen.0;
        entries = entries ∙ ap (λ es. entries_by (administrator document) (begun_steps es has.count ++ events.Switch ∷ [])) edits_are;
        switch = whole;
        place = has.place_is ∙ ap length has.seen ∙ length-append has.front (entry_by middle.number events.Switch ∷ []);
        outcome = subst (λ (l : Limits). outcome_of document.catalog (after l has.front) events.Switch ≡ switched) begins.same_limits
            (subst (λ (ts : Tables). outcome_of ts (after limits has.front) events.Switch ≡ switched) begins.same_tables has.outcome);
      }

  -- a document with a repair
  leaves_repaired : (plan : Plan) (middle now : Records) (new : WorkerState) (olds all : List WorkerState) (r : Repaired)
      → IsValidPlan document.catalog document.workers document.calls plan → new ≡ new_worker (suc document.workers)
      → MadeCalls limits 1 document.calls (new_workers document.workers) olds none middle → document.repair ≡ Some plan
      → MadeRepair tables limits plan new olds middle all now r
      → Each (λ w. IsAmong w.own (places_of w.number w.seen)) all → Each (IsPartOf history) all
      → Leaves document history now.records.items now.fronts.items (Some r)
  leaves_repaired plan middle now new olds all r valid_plan new_is made has_repair repair among parts =
      let n = document.workers in
      let news = repair.news in
      let last = repair.last in
      let parts' : Each (IsPartOf history) (news ++ last ∷ []) = subst (λ (ws : List WorkerState). Each (IsPartOf history) ws) repair.all_is parts in
      let among' : Each (λ w. IsAmong w.own (places_of w.number w.seen)) (news ++ last ∷ []) = subst (λ (ws : List WorkerState). Each (λ w. IsAmong w.own (places_of w.number w.seen)) ws) repair.all_is among in
      let owns = owns_each history (news ++ last ∷ []) among' parts' in
      let own = each_front (OwnsAll history) news (last ∷ []) owns in
      let seen = seen_each history news (each_front (IsPartOf history) news (last ∷ []) parts') in
      let seen_before = have_seen_before limits (length middle.records.items + 1) plan.meanwhile history olds news repair.calls.queues repair.calls.work seen in
      let first = first_calls middle olds made seen_before in
      let answers = merged_answers document.calls made.queues in
      let others = merged_answers plan.meanwhile repair.calls.queues in
      let of_more = of_valid_calls document.catalog n plan.meanwhile valid_plan.valid_calls in
      let more = phase_merged limits history n (length middle.records.items + 1) plan.meanwhile olds news middle now document.calls repair.calls first.have first.count seen of_more in
      let many : length middle.records.items ≡ length document.calls =
      ap length first.records ∙ length-map answers (λ a. a.answer) ∙ length-merged_answers limits history n 1 nothing_seen (seen_by olds) document.calls answers first.merged_is in
      let both = merged_append limits history n 1 (length middle.records.items + 1) nothing_seen (seen_by olds) (seen_by news) document.calls plan.meanwhile answers others (omega (arith, many)) of_more first.merged_is more in
      let all : document.calls ++ plan.meanwhile ≡ all_calls document = sym (ap (λ (p : Option Plan). document.calls ++ meanwhile_of p) has_repair) in
      let records : now.records.items ≡ map (λ a. a.answer) (answers ++ others) =
      repair.calls.records ∙ ap (λ rs. rs ++ map (λ a. a.answer) others) first.records ∙ sym (map-append (λ a. a.answer) answers others) in
      let fronts : now.fronts.items ≡ map (λ a. a.front) (answers ++ others) =
      repair.calls.fronts ∙ ap (λ fs. fs ++ map (λ a. a.front) others) first.fronts ∙ sym (map-append (λ a. a.front) answers others) in
      let calls = document.calls ++ plan.meanwhile in
      let answered : AreAnswered limits history nothing_seen 1 calls now.records.items now.fronts.items =
      subst (λ (rs : List Record). AreAnswered limits history nothing_seen 1 calls rs now.fronts.items) (sym records)
      (subst (λ (fs : List ℕ). AreAnswered limits history nothing_seen 1 calls (map (λ a. a.answer) (answers ++ others)) fs) (sym fronts)
      (merged_answered limits history n 1 nothing_seen (seen_by news) calls (answers ++ others) both)) in
      let have = made_more limits (length middle.records.items + 1) 1 document.calls plan.meanwhile olds news repair.calls.queues first.have repair.calls.work in
      let count : length news ≡ n = length-work limits (length middle.records.items + 1) plan.meanwhile olds news repair.calls.queues repair.calls.work ∙ first.count in
      let edits = edits_longer middle.records.items (map (λ a. a.answer) others) document.calls document.catalog plan.edits many
      (recursion_from_All (IsValidEdit document.catalog document.calls) plan.edits valid_plan.valid_edits) in
      let edits_are : map (edit_of_slot (middle.records.items ++ map (λ a. a.answer) others)) plan.edits ≡ map (edit_of_slot now.records.items) plan.edits =
      ap (λ rs. map (edit_of_slot rs) plan.edits) (sym repair.calls.records) in
      let last_part = each_last (IsPartOf history) news last parts' in
      record {
        answered = subst (λ (l : Limits). AreAnswered l history nothing_seen 1 (all_calls document) now.records.items now.fronts.items) begins.same_limits
            (subst (λ (cs : List Call). AreAnswered limits history nothing_seen 1 cs now.records.items now.fronts.items) all answered);
        made = subst (λ (cs : List Call). (worker : ℕ) → 1 ≤ worker → worker ≤ n → made_by worker history ≡ made_by worker (history_of cs)) all
            (made_by_all history n calls news have own count);
        repair = subst (λ (p : Option Plan). IsRepairOf document now.records.items history p (Some r)) (sym has_repair)
            (repaired_is plan (map (edit_of_slot middle.records.items) plan.edits) now.records.items new repair.middle last r new_is repair.looks repair.repaired (edits ∙ edits_are) (each_last (OwnsAll history) news last owns) last_part.seen);
      }

  -- what workers that have made all leave
  pub leaves : (all : List WorkerState) (now : Records) (repaired : Option Repaired) → MadeAll tables limits document start none all now repaired
      → All (λ w. IsAmong w.own (places_of w.number w.seen)) all → All (IsPartOf history) all → Leaves document history now.records.items now.fronts.items repaired
  leaves all now repaired made among parts = by document.repair refl repaired made.repair begins.valid.valid_repair
    where
      next : document.workers + 1 ≡ suc document.workers
      next = omega arith

      ends : (made.olds ≡ new_workers document.workers) × (made.administrator ≡ new_worker (suc document.workers))
      ends = snoc_same made.olds (new_workers document.workers) made.administrator (new_worker (suc document.workers))
          (sym made.start_is ∙ begins.new ∙ ap new_workers next)

      calls : MadeCalls limits 1 document.calls (new_workers document.workers) made.news none made.middle
      calls = subst (λ (ws : List WorkerState). MadeCalls limits 1 document.calls ws made.news none made.middle) ends.0 made.calls

      among' : Each (λ w. IsAmong w.own (places_of w.number w.seen)) all
      among' = recursion_from_All (λ (w : WorkerState). IsAmong w.own (places_of w.number w.seen)) all among

      parts' : Each (IsPartOf history) all
      parts' = recursion_from_All (IsPartOf history) all parts

      by : (p : Option Plan) → document.repair ≡ p → (r : Option Repaired) → MadeRepairIf tables limits p made.administrator made.news made.middle all now r
          → IfSome p (IsValidPlan document.catalog document.workers document.calls) → Leaves document history now.records.items now.fronts.items r
      by None is r repair plans =
          let whole : all ≡ made.news ++ new_worker (suc document.workers) ∷ [] = repair.0 ∙ ap (λ (w : WorkerState). made.news ++ w ∷ []) ends.1 in
          let calls' : MadeCalls limits 1 document.calls (new_workers document.workers) made.news none now = subst (λ (rs : Records). MadeCalls limits 1 document.calls (new_workers document.workers) made.news none rs) (sym repair.1) calls in
          subst (λ (x : Option Repaired). Leaves document history now.records.items now.fronts.items x) (sym repair.2)
          (leaves_alone now made.news calls' is
          (subst (λ (ws : List WorkerState). Each (λ w. IsAmong w.own (places_of w.number w.seen)) ws) whole among') (subst (λ (ws : List WorkerState). Each (IsPartOf history) ws) whole parts'))
      by (Some plan) is None repair plans = absurd repair
      by (Some plan) is (Some r) repair plans =
          leaves_repaired plan made.middle now made.administrator made.news all r plans ends.1 calls is repair among' parts'

-- the database that a run leaves
pub record LeavesDatabase (document : Document) (db : Database) : Type 0 where
  pub catalog : db.catalog ≡ document.catalog
  pub limits : db.limits ≡ usual_limits
  pub everyone : All (IsOfWorker (administrator document)) db.history

-- the report of what a run leaves
pub whole_report : (document : Document) (db : Database) (records : List Record) (fronts : List ℕ) (repaired : Option Repaired) (result : Result Report RunFault)
    → Leaves document db.history records fronts repaired → LeavesDatabase document db
    → IfOk result (λ r. r.records.items ≡ records) → IfOk result (λ r. r.fronts.items ≡ fronts) → IfOk result (λ r. r.repaired ≡ repaired) → IfOk result (λ r. r.db ≡ db)
    → IfOk result (λ r. r.changes.items ≡ changes_of db.catalog (state_of db) records)
    → IfOk result (IsReportOf document)
whole_report document db records fronts repaired (Err fault) left closed records_is fronts_is repaired_is db_is changes_is = tt
whole_report document db records fronts repaired (Ok r) left closed records_is fronts_is repaired_is db_is changes_is =
    let in_db : Leaves document r.db.history records fronts repaired = subst (λ (d : Database). Leaves document d.history records fronts repaired) (sym db_is) left in
    let in_records : Leaves document r.db.history r.records.items fronts repaired = subst (λ (rs : List Record). Leaves document r.db.history rs fronts repaired) (sym records_is) in_db in
    let in_fronts : Leaves document r.db.history r.records.items r.fronts.items repaired = subst (λ (fs : List ℕ). Leaves document r.db.history r.records.items fs repaired) (sym fronts_is) in_records in
    let whole : Leaves document r.db.history r.records.items r.fronts.items r.repaired = subst (λ (x : Option Repaired). Leaves document r.db.history r.records.items r.fronts.items x) (sym repaired_is) in_fronts in
    record {
      catalog = ap (λ (d : Database). d.catalog) db_is ∙ closed.catalog;
      limits = ap (λ (d : Database). d.limits) db_is ∙ closed.limits;
      answered = whole.answered;
      made = whole.made;
      repair = whole.repair;
      everyone = subst (λ (d : Database). All (IsOfWorker (administrator document)) d.history) (sym db_is) closed.everyone;
      changes = changes_is ∙ ap (λ (d : Database). changes_of d.catalog (state_of d) records) (sym db_is) ∙ ap (λ (rs : List Record). changes_of r.db.catalog (state_of r.db) rs) (sym records_is);
    }

-- ---- the steps of a run

pub valid_plan_of : (d : Document) (plan : Plan) → IsValidDocument d → d.repair ≡ Some plan → IsValidPlan d.catalog d.workers d.calls plan
valid_plan_of d plan valid is = subst (λ (p : Option Plan). IfSome p (IsValidPlan d.catalog d.workers d.calls)) is valid.valid_repair

few_first : (q : Option (List AnsweredCall)) → length (first_of q) ≤ 1
few_first None = omega arith
few_first (Some []) = omega arith
few_first (Some (a ∷ answers)) = omega arith

few_merged : (calls : List Call) (queues : List (List AnsweredCall)) → length (merged_answers calls queues) ≤ length calls
few_merged [] queues = omega arith
few_merged (c ∷ calls) queues =
    let first = few_first (slice_get queues (c.worker - 1)) in
    let rest = few_merged calls (without_first queues c.worker) in
    omega (arith, first, rest, length-append (first_of (slice_get queues (c.worker - 1))) (merged_answers calls (without_first queues c.worker)))

-- no more records than calls are pushed
pub few_records : (limits : Limits) (number : ℕ) (calls : List Call) (olds news : List WorkerState) (before now : Records) → before.records.items ≡ [] → MadeCalls limits number calls olds news before now
    → length now.records.items ≤ length calls
few_records limits number calls olds news before now none made =
    let answers = merged_answers calls made.queues in
    let pushed : now.records.items ≡ map (λ a. a.answer) answers = made.records ∙ ap (λ rs. rs ++ map (λ a. a.answer) answers) none in
    let count : length now.records.items ≡ length answers = ap length pushed ∙ length-map answers (λ a. a.answer) in
    omega (arith, count, few_merged calls made.queues)

-- as many workers are left as made calls
pub as_many : (limits : Limits) (number : ℕ) (calls : List Call) (olds news : List WorkerState) (before now : Records) → MadeCalls limits number calls olds news before now → length news ≡ length olds
as_many limits number calls olds news before now made = length-work limits number calls olds news made.queues made.work

-- what holds of every answer holds of that which there is
pub if_ok_then : {A E : Type 0} (P Q : A → Type 0) (r : Result A E) → ((x : A) → P x → Q x) → IfOk r P → IfOk r Q
if_ok_then P Q (Ok x) k h = k x h
if_ok_then P Q (Err e) k h = tt
