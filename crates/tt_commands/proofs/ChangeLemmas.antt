-- The changes of records, one record after another.
use Rattle.std.proofs.Common.{◌≡◌, ℕ, zero, suc, ◌+◌, true, false, if◌then◌else◌, ◌<◌, ◌≤◌, List, [], ◌∷◌, ◌++◌, length, drop, slice_get, Option, None, Some, refl, sym, ap, ◌∙◌, arith, length-append, append-nil}
use Rattle.std.specs.Prelude.{IsSome, ◌↔◌, filter_map, option_map, option_and_then}
use Rattle.std.specs.Option.{option_to_list}
use Rattle.std.specs.List.{cons_option}
use Rattle.std.proofs.lemmas.List.Elements.{filter_map-append}
use Rattle.tt_repair_laws.specs.declared.edit.Edit.{Edit}
use Rattle.tt_generations.specs.TwoGenerations.{Phase, Idle, Repairing, is_repairing, done_of}
use Rattle.tt_db.specs.declared.event.Event.TheVariants as events
use Rattle.tt_db.specs.State.{State, next_state}
use Rattle.tt_db.specs.Database.{Database, nth_item, state_of, now_in}
use Rattle.tt_db.proofs.EntryLemmas.{after-push}
use Rattle.tt_records.specs.declared.record.Record.{Record}
use Rattle.tt_records.specs.declared.record.What.{What}
use Rattle.tt_records.specs.declared.record.What.TheVariants as whats
use Rattle.tt_records.specs.declared.changed.Changed.{Changed}
use Rattle.tt_records.specs.Changes.{as_list, change_of, next_change_of}
use Rattle.tt_records.proofs.NextLemmas as records
use Rattle.tt_requests.specs.declared.request.ChangePage.{ChangePage}
use Rattle.tt_answers.specs.declared.answer.AskedFor.TheVariants as asked
use Rattle.tt_answers.specs.declared.answer.ChangeEntry.{ChangeEntry}
use Rattle.tt_answers.specs.AnswerText.{place_of}
use Rattle.tt_commands.specs.SlotEntries.{Asked, asked_by, asked_in}
use Rattle.tt_commands.specs.CauseEntries.{first_entries, more_follow}
use Rattle.tt_commands.specs.ChangeEntries.{first_call, is_wanted, asked_for_by, wanted_entry, entries_of_changes}
use Rattle.tt_answers.specs.declared.answer.Answer.TheVariants as answers
use Rattle.tt_commands.specs.Session.{OpenSession, state_in}
use Rattle.tt_commands.specs.Repairing.{entry_by, with_event}
use Rattle.tt_commands.specs.declared.change_entries.Moment.TheVariants.{Now, Next}
use Rattle.tt_commands.specs.Moments.{changes_answer_at}
use Rattle.tt_commands.specs.Laws.{switched, NextChangesEndAsChanges}

last-of-one : (x y : Changed) (rest : List Changed) → x ∷ [] ≡ rest ++ y ∷ [] → x ≡ y
last-of-one x y [] is = cc
last-of-one x y (z ∷ rest) is = absurd (omega (arith, ap length is, length-append rest (y ∷ [])))

-- the only change is the last one
pub only_change : (change last : Option Changed) (rest : List Changed) → as_list change ++ [] ≡ rest ++ option_to_list last → (IsSome last ↔ (0 < length (as_list change ++ []))) → last ≡ change
only_change None None rest is some = refl
only_change None (Some y) rest is some = absurd (omega (arith, ap length is, length-append rest (y ∷ [])))
only_change (Some x) None rest is some = let clash : false ≡ true = some.1 (omega arith) in cc
only_change (Some x) (Some y) rest is some = ap Some (sym (last-of-one x y rest is))

-- there is a record at each index below their number
pub past-end : (records : List Record) (i : ℕ) → slice_get records i ≡ None → length records ≤ i
past-end [] i is = omega arith
past-end (x ∷ records) zero is = cc
past-end (x ∷ records) (suc i) is = omega (arith, past-end records i is)

-- the record at an index, and then the others
entries-here : (f : Record → Option ChangeEntry) (records : List Record) (i : ℕ) (r : Record) → slice_get records i ≡ Some r
    → filter_map f (drop i records) ≡ cons_option (f r) (filter_map f (drop (suc i) records))
entries-here f [] i r is = cc
entries-here f (x ∷ records) zero r is = let same : x ≡ r = cc in ap (λ y. cons_option (f y) (filter_map f records)) same
entries-here f (x ∷ records) (suc i) r is = entries-here f records i r is

pub entries-next : (f : Record → Option ChangeEntry) (records : List Record) (i next : ℕ) (r : Record) → slice_get records i ≡ Some r → next ≡ i + 1
    → filter_map f (drop i records) ≡ cons_option (f r) (filter_map f (drop next records))
entries-next f records i next r is count =
    let after : suc i ≡ next = omega (arith, count) in
    entries-here f records i r is ∙ ap (λ n. cons_option (f r) (filter_map f (drop n records))) after

-- ---- the changes after the switch

same-change : (x y : Option Changed) → as_list x ++ [] ≡ as_list y ++ [] → x ≡ y
same-change None None is = refl
same-change None (Some y) is = cc
same-change (Some x) None is = cc
same-change (Some x) (Some y) is = cc

change-ends : (session : OpenSession) (worker : ℕ) (edits : List Edit) → (state_in session).phase ≡ Repairing edits (now_in session.database) → (r : Record)
    → next_change_of session.database.catalog (state_in session) r ≡ change_of session.database.catalog (state_of (with_event session.database worker events.Switch)) r
change-ends session worker edits phase r =
    let db = session.database in
    let after : state_of (with_event db worker events.Switch) ≡ next_state db.limits (state_of db) events.Switch = after-push db.limits db.history (entry_by worker events.Switch) in
    same-change (next_change_of db.catalog (state_of db) r) (change_of db.catalog (next_state db.limits (state_of db) events.Switch) r)
    (records.next_changes_end_as_changes db.catalog db.limits (state_of db) edits (r ∷ []) phase)
    ∙ ap (λ (S : State). change_of db.catalog S r) (sym after)

-- the switch takes no slot, so each slot was asked for as before
asked-ends : (db : Database) (worker : ℕ) → asked_in (with_event db worker events.Switch).history ≡ asked_in db.history
asked-ends db worker = filter_map-append (λ e. asked_by e.worker e.event) db.history (entry_by worker events.Switch ∷ []) ∙ append-nil (asked_in db.history)

asked-for-ends : (db : Database) (worker : ℕ) (what : What) → asked_for_by db what ≡ asked_for_by (with_event db worker events.Switch) what
asked-for-ends db worker (whats.Write slot replies) =
    ap (λ (list : List Asked). option_map asked.Action (option_map (λ (a : Asked). a.action) (nth_item list slot))) (sym (asked-ends db worker))
asked-for-ends db worker (whats.Read select time reply) = refl
asked-for-ends db worker (whats.Preview done reply) = refl
asked-for-ends db worker (whats.Later now) = refl
asked-for-ends db worker whats.NotRepairing = refl

entry-ends : (session : OpenSession) (worker : ℕ) (page : ChangePage) (edits : List Edit) → (state_in session).phase ≡ Repairing edits (now_in session.database) → (r : Record)
    → let db = session.database in let after = with_event db worker events.Switch in
    wanted_entry db page (next_change_of db.catalog (state_of db)) r ≡ wanted_entry after page (change_of db.catalog (state_of after)) r
entry-ends session worker page edits phase r =
    let worker_told : Option ℕ = if page.asked then Some r.worker else None in
    λ i. if is_wanted page r then option_and_then (λ c. option_map (λ place.
    record { worker = worker_told; place = place; change = c; asked = if page.asked then asked-for-ends session.database worker r.what i else None })
    (place_of r.what)) (change-ends session worker edits phase r i) else None

changes-end : (session : OpenSession) (worker : ℕ) (page : ChangePage) (edits : List Edit) → (state_in session).phase ≡ Repairing edits (now_in session.database)
    → (changes_answer_at Next session page).answer ≡ (changes_answer_at Now (switched session worker) page).answer
changes-end session worker page edits phase =
    let db = session.database in
    let after = with_event db worker events.Switch in
    let same : entries_of_changes db page (next_change_of db.catalog (state_of db)) session.records ≡ entries_of_changes after page (change_of db.catalog (state_of after)) session.records =
    λ i. filter_map (λ r. entry-ends session worker page edits phase r i) session.records in
    λ i. answers.Changes (first_call session.records session.calls) (first_entries page.most (same i)) (option_map (λ most. more_follow (Some most) (same i)) page.most)

pub next_changes_end_as_changes : NextChangesEndAsChanges
next_changes_end_as_changes session worker page = by (state_in session).phase refl
  where
    by : (p : Phase) → (state_in session).phase ≡ p → is_repairing p ≡ true → done_of p ≡ now_in session.database
        → (changes_answer_at Next session page).answer ≡ (changes_answer_at Now (switched session worker) page).answer
    by Idle phase repairing done = cc
    by (Repairing edits n) phase repairing done = changes-end session worker page edits (phase ∙ ap (Repairing edits) done)
