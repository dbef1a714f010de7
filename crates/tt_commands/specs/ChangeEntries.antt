-- Which of the recorded calls are answered differently now, or will be after the repair.
use Rattle.std.specs.Prelude.{ℕ, nat_lt, ◌&&◌, Bool, true, false, if◌then◌else◌, List, [], ◌∷◌, filter_map, Option, None, Some, option_map, option_and_then, Result, Ok}
use Rattle.tt_db.specs.State.{unless_repairing}
use Rattle.tt_db.specs.Database.{Database}
use Rattle.tt_records.specs.declared.record.Record.{Record}
use Rattle.tt_records.specs.declared.record.What.{What}
use Rattle.tt_records.specs.declared.record.What.TheVariants as whats
use Rattle.tt_records.specs.declared.changed.Changed.{Changed}
use Rattle.tt_records.specs.Changes.{change_of, next_change_of}
use Rattle.tt_requests.specs.declared.request.CallKind.{CallKind}
use Rattle.tt_requests.specs.declared.request.CallKind.TheVariants as kinds
use Rattle.tt_requests.specs.declared.request.ChangePage.{ChangePage}
use Rattle.tt_answers.specs.declared.answer.Refusal.{Refusal}
use Rattle.tt_answers.specs.declared.answer.Answer.TheVariants as answers
use Rattle.tt_answers.specs.declared.answer.AskedFor.{AskedFor}
use Rattle.tt_answers.specs.declared.answer.AskedFor.TheVariants as asked
use Rattle.tt_answers.specs.declared.answer.ChangeEntry.{ChangeEntry}
use Rattle.tt_answers.specs.declared.answer.Place.{Place}
use Rattle.tt_answers.specs.AnswerText.{place_of}
use Rattle.tt_commands.specs.Session.{OpenSession, state_in}
use Rattle.tt_commands.specs.Answers.{Answered}
use Rattle.tt_commands.specs.Repairing.{unless_refused}
use Rattle.tt_commands.specs.SlotEntries.{is_asked_for, asked_action}
use Rattle.tt_commands.specs.CauseEntries.{first_entries, more_follow}

-- the call of the first of some records, or this call where there is none
abbrev pub first_call : List Record → ℕ → ℕ
first_call [] call = call
first_call (first ∷ records) call = first.call

-- whether a call is of the kind that is asked for, if one is
abbrev pub is_of_kind : Option CallKind → What → Bool
is_of_kind None what = true
is_of_kind (Some kinds.Writes) (whats.Write slot replies) = true
is_of_kind (Some kinds.Writes) what = false
is_of_kind (Some kinds.Reads) (whats.Read select time reply) = true
is_of_kind (Some kinds.Reads) what = false

-- whether a call is behind the one that is asked for, if one is
abbrev pub is_behind : Option ℕ → ℕ → Bool
is_behind None call = true
is_behind (Some after) call = nat_lt after call

-- whether a page asks for the changed reply of a record
abbrev pub is_wanted : ChangePage → Record → Bool
is_wanted page r = is_asked_for page.worker r.worker && (is_of_kind page.only r.what && is_behind page.after r.call)

-- what a call asked for: a write the action that took its slot, a select itself
abbrev pub asked_for_by : Database → What → Option AskedFor
asked_for_by db (whats.Write slot replies) = option_map asked.Action (asked_action db slot)
asked_for_by db (whats.Read select time reply) = Some (asked.Select select)
asked_for_by db what = None

-- a change with the place of its call, and with who asked for what where that is told
abbrev pub told_change : Database → Bool → Record → Changed → Place → ChangeEntry
told_change db is_told r change place = record {
  worker = if is_told then Some r.worker else None;
  place = place;
  change = change;
  asked = if is_told then asked_for_by db r.what else None;
}

-- what is told of a record, if it has a change
abbrev pub entry_of_change : Database → Bool → Record → Option Changed → Option ChangeEntry
entry_of_change db is_told r change = option_and_then (λ c. option_map (told_change db is_told r c) (place_of r.what)) change

-- what a page tells of a record, if it has a change and the page asks for it
abbrev pub wanted_entry : Database → ChangePage → (Record → Option Changed) → Record → Option ChangeEntry
wanted_entry db page change_in r = if is_wanted page r then entry_of_change db page.asked r (change_in r) else None

-- the changes of records that a page asks for, in order
abbrev pub entries_of_changes : Database → ChangePage → (Record → Option Changed) → List Record → List ChangeEntry
entries_of_changes db page change_in records = filter_map (wanted_entry db page change_in) records

-- the session stays, and tells these changes: as many as the page asks for, and whether more follow where it asks for a number
abbrev pub changes_answer : OpenSession → ChangePage → (Record → Option Changed) → Answered
changes_answer session page change_in =
    let entries = entries_of_changes session.database page change_in session.records in
    let more = option_map (λ most. more_follow (Some most) entries) page.most in
    record {
      answer = answers.Changes (first_call session.records session.calls) (first_entries page.most entries) more;
      session = session;
    }

-- the calls that are answered differently now
abbrev pub changes : OpenSession → ChangePage → Result Answered Refusal
changes session page = Ok (changes_answer session page (change_of session.database.catalog (state_in session)))

-- the calls that are answered differently in the next generation, as far as the repair is
abbrev pub next_changes : OpenSession → ChangePage → Result Answered Refusal
next_changes session page =
    let S = state_in session in
    unless_refused (unless_repairing S.phase) (changes_answer session page (next_change_of session.database.catalog S))
