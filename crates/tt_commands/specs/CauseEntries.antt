-- Why a repair re-executed its slots.
use Rattle.std.specs.Prelude.{ℕ, ◌+◌, ◌-◌, ◌==◌, max, nat_lt, Bool, false, List, length, take, Option, None, Some, Result}
use Rattle.std.specs.List.{filter_map, range_with_len}
use Rattle.std.specs.Option.{option_map}
use Rattle.tt_causes.specs.Causes.{Cause}
use Rattle.tt_db.specs.Database.{Database}
use Rattle.tt_requests.specs.declared.request.SlotPage.{SlotPage}
use Rattle.tt_requests.specs.declared.told.ToldTime.{ToldTime}
use Rattle.tt_requests.specs.declared.told.ToldGeneration.{ToldGeneration}
use Rattle.tt_requests.specs.Numbers.{Numbering, own_time}
use Rattle.tt_answers.specs.declared.answer.CauseEntry.{CauseEntry}
use Rattle.tt_answers.specs.declared.answer.Refusal.{Refusal}
use Rattle.tt_answers.specs.declared.answer.Answer.{Answer}
use Rattle.tt_answers.specs.declared.answer.Answer.TheVariants as answers
use Rattle.tt_answers.specs.CauseText.{slot_cause}
use Rattle.tt_commands.specs.declared.asked_repair.AskedRepair.{AskedRepair}
use Rattle.tt_commands.specs.Session.{OpenSession}
use Rattle.tt_commands.specs.Answers.{Answered}
use Rattle.tt_commands.specs.AskedRepairs.{asked_repair, done_by, cause_by, answer_of}

-- the last slot before those that are asked for, by the numbers of the database. Slots up to the horizon aren't told
abbrev pub slot_before : Numbering → Option ToldTime → ℕ
slot_before numbering None = numbering.ground_slots
slot_before numbering (Some after) = max (own_time numbering after) numbering.ground_slots

-- a slot with its cause
abbrev pub entry_with : ℕ → Cause → CauseEntry
entry_with slot c = record { slot = slot; cause = slot_cause c }

-- what is told of a slot, if a repair re-executed it
abbrev pub cause_entry : Database → AskedRepair → ℕ → Option CauseEntry
cause_entry db repair slot = option_map (entry_with slot) (cause_by db repair slot)

-- the slots behind one that a repair re-executed, by rising number, each with its cause
abbrev pub cause_entries : Database → AskedRepair → ℕ → List CauseEntry
cause_entries db repair before = filter_map (cause_entry db repair) (range_with_len (before + 1) (done_by db repair - before))

-- whether so many are as many as are asked for
abbrev pub is_full : Option ℕ → ℕ → Bool
is_full None count = false
is_full (Some most) count = count == most

-- the first of some entries, as many as are asked for; all of them, where no number is asked for
abbrev pub first_entries : {X : Type 0} → Option ℕ → List X → List X
first_entries None entries = entries
first_entries (Some most) entries = take most entries

-- whether more entries follow than are asked for
abbrev pub more_follow : {X : Type 0} → Option ℕ → List X → Bool
more_follow None entries = false
more_follow (Some most) entries = nat_lt most (length entries)

-- how many slots a repair has done, and the page that is asked for of those that it re-executed
abbrev pub causes_answer : OpenSession → SlotPage → AskedRepair → Answer
causes_answer session page repair =
    let db = session.database in
    let entries = cause_entries db repair (slot_before session.numbering page.after) in
    answers.Causes (done_by db repair) (first_entries page.most entries) (option_map (λ most. more_follow (Some most) entries) page.most)

-- why slots were re-executed by the repair under way, or by the one that closed a generation
abbrev pub why : OpenSession → Option ToldGeneration → SlotPage → Result Answered Refusal
why session generation page = answer_of session (causes_answer session page) (asked_repair session generation)
