-- What requests ask for, by the numbers that a session tells: selects at a time or in a generation, slots, and the edits of a repair.
use Rattle.std.specs.Prelude.{ℕ, ◌+◌, Bool, false, List, map, is_none, Option, None, Some, option_map, unwrap_or, Result, Err, if◌then◌else◌}
use Rattle.tt_values.specs.declared.statement.Select.{Select}
use Rattle.tt_repair_laws.specs.declared.edit.Edit.{Edit}
use Rattle.tt_generations.specs.TwoGenerations.{is_repairing}
use Rattle.tt_db.specs.declared.errors.ReadError.TheVariants as read_errors
use Rattle.tt_db.specs.State.{slots_in}
use Rattle.tt_db.specs.Database.{now_in, oldest_in}
use Rattle.tt_requests.specs.declared.told.ToldTime.{ToldTime}
use Rattle.tt_requests.specs.declared.told.ToldGeneration.{ToldGeneration}
use Rattle.tt_requests.specs.Numbers.{Numbering, own_time, is_forgotten_time, is_behind_horizon, own_generation}
use Rattle.tt_requests.specs.ToldEdits.{missing_slot, own_edit}
use Rattle.tt_requests.specs.declared.request.Page.{Page}
use Rattle.tt_requests.specs.declared.request.ToldEdits.{ToldEdits}
use Rattle.tt_answers.specs.declared.answer.Refusal.{Refusal}
use Rattle.tt_answers.specs.declared.answer.Refusal.TheVariants as refusals
use Rattle.tt_commands.specs.Session.{OpenSession, state_in}
use Rattle.tt_commands.specs.Answers.{Answered}
use Rattle.tt_commands.specs.Reading.{read}
use Rattle.tt_commands.specs.Repairing.{begin}

-- a generation can't be read
abbrev pub no_generation : OpenSession → Refusal
no_generation session = refusals.Read (read_errors.NoGeneration (oldest_in session.database) (state_in session).generation)

-- a time before the horizon isn't there any more, in a generation that can be read
abbrev pub forgotten_in : OpenSession → ℕ → Refusal
forgotten_in session number = if is_none (slots_in (state_in session) number) then no_generation session else refusals.Forgotten

-- whether a time is given that lies before the horizon
abbrev pub asks_for_forgotten : Numbering → Option ToldTime → Bool
asks_for_forgotten numbering None = false
asks_for_forgotten numbering (Some at) = is_forgotten_time numbering at

-- a select of a generation of the database, if one is given, at a time as it is told, if one is given
abbrev pub read_at : OpenSession → ℕ → Select → Option ℕ → Option ToldTime → Page → Result Answered Refusal
read_at session worker select generation at page =
    if asks_for_forgotten session.numbering at then Err (forgotten_in session (unwrap_or generation (state_in session).generation))
    else read session worker select generation (option_map (own_time session.numbering) at) page

-- the same of a generation, if it can be one of the database
abbrev pub read_in : OpenSession → ℕ → Select → Option ℕ → Option ToldTime → Page → Result Answered Refusal
read_in session worker select None at page = Err (no_generation session)
read_in session worker select (Some number) at page = read_at session worker select (Some number) at page

-- a select of a generation and at a time as they are told, each of which may be left out
abbrev pub read_as_told : OpenSession → ℕ → Select → Option ToldGeneration → Option ToldTime → Page → Result Answered Refusal
read_as_told session worker select None at page = read_at session worker select None at page
read_as_told session worker select (Some generation) at page = read_in session worker select (own_generation session.numbering generation) at page

-- the first slot from one on that isn't forgotten, and the last one, by the numbers of the database
abbrev pub first_slot : Numbering → ToldTime → ℕ
first_slot numbering from = if is_behind_horizon numbering from then own_time numbering from else numbering.ground_slots + 1

abbrev pub last_slot : Numbering → ToldTime → ℕ
last_slot numbering to = own_time numbering to

-- a repair begins, unless a slot isn't there
abbrev pub unless_missing : Option ToldTime → Result Answered Refusal → Result Answered Refusal
unless_missing None outcome = outcome
unless_missing (Some slot) outcome = Err (refusals.NoSlot slot)

-- the slot that isn't there, if no repair is under way, which is refused before that
abbrev pub missing_if_idle : OpenSession → List Edit → Option ToldTime
missing_if_idle session edits = if is_repairing (state_in session).phase then None else missing_slot session.numbering (now_in session.database) edits

-- a repair begins with edits whose slots are told
abbrev pub begin_as_told : OpenSession → ℕ → ToldEdits → Result Answered Refusal
begin_as_told session worker told =
    unless_missing (missing_if_idle session told.edits) (begin session worker (map (own_edit session.numbering) told.edits))
