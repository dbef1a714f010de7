-- A session that forgets what lies before a time is sound afterwards.
use Rattle.std.proofs.Common.{◌≡◌, ℕ, suc, ◌+◌, ◌-◌, ◌<◌, ◌≤◌, ◌^◌, nat_lt, nat_le, min, Bool, true, false, ◌||◌, cond, List, [], ◌∷◌, length, Option, None, Some, Ok, refl, ap, arith}
use Rattle.std.specs.List.{cons_option}
use Rattle.std.proofs.lemmas.Bool.{ltb-false}
use Rattle.std.proofs.lemmas.Bool.Decides.{nat_tests}
use Rattle.tt_generations.specs.TwoGenerations.{is_repairing}
use Rattle.tt_db.specs.declared.errors.DbError.TheVariants as errors
use Rattle.tt_db.specs.declared.errors.ReadError.TheVariants as read_errors
use Rattle.tt_db.specs.Database.{Database, now_in}
use Rattle.tt_horizon.specs.Laws.{Forgets}
use Rattle.tt_horizon.proofs.LawProofs.{forgetting_is_sound}
use Rattle.tt_requests.specs.declared.told.ToldTime.{ToldTime}
use Rattle.tt_requests.specs.Numbers.{Numbering, number_limit, told_time, own_time, told_generation, is_forgotten_time}
use Rattle.tt_records.specs.declared.record.Record.{Record}
use Rattle.tt_answers.specs.declared.answer.Refusal.{Refusal}
use Rattle.tt_answers.specs.declared.answer.Refusal.TheVariants as refusals
use Rattle.tt_commands.specs.Session.{OpenSession, state_in}
use Rattle.tt_commands.specs.Answers.{Answered}
use Rattle.tt_commands.specs.Room.{has_no_room_to_end}
use Rattle.tt_commands.specs.Sound.{IsSound}
use Rattle.tt_commands.specs.Invariants.{IsOpenSession}
use Rattle.tt_commands.specs.Changes.{moved_record, records_behind, forgotten_by}
use Rattle.tt_commands.proofs.RecordLemmas.{few_rows-behind}
use Rattle.tt_commands.specs.Forgetting.{forgetting_of, forget_refusal, unless_forget_refused}

pub from_forget : (refusal : Option Refusal) (a b : Answered) → unless_forget_refused refusal a ≡ Ok b → (refusal ≡ None) × (a ≡ b)
from_forget None a b is = (refl, cc)
from_forget (Some refusal) a b is = cc

-- what is known where a session doesn't refuse to forget
pub record CanForget (session : OpenSession) (time : ToldTime) : Type 0 where
  pub idle : is_repairing (state_in session).phase ≡ false
  pub within : own_time session.numbering time ≤ now_in session.database
  pub time_limit : time.number < number_limit
  pub generation_limit : (told_generation session.numbering (state_in session).generation).number < number_limit

pub can_forget : (session : OpenSession) (time : ToldTime) → forget_refusal session time ≡ None → CanForget session time
can_forget session time none = go (is_repairing (state_in session).phase) refl (nat_lt told time.number) refl (is_forgotten_time session.numbering time) (nat_le number_limit time.number) refl (nat_le number_limit generation) refl none
  where
    now : ℕ
    now = now_in session.database

    told : ℕ
    told = (told_time session.numbering now).number

    generation : ℕ
    generation = (told_generation session.numbering (state_in session).generation).number

    refusal : Bool → Bool → Bool → Bool → Bool → Option Refusal
    refusal repairing later forgotten late high =
        cond repairing (Some (refusals.Event errors.Repairing)) (
        cond later (Some (refusals.Read (read_errors.Later now))) (
        cond forgotten (Some refusals.Forgotten) (
        cond (late || high) (Some (refusals.Event (errors.Full number_limit))) None)))

    go : (repairing : Bool) → is_repairing (state_in session).phase ≡ repairing → (later : Bool) → nat_lt told time.number ≡ later → (forgotten : Bool)
        → (late : Bool) → nat_le number_limit time.number ≡ late → (high : Bool) → nat_le number_limit generation ≡ high
        → refusal repairing later forgotten late high ≡ None → CanForget session time
    go true a later b forgotten late c high d none = cc
    go false a true b forgotten late c high d none = cc
    go false a false b true late c high d none = cc
    go false a false b false true c high d none = cc
    go false a false b false false c true d none = cc
    go false a false b false false c false d none = record {
      idle = a;
      within = within-now now time.number (session.numbering.horizon - session.numbering.ground_slots) (ltb-false told time.number b);
      time_limit = below time.number c;
      generation_limit = below generation d;
    }
      where
        below : (n : ℕ) → nat_le number_limit n ≡ false → n < number_limit
        below n is = grind (arith, nat_tests, is)

        within-now : (now time offset : ℕ) → time ≤ min (now + offset) (2 ^ 64 - 1) → time - offset ≤ now
        within-now now time offset le = omega (arith, le)

-- no more records stand behind a time than before
few-behind : (time size : ℕ) (records : List Record) → length (records_behind time size records) ≤ length records
few-behind time size [] = omega arith
few-behind time size (r ∷ records) = go (moved_record time size r) (few-behind time size records)
  where
    go : (moved : Option Record) → length (records_behind time size records) ≤ length records
        → length (cons_option moved (records_behind time size records)) ≤ suc (length records)
    go None few = omega (arith, few)
    go (Some m) few = omega (arith, few)

-- what a session has forgotten leaves it sound
pub forgets : (session : OpenSession) (time : ToldTime) → IsOpenSession session → CanForget session time
    → Forgets session.database (forgetting_of session time).db (own_time session.numbering time) (forgetting_of session time).ground_slots
forgets session time sound can = forgetting_is_sound session.database (own_time session.numbering time) sound.catalog sound.fits sound.legal can.idle can.within

pub forgetting-sound : (session : OpenSession) (time : ToldTime) → IsOpenSession session → CanForget session time
    → IsSound (forgetting_of session time).db (forgetting_of session time).numbering [] 0
forgetting-sound session time sound can =
    let f = forgets session time sound can in
    let db = session.database in
    let own = own_time session.numbering time in
    record {
      catalog = sound.catalog;
      fits = sound.fits;
      edits = sound.edits;
      legal = f.legal;
      room = ap (has_no_room_to_end db.limits) f.state;
      numbered = record {
        within = omega (arith, f.few);
        time = can.time_limit;
        generation = can.generation_limit;
      };
      few_records = omega arith;
      few_kept = omega arith;
      few_rows = omega arith;
    }

-- with the records that are still there
pub behind-sound : (before db : Database) (earlier n : Numbering) (records : List Record) (most time size : ℕ) → IsSound before earlier records most → IsSound db n [] 0
    → IsSound db n (records_behind time size records) most
behind-sound before db earlier n records most time size sound is = record {
  catalog = is.catalog;
  fits = is.fits;
  edits = is.edits;
  legal = is.legal;
  room = is.room;
  numbered = is.numbered;
  few_records = omega (arith, few-behind time size records, sound.few_records);
  few_kept = sound.few_kept;
  few_rows = omega (arith, few_rows-behind time size records, sound.few_rows);
}

pub forgotten-sound : (session : OpenSession) (time : ToldTime) → IsOpenSession session → forget_refusal session time ≡ None → IsOpenSession (forgotten_by session (forgetting_of session time))
forgotten-sound session time sound none =
    let f = forgetting_of session time in
    behind-sound session.database f.db session.numbering f.numbering session.records session.most_records f.time f.ground_slots sound
    (forgetting-sound session time sound (can_forget session time none))
