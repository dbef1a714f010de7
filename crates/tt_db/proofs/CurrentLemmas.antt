-- What becomes of the current answers after an event, what a step passes over, and what the next side shows.
use Rattle.std.proofs.Common.{◌≡◌, ℕ, ◌≤◌, ℤ, Some, refl, sym, ap, ◌∙◌, arith}
use Rattle.tt_values.specs.Content.{row_at}
use Rattle.tt_values.specs.Tables.{Tables}
use Rattle.tt_values.specs.RowWrites.{Slots}
use Rattle.tt_values.proofs.LawProofs.{added_slot_leaves_past}
use Rattle.tt_repair_laws.proofs.LawProofs.{no_affected_slot_is_missed, content_after_is_kept, next_side_shows_edited_slots}
use Rattle.tt_generations.specs.TwoGenerations.{Phase, Idle, Repairing, next_side_of, next_content_in, next_content_at, done_of, IsWithin}
use Rattle.tt_db.specs.declared.event.Entry.{Entry}
use Rattle.tt_db.specs.declared.event.Event.{Event}
use Rattle.tt_db.specs.declared.event.Event.TheVariants as events
use Rattle.tt_db.specs.State.{State, current_at, next_state}
use Rattle.tt_db.specs.Database.{Database, state_of, current_slots, with_entry, IsDueOrSame, MissesNoSlot, ShowsCurrent}
use Rattle.tt_db.proofs.EntryLemmas.{after-push}

IsDueOrSame-law : (tables : Tables) (phase : Phase) (W : Slots) → IsDueOrSame tables phase W
IsDueOrSame-law tables Idle W = tt
IsDueOrSame-law tables (Repairing E n) W = no_affected_slot_is_missed tables W E n

pub MissesNoSlot-law : (db : Database) (event : Event) → MissesNoSlot db event
MissesNoSlot-law db (events.Write action) = tt
MissesNoSlot-law db (events.Begin edits) = tt
MissesNoSlot-law db events.Step = IsDueOrSame-law db.catalog (state_of db).phase (current_slots db)
MissesNoSlot-law db events.Switch = tt
MissesNoSlot-law db events.Abort = tt

pub ShowsCurrent-entry : (db : Database) (entry : Entry) → ShowsCurrent db entry.event (with_entry db entry)
ShowsCurrent-entry db entry = by entry.event (after-push db.limits db.history entry)
  where
    by : (event : Event) → state_of (with_entry db entry) ≡ next_state db.limits (state_of db) event → ShowsCurrent db event (with_entry db entry)
    by (events.Write action) next = λ time past. ap (λ (S : State). current_at S time) next ∙ added_slot_leaves_past (current_slots db) (Some action) time past
    by (events.Begin edits) next = record { slots = ap (λ (S : State). S.slots) next; contents = λ time. ap (λ (S : State). current_at S time) next }
    by events.Step next = record { slots = ap (λ (S : State). S.slots) next; contents = λ time. ap (λ (S : State). current_at S time) next }
    by events.Switch next = record { slots = ap (λ (S : State). S.slots) next; contents = λ time. ap (λ (S : State). current_at S time) next }
    by events.Abort next = record { slots = ap (λ (S : State). S.slots) next; contents = λ time. ap (λ (S : State). current_at S time) next }

-- up to the last slot that the repair has done, the next side shows the next generation
pub next_side-shows : (tables : Tables) (phase : Phase) (W : Slots) (table : ℕ) (key : ℤ) (time : ℕ) → IsWithin phase W → time ≤ done_of phase
    → next_side_of tables phase W table key time ≡ row_at (next_content_at phase W time table) key
next_side-shows tables Idle W table key time within past = refl
next_side-shows tables (Repairing E n) W table key time within past = next_side_shows_edited_slots tables W E n time table key within past

-- its content at that slot is that of the next generation
pub next_content-is : (phase : Phase) (W : Slots) → next_content_in phase W ≡ next_content_at phase W (done_of phase)
next_content-is Idle W = sym (content_after_is_kept W 0 (omega arith))
next_content-is (Repairing E n) W = refl
