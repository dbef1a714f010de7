-- Repairs that edit only slots behind the horizon, with and without the slots before it.
use Rattle.std.proofs.Common.{◌≡◌, ℕ, suc, ◌<◌, ◌≤◌, ◌||◌, List, [], ◌++◌, length, map, fold, All, Option, None, Some, is_some, option_map, if◌then◌else◌, refl, sym, ap, ◌∙◌, inl, inr, arith}
use Rattle.std.proofs.lemmas.Bool.{cases_lt}
use Rattle.tt_values.specs.declared.action.Action.{Action}
use Rattle.tt_values.specs.Tables.{Tables}
use Rattle.tt_values.specs.Action.{action_of}
use Rattle.tt_values.specs.RowWrites.{Slots, slot_after, content_of}
use Rattle.tt_parts.specs.Dirty.{DirtySet}
use Rattle.tt_repair_laws.specs.declared.edit.Edit.{Edit}
use Rattle.tt_repair_laws.specs.declared.edit.Edit.TheVariants.{Cancel, Replace}
use Rattle.tt_repair_laws.specs.Edits.{edit_of, slot_with_edit, edited_slots}
use Rattle.tt_repair_laws.specs.Due.{content_after, is_slot_affected, slot_rows_touched, slot_rows_matched, with_row_of, is_due_by, is_due, rows_reexecuted, dirty_after, reexecuted_count}
use Rattle.tt_repair_laws.proofs.LawProofs.{edited_slots_are_as_many, edited_slot_is_next}
use Rattle.tt_horizon.specs.Ground.{on_ground, moved, moved_edit}
use Rattle.tt_horizon.specs.Laws.{Leaves, IsBehind, IsSameBehind, replies_or_none, ForgettingKeepsRepairs, GroundIsNeverDue}
use Rattle.tt_horizon.proofs.SlotsLemmas.{content_after_slot, next_by_slot}
use Rattle.tt_horizon.proofs.GroundSlotsLemmas.{later_times, slot_past, slots_alike, length-on_ground, content_at_horizon, contents_alike}
use Rattle.tt_horizon.proofs.EditsLemmas.{no_edit_before, edit_of-moved, IsBehind-moved}
use Rattle.tt_horizon.proofs.UndueLemmas.{nothing_dirty_yet, no_slot_due_yet, none_reexecuted_yet, same_content_yet}

-- a function of what is there leaves it there
is_some-option_map : {A B : Type 0} (f : A → B) (o : Option A) → is_some (option_map f o) ≡ is_some o
is_some-option_map f None = refl
is_some-option_map f (Some x) = refl

-- no slot of the ground is due
pub ground_is_never_due : GroundIsNeverDue
ground_is_never_due tables W G time X E i behind h =
    let k = length G in
    let F = map (moved_edit time k) E in
    no_slot_due_yet tables (on_ground G W time ++ X) F k (no_edit_before k F (IsBehind-moved time k E behind)) i h

module _ (tables : Tables) (W : Slots) (G : List Action) (time : ℕ) (X : Slots) (E : List Edit) where
  -- all slots
  abbrev old : Slots
  old = W ++ X

  -- the slots on the ground
  abbrev new : Slots
  new = on_ground G W time ++ X

  -- the edits of these slots
  abbrev moved_edits : List Edit
  moved_edits = map (moved_edit time (length G)) E

  -- where a time comes to stand
  abbrev place : ℕ → ℕ
  place n = moved time (length G) n

  module _ (leaves : Leaves G (content_of W time)) (early : time ≤ length W) (behind : All (IsBehind time) E) where
    -- no slot up to the horizon has an edit
    unedited : (i : ℕ) → i < time → edit_of E (suc i) ≡ None
    unedited = no_edit_before time E behind

    -- no slot of the ground has an edit
    unedited_ground : (i : ℕ) → i < length G → edit_of moved_edits (suc i) ≡ None
    unedited_ground = no_edit_before (length G) moved_edits (IsBehind-moved time (length G) E behind)

    -- a slot with its edit is as the one behind the ground with the moved edit
    with_edit_alike : {A : Type 0} (f : Option Action → A) → f (Some (action_of [])) ≡ f None → (n : ℕ) → time ≤ n → (o : Option Edit) →
        f (slot_with_edit (option_map (moved_edit time (length G)) o) (slot_after new (place n))) ≡ f (slot_with_edit o (slot_after old n))
    with_edit_alike f h n later None = slots_alike W G time X early f h n later
    with_edit_alike f h n later (Some (Cancel t)) = refl
    with_edit_alike f h n later (Some (Replace t action)) = refl

    -- what is told of cancelled slots as of the action of no writes is the same of each edited slot behind the horizon
    edited_alike : {A : Type 0} (f : Option Action → A) → f (Some (action_of [])) ≡ f None → (n : ℕ) → time ≤ n →
        f (slot_after (edited_slots new moved_edits) (place n)) ≡ f (slot_after (edited_slots old E) n)
    edited_alike f h n later = elim (cases_lt n (length old)) [
      | inl within ↦
          ap f (edited_slot_is_next new moved_edits (place n) (omega (arith, within, later, as_long)))
          ∙ ap (λ o. f (slot_with_edit o (slot_after new (place n)))) (edit_of-moved time (length G) E behind n later)
          ∙ with_edit_alike f h n later (edit_of E (suc n))
          ∙ sym (ap f (edited_slot_is_next old E n within))
      | inr past ↦
          ap f (slot_past (edited_slots new moved_edits) (place n) (omega (arith, past, later, as_long, edited_slots_are_as_many new moved_edits)))
          ∙ sym (ap f (slot_past (edited_slots old E) n (omega (arith, past, edited_slots_are_as_many old E))))
    ]
      where
        as_long : length new ≡ place (length old)
        as_long = length-on_ground W G time X early

    -- the slots leave the same contents from the horizon on
    same_current : (n : ℕ) → time ≤ n → content_after new (place n) ≡ content_after old n
    same_current = contents_alike W G time X early leaves

    -- the edited slots leave the same content after the next slot if they do before it
    edited_next : (n : ℕ) → time ≤ n → content_after (edited_slots new moved_edits) (place n) ≡ content_after (edited_slots old E) n →
        content_after (edited_slots new moved_edits) (suc (place n)) ≡ content_after (edited_slots old E) (suc n)
    edited_next n later same =
        let U = edited_slots old E in
        let V = edited_slots new moved_edits in
        next_by_slot V (place n)
        ∙ edited_alike (λ s. content_after_slot s (content_after V (place n))) refl n later
        ∙ ap (content_after_slot (slot_after U n)) same
        ∙ sym (next_by_slot U n)

    -- the edited slots leave the same content at the horizon
    edited_at_horizon : content_after (edited_slots new moved_edits) (length G) ≡ content_after (edited_slots old E) time
    edited_at_horizon =
        same_content_yet tables new moved_edits (length G) unedited_ground (length G) (omega arith)
        ∙ content_at_horizon W G time X early leaves
        ∙ sym (same_content_yet tables old E time unedited time (omega arith))

    -- the edited slots leave the same contents from the horizon on
    same_edited : (n : ℕ) → time ≤ n → content_after (edited_slots new moved_edits) (place n) ≡ content_after (edited_slots old E) n
    same_edited =
        let Same : ℕ → ℕ → Type 0 = λ m n. content_after (edited_slots new moved_edits) m ≡ content_after (edited_slots old E) n in
        later_times Same time (length G) edited_at_horizon edited_next

    -- by sets that are the same, the same slots are due
    same_due_by : (n : ℕ) → time ≤ n → (C D : DirtySet) → C ≡ D → is_due_by tables new moved_edits (place n) C ≡ is_due_by tables old E n D
    same_due_by n later C D e =
        let edit = ap is_some (edit_of-moved time (length G) E behind n later) ∙ is_some-option_map (moved_edit time (length G)) (edit_of E (suc n)) in
        let current = same_current n later in
        let slot = slots_alike W G time X early (λ s. is_slot_affected tables C s (content_after new (place n))) refl n later in
        let affected = slot ∙ (λ i. is_slot_affected tables (e i) (slot_after old n) (current i)) in
        λ i. edit i || affected i

    -- a slot that is due gets the same rows dirty
    same_rows : (n : ℕ) → time ≤ n → rows_reexecuted new moved_edits (place n) ≡ rows_reexecuted old E n
    same_rows n later =
        let current = same_current n later in
        let edited = same_edited n later in
        let slot = slots_alike W G time X early (λ s. slot_rows_touched s (content_after new (place n))) refl n later in
        let touched = slot ∙ (λ i. slot_rows_touched (slot_after old n) (current i)) in
        let matched =
        edited_alike (λ s. slot_rows_matched s (content_after (edited_slots new moved_edits) (place n))) refl n later
        ∙ (λ i. slot_rows_matched (slot_after (edited_slots old E) n) (edited i)) in
        λ i. touched i ++ matched i

    -- what is dirty after the next slot is the same if it was before it
    dirty_next : (n : ℕ) → time ≤ n → dirty_after tables new moved_edits (place n) ≡ dirty_after tables old E n →
        dirty_after tables new moved_edits (suc (place n)) ≡ dirty_after tables old E (suc n)
    unfolding dirty_after
    dirty_next n later same =
        let due = same_due_by n later _ _ same in
        let rows = same_rows n later in
        let now = same_edited n later in
        let after = edited_next n later now in
        λ i. if due i then fold (with_row_of tables (now i) (after i)) (same i) (rows i) else same i

    -- the same is dirty from the horizon on
    same_dirty : (n : ℕ) → time ≤ n → dirty_after tables new moved_edits (place n) ≡ dirty_after tables old E n
    same_dirty = later_times (λ m n. dirty_after tables new moved_edits m ≡ dirty_after tables old E n) time (length G) base dirty_next
      where
        base : dirty_after tables new moved_edits (length G) ≡ dirty_after tables old E time
        base =
            nothing_dirty_yet tables new moved_edits (length G) unedited_ground (length G) (omega arith)
            ∙ sym (nothing_dirty_yet tables old E time unedited time (omega arith))

    -- the same slots are due from the horizon on
    same_due : (n : ℕ) → time ≤ n → is_due tables new moved_edits (place n) ≡ is_due tables old E n
    same_due n later = same_due_by n later _ _ (same_dirty n later)

    -- after the next slot as many are re-executed if it was so before it
    reexecuted_next : (n : ℕ) → time ≤ n → reexecuted_count tables new moved_edits (place n) ≡ reexecuted_count tables old E n →
        reexecuted_count tables new moved_edits (suc (place n)) ≡ reexecuted_count tables old E (suc n)
    unfolding reexecuted_count
    reexecuted_next n later same =
        let due = same_due n later in
        λ i. if due i then suc (same i) else same i

    -- as many slots are re-executed from the horizon on
    same_reexecuted : (n : ℕ) → time ≤ n → reexecuted_count tables new moved_edits (place n) ≡ reexecuted_count tables old E n
    same_reexecuted = later_times (λ m n. reexecuted_count tables new moved_edits m ≡ reexecuted_count tables old E n) time (length G) base reexecuted_next
      where
        base : reexecuted_count tables new moved_edits (length G) ≡ reexecuted_count tables old E time
        base =
            none_reexecuted_yet tables new moved_edits (length G) unedited_ground (length G) (omega arith)
            ∙ sym (none_reexecuted_yet tables old E time unedited time (omega arith))

-- a repair that edits only slots behind the horizon is the same on the ground
pub forgetting_keeps_repairs : ForgettingKeepsRepairs
forgetting_keeps_repairs tables W G time X E n leaves early behind later within =
    let V = on_ground G W time ++ X in
    let F = map (moved_edit time (length G)) E in
    let m = moved time (length G) n in
    let current = same_current tables W G time X E leaves early behind n later in
    let edited = same_edited tables W G time X E leaves early behind n later in
    let same : IsSameBehind tables (W ++ X) V E F n m = record {
      dirty = same_dirty tables W G time X E leaves early behind n later;
      due = same_due tables W G time X E leaves early behind n later;
      reexecuted = same_reexecuted tables W G time X E leaves early behind n later;
      current = current;
      edited = edited;
      replies = slots_alike W G time X early (λ s. replies_or_none s (content_after V m)) refl n later ∙ ap (replies_or_none (slot_after (W ++ X) n)) current;
      edited_replies =
          edited_alike tables W G time X E leaves early behind (λ s. replies_or_none s (content_after (edited_slots V F) m)) refl n later
          ∙ ap (replies_or_none (slot_after (edited_slots (W ++ X) E) n)) edited;
    } in same
