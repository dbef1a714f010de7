-- The contents after slots, each made from the one before it.
use Rattle.std.proofs.Common.{◌≡◌, ℕ, suc, List, [], ◌∷◌, length, map, fold, flat_map, Option, None, Some, refl, sym, ap, ◌∙◌}
use Rattle.tt_values.specs.declared.statement.Write.{Write}
use Rattle.tt_values.specs.declared.action.Action.{Action}
use Rattle.tt_values.specs.Content.{Content, with_row_write, empty_content}
use Rattle.tt_values.specs.Action.{action_of, content_after_writes, content_after_action}
use Rattle.tt_values.specs.ActionLaws.{IsByRisingKey}
use Rattle.tt_values.specs.RowWrites.{Slots, slot_after, slot_writes, row_writes}
use Rattle.tt_values.proofs.LawProofs.{rows_rise, next_content, action_leaves_its_last_content, writes_follow}
use Rattle.tt_repair_laws.specs.Due.{content_after}

-- the content after a slot. A cancelled slot leaves it as it is
abbrev pub content_after_slot : Option Action → Content → Content
content_after_slot None X = X
content_after_slot (Some action) X = content_after_action action X

-- the rows of each table rise after any number of slots
pub content_rises : (W : Slots) (n : ℕ) → IsByRisingKey (content_after W n)
content_rises W n table = rows_rise (row_writes W n) n table

-- the row writes of a slot leave the content after it, whatever their time is
slot_leaves : (time : ℕ) (s : Option Action) (X : Content) → IsByRisingKey X → fold with_row_write X (slot_writes time s X) ≡ content_after_slot s X
slot_leaves time None X rising = refl
slot_leaves time (Some action) X rising = action_leaves_its_last_content time action X rising

-- each content is made from the one before it by the slot between them
pub next_by_slot : (W : Slots) (n : ℕ) → content_after W (suc n) ≡ content_after_slot (slot_after W n) (content_after W n)
next_by_slot W n = next_content W n ∙ slot_leaves (suc n) (slot_after W n) (content_after W n) (content_rises W n)

-- before the first slot there are no rows
pub first_content : (W : Slots) → content_after W 0 ≡ empty_content
unfolding row_writes
first_content W = refl

-- the content after slots in turn, from a content on
abbrev pub after_slots : Slots → Content → Content
after_slots [] X = X
after_slots (s ∷ W) X = after_slots W (content_after_slot s X)

-- contents that are made from one another by slots end with the one after all these slots
contents_in_turn : (W : Slots) (at : ℕ → Content) → ((i : ℕ) → at (suc i) ≡ content_after_slot (slot_after W i) (at i)) → at (length W) ≡ after_slots W (at 0)
contents_in_turn [] at h = refl
contents_in_turn (s ∷ W) at h = contents_in_turn W (λ i. at (suc i)) (λ i. h (suc i)) ∙ ap (after_slots W) (h 0)

-- the content after all slots of a list is the one after them in turn
pub content_after_all : (W : Slots) → content_after W (length W) ≡ after_slots W empty_content
content_after_all W = contents_in_turn W (content_after W) (next_by_slot W) ∙ ap (after_slots W) (first_content W)

-- writes, some of them in a slot each, leave the content after all of them
pub after_slots-writes : (G : List (List Write)) (X : Content) → after_slots (map Some (map action_of G)) X ≡ content_after_writes (flat_map (λ ws. ws) G) X
after_slots-writes [] X = refl
after_slots-writes (ws ∷ G) X =
    let rest = flat_map (λ (next : List Write). next) G in
    after_slots-writes G (content_after_writes ws X) ∙ sym (writes_follow ws rest X).0
