-- The room behind the entry of each event.
use Rattle.std.proofs.Common.{◌≡◌, ◌-◌, ◌&&◌, true, nat_le, length, sym, ap, ◌∙◌}
use Rattle.tt_generations.specs.TwoGenerations.{is_repairing}
use Rattle.tt_db.specs.declared.event.Event.{Event}
use Rattle.tt_db.specs.State.{next_state, slots_left}
use Rattle.tt_db.specs.Database.{state_of}
use Rattle.tt_commands.specs.Room.{has_no_room_to_end}
use Rattle.tt_commands.proofs.RoomLemmas.{no_room-step}
use Rattle.tt_commands.proofs.room.leaves_no_room.Goals as goal

pub returns-in-Write : goal.returns-in-Write
returns-in-Write c =
    let db = c.args.db.now in
    let S = state_of db in
    c.action_leaves_no_room.ensures c.in-Write.field-0
    ∙ ap (λ (e : Event). has_no_room_to_end db.limits (next_state db.limits S e)) (sym c.in-Write.is)

pub returns-in-Begin : goal.returns-in-Begin
returns-in-Begin c =
    let db = c.args.db.now in
    let S = state_of db in
    c.beginning_leaves_no_room.ensures c.in-Begin.field-0
    ∙ ap (λ (e : Event). has_no_room_to_end db.limits (next_state db.limits S e)) (sym c.in-Begin.is)

pub returns-then-is_repairing : goal.returns-then-is_repairing
returns-then-is_repairing c =
    let db = c.args.db.now in
    let S = state_of db in
    let left : c.saturating_sub.result ≡ slots_left S - 1 = c.saturating_sub.ensures ∙ ap (λ n. n - 1) c.slots_left.ensures.left in
    let repairing : is_repairing S.phase ≡ true = sym c.is_repairing.ensures ∙ c.if-is_repairing.true in
    (λ i. nat_le (c.room_behind_entry.ensures i) (left i))
    ∙ ap (λ b. b && nat_le (db.limits.events - length db.history - 1) (slots_left S - 1)) (sym repairing)
    ∙ no_room-step db
    ∙ ap (λ (e : Event). has_no_room_to_end db.limits (next_state db.limits S e)) (sym c.in-Step.is)
