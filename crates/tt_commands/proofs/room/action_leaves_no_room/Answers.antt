-- The room behind the entry of an action.
use Rattle.std.proofs.Common.{◌≡◌, ◌-◌, ◌&&◌, true, nat_le, length, sym, ap, ◌∙◌}
use Rattle.tt_generations.specs.TwoGenerations.{is_repairing}
use Rattle.tt_db.specs.State.{slots_left}
use Rattle.tt_db.specs.Database.{state_of}
use Rattle.tt_commands.proofs.RoomLemmas.{no_room-write}
use Rattle.tt_commands.proofs.room.action_leaves_no_room.Goals as goal

pub returns-then-is_repairing : goal.returns-then-is_repairing
returns-then-is_repairing c action =
    let db = c.args.db.now in
    let S = state_of db in
    let room : c.saturating_sub.result ≡ db.limits.events - length db.history - 1 - 1 = c.saturating_sub.ensures ∙ ap (λ n. n - 1) c.room_behind_entry.ensures in
    let repairing : is_repairing S.phase ≡ true = sym c.is_repairing.ensures ∙ c.if-is_repairing.true in
    (λ i. nat_le (room i) (c.slots_left.ensures.left i))
    ∙ ap (λ b. b && nat_le (db.limits.events - length db.history - 1 - 1) (slots_left S)) (sym repairing)
    ∙ no_room-write db action c.slots_left.ensures.within
