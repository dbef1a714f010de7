-- The slots that are left are those behind the one in front of the number, whether they are begun anew or not.
use Rattle.std.proofs.Common.{◌≡◌, sym, ap, subst, ◌∙◌}
use Rattle.tt_generations.specs.KeptSlots.{slot_at}
use Rattle.tt_generations.specs.SlotsAfter.{AreSlotsAfter}
use Rattle.tt_db.specs.Database.{Database, state_of}
use Rattle.tt_records.specs.declared.slots_in_order.SlotsInOrder.TheInside.{Inside}
use Rattle.tt_records.proofs.SlotsInOrderLemmas.{next-is, left-behind}
use Rattle.tt_records.proofs.slots_in_order.SlotsInOrder.slot.Goals as goal
use Rattle.tt_records.proofs.slots_in_order.SlotsInOrder.slot.Goals.{After-next, then-before-self, else-before-self}

left : (c : After-next) → AreSlotsAfter c.in_ok-before.before (state_of c.if-before-self.self-inside.db.now).slots c.if-before-self.self-inside.left
left c =
    let before = c.in_ok-before.before in
    let are = λ (s : Inside). AreSlotsAfter before (state_of s.db.now).slots s.left in
    elim c.if-before-self.branch [
      | then-before-self w ↦ subst are (sym w.self-inside-is) w.slots_after-self-inside.ensures
      | else-before-self w ↦ subst are (sym w.self-inside-is) (subst (λ n. AreSlotsAfter n (state_of c.self.inside.db.now).slots c.self.inside.left) (sym w.if-before-self.false) c.self.invariant)
    ]

database : (c : After-next) → c.if-before-self.self-inside.db.now ≡ c.args.self.now
database c =
    elim c.if-before-self.branch [
      | then-before-self w ↦ ap (λ (s : Inside). s.db.now) w.self-inside-is ∙ c.self.view_is
      | else-before-self w ↦ ap (λ (s : Inside). s.db.now) w.self-inside-is ∙ c.self.view_is
    ]

pub invariant_of-self : goal.invariant_of-self
invariant_of-self c =
    let s = c.if-before-self.self-inside in
    left-behind (state_of s.db.now).slots c.args.number c.in_ok-before.before s.left c.next.new.self c.next.result c.in_ok-before.ensures.0 c.in_ok-before.ensures.1 (left c) c.next.ensures.steps

pub returns-clause-slot : goal.returns-clause-slot
returns-clause-slot c =
    let s = c.if-before-self.self-inside in
    next-is (state_of s.db.now).slots c.args.number c.in_ok-before.before s.left c.next.new.self c.next.result c.in_ok-before.ensures.0 c.in_ok-before.ensures.1 (left c) c.next.ensures.steps
    ∙ ap (λ (db : Database). slot_at (state_of db).slots c.args.number) (database c)
