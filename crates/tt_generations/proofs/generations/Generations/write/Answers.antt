-- The state with one slot more.
use Rattle.std.proofs.Common.{◌≡◌, ap, subst, sym, ◌∙◌, None, arith, length}
use Rattle.std.proofs.lemmas.List.{length-map}
use Rattle.tt_values.specs.Check.{action_fault}
use Rattle.tt_values.specs.Action.{replies_of}
use Rattle.tt_generations.specs.KeptSlots.{last_content}
use Rattle.tt_generations.specs.TwoGenerations.{TwoGenerations, with_action}
use Rattle.tt_generations.proofs.generations.Generations.write.Goals as goal

pub add_action-requires-clause-accepted : goal.add_action-requires-clause-accepted
add_action-requires-clause-accepted c = subst (λ (G : TwoGenerations). action_fault G.catalog c.args.action.writes ≡ None) (sym c.self.view_is) c.requires.accepted

pub add_action-requires-clause-room : goal.add_action-requires-clause-room
add_action-requires-clause-room c =
    let slots = c.self.inside.state.slots in
    omega (arith, c.requires.room, length-map slots (λ t. t.slot.action), ap (λ (G : TwoGenerations). length G.slots) c.self.view_is)

pub returns-in-Ok-clause-state : goal.returns-in-Ok-clause-state
returns-in-Ok-clause-state c =
    let new = c.in-Ok.ensures in
    (λ i. record { catalog = new.catalog i; slots = new.slots i; phase = new.phase i }) ∙ ap (λ (G : TwoGenerations). with_action G c.args.action) c.self.view_is

pub returns-in-Ok-clause-replies : goal.returns-in-Ok-clause-replies
returns-in-Ok-clause-replies c = c.in-Ok.ensures.replies ∙ ap (λ (G : TwoGenerations). replies_of c.args.action (last_content G.slots)) c.self.view_is
