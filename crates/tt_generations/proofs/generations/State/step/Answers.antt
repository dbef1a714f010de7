-- The next slot of the repair is done, whether it was due or not.
use Rattle.std.proofs.Common.{◌≡◌, ◌<◌, Option, Some, length, slice_get, ap, subst, sym, ◌∙◌}
use Rattle.std.specs.List.{All}
use Rattle.std.specs.Option.{option_copied}
use Rattle.tt_values.specs.Tables.{Tables}
use Rattle.tt_values.specs.declared.row_id.RowId.{RowId}
use Rattle.tt_generations.specs.declared.repair.Repair.{Repair}
use Rattle.tt_generations.specs.KeptSlots.{IsAccepted, actions_of}
use Rattle.tt_generations.specs.Repair.{next_action}
use Rattle.tt_generations.specs.TwoGenerations.{is_due_in}
use Rattle.tt_generations.specs.Generations.{phase_of, AreGenerations}
use Rattle.tt_generations.proofs.GenerationsLemmas.{IsAtSlot-found, AreGenerations-step}
use Rattle.tt_generations.proofs.generations.State.step.Goals as goal

pub step-requires-clause-keyed : goal.step-requires-clause-keyed
step-requires-clause-keyed c =
    let g = c.args.self.now in
    let at = IsAtSlot-found g.catalog g.slots g.rows g.repair c.in-Some.repair c.in-Some-get.kept.now c.requires.parts c.in-Some.is (subst (λ (r : Repair). slice_get g.slots r.done ≡ Some c.in-Some-get.kept.now) c.deref.ensures (sym c.get.ensures ∙ ap option_copied c.in-Some-get.is)) in
    at.keyed

pub step-requires-clause-numbers : goal.step-requires-clause-numbers
step-requires-clause-numbers c =
    let g = c.args.self.now in
    let at = IsAtSlot-found g.catalog g.slots g.rows g.repair c.in-Some.repair c.in-Some-get.kept.now c.requires.parts c.in-Some.is (subst (λ (r : Repair). slice_get g.slots r.done ≡ Some c.in-Some-get.kept.now) c.deref.ensures (sym c.get.ensures ∙ ap option_copied c.in-Some-get.is)) in
    at.numbers

pub step-requires-clause-touched : goal.step-requires-clause-touched
step-requires-clause-touched c =
    let g = c.args.self.now in
    let at = IsAtSlot-found g.catalog g.slots g.rows g.repair c.in-Some.repair c.in-Some-get.kept.now c.requires.parts c.in-Some.is (subst (λ (r : Repair). slice_get g.slots r.done ≡ Some c.in-Some-get.kept.now) c.deref.ensures (sym c.get.ensures ∙ ap option_copied c.in-Some-get.is)) in
    subst (λ (tables : Tables). All (λ (row : RowId). row.table < length tables) c.in-Some-get.kept.now.rows) (sym c.get-2.ensures) at.touched

pub step-requires-clause-accepted : goal.step-requires-clause-accepted
step-requires-clause-accepted c =
    let g = c.args.self.now in
    let at = IsAtSlot-found g.catalog g.slots g.rows g.repair c.in-Some.repair c.in-Some-get.kept.now c.requires.parts c.in-Some.is (subst (λ (r : Repair). slice_get g.slots r.done ≡ Some c.in-Some-get.kept.now) c.deref.ensures (sym c.get.ensures ∙ ap option_copied c.in-Some-get.is)) in
    subst (λ (tables : Tables). IsAccepted tables (next_action c.in-Some.repair c.in-Some-get.kept.now)) (sym c.get-2.ensures) at.accepted

pub step-requires-clause-few : goal.step-requires-clause-few
step-requires-clause-few c =
    let g = c.args.self.now in
    let at = IsAtSlot-found g.catalog g.slots g.rows g.repair c.in-Some.repair c.in-Some-get.kept.now c.requires.parts c.in-Some.is (subst (λ (r : Repair). slice_get g.slots r.done ≡ Some c.in-Some-get.kept.now) c.deref.ensures (sym c.get.ensures ∙ ap option_copied c.in-Some-get.is)) in
    at.shows

pub returns-clause-parts : goal.returns-clause-parts
returns-clause-parts c =
    let g = c.args.self.now in
    let at = IsAtSlot-found g.catalog g.slots g.rows g.repair c.in-Some.repair c.in-Some-get.kept.now c.requires.parts c.in-Some.is (subst (λ (r : Repair). slice_get g.slots r.done ≡ Some c.in-Some-get.kept.now) c.deref.ensures (sym c.get.ensures ∙ ap option_copied c.in-Some-get.is)) in
    AreGenerations-step g.catalog g.slots g.rows c.step.new.rows c.in-Some.repair c.step.new.self c.in-Some-get.kept.now c.in_ok-is_due.is_due (subst (AreGenerations g.catalog g.slots g.rows) c.in-Some.is c.requires.parts) at
    c.in_ok-is_due.ensures.due c.in_ok-is_due.ensures.step

pub returns-clause-due : goal.returns-clause-due
returns-clause-due c =
    let g = c.args.self.now in
    let at = IsAtSlot-found g.catalog g.slots g.rows g.repair c.in-Some.repair c.in-Some-get.kept.now c.requires.parts c.in-Some.is (subst (λ (r : Repair). slice_get g.slots r.done ≡ Some c.in-Some-get.kept.now) c.deref.ensures (sym c.get.ensures ∙ ap option_copied c.in-Some-get.is)) in
    c.in_ok-is_due.ensures.due ∙ at.due ∙ ap (λ (repair : Option Repair). is_due_in g.catalog (phase_of repair) (actions_of g.slots)) (sym c.in-Some.is)
