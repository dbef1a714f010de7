-- The next slot of the repair is done, as one that is due.
use Rattle.std.proofs.Common.{◌≡◌, ◌<◌, Option, Some, length, slice_get, ap, subst, sym, ◌∙◌}
use Rattle.std.specs.List.{All}
use Rattle.std.specs.Option.{option_copied}
use Rattle.tt_values.specs.Tables.{Tables}
use Rattle.tt_values.specs.declared.row_id.RowId.{RowId}
use Rattle.tt_generations.specs.declared.repair.Repair.{Repair}
use Rattle.tt_generations.specs.KeptSlots.{IsAccepted, actions_of}
use Rattle.tt_generations.specs.Repair.{next_action}
use Rattle.tt_generations.specs.TwoGenerations.{is_due_in}
use Rattle.tt_generations.specs.Generations.{phase_of, AreGenerations}
use Rattle.tt_generations.proofs.GenerationsLemmas.{IsAtSlot-found, AreGenerations-due}
use Rattle.tt_generations.proofs.generations.State.step_due.Goals as goal

pub reexecute-requires-clause-numbers : goal.reexecute-requires-clause-numbers
reexecute-requires-clause-numbers c =
    let g = c.args.self.now in
    let at = IsAtSlot-found g.catalog g.slots g.rows g.repair c.in-Some.repair c.in-Some-get.kept.now c.requires.parts c.in-Some.is (subst (λ (r : Repair). slice_get g.slots r.done ≡ Some c.in-Some-get.kept.now) c.deref.ensures (sym c.get.ensures ∙ ap option_copied c.in-Some-get.is)) in
    at.numbers

pub reexecute-requires-clause-touched : goal.reexecute-requires-clause-touched
reexecute-requires-clause-touched c =
    let g = c.args.self.now in
    let at = IsAtSlot-found g.catalog g.slots g.rows g.repair c.in-Some.repair c.in-Some-get.kept.now c.requires.parts c.in-Some.is (subst (λ (r : Repair). slice_get g.slots r.done ≡ Some c.in-Some-get.kept.now) c.deref.ensures (sym c.get.ensures ∙ ap option_copied c.in-Some-get.is)) in
    subst (λ (tables : Tables). All (λ (row : RowId). row.table < length tables) c.in-Some-get.kept.now.rows) (sym c.get-2.ensures) at.touched

pub reexecute-requires-clause-accepted : goal.reexecute-requires-clause-accepted
reexecute-requires-clause-accepted c =
    let g = c.args.self.now in
    let at = IsAtSlot-found g.catalog g.slots g.rows g.repair c.in-Some.repair c.in-Some-get.kept.now c.requires.parts c.in-Some.is (subst (λ (r : Repair). slice_get g.slots r.done ≡ Some c.in-Some-get.kept.now) c.deref.ensures (sym c.get.ensures ∙ ap option_copied c.in-Some-get.is)) in
    subst (λ (tables : Tables). IsAccepted tables (next_action c.in-Some.repair c.in-Some-get.kept.now)) (sym c.get-2.ensures) at.accepted

pub reexecute-requires-clause-few : goal.reexecute-requires-clause-few
reexecute-requires-clause-few c =
    let g = c.args.self.now in
    let at = IsAtSlot-found g.catalog g.slots g.rows g.repair c.in-Some.repair c.in-Some-get.kept.now c.requires.parts c.in-Some.is (subst (λ (r : Repair). slice_get g.slots r.done ≡ Some c.in-Some-get.kept.now) c.deref.ensures (sym c.get.ensures ∙ ap option_copied c.in-Some-get.is)) in
    at.shows

pub returns-clause-parts : goal.returns-clause-parts
returns-clause-parts c =
    let g = c.args.self.now in
    let at = IsAtSlot-found g.catalog g.slots g.rows g.repair c.in-Some.repair c.in-Some-get.kept.now c.requires.parts c.in-Some.is (subst (λ (r : Repair). slice_get g.slots r.done ≡ Some c.in-Some-get.kept.now) c.deref.ensures (sym c.get.ensures ∙ ap option_copied c.in-Some-get.is)) in
    let due = at.due ∙ ap (λ (repair : Option Repair). is_due_in g.catalog (phase_of repair) (actions_of g.slots)) (sym c.in-Some.is) ∙ c.requires.due in
    let done = c.in_ok-reexecute.ensures in
    AreGenerations-due g.catalog g.slots g.rows c.reexecute.new.rows c.in-Some.repair c.reexecute.new.self c.in-Some-get.kept.now (subst (AreGenerations g.catalog g.slots g.rows) c.in-Some.is c.requires.parts) at due done.done done.rows
