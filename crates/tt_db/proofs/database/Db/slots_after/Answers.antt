-- The slots of the generations are those of the state.
use Rattle.std.proofs.Common.{ap, subst, ◌∙◌}
use Rattle.tt_values.specs.RowWrites.{Slots}
use Rattle.tt_generations.specs.SlotsAfter.{AreSlotsAfter}
use Rattle.tt_db.specs.Database.{Database, state_of}
use Rattle.tt_db.proofs.database.Db.slots_after.Goals as goal

pub returns : goal.returns
returns c =
    let slots = c.self.invariant.slots ∙ ap (λ (db : Database). (state_of db).slots) c.self.view_is in
    subst (λ (W : Slots). AreSlotsAfter c.args.count W c.slots_after.result) slots c.slots_after.ensures
