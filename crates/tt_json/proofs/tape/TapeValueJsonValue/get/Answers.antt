-- The members are those of the object that serde_json reads.
use Rattle.std.proofs.Common.{Some, None, ◌∙◌}
use Rattle.tt_json.proofs.ItemsLemmas.{members-object}
use Rattle.tt_json.proofs.FindLemmas.{of_object}
use Rattle.tt_json.proofs.tape.TapeValueJsonValue.get.Goals as goal

pub find-requires : goal.find-requires
find-requires c =
    let found = members-object _ (Some c.in-Some.members) c.self.invariant c.in-Some.ensures in
    (found.0, found.1)

pub returns-in-Some : goal.returns-in-Some
returns-in-Some c =
    let found = members-object _ (Some c.in-Some.members) c.self.invariant c.in-Some.ensures in
    c.find.ensures found.0 found.1 ∙ of_object c.args.name.now _ _ (Some found.0) c.self.view_is found.2

pub returns-in-None : goal.returns-in-None
returns-in-None c = of_object c.args.name.now _ _ None c.self.view_is (members-object _ None c.self.invariant c.in-None.ensures)
