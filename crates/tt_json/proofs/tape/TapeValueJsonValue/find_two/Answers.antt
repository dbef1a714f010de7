-- The members are those of the object that serde_json reads.
use Rattle.std.proofs.Common.{◌≡◌, ℕ, [], ◌∷◌, ◌++◌, map, Bool, not, filter, List, Option, Some, None, ap, sym, ◌∙◌}
use Rattle.json.specs.Token.{Token}
use Rattle.serde_json.specs.Data.{Members}
use Rattle.serde_json.specs.Find.{as_object}
use Rattle.tt_json.specs.Value.{is_among, names_of, least, least_unknown}
use Rattle.tt_json.specs.Tape.{value_at}
use Rattle.tt_json.proofs.ItemsLemmas.{members-object}
use Rattle.tt_json.proofs.FindLemmas.{of_object}
use Rattle.tt_json.proofs.tape.TapeValueJsonValue.find_two.Goals as goal

of_members : (is_known : List ℕ → Bool) (inner outer : List Token) (o : Option Members) → inner ≡ outer → as_object (value_at inner) ≡ o
    → least (filter (λ name. not (is_known name)) (names_of o)) ≡ least_unknown is_known (value_at outer)
of_members is_known inner outer o same e =
    ap (λ p. least (filter (λ name. not (is_known name)) (names_of p))) (sym e) ∙ ap (λ ts. least_unknown is_known (value_at ts)) same

pub find_two-requires-clause-are : goal.find_two-requires-clause-are
find_two-requires-clause-are c =
    let found = members-object _ (Some c.in-Some.members) c.self.invariant c.in-Some.ensures in
    (found.0, found.1)

pub returns-in-Some-clause-first : goal.returns-in-Some-clause-first
returns-in-Some-clause-first c =
    let found = members-object _ (Some c.in-Some.members) c.self.invariant c.in-Some.ensures in
    c.find_two.ensures.first found.0 found.1 ∙ of_object c.args.first.now _ _ (Some found.0) c.self.view_is found.2

pub returns-in-Some-clause-second : goal.returns-in-Some-clause-second
returns-in-Some-clause-second c =
    let found = members-object _ (Some c.in-Some.members) c.self.invariant c.in-Some.ensures in
    c.find_two.ensures.second found.0 found.1 ∙ of_object c.args.second.now _ _ (Some found.0) c.self.view_is found.2

pub returns-in-Some-clause-unknown : goal.returns-in-Some-clause-unknown
returns-in-Some-clause-unknown c =
    let found = members-object _ (Some c.in-Some.members) c.self.invariant c.in-Some.ensures in
    c.find_two.ensures.unknown found.0 found.1
    ∙ of_members (is_among (map (λ k. k.now) c.args.known.now ++ c.args.first.now ∷ c.args.second.now ∷ [])) _ _ (Some found.0) c.self.view_is found.2

pub returns-in-None-clause-first : goal.returns-in-None-clause-first
returns-in-None-clause-first c = of_object c.args.first.now _ _ None c.self.view_is (members-object _ None c.self.invariant c.in-None.ensures)

pub returns-in-None-clause-second : goal.returns-in-None-clause-second
returns-in-None-clause-second c = of_object c.args.second.now _ _ None c.self.view_is (members-object _ None c.self.invariant c.in-None.ensures)

pub returns-in-None-clause-unknown : goal.returns-in-None-clause-unknown
returns-in-None-clause-unknown c =
    of_members (is_among (map (λ k. k.now) c.args.known.now ++ c.args.first.now ∷ c.args.second.now ∷ [])) _ _ None c.self.view_is (members-object _ None c.self.invariant c.in-None.ensures)
