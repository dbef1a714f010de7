-- The members are those of the object that serde_json reads.
use Rattle.std.proofs.Common.{◌≡◌, ℕ, Bool, not, filter, List, Option, Some, None, ap, sym, ◌∙◌}
use Rattle.std.specs.List.{list_any}
use Rattle.std.specs.Str.{bytes_eq}
use Rattle.json.specs.Token.{Token}
use Rattle.serde_json.specs.Data.{Members}
use Rattle.serde_json.specs.Find.{as_object}
use Rattle.tt_json.specs.Value.{names_of, least, least_unknown}
use Rattle.tt_json.specs.Tape.{value_at}
use Rattle.tt_json.proofs.ItemsLemmas.{members-object}
use Rattle.tt_json.proofs.tape.TapeValueJsonValue.least_unknown.Goals as goal

of_members : (is_known : List ℕ → Bool) (inner outer : List Token) (o : Option Members) → inner ≡ outer → as_object (value_at inner) ≡ o
    → least (filter (λ name. not (is_known name)) (names_of o)) ≡ least_unknown is_known (value_at outer)
of_members is_known inner outer o same e =
    ap (λ p. least (filter (λ name. not (is_known name)) (names_of p))) (sym e) ∙ ap (λ ts. least_unknown is_known (value_at ts)) same

pub returns-in-Some : goal.returns-in-Some
returns-in-Some c =
    let found = members-object _ (Some c.in-Some.members) c.self.invariant c.in-Some.ensures in
    c.least_unknown.ensures found.0 found.1 ∙ of_members (λ name. list_any (λ k. bytes_eq name k.now) c.args.known.now) _ _ (Some found.0) c.self.view_is found.2

pub returns-in-None : goal.returns-in-None
returns-in-None c =
    of_members (λ name. list_any (λ k. bytes_eq name k.now) c.args.known.now) _ _ None c.self.view_is (members-object _ None c.self.invariant c.in-None.ensures)
