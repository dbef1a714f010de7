-- The members are those of the object that serde_json reads.
use Rattle.std.proofs.Common.{Some, None, is_some, sym, subst, ◌∙◌}
use Rattle.serde_json.specs.Find.{get_member}
use Rattle.tt_json.specs.Tape.{IsValue}
use Rattle.tt_json.proofs.ItemsLemmas.{members-object}
use Rattle.tt_requests.proofs.KindLemmas.{first_kind-members, first_kind-none}
use Rattle.tt_requests.proofs.kinds.RequestKind.find.Goals as goal

pub returns-in_err-members : goal.returns-in_err-members
returns-in_err-members c =
    c.from_residual.ensures
    ∙ first_kind-none c.root.result c.args.tape.now c.root.ensures.same (members-object c.root.result None (subst IsValue (sym c.root.ensures.same) c.requires) c.in_err-members.ensures)

pub returns : goal.returns
returns c =
    let found = members-object c.root.result (Some c.in_ok-members.field-0) (subst IsValue (sym c.root.ensures.same) c.requires) c.in_ok-members.ensures in
    c.kind_at.ensures (λ name. is_some (get_member name found.0)) (c.first_place-place.ensures found.0 found.1)
    ∙ first_kind-members c.root.result c.args.tape.now found.0 c.root.ensures.same found.2
