-- The first other key is the least other name.
use Rattle.std.proofs.Common.{Some, None, ap, ◌∙◌}
use Rattle.tt_json.proofs.NamesLemmas.{first_is_least}
use Rattle.tt_json.proofs.tree.least_of_others.Goals as goal

pub returns-in_err-name : goal.returns-in_err-name
returns-in_err-name c =
    rw c.from_residual-in_err-name.ensures (first_is_least _ c.in_ok-members.members.now.entries _ None c.first_other.ensures.ordered c.in_ok-members.ensures c.in_err-name.ensures.first)

pub returns : goal.returns
returns c =
    ap Some c.as_str.ensures.value ∙ first_is_least _ c.in_ok-members.members.now.entries _ (Some c.in_ok-name.name.now) c.first_other.ensures.ordered c.in_ok-members.ensures c.in_ok-name.ensures.first
