-- The kind at the first place whose member is there, if the place is one of the table.
use Rattle.std.proofs.Common.{sym, ◌∙◌}
use Rattle.tt_requests.proofs.KindLemmas.{chosen, none-chosen}
use Rattle.tt_requests.proofs.kinds.RequestKind.kind_at.Goals as goal

pub returns-in_err-kind : goal.returns-in_err-kind
returns-in_err-kind c is_there place =
    c.from_residual.ensures ∙ sym (none-chosen is_there c.args.table.now c.args.place c.in_err-kind.ensures.lookup.3 place)

pub returns : goal.returns
returns c is_there place =
    let item = c.in_ok-kind.ensures.lookup in
    sym (chosen is_there c.args.table.now c.args.place c.in_ok-kind.field-0.now item.3.0 item.1 place)
