use Rattle.std.proofs.Common.{sym, ◌∙◌}
use Rattle.tt_pages.specs.MapTree.{entries_of_root}
use Rattle.tt_pages.proofs.MapWalkLemmas.{is_empty-true, is_empty-false, unread-next, unread-rest}
use Rattle.tt_pages.proofs.map.iter.rest_or_next.Goals as goal

pub returns-then-is_empty : goal.returns-then-is_empty
returns-then-is_empty g c =
    let all = entries_of_root c.args.root.now in
    unread-next all c.requires c.args.entry.now c.args.rest.now c.page_after.result.now (is_empty-true c.args.rest.now (sym c.is_empty.ensures ∙ c.if-is_empty.true)) c.page_after.ensures

pub returns-else-is_empty : goal.returns-else-is_empty
returns-else-is_empty g c =
    unread-rest (entries_of_root c.args.root.now) c.args.entry.now c.args.rest.now (is_empty-false c.args.rest.now (sym c.is_empty.ensures ∙ c.if-is_empty.false))
