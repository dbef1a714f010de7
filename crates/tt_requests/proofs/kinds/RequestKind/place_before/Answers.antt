-- The names of the table are those that the definition spells.
use Rattle.std.proofs.Common.{rules, tests, bytes_eq, ◌∙◌}
use Rattle.std.proofs.lemmas.Iterator.{YieldsList-from_slice}
use Rattle.std.proofs.lemmas.Iterator.Search.{position_from_yields_List}
use Rattle.tt_requests.proofs.KindLemmas.{place-taken}
use Rattle.tt_requests.proofs.kinds.RequestKind.place_before.Goals as goal

pub returns : goal.returns
returns c =
    position_from_yields_List (λ kind. bytes_eq c.args.name.now kind.0.now) _ _ c.position.result c.position.ensures.ran (YieldsList-from_slice _ c.iter.ensures.rest) (λ x b q k. search (rules, tests))
    ∙ place-taken (bytes_eq c.args.name.now) c.args.end _
