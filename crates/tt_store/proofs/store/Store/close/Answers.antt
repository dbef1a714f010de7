-- The workers were looked at.
use Rattle.std.proofs.Common.{List, All, subst}
use Rattle.tt_store.specs.Workers.{WorkerState}
use Rattle.tt_store.specs.Closing.{IsBehind}
use Rattle.tt_store.proofs.store.Store.close.Goals as goal

pub closed_of-requires-clause-behind : goal.closed_of-requires-clause-behind
closed_of-requires-clause-behind g c = subst (λ (ws : List WorkerState). All (IsBehind c.into_parts-core.result.1) ws) c.deref.ensures.value c.in-Ok.ensures.behind
