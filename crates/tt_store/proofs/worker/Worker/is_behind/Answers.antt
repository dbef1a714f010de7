-- Its places are among those of its entries in the longer history too.
use mathlib.Core.List.{IsPrefix}
use Rattle.std.proofs.Common.{subst}
use Rattle.tt_store.specs.Closing.{IsBehind}
use Rattle.tt_store.proofs.Prefixes.{prefix_where_true}
use Rattle.tt_store.proofs.WorkerLemmas.{among_longer}
use Rattle.tt_store.proofs.worker.Worker.is_behind.Goals as goal

pub returns : goal.returns
returns g c begins =
    let worker = c.self.inside in
    let front = worker.seen.db.history in
    let history = c.args.snapshot.now.db.history in
    let seen : IsPrefix front history =
    prefix_where_true c.front.result.now.entries c.front-2.result.now.entries front history c.begins.result c.front.ensures.entries c.front-2.ensures.entries begins c.begins.ensures in
    subst (IsBehind history) c.self.view_is (record { seen = seen; among = among_longer worker.own.items worker.number front history seen c.self.invariant.2.among })
