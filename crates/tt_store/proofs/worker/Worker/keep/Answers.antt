-- Its places are among those of its entries in the longer front too, and have the same entries there.
use mathlib.Core.List.{IsPrefix}
use Rattle.std.proofs.Common.{subst}
use Rattle.tt_store.specs.Workers.{WorkerState, Looks}
use Rattle.tt_store.proofs.Prefixes.{prefix_where_true}
use Rattle.tt_store.proofs.WorkerLemmas.{among_longer, looks_further}
use Rattle.tt_store.proofs.worker.Worker.keep.Goals as goal

pub invariant_of-self : goal.invariant_of-self
invariant_of-self g c =
    let worker = c.self.inside in
    let kept = c.self.invariant.2 in
    let longer : IsPrefix worker.seen.db.history c.args.snapshot.db.history =
    prefix_where_true c.front.result.now.entries c.front-2.result.now.entries worker.seen.db.history c.args.snapshot.db.history c.begins.result c.front.ensures.entries c.front-2.ensures.entries c.if-begins.true c.begins.ensures in (
      c.self.invariant.0,
      c.self.invariant.1,
      record {
        of = c.requires;
        among = among_longer worker.own.items worker.number worker.seen.db.history c.args.snapshot.db.history longer kept.among;
        one_part = kept.one_part;
        counts = kept.counts;
      },
    )

pub returns-then-begins-clause-looks : goal.returns-then-begins-clause-looks
returns-then-begins-clause-looks g c =
    let worker = c.self.inside in
    let history = c.args.snapshot.db.history in
    let longer : IsPrefix worker.seen.db.history history =
    prefix_where_true c.front.result.now.entries c.front-2.result.now.entries worker.seen.db.history history c.begins.result c.front.ensures.entries c.front-2.ensures.entries c.if-begins.true c.begins.ensures in
    let old : WorkerState = record { number = worker.number; seen = worker.seen.db.history; own = worker.own.items } in
    subst (λ (w : WorkerState). Looks w (record { number = worker.number; seen = history; own = worker.own.items })) c.self.view_is (looks_further old history longer c.self.invariant.2.among)
