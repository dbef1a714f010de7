-- the answers are taken in the order of the calls
use Rattle.std.proofs.Common.{◌≡◌, ◌+◌, ◌∷◌, drop, map, length, sym, subst, ◌∙◌}
use Rattle.std.proofs.lemmas.List.{drop_more}
use Rattle.std.specs.Option.{option_to_list}
use Rattle.tt_workers.specs.Merging.{AreOf}
use Rattle.tt_workers.proofs.QueueLemmas.{as_many_queues, merged_next, merged_end}
use Rattle.tt_workers.proofs.WorkLemmas.{drop_end}
use Rattle.tt_workers.proofs.merging.merge.Goals as goal

pub next_of-next-requires-clause-some : goal.next_of-next-requires-clause-some
next_of-next-requires-clause-some c =
    let calls = c.args.calls.now in
    let i = c.loop-call.call-index in
    let call = c.call-item.result in
    let next : drop i calls ≡ call ∷ drop (i + 1) calls = drop_more calls i call c.loop-call-test.true ∙ (λ j. sym c.call-item.is j ∷ drop (i + 1) calls) in
    let of = subst (λ rest. AreOf (length c.loop-call.queues.items) rest) next c.loop-call.invariant.of in
    of.0

pub next_of-next-requires-clause-within : goal.next_of-next-requires-clause-within
next_of-next-requires-clause-within c =
    let calls = c.args.calls.now in
    let i = c.loop-call.call-index in
    let call = c.call-item.result in
    let next : drop i calls ≡ call ∷ drop (i + 1) calls = drop_more calls i call c.loop-call-test.true ∙ (λ j. sym c.call-item.is j ∷ drop (i + 1) calls) in
    let of = subst (λ rest. AreOf (length c.loop-call.queues.items) rest) next c.loop-call.invariant.of in
    of.1

pub loop-call-preserved : goal.loop-call-preserved
loop-call-preserved c =
    let calls = c.args.calls.now in
    let i = c.loop-call.call-index in
    let call = c.call-item.result in
    let rest = drop (i + 1) calls in
    let next : drop i calls ≡ call ∷ rest = drop_more calls i call c.loop-call-test.true ∙ (λ j. sym c.call-item.is j ∷ rest) in
    let lists = map (λ queue. queue.items) c.loop-call.queues.items in
    let others = map (λ queue. queue.items) c.next_of-next.new.queues.items in
    let answer = option_to_list c.next_of-next.result in
    let of = subst (λ left. AreOf (length c.loop-call.queues.items) left) next c.loop-call.invariant.of in
    let many = as_many_queues (λ queue. queue.items) c.loop-call.queues.items c.next_of-next.new.queues.items call.worker c.next_of-next.ensures.rest in
    record {
      records = merged_next (λ a. a.answer) c.loop-call.records.records.items c.keep.new.records.records.items _ (drop i calls) rest call lists others answer c.loop-call.invariant.records
          next c.in-Ok.ensures.records c.next_of-next.ensures.first c.next_of-next.ensures.rest;
      fronts = merged_next (λ a. a.front) c.loop-call.records.fronts.items c.keep.new.records.fronts.items _ (drop i calls) rest call lists others answer c.loop-call.invariant.fronts
          next c.in-Ok.ensures.fronts c.next_of-next.ensures.first c.next_of-next.ensures.rest;
      of = subst (λ count. AreOf count rest) (sym many) of.2;
    }

pub returns-clause-records : goal.returns-clause-records
returns-clause-records c =
    let none = drop_end c.loop-call.call-index c.args.calls.now c.loop-call-test.false in
    merged_end (λ a. a.answer) c.loop-call.records.records.items _ _ (map (λ queue. queue.items) c.loop-call.queues.items) c.loop-call.invariant.records none

pub returns-clause-fronts : goal.returns-clause-fronts
returns-clause-fronts c =
    let none = drop_end c.loop-call.call-index c.args.calls.now c.loop-call-test.false in
    merged_end (λ a. a.front) c.loop-call.records.fronts.items _ _ (map (λ queue. queue.items) c.loop-call.queues.items) c.loop-call.invariant.fronts none
