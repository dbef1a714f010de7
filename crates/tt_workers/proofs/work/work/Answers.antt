-- the calls are made one after another
use Rattle.std.proofs.Common.{◌≡◌, ◌+◌, ◌∷◌, drop, length, sym, ap, subst, ◌∙◌, arith}
use Rattle.std.proofs.lemmas.List.{drop_more}
use Rattle.tt_workload.specs.Room.{AreAccepted}
use Rattle.tt_workers.proofs.WorkLemmas.{Continues, continues_first, continues_call, continues_last, drop_end}
use Rattle.tt_workers.proofs.work.work.Goals as goal

pub loop-call-init : goal.loop-call-init
loop-call-init g c = record {
  continues = subst (λ answers. Continues g.L.Naming.limits c.args.first c.args.calls.now c.args.worker answers c.args.first c.args.calls.now c.args.worker) (sym c.new-answers.ensures.items)
      (continues_first g.L.Naming.limits c.args.first c.args.calls.now c.args.worker);
  number = omega arith;
  accepted = c.requires.accepted;
}

pub loop-call-preserved : goal.loop-call-preserved
loop-call-preserved g c =
    let calls = c.args.calls.now in
    let i = c.loop-call.call-index in
    let call = c.call-item.result in
    let next : drop i calls ≡ call ∷ drop (i + 1) calls = drop_more calls i call c.loop-call-test.true ∙ (λ j. sym c.call-item.is j ∷ drop (i + 1) calls) in
    let before = subst (λ rest. Continues g.L.Naming.limits c.args.first calls c.args.worker c.loop-call.run.answers.items c.loop-call.number rest c.loop-call.run.worker) next
    c.loop-call.invariant.continues in
    let accepted = subst (λ rest. AreAccepted g.L.Naming.tables rest) next c.loop-call.invariant.accepted in
    record {
      continues = continues_call g.L.Naming.limits c.args.first calls c.args.worker c.loop-call.run.answers.items c.make_own.new.run.answers.items c.loop-call.number call (drop (i + 1) calls)
          c.loop-call.run.worker c.make_own.new.run.worker before c.in-Ok.ensures.made;
      number = omega (arith, c.loop-call.invariant.number, ap length next);
      accepted = accepted.1;
    }

pub returns-clause-worked : goal.returns-clause-worked
returns-clause-worked g c =
    let calls = c.args.calls.now in
    let none = drop_end c.loop-call.call-index calls c.loop-call-test.false in
    let all = subst (λ rest. Continues g.L.Naming.limits c.args.first calls c.args.worker c.loop-call.run.answers.items c.loop-call.number rest c.loop-call.run.worker) none
    c.loop-call.invariant.continues in
    continues_last g.L.Naming.limits c.args.first calls c.args.worker c.loop-call.run.answers.items c.loop-call.number c.loop-call.run.worker all
