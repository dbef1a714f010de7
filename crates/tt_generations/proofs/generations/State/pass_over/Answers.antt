-- The slots that the repair passes over are a run of those that aren't due.
use Rattle.std.proofs.Common.{◌+◌, Option, Some, drop, sym, ap, subst, ◌∙◌}
use Rattle.std.specs.List.{All}
use Rattle.std.proofs.lemmas.List.Elements.{All-drop}
use Rattle.tt_generations.specs.declared.slot.KeptSlot.{KeptSlot}
use Rattle.tt_generations.specs.declared.repair.Repair.{Repair}
use Rattle.tt_generations.specs.Repair.{HasKeysIfAny}
use Rattle.tt_generations.specs.Runs.{after_steps, undue_run}
use Rattle.tt_generations.specs.Generations.{generations_of, AreGenerations}
use Rattle.tt_generations.proofs.GenerationsLemmas.{keys-kept}
use Rattle.tt_generations.proofs.RunLemmas.{passes-run}
use Rattle.tt_generations.proofs.generations.State.pass_over.Goals as goal

pub pass_over-requires-clause-keyed : goal.pass_over-requires-clause-keyed
pass_over-requires-clause-keyed c =
    let g = c.args.self.now in
    let left = c.iter_from-slots.ensures ∙ ap (λ (r : Repair). drop r.done g.slots) c.deref.ensures in
    subst (All (λ (k : KeptSlot). HasKeysIfAny k.slot.action)) (sym left)
    (All-drop (λ (k : KeptSlot). HasKeysIfAny k.slot.action) c.in-Some.repair.done g.slots (keys-kept g.catalog g.slots c.requires.catalog c.requires.accepted))

pub returns-clause-parts : goal.returns-clause-parts
returns-clause-parts c =
    let g = c.args.self.now in
    let r = c.in-Some.repair in
    let left = c.iter_from-slots.ensures ∙ ap (λ (r : Repair). drop r.done g.slots) c.deref.ensures in
    let run = passes-run c.args.most g.catalog g.slots c.iter_from-slots.result g.rows r (subst (AreGenerations g.catalog g.slots g.rows) c.in-Some.is c.requires) (sym left) in
    let passed = ap (λ n. record r { done = r.done + n }) (sym c.pass_over.ensures.count) ∙ sym c.pass_over.ensures.done in
    subst (λ (r : Repair). AreGenerations g.catalog g.slots g.rows (Some r)) passed run.parts

pub returns-clause-count : goal.returns-clause-count
returns-clause-count c =
    let g = c.args.self.now in
    let left = c.iter_from-slots.ensures ∙ ap (λ (r : Repair). drop r.done g.slots) c.deref.ensures in
    let run = passes-run c.args.most g.catalog g.slots c.iter_from-slots.result g.rows c.in-Some.repair (subst (AreGenerations g.catalog g.slots g.rows) c.in-Some.is c.requires) (sym left) in
    c.pass_over.ensures.count ∙ run.run ∙ ap (λ (repair : Option Repair). undue_run c.args.most (generations_of g.catalog g.slots repair)) (sym c.in-Some.is)

pub returns-clause-state : goal.returns-clause-state
returns-clause-state c =
    let g = c.args.self.now in
    let r = c.in-Some.repair in
    let left = c.iter_from-slots.ensures ∙ ap (λ (r : Repair). drop r.done g.slots) c.deref.ensures in
    let run = passes-run c.args.most g.catalog g.slots c.iter_from-slots.result g.rows r (subst (AreGenerations g.catalog g.slots g.rows) c.in-Some.is c.requires) (sym left) in
    let count = c.pass_over.ensures.count in
    let passed = ap (λ n. record r { done = r.done + n }) (sym count) ∙ sym c.pass_over.ensures.done in
    ap (λ (r : Repair). generations_of g.catalog g.slots (Some r)) (sym passed) ∙ run.state
    ∙ ap (λ n. after_steps n (generations_of g.catalog g.slots (Some r))) (sym count)
    ∙ ap (λ (repair : Option Repair). after_steps c.pass_over.result (generations_of g.catalog g.slots repair)) (sym c.in-Some.is)
