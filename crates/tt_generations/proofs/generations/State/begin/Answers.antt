-- A new repair, on tables whose sides show the same.
use Rattle.std.proofs.Common.{Some, subst, sym}
use Rattle.tt_generations.specs.declared.repair.Repair.{Repair}
use Rattle.tt_generations.specs.TwoGenerations.{Repairing}
use Rattle.tt_generations.specs.Generations.{AreGenerations}
use Rattle.tt_generations.proofs.GenerationsLemmas.{AreGenerations-repair, number-within, no_repair-idle}
use Rattle.tt_generations.proofs.generations.State.begin.Goals as goal

pub new-requires : goal.new-requires
new-requires c = number-within c.args.self.now.slots c.args.edits c.requires.named c.requires.parts.few

pub returns-clause-parts : goal.returns-clause-parts
returns-clause-parts c =
    let g = c.args.self.now in
    let are = subst (AreGenerations g.catalog g.slots g.rows) (no_repair-idle g.repair c.requires.idle) c.requires.parts in
    let new = c.in_ok-repair.ensures in
    subst (λ (r : Repair). AreGenerations g.catalog g.slots g.rows (Some r)) (sym c.in_ok-new.ensures)
    (AreGenerations-repair g.catalog g.slots g.rows c.args.edits c.in_ok-repair.repair are c.requires.named c.requires.accepted (record {
      edits = new.edits;
      replacements = new.replacements;
      done = new.done;
      reexecuted = new.reexecuted;
      catalog = new.catalog;
      dirty = new.dirty;
      since = new.since;
      slots = new.slots;
    }))

pub returns-clause-phase : goal.returns-clause-phase
returns-clause-phase c =
    let new = c.in_ok-repair.ensures in
    rw (c.in_ok-new.ensures) (λ i. Repairing (new.edits i) (new.done i))
