-- The closed generations that are kept are those from the oldest up to the one before the current one.
use Rattle.std.proofs.Common.{◌≡◌, ◌+◌, ◌-◌, ◌≤◌, ◌++◌, drop, IsSome, refl, sym, ap, subst, ◌∙◌, arith, append-nil}
use Rattle.tt_db.specs.Database.{state_of, oldest_in}
use Rattle.tt_db.specs.Laws.{KeepsLastGenerations}
use Rattle.tt_workload.specs.Report.{closed_lines}
use Rattle.tt_workload.proofs.ClosedLemmas.{kept-slots, oldest-most, closed_lines-next, closed_lines-end}
use Rattle.tt_workload.proofs.closed.push_closed.Goals as goal

pub loop-generation-init : goal.loop-generation-init
loop-generation-init c =
    let db = c.args.db.now in
    let kept : KeepsLastGenerations db.limits (state_of db) = c.last_generations_are_kept.ensures db.limits db.history in
    let none : c.oldest-generation.result - oldest_in db ≡ 0 = omega (arith, c.oldest-generation.ensures) in
    record {
      lines = ap (λ n. c.args.out.now.items ++ closed_lines c.args.json db.catalog (drop n (state_of db).closed)) none;
      least = omega (arith, c.oldest-generation.ensures);
      most = omega (arith, c.oldest-generation.ensures, oldest-most db.limits (state_of db) kept);
    }

pub push_generation-requires : goal.push_generation-requires
push_generation-requires c =
    let db = c.args.db.now in
    let l = c.loop-generation in
    let kept : KeepsLastGenerations db.limits (state_of db) = c.last_generations_are_kept.ensures db.limits db.history in
    let there = kept-slots db.limits (state_of db) l.generation kept l.invariant.least (omega (arith, c.loop-generation-test.true, c.generation-generation-end.ensures)) in
    record { kept = subst IsSome (sym there.1) refl }

pub loop-generation-preserved : goal.loop-generation-preserved
loop-generation-preserved c =
    let db = c.args.db.now in
    let l = c.loop-generation in
    let kept : KeepsLastGenerations db.limits (state_of db) = c.last_generations_are_kept.ensures db.limits db.history in
    let below : l.generation + 1 ≤ (state_of db).generation = omega (arith, c.loop-generation-test.true, c.generation-generation-end.ensures) in
    record {
      lines = closed_lines-next c.args.json db.limits (state_of db) db.catalog l.generation l.out.items _ c.push_generation.new.out.items kept l.invariant.least (omega (arith, below)) l.invariant.lines
          c.in_ok-push_generation.ensures.text;
      least = omega (arith, l.invariant.least);
      most = below;
    }

pub returns-clause-text : goal.returns-clause-text
returns-clause-text c =
    let db = c.args.db.now in
    let l = c.loop-generation in
    let kept : KeepsLastGenerations db.limits (state_of db) = c.last_generations_are_kept.ensures db.limits db.history in
    let end = closed_lines-end c.args.json db.limits (state_of db) db.catalog l.generation kept (omega (arith, c.loop-generation-test.false, c.generation-generation-end.ensures)) in
    sym (append-nil l.out.items) ∙ ap (λ ls. l.out.items ++ ls) (sym end) ∙ l.invariant.lines
