-- Where one of the writes has no effect, the rows go back.
use Rattle.std.proofs.Common.{◌≡◌, Bool, true, false, refl, subst}
use Rattle.tt_generations.specs.Rows.{TablesByPosition, SplitsRows}
use Rattle.tt_generations.specs.Reexecution.{reexecution_on, TriesNextWrites}
use Rattle.tt_generations.proofs.ReexecutionLemmas.{ReexecutesAction-back, ReexecutesAction-stay}
use Rattle.tt_generations.proofs.reexecution.Reexecution.carry_out_whole.Goals as goal

pub returns-in_ok-go_back : goal.returns-in_ok-go_back
returns-in_ok-go_back c =
    let run = reexecution_on c.args.rows.now c.args.self.now in
    let mid = reexecution_on c.try_writes.new.rows c.try_writes.new.self in
    let after = reexecution_on c.go_back.new.rows c.try_writes.new.self in
    let all = c.in_ok-try_writes.field-0 in
    let undone : all ≡ false = c.if-not-branch.true in
    ReexecutesAction-back c.args.time c.args.writes.now run mid after
    (subst (λ (b : Bool). TriesNextWrites c.args.time c.args.writes.now run mid b) undone c.in_ok-try_writes.ensures)
    (record {
      rows = subst (λ (r : TablesByPosition). SplitsRows r after.rows mid.reexecuted c.args.time) c.in_ok-before.ensures c.in_ok-go_back.ensures;
      reexecuted = refl;
      replies = refl;
      touched = refl;
    })

pub returns-else-not-branch : goal.returns-else-not-branch
returns-else-not-branch c =
    let run = reexecution_on c.args.rows.now c.args.self.now in
    let after = reexecution_on c.try_writes.new.rows c.try_writes.new.self in
    let all = c.in_ok-try_writes.field-0 in
    let whole : all ≡ true = c.if-not-branch.false in
    ReexecutesAction-stay c.args.time c.args.writes.now run after after
    (subst (λ (b : Bool). TriesNextWrites c.args.time c.args.writes.now run after b) whole c.in_ok-try_writes.ensures)
