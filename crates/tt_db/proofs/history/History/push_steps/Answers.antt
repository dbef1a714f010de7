-- Steps begin no repair.
use Rattle.std.proofs.Common.{◌≡◌, ◌++◌, replicate, rules, sym, ap, ◌∙◌}
use Rattle.tt_db.specs.Steps.{step_by}
use Rattle.tt_db.specs.History.{writes_before_others, last_beginner}
use Rattle.tt_db.proofs.BeginnerLemmas.{beginner-steps}
use Rattle.tt_db.proofs.history.History.push_steps.Goals as goal

pub invariant_of-self-else-is_err : goal.invariant_of-self-else-is_err
invariant_of-self-else-is_err c =
    let entries : c.push_steps-pushed.new.entries ≡ c.self.inside.entries ++ replicate c.args.count (step_by c.args.worker) = search rules in
    let counts : c.push_steps-pushed.new.write_counts ≡ writes_before_others 0 c.push_steps-pushed.new.entries = search rules in
    (counts, c.self.invariant.1 ∙ sym (beginner-steps c.self.inside.entries c.args.count c.args.worker) ∙ ap last_beginner (sym entries))
