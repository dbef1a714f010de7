use Rattle.std.proofs.Common.{ap, ap₂, codes, ◌≡◌, ◌∙◌}
use Rattle.std.proofs.lemmas.Result.{IfOk-weaker}
use Rattle.clap.specs.Words.{Rule, app_of, new_app, with_rule}
use Rattle.clap.specs.Simple.{app_of_fields}
use Rattle.tt_cli.specs.CommandLine.{batch, closed, diff, rounds, why}
use Rattle.tt_cli.proofs.BuildLemmas.{simple_is_local}
use Rattle.tt_cli.proofs.command_line.run.Goals as goal

pub returns : goal.returns
returns c =
    let described_is : app_of c.after_help.result ≡ new_app (codes "run") =
    ap app_of_fields c.after_help.ensures ∙ (ap app_of_fields c.about.ensures ∙ c.new.ensures.app) in
    let batch_is : app_of c.in_ok-arg.field-0 ≡ with_rule (new_app (codes "run")) batch =
    c.in_ok-arg.ensures.shape (simple_is_local c.batch.result (ap (λ (a : Rule). a.is_simple) c.batch.ensures)) ∙ ap₂ with_rule described_is c.batch.ensures in
    let rounds_are : app_of c.in_ok-arg-2.field-0 ≡ with_rule (with_rule (new_app (codes "run")) batch) rounds =
    c.in_ok-arg-2.ensures.shape (simple_is_local c.rounds.result (ap (λ (a : Rule). a.is_simple) c.rounds.ensures)) ∙ ap₂ with_rule batch_is c.rounds.ensures in
    let closed_is : app_of c.in_ok-arg-3.field-0 ≡ with_rule (with_rule (with_rule (new_app (codes "run")) batch) rounds) closed =
    c.in_ok-arg-3.ensures.shape (simple_is_local c.closed.result (ap (λ (a : Rule). a.is_simple) c.closed.ensures)) ∙ ap₂ with_rule rounds_are c.closed.ensures in
    let why_is : app_of c.in_ok-arg-4.field-0 ≡ with_rule (with_rule (with_rule (with_rule (new_app (codes "run")) batch) rounds) closed) why =
    c.in_ok-arg-4.ensures.shape (simple_is_local c.why.result (ap (λ (a : Rule). a.is_simple) c.why.ensures)) ∙ ap₂ with_rule closed_is c.why.ensures in
    let diff_is : app_of c.in_ok-arg-5.field-0 ≡ with_rule (with_rule (with_rule (with_rule (with_rule (new_app (codes "run")) batch) rounds) closed) why) diff =
    c.in_ok-arg-5.ensures.shape (simple_is_local c.diff.result (ap (λ (a : Rule). a.is_simple) c.diff.ensures)) ∙ ap₂ with_rule why_is c.diff.ensures in
    IfOk-weaker c.arg-6.result _ _
    (λ r h. h.shape (simple_is_local c.json.result (ap (λ (a : Rule). a.is_simple) c.json.ensures)) ∙ ap₂ with_rule diff_is c.json.ensures)
    c.arg-6.ensures
