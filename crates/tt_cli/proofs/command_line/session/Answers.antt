use Rattle.std.proofs.Common.{ap, ap₂, codes, ◌≡◌, ◌∙◌}
use Rattle.std.proofs.lemmas.Result.{IfOk-weaker}
use Rattle.clap.specs.Words.{Rule, app_of, new_app, with_rule}
use Rattle.clap.specs.Simple.{app_of_fields}
use Rattle.tt_cli.specs.CommandLine.{log_option}
use Rattle.tt_cli.proofs.BuildLemmas.{simple_is_local}
use Rattle.tt_cli.proofs.command_line.session.Goals as goal

pub returns : goal.returns
returns c =
    let described_is : app_of c.after_help.result ≡ new_app (codes "session") =
    ap app_of_fields c.after_help.ensures ∙ (ap app_of_fields c.about.ensures ∙ c.new.ensures.app) in
    let log_is : app_of c.in_ok-arg.field-0 ≡ with_rule (new_app (codes "session")) log_option =
    c.in_ok-arg.ensures.shape (simple_is_local c.log_option.result (ap (λ (a : Rule). a.is_simple) c.log_option.ensures)) ∙ ap₂ with_rule described_is c.log_option.ensures in
    IfOk-weaker c.arg-2.result _ _
    (λ r h. h.shape (simple_is_local c.existing.result (ap (λ (a : Rule). a.is_simple) c.existing.ensures)) ∙ ap₂ with_rule log_is c.existing.ensures)
    c.arg-2.ensures
