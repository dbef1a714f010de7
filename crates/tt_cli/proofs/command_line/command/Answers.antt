use Rattle.std.proofs.Common.{ap, ap₂, ◌≡◌, ◌∙◌}
use Rattle.std.proofs.lemmas.Result.{IfOk-weaker}
use Rattle.clap.specs.Words.{App, app_of, with_subcommand}
use Rattle.tt_cli.specs.CommandLine.{program, replay, run, session}
use Rattle.tt_cli.proofs.BuildLemmas.{plain_is_local}
use Rattle.tt_cli.proofs.command_line.command.Goals as goal

pub returns : goal.returns
returns c =
    let first = c.in_ok-replay.field-0 in
    let second = c.in_ok-run.field-0 in
    let replay_is : app_of c.in_ok-subcommand.field-0 ≡ with_subcommand program replay.top =
    c.in_ok-subcommand.ensures.shape (plain_is_local first (ap (λ (a : App). a.top.is_plain) c.in_ok-replay.ensures))
    ∙ ap₂ with_subcommand c.in_ok-program.ensures (ap (λ (a : App). a.top) c.in_ok-replay.ensures) in
    let run_is : app_of c.in_ok-subcommand-2.field-0 ≡ with_subcommand (with_subcommand program replay.top) run.top =
    c.in_ok-subcommand-2.ensures.shape (plain_is_local second (ap (λ (a : App). a.top.is_plain) c.in_ok-run.ensures))
    ∙ ap₂ with_subcommand replay_is (ap (λ (a : App). a.top) c.in_ok-run.ensures) in
    let third = c.in_ok-session.field-0 in
    let session_is : app_of c.in_ok-subcommand-3.field-0 ≡ with_subcommand (with_subcommand (with_subcommand program replay.top) run.top) session.top =
    c.in_ok-subcommand-3.ensures.shape (plain_is_local third (ap (λ (a : App). a.top.is_plain) c.in_ok-session.ensures))
    ∙ ap₂ with_subcommand run_is (ap (λ (a : App). a.top) c.in_ok-session.ensures) in
    let fourth = c.in_ok-log.field-0 in
    IfOk-weaker c.subcommand-4.result _ _
    (λ r h. h.shape (plain_is_local fourth (ap (λ (a : App). a.top.is_plain) c.in_ok-log.ensures))
    ∙ ap₂ with_subcommand session_is (ap (λ (a : App). a.top) c.in_ok-log.ensures))
    c.subcommand-4.ensures
