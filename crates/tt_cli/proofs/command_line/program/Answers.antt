use Rattle.std.proofs.Common.{ap, codes, ◌≡◌, ◌∙◌}
use Rattle.clap.specs.Words.{app_of, new_app}
use Rattle.clap.specs.Simple.{app_of_fields}
use Rattle.tt_cli.specs.CommandLine.{requiring_subcommand, with_version}
use Rattle.tt_cli.proofs.command_line.program.Goals as goal

pub returns : goal.returns
returns c =
    let named_is : app_of c.in_ok-bin_name.field-0 ≡ new_app (codes "timetravel") =
    ap app_of_fields c.in_ok-bin_name.ensures.0 ∙ c.new.ensures.app in
    let versioned_is : app_of c.version.result ≡ with_version (new_app (codes "timetravel")) =
    ap app_of_fields c.version.ensures ∙ ap with_version named_is in
    let described_is : app_of c.after_help.result ≡ with_version (new_app (codes "timetravel")) =
    ap app_of_fields c.after_help.ensures ∙ (ap app_of_fields c.about.ensures ∙ versioned_is) in
    ap app_of_fields c.subcommand_required.ensures ∙ ap requiring_subcommand described_is
