-- A command line that is read, with what is done for it, is carried out.
use Rattle.std.proofs.Common.{ℕ, List, Option, IfOk, IfErr, OnErr, IfSome, inl, inr}
use Rattle.std.specs.Io.KnownBytes.{Keeps}
use Rattle.std.specs.Prelude.{Result, Ok, Err}
use Rattle.clap.specs.declared.error.Error.{Error}
use Rattle.clap.specs.Words.{Text, FailsBy, kind_of}
use Rattle.tt_cli.specs.declared.command_line.Cli.{Cli}
use Rattle.tt_cli.specs.declared.ending.Ending.{Ending}
use Rattle.tt_cli.specs.CommandLine.{fault_of_words, options_of, IsCommandOf, IsBatchOf, IsRoundsOf, IsClosedOf, IsWhyOf, IsDiffOf, IsJsonOf, IsDryOf}
use Rattle.tt_cli.specs.Ending.{IsEndingOfUsage}
use Rattle.tt_cli.specs.CarryingOut.{EndsBy, IsEndingBy, CarriesOut}

pub carries_out : (words : List Text) (asked : Result Cli Error) (unread left old new : Option (List ℕ)) (ending : Ending)
    → FailsBy (fault_of_words words) asked
    → IfOk asked (IsCommandOf words)
    → IfOk asked (λ cli. IfSome (options_of cli) (λ options. IsBatchOf words options.batch))
    → IfOk asked (λ cli. IfSome (options_of cli) (λ options. IsClosedOf words options.closed))
    → IfOk asked (λ cli. IfSome (options_of cli) (λ options. IsWhyOf words options.why))
    → IfOk asked (λ cli. IfSome (options_of cli) (λ options. IsDiffOf words options.diff))
    → IfOk asked (λ cli. IfSome (options_of cli) (λ options. IsJsonOf words options.json))
    → IfOk asked (λ cli. IfSome (options_of cli) (λ options. IsDryOf words options.dry))
    → IfOk asked (λ cli. IfSome (options_of cli) (λ options. IsRoundsOf words options.rounds))
    → IfOk asked (λ cli. EndsBy cli unread left old new ending)
    → IfOk asked (λ cli. IsEndingBy cli ending)
    → OnErr asked (Keeps unread left)
    → OnErr asked (Keeps old new)
    → IfErr asked (λ error. IsEndingOfUsage (kind_of error) ending)
    → CarriesOut words unread left old new ending
carries_out words (Ok cli) unread left old new ending kinds command batch closed why diff json dry rounds ends kind keeps unwritten usage = inl (record {
  cli = cli;
  asked = record { faultless = kinds; command = command; batch = batch; rounds = rounds; closed = closed; why = why; diff = diff; json = json; dry = dry };
  ends = ends;
  kind = kind;
})
carries_out words (Err error) unread left old new ending kinds command batch closed why diff json dry rounds ends kind keeps unwritten usage = inr (record {
  error = error;
  fault = kinds;
  usage = usage;
  kept = keeps;
  unwritten = unwritten;
})
