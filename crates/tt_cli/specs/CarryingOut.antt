-- What the program does for a command line: how it ends, and what it has then read and written.
use Rattle.std.specs.Prelude.{◌≡◌, ◌⊎◌, ℕ, List, [], Option, IfSome, ⊤, true}
use Rattle.std.specs.Io.KnownBytes.{Keeps}
use Rattle.clap.specs.declared.error.Error.{Error}
use Rattle.clap.specs.Words.{Text, HasKind, kind_of}
use Rattle.tt_workload.specs.declared.run_fault.RunFault.{RunFault}
use Rattle.tt_cli.specs.declared.command_line.Cli.{Cli}
use Rattle.tt_cli.specs.declared.command_line.Cli.TheVariants as commands
use Rattle.tt_cli.specs.declared.ending.Ending.{Ending}
use Rattle.tt_cli.specs.declared.ending.Ending.TheVariants as endings
use Rattle.tt_cli.specs.CommandLine.{fault_of_words, options_of, IsCommandOf, IsBatchOf, IsRoundsOf, IsClosedOf, IsWhyOf, IsDiffOf, IsJsonOf, IsDryOf}
use Rattle.tt_cli.specs.Ending.{IsEndingOfUsage}
use Rattle.tt_cli.specs.Status.{has_text}
use Rattle.tt_cli.specs.Logging.{IsEndingOfSession, IsEndingOfLook}
use Rattle.tt_cli.specs.Running.{WritesBy, EndsEarlyBy, IsFaultBy}

-- the words of a command line have no fault, and ask for this command with these options
pub record AskFor (words : List Text) (cli : Cli) : Type 0 where
  pub faultless : fault_of_words words ≡ []
  pub command : IsCommandOf words cli
  pub batch : IfSome (options_of cli) (λ options. IsBatchOf words options.batch)
  pub rounds : IfSome (options_of cli) (λ options. IsRoundsOf words options.rounds)
  pub closed : IfSome (options_of cli) (λ options. IsClosedOf words options.closed)
  pub why : IfSome (options_of cli) (λ options. IsWhyOf words options.why)
  pub diff : IfSome (options_of cli) (λ options. IsDiffOf words options.diff)
  pub json : IfSome (options_of cli) (λ options. IsJsonOf words options.json)
  pub dry : IfSome (options_of cli) (λ options. IsDryOf words options.dry)

-- what a command asks for has failed, and there was no memory for the line of its fault
pub record EndsWithoutLine (cli : Cli) (unread left old new : Option (List ℕ)) : Type 0 where
  pub fault : RunFault
  pub early : EndsEarlyBy cli fault unread left old new
  pub with_text : has_text fault ≡ true

-- the ending of what a command asks for: done where the report or the answers were written, and otherwise the fault
abbrev pub EndsBy : Cli → Option (List ℕ) → Option (List ℕ) → Option (List ℕ) → Option (List ℕ) → Ending → Type 0
EndsBy (commands.LoggedSession path must_exist) unread left old new ending = IsEndingOfSession ending
EndsBy (commands.Log path) unread left old new ending = IsEndingOfLook ending
EndsBy cli unread left old new endings.Done = WritesBy cli unread left old new
EndsBy cli unread left old new (endings.Fault fault) = EndsEarlyBy cli fault unread left old new
EndsBy cli unread left old new endings.OutOfMemory = EndsWithoutLine cli unread left old new
EndsBy cli unread left old new _ = ⊥

-- the same, whatever was read
abbrev pub IsEndingBy : Cli → Ending → Type 0
IsEndingBy (commands.LoggedSession path must_exist) ending = IsEndingOfSession ending
IsEndingBy (commands.Log path) ending = IsEndingOfLook ending
IsEndingBy cli endings.Done = ⊤
IsEndingBy cli (endings.Fault fault) = IsFaultBy cli fault
IsEndingBy cli endings.OutOfMemory = ⊤
IsEndingBy cli _ = ⊥

-- the words ask for a command, and the ending is that of what it does
pub record RunsWords (words : List Text) (unread left old new : Option (List ℕ)) (ending : Ending) : Type 0 where
  pub cli : Cli
  pub asked : AskFor words cli
  pub ends : EndsBy cli unread left old new ending
  pub kind : IsEndingBy cli ending

-- the words are faulty or ask for help, or there was no memory to read them: this is printed, and nothing is read
pub record PrintsUsage (words : List Text) (unread left old new : Option (List ℕ)) (ending : Ending) : Type 0 where
  pub error : Error
  pub fault : HasKind (fault_of_words words) error
  pub usage : IsEndingOfUsage (kind_of error) ending
  pub kept : Keeps unread left
  pub unwritten : Keeps old new

-- the words of a command line are carried out
abbrev pub CarriesOut : List Text → Option (List ℕ) → Option (List ℕ) → Option (List ℕ) → Option (List ℕ) → Ending → Type 0
CarriesOut words unread left old new ending = RunsWords words unread left old new ending ⊎ PrintsUsage words unread left old new ending
