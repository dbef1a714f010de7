-- The command line: `timetravel`, with its version and four subcommands. `replay` takes `--batch`,
-- `--closed`, `--why`, `--diff`, `--json` and `--dry`; `run` takes `--rounds` in place of `--dry`; `session` takes `--log`, and `--existing` beside it; `log` takes a file.
use Rattle.std.specs.Prelude.{◌≡◌, ℕ, ◌∷◌, [], List, Option, Some, None, Ok, IsSomeAnd, codes, pos}
use Rattle.std.specs.Prelude.{Bool, if◌then◌else◌, true, false, not, ◌&&◌}
use Rattle.std.specs.Option.{option_map_or}
use Rattle.std.specs.Int.{w64}
use Rattle.std.specs.Str.Parse.{ParsesSigned, ParsesUnsigned}
use Rattle.std.specs.declared.num.ParseIntError.{ParseIntError}
use Rattle.clap.specs.Words.{App, Row, Rule, Text, first_of, new_app, new_rule, subcommand_of}
use Rattle.clap.specs.Words.{with_rule, with_subcommand, fault_of}
use Rattle.std.specs.Str.{bytes_eq}
use Rattle.clap.specs.Kinds.{Kinds, or_else}
use Rattle.clap.specs.declared.error.kind.ErrorKind.TheVariants.{MissingRequiredArgument}
use Rattle.clap.specs.Takes.{is_given}
use Rattle.clap.specs.declared.builder.action.ArgAction.TheVariants.{Set, SetTrue}
use Rattle.clap.specs.declared.builder.value_parser.ValueParser.TheVariants as parser
use Rattle.tt_workload.specs.declared.options.Options.{Options}
use Rattle.tt_cli.specs.declared.command_line.Cli.{Cli}
use Rattle.tt_cli.specs.declared.command_line.Cli.TheVariants as commands

abbrev pub requiring_subcommand : App → App
requiring_subcommand app = record app { top = record app.top { subcommand_required = true } }

abbrev pub with_version : App → App
with_version app = record app { top = record app.top { has_version = true } }

-- `--batch N`, from 1 to 10,000, and 16 where it isn't given
abbrev pub batch : Rule
batch = record (new_rule (codes "batch")) {
  long = Some (codes "batch");
  action = Some Set;
  value_names = 1;
  defaults = codes "16" ∷ [];
  parser = Some (parser.Signed (pos 1) (pos 10000));
}

-- `--rounds N`, from 0 to 1,000, and 8 where it isn't given
abbrev pub rounds : Rule
rounds = record (new_rule (codes "rounds")) {
  long = Some (codes "rounds");
  action = Some Set;
  value_names = 1;
  defaults = codes "8" ∷ [];
  parser = Some (parser.Signed (pos 0) (pos 1000));
}

-- `--closed`, which takes no value
abbrev pub closed : Rule
closed = record (new_rule (codes "closed")) { long = Some (codes "closed"); action = Some SetTrue }

-- `--why`, which takes no value
abbrev pub why : Rule
why = record (new_rule (codes "why")) { long = Some (codes "why"); action = Some SetTrue }

-- `--diff`, which takes no value
abbrev pub diff : Rule
diff = record (new_rule (codes "diff")) { long = Some (codes "diff"); action = Some SetTrue }

-- `--json`, which takes no value
abbrev pub json : Rule
json = record (new_rule (codes "json")) { long = Some (codes "json"); action = Some SetTrue }

-- `--dry`, which takes no value
abbrev pub dry : Rule
dry = record (new_rule (codes "dry")) { long = Some (codes "dry"); action = Some SetTrue }

-- `--log FILE`
abbrev pub log_option : Rule
log_option = record (new_rule (codes "log")) { long = Some (codes "log"); action = Some Set; value_names = 1 }

-- `--existing`, which takes no value
abbrev pub existing : Rule
existing = record (new_rule (codes "existing")) { long = Some (codes "existing"); action = Some SetTrue }

-- `FILE`, which must be given
abbrev pub log_argument : Rule
log_argument = record (new_rule (codes "file")) { action = Some Set; value_names = 1; required = true }

abbrev pub replay : App
replay = with_rule (with_rule (with_rule (with_rule (with_rule (with_rule (new_app (codes "replay")) batch) closed) why) diff) json) dry

abbrev pub run : App
run = with_rule (with_rule (with_rule (with_rule (with_rule (with_rule (new_app (codes "run")) batch) rounds) closed) why) diff) json

abbrev pub session : App
session = with_rule (with_rule (new_app (codes "session")) log_option) existing

abbrev pub log : App
log = with_rule (new_app (codes "log")) log_argument

-- the command without its subcommands
abbrev pub program : App
program = requiring_subcommand (with_version (new_app (codes "timetravel")))

abbrev pub command_line : App
command_line =
    with_subcommand (with_subcommand (with_subcommand (with_subcommand program replay.top) run.top) session.top) log.top

-- the options of a command, where it has some
abbrev pub options_of : Cli → Option Options
options_of (commands.Replay options) = Some options
options_of (commands.Run options) = Some options
options_of _ = None

-- the text that the words give for an option or an argument; a default is none
abbrev pub given_text : Text → List Row → Option Text
given_text id rows = if is_given id rows then first_of id rows else None

-- the subcommand of this name asks for a command, with the file that is given, if one is
abbrev pub Asks : Text → List Row → Cli → Type 0
Asks name rows (commands.Replay options) = name ≡ codes "replay"
Asks name rows (commands.Run options) = name ≡ codes "run"
Asks name rows commands.Session = (name ≡ codes "session") × (given_text (codes "log") rows ≡ None)
Asks name rows (commands.LoggedSession path must_exist) =
    (name ≡ codes "session") × (given_text (codes "log") rows ≡ Some path.now) × (must_exist ≡ is_given (codes "existing") rows)
Asks name rows (commands.Log path) = (name ≡ codes "log") × (given_text (codes "file") rows ≡ Some path.now)

-- `session` is given `--existing` without `--log`
abbrev pub lacks_log : Text × List Row → Bool
lacks_log sub = bytes_eq sub.0 (codes "session") && (is_given (codes "existing") sub.1 && not (is_given (codes "log") sub.1))

-- the kinds of fault of a subcommand that `clap` takes
abbrev pub fault_of_subcommand : Option (Text × List Row) → Kinds
fault_of_subcommand sub = if option_map_or lacks_log sub false then MissingRequiredArgument ∷ [] else []

-- the kinds of the first fault of the words; empty where they are taken
unfoldable pub fault_of_words : List Text → Kinds
fault_of_words words = or_else (fault_of command_line words) (fault_of_subcommand (subcommand_of command_line words))

-- the words give the subcommand that asks for this command
unfoldable pub IsCommandOf : List Text → Cli → Type 0
IsCommandOf words cli = IsSomeAnd (subcommand_of command_line words) (λ sub. Asks sub.0 sub.1 cli)

-- the number that the text writes, or the fallback where there is no text
abbrev pub IsNumberOr : ℕ → Option Text → ℕ → Type 0
IsNumberOr fallback None n = n ≡ fallback
IsNumberOr fallback (Some text) n = ParsesUnsigned {E = ParseIntError} 32 10 text (Ok n)

-- the same, where the text may be `-0`, too, which writes 0
abbrev pub IsSignedOr : ℕ → Option Text → ℕ → Type 0
IsSignedOr fallback None n = n ≡ fallback
IsSignedOr fallback (Some text) n = ParsesSigned {E = ParseIntError} w64 10 text (Ok (pos n))

-- the number that the words give for `--batch`, or 16 where they give none
unfoldable pub IsBatchOf : List Text → ℕ → Type 0
IsBatchOf words n = IsSomeAnd (subcommand_of command_line words) (λ sub.
    IsNumberOr 16 (given_text (codes "batch") sub.1) n)

-- the number that the words give for `--rounds`, or 8 where they give none, as for `replay`
unfoldable pub IsRoundsOf : List Text → ℕ → Type 0
IsRoundsOf words n = IsSomeAnd (subcommand_of command_line words) (λ sub.
    IsSignedOr 8 (given_text (codes "rounds") sub.1) n)

-- whether the words give `--closed`
unfoldable pub IsClosedOf : List Text → Bool → Type 0
IsClosedOf words given = IsSomeAnd (subcommand_of command_line words) (λ sub.
    given ≡ is_given (codes "closed") sub.1)

-- whether the words give `--why`
unfoldable pub IsWhyOf : List Text → Bool → Type 0
IsWhyOf words given = IsSomeAnd (subcommand_of command_line words) (λ sub.
    given ≡ is_given (codes "why") sub.1)

-- whether the words give `--diff`
unfoldable pub IsDiffOf : List Text → Bool → Type 0
IsDiffOf words given = IsSomeAnd (subcommand_of command_line words) (λ sub.
    given ≡ is_given (codes "diff") sub.1)

-- whether the words give `--json`
unfoldable pub IsJsonOf : List Text → Bool → Type 0
IsJsonOf words given = IsSomeAnd (subcommand_of command_line words) (λ sub.
    given ≡ is_given (codes "json") sub.1)

-- whether the words give `--dry`, which `run` doesn't take
unfoldable pub IsDryOf : List Text → Bool → Type 0
IsDryOf words given = IsSomeAnd (subcommand_of command_line words) (λ sub.
    given ≡ is_given (codes "dry") sub.1)
