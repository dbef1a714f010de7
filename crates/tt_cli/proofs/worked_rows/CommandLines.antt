-- Command lines, computed: what the words of some ask for, and the fault of others.
use Rattle.std.proofs.Common.{◌≡◌, ℕ, List, [], ◌∷◌, Bool, false, true, codes, refl, sym, ap, Some}
use Rattle.std.specs.Borrow.{Bor}
use Rattle.clap.specs.Words.{Text}
use Rattle.clap.specs.declared.error.kind.ErrorKind.TheVariants.{MissingRequiredArgument, ValueValidation, UnknownArgument}
use Rattle.clap.proofs.OnLiterals.{clap_on_literals}
use Rattle.tt_workload.specs.declared.options.Options.{Options}
use Rattle.tt_cli.specs.declared.command_line.Cli.TheVariants as commands
use Rattle.tt_cli.specs.CommandLine.{fault_of_words, IsCommandOf, IsBatchOf, IsRoundsOf, IsClosedOf, IsWhyOf, IsDiffOf, IsJsonOf, IsDryOf}

-- the words of a command line, behind the program's name
abbrev line : List Text → List Text
line words = codes "timetravel" ∷ words

-- `run` without options: a batch of 16, 8 rounds, neither closed generations nor causes nor differences in the report, which is text, and no dry run
abbrev run_alone : List Text
run_alone = line (codes "run" ∷ [])

run_is_taken : fault_of_words run_alone ≡ []
unfolding fault_of_words clap_on_literals
run_is_taken = refl

run_is_run : (options : Options) → IsCommandOf run_alone (commands.Run options)
unfolding IsCommandOf clap_on_literals
run_is_run options = refl

batch_of_run : (n : ℕ) → IsBatchOf run_alone n → n ≡ 16
unfolding IsBatchOf clap_on_literals
batch_of_run n is = is

rounds_of_run : (n : ℕ) → IsRoundsOf run_alone n → n ≡ 8
unfolding IsRoundsOf clap_on_literals
rounds_of_run n is = is

closed_of_run : (given : Bool) → IsClosedOf run_alone given → given ≡ false
unfolding IsClosedOf clap_on_literals
closed_of_run given is = is

why_of_run : (given : Bool) → IsWhyOf run_alone given → given ≡ false
unfolding IsWhyOf clap_on_literals
why_of_run given is = is

diff_of_run : (given : Bool) → IsDiffOf run_alone given → given ≡ false
unfolding IsDiffOf clap_on_literals
diff_of_run given is = is

dry_of_run : (given : Bool) → IsDryOf run_alone given → given ≡ false
unfolding IsDryOf clap_on_literals
dry_of_run given is = is

json_of_run : (given : Bool) → IsJsonOf run_alone given → given ≡ false
unfolding IsJsonOf clap_on_literals
json_of_run given is = is

-- `--why` asks for causes alone
abbrev replay_why : List Text
replay_why = line (codes "replay" ∷ codes "--why" ∷ [])

why_of_replay : (given : Bool) → IsWhyOf replay_why given → given ≡ true
unfolding IsWhyOf clap_on_literals
why_of_replay given is = is

closed_of_replay : (given : Bool) → IsClosedOf replay_why given → given ≡ false
unfolding IsClosedOf clap_on_literals
closed_of_replay given is = is

diff_of_replay : (given : Bool) → IsDiffOf replay_why given → given ≡ false
unfolding IsDiffOf clap_on_literals
diff_of_replay given is = is

json_of_replay : (given : Bool) → IsJsonOf replay_why given → given ≡ false
unfolding IsJsonOf clap_on_literals
json_of_replay given is = is

-- `--json` stands beside the others, in any order
json_of_replay_with_json : (given : Bool) → IsJsonOf (line (codes "replay" ∷ codes "--json" ∷ codes "--dry" ∷ [])) given → given ≡ true
unfolding IsJsonOf clap_on_literals
json_of_replay_with_json given is = is

dry_of_replay_with_json : (given : Bool) → IsDryOf (line (codes "replay" ∷ codes "--json" ∷ codes "--dry" ∷ [])) given → given ≡ true
unfolding IsDryOf clap_on_literals
dry_of_replay_with_json given is = is

json_of_run_with_json : (given : Bool) → IsJsonOf (line (codes "run" ∷ codes "--closed" ∷ codes "--json" ∷ [])) given → given ≡ true
unfolding IsJsonOf clap_on_literals
json_of_run_with_json given is = is

-- `--dry` and `--diff` are read each by its own word
abbrev replay_dry : List Text
replay_dry = line (codes "replay" ∷ codes "--dry" ∷ [])

dry_of_replay : (given : Bool) → IsDryOf replay_dry given → given ≡ true
unfolding IsDryOf clap_on_literals
dry_of_replay given is = is

diff_of_dry_replay : (given : Bool) → IsDiffOf replay_dry given → given ≡ false
unfolding IsDiffOf clap_on_literals
diff_of_dry_replay given is = is

diff_of_run_with_diff : (given : Bool) → IsDiffOf (line (codes "run" ∷ codes "--diff" ∷ [])) given → given ≡ true
unfolding IsDiffOf clap_on_literals
diff_of_run_with_diff given is = is

dry_run_in_threads_is_refused : fault_of_words (line (codes "run" ∷ codes "--dry" ∷ [])) ≡ UnknownArgument ∷ []
unfolding fault_of_words clap_on_literals
dry_run_in_threads_is_refused = refl

-- `replay` without options, which takes no rounds
abbrev replay_alone : List Text
replay_alone = line (codes "replay" ∷ [])

replay_is_taken : fault_of_words replay_alone ≡ []
unfolding fault_of_words clap_on_literals
replay_is_taken = refl

replay_is_replay : (options : Options) → IsCommandOf replay_alone (commands.Replay options)
unfolding IsCommandOf clap_on_literals
replay_is_replay options = refl

batch_of_replay : (n : ℕ) → IsBatchOf replay_alone n → n ≡ 16
unfolding IsBatchOf clap_on_literals
batch_of_replay n is = is

rounds_of_replay : (n : ℕ) → IsRoundsOf replay_alone n → n ≡ 8
unfolding IsRoundsOf clap_on_literals
rounds_of_replay n is = is

-- a number out of its range, and an option of the other command
no_batch_is_refused : fault_of_words (line (codes "replay" ∷ codes "--batch" ∷ codes "0" ∷ [])) ≡ ValueValidation ∷ []
unfolding fault_of_words clap_on_literals
no_batch_is_refused = refl

many_rounds_are_refused : fault_of_words (line (codes "run" ∷ codes "--rounds" ∷ codes "1001" ∷ [])) ≡ ValueValidation ∷ []
unfolding fault_of_words clap_on_literals
many_rounds_are_refused = refl

rounds_of_replay_are_refused : fault_of_words (line (codes "replay" ∷ codes "--rounds" ∷ codes "8" ∷ [])) ≡ UnknownArgument ∷ []
unfolding fault_of_words clap_on_literals
rounds_of_replay_are_refused = refl

-- a session in memory, and one on a log
session_is_session : IsCommandOf (line (codes "session" ∷ [])) commands.Session
unfolding IsCommandOf clap_on_literals
session_is_session = (refl, refl)

logged_session_is_logged : (path : Bor Text) → path.now ≡ codes "bank.log" → IsCommandOf (line (codes "session" ∷ codes "--log=bank.log" ∷ [])) (commands.LoggedSession path false)
unfolding IsCommandOf clap_on_literals
logged_session_is_logged path is = (refl, ap Some (sym is), refl)

logged_session_is_no_other : IsCommandOf (line (codes "session" ∷ codes "--log" ∷ codes "bank.log" ∷ [])) commands.Session → ⊥
unfolding IsCommandOf clap_on_literals
logged_session_is_no_other is = let bad = is.1 in absurd (cc)

-- a session on a log that must be there, which takes both options in either order
existing_session_must_exist : (path : Bor Text) → path.now ≡ codes "bank.log"
    → IsCommandOf (line (codes "session" ∷ codes "--existing" ∷ codes "--log" ∷ codes "bank.log" ∷ [])) (commands.LoggedSession path true)
unfolding IsCommandOf clap_on_literals
existing_session_must_exist path is = (refl, ap Some (sym is), refl)

existing_session_is_taken : fault_of_words (line (codes "session" ∷ codes "--log" ∷ codes "bank.log" ∷ codes "--existing" ∷ [])) ≡ []
unfolding fault_of_words clap_on_literals
existing_session_is_taken = refl

existing_without_log_is_refused : fault_of_words (line (codes "session" ∷ codes "--existing" ∷ [])) ≡ MissingRequiredArgument ∷ []
unfolding fault_of_words clap_on_literals
existing_without_log_is_refused = refl

-- a look at a log, which takes a file, and no more than one
log_is_log : (path : Bor Text) → path.now ≡ codes "bank.log" → IsCommandOf (line (codes "log" ∷ codes "bank.log" ∷ [])) (commands.Log path)
unfolding IsCommandOf clap_on_literals
log_is_log path is = (refl, ap Some (sym is))

no_file_is_refused : fault_of_words (line (codes "log" ∷ [])) ≡ MissingRequiredArgument ∷ []
unfolding fault_of_words clap_on_literals
no_file_is_refused = refl

two_files_are_refused : fault_of_words (line (codes "log" ∷ codes "a" ∷ codes "b" ∷ [])) ≡ UnknownArgument ∷ []
unfolding fault_of_words clap_on_literals
two_files_are_refused = refl
