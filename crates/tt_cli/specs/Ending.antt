-- How the program ends, and the status that it ends with.
use Rattle.std.specs.Prelude.{ℕ, ◌≡◌, ◌⊎◌, true}
use Rattle.std.specs.declared.io.ErrorKind.{ErrorKind as WordsError}
use Rattle.std.specs.declared.io.ErrorKind.TheVariants as words
use Rattle.clap.specs.declared.error.kind.ErrorKind.{ErrorKind}
use Rattle.clap.specs.declared.error.kind.ErrorKind.TheVariants as usage
use Rattle.tt_workload.specs.declared.run_fault.RunFault.{RunFault}
use Rattle.tt_workload.specs.declared.run_fault.RunFault.TheVariants as faults
use Rattle.tt_cli.specs.declared.ending.Ending.{Ending}
use Rattle.tt_cli.specs.declared.ending.Ending.TheVariants as endings
use Rattle.tt_durable.specs.declared.logged_session.LoggedFault.{LoggedFault}
use Rattle.tt_durable.specs.declared.logged_session.LoggedFault.TheVariants as logged
use Rattle.tt_cli.specs.declared.log_fault.LogFault.{LogFault}
use Rattle.tt_cli.specs.declared.log_fault.LogFault.TheVariants as log_faults
use Rattle.tt_cli.specs.Status.{status_of, has_text, status_of_log, has_number}

abbrev pub exit_status : Ending → ℕ
exit_status endings.Done = 0
exit_status endings.Help = 0
exit_status endings.Usage = 2
exit_status endings.WordNotText = 2
exit_status (endings.Fault fault) = status_of fault
exit_status (endings.LogFault fault) = status_of_log fault
exit_status endings.OutOfMemory = 3

-- where the words of the command line can't be read
abbrev pub ending_of_words : WordsError → Ending
ending_of_words words.OutOfMemory = endings.OutOfMemory
ending_of_words _ = endings.WordNotText

-- where the command line gives no command
abbrev pub ending_of_usage : ErrorKind → Ending
ending_of_usage usage.OutOfMemory = endings.OutOfMemory
ending_of_usage usage.DisplayHelp = endings.Help
ending_of_usage usage.DisplayVersion = endings.Help
ending_of_usage _ = endings.Usage

-- the fault itself, or out of memory if its line has a text of its own, which can't be built
abbrev pub IsEndingOfFault : RunFault → Ending → Type 0
IsEndingOfFault fault ending =
    (ending ≡ endings.Fault fault) ⊎ ((has_text fault ≡ true) × (ending ≡ endings.OutOfMemory))

-- the same of a log
abbrev pub IsEndingOfLog : LogFault → Ending → Type 0
IsEndingOfLog fault ending =
    (ending ≡ endings.LogFault fault) ⊎ ((has_number fault ≡ true) × (ending ≡ endings.OutOfMemory))

-- a session on a log has ended in this fault
abbrev pub IsEndingOfLogged : LoggedFault → Ending → Type 0
IsEndingOfLogged logged.Read ending = IsEndingOfFault faults.Read ending
IsEndingOfLogged logged.Write ending = IsEndingOfFault faults.Write ending
IsEndingOfLogged logged.Memory ending = IsEndingOfFault faults.Memory ending
IsEndingOfLogged logged.LogRead ending = IsEndingOfLog log_faults.Unreadable ending
IsEndingOfLogged (logged.LogLine number) ending = IsEndingOfLog (log_faults.Line number) ending
IsEndingOfLogged logged.LogWrite ending = IsEndingOfLog log_faults.Unwritable ending

-- help that can't be printed is a fault of writing
abbrev pub IsEndingOfUsage : ErrorKind → Ending → Type 0
IsEndingOfUsage kind ending =
    (ending ≡ ending_of_usage kind)
    ⊎ ((ending_of_usage kind ≡ endings.Help) × (ending ≡ endings.Fault faults.Write))
