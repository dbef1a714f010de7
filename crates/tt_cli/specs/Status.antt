-- The status that a fault ends the program with, and its line on standard error.
use Rattle.std.specs.Prelude.{ℕ, List, ◌++◌, codes, Bool, true, false, Option, Some, None, if◌then◌else◌, nat_lt, encode_utf8}
use Rattle.std.specs.List.{flat_map}
use Rattle.std.specs.Str.{chars}
use Rattle.tt_grammar.specs.Quoting.{escape}
use Rattle.tt_grammar.specs.declared.fault.DocFault.TheVariants as document_faults
use Rattle.tt_workload.specs.declared.run_fault.RunFault.{RunFault}
use Rattle.std.specs.Fmt.{decimal}
use Rattle.tt_workload.specs.declared.run_fault.RunFault.TheVariants as faults
use Rattle.tt_cli.specs.declared.log_fault.LogFault.{LogFault}
use Rattle.tt_cli.specs.declared.log_fault.LogFault.TheVariants as log_faults

-- 1 for what is read, 3 for out of memory, 4 for the store and for what is written
abbrev pub status_of : RunFault → ℕ
status_of faults.Read = 1
status_of (faults.Document (document_faults.At path cause)) = 1
status_of (faults.Document document_faults.Memory) = 3
status_of (faults.Store text) = 4
status_of faults.Write = 4
status_of faults.Memory = 3

-- where the document is faulty and why, or else what failed
abbrev pub fault_line : RunFault → List ℕ
fault_line faults.Read = codes "timetravel: cannot read standard input\n"
fault_line (faults.Document (document_faults.At path cause)) =
    codes "timetravel: " ++ (path ++ (codes ": " ++ (cause ++ codes "\n")))
fault_line (faults.Document document_faults.Memory) = codes "timetravel: want of memory\n"
fault_line (faults.Store text) = codes "timetravel: store: " ++ (text ++ codes "\n")
fault_line faults.Write = codes "timetravel: cannot write standard output\n"
fault_line faults.Memory = codes "timetravel: want of memory\n"

-- 1 for a log that can't be read or gone on with, 4 for one that can't be written
abbrev pub status_of_log : LogFault → ℕ
status_of_log log_faults.Unreadable = 1
status_of_log log_faults.InUse = 1
status_of_log log_faults.Missing = 1
status_of_log (log_faults.Line number) = 1
status_of_log log_faults.Unwritable = 4

-- what is wrong with a log
abbrev pub log_fault_text : LogFault → List ℕ
log_fault_text log_faults.Unreadable = codes "cannot read the log"
log_fault_text log_faults.InUse = codes "the log is in use"
log_fault_text log_faults.Missing = codes "there is no log"
log_fault_text (log_faults.Line number) = codes "log: line " ++ decimal number
log_fault_text log_faults.Unwritable = codes "cannot write the log"

-- the line that tells it alone
abbrev pub log_fault_line : LogFault → List ℕ
log_fault_line fault = codes "timetravel: " ++ (log_fault_text fault ++ codes "\n")

-- a character of a path as it is printed: a control character as in the texts of rows
abbrev pub printed_char : ℕ → List ℕ
printed_char c = if nat_lt c 32 then escape c else encode_utf8 c

abbrev pub printed_path : List ℕ → List ℕ
printed_path path = flat_map printed_char (chars path)

-- the end of a line, with the system's reason where there is one
abbrev pub line_end : Option (List ℕ) → List ℕ
line_end None = codes "\n"
line_end (Some reason) = codes ": " ++ (reason ++ codes "\n")

-- the line that tells the log's path, too, and the system's reason
abbrev pub log_path_line : LogFault → List ℕ → Option (List ℕ) → List ℕ
log_path_line fault path reason = codes "timetravel: " ++ (log_fault_text fault ++ (codes ": " ++ (printed_path path ++ line_end reason)))

-- a fault whose line has a number
abbrev pub has_number : LogFault → Bool
has_number (log_faults.Line number) = true
has_number _ = false

-- a fault whose line has a text that differs from fault to fault
abbrev pub has_text : RunFault → Bool
has_text (faults.Document (document_faults.At path cause)) = true
has_text (faults.Store text) = true
has_text _ = false
