-- Why a session with a log ends.
use Rattle.std.specs.Prelude.{Option, Some}
use Rattle.tt_log.specs.declared.log_error.LogError.{LogError}
use Rattle.tt_log.specs.declared.log_error.LogError.TheVariants as errors
use Rattle.tt_lines.specs.declared.run.SessionFault.{SessionFault}
use Rattle.tt_lines.specs.declared.run.SessionFault.TheVariants as ends
use Rattle.tt_durable.specs.declared.restoring.RestoreFault.{RestoreFault}
use Rattle.tt_durable.specs.declared.restoring.RestoreFault.TheVariants as restores
use Rattle.tt_durable.specs.declared.logged_session.LoggedFault.{LoggedFault}
use Rattle.tt_durable.specs.declared.logged_session.LoggedFault.TheVariants as faults

-- a log can't be read back
abbrev pub fault_of_restore : RestoreFault → LoggedFault
fault_of_restore restores.Read = faults.LogRead
fault_of_restore (restores.Line number) = faults.LogLine number
fault_of_restore restores.Memory = faults.Memory

-- a log can't be opened or settled
abbrev pub fault_at_start : LogError → LoggedFault
fault_at_start errors.Read = faults.LogRead
fault_at_start error = faults.LogWrite

-- the outlet has failed, for this error of the log
abbrev pub fault_of_outlet : Option LogError → LoggedFault
fault_of_outlet (Some errors.HandOver) = faults.Write
fault_of_outlet error = faults.LogWrite

-- a session has ended in this fault, on a log with this error
abbrev pub fault_of : SessionFault → Option LogError → LoggedFault
fault_of ends.Read error = faults.Read
fault_of ends.Memory error = faults.Memory
fault_of ends.Write error = fault_of_outlet error
