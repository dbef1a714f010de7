-- How the commands on a log end. Of a real file nothing is told, so then nothing is said of what was read and written.
use Rattle.std.specs.Prelude.{◌≡◌, ℕ, List, Option, ⊤}
use Rattle.tt_lines.specs.Ends.{HandsOverAll}
use Rattle.tt_durable.specs.LoggedSession.{GoesOnLog, FailsOnLog, IsEnded}
use Rattle.tt_durable.specs.OnLog.{Telling}
use Rattle.tt_durable.specs.declared.logged_session.LoggedFault.{LoggedFault}
use Rattle.tt_workload.specs.declared.run_fault.RunFault.TheVariants as faults
use Rattle.tt_cli.specs.declared.ending.Ending.{Ending}
use Rattle.tt_cli.specs.declared.ending.Ending.TheVariants as endings
use Rattle.tt_cli.specs.declared.log_fault.LogFault.TheVariants as log_faults
use Rattle.tt_cli.specs.Ending.{IsEndingOfLogged}
use Rattle.tt_cli.specs.Running.{IsFaultOfSession}

-- a session on a log has failed, and ends so
pub record FailsOn {D : Type 0} (unread left : Option (List ℕ)) (of : Telling D) (before : D) (ending : Ending) : Type 0 where
  pub fault : LoggedFault
  pub after : D
  pub fails : FailsOnLog fault unread left of before after
  pub ends : IsEndingOfLogged fault ending

-- a session on a log has handed over all answers, and its log is ended
pub record DoneOn {D : Type 0} (unread left : Option (List ℕ)) (of : Telling D) (before : D) : Type 0 where
  pub after : D
  pub answers : HandsOverAll unread left (GoesOnLog of before after)
  pub ended : IsEnded of.seen of.may_leave after

-- a session on a log is done where all answers were handed over and the log is ended, and otherwise ends as its fault does
abbrev pub EndsOnLog : {D : Type 0} → Option (List ℕ) → Option (List ℕ) → Telling D → D → Ending → Type 0
EndsOnLog unread left of before endings.Done = DoneOn unread left of before
EndsOnLog unread left of before ending = FailsOn unread left of before ending

-- an ending of a session on a log
abbrev pub IsEndingOfSession : Ending → Type 0
IsEndingOfSession endings.Done = ⊤
IsEndingOfSession (endings.Fault fault) = IsFaultOfSession fault
IsEndingOfSession (endings.LogFault fault) = ⊤
IsEndingOfSession endings.OutOfMemory = ⊤
IsEndingOfSession _ = ⊥

-- an ending of a look at a log
abbrev pub IsEndingOfLook : Ending → Type 0
IsEndingOfLook endings.Done = ⊤
IsEndingOfLook (endings.Fault fault) = fault ≡ faults.Write
IsEndingOfLook (endings.LogFault fault) = fault ≡ log_faults.Unreadable
IsEndingOfLook _ = ⊥
