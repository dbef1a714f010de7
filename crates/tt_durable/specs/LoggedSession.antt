-- What a session has done whose lines are logged, from a file as its last user or a crash has left it.
use Rattle.std.specs.Prelude.{◌≡◌, ◌⊎◌, ℕ, ◌<◌, ◌≤◌, ◌^◌, List, length, Option}
use Rattle.std.specs.Io.KnownBytes.{Keeps}
use Rattle.tt_log.specs.Device.{LeavesOnly, Only, LeavesNoNewFile}
use Rattle.tt_log.specs.Lines.{logged, IsJoined}
use Rattle.tt_log.specs.Log.{IsSettled, KeepsOnceSynced}
use Rattle.tt_log.specs.declared.log.Log.{Log}
use Rattle.tt_session.specs.declared.session.Session.{Session}
use Rattle.tt_durable.specs.declared.logged_session.LoggedFault.{LoggedFault}
use Rattle.tt_durable.specs.declared.logged_session.LoggedFault.TheVariants as faults
use Rattle.tt_session.specs.Answering.{LineRead}
use Rattle.tt_durable.specs.Restoring.{Restores, IsNoLine}
use Rattle.tt_durable.specs.OnLog.{Telling, HandedOnLog, StoppedInLog, StoppedInOutput}
use Rattle.tt_lines.specs.Ends.{FailsReading, FailsHanding}

-- A session was read back from a file, and its lines are on the disk: a crash on the way leaves lines that it might have left before, or these. Nothing was handed over.
pub record Begins {D : Type 0} (of : Telling D) (before begun : D) (start : Session) : Type 0 where
  pub restores : Restores (logged (of.seen before)) start
  pub any_moment : LeavesOnly of.moment of.left_since before begun (KeepsOnceSynced (of.may_leave before) (logged (of.seen before)) (of.shown before))
  pub durable : Only (of.seen begun) (of.may_leave begun)
  pub lines_are : logged (of.seen begun) ≡ logged (of.seen before)
  pub shown_is : of.shown begun ≡ of.shown before
  pub failures : of.failures before ≤ of.failures begun
  pub no_new : of.has_new_file begun → of.has_new_file before

-- a file is lines and nothing else, all of it on the disk: so the next session goes on with it
pub record IsEnded {D : Type 0} (seen : D → List ℕ) (may_leave : D → List ℕ → Type 0) (device : D) : Type 0 where
  pub lines : IsJoined (seen device)
  pub durable : Only (seen device) (may_leave device)

-- A session was read back, and has gone on: the answers to these lines were handed over, and before each of them its log was the one after the line that it answers.
pub record GoesOnLog {D : Type 0} (of : Telling D) (before after : D) (reads : List LineRead) : Type 0 where
  pub start : Session
  pub begun : D
  pub begins : Begins of before begun start
  pub goes_on : HandedOnLog of begun after start reads

-- the same, but that the log couldn't be written before all answers were handed over
pub record StopsInLog {D : Type 0} (of : Telling D) (before after : D) (reads : List LineRead) : Type 0 where
  pub start : Session
  pub begun : D
  pub begins : Begins of before begun start
  pub stops : StoppedInLog of begun after start reads

-- the same, but that the output has failed before it had all answers
pub record StopsInOutput {D : Type 0} (of : Telling D) (before after : D) (reads : List LineRead) : Type 0 where
  pub start : Session
  pub begun : D
  pub begins : Begins of before begun start
  pub stops : StoppedInOutput of begun after start reads

-- The session didn't begin: a crash leaves lines that it might have left before, or those of the file. Nothing was handed over.
pub record StaysOnLog {D : Type 0} (of : Telling D) (before after : D) : Type 0 where
  pub any_moment : LeavesOnly of.moment of.left_since before after (KeepsOnceSynced (of.may_leave before) (logged (of.seen before)) (of.shown before))
  pub shown_is : of.shown after ≡ of.shown before

-- The same, and the file is as it was. Where a new file is left that wasn't there, the device has failed.
pub record StaysAsItWas {D : Type 0} (of : Telling D) (before after : D) : Type 0 where
  pub stays : StaysOnLog of before after
  pub seen : of.seen after ≡ of.seen before
  pub no_new : LeavesNoNewFile of.has_new_file of.failures 0 before after

-- the same, since the file can't be read, or has 2^60 bytes or more
pub record FailsToRead {D : Type 0} (of : Telling D) (before after : D) : Type 0 where
  pub stays : StaysAsItWas of before after
  pub why : of.cannot_read after ⊎ (2 ^ 60 ≤ length (of.seen before))

-- the file isn't the log of a session, and stays as it was
pub record RefusesLog {D : Type 0} (of : Telling D) (before after : D) (number : ℕ) : Type 0 where
  pub stays : StaysAsItWas of before after
  pub is_no_line : IsNoLine (logged (of.seen before)) number

-- The file couldn't be written when the session was to begin. Where a new file is left that wasn't there, the device has failed twice.
pub record FailsToBegin {D : Type 0} (of : Telling D) (before after : D) : Type 0 where
  pub stays : StaysOnLog of before after
  pub failed : of.failures before < of.failures after
  pub no_new : LeavesNoNewFile of.has_new_file of.failures 1 before after

-- a session is read back from a file, and may go on
pub record BeginsOnLog {D : Type 0} (of : Telling D) (before : D) (session : Session) (log : Log D) : Type 0 where
  pub tells : of.tells log.device
  pub settled : IsSettled of.seen of.may_leave log
  pub begins : Begins of before log.device session

-- the session didn't begin for this fault
abbrev pub FailsAtStart : {D : Type 0} → LoggedFault → Telling D → D → D → Type 0
FailsAtStart (faults.LogLine number) of before after = RefusesLog of before after number
FailsAtStart faults.LogRead of before after = FailsToRead of before after
FailsAtStart faults.LogWrite of before after = FailsToBegin of before after
FailsAtStart faults.Read of before after = ⊥
FailsAtStart faults.Write of before after = ⊥
FailsAtStart fault of before after = StaysAsItWas of before after

-- the session has ended in this fault; where it didn't begin, nothing was read
abbrev pub FailsOnLog : {D : Type 0} → LoggedFault → Option (List ℕ) → Option (List ℕ) → Telling D → D → D → Type 0
FailsOnLog faults.Read unread left of before after = FailsReading unread left (GoesOnLog of before after)
FailsOnLog faults.Write unread left of before after = FailsHanding unread (StopsInOutput of before after)
FailsOnLog faults.LogWrite unread left of before after =
    (Keeps unread left × FailsToBegin of before after) ⊎ FailsHanding unread (StopsInLog of before after)
FailsOnLog (faults.LogLine number) unread left of before after = Keeps unread left × RefusesLog of before after number
FailsOnLog faults.LogRead unread left of before after = Keeps unread left × FailsToRead of before after
FailsOnLog fault unread left of before after = Keeps unread left × StaysAsItWas of before after
