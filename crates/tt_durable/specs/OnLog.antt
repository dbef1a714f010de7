-- How a session goes on whose lines are logged, and what a crash leaves of it.
use Rattle.std.specs.Prelude.{◌≡◌, ◌⊎◌, ℕ, ◌+◌, ◌<◌, ◌≤◌, ◌^◌, List, ◌++◌, length, take, Option, Some}
use Rattle.tt_log.specs.Device.{Left, LeavesOnly, ShowsFirst, LeavesNoNewFile}
use Rattle.tt_log.specs.declared.device.Device.{Ghosts}
use Rattle.tt_log.specs.declared.log_error.LogError.{LogError}
use Rattle.tt_log.specs.declared.log_error.LogError.TheVariants as errors
use Rattle.tt_log.specs.Lines.{logged, joined}
use Rattle.tt_session.specs.declared.session.Session.{Session}
use Rattle.tt_session.specs.Answering.{LineRead, turns_of, unlogged_count}
use Rattle.tt_session.specs.Logged.{log_after}
use Rattle.tt_durable.specs.Restoring.{NewLogsAreRead}

-- A crash left the log after the first lines that a session reads. What had been handed over are answers to the first of these, or the first bytes of them.
pub record LeavesAnswered (start : Session) (lines : List (List ℕ)) (reads : List LineRead) (shown : List ℕ) (left : Left) : Type 0 where
  pub answered : List LineRead
  pub unanswered : List LineRead
  pub others : List LineRead
  pub reads_are : reads ≡ (answered ++ unanswered) ++ others
  pub lines_are : logged left.file ≡ log_after lines start (answered ++ unanswered)
  pub bytes : ℕ
  pub shown_is : left.shown ≡ shown ++ take bytes (turns_of start answered).text

-- what a device tells of itself
abbrev pub Telling : Type 0 → Type 1
Telling D = Ghosts D

-- Since a device was like this, the answers to lines that a session read were handed over, and its log is the one after these lines. The device has failed each time that it couldn't be made anew, and once more where a new file of the device is left that wasn't there.
pub record HandedOnLog {D : Type 0} (of : Telling D) (before after : D) (start : Session) (reads : List LineRead) : Type 0 where
  pub tells : of.tells after
  pub lines_are : logged (of.seen after) ≡ log_after (logged (of.seen before)) start reads
  pub shown_is : of.shown after ≡ of.shown before ++ (turns_of start reads).text
  pub any_moment : LeavesOnly of.moment of.left_since before after (LeavesAnswered start (logged (of.seen before)) reads (of.shown before))
  pub new_logs : NewLogsAreRead start reads
  pub failures : of.failures before + unlogged_count reads ≤ of.failures after
  pub no_new : LeavesNoNewFile of.has_new_file of.failures (unlogged_count reads) before after

-- these lines don't fit into a log
abbrev pub IsFull : List (List ℕ) → Type 0
IsFull lines = 2 ^ 60 ≤ length (joined lines)

-- A log with these lines couldn't be written, since the device has failed more often than so many times, or is full. A new file that is left is one more failure.
abbrev pub CannotWrite : {D : Type 0} → Telling D → D → D → ℕ → List (List ℕ) → Type 0
CannotWrite of before after count lines =
    ((of.failures before + count < of.failures after) × LeavesNoNewFile of.has_new_file of.failures (count + 1) before after)
    ⊎ (IsFull lines × LeavesNoNewFile of.has_new_file of.failures count before after)

-- The log couldn't be written, since the device has failed, or is full: the answers to the first lines read were handed over, and nothing of those to the lines that were to be logged then.
pub record StoppedInLog {D : Type 0} (of : Telling D) (before after : D) (start : Session) (reads : List LineRead) : Type 0 where
  pub answered : List LineRead
  pub pending : List LineRead
  pub others : List LineRead
  pub reads_are : reads ≡ (answered ++ pending) ++ others
  pub shown_is : of.shown after ≡ of.shown before ++ (turns_of start answered).text
  pub any_moment : LeavesOnly of.moment of.left_since before after (LeavesAnswered start (logged (of.seen before)) (answered ++ pending) (of.shown before))
  pub new_logs : NewLogsAreRead start (answered ++ pending)
  pub failures : of.failures before + unlogged_count (answered ++ pending) ≤ of.failures after
  pub why : CannotWrite of before after (unlogged_count (answered ++ pending)) (log_after (logged (of.seen before)) start (answered ++ pending))

-- The output has failed while it was handed the answers to the first lines read: the log is the one after these lines.
pub record StoppedInOutput {D : Type 0} (of : Telling D) (before after : D) (start : Session) (reads : List LineRead) : Type 0 where
  pub answered : List LineRead
  pub others : List LineRead
  pub reads_are : reads ≡ answered ++ others
  pub shown_is : ShowsFirst (of.shown before) (of.shown after) (turns_of start answered).text
  pub any_moment : LeavesOnly of.moment of.left_since before after (LeavesAnswered start (logged (of.seen before)) answered (of.shown before))
  pub new_logs : NewLogsAreRead start answered
  pub lines_are : logged (of.seen after) ≡ log_after (logged (of.seen before)) start answered
  pub failed : of.failures before + unlogged_count answered < of.failures after
  pub no_new : LeavesNoNewFile of.has_new_file of.failures (unlogged_count answered + 1) before after

-- answers couldn't be handed over, and this is why
abbrev pub StoppedOnLog : {D : Type 0} → Option LogError → Telling D → D → D → Session → List LineRead → Type 0
StoppedOnLog (Some errors.HandOver) of before after start reads = StoppedInOutput of before after start reads
StoppedOnLog error of before after start reads = StoppedInLog of before after start reads
