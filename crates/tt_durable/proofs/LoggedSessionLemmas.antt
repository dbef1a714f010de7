-- How a session on a log goes on from what was read back.
use Rattle.std.proofs.Common.{◌≡◌, ⊎_elim, ℕ, ◌<◌, ◌≤◌, List, [], ◌++◌, length, append-nil, Option, None, Some, inl, inr, refl, sym, ap, ◌∙◌, subst, arith}
use Rattle.std.proofs.Math.Seq.{take-length}
use Rattle.std.specs.Io.KnownBytes.{Keeps}
use Rattle.tt_log.specs.Device.{Left, Only, LeavesOnly}
use Rattle.tt_log.specs.Lines.{logged, IsJoined}
use Rattle.tt_log.specs.Log.{Keeps as KeepsLines}
use Rattle.tt_log.proofs.MomentLemmas as moments
use Rattle.tt_log.specs.declared.log.Log.{Log}
use Rattle.tt_log.specs.declared.log_error.LogError.{LogError}
use Rattle.tt_log.specs.declared.log_error.LogError.TheVariants as errors
use Rattle.tt_session.specs.declared.session.Session.{Session}
use Rattle.tt_lines.specs.declared.run.SessionFault.{SessionFault}
use Rattle.tt_lines.specs.declared.run.SessionFault.TheVariants as ends
use Rattle.tt_durable.specs.declared.logged_session.LoggedFault.{LoggedFault}
use Rattle.tt_durable.specs.declared.logged_session.LoggedFault.TheVariants as faults
use Rattle.tt_session.specs.Answering.{LineRead, turns_of, unlogged_count}
use Rattle.tt_durable.specs.Restoring.{NewLogsAreRead}
use Rattle.tt_durable.proofs.OnLogLemmas.{leaves-all, no-new-then}
use Rattle.tt_lines.specs.Ends.{Fails}
use Rattle.tt_durable.specs.OnLog.{Telling, LeavesAnswered, HandedOnLog, StoppedInLog, StoppedInOutput, StoppedOnLog}
use Rattle.tt_durable.specs.LoggedFaults.{fault_of}
use Rattle.tt_durable.specs.LoggedSession.{Begins, GoesOnLog, StopsInLog, StopsInOutput, BeginsOnLog, FailsAtStart, FailsOnLog}

module _ {D : Type 0} (of : Telling D) (device : D) (session : Session) (log : Log D) (begun : BeginsOnLog of device session log) (after : D) (reads : List LineRead) where
  pub goes-on : HandedOnLog of log.device after session reads → GoesOnLog of device after reads
  goes-on h = record { start = session; begun = log.device; begins = begun.begins; goes_on = h }

  pub stops-in-log : StoppedInLog of log.device after session reads → StopsInLog of device after reads
  stops-in-log h = record { start = session; begun = log.device; begins = begun.begins; stops = h }

  pub stops-in-output : StoppedInOutput of log.device after session reads → StopsInOutput of device after reads
  stops-in-output h = record { start = session; begun = log.device; begins = begun.begins; stops = h }

-- a session has stopped on a log with this error
abbrev pub StopsFor : {D : Type 0} → Option LogError → Telling D → D → D → List LineRead → Type 0
StopsFor (Some errors.HandOver) of before after reads = StopsInOutput of before after reads
StopsFor error of before after reads = StopsInLog of before after reads

pub stops-for : {D : Type 0} (error : Option LogError) (of : Telling D) (device : D) (session : Session) (log : Log D) (begun : BeginsOnLog of device session log)
    (after : D) (reads : List LineRead) → StoppedOnLog error of log.device after session reads → StopsFor error of device after reads
stops-for None = stops-in-log
stops-for (Some errors.Read) = stops-in-log
stops-for (Some errors.Write) = stops-in-log
stops-for (Some errors.Full) = stops-in-log
stops-for (Some errors.HandOver) = stops-in-output

-- the session didn't begin
pub fails-at-start : {D : Type 0} (fault : LoggedFault) (unread left : Option (List ℕ)) (of : Telling D) (before after : D) → Keeps unread left → FailsAtStart fault of before after
    → FailsOnLog fault unread left of before after
fails-at-start faults.Read unread left of before after kept p = absurd p
fails-at-start faults.Write unread left of before after kept p = absurd p
fails-at-start faults.Memory unread left of before after kept p = (kept, p)
fails-at-start faults.LogRead unread left of before after kept p = (kept, p)
fails-at-start (faults.LogLine number) unread left of before after kept p = (kept, p)
fails-at-start faults.LogWrite unread left of before after kept p = inl (kept, p)

-- nothing was read
pub keeps-same : (unread : Option (List ℕ)) → Keeps unread unread
keeps-same None = tt
keeps-same (Some xs) = refl

-- it has ended early
pub fails-on-log : {D : Type 0} (fault : SessionFault) (error : Option LogError) (unread left : Option (List ℕ)) (of : Telling D) (before after : D)
    → Fails fault unread left (GoesOnLog of before after) (StopsFor error of before after) → FailsOnLog (fault_of fault error) unread left of before after
fails-on-log ends.Read error unread left of before after p = p
fails-on-log ends.Memory error unread left of before after p = absurd p
fails-on-log ends.Write None unread left of before after p = inr p
fails-on-log ends.Write (Some errors.Read) unread left of before after p = inr p
fails-on-log ends.Write (Some errors.Write) unread left of before after p = inr p
fails-on-log ends.Write (Some errors.Full) unread left of before after p = inr p
fails-on-log ends.Write (Some errors.HandOver) unread left of before after p = p

-- ---- the end

-- A log was ended: its file is its lines and nothing else, all of it on the disk. A crash on the way leaves the same lines, and nothing was handed over.
pub record EndsLog {D : Type 0} (of : Telling D) (before after : D) : Type 0 where
  pub tells : of.tells after
  pub lines : IsJoined (of.seen after)
  pub lines_are : logged (of.seen after) ≡ logged (of.seen before)
  pub durable : Only (of.seen after) (of.may_leave after)
  pub shown_is : of.shown after ≡ of.shown before
  pub any_moment : LeavesOnly of.moment of.left_since before after (KeepsLines (logged (of.seen before)) (of.shown before))
  pub failures : of.failures before ≤ of.failures after
  pub no_new : of.has_new_file after → of.has_new_file before

-- a log couldn't be ended, and a crash leaves the same lines
pub record FailsToEnd {D : Type 0} (of : Telling D) (before after : D) : Type 0 where
  pub shown_is : of.shown after ≡ of.shown before
  pub any_moment : LeavesOnly of.moment of.left_since before after (KeepsLines (logged (of.seen before)) (of.shown before))
  pub failed : of.failures before < of.failures after
  pub no_new : of.has_new_file after → of.has_new_file before

module _ {D : Type 0} (of : Telling D) (begun mid after : D) (start : Session) (reads : List LineRead) (handed : HandedOnLog of begun mid start reads) where
  leaves : (left : Left) → KeepsLines (logged (of.seen mid)) (of.shown mid) left → LeavesAnswered start (logged (of.seen begun)) reads (of.shown begun) left
  leaves left k =
      leaves-all start (logged (of.seen begun)) reads (of.shown begun) left (length (turns_of start reads).text) (k.lines_are ∙ handed.lines_are)
      (k.shown_is ∙ handed.shown_is ∙ ap (λ t. of.shown begun ++ t) (sym (take-length (turns_of start reads).text)))

  run : LeavesOnly of.moment of.left_since mid after (KeepsLines (logged (of.seen mid)) (of.shown mid))
      → LeavesOnly of.moment of.left_since begun after (LeavesAnswered start (logged (of.seen begun)) reads (of.shown begun))
  run ending =
      moments.joined of.moment of.left_since begun mid after (LeavesAnswered start (logged (of.seen begun)) reads (of.shown begun)) (KeepsLines (logged (of.seen mid)) (of.shown mid))
      (LeavesAnswered start (logged (of.seen begun)) reads (of.shown begun)) handed.any_moment ending (λ c l. l) leaves

  pub handed-ended : EndsLog of mid after → HandedOnLog of begun after start reads
  handed-ended e = record {
    tells = e.tells;
    lines_are = e.lines_are ∙ handed.lines_are;
    shown_is = e.shown_is ∙ handed.shown_is;
    any_moment = run e.any_moment;
    new_logs = handed.new_logs;
    failures = omega (arith, handed.failures, e.failures);
    no_new = no-new-then of begun mid after (unlogged_count reads) handed.no_new e.no_new e.failures;
  }

  -- all answers are handed over, and the log isn't ended
  pub stopped-ending : FailsToEnd of mid after → StoppedInLog of begun after start reads
  stopped-ending f =
      let all : reads ++ [] ≡ reads = append-nil reads in
      record {
        answered = reads;
        pending = [];
        others = [];
        reads_are = sym (append-nil reads) ∙ ap (λ rs. rs ++ []) (sym all);
        shown_is = f.shown_is ∙ handed.shown_is;
        any_moment = subst (λ rs. LeavesOnly of.moment of.left_since begun after (LeavesAnswered start (logged (of.seen begun)) rs (of.shown begun))) (sym all) (run f.any_moment);
        new_logs = subst (NewLogsAreRead start) (sym all) handed.new_logs;
        failures = omega (arith, handed.failures, f.failed, ap unlogged_count all);
        why = inl (
          omega (arith, handed.failures, f.failed, ap unlogged_count all),
          λ now. ⊎_elim (λ was. inl was) (λ more_failed. inr (omega (arith, more_failed, f.failed, ap unlogged_count all))) (handed.no_new (f.no_new now)),
        );
      }

  pub goes-ended : (device : D) → Begins of device begun start → EndsLog of mid after → GoesOnLog of device after reads
  goes-ended device begins e = record { start = start; begun = begun; begins = begins; goes_on = handed-ended e }

  pub stops-ending : (device : D) → Begins of device begun start → FailsToEnd of mid after → StopsInLog of device after reads
  stops-ending device begins f = record { start = start; begun = begun; begins = begins; stops = stopped-ending f }
