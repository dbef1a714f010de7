-- What has become of a log that is made anew.
use Rattle.std.specs.Prelude.{◌≡◌, ℕ, ◌<◌, ◌≤◌, ◌^◌, List, [], ◌++◌, take, Option, Some, IfSome}
use Rattle.tt_log.specs.declared.log_error.LogError.{LogError}
use Rattle.tt_log.specs.declared.log_error.LogError.TheVariants as errors
use Rattle.tt_log.specs.Device.{Left, LeavesOnly, ShowsFirst}
use Rattle.tt_log.specs.Lines.{logged, joined, AreLines}
use Rattle.tt_log.specs.Log.{IsSettled, IsMaking, Keeps, KeepsEither}
use Rattle.tt_log.specs.declared.log.Log.{Log}
use Rattle.tt_db.specs.declared.event.Entry.{Entry}
use Rattle.tt_grammar.specs.ReadBack.{IsStorableAction}
use Rattle.tt_horizon.specs.Forgetting.{entry_of}
use Rattle.tt_requests.specs.Opening.{max_records}
use Rattle.tt_session.specs.declared.session.Session.TheVariants as sessions
use Rattle.tt_durable.specs.declared.log_renewal.RenewFault.{RenewFault}
use Rattle.tt_durable.specs.declared.log_renewal.RenewFault.TheVariants as faults
use Rattle.tt_commands.specs.declared.terms.Terms.{Terms}
use Rattle.tt_commands.specs.Session.{OpenSession, Forgetting, terms_of}
use Rattle.tt_session.specs.LogLines.{action_in, lines_of_log}
use Rattle.tt_durable.specs.OnLog.{Telling}
use Rattle.tt_durable.specs.Restoring.{IsLogOf}

-- an entry is an action that is printed and read back
pub record IsPrintable (e : Entry) : Type 0 where
  pub is : e ≡ entry_of e.worker (action_in e)
  pub storable : IsStorableAction (action_in e)

-- and so is one behind the ground with its stamp, of a worker that may ask for an action
pub record IsFurtherPrintable (slot : Entry × Option ℕ) : Type 0 where
  pub entry : IsPrintable slot.0
  pub worker : 0 < slot.0.worker
  pub worker_fits : slot.0.worker < 2 ^ 32
  pub stamp_fits : IfSome slot.1 (λ stamp. stamp < 2 ^ 64)

-- a log that is made for a session which forgets is one of that session
abbrev pub IsReadable : Forgetting → Terms → Type 0
IsReadable f terms = (session : OpenSession) → session.database ≡ f.db → session.numbering ≡ f.numbering → session.stamps ≡ f.stamps → terms_of session ≡ terms → terms.most_records ≤ max_records →
    IsLogOf (lines_of_log (sessions.Open session)) (sessions.Open session)

-- a log goes on as it was
pub record KeepsLog {D : Type 0} (of : Telling D) (before after : Log D) : Type 0 where
  pub tells : of.tells after.device
  pub settled : IsSettled of.seen of.may_leave after
  pub seen : of.seen after.device ≡ of.seen before.device
  pub shown : of.shown after.device ≡ of.shown before.device
  pub any_moment : LeavesOnly of.moment of.left_since before.device after.device (Keeps (logged (of.seen before.device)) (of.shown before.device))
  pub failures : of.failures before.device ≤ of.failures after.device

-- a log has these lines in the place of its own
pub record TakesLines {D : Type 0} (of : Telling D) (before after : Log D) (lines : List (List ℕ)) : Type 0 where
  pub tells : of.tells after.device
  pub settled : IsSettled of.seen of.may_leave after
  pub lines_are : logged (of.seen after.device) ≡ lines
  pub shown : of.shown after.device ≡ of.shown before.device
  pub any_moment : LeavesOnly of.moment of.left_since before.device after.device (KeepsEither (logged (of.seen before.device)) lines (of.shown before.device))
  pub failures : of.failures before.device ≤ of.failures after.device

-- the device has failed, and a crash leaves the lines of the log, or these
pub record LosesLog {D : Type 0} (of : Telling D) (before after : Log D) (lines : List (List ℕ)) : Type 0 where
  pub shown : of.shown after.device ≡ of.shown before.device
  pub any_moment : LeavesOnly of.moment of.left_since before.device after.device (KeepsEither (logged (of.seen before.device)) lines (of.shown before.device))
  pub failed : of.failures before.device < of.failures after.device

-- the log isn't made anew with these lines, for this fault
abbrev pub FailsToRenew : {D : Type 0} → RenewFault → Telling D → Log D → Log D → List (List ℕ) → Type 0
FailsToRenew faults.Memory of before after lines = KeepsLog of before after
FailsToRenew faults.Kept of before after lines = KeepsLog of before after × (of.failures before.device < of.failures after.device)
FailsToRenew faults.Lost of before after lines = LosesLog of before after lines

-- where a log isn't made anew for this fault, the device has failed at least so often
abbrev pub failures_by : RenewFault → ℕ
failures_by faults.Memory = 0
failures_by fault = 1

-- the new file isn't written, for this fault
abbrev pub FailsToWrite : {D : Type 0} → RenewFault → Telling D → Log D → Log D → Type 0
FailsToWrite faults.Memory of before after = KeepsLog of before after
FailsToWrite faults.Kept of before after = KeepsLog of before after × (of.failures before.device < of.failures after.device)
FailsToWrite faults.Lost of before after = ⊥

-- of the lines of the new file the first ones are written, and these are to follow
pub record IsWriting {D : Type 0} (of : Telling D) (before log : Log D) (pending all : List (List ℕ)) : Type 0 where
  pub keeps : KeepsLog of before log
  pub making : IsMaking of.new_file log
  pub written : of.new_file log.device ++ joined pending ≡ joined all
  pub are_lines : AreLines all

-- further lines of the new file are written, or are to follow
abbrev pub WritesOn : {D : Type 0} → Telling D → Log D → Log D → List (List ℕ) → List (List ℕ) → List (List ℕ) → Type 0
WritesOn {D} of old new pending following more = (before : Log D) (all : List (List ℕ)) → IsWriting of before old pending all → IsWriting of before new following (all ++ more)

-- the lines that were to follow are written
abbrev pub WritesPending : {D : Type 0} → Telling D → Log D → Log D → List (List ℕ) → Type 0
WritesPending {D} of old new pending = (before : Log D) (all : List (List ℕ)) → IsWriting of before old pending all → IsWriting of before new [] all

-- further lines of the new file aren't written, for this fault
abbrev pub FailsWriting : {D : Type 0} → RenewFault → Telling D → Log D → Log D → List (List ℕ) → Type 0
FailsWriting {D} fault of old new pending = (before : Log D) (all : List (List ℕ)) → IsWriting of before old pending all → FailsToWrite fault of before new

-- a crash left these lines, when the first bytes of a text had been handed over behind what had been before
pub record KeepsShowing (lines : List (List ℕ)) (shown text : List ℕ) (left : Left) : Type 0 where
  pub lines_are : logged left.file ≡ lines
  pub bytes : ℕ
  pub shown_is : left.shown ≡ shown ++ take bytes text

-- a text was handed over, and the log is as it was
pub record HandsOverAlone {D : Type 0} (of : Telling D) (before after : Log D) (text : List ℕ) : Type 0 where
  pub tells : of.tells after.device
  pub settled : IsSettled of.seen of.may_leave after
  pub lines_are : logged (of.seen after.device) ≡ logged (of.seen before.device)
  pub shown : of.shown after.device ≡ of.shown before.device ++ text
  pub any_moment : LeavesOnly of.moment of.left_since before.device after.device (KeepsShowing (logged (of.seen before.device)) (of.shown before.device) text)
  pub failures : of.failures before.device ≤ of.failures after.device
  pub no_new : of.has_new_file after.device → of.has_new_file before.device

-- the output has failed before it had all of a text
pub record FailsAlone {D : Type 0} (error : Option LogError) (of : Telling D) (before after : Log D) (text : List ℕ) : Type 0 where
  pub error_is : error ≡ Some errors.HandOver
  pub lines_are : logged (of.seen after.device) ≡ logged (of.seen before.device)
  pub first : ShowsFirst (of.shown before.device) (of.shown after.device) text
  pub any_moment : LeavesOnly of.moment of.left_since before.device after.device (KeepsShowing (logged (of.seen before.device)) (of.shown before.device) text)
  pub failed : of.failures before.device < of.failures after.device
  pub no_new : of.has_new_file after.device → of.has_new_file before.device
