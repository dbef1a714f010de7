-- Why a request isn't carried out, memory aside.
use Rattle.std.specs.Prelude.{◌≡◌, Option, Some, Result, Err}
use Rattle.tt_db.specs.declared.errors.DbError.{DbError}
use Rattle.tt_db.specs.declared.errors.DbError.TheVariants as errors
use Rattle.tt_db.specs.declared.errors.ReadError.{ReadError}
use Rattle.tt_db.specs.declared.errors.ReadError.TheVariants as read_errors
use Rattle.tt_answers.specs.declared.answer.Refusal.{Refusal}
use Rattle.tt_answers.specs.declared.answer.Refusal.TheVariants as refusals
use Rattle.tt_commands.specs.declared.failure.Failure.{Failure}
use Rattle.tt_commands.specs.declared.failure.Failure.TheVariants as failures

-- what an error of an event makes of its request
abbrev pub failure_of_event : DbError → Failure
failure_of_event errors.Memory = failures.Memory
failure_of_event e = failures.Refused (refusals.Event e)

-- what an error of a read makes of its request
abbrev pub failure_of_read : ReadError → Failure
failure_of_read read_errors.Memory = failures.Memory
failure_of_read e = failures.Refused (refusals.Read e)

-- an error is this refusal. Without memory nothing is said of it
abbrev pub IsRefusal : DbError → Option DbError → Type 0
IsRefusal errors.Memory refusal = Unit {0}
IsRefusal e refusal = refusal ≡ Some e

-- a failure is the refusal of a request. Without memory nothing is said of it
abbrev pub FailsWith : {X : Type 0} → Failure → Result X Refusal → Type 0
FailsWith failures.Memory expected = Unit {0}
FailsWith (failures.Refused refusal) expected = expected ≡ Err refusal
