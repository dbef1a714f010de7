-- Refusals and faults as they are printed.
use Rattle.std.specs.Prelude.{ℕ, List, [], ◌∷◌, codes}
use Rattle.tt_requests.specs.declared.told.ToldTime.{ToldTime}
use Rattle.tt_requests.specs.Numbers.{Numbering, told_time}
use Rattle.tt_db.specs.declared.errors.DbError.{DbError}
use Rattle.tt_db.specs.declared.errors.DbError.TheVariants as errors
use Rattle.tt_db.specs.declared.errors.ReadError.{ReadError}
use Rattle.tt_db.specs.declared.errors.ReadError.TheVariants as read_errors
use Rattle.tt_grammar.specs.declared.fault.DocFault.{DocFault}
use Rattle.tt_grammar.specs.declared.fault.DocFault.TheVariants as faults
use Rattle.tt_grammar.specs.Causes.{cause_of_check}
use Rattle.tt_grammar.specs.Fault.{document_fault}
use Rattle.tt_grammar.specs.Quoting.{quoted}
use Rattle.tt_grammar.specs.JsonText.{Member, number_member, object_text}
use Rattle.tt_answers.specs.declared.answer.Refusal.{Refusal}
use Rattle.tt_answers.specs.declared.answer.Refusal.TheVariants as refusals
use Rattle.tt_answers.specs.ToldText.{generation_member}

-- a refusal without a number
abbrev pub refused : List ℕ → List Member
refused cause = (codes "refused", quoted cause) ∷ []

-- a refusal with a number that belongs to it
abbrev pub refused_at : List ℕ → List ℕ → ℕ → List Member
refused_at cause name n = (codes "refused", quoted cause) ∷ number_member name n ∷ []

-- a refusal with a slot or a time that belongs to it
abbrev pub refused_at_time : List ℕ → List ℕ → ToldTime → List Member
refused_at_time cause name told = refused_at cause name told.number

-- there was no memory for the line
abbrev pub out_of_memory : List Member
out_of_memory = refused (codes "memory")

-- why the database refuses an event. A session never meets the faults of a statement, slots that are left or that aren't left, or too many edits
abbrev pub event_refused : Numbering → DbError → List Member
event_refused numbering (errors.Statement fault) = refused (cause_of_check fault)
event_refused numbering errors.Repairing = refused (codes "repairing")
event_refused numbering errors.NotRepairing = refused (codes "not repairing")
event_refused numbering (errors.NotCaughtUp left) = refused_at (codes "not caught up") (codes "left") left
event_refused numbering errors.NothingLeft = refused (codes "nothing left")
event_refused numbering (errors.NoSlot slot) = refused_at_time (codes "no slot") (codes "slot") (told_time numbering slot)
event_refused numbering (errors.EditTwice slot) = refused_at_time (codes "edited twice") (codes "slot") (told_time numbering slot)
event_refused numbering errors.TooManyEdits = refused (codes "too many edits")
event_refused numbering (errors.Full limit) = refused_at (codes "full") (codes "limit") limit
event_refused numbering errors.Memory = out_of_memory

-- a generation can't be read: only those from the oldest to the newest can
abbrev pub no_generation : Numbering → ℕ → ℕ → List Member
no_generation numbering oldest newest =
    (codes "refused", quoted (codes "no generation"))
    ∷ generation_member numbering (codes "oldest") oldest
    ∷ generation_member numbering (codes "newest") newest
    ∷ []

-- why the database refuses a read. A session never meets the faults of a statement, or a worker without a reading
abbrev pub read_refused : Numbering → ReadError → List Member
read_refused numbering (read_errors.Statement fault) = refused (cause_of_check fault)
read_refused numbering read_errors.NoReading = refused (codes "no reading")
read_refused numbering read_errors.NotRepairing = refused (codes "not repairing")
read_refused numbering (read_errors.NoGeneration oldest newest) = no_generation numbering oldest newest
read_refused numbering (read_errors.Later now) = refused_at_time (codes "later") (codes "now") (told_time numbering now)
read_refused numbering read_errors.Memory = out_of_memory

-- why a request is refused, in words
abbrev pub refusal_members : Numbering → Refusal → List Member
refusal_members numbering (refusals.Moved now) = refused_at_time (codes "moved") (codes "now") (told_time numbering now)
refusal_members numbering (refusals.Event error) = event_refused numbering error
refusal_members numbering (refusals.Read error) = read_refused numbering error
refusal_members numbering (refusals.NoSlot slot) = refused_at_time (codes "no slot") (codes "slot") slot
refusal_members numbering (refusals.RepairOfAnother worker) = refused_at (codes "repair of another") (codes "worker") worker
refusal_members numbering refusals.Forgotten = refused_at (codes "forgotten") (codes "horizon") numbering.horizon
refusal_members numbering refusals.Log = refused (codes "log")
refusal_members numbering refusals.AnotherOpening = refused (codes "another opening")

-- a fault: its path and its cause
abbrev pub fault_members_at : List ℕ → List ℕ → List Member
fault_members_at path cause = (codes "fault", object_text ((codes "path", quoted path) ∷ (codes "cause", quoted cause) ∷ [])) ∷ []

-- a fault of a line, or that there was no memory for it
abbrev pub fault_members : DocFault → List Member
fault_members (faults.At path cause) = fault_members_at path cause
fault_members faults.Memory = out_of_memory

-- the fault of a line that is longer than lines may be
abbrev pub too_long : DocFault
too_long = document_fault (codes "longer than 16777216 bytes")
