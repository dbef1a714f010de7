-- The state of a session: before it is opened, and while it is open.
use Rattle.std.specs.Prelude.{ℕ, ◌+◌, ◌-◌, Bool, true, List, [], ◌∷◌, ◌++◌, length, replicate, Option, None, Some, Result, if◌then◌else◌}
use Rattle.std.specs.Option.{option_flatten}
use Rattle.serde_json.specs.Data.{Data}
use Rattle.tt_db.specs.Limits.{usual_limits}
use Rattle.tt_db.specs.State.{State}
use Rattle.tt_db.specs.Database.{Database, state_of, nth_item}
use Rattle.tt_records.specs.declared.record.Record.{Record}
use Rattle.tt_records.specs.declared.record.What.{What}
use Rattle.tt_grammar.specs.declared.fault.DocFault.{DocFault}
use Rattle.tt_grammar.specs.Version.{newest_version}
use Rattle.tt_requests.specs.declared.opening.Opening.{Opening}
use Rattle.tt_requests.specs.declared.request.Request.{Request}
use Rattle.tt_requests.specs.Requests.{request_of}
use Rattle.tt_requests.specs.Numbers.{Numbering, nothing_forgotten}
use Rattle.tt_commands.specs.declared.session_change.StampedSlot.{StampedSlot}
use Rattle.tt_commands.specs.declared.terms.Terms.{Terms}
use Rattle.tt_commands.specs.Records.{last_records, records_with}

-- an open session: its database, how its numbers are told, the stamps of the slots behind the ground up to the last one that has a stamp, the records of the last
-- calls, how many records are kept at most, how many calls there were, and whether an opening was accepted since it was made or read back
pub record OpenSession : Type 0 where
  pub database : Database
  pub numbering : Numbering
  pub stamps : List (Option ℕ)
  pub records : List Record
  pub most_records : ℕ
  pub calls : ℕ
  pub has_opening : Bool

-- a database that has forgotten what lies before a time, how many of its slots are the ground, how its numbers are told, and the stamps of the slots behind the ground. The time is by
-- the numbers of the database that hadn't
pub record Forgetting : Type 0 where
  pub db : Database
  pub time : ℕ
  pub ground_slots : ℕ
  pub numbering : Numbering
  pub stamps : List (Option ℕ)

-- the state of its database
abbrev pub state_in : OpenSession → State
state_in session = state_of session.database

-- the database that an opening asks for, with no history
abbrev pub empty_database : Opening → Database
empty_database opening = record { catalog = opening.catalog; limits = record usual_limits { keep = opening.keep }; history = [] }

-- the session that an opening asks for, before its first call
abbrev pub opened : Opening → OpenSession
opened opening = record { database = empty_database opening; numbering = nothing_forgotten; stamps = []; records = []; most_records = opening.records; calls = 0; has_opening = true }

-- what the opening of a session has asked for, beside its database
abbrev pub terms_of : OpenSession → Terms
terms_of session = record { most_records = session.most_records }

-- the request that a JSON value asks of a session, as of the newest version, or its first fault
abbrev pub request_in : OpenSession → Result Data DocFault → Result Request DocFault
request_in session value = request_of newest_version session.database.catalog value

-- one more call
abbrev pub counted : OpenSession → OpenSession
counted session = record session { calls = session.calls + 1 }

-- another database
abbrev pub with_database : OpenSession → Database → OpenSession
with_database session db = record session { database = db }

-- the session with a further record, if there is one
abbrev pub with_latest_if : OpenSession → Option Record → OpenSession
with_latest_if session latest = record session { records = records_with session.most_records session.records latest }

-- stamps with a further one, of the slot at this place behind the ground, from 1. The slots between have none
abbrev pub stamps_with : List (Option ℕ) → ℕ → ℕ → List (Option ℕ)
stamps_with stamps place stamp = stamps ++ replicate (place - 1 - length stamps) None ++ Some stamp ∷ []

-- the session with the stamp of a further slot, if it has one
abbrev pub with_stamp_if : OpenSession → Option StampedSlot → OpenSession
with_stamp_if session None = session
with_stamp_if session (Some s) = record session { stamps = stamps_with session.stamps (s.slot - session.numbering.ground_slots) s.stamp }

-- the stamp of a slot of the database, if it is behind the ground and has one
abbrev pub stamp_of : OpenSession → ℕ → Option ℕ
stamp_of session slot = option_flatten (nth_item session.stamps (slot - session.numbering.ground_slots))

-- what the last call asked for and was answered, on record
abbrev pub with_record : OpenSession → ℕ → What → OpenSession
with_record session worker what = with_latest_if session (Some (record { call = session.calls; worker = worker; what = what }))

-- the session with no more records than this
abbrev pub with_most_records : OpenSession → ℕ → OpenSession
with_most_records session most = record session { records = last_records most session.records; most_records = most }

-- the session with an opening that asks for what it has. The first one that is accepted since the session was read back says how many records are kept, too
abbrev pub reopened_by : OpenSession → Opening → OpenSession
reopened_by session opening = if session.has_opening then session else record (with_most_records session opening.records) { has_opening = true }
