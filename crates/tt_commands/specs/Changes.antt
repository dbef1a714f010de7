-- What becomes of a session with an answer: a record of the call and the stamp of its slot are kept, or it goes on with a database that has forgotten what lies before a time.
use Rattle.std.specs.Prelude.{ℕ, nat_lt, List, Option, None, Some, if◌then◌else◌}
use Rattle.std.specs.List.{filter_map}
use Rattle.tt_horizon.specs.Ground.{moved}
use Rattle.tt_records.specs.declared.record.Record.{Record}
use Rattle.tt_records.specs.declared.record.What.{What}
use Rattle.tt_records.specs.declared.record.What.TheVariants as whats
use Rattle.tt_commands.specs.declared.session_change.SessionChange.{SessionChange}
use Rattle.tt_commands.specs.declared.session_change.SessionChange.TheVariants as changes
use Rattle.tt_commands.specs.Session.{OpenSession, Forgetting, with_latest_if, with_stamp_if}

-- what a record tells behind a time, where the slots up to it have become a ground of this size. A write at or before the time is gone, and so is a select before it
abbrev pub moved_what : ℕ → ℕ → What → Option What
moved_what time size (whats.Write slot replies) = if nat_lt time slot then Some (whats.Write (moved time size slot) replies) else None
moved_what time size (whats.Read select t reply) = if nat_lt t time then None else Some (whats.Read select (moved time size t) reply)
moved_what time size what = Some what

-- a record behind a time, if it is still there
abbrev pub with_what : Record → Option What → Option Record
with_what r None = None
with_what r (Some what) = Some (record r { what = what })

abbrev pub moved_record : ℕ → ℕ → Record → Option Record
moved_record time size r = with_what r (moved_what time size r.what)

-- the records that are still there behind a time
abbrev pub records_behind : ℕ → ℕ → List Record → List Record
records_behind time size records = filter_map (moved_record time size) records

-- a session whose database has forgotten what lies before a time
abbrev pub forgotten_by : OpenSession → Forgetting → OpenSession
forgotten_by session f = record session { database = f.db; numbering = f.numbering; stamps = f.stamps; records = records_behind f.time f.ground_slots session.records }

-- the session after a change
abbrev pub with_change : OpenSession → SessionChange → OpenSession
with_change session (changes.Latest latest stamped) = with_stamp_if (with_latest_if session latest) stamped
with_change session (changes.Forgetting f) = forgotten_by session f
