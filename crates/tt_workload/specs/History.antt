-- The database that a document leaves, and the records of its calls.
use Rattle.std.specs.Prelude.{ℕ, ◌+◌, ◌-◌, min, Bool, true, false, List, [], ◌∷◌, ◌++◌, length, slice_get, map, replicate, Option, Some, None}
use Rattle.std.specs.List.{flat_map}
use Rattle.tt_repair_laws.specs.declared.edit.Edit.{Edit}
use Rattle.tt_repair_laws.specs.declared.edit.Edit.TheVariants.{Cancel, Replace}
use Rattle.tt_db.specs.declared.event.Event.{Event}
use Rattle.tt_db.specs.declared.event.Event.TheVariants as events
use Rattle.tt_db.specs.declared.event.Entry.{Entry}
use Rattle.tt_db.specs.State.{slots_left}
use Rattle.tt_db.specs.Limits.{usual_limits}
use Rattle.tt_db.specs.Database.{Database, state_of, with_entry}
use Rattle.tt_records.specs.declared.record.Record.{Record}
use Rattle.tt_records.specs.declared.record.What.{What}
use Rattle.tt_records.specs.declared.record.What.TheVariants as whats
use Rattle.tt_document.specs.declared.document.Document.{Document}
use Rattle.tt_document.specs.declared.document.Plan.{Plan}
use Rattle.tt_document.specs.declared.document.Call.{Call}
use Rattle.tt_document.specs.declared.document.Ask.{Ask}
use Rattle.tt_document.specs.declared.document.Ask.TheVariants as asks
use Rattle.tt_workload.specs.declared.options.Options.{Options}
use Rattle.tt_workload.specs.Records.{record_in}

-- the entries that a call adds to the history: that of an action, under its worker's number
abbrev pub entries_of_ask : ℕ → Ask → List Entry
entries_of_ask worker (asks.Write action) = record { worker = worker; event = events.Write action } ∷ []
entries_of_ask worker (asks.Read q at) = []
entries_of_ask worker (asks.Preview q) = []

abbrev pub entries_of : Call → List Entry
entries_of call = entries_of_ask call.worker call.ask

-- the history that calls leave
abbrev pub history_of : List Call → List Entry
history_of calls = flat_map entries_of calls

-- a database with further entries at the end of its history
abbrev pub with_entries : Database → List Entry → Database
with_entries db entries = record db { history = db.history ++ entries }

-- the records of calls, numbered from a number on, on a database
abbrev pub records_of : ℕ → Database → List Call → List Record
records_of number db [] = []
records_of number db (call ∷ calls) = record_in number (state_of db) call ∷ records_of (number + 1) (with_entries db (entries_of call)) calls

-- the slot that an answer names, and 0 where it names none
abbrev pub slot_in : What → ℕ
slot_in (whats.Write slot replies) = slot
slot_in (whats.Read select time reply) = 0
slot_in (whats.Preview done reply) = 0
slot_in (whats.Later now) = 0
slot_in whats.NotRepairing = 0

abbrev pub slot_in_record : Option Record → ℕ
slot_in_record None = 0
slot_in_record (Some r) = slot_in r.what

-- the slot that the call of a number took, by its record
abbrev pub slot_of_call : List Record → ℕ → ℕ
slot_of_call records number = slot_in_record (slice_get records (number - 1))

-- an edit of a call, as one of the slot that it took
abbrev pub edit_of_slot : List Record → Edit → Edit
edit_of_slot records (Cancel number) = Cancel (slot_of_call records number)
edit_of_slot records (Replace number action) = Replace (slot_of_call records number) action

-- an entry of the repair, by the worker of this number
abbrev pub repair_entry : ℕ → Event → Entry
repair_entry worker event = record { worker = worker; event = event }

-- n steps of the repair
abbrev pub steps : ℕ → ℕ → List Entry
steps worker count = replicate count (repair_entry worker events.Step)

-- a database before a call that is made during the repair: with at most a batch of steps, and fewer where fewer slots are left
abbrev pub with_batch : ℕ → ℕ → Database → Database
with_batch worker batch db = with_entries db (steps worker (min batch (slots_left (state_of db))))

-- a database with all steps that are left
abbrev pub with_steps_left : ℕ → Database → Database
with_steps_left worker db = with_entries db (steps worker (slots_left (state_of db)))

-- a database after calls that are made during the repair
abbrev pub with_meanwhile : ℕ → ℕ → Database → List Call → Database
with_meanwhile worker batch db [] = db
with_meanwhile worker batch db (call ∷ calls) = with_meanwhile worker batch (with_entries (with_batch worker batch db) (entries_of call)) calls

-- the records of calls that are made during the repair
abbrev pub records_meanwhile : ℕ → ℕ → ℕ → Database → List Call → List Record
records_meanwhile worker batch number db [] = []
records_meanwhile worker batch number db (call ∷ calls) =
    let before = with_batch worker batch db in
    record_in number (state_of before) call ∷ records_meanwhile worker batch (number + 1) (with_entries before (entries_of call)) calls

-- a database after the beginning of a repair of calls, of which these are the records, by the worker of this number
abbrev pub after_begin : ℕ → List Record → Database → Plan → Database
after_begin worker records db plan = with_entry db (repair_entry worker (events.Begin (map (edit_of_slot records) plan.edits)))

-- the database before the end of the repair, with every slot done, where at most a batch of steps is made before each further call
abbrev pub before_end : ℕ → ℕ → List Record → Database → Plan → Database
before_end worker batch records db plan =
    with_steps_left worker (with_meanwhile worker batch (after_begin worker records db plan) plan.meanwhile)

-- the end of a repair: its switch, or where a run is dry its being given up
abbrev pub end_of_repair : Bool → Event
end_of_repair false = events.Switch
end_of_repair true = events.Abort

-- the database after the end of the repair
abbrev pub after_repair : Bool → ℕ → ℕ → List Record → Database → Plan → Database
after_repair dry worker batch records db plan = with_entry (before_end worker batch records db plan) (repair_entry worker (end_of_repair dry))

-- the records of the calls before the repair and of those that are made meanwhile
abbrev pub with_records_meanwhile : ℕ → ℕ → List Record → Database → Plan → List Record
with_records_meanwhile worker batch records db plan =
    records ++ records_meanwhile worker batch (length records + 1) (after_begin worker records db plan) plan.meanwhile

-- the database of a document before its calls, and after them
abbrev pub before_calls : Document → Database
before_calls document = record { catalog = document.catalog; limits = usual_limits; history = [] }

abbrev pub after_calls : Document → Database
after_calls document = with_entries (before_calls document) (history_of document.calls)

-- the records of its calls
abbrev pub records_of_calls : Document → List Record
records_of_calls document = records_of 1 (before_calls document) document.calls

-- the worker of the repair: the one behind the last
abbrev pub administrator : Document → ℕ
administrator document = document.workers + 1

-- the last database of a document, with or without a repair
abbrev pub database_if : Options → Document → Option Plan → Database
database_if options document None = after_calls document
database_if options document (Some plan) =
    after_repair options.dry (administrator document) options.batch (records_of_calls document) (after_calls document) plan

-- the records of all its calls
abbrev pub records_if : ℕ → Document → Option Plan → List Record
records_if batch document None = records_of_calls document
records_if batch document (Some plan) =
    with_records_meanwhile (administrator document) batch (records_of_calls document) (after_calls document) plan
