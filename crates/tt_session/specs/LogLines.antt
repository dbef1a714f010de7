-- The lines of a log that is made anew: an opening that tells the ground, and a line for each slot of the database.
use Rattle.std.specs.Prelude.{ℕ, List, [], ◌∷◌, ◌++◌, map, take, drop, Option, None, unwrap_or}
use Rattle.tt_values.specs.declared.action.Action.{Action}
use Rattle.tt_values.specs.Action as actions
use Rattle.tt_values.specs.Tables.{Tables}
use Rattle.tt_db.specs.declared.event.Entry.{Entry}
use Rattle.tt_db.specs.Database.{Database}
use Rattle.tt_requests.specs.Numbers.{Numbering}
use Rattle.tt_answers.specs.LogText.{log_opening_line, ground_line, slot_line}
use Rattle.tt_session.specs.declared.session.Session.{Session}
use Rattle.tt_session.specs.declared.session.Session.TheVariants as sessions
use Rattle.tt_commands.specs.declared.terms.Terms.{Terms}
use Rattle.tt_commands.specs.Session.{terms_of}
use Rattle.tt_commands.specs.SlotEntries.{action_of}

-- the action of an entry, which has no writes where the entry is no action
abbrev pub action_in : Entry → Action
action_in e = unwrap_or (action_of e.event) (actions.action_of [])

-- the line of a slot of the ground
abbrev pub line_of_ground : Tables → Entry → List ℕ
line_of_ground tables e = ground_line tables (action_in e)

abbrev pub lines_of_ground : Tables → List Entry → List (List ℕ)
lines_of_ground tables entries = map (line_of_ground tables) entries

-- entries with their stamps. Where there are fewer stamps, the last entries have none
abbrev pub stamped_entries : List Entry → List (Option ℕ) → List (Entry × Option ℕ)
stamped_entries [] stamps = []
stamped_entries (e ∷ entries) [] = (e, None) ∷ stamped_entries entries []
stamped_entries (e ∷ entries) (stamp ∷ stamps) = (e, stamp) ∷ stamped_entries entries stamps

-- the line of a further slot, with its stamp
abbrev pub line_of_further : Tables → Entry × Option ℕ → List ℕ
line_of_further tables slot = slot_line tables slot.0.worker (action_in slot.0) slot.1

abbrev pub lines_of_further : Tables → List (Entry × Option ℕ) → List (List ℕ)
lines_of_further tables slots = map (line_of_further tables) slots

-- the lines of the slots of a database: first those of the ground, then the further ones with their stamps
abbrev pub lines_of_slots : Tables → ℕ → List Entry → List (Option ℕ) → List (List ℕ)
lines_of_slots tables size history stamps = lines_of_ground tables (take size history) ++ lines_of_further tables (stamped_entries (drop size history) stamps)

-- the lines of a log for a database whose history is actions alone, of a session with these stamps and terms
abbrev pub lines_of_database : Database → Numbering → List (Option ℕ) → Terms → List (List ℕ)
lines_of_database db numbering stamps terms =
    log_opening_line db.catalog db.limits.keep terms.most_records numbering ∷ lines_of_slots db.catalog numbering.ground_slots db.history stamps

-- the lines of a log that is made anew for a session
abbrev pub lines_of_log : Session → List (List ℕ)
lines_of_log (sessions.Open session) = lines_of_database session.database session.numbering session.stamps (terms_of session)
lines_of_log session = []
