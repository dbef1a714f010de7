-- The changes of records, now or after the repair under way.
use Rattle.std.specs.Prelude.{Bool, true, List, Option}
use Rattle.tt_values.specs.Tables.{Tables}
use Rattle.tt_generations.specs.TwoGenerations.{Phase, is_repairing}
use Rattle.tt_db.specs.State.{State}
use Rattle.tt_db.specs.Database.{Database, state_of}
use Rattle.tt_records.specs.declared.record.Record.{Record}
use Rattle.tt_records.specs.declared.changed.Changed.{Changed}
use Rattle.tt_records.specs.Changes.{change_of, next_change_of}
use Rattle.tt_requests.specs.declared.request.ChangePage.{ChangePage}
use Rattle.tt_answers.specs.declared.answer.ChangeEntry.{ChangeEntry}
use Rattle.tt_commands.specs.declared.change_entries.Moment.{Moment}
use Rattle.tt_commands.specs.declared.change_entries.Moment.TheVariants.{Now, Next}
use Rattle.tt_commands.specs.Session.{OpenSession, state_in}
use Rattle.tt_commands.specs.Answers.{Answered}
use Rattle.tt_commands.specs.ChangeEntries.{entries_of_changes, changes_answer}

-- whether calls can be answered again as of a moment: the one after the repair is there while one is under way
abbrev pub is_reached : Moment → Phase → Bool
is_reached Now phase = true
is_reached Next phase = is_repairing phase

-- the change of a record, if it has one
abbrev pub change_at : Moment → Tables → State → Record → Option Changed
change_at Now = change_of
change_at Next = next_change_of

-- the changes of records in a database that a page asks for
abbrev pub entries_at : Moment → Database → ChangePage → List Record → List ChangeEntry
entries_at moment db page records = entries_of_changes db page (change_at moment db.catalog (state_of db)) records

-- the session stays, and tells the changes of its records that a page asks for
abbrev pub changes_answer_at : Moment → OpenSession → ChangePage → Answered
changes_answer_at moment session page = changes_answer session page (change_at moment session.database.catalog (state_in session))
