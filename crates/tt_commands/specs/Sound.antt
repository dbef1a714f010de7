-- What is known of each open session.
use Rattle.std.specs.Prelude.{◌≡◌, ℕ, ◌≤◌, false, List, length}
use Rattle.tt_values.specs.Tables.{IsCatalog}
use Rattle.tt_db.specs.Limits.{max_limits, Fits}
use Rattle.tt_db.specs.State.{IsLegal}
use Rattle.tt_db.specs.Database.{Database, state_of}
use Rattle.tt_requests.specs.Numbers.{Numbering, IsNumbering}
use Rattle.tt_records.specs.declared.record.Record.{Record}
use Rattle.tt_requests.specs.Opening.{max_records}
use Rattle.tt_commands.specs.Records.{max_record_rows, rows_of_records}
use Rattle.tt_commands.specs.Room.{has_no_room_to_end}

-- the tables are a catalog, the limits fit, with the largest limit of edits, the history is legal, there is room for the end of a repair that is under way, what is told is within its bounds, and no more records are kept than may be, with no more rows
pub record IsSound (db : Database) (numbering : Numbering) (kept : List Record) (most : ℕ) : Type 0 where
  pub catalog : IsCatalog db.catalog
  pub fits : Fits db.limits
  pub edits : db.limits.edits ≡ max_limits.edits
  pub legal : IsLegal db.catalog db.limits db.history
  pub room : has_no_room_to_end db.limits (state_of db) ≡ false
  pub numbered : IsNumbering numbering
  pub few_records : length kept ≤ most
  pub few_kept : most ≤ max_records
  pub few_rows : rows_of_records kept ≤ max_record_rows
