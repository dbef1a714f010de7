-- the rows of the tables so far are laid
use Rattle.std.proofs.Common.{◌≡◌}
use Rattle.tt_db.specs.Database.{current_of_db}
use Rattle.tt_horizon.specs.Ground.{ground_writes, inserts_of_tables}
use Rattle.tt_horizon.specs.GroundEntries.{IsGround}
use Rattle.tt_horizon.specs.Laying.{AreLaid}
use Rattle.tt_horizon.proofs.ground.database_of_rows.Given as goal

abbrev pub invariant-loop-table : goal.invariant-loop-table
invariant-loop-table l = record {
  added : AreLaid ground_writes (inserts_of_tables l.table (current_of_db l.db l.time)) l.ground.db.history l.ground.waiting.items;
  catalog : l.ground.db.catalog ≡ l.db.catalog;
  limits : l.ground.db.limits ≡ l.db.limits;
  ground : IsGround l.ground.db;
}
