-- the slots are those of the database, and the changes so far and those of the records that are left are all
use Rattle.std.proofs.Common.{◌≡◌, ◌++◌, drop}
use Rattle.tt_db.specs.Database.{state_of}
use Rattle.tt_records.specs.Changes.{changes_of}
use Rattle.tt_records.proofs.comparison.changes.Given as goal

abbrev pub invariant-loop-record : goal.invariant-loop-record
invariant-loop-record l = record {
  database : l.slots ≡ l.db;
  all : l.changes.items ++ changes_of l.db.catalog (state_of l.db) (drop l.record-index l.records) ≡ changes_of l.db.catalog (state_of l.db) l.records;
}
