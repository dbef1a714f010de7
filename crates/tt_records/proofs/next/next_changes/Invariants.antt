-- the changes so far and those of the records that are left are all
use Rattle.std.proofs.Common.{◌≡◌, ◌++◌, drop}
use Rattle.tt_db.specs.Database.{state_of}
use Rattle.tt_records.specs.Changes.{next_changes_of}
use Rattle.tt_records.proofs.next.next_changes.Given as goal

abbrev pub invariant-loop-record : goal.invariant-loop-record
invariant-loop-record l =
    l.changes.items ++ next_changes_of l.db.catalog (state_of l.db) (drop l.record-index l.records) ≡ next_changes_of l.db.catalog (state_of l.db) l.records
