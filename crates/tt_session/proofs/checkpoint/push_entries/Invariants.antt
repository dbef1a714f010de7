-- the entries so far and those that are left are all
use Rattle.std.proofs.Common.{◌≡◌, ◌++◌, drop}
use Rattle.tt_session.proofs.checkpoint.push_entries.Given as goal

abbrev pub invariant-loop-place : goal.invariant-loop-place
invariant-loop-place l = l.entries.items ++ drop l.place l.db.history ≡ l.initial.entries.items ++ drop l.known_count l.db.history
