-- adding the partitions of the columns that are left to the members so far comes to adding all to those at first
use Rattle.std.proofs.Common.{drop}
use Rattle.tt_parts.specs.Partitions.{parts_from, parts_of}
use Rattle.tt_parts.proofs.SearchLemmas.{SameAdded}
use Rattle.tt_parts.proofs.members.add_parts_of.Given as goal

abbrev pub invariant-loop-i : goal.invariant-loop-i
invariant-loop-i l = SameAdded l.members (parts_from l.id.table l.i (drop l.i l.columns) (drop l.i l.row.values)) l.fn.members (parts_of l.id.table l.columns l.row) l.number
