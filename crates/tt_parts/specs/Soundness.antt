-- What a write reads covers the rows that it matches.
use Rattle.std.specs.Prelude.{◌≡◌, ℕ, ◌<◌, List, length, IsTrue, All, Contains}
use Rattle.tt_values.specs.declared.row.Row.{Row}
use Rattle.tt_values.specs.declared.table.Column.{Column}
use Rattle.tt_values.specs.declared.statement.Write.{Write}
use Rattle.tt_values.specs.declared.statement.Write.TheVariants.{Insert, Update, Delete}
use Rattle.tt_values.specs.Row.{first_int}
use Rattle.tt_values.specs.Matches.{matches}
use Rattle.tt_values.specs.Effect.{table_of}
use Rattle.tt_parts.specs.declared.partition.Reads.{Reads}
use Rattle.tt_parts.specs.declared.partition.Reads.TheVariants.{All as Whole, Equated}
use Rattle.tt_parts.specs.Partitions.{parts_of}

-- a write matches a row: an insert a row with the key of its own row, an update or a delete a row in which every condition holds
abbrev pub WriteMatches : Write → Row → Type 0
WriteMatches (Insert table new) row = first_int row.values ≡ first_int new.values
WriteMatches (Update table changes qs) row = IsTrue (matches qs row)
WriteMatches (Delete table qs) row = IsTrue (matches qs row)

-- a row of a table lies in what is read: in the whole table, or in each of the partitions
abbrev pub LiesIn : ℕ → List Column → Row → Reads → Type 0
LiesIn table columns row (Whole t) = t ≡ table
LiesIn table columns row (Equated ps) = All (Contains (parts_of table columns row)) ps

-- on a table that has a first column, each row that a write matches lies in what is read
pub record CoversMatches (columns : List Column) (write : Write) (reads : Reads) : Type 0 where
  pub covers : 0 < length columns → (row : Row) → WriteMatches write row → LiesIn (table_of write) columns row reads
