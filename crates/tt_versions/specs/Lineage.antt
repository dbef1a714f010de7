-- The versions of one row: the chain that both sides share, or, where the row is split, one chain for each side.
use Rattle.std.specs.Prelude.{ℕ, List, [], Option, None, Some}
use Rattle.std.specs.Option.{unwrap_or}
use Rattle.tt_values.specs.declared.row.Row.{Row}
use Rattle.tt_versions.specs.declared.side.Side.{Side}
use Rattle.tt_versions.specs.declared.side.Side.TheVariants.{Current, Next}
use Rattle.tt_versions.specs.declared.version.Version.{Version}
use Rattle.tt_versions.specs.declared.lineage.Lineage.{Lineage}
use Rattle.tt_versions.specs.Versions as versions

-- a row that was never written
abbrev pub unwritten : Lineage
unwritten = record { current = []; next = None }

-- the chain that a side shows: a row that isn't split has the current one on both sides
abbrev pub chain_on : Side → Lineage → List Version
chain_on Current l = l.current
chain_on Next l = unwrap_or l.next l.current

-- the row, or none, is written at a time. A current write changes the chain that both sides share, or, where the row is split, that of the current side; a write on the next side gives it a chain of its own
abbrev pub with_write_on : Side → Option Row → ℕ → Lineage → Lineage
with_write_on Current row time l = record l { current = versions.with_write row time l.current }
with_write_on Next row time l = record l { next = Some (versions.with_write row time (chain_on Next l)) }

-- the row gets a next side of its own, rolled back to before a time
abbrev pub split_back : ℕ → Lineage → Lineage
split_back time l = record l { next = Some (versions.without_writes_from time (chain_on Next l)) }

-- both sides share the chain that a side shows
abbrev pub unsplit : Side → Lineage → Lineage
unsplit side l = record { current = chain_on side l; next = None }
