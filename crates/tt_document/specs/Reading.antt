-- A whole document. The members of an object are judged in the order in which they are named here, each one wholly before the
-- next; then an unknown member, the least by its bytes; then the object as a whole. Statements and tables are judged likewise.
use Rattle.std.specs.Prelude.{ℕ, [], ◌∷◌, Result, Ok, codes}
use Rattle.serde_json.specs.Data.{Data}
use Rattle.tt_grammar.specs.declared.fault.DocFault.{DocFault}
use Rattle.tt_grammar.specs.Fault.{◌>>=◌}
use Rattle.tt_grammar.specs.Decoder.{object, count_within, member, optional}
use Rattle.tt_grammar.specs.Members.{is_one_of, no_members_but}
use Rattle.tt_grammar.specs.Tables.{catalog}
use Rattle.tt_grammar.specs.Version.{version}
use Rattle.tt_document.specs.declared.document.Document.{Document}
use Rattle.tt_document.specs.Calls.{calls}
use Rattle.tt_document.specs.Repair.{repair}

-- the largest number of workers
abbrev pub max_workers : ℕ
max_workers = 15

-- a document: its version, its tables, how many workers there are, their calls, and a repair if there is one
unfoldable pub members_of_document : Data → Result Document DocFault
members_of_document v = do
  _ ← object v
  version ← member (codes "version") version v
  tables ← member (codes "tables") catalog v
  workers ← member (codes "workers") (count_within 1 max_workers) v
  calls ← member (codes "calls") (calls version tables workers) v
  repair ← optional (codes "repair") (repair version tables workers calls) v
  _ ← no_members_but (is_one_of (codes "calls" ∷ codes "repair" ∷ codes "tables" ∷ codes "version" ∷ codes "workers" ∷ [])) v
  Ok (record { catalog = tables; workers = workers; calls = calls; repair = repair })
