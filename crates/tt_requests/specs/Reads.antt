-- The selects and previews of a session, which may ask for one page of their rows; and pages.
use Rattle.std.specs.Prelude.{[], ◌∷◌, Result, Ok, codes}
use Rattle.serde_json.specs.Data.{Data}
use Rattle.tt_values.specs.declared.statement.Select.{Select}
use Rattle.tt_values.specs.Tables.{Tables}
use Rattle.tt_values.specs.Check.{select_fault}
use Rattle.tt_grammar.specs.declared.fault.DocFault.{DocFault}
use Rattle.tt_grammar.specs.declared.statements.Context.TheVariants as contexts
use Rattle.tt_grammar.specs.declared.version.Version.{Version}
use Rattle.tt_grammar.specs.Fault.{◌>>=◌}
use Rattle.tt_grammar.specs.Decoder.{int, count_within, member, optional}
use Rattle.tt_grammar.specs.Conditions.{table_named}
use Rattle.tt_grammar.specs.Statements.{checked_statement, conditions, no_members_at}
use Rattle.tt_requests.specs.declared.request.Command.{Command}
use Rattle.tt_requests.specs.declared.request.Command.TheVariants as commands
use Rattle.tt_requests.specs.declared.request.Page.{Page}
use Rattle.tt_requests.specs.declared.request.SlotPage.{SlotPage}
use Rattle.tt_requests.specs.declared.request.DiffPage.{DiffPage}
use Rattle.tt_requests.specs.Told.{named_time, named_generation}
use Rattle.tt_requests.specs.Questions.{max_page, row_named}

-- a page of rows: the key after which it begins, and how many rows it has at most, each of which may be left out
unfoldable pub page : Data → Result Page DocFault
page v = do
  after ← optional (codes "after") int v
  most ← optional (codes "most") (count_within 1 max_page) v
  Ok (record { after = after; most = most })

-- a page of re-executed slots: the slot behind which it begins, and how many slots it has at most, each of which may be left out
unfoldable pub slot_page : Data → Result SlotPage DocFault
slot_page v = do
  after ← optional (codes "after") named_time v
  most ← optional (codes "most") (count_within 1 max_page) v
  Ok (record { after = after; most = most })

-- a page of rows that differ: the row behind which it begins, by table and then by key, and how many rows it has at most, each of which may be left out
unfoldable pub diff_page : Tables → Data → Result DiffPage DocFault
diff_page tables v = do
  after ← optional (codes "after") (row_named tables) v
  most ← optional (codes "most") (count_within 1 max_page) v
  Ok (record { after = after; most = most })

-- a select: the table, the conditions, the time, the generation, and the page
unfoldable pub read : Version → Tables → Data → Result Command DocFault
read version tables v = do
  table ← member (codes "select") (table_named tables) v
  equals ← conditions version tables table v
  at ← optional (codes "at") named_time v
  generation ← optional (codes "in") named_generation v
  page ← page v
  _ ← no_members_at contexts.Request (codes "after" ∷ codes "at" ∷ codes "in" ∷ codes "most" ∷ codes "select" ∷ codes "where" ∷ []) v
  let statement : Select = record { table = table; equals = equals }
  select ← checked_statement statement (select_fault tables statement)
  Ok (commands.Read select at generation page)

-- a select of the next generation: the table, the conditions, and the page
unfoldable pub preview : Version → Tables → Data → Result Command DocFault
preview version tables v = do
  table ← member (codes "preview") (table_named tables) v
  equals ← conditions version tables table v
  page ← page v
  _ ← no_members_at contexts.Request (codes "after" ∷ codes "most" ∷ codes "preview" ∷ codes "where" ∷ []) v
  let statement : Select = record { table = table; equals = equals }
  select ← checked_statement statement (select_fault tables statement)
  Ok (commands.Preview select page)
