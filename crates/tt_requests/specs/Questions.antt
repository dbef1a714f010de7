-- The questions of a session about its slots and its calls.
use Rattle.std.specs.Prelude.{ℕ, ◌+◌, nat_lt, false, List, [], ◌∷◌, Option, None, Some, unwrap_or, if◌then◌else◌, Result, Ok, codes}
use Rattle.std.specs.Str.{bytes_eq}
use Rattle.serde_json.specs.Data.{Data}
use Rattle.tt_requests.specs.declared.told.ToldTime.{ToldTime}
use Rattle.tt_values.specs.declared.row_id.RowId.{RowId}
use Rattle.tt_values.specs.Tables.{Tables}
use Rattle.tt_grammar.specs.declared.fault.DocFault.{DocFault}
use Rattle.tt_grammar.specs.declared.statements.Context.TheVariants as contexts
use Rattle.tt_grammar.specs.Fault.{◌>>=◌, refuse, or_refuse, with_path, item_path}
use Rattle.tt_grammar.specs.Decoder.{text, flag, int, count, count_within, member, optional}
use Rattle.tt_grammar.specs.Conditions.{pair, table_named}
use Rattle.tt_grammar.specs.Statements.{no_members_at}
use Rattle.tt_requests.specs.declared.questions.Moment.{Moment}
use Rattle.tt_requests.specs.declared.questions.Moment.TheVariants as moments
use Rattle.tt_requests.specs.declared.request.CallKind.{CallKind}
use Rattle.tt_requests.specs.declared.request.CallKind.TheVariants as call_kinds
use Rattle.tt_requests.specs.declared.request.ChangePage.{ChangePage}
use Rattle.tt_requests.specs.declared.request.Command.{Command}
use Rattle.tt_requests.specs.declared.request.SlotFilter.{SlotFilter}
use Rattle.tt_requests.specs.declared.request.StampRange.{StampRange}
use Rattle.tt_requests.specs.declared.request.Command.TheVariants as commands
use Rattle.tt_requests.specs.Told.{named_time}

-- the largest number of a worker
abbrev pub max_worker : ℕ
max_worker = 4294967295

-- the number of a worker
abbrev pub worker_number : Data → Result ℕ DocFault
worker_number v = count_within 1 max_worker v

-- the largest number of rows, re-executed slots, differences, or changed replies that a page may ask for
abbrev pub max_page : ℕ
max_page = 100000

-- how far the last slot of a question may be behind the first one
abbrev pub max_span : ℕ
max_span = 9999

-- the first and the last slot of a question, which may have none between them
abbrev pub within_span : ToldTime → ToldTime → Result (ToldTime × ToldTime) DocFault
within_span from to = if nat_lt (from.number + max_span) to.number then refuse (codes "out of range") else Ok (from, to)

-- the slots from one to another, both by their numbers
unfoldable pub span : Data → Result (ToldTime × ToldTime) DocFault
span v = do
  items ← pair v
  from ← with_path (item_path 0) (named_time items.0)
  to ← with_path (item_path 1) (named_time items.1)
  within_span from to

-- a row, by the name of its table and its key
unfoldable pub row_named : Tables → Data → Result RowId DocFault
row_named tables v = do
  items ← pair v
  table ← with_path (item_path 0) (table_named tables items.0)
  key ← with_path (item_path 1) (int items.1)
  Ok (record { table = table; key = key })

-- the lowest and the highest stamp
unfoldable pub stamp_range : Data → Result StampRange DocFault
stamp_range v = do
  items ← pair v
  low ← with_path (item_path 0) (count items.0)
  high ← with_path (item_path 1) (count items.1)
  Ok (record { low = low; high = high })

-- which slots are asked for: of which worker, which row they changed, and within which stamps theirs is. Each may be left out
unfoldable pub slot_filter : Tables → Data → Result SlotFilter DocFault
slot_filter tables v = do
  worker ← optional (codes "of") worker_number v
  row ← optional (codes "row") (row_named tables) v
  stamps ← optional (codes "stamps") stamp_range v
  Ok (record { worker = worker; row = row; stamps = stamps })

-- a question about slots: from which one to which one, and which of these
unfoldable pub slots : Tables → Data → Result Command DocFault
slots tables v = do
  span ← member (codes "slots") span v
  filter ← slot_filter tables v
  _ ← no_members_at contexts.Request (codes "of" ∷ codes "row" ∷ codes "slots" ∷ codes "stamps" ∷ []) v
  Ok (commands.Slots span.0 span.1 filter)

-- when the calls would be answered again whose changed replies a text asks for: now, or after the repair under way
abbrev pub changes_named : List ℕ → Option Moment
changes_named name = if bytes_eq name (codes "now") then Some moments.Now else (if bytes_eq name (codes "next") then Some moments.Next else None)

-- when the calls would be answered again whose changed replies are asked for
unfoldable pub changes_asked : Data → Result Moment DocFault
changes_asked v = do
  name ← text v
  or_refuse (codes "out of range") (changes_named name)

-- the kind of calls that a text names
abbrev pub call_kind_named : List ℕ → Option CallKind
call_kind_named name = if bytes_eq name (codes "writes") then Some call_kinds.Writes else (if bytes_eq name (codes "reads") then Some call_kinds.Reads else None)

-- a kind of calls
unfoldable pub call_kind : Data → Result CallKind DocFault
call_kind v = do
  name ← text v
  or_refuse (codes "out of range") (call_kind_named name)

-- a page of changed replies: of which worker and of which kind of calls, the call behind which it begins, how many it has at most, and whether what was asked for is told. Each may be left out
unfoldable pub change_page : Data → Result ChangePage DocFault
change_page v = do
  worker ← optional (codes "of") worker_number v
  only ← optional (codes "only") call_kind v
  after ← optional (codes "after") count v
  most ← optional (codes "most") (count_within 1 max_page) v
  asked ← optional (codes "asked") flag v
  Ok (record { worker = worker; only = only; after = after; most = most; asked = unwrap_or asked false })

-- the page of all changed replies, told without what was asked for
abbrev pub every_change : ChangePage
every_change = record { worker = None; only = None; after = None; most = None; asked = false }

-- the question about the changed replies of a moment
abbrev pub changes_at : Moment → ChangePage → Command
changes_at moments.Now page = commands.Changes page
changes_at moments.Next page = commands.NextChanges page

-- a question about changed replies: of which moment, and the page
unfoldable pub changes : Data → Result Command DocFault
changes v = do
  moment ← member (codes "changes") changes_asked v
  page ← change_page v
  _ ← no_members_at contexts.Request (codes "after" ∷ codes "asked" ∷ codes "changes" ∷ codes "most" ∷ codes "of" ∷ codes "only" ∷ []) v
  Ok (changes_at moment page)
