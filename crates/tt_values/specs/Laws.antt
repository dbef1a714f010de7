-- Laws of contents, row writes and accepted writes.
use Rattle.std.specs.Prelude.{◌≡◌, ℕ, suc, ◌<◌, ◌≤◌, ◌&&◌, ◌==◌, ℤ, List, [], ◌∷◌, ◌++◌, length, fold, IsTrue, IsSome, Option, None, if◌then◌else◌}
use Rattle.std.specs.Ordering.{int_cmp, int_eq}
use Rattle.std.specs.FinMap.Entries as sorted
use Rattle.tt_values.specs.declared.row.Row.{Row}
use Rattle.tt_values.specs.declared.statement.Equal.{Equal}
use Rattle.tt_values.specs.declared.statement.Change.{Change}
use Rattle.tt_values.specs.declared.action.Action.{Action}
use Rattle.tt_values.specs.declared.statement.Write.TheVariants.{Insert, Update}
use Rattle.tt_values.specs.Row.{first_int}
use Rattle.tt_values.specs.Change.{changed}
use Rattle.tt_values.specs.declared.table.TableDef.{TableDef}
use Rattle.tt_values.specs.Tables.{Tables, IsCatalog}
use Rattle.tt_values.specs.Catalog.{table_fault}
use Rattle.tt_values.specs.Check.{write_fault}
use Rattle.tt_values.specs.Content.{RowsByKey, Content, RowWrite, content_at, row_at, with_row_at, up_to, for_key, last_row_written, last_row_written_or, with_row_write}
use Rattle.tt_values.specs.RowWrites.{Slots, row_writes, slot_writes, slot_after, content_of}

-- at each time, table and key the content has the row of the last row write so far, if there is one
abbrev pub ShowsLastRowWrite : Type 0
ShowsLastRowWrite = (ws : List RowWrite) (time table : ℕ) (key : ℤ) →
    row_at (content_at ws time table) key ≡ last_row_written (for_key table key (up_to time ws))

-- the rows of a table are in strictly ascending order of their keys
abbrev pub RowsRise : Type 0
RowsRise = (ws : List RowWrite) (time table : ℕ) → IsTrue (sorted.is_sorted int_cmp (content_at ws time table))

-- without slots there are no row writes; a further slot adds its own, on the content before it
abbrev pub SlotsFollow : Type 0
SlotsFollow = (W : Slots) (s : Option Action) → let n = length W in
    (row_writes [] 0 ≡ [])
    × (row_writes (W ++ s ∷ []) (suc n) ≡ row_writes W n ++ slot_writes (suc n) s (content_at (row_writes W n) n))

-- the row writes of the first n slots don't depend on later slots
abbrev pub LaterSlotsChangeNothing : Type 0
LaterSlotsChangeNothing = (W V : Slots) (n : ℕ) → n ≤ length W → row_writes (W ++ V) n ≡ row_writes W n

-- further slots don't change the content at an earlier time
abbrev pub PastStays : Type 0
PastStays = (W : Slots) (n m time : ℕ) → time ≤ n → n ≤ m →
    content_at (row_writes W m) time ≡ content_at (row_writes W n) time

-- after the last slot the content stays the same
abbrev pub LastContentStays : Type 0
LastContentStays = (W : Slots) (n time : ℕ) → n ≤ time →
    content_at (row_writes W n) time ≡ content_at (row_writes W n) n

-- the content after a slot is the one before it with the slot's row writes
abbrev pub NextContent : Type 0
NextContent = (W : Slots) (n : ℕ) → let X = content_at (row_writes W n) n in
    content_at (row_writes W (suc n)) (suc n) ≡ fold with_row_write X (slot_writes (suc n) (slot_after W n) X)

-- setting or removing the row of one key changes no other key
abbrev pub OneKeyChanges : Type 0
OneKeyChanges = (rows : RowsByKey) (key : ℤ) (row : Option Row) (q : ℤ) →
    row_at (with_row_at rows key row) q ≡ (if int_eq q key then row else row_at rows q)

-- setting or removing a row leaves the rows in order
abbrev pub RowsStayByRisingKey : Type 0
RowsStayByRisingKey = (rows : RowsByKey) (key : ℤ) (row : Option Row) →
    IsTrue (sorted.is_sorted int_cmp rows) → IsTrue (sorted.is_sorted int_cmp (with_row_at rows key row))

-- a row write changes one key of one table
abbrev pub RowWriteChangesOneRow : Type 0
RowWriteChangesOneRow = (X : Content) (w : RowWrite) (table : ℕ) (key : ℤ) →
    row_at (with_row_write X w table) key ≡ (if (table == w.table) && int_eq key w.key then w.row else row_at (X table) key)

-- after row writes a key has the row of the last one for it, or its old row if there is none
abbrev pub LastRowWriteCounts : Type 0
LastRowWriteCounts = (ws : List RowWrite) (X : Content) (table : ℕ) (key : ℤ) →
    row_at (fold with_row_write X ws table) key ≡ last_row_written_or (row_at (X table) key) (for_key table key ws)

-- a longer list of slots begins with the same slots
abbrev pub EarlierSlotsStay : Type 0
EarlierSlotsStay = (W V : Slots) (n : ℕ) → n < length W → slot_after (W ++ V) n ≡ slot_after W n

-- a slot that is added to a list is the one after all others
abbrev pub AddedSlotIsNext : Type 0
AddedSlotIsNext = (W : Slots) (s : Option Action) → slot_after (W ++ s ∷ []) (length W) ≡ s

-- a slot that is added doesn't change the contents up to now
abbrev pub AddedSlotLeavesPast : Type 0
AddedSlotLeavesPast = (W : Slots) (s : Option Action) (time : ℕ) → time ≤ length W →
    content_of (W ++ s ∷ []) time ≡ content_of W time

-- an insert without a fault has a row with a key
abbrev pub AcceptedInsertsHaveKeys : Type 0
AcceptedInsertsHaveKeys = (tables : Tables) (table : ℕ) (row : Row) → IsCatalog tables →
    write_fault tables (Insert table row) ≡ None → IsSome (first_int row.values)

-- an update without a fault leaves the key of every row as it is
abbrev pub AcceptedUpdatesKeepKeys : Type 0
AcceptedUpdatesKeepKeys = (tables : Tables) (table : ℕ) (changes : List Change) (equals : List Equal) (row : Row) →
    write_fault tables (Update table changes equals) ≡ None →
    first_int (changed row changes).values ≡ first_int row.values

-- a catalog stays one as a table without a fault is added
abbrev pub CatalogsGrow : Type 0
CatalogsGrow = (tables : Tables) (name : List ℕ) (def : TableDef) → IsCatalog tables →
    table_fault tables name def ≡ None → IsCatalog (tables ++ (name, def) ∷ [])
