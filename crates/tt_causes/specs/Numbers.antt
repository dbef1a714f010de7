-- Causes by numbers: those of the slots with which rows, partitions and tables got dirty.
use Rattle.std.specs.Prelude.{◌≡◌, ℕ, suc, ◌≤◌, pred, min, max, nat_le, not, ◌&&◌, ◌==◌, ℤ, Bool, true, false, List, [], ◌∷◌, length, ◌++◌, Option, None, Some, is_some, if◌then◌else◌}
use Rattle.std.specs.List.{find, range_with_len}
use Rattle.std.specs.Option.{option_or, option_map, option_and_then}
use Rattle.tt_values.specs.declared.row_id.RowId.{RowId}
use Rattle.tt_values.specs.declared.value.Value.{Value}
use Rattle.tt_values.specs.declared.value.Value.TheVariants as values
use Rattle.tt_values.specs.declared.statement.Equal.{Equal}
use Rattle.tt_values.specs.declared.statement.Write.{Write}
use Rattle.tt_values.specs.declared.statement.Write.TheVariants.{Insert, Update, Delete}
use Rattle.tt_values.specs.Row.{key_of}
use Rattle.tt_values.specs.Matches.{equates}
use Rattle.tt_values.specs.Tables.{Tables}
use Rattle.tt_values.specs.Effect.{table_of}
use Rattle.tt_values.specs.Action.{each_row_once}
use Rattle.tt_values.specs.RowWrites.{Slots}
use Rattle.tt_parts.specs.declared.partition.Partition.{Partition}
use Rattle.tt_parts.specs.Dirty.{DirtySet, DirtySince, NumbersAgree, row_since, partition_since, table_since, since_or, nothing_dirty, has_row, has_row_of, has_partition}
use Rattle.tt_repair_laws.specs.declared.edit.Edit.{Edit}
use Rattle.tt_repair_laws.specs.Due.{is_due, dirty_after}
use Rattle.tt_causes.specs.Causes.{Cause, Edited, Wrote, Names, Reads, Scans, write_reads, row_of_key}

-- the first of n slots of a repair after which something is dirty
abbrev pub first_slot : Tables → Slots → List Edit → ℕ → (DirtySet → Bool) → Option ℕ
first_slot tables W E n is_dirty = find (λ m. is_dirty (dirty_after tables W E m)) (range_with_len 1 n)

-- what is dirty after the first n slots has the number of the slot that it got dirty with
pub record TellsSince (catalog : Tables) (W : Slots) (E : List Edit) (n : ℕ) (since : DirtySince) : Type 0 where
  pub rows : (table : ℕ) (key : ℤ) → row_since since table key ≡ first_slot catalog W E n (λ D. has_row D table key)
  pub partitions : (p : Partition) → partition_since since p ≡ first_slot catalog W E n (λ D. has_partition D p)
  pub tables : (table : ℕ) → table_since since table ≡ first_slot catalog W E n (λ D. has_row_of D table)

-- numbers after something got dirty with a number, so that this set is dirty: what had a number keeps it
pub record GotDirtyAt (old : DirtySince) (number : ℕ) (D : DirtySet) (new : DirtySince) : Type 0 where
  pub rows : (table : ℕ) (key : ℤ) → row_since new table key ≡ since_or (row_since old table key) (has_row D table key) number
  pub partitions : (p : Partition) → partition_since new p ≡ since_or (partition_since old p) (has_partition D p) number
  pub tables : (table : ℕ) → table_since new table ≡ since_or (table_since old table) (has_row_of D table) number

-- whether there is a number, and it is at most m
abbrev pub is_by : ℕ → Option ℕ → Bool
is_by m None = false
is_by m (Some k) = nat_le k m

-- a number, if it is at most n
abbrev pub up_to : ℕ → Option ℕ → Option ℕ
up_to n o = if is_by n o then o else None

-- the lesser of two numbers, of which either may be missing
abbrev pub earlier : Option ℕ → Option ℕ → Option ℕ
earlier None b = b
earlier (Some a) None = Some a
earlier (Some a) (Some b) = Some (min a b)

-- the greater of two numbers, if neither is missing
abbrev pub later : Option ℕ → Option ℕ → Option ℕ
later None b = None
later (Some a) None = None
later (Some a) (Some b) = Some (max a b)

-- the least number of some items
abbrev pub earliest : {X : Type 0} → (X → Option ℕ) → List X → Option ℕ
earliest number [] = None
earliest number (x ∷ xs) = earlier (number x) (earliest number xs)

-- the greatest number of some items, if each has one and there are items
abbrev pub latest : {X : Type 0} → (X → Option ℕ) → X → List X → Option ℕ
latest number x [] = number x
latest number x (y ∷ ys) = later (number x) (latest number y ys)

-- since when a row is dirty
abbrev pub row_id_since : DirtySince → RowId → Option ℕ
row_id_since since r = row_since since r.table r.key

-- since when a value is the key of a dirty row
abbrev pub key_since : DirtySince → ℕ → Value → Option ℕ
key_since since table (values.Int key) = row_since since table key
key_since since table (values.Text t) = None

-- since when a condition is an equality with the key of a dirty row
abbrev pub condition_since : DirtySince → ℕ → Equal → Option ℕ
condition_since since table q = if equates q && (q.column == 0) then key_since since table q.value else None

-- since when a write names a dirty row
abbrev pub named_since : DirtySince → Write → Option ℕ
named_since since (Insert table row) = row_since since table (key_of row)
named_since since (Update table changes equals) = earliest (condition_since since table) equals
named_since since (Delete table equals) = earliest (condition_since since table) equals

-- since when what is read of a table isn't clear: all of the partitions are dirty, or, if there is none, a row of the table is
abbrev pub read_since : DirtySince → ℕ → List Partition → Option ℕ
read_since since table [] = table_since since table
read_since since table (p ∷ ps) = latest (partition_since since) p ps

-- since when a write isn't clear
abbrev pub unclear_since : Tables → DirtySince → Write → Option ℕ
unclear_since tables since w = read_since since (table_of w) (write_reads tables w)

-- since when what is dirty may affect a slot that touched these rows and has these writes
abbrev pub slot_since : Tables → DirtySince → List RowId → List Write → Option ℕ
slot_since tables since rows ws = earlier (earliest (row_id_since since) rows) (earlier (earliest (named_since since) ws) (earliest (unclear_since tables since) ws))

-- the row that a write names by its key, of those that are dirty by a number
abbrev pub row_named_by_number : DirtySince → ℕ → Write → Option RowId
row_named_by_number since m (Insert table row) = Some (record { table = table; key = key_of row })
row_named_by_number since m (Update table changes equals) = option_and_then (λ q. row_of_key table q.value) (find (λ q. is_by m (condition_since since table q)) equals)
row_named_by_number since m (Delete table equals) = option_and_then (λ q. row_of_key table q.value) (find (λ q. is_by m (condition_since since table q)) equals)

-- the cause since a number: the first of these that there is
abbrev pub cause_by_number : Tables → DirtySince → List RowId → List Write → ℕ → Option Cause
cause_by_number tables since rows ws m =
    let is_unclear = λ (w : Write). is_by m (unclear_since tables since w) in
    option_or (option_map (λ r. Wrote r m) (find (λ r. is_by m (row_id_since since r)) (each_row_once rows)))
    (option_or (option_map (λ r. Names r m) (option_and_then (row_named_by_number since m) (find (λ w. is_by m (named_since since w)) ws)))
    (option_or (option_map (λ p. Reads p m) (option_and_then (λ w. find (λ p. not (is_by (pred m) (partition_since since p))) (write_reads tables w)) (find (λ w. is_unclear w && not (length (write_reads tables w) == 0)) ws)))
    (option_map (λ w. Scans (table_of w) m) (find (λ w. is_unclear w && (length (write_reads tables w) == 0)) ws))))

-- the cause of a slot that isn't edited, of those that n slots before it may give
abbrev pub cause_by_numbers : Tables → DirtySince → List RowId → List Write → ℕ → Option Cause
cause_by_numbers tables since rows ws n = option_and_then (cause_by_number tables since rows ws) (up_to n (slot_since tables since rows ws))

-- numbers are told exactly of what is dirty
abbrev pub NumbersTellWhatIsDirty : Type 0
NumbersTellWhatIsDirty = (tables : Tables) (W : Slots) (E : List Edit) (n : ℕ) (since : DirtySince) → TellsSince tables W E n since → NumbersAgree (dirty_after tables W E n) since

-- at first there are no numbers
abbrev pub NoNumbersAtFirst : Type 0
NoNumbersAtFirst = (tables : Tables) (W : Slots) (E : List Edit) (since : DirtySince) → NumbersAgree nothing_dirty since → TellsSince tables W E 0 since

-- numbers stay with a slot that isn't due
abbrev pub NumbersStayUndue : Type 0
NumbersStayUndue = (tables : Tables) (W : Slots) (E : List Edit) (n : ℕ) (since : DirtySince) → is_due tables W E n ≡ false → TellsSince tables W E n since → TellsSince tables W E (suc n) since

-- what gets dirty with a slot has its number
abbrev pub NumbersGrow : Type 0
NumbersGrow = (tables : Tables) (W : Slots) (E : List Edit) (n : ℕ) (old new : DirtySince) → TellsSince tables W E n old → GotDirtyAt old (suc n) (dirty_after tables W E (suc n)) new → TellsSince tables W E (suc n) new

-- numbers stay with slots that are added during a repair
abbrev pub LaterSlotsChangeNoNumber : Type 0
LaterSlotsChangeNoNumber = (tables : Tables) (W X : Slots) (E : List Edit) (n : ℕ) (since : DirtySince) → n ≤ length W → TellsSince tables W E n since → TellsSince tables (W ++ X) E n since
