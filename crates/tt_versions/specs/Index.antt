-- Keys of rows, listed by the values that the rows have now, and apart from these by the values that they had once or have on the next side.
use Rattle.std.specs.Prelude.{◌≡◌, ℕ, ◌+◌, ◌-◌, ◌^◌, min, ◌≤◌, ◌==◌, ℤ, List, [], ◌∷◌, length, Bool, false, ◌&&◌, ◌||◌, not, if◌then◌else◌, slice_get, IsTrue, IfSome, Option, None, Some, is_some, option_map}
use Rattle.std.specs.List.{All}
use Rattle.std.specs.Option.{unwrap_or}
use Rattle.std.specs.Ordering.{int_cmp, int_eq}
use Rattle.std.specs.FinMap.Entries as sorted
use Rattle.tt_values.specs.declared.row.Row.{Row}
use Rattle.tt_values.specs.declared.statement.Equal.{Equal}
use Rattle.tt_values.specs.Row.{first_int}
use Rattle.tt_values.specs.Matches.{holds, equates, matches}
use Rattle.tt_values.specs.Digest.{digest_of}
use Rattle.tt_versions.specs.declared.indexed_column.IndexedColumn.{IndexedColumn}
use Rattle.tt_versions.specs.declared.reach.Reach.{Reach}
use Rattle.tt_versions.specs.declared.reach.Reach.TheVariants.{Latest, Any}
use Rattle.tt_versions.specs.declared.row_change.RowChange.{RowChange}
use Rattle.tt_versions.specs.declared.row_change.RowChange.TheVariants.{First}
use Rattle.tt_versions.specs.RowChange.{current_before, current_after, other_after, listed_by}
use Rattle.tt_versions.specs.declared.side.Side.{Side}
use Rattle.tt_versions.specs.declared.side.Side.TheVariants.{Current, Next}
use Rattle.tt_versions.specs.declared.version.Version.{Version}
use Rattle.tt_versions.specs.declared.lineage.Lineage.{Lineage}
use Rattle.tt_versions.specs.Versions.{last_row}
use Rattle.tt_versions.specs.Lineage.{chain_on}
use Rattle.tt_versions.specs.Sides.{LineagesByKey, lineage_at, side_of}

-- ---- sets of keys

-- a set of keys
abbrev pub KeySet : Type 0
KeySet = List (ℤ × Unit {0})

-- whether a key is in a set
abbrev pub has_key : KeySet → ℤ → Bool
has_key keys key = is_some (sorted.find int_cmp key keys)

-- the keys under a digest
abbrev pub keys_under : ℤ → List (ℤ × KeySet) → KeySet
keys_under digest sets = unwrap_or (sorted.find int_cmp digest sets) []

-- the set under a digest gets a key, and nothing else changes
abbrev pub PutsKey : ℤ → ℤ → List (ℤ × KeySet) → List (ℤ × KeySet) → Type 0
PutsKey digest key before after = (d q : ℤ) → has_key (keys_under d after) q ≡ ((int_eq d digest && int_eq q key) || has_key (keys_under d before) q)

-- the set under a digest loses a key, and nothing else changes
abbrev pub DropsKey : ℤ → ℤ → List (ℤ × KeySet) → List (ℤ × KeySet) → Type 0
DropsKey digest key before after = (d q : ℤ) → has_key (keys_under d after) q ≡ (not (int_eq d digest && int_eq q key) && has_key (keys_under d before) q)

-- how many keys two sets have
abbrev pub size_together : KeySet → KeySet → ℕ
size_together now past = min (length now + length past) (2 ^ 64 - 1)

-- ---- columns

-- whether a column has a key under a digest, as that of a current row
abbrev pub has_now : IndexedColumn → ℤ → ℤ → Bool
has_now c digest key = has_key (keys_under digest c.current) key

-- and as that of another row
abbrev pub has_past : IndexedColumn → ℤ → ℤ → Bool
has_past c digest key = has_key (keys_under digest c.past) key

-- the digest of the value that a row has at a position, if there is a row that has one
abbrev pub digest_at : ℕ → Option Row → Option ℤ
digest_at position None = None
digest_at position (Some row) = option_map digest_of (slice_get row.values position)

-- whether a digest is this one, if there is one
abbrev pub is_digest : ℤ → Option ℤ → Bool
is_digest digest None = false
is_digest digest (Some d) = int_eq digest d

-- of a key whose current row is this one, if there is one, a column lists the key under the row's value now, and nowhere else; and under that value it isn't one of the past
pub record ListsCurrent (key : ℤ) (row : Option Row) (c : IndexedColumn) : Type 0 where
  pub now : (digest : ℤ) → has_now c digest key ≡ is_digest digest (digest_at c.position row)
  pub apart : (digest : ℤ) → (has_now c digest key && has_past c digest key) ≡ false

-- a column has a key nowhere among those of the past
abbrev pub HasNoPast : ℤ → IndexedColumn → Type 0
HasNoPast key c = (digest : ℤ) → has_past c digest key ≡ false

-- a column fits a row with a key before a change: it has none in the past of a row that is written for the first time
abbrev pub FitsChange : RowChange → ℤ → IndexedColumn → Type 0
FitsChange (First row) key c = ListsCurrent key None c × HasNoPast key c
FitsChange change key c = ListsCurrent key (current_before change) c

-- a column has no keys
abbrev pub HasNoKeys : IndexedColumn → Type 0
HasNoKeys c = (c.current ≡ []) × (c.past ≡ [])

-- a key of a column moves: now it is under the digest `to` alone, in the past under `aside` too but not under `to`, and the other keys stay
pub record MovesKey (key : ℤ) (to aside : Option ℤ) (before after : IndexedColumn) : Type 0 where
  pub position : after.position ≡ before.position
  pub now : (digest q : ℤ) → has_now after digest q ≡ (if int_eq q key then is_digest digest to else has_now before digest q)
  pub past : (digest q : ℤ) → has_past after digest q ≡ (if int_eq q key then (has_past before digest key || is_digest digest aside) && not (is_digest digest to) else has_past before digest q)

-- a key isn't current under a digest any more, if one is given, but in the past
pub record LeavesDigest (key : ℤ) (from : Option ℤ) (before after : IndexedColumn) : Type 0 where
  pub position : after.position ≡ before.position
  pub now : (digest q : ℤ) → has_now after digest q ≡ (not (is_digest digest from && int_eq q key) && has_now before digest q)
  pub past : (digest q : ℤ) → has_past after digest q ≡ ((is_digest digest from && int_eq q key) || has_past before digest q)

-- a key is current under a digest, if one is given, and not in the past
pub record ComesToDigest (key : ℤ) (to : Option ℤ) (before after : IndexedColumn) : Type 0 where
  pub position : after.position ≡ before.position
  pub now : (digest q : ℤ) → has_now after digest q ≡ ((is_digest digest to && int_eq q key) || has_now before digest q)
  pub past : (digest q : ℤ) → has_past after digest q ≡ (not (is_digest digest to && int_eq q key) && has_past before digest q)

-- a key moves in each column, by the values of two rows
abbrev pub MovesInColumns : ℤ → Option Row → Option Row → List IndexedColumn → List IndexedColumn → Type 0
MovesInColumns key to aside [] [] = Unit {0}
MovesInColumns key to aside [] (d ∷ ds) = ⊥
MovesInColumns key to aside (c ∷ cs) [] = ⊥
MovesInColumns key to aside (c ∷ cs) (d ∷ ds) = MovesKey key (digest_at c.position to) (digest_at c.position aside) c d × MovesInColumns key to aside cs ds

-- a column lists a row under the value that it has there, if it has one
abbrev pub ColumnLists : IndexedColumn → ℤ → Row → Type 0
ColumnLists c key row = IfSome (slice_get row.values c.position) (λ v. IsTrue (has_now c (digest_of v) key || has_past c (digest_of v) key))

-- each column lists a row under the value that it has there, if it has one
abbrev pub ColumnsList : List IndexedColumn → ℤ → Row → Type 0
ColumnsList [] key row = Unit {0}
ColumnsList (c ∷ cs) key row = ColumnLists c key row × ColumnsList cs key row

-- ---- indexes

-- an index: the columns, and whether each row that it lists has its key as its first value
pub record IndexState : Type 0 where
  pub columns : List IndexedColumn
  pub is_keyed : Bool

-- an index lists a row
pub record ListsRow (index : IndexState) (key : ℤ) (row : Row) : Type 0 where
  pub columns : ColumnsList index.columns key row
  pub first : IsTrue index.is_keyed → first_int row.values ≡ Some key

-- a key moves in an index by a change of its row, and the index lists the row that is written
pub record MovesInIndex (key : ℤ) (to aside row : Option Row) (before after : IndexState) : Type 0 where
  pub columns : MovesInColumns key to aside before.columns after.columns
  pub keyed : IsTrue after.is_keyed → IsTrue before.is_keyed
  pub first : IsTrue after.is_keyed → IfSome row (λ r. first_int r.values ≡ Some key)

abbrev pub MovesRow : ℤ → RowChange → IndexState → IndexState → Type 0
MovesRow key change before after = MovesInIndex key (current_after change) (other_after change) (listed_by change) before after

-- and by a write of a row, or of none, on a side of a lineage
abbrev pub MovesWrite : Side → ℤ → Lineage → Option Row → IndexState → IndexState → Type 0
MovesWrite Current key l row before after = MovesInIndex key row (last_row l.current) row before after
MovesWrite Next key l row before after = MovesInIndex key (last_row l.current) row row before after

-- and where both sides are to show what one of them shows
abbrev pub MovesUnsplit : Side → ℤ → Lineage → IndexState → IndexState → Type 0
MovesUnsplit Current key l before after = after ≡ before
MovesUnsplit Next key l before after = MovesInIndex key (last_row (chain_on Next l)) (last_row l.current) (last_row (chain_on Next l)) before after

-- a row is in reach of a search of the current rows where the columns list it as the current one, and of another one where the index lists it
abbrev pub IsInReach : Reach → IndexState → ℤ → Row → Type 0
IsInReach Latest index key row = All (ListsCurrent key (Some row)) index.columns
IsInReach Any index key row = ListsRow index key row

-- each row in reach for which a condition holds has its key in the set
abbrev pub CoversEqual : Reach → IndexState → KeySet → Equal → Type 0
CoversEqual reach index keys equal = (key : ℤ) (row : Row) → IsInReach reach index key row → IsTrue (holds equal row) → IsTrue (has_key keys key)

-- each row in reach that matches has its key in the set
abbrev pub CoversMatches : Reach → IndexState → KeySet → List Equal → Type 0
CoversMatches reach index keys equals = (key : ℤ) (row : Row) → IsInReach reach index key row → IsTrue (matches equals row) → IsTrue (has_key keys key)

-- the keys of the past under a digest that a search reads
abbrev pub past_keys : Reach → ℤ → IndexedColumn → KeySet
past_keys Latest digest c = []
past_keys Any digest c = keys_under digest c.past

-- how many keys are under the digest of a condition's value in the first column with its position, none if no column has it
abbrev pub size_with : Reach → List IndexedColumn → Equal → Option ℕ
size_with reach [] equal = None
size_with reach (c ∷ cs) equal =
    if c.position == equal.column then Some (size_together (keys_under (digest_of equal.value) c.current) (past_keys reach (digest_of equal.value) c)) else size_with reach cs equal

-- how many keys an equality says; another condition says none
abbrev pub size_equated : Reach → List IndexedColumn → Equal → Option ℕ
size_equated reach cs equal = if equates equal then size_with reach cs equal else None

-- the first number is at most the second, and is there where the second is
abbrev pub IsAtMost : Option ℕ → Option ℕ → Type 0
IsAtMost first None = Unit {0}
IsAtMost None (Some second) = ⊥
IsAtMost (Some first) (Some second) = first ≤ second

-- no condition says fewer keys
abbrev pub IsSmallest : Reach → IndexState → ℕ → List Equal → Type 0
IsSmallest reach index size equals = All (λ equal. IfSome (size_equated reach index.columns equal) (λ other. size ≤ other)) equals

-- no condition says keys
abbrev pub SayNoSet : Reach → IndexState → List Equal → Type 0
SayNoSet reach index equals = All (λ equal. size_equated reach index.columns equal ≡ None) equals

-- each row of the index that matches has this key
abbrev pub IsKeyOfMatches : IndexState → ℤ → List Equal → Type 0
IsKeyOfMatches index only equals = (key : ℤ) (row : Row) → ListsRow index key row → IsTrue (matches equals row) → key ≡ only

-- each version with a row has a property
abbrev pub ChainHas : (Row → Type 0) → List Version → Type 0
ChainHas P [] = Unit {0}
ChainHas P (v ∷ vs) = IfSome v.row P × ChainHas P vs

-- each version with a row, of both sides, has a property
abbrev pub LineageHas : (Row → Type 0) → Lineage → Type 0
LineageHas P l = ChainHas P l.current × IfSome l.next (λ vs. ChainHas P vs)

-- an index lists each row of a table, of all times and both sides
abbrev pub ListsTable : IndexState → LineagesByKey → Type 0
ListsTable index t = (key : ℤ) → LineageHas (ListsRow index key) (lineage_at t key)

-- no version starts after a time
abbrev pub AllStartBy : ℕ → List Version → Type 0
AllStartBy time [] = Unit {0}
AllStartBy time (v ∷ vs) = (v.start ≤ time) × AllStartBy time vs

-- nor on either side
abbrev pub StartsBy : ℕ → Lineage → Type 0
StartsBy time l = AllStartBy time l.current × IfSome l.next (λ vs. AllStartBy time vs)

-- an index fits a lineage that is to get a row: the columns list the current row of its key, and no version starts after a time
abbrev pub FitsWrite : ℤ → ℕ → Lineage → IndexState → Type 0
FitsWrite key latest l index = All (ListsCurrent key (last_row l.current)) index.columns × StartsBy latest l

-- an index fits a table, none of whose versions starts after a time: it lists each row, the current rows apart from the others, and no key that the table never had
pub record IsIndexed (index : IndexState) (latest : ℕ) (t : LineagesByKey) : Type 0 where
  pub listed : ListsTable index t
  pub current : (key : ℤ) → All (ListsCurrent key (last_row (lineage_at t key).current)) index.columns
  pub known : (key : ℤ) → sorted.find int_cmp key t ≡ None → All (HasNoPast key) index.columns
  pub starts : (key : ℤ) → StartsBy latest (lineage_at t key)

-- each row that a table shows at a time on a side and that matches has its key in the set
abbrev pub HaveKeysIn : LineagesByKey → Side → ℕ → KeySet → List Equal → Type 0
HaveKeysIn t side time keys equals = (key : ℤ) (row : Row) → side_of t side key time ≡ Some row → IsTrue (matches equals row) → IsTrue (has_key keys key)

-- each row that a table ever shows and that matches has this key
abbrev pub HaveKey : LineagesByKey → ℤ → List Equal → Type 0
HaveKey t only equals = (side : Side) (key : ℤ) (time : ℕ) (row : Row) → side_of t side key time ≡ Some row → IsTrue (matches equals row) → key ≡ only
