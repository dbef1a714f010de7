-- Rows of a table that get an effect, as a content has them and as they are over time.
use Rattle.std.proofs.Common.{◌≡◌, ℕ, ℤ, Bool, true, false, nat_le, ◌&&◌, ◌||◌, ◌==◌, List, [], ◌∷◌, fold, IsTrue, Option, if◌then◌else◌, refl, sym, ap, ◌∙◌}
use Rattle.std.specs.List.{list_any}
use Rattle.std.specs.Ordering.{int_cmp, int_eq}
use Rattle.std.specs.FinMap.Entries as sorted
use Rattle.std.proofs.lemmas.Bool.{or_parts}
use Rattle.tt_values.specs.declared.row.Row.{Row}
use Rattle.tt_values.specs.declared.statement.Write.{Write}
use Rattle.tt_values.specs.Content.{RowsByKey, Content, row_at, with_row_at}
use Rattle.tt_values.specs.Effect.{table_of, effect}
use Rattle.tt_values.specs.Action.{with_rows_at, content_after_write}
use Rattle.tt_values.specs.ActionLaws.{IsByRisingKey}
use Rattle.tt_values.proofs.LawProofs.{one_key_changes, rows_stay_by_rising_key}
use Rattle.tt_versions.specs.Sides.{RowsOverTime, written_from, all_written_from}
use Rattle.tt_parts.specs.Dirty.{is_row_in}
use Rattle.tt_generations.specs.Effect.{rows_of_effect}

-- the rows of a table, once keys have their rows one after another
abbrev pub all_put : RowsByKey → List (ℤ × Option Row) → RowsByKey
all_put rows es = fold (λ rs e. with_row_at rs e.0 e.1) rows es

-- whether an effect has a key
abbrev has_key : List (ℤ × Option Row) → ℤ → Bool
has_key es key = list_any (λ e. int_eq key e.0) es

has_key-none : (table t : ℕ) (key : ℤ) (es : List (ℤ × Option Row)) → (t == table) ≡ true → is_row_in (rows_of_effect table es) t key ≡ false → has_key es key ≡ false
has_key-none table t key [] same h = refl
has_key-none table t key (e ∷ es) same h =
    let parts = or_parts ((t == table) && int_eq key e.0) _ h in
    (λ i. (sym (ap (λ b. b && int_eq key e.0) same) ∙ parts.0) i || has_key-none table t key es same parts.1 i)

-- a key that an effect has not keeps its row
row_at-unwritten : (es : List (ℤ × Option Row)) (rows : RowsByKey) (key : ℤ) → has_key es key ≡ false → row_at (all_put rows es) key ≡ row_at rows key
row_at-unwritten [] rows key h = refl
row_at-unwritten (e ∷ es) rows key h =
    let parts = or_parts (int_eq key e.0) _ h in
    row_at-unwritten es (with_row_at rows e.0 e.1) key parts.1
    ∙ one_key_changes rows e.0 e.1 key
    ∙ ap (λ b. if b then e.1 else row_at rows key) parts.0

all_written_from-no_key : (es : List (ℤ × Option Row)) (time : ℕ) (rows : RowsOverTime) (key : ℤ) (u : ℕ) → has_key es key ≡ false → all_written_from es time rows key u ≡ rows key u
all_written_from-no_key [] time rows key u h = refl
all_written_from-no_key (e ∷ es) time rows key u h =
    let parts = or_parts (int_eq key e.0) _ h in
    all_written_from-no_key es time (written_from e.0 e.1 time rows) key u parts.1
    ∙ ap (λ b. if b && nat_le time u then e.1 else rows key u) parts.0

pub with_rows_at-unwritten : (table : ℕ) (es : List (ℤ × Option Row)) (X : Content) (t : ℕ) (key : ℤ) → is_row_in (rows_of_effect table es) t key ≡ false
    → row_at (with_rows_at table es X t) key ≡ row_at (X t) key
with_rows_at-unwritten table es X t key h = by (t == table) refl
  where
    by : (b : Bool) → (t == table) ≡ b → row_at (if b then all_put (X t) es else X t) key ≡ row_at (X t) key
    by true same = row_at-unwritten es (X t) key (has_key-none table t key es same h)
    by false other = refl

pub all_written_from-unwritten : (table : ℕ) (es : List (ℤ × Option Row)) (time : ℕ) (rows : RowsOverTime) (t : ℕ) (key : ℤ) (u : ℕ) → (t == table) ≡ true
    → is_row_in (rows_of_effect table es) t key ≡ false → all_written_from es time rows key u ≡ rows key u
all_written_from-unwritten table es time rows t key u same h = all_written_from-no_key es time rows key u (has_key-none table t key es same h)

-- from the time of an effect on, its keys have their rows, and the others those before
pub all_written_from-later : (es : List (ℤ × Option Row)) (time : ℕ) (rows : RowsOverTime) (all : RowsByKey) (key : ℤ) (u : ℕ) → nat_le time u ≡ true → rows key u ≡ row_at all key
    → all_written_from es time rows key u ≡ row_at (all_put all es) key
all_written_from-later [] time rows all key u later h = h
all_written_from-later (e ∷ es) time rows all key u later h =
    all_written_from-later es time (written_from e.0 e.1 time rows) (with_row_at all e.0 e.1) key u later
    (ap (λ l. if int_eq key e.0 && l then e.1 else rows key u) later ∙ by (int_eq key e.0) ∙ sym (one_key_changes all e.0 e.1 key))
  where
    by : (b : Bool) → (if b && true then e.1 else rows key u) ≡ (if b then e.1 else row_at all key)
    by true = refl
    by false = h

-- before that time nothing changes
pub all_written_from-earlier : (es : List (ℤ × Option Row)) (time : ℕ) (rows : RowsOverTime) (key : ℤ) (u : ℕ) → nat_le time u ≡ false → all_written_from es time rows key u ≡ rows key u
all_written_from-earlier [] time rows key u earlier = refl
all_written_from-earlier (e ∷ es) time rows key u earlier =
    all_written_from-earlier es time (written_from e.0 e.1 time rows) key u earlier
    ∙ ap (λ l. if int_eq key e.0 && l then e.1 else rows key u) earlier ∙ by (int_eq key e.0)
  where
    by : (b : Bool) → (if b && false then e.1 else rows key u) ≡ rows key u
    by true = refl
    by false = refl

is_sorted-all_put : (es : List (ℤ × Option Row)) (rows : RowsByKey) → IsTrue (sorted.is_sorted int_cmp rows) → IsTrue (sorted.is_sorted int_cmp (all_put rows es))
is_sorted-all_put [] rows h = h
is_sorted-all_put (e ∷ es) rows h = is_sorted-all_put es (with_row_at rows e.0 e.1) (rows_stay_by_rising_key rows e.0 e.1 h)

-- a write leaves the rows of each table by rising key
pub IsByRisingKey-after_write : (w : Write) (X : Content) → IsByRisingKey X → IsByRisingKey (content_after_write w X)
IsByRisingKey-after_write w X rising t = by (t == table_of w)
  where
    by : (b : Bool) → IsTrue (sorted.is_sorted int_cmp (if b then all_put (X t) (effect w X) else X t))
    by true = is_sorted-all_put (effect w X) (X t) (rising t)
    by false = rising t
