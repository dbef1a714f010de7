-- How many rows there are after slots.
use Rattle.std.proofs.Common.{◌≡◌, ◌≢◌, ◌⊎◌, ℕ, zero, suc, ◌+◌, ◌*◌, ◌<◌, ◌≤◌, Bool, true, false, cond, ◌==◌, ℤ, List, [], ◌∷◌, map, filter, length, fold, flat_map, All, IsTrue, T, Option, None, Some, is_some, refl, sym, ap, subst, ◌∙◌, inl, inr, arith, length-append, eq-eqb, ne_eqb, Ordering, Less, Equal, Greater, int_cmp, int_eq, is_eq}
use Rattle.std.specs.List.{range_with_len}
use Rattle.std.specs.Ordering.{eq_by_cmp}
use Rattle.std.specs.Cmp.{int_cmp_total}
use Rattle.std.specs.FinMap.Entries as sorted
use Rattle.std.proofs.lemmas.Bool.{cases_eq}
use Rattle.std.proofs.lemmas.Cmp.{tied_itself}
use Rattle.std.proofs.lemmas.List.{length-map}
use Rattle.std.proofs.lemmas.List.Elements.{All-map}
use Rattle.tt_values.specs.declared.row.Row.{Row}
use Rattle.tt_values.specs.declared.statement.Change.{Change}
use Rattle.tt_values.specs.declared.statement.Write.{Write}
use Rattle.tt_values.specs.declared.action.Action.{Action}
use Rattle.tt_values.specs.declared.statement.Write.TheVariants.{Insert, Update, Delete}
use Rattle.tt_values.specs.Row.{key_of}
use Rattle.tt_values.specs.Matches.{matches}
use Rattle.tt_values.specs.Change.{changed}
use Rattle.tt_values.specs.Content.{RowsByKey, Content, empty_content, row_at, with_row_at}
use Rattle.tt_values.specs.Effect.{table_of, matching_rows, effect_on, effect}
use Rattle.tt_values.specs.Action.{action_of, content_after_write, content_after_writes, content_after_action, is_undone, kept}
use Rattle.tt_values.specs.ActionLaws.{IsByRisingKey}
use Rattle.tt_values.specs.RowWrites.{Slots, slot_after, content_of}
use Rattle.tt_values.proofs.LawProofs.{rows_stay_by_rising_key, one_key_changes}
use Rattle.tt_repair_laws.specs.Due.{content_after}
use Rattle.tt_repair_laws.proofs.LawProofs.{content_after_is_kept}
use Rattle.tt_horizon.specs.Ground.{inserts_of, inserts_of_tables, in_pieces, ground_writes, ground_of_content}
use Rattle.tt_horizon.specs.Laws.{HasFewWrites, GroundIsSmall}
use Rattle.tt_horizon.proofs.SlotsLemmas.{content_after_slot, content_rises, next_by_slot, first_content}
use Rattle.tt_horizon.proofs.EditsLemmas.{All-rest}
use Rattle.tt_horizon.proofs.PiecesLemmas.{length-in_pieces, length-piece}
use Rattle.tt_horizon.proofs.InsertsLemmas.{after_entry}

-- how many rows so many tables have, from a first one on
abbrev rows_in : ℕ → ℕ → Content → ℕ
rows_in first n X = length (flat_map (λ table. inserts_of table (X table)) (range_with_len first n))

-- the rows of the first of some tables, and of the others
rows_in-next : (first n : ℕ) (X : Content) → rows_in first (suc n) X ≡ length (X first) + rows_in (first + 1) n X
rows_in-next first n X =
    length-append (inserts_of first (X first)) (flat_map (λ table. inserts_of table (X table)) (range_with_len (first + 1) n))
    ∙ ap (λ m. m + rows_in (first + 1) n X) (length-map (X first) (λ (e : ℤ × Row). Insert first e.1))

-- nothing has no rows
no_rows : (n first : ℕ) → rows_in first n empty_content ≡ 0
no_rows zero first = refl
no_rows (suc n) first = no_rows n (first + 1)

-- if no table has more rows, there aren't more in all
no_more_rows : (n first : ℕ) (X Y : Content) → ((table : ℕ) → first ≤ table → length (Y table) ≤ length (X table)) → rows_in first n Y ≤ rows_in first n X
no_more_rows zero first X Y h = omega arith
no_more_rows (suc n) first X Y h =
    let rest = no_more_rows n (first + 1) X Y (λ table behind. h table (omega (arith, behind))) in
    omega (arith, rows_in-next first n X, rows_in-next first n Y, h first (omega arith), rest)

-- if one table has at most one row more, and the others don't have more, there is at most one more in all
one_more_row : (n first table : ℕ) (X Y : Content) → ((other : ℕ) → other ≢ table → length (Y other) ≤ length (X other)) →
    length (Y table) ≤ suc (length (X table)) → rows_in first n Y ≤ suc (rows_in first n X)
one_more_row zero first table X Y others here = omega arith
one_more_row (suc n) first table X Y others here = by (cases_eq first table) (one_more_row n (first + 1) table X Y others here)
  where
    by : (first ≡ table) ⊎ (first ≢ table) → rows_in (first + 1) n Y ≤ suc (rows_in (first + 1) n X) → rows_in first (suc n) Y ≤ suc (rows_in first (suc n) X)
    by (inl same) later =
        let now : length (Y first) ≤ suc (length (X first)) = subst (λ t. length (Y t) ≤ suc (length (X t))) (sym same) here in
        let rest = no_more_rows n (first + 1) X Y (λ other behind. others other (λ e. omega (arith, same, behind, e))) in
        omega (arith, rows_in-next first n X, rows_in-next first n Y, now, rest)
    by (inr apart) later = omega (arith, rows_in-next first n X, rows_in-next first n Y, others first apart, later)

-- a row that is put is at most one more
length-put_most : (key : ℤ) (row : Row) (rows : RowsByKey) → length (sorted.put int_cmp key row rows) ≤ suc (length rows)
length-put_most key row [] = omega arith
length-put_most key row (e ∷ rows) =
    let rest = length-put_most key row rows in
    let put_by : Ordering → RowsByKey = λ o. sorted.by_order o ((key, row) ∷ e ∷ rows) ((e.0, row) ∷ rows) (e ∷ sorted.put int_cmp key row rows) in
    elim (int_cmp key e.0) as (λ o. length (put_by o) ≤ suc (suc (length rows))) [
      | Less ↦ omega arith
      | Equal ↦ omega arith
      | Greater ↦ omega (arith, rest)
    ]

-- a row that takes the place of another is none more
length-put_there : (key : ℤ) (row : Row) (rows : RowsByKey) → IsTrue (sorted.is_sorted int_cmp rows) → is_some (row_at rows key) ≡ true →
    length (sorted.put int_cmp key row rows) ≡ length rows
length-put_there key row rows rising there =
    sorted.length-put int_cmp int_cmp_total key row rows (subst T (sym rising) tt) ∙ ap (λ b. cond b (length rows) (length rows + 1)) there

-- what is there is still there with a choice before it
some_or : {A : Type 0} (b : Bool) (x : A) (o : Option A) → is_some o ≡ true → is_some (cond b (Some x) o) ≡ true
some_or true x o h = refl
some_or false x o h = h

-- if what is there in one place is there in another, it is so with a choice before both
some_or-more : {A : Type 0} (b : Bool) (x : A) (o p : Option A) → (is_some o ≡ true → is_some p ≡ true) →
    is_some (cond b (Some x) o) ≡ true → is_some (cond b (Some x) p) ≡ true
some_or-more true x o p f h = refl
some_or-more false x o p f h = f h

-- updates of rows that are there leave as many rows
length-updated : (changes : List Change) (matched rows : RowsByKey) → IsTrue (sorted.is_sorted int_cmp rows) →
    ((key : ℤ) → is_some (row_at matched key) ≡ true → is_some (row_at rows key) ≡ true) →
    length (fold after_entry rows (map (λ e. (e.0, Some (changed e.1 changes))) matched)) ≡ length rows
length-updated changes [] rows rising there = refl
length-updated changes (e ∷ matched) rows rising there =
    let row = changed e.1 changes in
    let first = there e.0 (ap (λ o. is_some (cond (is_eq o) (Some e.1) (row_at matched e.0))) (tied_itself int_cmp_total e.0)) in
    length-updated changes matched (with_row_at rows e.0 (Some row)) (rows_stay_by_rising_key rows e.0 (Some row) rising) (λ key h.
    ap is_some (one_key_changes rows e.0 (Some row) key)
    ∙ some_or (int_eq key e.0) row (row_at rows key) (there key (some_or (eq_by_cmp int_cmp key e.0) e.1 (row_at matched key) h)))
    ∙ length-put_there e.0 row rows rising first

-- a filter keeps no more than there is
length-filtered : {A : Type 0} (p : A → Bool) (xs : List A) → length (filter p xs) ≤ length xs
length-filtered p [] = omega arith
length-filtered p (x ∷ xs) =
    let rest = length-filtered p xs in
    elim (p x) as (λ b. length (cond b (x ∷ filter p xs) (filter p xs)) ≤ suc (length xs)) [ true ↦ omega (arith, rest) | false ↦ omega (arith, rest) ]

-- deletes leave no more rows
length-deleted : (matched rows : RowsByKey) → length (fold after_entry rows (map (λ e. (e.0, None)) matched)) ≤ length rows
length-deleted [] rows = omega arith
length-deleted (e ∷ matched) rows =
    let next = with_row_at rows e.0 None in
    let fewer : length next ≤ length rows = length-filtered _ rows in
    omega (arith, length-deleted matched next, fewer)

-- a row that is found among those that pass a test is there
found_in_filter : (p : ℤ × Row → Bool) (rows : RowsByKey) (key : ℤ) → is_some (row_at (filter p rows) key) ≡ true → is_some (row_at rows key) ≡ true
found_in_filter p [] key h = h
found_in_filter p (e ∷ rows) key h = by (p e) (found_in_filter p rows key) h
  where
    by : (b : Bool) → (is_some (row_at (filter p rows) key) ≡ true → is_some (row_at rows key) ≡ true) →
        is_some (row_at (cond b (e ∷ filter p rows) (filter p rows)) key) ≡ true → is_some (row_at (e ∷ rows) key) ≡ true
    by true rest g = some_or-more (eq_by_cmp int_cmp key e.0) e.1 (row_at (filter p rows) key) (row_at rows key) rest g
    by false rest g = some_or (eq_by_cmp int_cmp key e.0) e.1 (row_at rows key) (rest g)

-- a write adds at most one row to its table
one_more_by_write : (w : Write) (rows : RowsByKey) → IsTrue (sorted.is_sorted int_cmp rows) →
    length (fold after_entry rows (effect_on w rows)) ≤ suc (length rows)
one_more_by_write (Insert table row) rows rising =
    elim (is_some (row_at rows (key_of row))) as (λ b. length (fold after_entry rows (cond b [] ((key_of row, Some row) ∷ []))) ≤ suc (length rows)) [
      | true ↦ omega arith
      | false ↦ length-put_most (key_of row) row rows
    ]
one_more_by_write (Update table changes equals) rows rising =
    omega (arith, length-updated changes (matching_rows equals rows) rows rising (found_in_filter (λ e. matches equals e.1) rows))
one_more_by_write (Delete table equals) rows rising = omega (arith, length-deleted (matching_rows equals rows) rows)

-- rows still rise after those of some keys are set, or removed
rising_after_entries : (es : List (ℤ × Option Row)) (rows : RowsByKey) → IsTrue (sorted.is_sorted int_cmp rows) →
    IsTrue (sorted.is_sorted int_cmp (fold after_entry rows es))
rising_after_entries [] rows h = h
rising_after_entries (e ∷ es) rows h = rising_after_entries es (with_row_at rows e.0 e.1) (rows_stay_by_rising_key rows e.0 e.1 h)

-- rows still rise after a write
rising_after_write : (w : Write) (X : Content) → IsByRisingKey X → IsByRisingKey (content_after_write w X)
rising_after_write w X rising table =
    elim (table == table_of w) as (λ b. IsTrue (sorted.is_sorted int_cmp (cond b (fold after_entry (X table) (effect w X)) (X table)))) [
      | true ↦ rising_after_entries (effect w X) (X table) (rising table)
      | false ↦ rising table
    ]

module _ (first n : ℕ) where
  -- a write adds at most one row
  rows_after_write : (w : Write) (X : Content) → IsByRisingKey X → rows_in first n (content_after_write w X) ≤ suc (rows_in first n X)
  rows_after_write w X rising = one_more_row n first (table_of w) X (content_after_write w X) others here
    where
      others : (other : ℕ) → other ≢ table_of w → length (content_after_write w X other) ≤ length (X other)
      others other apart =
          let not_written = ne_eqb other (table_of w) apart in
          let same : content_after_write w X other ≡ X other = ap (λ b. cond b (fold after_entry (X other) (effect w X)) (X other)) not_written in
          omega (arith, ap length same)

      here : length (content_after_write w X (table_of w)) ≤ suc (length (X (table_of w)))
      here =
          let rows = X (table_of w) in
          let same : content_after_write w X (table_of w) ≡ fold after_entry rows (effect w X) =
          ap (λ b. cond b (fold after_entry rows (effect w X)) rows) (eq-eqb (table_of w) (table_of w) refl) in
          omega (arith, ap length same, one_more_by_write w rows (rising (table_of w)))

  -- some writes add at most as many rows as there are writes
  rows_after_writes : (ws : List Write) (X : Content) → IsByRisingKey X → rows_in first n (content_after_writes ws X) ≤ rows_in first n X + length ws
  rows_after_writes [] X rising = omega arith
  rows_after_writes (w ∷ ws) X rising =
      let next = content_after_write w X in
      omega (arith, rows_after_writes ws next (rising_after_write w X rising), rows_after_write w X rising)

  -- no more writes of an action stay than it has
  kept_most : (a : Action) (X : Content) → length (kept a X) ≤ length a.writes
  kept_most a X = elim (is_undone a X) as (λ b. length (cond b [] a.writes) ≤ length a.writes) [ true ↦ omega arith | false ↦ omega arith ]

  -- an action adds at most as many rows as it has writes
  rows_after_action : (a : Action) (X : Content) → IsByRisingKey X → rows_in first n (content_after_action a X) ≤ rows_in first n X + length a.writes
  rows_after_action a X rising = omega (arith, rows_after_writes (kept a X) X rising, kept_most a X)

-- if each slot has few writes, so has the one at any place
few_writes_at : (most : ℕ) (W : Slots) → All (HasFewWrites most) W → (n : ℕ) → HasFewWrites most (slot_after W n)
few_writes_at most [] few n = omega arith
few_writes_at most (s ∷ W) few zero = few 0 s (omega arith)
few_writes_at most (s ∷ W) few (suc n) = few_writes_at most W (All-rest (HasFewWrites most) s W few) n

-- a slot of at most so many writes adds at most so many rows
rows_after_slot : (most first n : ℕ) (s : Option Action) (X : Content) → HasFewWrites most s → IsByRisingKey X →
    rows_in first n (content_after_slot s X) ≤ rows_in first n X + most
rows_after_slot most first n None X few rising = omega arith
rows_after_slot most first n (Some action) X few rising = omega (arith, rows_after_action first n action X rising, few)

-- slots of at most so many writes leave at most so many rows for each of them
pub rows_after_slots : (most tables : ℕ) (W : Slots) → All (HasFewWrites most) W → (n : ℕ) → rows_in 0 tables (content_after W n) ≤ most * n
rows_after_slots most tables W few zero = omega (arith, ap (rows_in 0 tables) (first_content W) ∙ no_rows tables 0)
rows_after_slots most tables W few (suc n) =
    let before = rows_after_slots most tables W few n in
    let slot = rows_after_slot most 0 tables (slot_after W n) (content_after W n) (few_writes_at most W few n) (content_rises W n) in
    omega (arith, ap (rows_in 0 tables) (next_by_slot W n), slot, before)

-- the ground has at most as many actions as there were slots
pub ground_is_small : GroundIsSmall
ground_is_small tables W time few early =
    let rows = ap (rows_in 0 tables) (content_after_is_kept W time early) in
    let few_rows = rows_after_slots ground_writes tables W few time in
    let pieces = in_pieces ground_writes (inserts_of_tables tables (content_of W time)) in
    let few_pieces = length-in_pieces ground_writes (omega arith) (inserts_of_tables tables (content_of W time)) time (omega (arith, rows, few_rows)) in
    omega (arith, length-map pieces action_of, few_pieces)

-- each action of a ground has 1 to 16 writes
pub ground_actions_have_few_writes : (tables : ℕ) (X : Content) →
    All (λ (action : Action). (0 < length action.writes) × (length action.writes ≤ ground_writes)) (ground_of_content tables X)
ground_actions_have_few_writes tables X =
    let items = inserts_of_tables tables X in
    All-map (λ (action : Action). (0 < length action.writes) × (length action.writes ≤ ground_writes)) action_of (in_pieces ground_writes items)
    (length-piece ground_writes (omega arith) (length items) items)
