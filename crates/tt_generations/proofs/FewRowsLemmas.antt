-- How many rows there are: each write adds one at most.
use Rattle.std.proofs.Common.{◌≡◌, ℕ, suc, ◌+◌, ◌≤◌, ℤ, Bool, true, false, cond, not, nat_le, ◌==◌, List, [], ◌∷◌, map, filter, length, T, Option, None, Some, is_some, if◌then◌else◌, refl, sym, ap, subst, ◌∙◌, arith}
use Rattle.std.proofs.lemmas.Bool.Decides.{nat_tests}
use Rattle.std.proofs.lemmas.List.{length-map}
use Rattle.std.specs.Ordering.{int_cmp, int_eq, is_eq}
use Rattle.std.specs.Cmp.{int_cmp_total, tied_itself}
use Rattle.std.specs.FinMap.Entries as sorted
use Rattle.tt_values.specs.declared.row.Row.{Row}
use Rattle.tt_values.specs.declared.statement.Write.{Write}
use Rattle.tt_values.specs.declared.action.Action.{Action}
use Rattle.tt_values.specs.declared.statement.Write.TheVariants.{Insert, Update, Delete}
use Rattle.tt_values.specs.Row.{key_of}
use Rattle.tt_values.specs.Matches.{matches}
use Rattle.tt_values.specs.Change.{changed}
use Rattle.tt_values.specs.Content.{RowsByKey, Content, RowWrite, row_at, with_row_at, content_at}
use Rattle.tt_values.specs.Effect.{table_of, effect_on, effect}
use Rattle.tt_values.specs.Action.{content_after_write, content_after_writes, content_after_action, is_undone}
use Rattle.tt_values.specs.ActionLaws.{IsByRisingKey}
use Rattle.tt_values.proofs.LawProofs.{one_key_changes}
use Rattle.tt_versions.specs.declared.side.Side.{Side}
use Rattle.tt_versions.specs.declared.side.Side.TheVariants.{Current}
use Rattle.tt_versions.specs.Sides.{side_of, current_of, all_written_from, ListsRows}
use Rattle.tt_generations.specs.Effect.{IsEffect}
use Rattle.tt_generations.specs.Rows.{TablesByPosition, versions_at, CurrentAgrees, WritesCurrent, HasFewRows, AddsOneRowAtMost}
use Rattle.tt_generations.proofs.ContentLemmas.{all_put, all_written_from-later, IsByRisingKey-after_write}
use Rattle.tt_generations.proofs.RowsLemmas.{same_table}
use Rattle.tt_generations.proofs.ActionStepsLemmas.{CurrentAgrees-lists}

-- each key is that of a row
abbrev HaveRows : List (ℤ × Row) → RowsByKey → Type 0
HaveRows [] rows = Unit {0}
HaveRows (e ∷ es) rows = (is_some (row_at rows e.0) ≡ true) × HaveRows es rows

-- a key that has a row still has one where a key gets a row
is_some-put : (rows : RowsByKey) (key : ℤ) (row : Row) (q : ℤ) → is_some (row_at rows q) ≡ true → is_some (row_at (with_row_at rows key (Some row)) q) ≡ true
is_some-put rows key row q h = ap is_some (one_key_changes rows key (Some row) q) ∙ by (int_eq q key)
  where
    by : (b : Bool) → is_some (cond b (Some row) (row_at rows q)) ≡ true
    by true = refl
    by false = h

HaveRows-put : (es : List (ℤ × Row)) (rows : RowsByKey) (key : ℤ) (row : Row) → HaveRows es rows → HaveRows es (with_row_at rows key (Some row))
HaveRows-put [] rows key row h = tt
HaveRows-put (e ∷ es) rows key row h = (is_some-put rows key row e.0 h.0, HaveRows-put es rows key row h.1)

-- rows put at keys that have one are as many as before
length-all_put : (f : Row → Row) (es : List (ℤ × Row)) (rows : RowsByKey) → T (sorted.is_sorted int_cmp rows) → HaveRows es rows → length (all_put rows (map (λ e. (e.0, Some (f e.1))) es)) ≡ length rows
length-all_put f [] rows h have = refl
length-all_put f (e ∷ es) rows h have =
    length-all_put f es (with_row_at rows e.0 (Some (f e.1))) (sorted.is_sorted-put int_cmp int_cmp_total e.0 (f e.1) rows h) (HaveRows-put es rows e.0 (f e.1) have.1)
    ∙ sorted.length-put int_cmp int_cmp_total e.0 (f e.1) rows h
    ∙ ap (λ b. cond b (length rows) (length rows + 1)) have.0

length-filter : {X : Type 0} (p : X → Bool) (xs : List X) → length (filter p xs) ≤ length xs
length-filter p [] = omega arith
length-filter p (x ∷ xs) = by (p x) (length-filter p xs)
  where
    by : (b : Bool) → length (filter p xs) ≤ length xs → length (cond b (x ∷ filter p xs) (filter p xs)) ≤ suc (length xs)
    by true h = omega arith
    by false h = omega arith

-- deletes leave no more rows than before
length-all_deleted : (es : List (ℤ × Row)) (rows : RowsByKey) → length (all_put rows (map (λ e. (e.0, None)) es)) ≤ length rows
length-all_deleted [] rows = omega arith
length-all_deleted (e ∷ es) rows =
    let rest = length-all_deleted es (with_row_at rows e.0 None) in
    let fewer = length-filter (λ (x : ℤ × Row). not (int_eq x.0 e.0)) rows in
    omega (arith, rest, fewer)

same_itself : (k : ℤ) → int_eq k k ≡ true
same_itself k = ap is_eq (tied_itself int_cmp_total k)

-- the keys of some of the rows have rows
HaveRows-filter : (p : Row → Bool) (es : List (ℤ × Row)) (rows : RowsByKey) → ((q : ℤ) → is_some (row_at es q) ≡ true → is_some (row_at rows q) ≡ true) → HaveRows (filter (λ e. p e.1) es) rows
HaveRows-filter p [] rows within = tt
HaveRows-filter p (e ∷ es) rows within = by (p e.1) (HaveRows-filter p es rows (λ q h. within q (later (int_eq q e.0) q h)))
  where
    later : (b : Bool) (q : ℤ) → is_some (row_at es q) ≡ true → is_some (cond b (Some e.1) (row_at es q)) ≡ true
    later true q h = refl
    later false q h = h

    first : is_some (row_at (e ∷ es) e.0) ≡ true
    first = ap (λ b. is_some (cond b (Some e.1) (row_at es e.0))) (same_itself e.0)

    by : (b : Bool) → HaveRows (filter (λ e. p e.1) es) rows → HaveRows (cond b (e ∷ filter (λ e. p e.1) es) (filter (λ e. p e.1) es)) rows
    by true rest = (within e.0 first, rest)
    by false rest = rest

-- a write adds one row at most
length-all_put_effect : (w : Write) (rows : RowsByKey) → T (sorted.is_sorted int_cmp rows) → length (all_put rows (effect_on w rows)) ≤ length rows + 1
length-all_put_effect (Insert table row) rows h = by (is_some (row_at rows (key_of row))) refl
  where
    by : (b : Bool) → is_some (row_at rows (key_of row)) ≡ b → length (all_put rows (if b then [] else (key_of row, Some row) ∷ [])) ≤ length rows + 1
    by true e = omega arith
    by false e = omega (arith, sorted.length-put int_cmp int_cmp_total (key_of row) row rows h ∙ ap (λ b. cond b (length rows) (length rows + 1)) e)
length-all_put_effect (Update table changes equals) rows h =
    omega (arith, length-all_put (λ r. changed r changes) (filter (λ e. matches equals e.1) rows) rows h (HaveRows-filter (matches equals) rows rows (λ q g. g)))
length-all_put_effect (Delete table equals) rows h = omega (arith, length-all_deleted (filter (λ e. matches equals e.1) rows) rows)

-- the effect of a write has no more pairs than there are rows, or one
length-effect_on : (w : Write) (rows : RowsByKey) → length (effect_on w rows) ≤ length rows + 1
length-effect_on (Insert table row) rows = by (is_some (row_at rows (key_of row)))
  where
    insert_pairs : Bool → List (ℤ × Option Row)
    insert_pairs b = if b then [] else (key_of row, Some row) ∷ []

    by : (b : Bool) → length (insert_pairs b) ≤ length rows + 1
    by true = omega arith
    by false = omega arith
length-effect_on (Update table changes equals) rows =
    let matching = filter (λ (e : ℤ × Row). matches equals e.1) rows in
    let as_pair : ℤ × Row → ℤ × Option Row = λ e. (e.0, Some (changed e.1 changes)) in
    let as_many : length (map as_pair matching) ≡ length matching = length-map matching as_pair in
    let fewer : length matching ≤ length rows = length-filter (λ e. matches equals e.1) rows in
    omega (arith, as_many, fewer)
length-effect_on (Delete table equals) rows =
    let matching = filter (λ (e : ℤ × Row). matches equals e.1) rows in
    let as_pair : ℤ × Row → ℤ × Option Row = λ e. (e.0, None) in
    let as_many : length (map as_pair matching) ≡ length matching = length-map matching as_pair in
    let fewer : length matching ≤ length rows = length-filter (λ e. matches equals e.1) rows in
    omega (arith, as_many, fewer)

-- a write adds one row at most to each table
pub length-after_write : (w : Write) (X : Content) (t : ℕ) → IsByRisingKey X → length (content_after_write w X t) ≤ length (X t) + 1
length-after_write w X t rising = by (t == table_of w) refl
  where
    by : (b : Bool) → (t == table_of w) ≡ b → length (cond b (all_put (X t) (effect w X)) (X t)) ≤ length (X t) + 1
    by true e =
        let here = same_table t (table_of w) e in
        subst (λ n. length (all_put (X t) (effect_on w (X n))) ≤ length (X t) + 1) here (length-all_put_effect w (X t) (subst T (sym (rising t)) tt))
    by false e = omega arith

-- writes add as many rows as they are, at most
pub length-after_writes : (ws : List Write) (X : Content) (t : ℕ) → IsByRisingKey X → length (content_after_writes ws X t) ≤ length (X t) + length ws
length-after_writes [] X t rising = omega arith
length-after_writes (w ∷ ws) X t rising =
    omega (arith, length-after_write w X t rising, length-after_writes ws (content_after_write w X) t (IsByRisingKey-after_write w X rising))

-- an action adds as many rows as it has writes, at most
pub length-after_action : (a : Action) (X : Content) (t : ℕ) → IsByRisingKey X → length (content_after_action a X t) ≤ length (X t) + length a.writes
length-after_action a X t rising = by (is_undone a X)
  where
    by : (b : Bool) → length (content_after_writes (cond b [] a.writes) X t) ≤ length (X t) + length a.writes
    by true = omega arith
    by false = length-after_writes a.writes X t rising

-- tables have few rows where they have the rows of row writes, and the content that these leave is small
pub HasFewRows-agree : (tables : TablesByPosition) (vs : List RowWrite) (time most : ℕ) → CurrentAgrees tables vs → ((t : ℕ) → length (content_at vs time t) ≤ most) → HasFewRows tables Current time most
HasFewRows-agree tables vs time most agree few = record {
  content = content_at vs time;
  shows = λ t. CurrentAgrees-lists tables vs time t agree;
  few = few;
}

pub HasFewRows-more : (tables : TablesByPosition) (side : Side) (time few most : ℕ) → few ≤ most → HasFewRows tables side time few → HasFewRows tables side time most
HasFewRows-more tables side time few most h has = record { content = has.content; shows = has.shows; few = λ t. omega (arith, has.few t, h) }

-- an effect on a side is that on the content that the side lists
pub effect-of_few : (tables : TablesByPosition) (side : Side) (time most table : ℕ) (w : Write) (pairs : List (ℤ × Option Row)) → (has : HasFewRows tables side time most) → table ≡ table_of w
    → IsEffect pairs w (side_of (versions_at tables table) side) time → pairs ≡ effect w has.content
effect-of_few tables side time most table w pairs has on is =
    is (has.content (table_of w)) (subst (λ n. ListsRows (has.content (table_of w)) (side_of (versions_at tables n) side) time) (sym on) (has.shows (table_of w)))

-- and the effect of a write on few rows has few pairs
pub length-effect : (tables : TablesByPosition) (side : Side) (time most table : ℕ) (w : Write) (pairs : List (ℤ × Option Row)) → HasFewRows tables side time most → table ≡ table_of w
    → IsEffect pairs w (side_of (versions_at tables table) side) time → length pairs ≤ most + 1
length-effect tables side time most table w pairs has on is =
    omega (arith, has.few (table_of w), length-effect_on w (has.content (table_of w)), ap length (effect-of_few tables side time most table w pairs has on is))

module _ (time : ℕ) (w : Write) (before after : TablesByPosition) (most : ℕ) (has : HasFewRows before Current time most) (writes : WritesCurrent before after time (table_of w) (effect w has.content)) where
  shows-after_write : (t : ℕ) (key : ℤ) → row_at (content_after_write w has.content t) key ≡ current_of (versions_at after t) key time
  shows-after_write t key = by (t == table_of w) refl ∙ sym (λ i. writes t i key time)
    where
      X : Content
      X = has.content

      shown : (n : ℕ) → current_of (versions_at before n) key time ≡ row_at (X n) key
      shown n = sym ((has.shows n).finds key)

      by : (b : Bool) → (t == table_of w) ≡ b → row_at (if b then all_put (X t) (effect w X) else X t) key
          ≡ (if b then all_written_from (effect w X) time (current_of (versions_at before (table_of w))) else current_of (versions_at before t)) key time
      by true e =
          let now : nat_le time time ≡ true = grind (arith, nat_tests) in
          let here = same_table t (table_of w) e in
          sym (all_written_from-later (effect w X) time (current_of (versions_at before (table_of w))) (X t) key time now (shown (table_of w) ∙ ap (λ n. row_at (X n) key) (sym here)))
      by false e = sym (shown t)

-- a write adds one row at most to each table
pub AddsOneRowAtMost-write : (time table : ℕ) (w : Write) (before after : TablesByPosition) (pairs : List (ℤ × Option Row)) → table ≡ table_of w
    → IsEffect pairs w (current_of (versions_at before table)) time → WritesCurrent before after time table pairs → AddsOneRowAtMost time before after
AddsOneRowAtMost-write time table w before after pairs on is writes most has =
    let X = has.content in
    let rising : IsByRisingKey X = λ t. (has.shows t).sorted in
    let same = effect-of_few before Current time most table w pairs has on is in
    let written = subst (λ es. WritesCurrent before after time (table_of w) es) same (subst (λ n. WritesCurrent before after time n pairs) on writes) in
    record {
      content = content_after_write w X;
      shows = λ t. record { sorted = IsByRisingKey-after_write w X rising t; finds = shows-after_write time w before after most has written t };
      few = λ t. omega (arith, has.few t, length-after_write w X t rising);
    }
