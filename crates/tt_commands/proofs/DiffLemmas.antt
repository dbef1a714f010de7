-- The rows that differ, one table after another, and a page of them.
use Rattle.std.proofs.Common.{◌≡◌, ℕ, zero, suc, ◌+◌, ◌-◌, ◌<◌, ◌≤◌, ◌==◌, nat_lt, ℤ, int_lt, Bool, true, false, cond, List, [], ◌∷◌, ◌++◌, ◌⊎◌, length, map, take, filter, Option, None, Some, refl, sym, ap, ◌∙◌, arith, length-append, inl, inr}
use Rattle.std.proofs.lemmas.Bool.Decides.{nat_tests}
use Rattle.std.proofs.lemmas.Bool.{cases_lt}
use Rattle.std.proofs.lemmas.List.{take-append-le, take-map, length-map}
use Rattle.std.proofs.lemmas.List.Elements.{filter-append}
use Rattle.std.specs.List.{flat_map, range_with_len}
use Rattle.std.specs.Option.{option_map}
use Rattle.std.specs.Ordering.{int_cmp, is_lt}
use Rattle.tt_values.specs.declared.row_id.RowId.{RowId}
use Rattle.tt_values.specs.Action.{row_id_cmp}
use Rattle.tt_causes.specs.Differences.{RowChange}
use Rattle.tt_generations.specs.declared.row_change.FirstChanges.{FirstChanges}
use Rattle.tt_generations.specs.RowChanges.{change_told, changes_after}
use Rattle.tt_db.specs.Database.{Database}
use Rattle.tt_db.specs.Differences.{ArePage}
use Rattle.tt_answers.specs.declared.answer.DiffEntry.{DiffEntry}
use Rattle.tt_commands.specs.declared.asked_repair.AskedRepair.{AskedRepair}
use Rattle.tt_commands.specs.CauseEntries.{first_entries, more_follow}
use Rattle.tt_commands.specs.DiffEntries.{differences_by, entry_in, table_entries, is_behind, entries_behind}
use Rattle.tt_commands.specs.DiffPages.{first_table, low_key, entries_after}
use Rattle.tt_commands.proofs.CauseLemmas.{HasRoom}

-- ---- the entries of one table

filter-none : {X : Type 0} (xs : List X) → filter (λ x. false) xs ≡ []
filter-none [] = refl
filter-none (x ∷ xs) = filter-none xs

-- all changes, where no key is given
pub all-after : (cs : List RowChange) → changes_after None cs ≡ cs
all-after [] = refl
all-after (c ∷ cs) = ap (λ es. c ∷ es) (all-after cs)

filter-map : {X Y : Type 0} (p : Y → Bool) (f : X → Y) (xs : List X) → filter p (map f xs) ≡ map f (filter (λ x. p (f x)) xs)
filter-map p f [] = refl
filter-map p f (x ∷ xs) = by (p (f x)) (filter-map p f xs)
  where
    by : (b : Bool) → filter p (map f xs) ≡ map f (filter (λ x. p (f x)) xs)
        → cond b (f x ∷ filter p (map f xs)) (filter p (map f xs)) ≡ map f (cond b (x ∷ filter (λ x. p (f x)) xs) (filter (λ x. p (f x)) xs))
    by true is = ap (λ ys. f x ∷ ys) is
    by false is = is

-- a page of the entries of a table
pub page-entries : (db : Database) (repair : AskedRepair) (table : ℕ) (low : Option ℤ) (most : ℕ) (p : FirstChanges) → ArePage low most (differences_by db repair table) p
    → (map (entry_in table) (changes_after None (map change_told p.changes)) ≡ first_entries (Some most) (entries_after db repair table low))
    × (p.more ≡ more_follow (Some most) (entries_after db repair table low))
page-entries db repair table low most p is =
    let whole = changes_after low (differences_by db repair table) in (
      ap (map (entry_in table)) (all-after (map change_told p.changes) ∙ is.changes) ∙ sym (take-map (entry_in table) most whole),
      is.more ∙ ap (nat_lt most) (sym (length-map whole (entry_in table))),
    )

-- a row against one of a later table, of the same one, and of an earlier one
lt-int : (a b : ℤ) → is_lt (int_cmp a b) ≡ int_lt a b
lt-int a b = by (int_lt a b) (int_lt b a) refl refl
  where
    by : (l g : Bool) → int_lt a b ≡ l → int_lt b a ≡ g → is_lt (int_cmp a b) ≡ int_lt a b
    by true g is other = rw is refl
    by false true is other = rw (is, other) refl
    by false false is other = rw (is, other) refl

in-later : (row : RowId) (table : ℕ) (key : ℤ) → row.table < table → is_lt (row_id_cmp row (record { table = table; key = key })) ≡ true
in-later row table key later =
    let less : nat_lt row.table table ≡ true = grind (arith, nat_tests, later) in
    rw less refl

in-same : (row : RowId) (table : ℕ) (key : ℤ) → row.table ≡ table → is_lt (row_id_cmp row (record { table = table; key = key })) ≡ int_lt row.key key
in-same row table key same =
    let less : nat_lt row.table table ≡ false = grind (arith, nat_tests, same) in
    let equal : (row.table == table) ≡ true = grind (arith, nat_tests, same) in
    rw (less, equal) (lt-int row.key key)

in-earlier : (row : RowId) (table : ℕ) (key : ℤ) → table < row.table → is_lt (row_id_cmp row (record { table = table; key = key })) ≡ false
in-earlier row table key earlier =
    let less : nat_lt row.table table ≡ false = grind (arith, nat_tests, earlier) in
    let equal : (row.table == table) ≡ false = grind (arith, nat_tests, earlier) in
    rw (less, equal) refl

low-later : (row : RowId) (table : ℕ) → row.table < table → low_key (Some row) table ≡ None
low-later row table later =
    let equal : (row.table == table) ≡ false = grind (arith, nat_tests, later) in
    rw equal refl

low-same : (row : RowId) (table : ℕ) → row.table ≡ table → low_key (Some row) table ≡ Some row.key
low-same row table same =
    let equal : (row.table == table) ≡ true = grind (arith, nat_tests, same) in
    rw equal refl

-- the rows of a table that are behind a row
abbrev pub behind : Database → AskedRepair → Option RowId → ℕ → List DiffEntry
behind db repair after table = filter (is_behind after) (table_entries db repair table)

behind-filtered : (db : Database) (repair : AskedRepair) (row : RowId) (table : ℕ) (test : RowChange → Bool)
    → ((c : RowChange) → is_lt (row_id_cmp row (record { table = table; key = c.key })) ≡ test c)
    → behind db repair (Some row) table ≡ map (entry_in table) (filter test (differences_by db repair table))
behind-filtered db repair row table test is =
    filter-map (is_behind (Some row)) (entry_in table) (differences_by db repair table)
    ∙ ap (map (entry_in table)) (λ i. filter (λ c. is c i) (differences_by db repair table))

-- none of an earlier table
behind-none : (db : Database) (repair : AskedRepair) (row : RowId) (table : ℕ) → table < row.table → behind db repair (Some row) table ≡ []
behind-none db repair row table earlier =
    behind-filtered db repair row table (λ c. false) (λ c. in-earlier row table c.key earlier)
    ∙ ap (map (entry_in table)) (filter-none (differences_by db repair table))

-- of each further table those behind a key
pub behind-is : (db : Database) (repair : AskedRepair) (after : Option RowId) (table : ℕ) → first_table after ≤ table
    → behind db repair after table ≡ entries_after db repair table (low_key after table)
behind-is db repair None table first = filter-map (is_behind None) (entry_in table) (differences_by db repair table)
behind-is db repair (Some row) table first = elim (cases_lt row.table table) [
  | inl later ↦
      behind-filtered db repair row table (λ c. true) (λ c. in-later row table c.key later)
      ∙ ap (entries_after db repair table) (sym (low-later row table later))
  | inr early ↦
      let same : row.table ≡ table = omega (arith, first, early) in
      behind-filtered db repair row table (λ c. int_lt row.key c.key) (λ c. in-same row table c.key same)
      ∙ ap (entries_after db repair table) (sym (low-same row table same))
]

-- ---- one table after another

-- the rows that are behind a row, of the tables from one on
abbrev pub rest : Database → AskedRepair → Option RowId → ℕ → List DiffEntry
rest db repair after table = flat_map (behind db repair after) (range_with_len table (length db.catalog - table))

rest-next : (db : Database) (repair : AskedRepair) (after : Option RowId) (table : ℕ) → table < length db.catalog
    → rest db repair after table ≡ behind db repair after table ++ rest db repair after (table + 1)
rest-next db repair after table some =
    let more : length db.catalog - table ≡ suc (length db.catalog - (table + 1)) = omega (arith, some) in
    ap (λ n. flat_map (behind db repair after) (range_with_len table n)) more

pub rest-end : (db : Database) (repair : AskedRepair) (after : Option RowId) (table : ℕ) → length db.catalog ≤ table → rest db repair after table ≡ []
rest-end db repair after table past =
    let none : length db.catalog - table ≡ 0 = omega (arith, past) in
    ap (λ n. flat_map (behind db repair after) (range_with_len table n)) none

-- the rows of a table, and then those of the others
pub rest-more : (db : Database) (repair : AskedRepair) (after : Option RowId) (table : ℕ) → first_table after ≤ table → table < length db.catalog
    → rest db repair after table ≡ entries_after db repair table (low_key after table) ++ rest db repair after (table + 1)
rest-more db repair after table first some =
    rest-next db repair after table some ∙ ap (λ es. es ++ rest db repair after (table + 1)) (behind-is db repair after table first)

filter-flat_map : {X Y : Type 0} (p : Y → Bool) (f : X → List Y) (xs : List X) → filter p (flat_map f xs) ≡ flat_map (λ x. filter p (f x)) xs
filter-flat_map p f [] = refl
filter-flat_map p f (x ∷ xs) = filter-append p (f x) (flat_map f xs) ∙ ap (λ ys. filter p (f x) ++ ys) (filter-flat_map p f xs)

-- the tables before the first one have none
skip : (db : Database) (repair : AskedRepair) (row : RowId) (table : ℕ) → table ≤ row.table → rest db repair (Some row) 0 ≡ rest db repair (Some row) table
skip db repair row zero few = refl
skip db repair row (suc table) few = skip db repair row table (omega (arith, few)) ∙ one (cases_lt table (length db.catalog))
  where
    one : (table < length db.catalog) ⊎ (length db.catalog ≤ table) → rest db repair (Some row) table ≡ rest db repair (Some row) (suc table)
    one (inl some) =
        let next : table + 1 ≡ suc table = omega arith in
        rest-next db repair (Some row) table some
        ∙ ap (λ es. es ++ rest db repair (Some row) (table + 1)) (behind-none db repair row table (omega (arith, few)))
        ∙ ap (rest db repair (Some row)) next
    one (inr past) = rest-end db repair (Some row) table past ∙ sym (rest-end db repair (Some row) (suc table) (omega (arith, past)))

pub rest-whole : (db : Database) (repair : AskedRepair) (after : Option RowId) → rest db repair after (first_table after) ≡ entries_behind db repair after
rest-whole db repair after = sym (whole ∙ from after)
  where
    whole : entries_behind db repair after ≡ rest db repair after 0
    whole =
        let all : length db.catalog ≡ length db.catalog - 0 = omega arith in
        filter-flat_map (is_behind after) (table_entries db repair) (range_with_len 0 (length db.catalog))
        ∙ ap (λ n. flat_map (behind db repair after) (range_with_len 0 n)) all

    from : (after : Option RowId) → rest db repair after 0 ≡ rest db repair after (first_table after)
    from None = refl
    from (Some row) = skip db repair row row.table (omega arith)

-- ---- a page

take-behind : {X : Type 0} (xs ys : List X) (n : ℕ) → take (length xs + n) (xs ++ ys) ≡ xs ++ take n ys
take-behind [] ys n = let e : 0 + n ≡ n = omega arith in ap (λ k. take k ys) e
take-behind (x ∷ xs) ys n =
    let e : suc (length xs) + n ≡ suc (length xs + n) = omega arith in
    ap (λ k. take k (x ∷ (xs ++ ys))) e ∙ ap (λ l. x ∷ l) (take-behind xs ys n)

-- more follow in a table than a page has room for
pub page-ends : {X : Type 0} (most : Option ℕ) (entries table others whole : List X) → HasRoom most (length entries)
    → true ≡ more_follow (option_map (λ m. m - length entries) most) table → entries ++ (table ++ others) ≡ whole
    → (entries ++ first_entries (option_map (λ m. m - length entries) most) table ≡ first_entries most whole) × (true ≡ more_follow most whole)
page-ends None entries table others whole room more is = cc
page-ends (Some most) entries table others whole room more is =
    let left : ℕ = most - length entries in
    let longer : left < length table = grind (arith, nat_tests, more) in
    let count : length entries + left ≡ most = omega (arith, room) in
    let long : most < length whole = omega (arith, room, longer, ap length (sym is), length-append entries (table ++ others), length-append table others) in
    let follow : nat_lt most (length whole) ≡ true = grind (arith, nat_tests, long) in (
      ap (λ es. entries ++ es) (sym (take-append-le left table others (omega (arith, longer)))) ∙ sym (take-behind entries (table ++ others) left) ∙ (λ i. take (count i) (is i)),
      sym follow,
    )

-- all of a table fits
pub page-goes-on : {X : Type 0} (most : Option ℕ) (entries table : List X) → HasRoom most (length entries)
    → false ≡ more_follow (option_map (λ m. m - length entries) most) table
    → (first_entries (option_map (λ m. m - length entries) most) table ≡ table) × HasRoom most (length (entries ++ table))
page-goes-on None entries table room more = (refl, tt)
page-goes-on (Some most) entries table room more =
    let left : ℕ = most - length entries in
    let few : length table ≤ left = grind (arith, nat_tests, more) in
    (take-few left table few, omega (arith, few, room, length-append entries table))
  where
    take-few : {X : Type 0} (n : ℕ) (xs : List X) → length xs ≤ n → take n xs ≡ xs
    take-few zero [] few = refl
    take-few (suc n) [] few = refl
    take-few zero (x ∷ xs) few = absurd (omega (arith, few))
    take-few (suc n) (x ∷ xs) few = ap (λ ys. x ∷ ys) (take-few n xs (omega (arith, few)))

-- behind no row all are left
pub all-behind : (es : List DiffEntry) → filter (is_behind None) es ≡ es
all-behind [] = refl
all-behind (e ∷ es) = ap (λ rest. e ∷ rest) (all-behind es)
