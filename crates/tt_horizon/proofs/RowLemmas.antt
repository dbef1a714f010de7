-- Each row of a content of accepted slots could be inserted again: it passes the check of an insert into its table.
use Rattle.std.proofs.Common.{◌≡◌, ℕ, zero, suc, ◌+◌, ◌≤◌, ℤ, Bool, true, false, cond, not, ◌==◌, nat_lt, nat_le, List, [], ◌∷◌, map, filter, length, fold, slice_get, Option, None, Some, is_some, Less, Equal, Greater, if◌then◌else◌, refl, sym, ap, subst, ◌∙◌, arith}
use Rattle.std.proofs.lemmas.Bool.{or_parts, or_from, not-false, not_from_true}
use Rattle.std.proofs.lemmas.Bool.Decides.{nat_tests}
use Rattle.std.proofs.lemmas.Option.{slice_get_past}
use Rattle.std.specs.declared.cmp.Ordering.{Ordering}
use Rattle.std.specs.Ordering.{int_cmp, int_eq}
use Rattle.std.specs.List.{list_any, zip}
use Rattle.std.specs.Option.{option_map, option_or}
use Rattle.std.specs.FinMap.Entries as sorted
use Rattle.std.specs.FinMap.Entries.{by_order}
use Rattle.tt_values.specs.declared.value.Kind.{Kind}
use Rattle.tt_values.specs.declared.value.Kind.TheVariants as kinds
use Rattle.tt_values.specs.declared.value.Value.{Value}
use Rattle.tt_values.specs.declared.value.Value.TheVariants as values
use Rattle.tt_values.specs.declared.row.Row.{Row}
use Rattle.tt_values.specs.declared.table.Column.{Column}
use Rattle.tt_values.specs.declared.statement.Change.{Change}
use Rattle.tt_values.specs.declared.statement.Change.TheVariants as changes
use Rattle.tt_values.specs.declared.statement.Equal.{Equal as Condition}
use Rattle.tt_values.specs.declared.statement.Write.{Write}
use Rattle.tt_values.specs.declared.action.Action.{Action}
use Rattle.tt_values.specs.declared.statement.Write.TheVariants.{Insert, Update, Delete}
use Rattle.tt_values.specs.declared.checking.CheckError.{CheckError}
use Rattle.tt_values.specs.declared.checking.CheckError.TheVariants as faults
use Rattle.tt_values.specs.Limits.{max_writes}
use Rattle.tt_values.specs.Value.{is_of_kind, is_long_text}
use Rattle.tt_values.specs.Row.{key_of}
use Rattle.tt_values.specs.Faults.{first_fault}
use Rattle.tt_values.specs.Tables.{Tables, columns_at}
use Rattle.tt_values.specs.Change.{column_of, value_plus, value_after, changed_value, changed_values, changed}
use Rattle.tt_values.specs.Check.{is_wrong_change, changes_wrong_kind, has_wrong_kind, is_long_change, sets_long_text, has_long_text, row_tests, update_tests, fault_on, write_fault, first_write_fault, action_fault}
use Rattle.tt_values.specs.Matches.{matches}
use Rattle.tt_values.specs.Content.{RowsByKey, Content, row_at, with_row_at, with_row_write, content_at}
use Rattle.tt_values.specs.Effect.{table_of, matching_rows, effect_on, effect}
use Rattle.tt_values.specs.Action.{with_rows_at, content_after_write, content_after_writes, is_undone, content_after_action}
use Rattle.tt_values.specs.ActionLaws.{IsByRisingKey}
use Rattle.tt_values.specs.RowWrites.{Slots, row_writes, slot_writes, slot_after, content_of}
use Rattle.tt_values.proofs.LawProofs.{rows_rise, next_content, past_stays, last_content_stays, action_leaves_its_last_content}
use Rattle.tt_generations.specs.KeptSlots.{IsAccepted}
use Rattle.tt_horizon.proofs.AcceptedLemmas.{AllAccepted, slot_after-AllAccepted}

-- ---- tests without a fault

-- every test is false
abbrev NoneHolds : {E : Type 0} → List (Bool × E) → Type 0
NoneHolds [] = Unit {0}
NoneHolds (test ∷ tests) = (test.0 ≡ false) × NoneHolds tests

none_holds : {E : Type 0} → (tests : List (Bool × E)) → first_fault tests ≡ None → NoneHolds tests
none_holds [] h = tt
none_holds (test ∷ tests) h = by test.0 refl h (none_holds tests)
  where
    by : (b : Bool) → test.0 ≡ b → first_fault ((b, test.1) ∷ tests) ≡ None → (first_fault tests ≡ None → NoneHolds tests) → (test.0 ≡ false) × NoneHolds tests
    by true e g rest = cc
    by false e g rest = (e, rest g)

no_fault : {E : Type 0} → (tests : List (Bool × E)) → NoneHolds tests → first_fault tests ≡ None
no_fault [] h = refl
no_fault (test ∷ tests) h = ap (λ b. if b then Some test.1 else first_fault tests) h.0 ∙ no_fault tests h.1

-- ---- a row after an update without a fault

-- whether a value is of another kind than its column
abbrev is_misplaced : Column × Value → Bool
is_misplaced p = not (is_of_kind p.0.kind p.1)

kind-plus : (kind : Kind) (v : Value) (by : ℤ) → is_of_kind kind v ≡ true → is_of_kind kind (value_plus v by) ≡ true
kind-plus kinds.Int (values.Int n) by h = refl
kind-plus kinds.Int (values.Text t) by h = h
kind-plus kinds.Text (values.Int n) by h = h
kind-plus kinds.Text (values.Text t) by h = h

kind-after : (column : Column) (d : Change) (v : Value) → is_wrong_change (Some column) d ≡ false → is_of_kind column.kind v ≡ true → is_of_kind column.kind (value_after d v) ≡ true
kind-after column (changes.Set k value) v right h = not-false (is_of_kind column.kind value) right
kind-after column (changes.Add k by) v right h = kind-plus column.kind v by h

kind-changed : (cs : List Change) (all : List Column) (k : ℕ) (column : Column) (v : Value) → slice_get all k ≡ Some column → changes_wrong_kind all cs ≡ false
    → is_of_kind column.kind v ≡ true → is_of_kind column.kind (changed_value cs k v) ≡ true
kind-changed [] all k column v at right h = h
kind-changed (d ∷ cs) all k column v at right h =
    let parts = or_parts (is_wrong_change (slice_get all (column_of d)) d) (changes_wrong_kind all cs) right in
    by (column_of d == k) refl parts.0 (kind-changed cs all k column v at parts.1 h)
  where
    by : (b : Bool) → (column_of d == k) ≡ b → is_wrong_change (slice_get all (column_of d)) d ≡ false → is_of_kind column.kind (changed_value cs k v) ≡ true
        → is_of_kind column.kind (if b then value_after d v else changed_value cs k v) ≡ true
    by true is right' rest =
        let same : column_of d ≡ k = grind (arith, nat_tests) in
        let there : slice_get all (column_of d) ≡ Some column = ap (slice_get all) same ∙ at in
        kind-after column d v (ap (λ o. is_wrong_change o d) (sym there) ∙ right') h
    by false is right' rest = rest

kinds-changed : (cs : List Change) (all : List Column) (k : ℕ) (columns : List Column) (vs : List Value) → ((j : ℕ) → slice_get columns j ≡ slice_get all (k + j))
    → changes_wrong_kind all cs ≡ false → list_any is_misplaced (zip columns vs) ≡ false → list_any is_misplaced (zip columns (changed_values cs k vs)) ≡ false
kinds-changed cs all k [] vs at right h = refl
kinds-changed cs all k (column ∷ columns) [] at right h = refl
kinds-changed cs all k (column ∷ columns) (v ∷ vs) at right h =
    let parts = or_parts (not (is_of_kind column.kind v)) (list_any is_misplaced (zip columns vs)) h in
    let here : k + 0 ≡ k = omega arith in
    let first : slice_get all k ≡ Some column = ap (slice_get all) (sym here) ∙ sym (at 0) in
    let later : (j : ℕ) → slice_get columns j ≡ slice_get all (suc k + j) = λ j. at (suc j) ∙ ap (slice_get all) (shift k j) in
    or_from (not (is_of_kind column.kind (changed_value cs k v))) (list_any is_misplaced (zip columns (changed_values cs (suc k) vs)))
    (not_from_true (is_of_kind column.kind (changed_value cs k v)) (kind-changed cs all k column v first right (not-false (is_of_kind column.kind v) parts.0)))
    (kinds-changed cs all (suc k) columns vs later right parts.1)
  where
    shift : (k j : ℕ) → k + suc j ≡ suc k + j
    shift k j = omega arith

length-changed : (cs : List Change) (k : ℕ) (vs : List Value) → length (changed_values cs k vs) ≡ length vs
length-changed cs k [] = refl
length-changed cs k (v ∷ vs) = ap (λ n. suc n) (length-changed cs (suc k) vs)

long-plus : (v : Value) (by : ℤ) → is_long_text v ≡ false → is_long_text (value_plus v by) ≡ false
long-plus (values.Int n) by h = refl
long-plus (values.Text t) by h = h

long-after : (d : Change) (v : Value) → is_long_change d ≡ false → is_long_text v ≡ false → is_long_text (value_after d v) ≡ false
long-after (changes.Set k value) v short h = short
long-after (changes.Add k by) v short h = long-plus v by h

long-changed : (cs : List Change) (k : ℕ) (v : Value) → sets_long_text cs ≡ false → is_long_text v ≡ false → is_long_text (changed_value cs k v) ≡ false
long-changed [] k v short h = h
long-changed (d ∷ cs) k v short h =
    let parts = or_parts (is_long_change d) (sets_long_text cs) short in
    by (column_of d == k) parts.0 (long-changed cs k v parts.1 h)
  where
    by : (b : Bool) → is_long_change d ≡ false → is_long_text (changed_value cs k v) ≡ false → is_long_text (if b then value_after d v else changed_value cs k v) ≡ false
    by true first rest = long-after d v first h
    by false first rest = rest

longs-changed : (cs : List Change) (k : ℕ) (vs : List Value) → sets_long_text cs ≡ false → list_any is_long_text vs ≡ false → list_any is_long_text (changed_values cs k vs) ≡ false
longs-changed cs k [] short h = refl
longs-changed cs k (v ∷ vs) short h =
    let parts = or_parts (is_long_text v) (list_any is_long_text vs) h in
    or_from (is_long_text (changed_value cs k v)) (list_any is_long_text (changed_values cs (suc k) vs)) (long-changed cs k v short parts.0) (longs-changed cs (suc k) vs short parts.1)

-- a row that passes the check still passes it after an update without a fault
passes-changed : (columns : List Column) (cs : List Change) (qs : List Condition) (row : Row) → first_fault (update_tests columns cs qs) ≡ None → first_fault (row_tests columns row.values) ≡ None
    → first_fault (row_tests columns (changed row cs).values) ≡ None
passes-changed columns cs qs row update row_passes =
    let u = none_holds (update_tests columns cs qs) update in
    let r = none_holds (row_tests columns row.values) row_passes in
    let right = (or_parts (changes_wrong_kind columns cs) (has_wrong_kind columns qs) u.1.0).0 in
    let short = (or_parts (sets_long_text cs) (has_long_text qs) u.1.1.0).0 in
    let width = ap (λ n. not (n == length columns)) (length-changed cs 0 row.values) ∙ r.1.0 in
    no_fault (row_tests columns (changed row cs).values)
    (kinds-changed cs columns 0 columns row.values (λ j. ap (slice_get columns) (here j)) right r.0, (width, (longs-changed cs 0 row.values short r.1.1.0, tt)))
  where
    here : (j : ℕ) → j ≡ 0 + j
    here j = omega arith

passes-update : (tables : Tables) (table : ℕ) (cs : List Change) (qs : List Condition) (row : Row) → write_fault tables (Update table cs qs) ≡ None → write_fault tables (Insert table row) ≡ None
    → write_fault tables (Insert table (changed row cs)) ≡ None
passes-update tables table cs qs row update insert = by (columns_at tables table) update insert
  where
    by : (o : Option (List Column)) → fault_on o (λ columns. update_tests columns cs qs) ≡ None → fault_on o (λ columns. row_tests columns row.values) ≡ None
        → fault_on o (λ columns. row_tests columns (changed row cs).values) ≡ None
    by None u r = u
    by (Some columns) u r = passes-changed columns cs qs row u r

-- ---- the rows of a table, each of which passes the check

abbrev pub AllPass : Tables → ℕ → RowsByKey → Type 0
AllPass tables table [] = Unit {0}
AllPass tables table (e ∷ es) = (write_fault tables (Insert table e.1) ≡ None) × AllPass tables table es

-- where a row is, it passes
abbrev Passes : Tables → ℕ → Option Row → Type 0
Passes tables table None = Unit {0}
Passes tables table (Some row) = write_fault tables (Insert table row) ≡ None

abbrev AllPairsPass : Tables → ℕ → List (ℤ × Option Row) → Type 0
AllPairsPass tables table [] = Unit {0}
AllPairsPass tables table (e ∷ es) = Passes tables table e.1 × AllPairsPass tables table es

AllPass-put : (tables : Tables) (table : ℕ) (es : RowsByKey) (key : ℤ) (row : Row) → AllPass tables table es → write_fault tables (Insert table row) ≡ None
    → AllPass tables table (sorted.put int_cmp key row es)
AllPass-put tables table [] key row h k = (k, tt)
AllPass-put tables table (e ∷ es) key row h k = by (int_cmp key e.0) (AllPass-put tables table es key row h.1 k)
  where
    by : (o : Ordering) → AllPass tables table (sorted.put int_cmp key row es) → AllPass tables table (by_order o ((key, row) ∷ e ∷ es) ((e.0, row) ∷ es) (e ∷ sorted.put int_cmp key row es))
    by Less rest = (k, h)
    by Equal rest = (k, h.1)
    by Greater rest = (h.0, rest)

AllPass-filter : (tables : Tables) (table : ℕ) (p : ℤ × Row → Bool) (es : RowsByKey) → AllPass tables table es → AllPass tables table (filter p es)
AllPass-filter tables table p [] h = tt
AllPass-filter tables table p (e ∷ es) h = by (p e) (AllPass-filter tables table p es h.1)
  where
    by : (b : Bool) → AllPass tables table (filter p es) → AllPass tables table (cond b (e ∷ filter p es) (filter p es))
    by true rest = (h.0, rest)
    by false rest = rest

AllPass-with_row_at : (tables : Tables) (table : ℕ) (rows : RowsByKey) (key : ℤ) (row : Option Row) → AllPass tables table rows → Passes tables table row
    → AllPass tables table (with_row_at rows key row)
AllPass-with_row_at tables table rows key None h k = AllPass-filter tables table (λ e. not (int_eq e.0 key)) rows h
AllPass-with_row_at tables table rows key (Some row) h k = AllPass-put tables table rows key row h k

AllPass-fold : (tables : Tables) (table : ℕ) (pairs : List (ℤ × Option Row)) (rows : RowsByKey) → AllPass tables table rows → AllPairsPass tables table pairs
    → AllPass tables table (fold (λ rs e. with_row_at rs e.0 e.1) rows pairs)
AllPass-fold tables table [] rows h k = h
AllPass-fold tables table (e ∷ es) rows h k = AllPass-fold tables table es (with_row_at rows e.0 e.1) (AllPass-with_row_at tables table rows e.0 e.1 h k.0) k.1

-- ---- contents whose rows pass

abbrev pub IsPassing : Tables → Content → Type 0
IsPassing tables X = (table : ℕ) → AllPass tables table (X table)

IsPassing-with_rows_at : (tables : Tables) (table : ℕ) (pairs : List (ℤ × Option Row)) (X : Content) → IsPassing tables X → AllPairsPass tables table pairs
    → IsPassing tables (with_rows_at table pairs X)
IsPassing-with_rows_at tables table pairs X h k t = by (t == table) refl
  where
    by : (b : Bool) → (t == table) ≡ b → AllPass tables t (if b then fold (λ rs e. with_row_at rs e.0 e.1) (X t) pairs else X t)
    by true is =
        let same : table ≡ t = grind (arith, nat_tests) in
        AllPass-fold tables t pairs (X t) (h t) (subst (λ u. AllPairsPass tables u pairs) same k)
    by false is = h t

AllPairsPass-update : (tables : Tables) (table : ℕ) (cs : List Change) (qs : List Condition) → write_fault tables (Update table cs qs) ≡ None
    → (es : RowsByKey) → AllPass tables table es → AllPairsPass tables table (map (λ e. (e.0, Some (changed e.1 cs))) es)
AllPairsPass-update tables table cs qs none [] h = tt
AllPairsPass-update tables table cs qs none (e ∷ es) h = (passes-update tables table cs qs e.1 none h.0, AllPairsPass-update tables table cs qs none es h.1)

AllPairsPass-delete : (tables : Tables) (table : ℕ) (es : RowsByKey) → AllPairsPass tables table (map (λ e. (e.0, None)) es)
AllPairsPass-delete tables table [] = tt
AllPairsPass-delete tables table (e ∷ es) = (tt, AllPairsPass-delete tables table es)

-- a write without a fault writes rows that pass
AllPairsPass-effect_on : (tables : Tables) (w : Write) (rows : RowsByKey) → write_fault tables w ≡ None → AllPass tables (table_of w) rows → AllPairsPass tables (table_of w) (effect_on w rows)
AllPairsPass-effect_on tables (Insert table row) rows none h = by (is_some (row_at rows (key_of row)))
  where
    by : (b : Bool) → AllPairsPass tables table (if b then [] else (key_of row, Some row) ∷ [])
    by true = tt
    by false = (none, tt)
AllPairsPass-effect_on tables (Update table cs qs) rows none h =
    AllPairsPass-update tables table cs qs none (matching_rows qs rows) (AllPass-filter tables table (λ e. matches qs e.1) rows h)
AllPairsPass-effect_on tables (Delete table qs) rows none h = AllPairsPass-delete tables table (matching_rows qs rows)

IsPassing-after_write : (tables : Tables) (w : Write) (X : Content) → write_fault tables w ≡ None → IsPassing tables X → IsPassing tables (content_after_write w X)
IsPassing-after_write tables w X none h =
    IsPassing-with_rows_at tables (table_of w) (effect w X) X h (AllPairsPass-effect_on tables w (X (table_of w)) none (h (table_of w)))

-- the writes of an action have no faults
abbrev pub HaveNoFaults : Tables → List Write → Type 0
HaveNoFaults tables [] = Unit {0}
HaveNoFaults tables (w ∷ ws) = (write_fault tables w ≡ None) × HaveNoFaults tables ws

HaveNoFaults-first : (tables : Tables) (ws : List Write) → first_write_fault tables ws ≡ None → HaveNoFaults tables ws
HaveNoFaults-first tables [] none = tt
HaveNoFaults-first tables (w ∷ ws) none = by (write_fault tables w) none (HaveNoFaults-first tables ws)
  where
    by : (fault : Option CheckError) → option_or fault (first_write_fault tables ws) ≡ None → (first_write_fault tables ws ≡ None → HaveNoFaults tables ws) → (fault ≡ None) × HaveNoFaults tables ws
    by None h rest = (refl, rest h)
    by (Some e) h rest = cc

HaveNoFaults-action : (tables : Tables) (ws : List Write) → action_fault tables ws ≡ None → HaveNoFaults tables ws
HaveNoFaults-action tables ws none = by (nat_lt max_writes (length ws)) none
  where
    by : (b : Bool) → (if b then Some faults.TooManyWrites else first_write_fault tables ws) ≡ None → HaveNoFaults tables ws
    by true h = cc
    by false h = HaveNoFaults-first tables ws h

IsPassing-after_writes : (tables : Tables) (ws : List Write) (X : Content) → HaveNoFaults tables ws → IsPassing tables X → IsPassing tables (content_after_writes ws X)
IsPassing-after_writes tables [] X none h = h
IsPassing-after_writes tables (w ∷ ws) X none h = IsPassing-after_writes tables ws (content_after_write w X) none.1 (IsPassing-after_write tables w X none.0 h)

IsPassing-after_action : (tables : Tables) (action : Action) (X : Content) → HaveNoFaults tables action.writes → IsPassing tables X → IsPassing tables (content_after_action action X)
IsPassing-after_action tables action X none h = by (is_undone action X)
  where
    by : (b : Bool) → IsPassing tables (content_after_writes (if b then [] else action.writes) X)
    by true = h
    by false = IsPassing-after_writes tables action.writes X none h

IsPassing-slot : (tables : Tables) (s : Option Action) (time : ℕ) (X : Content) → IsAccepted tables s → IsByRisingKey X → IsPassing tables X
    → IsPassing tables (fold with_row_write X (slot_writes time s X))
IsPassing-slot tables None time X a rising h = h
IsPassing-slot tables (Some action) time X a rising h =
    subst (IsPassing tables) (sym (action_leaves_its_last_content time action X rising)) (IsPassing-after_action tables action X (HaveNoFaults-action tables action.writes a) h)

IsPassing-slots : (tables : Tables) (W : Slots) (n : ℕ) → AllAccepted tables W → IsPassing tables (content_at (row_writes W n) n)
unfolding row_writes
IsPassing-slots tables W zero h = λ t. tt
IsPassing-slots tables W (suc n) h =
    let X = content_at (row_writes W n) n in
    subst (IsPassing tables) (sym (next_content W n))
    (IsPassing-slot tables (slot_after W n) (suc n) X (slot_after-AllAccepted tables W n h) (rows_rise (row_writes W n) n) (IsPassing-slots tables W n h))

pub IsPassing-content_of : (tables : Tables) (W : Slots) (time : ℕ) → AllAccepted tables W → IsPassing tables (content_of W time)
IsPassing-content_of tables W time h = by (nat_le time (length W)) refl
  where
    by : (b : Bool) → nat_le time (length W) ≡ b → IsPassing tables (content_of W time)
    by true e =
        let past : time ≤ length W = grind (arith, nat_tests) in
        subst (IsPassing tables) (sym (past_stays W time (length W) time (omega arith) past)) (IsPassing-slots tables W time h)
    by false e =
        let later : length W ≤ time = grind (arith, nat_tests) in
        subst (IsPassing tables) (sym (last_content_stays W (length W) time later)) (IsPassing-slots tables W (length W) h)

-- there are none past the last table
pub AllPass-past : (tables : Tables) (table : ℕ) (es : RowsByKey) → length tables ≤ table → AllPass tables table es → es ≡ []
AllPass-past tables table [] past h = refl
AllPass-past tables table (e ∷ es) past h =
    let none : slice_get tables table ≡ None = slice_get_past tables table past in
    let clash : Some faults.NoTable ≡ None = ap (λ o. fault_on (option_map (λ t. t.1.columns) o) (λ columns. row_tests columns e.1.values)) (sym none) ∙ h.0 in
    cc
