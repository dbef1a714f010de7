-- What a repair needs to know of the next slot's action, and what is dirty once it is re-executed.
use Rattle.std.proofs.Common.{◌≡◌, ℕ, zero, suc, ◌+◌, ◌-◌, ◌<◌, ◌≤◌, ℤ, Bool, true, false, ◌&&◌, nat_le, nat_lt, ◌==◌, List, [], ◌∷◌, ◌++◌, map, fold, length, get_or, drop, slice_get, slice_set, Option, Some, None, if◌then◌else◌, refl, sym, ap, subst, ◌∙◌, arith, drop-cons, append_assoc}
use Rattle.std.specs.List.{All, list_any}
use Rattle.std.specs.Option.{option_map, option_or}
use Rattle.std.specs.Ordering.{int_eq}
use Rattle.std.proofs.lemmas.Bool.{or_left, or_right}
use Rattle.std.proofs.lemmas.Bool.Decides.{nat_tests, Decides-int_eq}
use Rattle.std.proofs.lemmas.Option.{slice_get_within}
use Rattle.std.proofs.lemmas.List.Folds.{list_any-append}
use Rattle.std.proofs.lemmas.List.Sums.{fold-append}
use Rattle.std.proofs.lemmas.List.Elements.{All-nil, All-cons, All-head, All-tail, All-append}
use Rattle.tt_values.specs.declared.row.Row.{Row}
use Rattle.tt_values.specs.declared.statement.Write.{Write}
use Rattle.tt_values.specs.declared.action.Action.{Action}
use Rattle.tt_values.specs.declared.statement.Write.TheVariants.{Insert, Update, Delete}
use Rattle.tt_values.specs.declared.table.Column.{Column}
use Rattle.tt_values.specs.declared.table.TableDef.{TableDef}
use Rattle.tt_values.specs.declared.checking.CheckError.{CheckError}
use Rattle.tt_values.specs.declared.checking.CheckError.TheVariants as errors
use Rattle.tt_values.specs.Row.{key_of}
use Rattle.tt_values.specs.Limits.{max_writes}
use Rattle.tt_values.specs.Tables.{Tables, IsCatalog, columns_at}
use Rattle.tt_values.specs.Check.{HasKey, fault_on, write_fault, first_write_fault, action_fault}
use Rattle.tt_values.specs.Content.{RowsByKey, Content, row_at}
use Rattle.tt_values.specs.Effect.{matching_rows}
use Rattle.tt_values.specs.Action.{content_after_write, content_after_action, replies_of, rows_touched, has_no_effect, up_to_no_effect, tried}
use Rattle.tt_values.specs.RowWrites.{slot_replies}
use Rattle.tt_values.proofs.LawProofs.{accepted_actions_have_keys}
use Rattle.tt_versions.specs.declared.side.Side.TheVariants.{Next}
use Rattle.tt_versions.specs.Sides.{LineagesByKey, side_of, next_of, just_before}
use Rattle.tt_parts.specs.declared.partition.Partition.{Partition}
use Rattle.tt_parts.specs.Partitions.{key_partition, is_same_partition}
use Rattle.tt_parts.specs.Dirty.{DirtySet, DirtyTables, SameMembers, columns_in, is_row_in, parts_if, with_row, with_row_in}
use Rattle.tt_parts.proofs.LawProofs.{same_members_with_row}
use Rattle.tt_causes.specs.Numbers.{GotDirtyAt}
use Rattle.tt_repair_laws.specs.Due.{rows_matched, rows_matched_by, slot_rows_matched, with_row_of, slot_rows_touched}
use Rattle.tt_values.specs.declared.row_id.RowId.{RowId}
use Rattle.tt_generations.specs.declared.slot.KeptSlot.{KeptSlot}
use Rattle.tt_generations.specs.declared.repair.Repair.{Repair}
use Rattle.tt_generations.specs.Rows.{TablesByPosition, versions_at}
use Rattle.tt_generations.specs.KeptSlots.{IsAccepted}
use Rattle.tt_generations.specs.Replies.{replies_if}
use Rattle.tt_generations.specs.Reexecution.{ReexecutionOnRows, ShowsContentBefore, AreReexecuted, Reexecutes, ShowsFewBefore}
use Rattle.tt_generations.specs.Repair.{next_action, as_action, MayRepeat, with_rows_shown, ReexecutesSlot}

itself : (n : ℕ) → (n == n) ≡ true
itself n = grind (arith, nat_tests)

-- ---- the action of a slot, and the one of no writes where it is cancelled

replies-of_action : (action : Option Action) (X : Content) → replies_if action (replies_of (as_action action) X) ≡ slot_replies action X
replies-of_action None X = refl
replies-of_action (Some action) X = refl

touched-of_action : (action : Option Action) (X : Content) → rows_touched (as_action action) X ≡ slot_rows_touched action X
touched-of_action None X = refl
touched-of_action (Some action) X = refl

matched-of_action : (action : Option Action) (X : Content) → rows_matched_by (tried (as_action action) X) X ≡ slot_rows_matched action X
matched-of_action None X = refl
matched-of_action (Some action) X = refl

-- ---- an action without a fault

-- whose writes are few
pub first_fault-accepted : (tables : Tables) (ws : List Write) → action_fault tables ws ≡ None → (length ws ≤ max_writes) × (first_write_fault tables ws ≡ None)
first_fault-accepted tables ws h = by (nat_lt max_writes (length ws)) refl h
  where
    by : (b : Bool) → nat_lt max_writes (length ws) ≡ b → (if b then Some errors.TooManyWrites else first_write_fault tables ws) ≡ None
        → (length ws ≤ max_writes) × (first_write_fault tables ws ≡ None)
    by true many g = cc
    by false few g = (grind (arith, nat_tests), g)

pub few_writes-accepted : (tables : Tables) (action : Option Action) → IsAccepted tables action → length (as_action action).writes ≤ max_writes
few_writes-accepted tables None h = omega arith
few_writes-accepted tables (Some action) h = (first_fault-accepted tables action.writes h).0

-- each of whose inserts has a key
pub keyed-accepted : (tables : Tables) (action : Option Action) → IsCatalog tables → IsAccepted tables action → All HasKey (as_action action).writes
keyed-accepted tables None catalog h = All-nil HasKey
keyed-accepted tables (Some action) catalog h = accepted_actions_have_keys tables action.writes catalog h

-- and whose tables are there
abbrev IsInTables : Tables → RowId → Type 0
IsInTables tables r = r.table < length tables

pub table-faultless : (tables : Tables) (table : ℕ) (tests : List Column → List (Bool × CheckError)) → fault_on (columns_at tables table) tests ≡ None → table < length tables
table-faultless tables table tests h = by (slice_get tables table) refl h
  where
    by : (o : Option (List ℕ × TableDef)) → slice_get tables table ≡ o → fault_on (option_map (λ t. t.1.columns) o) tests ≡ None → table < length tables
    by None at g = cc
    by (Some t) at g = slice_get_within tables table t at

tables-of_rows : (tables : Tables) (table : ℕ) (rows : RowsByKey) → table < length tables → All (IsInTables tables) (map (λ e. record { table = table; key = e.0 }) rows)
tables-of_rows tables table [] h = All-nil (IsInTables tables)
tables-of_rows tables table (e ∷ es) h = All-cons (IsInTables tables) (record { table = table; key = e.0 }) _ h (tables-of_rows tables table es h)

tables-matched : (tables : Tables) (w : Write) (X : Content) → write_fault tables w ≡ None → All (IsInTables tables) (rows_matched w X)
tables-matched tables (Insert table row) X h =
    All-cons (IsInTables tables) (record { table = table; key = key_of row }) [] (table-faultless tables table _ h) (All-nil (IsInTables tables))
tables-matched tables (Update table changes equals) X h = tables-of_rows tables table (matching_rows equals (X table)) (table-faultless tables table _ h)
tables-matched tables (Delete table equals) X h = tables-of_rows tables table (matching_rows equals (X table)) (table-faultless tables table _ h)

tables-all_matched : (tables : Tables) (ws : List Write) (X : Content) → first_write_fault tables ws ≡ None → All (IsInTables tables) (rows_matched_by ws X)
tables-all_matched tables [] X h = All-nil (IsInTables tables)
tables-all_matched tables (w ∷ ws) X h = by (write_fault tables w) refl h (tables-all_matched tables ws (content_after_write w X))
  where
    by : (o : Option CheckError) → write_fault tables w ≡ o → option_or o (first_write_fault tables ws) ≡ None
        → (first_write_fault tables ws ≡ None → All (IsInTables tables) (rows_matched_by ws (content_after_write w X)))
        → All (IsInTables tables) (rows_matched_by (w ∷ ws) X)
    by None at g rest = All-append (IsInTables tables) (rows_matched w X) _ (tables-matched tables w X at) (rest g)
    by (Some e) at g rest = cc

-- so are the tables of the rows that its writes match as far as they are carried out
first_faults-none : (tables : Tables) (w : Write) (ws : List Write) → first_write_fault tables (w ∷ ws) ≡ None → (write_fault tables w ≡ None) × (first_write_fault tables ws ≡ None)
first_faults-none tables w ws h = by (write_fault tables w) refl h
  where
    by : (o : Option CheckError) → write_fault tables w ≡ o → option_or o (first_write_fault tables ws) ≡ None → (write_fault tables w ≡ None) × (first_write_fault tables ws ≡ None)
    by None at g = (at, g)
    by (Some e) at g = cc

first_fault-up_to : (tables : Tables) (ws : List Write) (X : Content) → first_write_fault tables ws ≡ None → first_write_fault tables (up_to_no_effect ws X) ≡ None
first_fault-up_to tables [] X h = refl
first_fault-up_to tables (w ∷ ws) X h =
    let both = first_faults-none tables w ws h in
    ap (λ o. option_or o (first_write_fault tables (if has_no_effect w X then [] else up_to_no_effect ws (content_after_write w X)))) both.0
    ∙ by (has_no_effect w X) (first_fault-up_to tables ws (content_after_write w X) both.1)
  where
    by : (b : Bool) → first_write_fault tables (up_to_no_effect ws (content_after_write w X)) ≡ None → first_write_fault tables (if b then [] else up_to_no_effect ws (content_after_write w X)) ≡ None
    by true rest = refl
    by false rest = rest

pub first_fault-tried : (tables : Tables) (a : Action) (X : Content) → first_write_fault tables a.writes ≡ None → first_write_fault tables (tried a X) ≡ None
first_fault-tried tables a X h = by a.whole
  where
    by : (b : Bool) → first_write_fault tables (if b then up_to_no_effect a.writes X else a.writes) ≡ None
    by true = first_fault-up_to tables a.writes X h
    by false = h

tables-accepted : (tables : Tables) (action : Option Action) (X : Content) → IsAccepted tables action → All (IsInTables tables) (rows_matched_by (tried (as_action action) X) X)
tables-accepted tables None X h = All-nil (IsInTables tables)
tables-accepted tables (Some action) X h = tables-all_matched tables (tried action X) X (first_fault-tried tables action X (first_fault-accepted tables action.writes h).1)

-- so the tables of all rows are that a slot touched and that its action matches
tables-reexecuted : (tables : Tables) (touched reexecuted : List RowId) (action : Option Action) (X : Content) → All (λ r. r.table < length tables) touched → IsAccepted tables action
    → reexecuted ≡ touched ++ rows_matched_by (tried (as_action action) X) X → All (λ r. r.table < length tables) reexecuted
tables-reexecuted tables touched reexecuted action X there h is =
    subst (All (IsInTables tables)) (sym is)
    (All-append (IsInTables tables) touched _ there (tables-accepted tables action X h))

-- ---- the rows that get dirty

pub SameMembers-then : (C D E : DirtySet) → SameMembers C D → SameMembers D E → SameMembers C E
SameMembers-then C D E one two = record { rows = λ t key. one.rows t key ∙ two.rows t key; partitions = λ p. one.partitions p ∙ two.partitions p }

-- one row that tables show on the next side before a time and at it
abbrev with_row_shown : Tables → TablesByPosition → ℕ → DirtySet → RowId → DirtySet
with_row_shown tables versions time D r =
    let side = next_of (versions_at versions r.table) r.key in
    with_row D r.table (columns_in tables r.table) r.key (side (time - 1)) (side time)

-- sets with the same members have the same members after the same rows get dirty
shown-same : (tables : Tables) (versions : TablesByPosition) (time : ℕ) (rows : List RowId) (C D : DirtySet) → SameMembers C D
    → SameMembers (fold (with_row_shown tables versions time) C rows) (fold (with_row_shown tables versions time) D rows)
shown-same tables versions time [] C D same = same
shown-same tables versions time (r ∷ rs) C D same =
    let side = next_of (versions_at versions r.table) r.key in
    shown-same tables versions time rs _ _ (same_members_with_row C D r.table (columns_in tables r.table) r.key (side (time - 1)) (side time) same)

-- ---- rows that stand in a list twice

All-left : (P : RowId → Type 0) (rs ss : List RowId) → All P (rs ++ ss) → All P rs
All-left P [] ss h = All-nil P
All-left P (r ∷ rs) ss h = All-cons P r rs (All-head P r (rs ++ ss) h) (All-left P rs ss (All-tail P r (rs ++ ss) h))

pub All-without_repeat : (P : RowId → Type 0) (rows all : List RowId) → MayRepeat rows all → All P all → All P rows
All-without_repeat P rows all (true, is) h = All-left P rows rows (subst (All P) is h)
All-without_repeat P rows all (false, is) h = subst (All P) is h

module _ (tables : Tables) (versions : TablesByPosition) (time : ℕ) where
  -- what a row adds to the dirty rows and partitions, and what a list of rows does
  abbrev parts_shown : RowId → List Partition
  parts_shown r =
      let side = next_of (versions_at versions r.table) r.key in
      let columns = columns_in tables r.table in
      key_partition r.table r.key ∷ (parts_if r.table columns (side (time - 1)) ++ parts_if r.table columns (side time))

  abbrev rows_added : List RowId → List RowId
  rows_added [] = []
  rows_added (r ∷ rs) = rows_added rs ++ r ∷ []

  abbrev parts_added : List RowId → List Partition
  parts_added [] = []
  parts_added (r ∷ rs) = parts_added rs ++ parts_shown r

  rows-shown : (rs : List RowId) (D : DirtySet) → (fold (with_row_shown tables versions time) D rs).rows ≡ rows_added rs ++ D.rows
  rows-shown [] D = refl
  rows-shown (r ∷ rs) D = rows-shown rs (with_row_shown tables versions time D r) ∙ sym (append_assoc (rows_added rs) _ D.rows)

  parts-shown : (rs : List RowId) (D : DirtySet) → (fold (with_row_shown tables versions time) D rs).partitions ≡ parts_added rs ++ D.partitions
  parts-shown [] D = refl
  parts-shown (r ∷ rs) D = parts-shown rs (with_row_shown tables versions time D r) ∙ sym (append_assoc (parts_added rs) (parts_shown r) D.partitions)

  any-twice : {X : Type 0} (test : X → Bool) (xs ys : List X) → list_any test (xs ++ (xs ++ ys)) ≡ list_any test (xs ++ ys)
  any-twice test xs ys = grind (arith, list_any-append test xs (xs ++ ys), list_any-append test xs ys)

  -- rows that get dirty twice are as dirty as once
  shown-twice : (rs : List RowId) (D : DirtySet) → SameMembers (fold (with_row_shown tables versions time) D rs) (fold (with_row_shown tables versions time) D (rs ++ rs))
  shown-twice rs D =
      let E = fold (with_row_shown tables versions time) D rs in
      let F = fold (with_row_shown tables versions time) E rs in
      let rows : F.rows ≡ rows_added rs ++ (rows_added rs ++ D.rows) = rows-shown rs E ∙ ap (λ xs. rows_added rs ++ xs) (rows-shown rs D) in
      let parts : F.partitions ≡ parts_added rs ++ (parts_added rs ++ D.partitions) = parts-shown rs E ∙ ap (λ ps. parts_added rs ++ ps) (parts-shown rs D) in
      subst (SameMembers E) (sym (fold-append (with_row_shown tables versions time) D rs rs)) (record {
        rows = λ t key.
            let test = λ (r : RowId). (t == r.table) && int_eq key r.key in
            ap (list_any test) (rows-shown rs D) ∙ sym (any-twice test (rows_added rs) D.rows) ∙ ap (list_any test) (sym rows);
        partitions = λ p.
            let test = is_same_partition p in
            ap (list_any test) (parts-shown rs D) ∙ sym (any-twice test (parts_added rs) D.partitions) ∙ ap (list_any test) (sym parts);
      })

pub shown-without_repeat : (d : DirtyTables) (versions : TablesByPosition) (rows all : List RowId) (time : ℕ) → MayRepeat rows all
    → SameMembers (with_rows_shown d versions rows time) (with_rows_shown d versions all time)
shown-without_repeat d versions rows all time (true, is) = subst (λ (rs : List RowId). SameMembers (with_rows_shown d versions rows time) (with_rows_shown d versions rs time)) (sym is) (shown-twice d.catalog versions time rows d.dirty)
shown-without_repeat d versions rows all time (false, is) = subst (λ (rs : List RowId). SameMembers (with_rows_shown d versions rows time) (with_rows_shown d versions rs time)) (sym is) (record { rows = λ t key. refl; partitions = λ p. refl })

-- ---- what the tables show of a row

module _ (before after : TablesByPosition) (n : ℕ) (X Y : Content) (touched all : List RowId) (start : ShowsContentBefore before (suc n) X touched)
    (reexecuted : AreReexecuted before after all (suc n) Y) where
  -- a re-executed row shows the content before just before the slot, and the one after at its time
  shows_before : (t : ℕ) (key : ℤ) → next_of (versions_at after t) key n ≡ row_at (X t) key
  shows_before t key = reexecuted.next t key n ∙ by (is_row_in all t key)
    where
      earlier : nat_le (suc n) n ≡ false
      earlier = grind (arith, nat_tests)

      by : (b : Bool) → (if b && nat_le (suc n) n then row_at (Y t) key else next_of (versions_at before t) key n) ≡ row_at (X t) key
      by true = ap (λ l. if l then row_at (Y t) key else next_of (versions_at before t) key n) earlier ∙ start.before t key
      by false = start.before t key

  shows_after : (t : ℕ) (key : ℤ) → is_row_in all t key ≡ true → next_of (versions_at after t) key (suc n) ≡ row_at (Y t) key
  shows_after t key is =
      let now : nat_le (suc n) (suc n) ≡ true = grind (arith, nat_tests) in
      reexecuted.next t key (suc n) ∙ (λ i. if is i && now i then row_at (Y t) key else next_of (versions_at before t) key (suc n))

  -- so by what the tables show, the re-executed rows get dirty with both contents
  shown-contents : (tables : Tables) (rows : List RowId) (D : DirtySet) → ((t : ℕ) (key : ℤ) → is_row_in rows t key ≡ true → is_row_in all t key ≡ true)
      → fold (with_row_shown tables after (suc n)) D rows ≡ fold (with_row_of tables X Y) D rows
  shown-contents tables [] D within = refl
  shown-contents tables (r ∷ rs) D within =
      let t = r.table in
      let key = r.key in
      let here : ((t == t) && int_eq key key) ≡ true = (λ i. itself t i && (Decides-int_eq key key).1 refl i) in
      let is : is_row_in all t key ≡ true = within t key (or_left _ _ here) in
      let earlier : suc n - 1 ≡ n = omega arith in
      let first : next_of (versions_at after t) key (suc n - 1) ≡ row_at (X t) key = ap (next_of (versions_at after t) key) earlier ∙ shows_before t key in
      ap (λ C. fold (with_row_shown tables after (suc n)) C rs) (λ i. with_row D t (columns_in tables t) key (first i) (shows_after t key is i))
      ∙ shown-contents tables rs (with_row_of tables X Y D r) (λ u k later. within u k (or_right _ _ later))

dirty-shown : (d : DirtyTables) (before after : TablesByPosition) (time : ℕ) (X Y : Content) (touched all : List RowId) (reexecuted : List RowId) → 0 < time
    → ShowsContentBefore before time X touched → AreReexecuted before after all time Y → reexecuted ≡ all
    → with_rows_shown d after reexecuted time ≡ fold (with_row_of d.catalog X Y) d.dirty all
dirty-shown d before after zero X Y touched all reexecuted h start rows is = let none : ⊥ = omega (arith, h) in absurd none
dirty-shown d before after (suc n) X Y touched all reexecuted h start rows is =
    shown-contents before after n X Y touched all start rows d.catalog reexecuted d.dirty (λ t key in_rows. ap (λ rs. is_row_in rs t key) (sym is) ∙ in_rows)
    ∙ ap (fold (with_row_of d.catalog X Y) d.dirty) is

pub just_before-positive : (time : ℕ) (rows : ℕ → Option Row) → 0 < time → just_before time rows ≡ rows (time - 1)
just_before-positive zero rows h = let none : ⊥ = omega (arith, h) in absurd none
just_before-positive (suc n) rows h = let same : n ≡ suc n - 1 = omega arith in ap rows same

-- a row of a list gets dirty with what tables show, and then those behind it
pub shown-step : (before after : DirtyTables) (versions : TablesByPosition) (rows : List RowId) (n : ℕ) (none : RowId) (table : LineagesByKey) (key : ℤ) (first last : Option Row) (time : ℕ)
    → n < length rows → after.catalog ≡ before.catalog → key ≡ (get_or rows n none).key → table ≡ versions_at versions (get_or rows n none).table
    → first ≡ side_of table Next key (time - 1) → last ≡ side_of table Next key time → SameMembers after.dirty (with_row_in before (get_or rows n none).table key first last)
    → SameMembers (with_rows_shown after versions (drop (n + 1) rows) time) (with_rows_shown before versions (drop n rows) time)
shown-step before after versions rows n none table key first last time room catalog same on earlier later h =
    let r = get_or rows n none in
    let before_it : first ≡ next_of (versions_at versions r.table) r.key (time - 1) = earlier ∙ (λ i. side_of (on i) Next (same i) (time - 1)) in
    let at_it : last ≡ next_of (versions_at versions r.table) r.key time = later ∙ (λ i. side_of (on i) Next (same i) time) in
    let rest = drop (n + 1) rows in
    let next : suc n ≡ n + 1 = omega arith in
    let all : drop n rows ≡ r ∷ rest = drop-cons rows n none room ∙ (λ i. r ∷ drop (next i) rows) in
    let dirty = shown-same before.catalog versions time rest after.dirty _
    (subst (SameMembers after.dirty) (λ i. with_row before.dirty r.table (columns_in before.catalog r.table) (same i) (before_it i) (at_it i)) h) in
    subst (λ (rs : List RowId). SameMembers (with_rows_shown after versions rest time) (with_rows_shown before versions rs time)) (sym all)
    (subst (λ (tables : Tables). SameMembers (fold (with_row_shown tables versions time) after.dirty rest) (with_rows_shown before versions (r ∷ rest) time)) (sym catalog) dirty)

-- ---- the next slot is re-executed

pub ReexecutesSlot-done : (r after : Repair) (kept new : KeptSlot) (before : TablesByPosition) (run : ReexecutionOnRows) → Reexecutes (r.done + 1) kept.rows (as_action (next_action r kept)) before run
    → new.slot.action ≡ next_action r kept → new.slot.replies ≡ replies_if (next_action r kept) run.replies → new.rows ≡ run.rows_touched → after.slots ≡ slice_set r.slots r.done new
    → SameMembers after.dirty.dirty (with_rows_shown r.dirty run.rows run.reexecuted (r.done + 1)) → GotDirtyAt r.dirty.since (r.done + 1) after.dirty.dirty after.dirty.since → ReexecutesSlot r kept before after run.rows
ReexecutesSlot-done r after kept new before run reexecutes action replies rows slots dirty since X start =
    let next = next_action r kept in
    let Y = content_after_action (as_action next) X in
    let touched = kept.rows in
    let has = reexecutes X start in
    let matched = matched-of_action next X in
    let all = subst (λ (rs : List RowId). AreReexecuted before run.rows (touched ++ rs) (r.done + 1) Y) matched has.rows in
    let reexecuted : run.reexecuted ≡ touched ++ slot_rows_matched next X = has.reexecuted ∙ ap (λ rs. touched ++ rs) matched in
    let answers : new.slot.replies ≡ slot_replies next X = replies ∙ ap (replies_if next) has.replies ∙ replies-of_action next X in
    let touched_now : new.rows ≡ slot_rows_touched next X = rows ∙ has.touched_now ∙ touched-of_action next X in
    record {
      rows = all;
      slots = slots ∙ (λ i. slice_set r.slots r.done (record { slot = record { action = action i; replies = answers i }; rows = touched_now i }));
      dirty = subst (SameMembers after.dirty.dirty)
          (dirty-shown r.dirty before run.rows (r.done + 1) X Y touched (touched ++ slot_rows_matched next X) run.reexecuted (omega arith) start all reexecuted) dirty;
      since = since;
    }

-- the tables of the rows that it re-executes are there
pub tables-of_run : (tables : Tables) (r : Repair) (kept : KeptSlot) (before : TablesByPosition) (run : ReexecutionOnRows) → All (λ k. k.table < length tables) kept.rows → IsAccepted tables (next_action r kept)
    → ShowsFewBefore before (r.done + 1) kept.rows → Reexecutes (r.done + 1) kept.rows (as_action (next_action r kept)) before run
    → All (λ k. k.table < length tables) run.reexecuted
tables-of_run tables r kept before run there accepted few reexecutes =
    tables-reexecuted tables kept.rows run.reexecuted (next_action r kept) few.content there accepted (reexecutes few.content few.shows).reexecuted
