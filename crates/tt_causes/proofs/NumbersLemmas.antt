-- A cause is found by the numbers of what is dirty.
use Rattle.std.proofs.Common.{◌≡◌, ℕ, zero, suc, pred, ◌+◌, ◌<◌, ◌≤◌, min, max, nat_le, ℤ, Bool, true, false, cond, not, ◌&&◌, ◌||◌, ◌==◌, List, [], ◌∷◌, ◌++◌, length, Option, None, Some, is_some, option_map, option_and_then, if◌then◌else◌, refl, sym, ap, ◌∙◌, arith, true≢false}
use Rattle.std.specs.List.{list_any, find, range_with_len}
use Rattle.std.specs.Option.{option_or}
use Rattle.std.proofs.lemmas.Bool.{leb-true, leb-false, le-leb, cases_lt, false_from_ne_true}
use Rattle.std.proofs.lemmas.Bool.Decides.{nat_tests}
use mathlib.Core.Logic.{⊎_elim}
use Rattle.tt_values.specs.declared.row_id.RowId.{RowId}
use Rattle.tt_values.specs.declared.value.Value.{Value}
use Rattle.tt_values.specs.declared.value.Value.TheVariants as values
use Rattle.tt_values.specs.declared.statement.Equal.{Equal}
use Rattle.tt_values.specs.declared.statement.Write.{Write}
use Rattle.tt_values.specs.declared.statement.Write.TheVariants.{Insert, Update, Delete}
use Rattle.tt_values.specs.declared.action.Action.{Action}
use Rattle.tt_values.specs.Row.{key_of}
use Rattle.tt_values.specs.Matches.{equates}
use Rattle.tt_values.specs.Tables.{Tables}
use Rattle.tt_values.specs.Content.{Content}
use Rattle.tt_values.specs.Effect.{table_of}
use Rattle.tt_values.specs.Action.{rows_touched, each_row_once}
use Rattle.tt_values.specs.RowWrites.{Slots, slot_after}
use Rattle.tt_parts.specs.declared.partition.Partition.{Partition}
use Rattle.tt_parts.specs.Dirty.{DirtySet, DirtySince, NumbersAgree, row_since, partition_since, table_since, since_or, nothing_dirty, has_row, has_row_of, has_partition, is_clear}
use Rattle.tt_repair_laws.specs.declared.edit.Edit.{Edit}
use Rattle.tt_repair_laws.specs.Edits.{edit_of}
use Rattle.tt_repair_laws.specs.Due.{content_after, slot_rows_touched, is_dirty_key, has_dirty_key, names_dirty_row, is_write_clear, is_slot_affected, is_due, dirty_after}
use Rattle.tt_repair_laws.proofs.LawProofs.{nothing_is_dirty_at_first, undue_slots_dirty_nothing, later_slots_change_no_repair}
use Rattle.tt_repair_laws.specs.Laws.{IsSameRepair}
use Rattle.tt_causes.specs.Causes.{Cause, Edited, Wrote, Names, Reads, Scans, slot_action_writes, write_reads, is_affected_after, affected_since, first_dirty_row, row_of_key, row_named_by, first_row_named, reads_dirty_partitions, first_partition_read, scans_dirty_table, first_table_scanned, cause_by, cause_since, cause}
use Rattle.tt_causes.specs.Numbers.{first_slot, TellsSince, GotDirtyAt, NumbersTellWhatIsDirty, NoNumbersAtFirst, NumbersStayUndue, NumbersGrow, LaterSlotsChangeNoNumber, is_by, up_to, earlier, later, earliest, latest, row_id_since, key_since, condition_since, named_since, read_since, unclear_since, slot_since, row_named_by_number, cause_by_number, cause_by_numbers}
use Rattle.tt_causes.specs.Laws.{CausesAreFoundByNumbers}
use Rattle.tt_causes.proofs.SearchLemmas.{none_is_some, same_value, found_passes, found_in_range, none_before, none_in_range, find_agree}
use Rattle.tt_causes.proofs.DirtyLemmas.{Grows, Grows-later, affected_at_first}

or-false : (b : Bool) → (b || false) ≡ b
or-false true = refl
or-false false = refl

and-false : (b : Bool) → false ≡ (b && false)
and-false true = refl
and-false false = refl

not-not : (b : Bool) → not (not b) ≡ b
not-not true = refl
not-not false = refl

-- ---- numbers that may be missing

is_by-earlier : (m : ℕ) (a b : Option ℕ) → is_by m (earlier a b) ≡ (is_by m a || is_by m b)
is_by-earlier m None b = refl
is_by-earlier m (Some a) None = sym (or-false (nat_le a m))
is_by-earlier m (Some a) (Some b) = by (nat_le a m) refl (nat_le b m) refl
  where
    by : (x : Bool) → nat_le a m ≡ x → (y : Bool) → nat_le b m ≡ y → nat_le (min a b) m ≡ (x || y)
    by true e y f = grind (arith, nat_tests)
    by false e true f = grind (arith, nat_tests)
    by false e false f = grind (arith, nat_tests)

is_by-later : (m : ℕ) (a b : Option ℕ) → is_by m (later a b) ≡ (is_by m a && is_by m b)
is_by-later m None b = refl
is_by-later m (Some a) None = and-false (nat_le a m)
is_by-later m (Some a) (Some b) = by (nat_le a m) refl (nat_le b m) refl
  where
    by : (x : Bool) → nat_le a m ≡ x → (y : Bool) → nat_le b m ≡ y → nat_le (max a b) m ≡ (x && y)
    by true e true f = grind (arith, nat_tests)
    by true e false f = grind (arith, nat_tests)
    by false e y f = grind (arith, nat_tests)

is_by-earliest : {X : Type 0} (m : ℕ) (number : X → Option ℕ) (test : X → Bool) → ((x : X) → is_by m (number x) ≡ test x) → (xs : List X) → is_by m (earliest number xs) ≡ list_any test xs
is_by-earliest m number test f [] = refl
is_by-earliest m number test f (x ∷ xs) = is_by-earlier m (number x) (earliest number xs) ∙ (λ i. f x i || is_by-earliest m number test f xs i)

not-and : (a b : Bool) → (a && not b) ≡ not (not a || b)
not-and true b = refl
not-and false b = refl

is_by-latest : {X : Type 0} (m : ℕ) (number : X → Option ℕ) (test : X → Bool) → ((x : X) → is_by m (number x) ≡ test x) → (x : X) (xs : List X) → is_by m (latest number x xs) ≡ not (list_any (λ y. not (test y)) (x ∷ xs))
is_by-latest m number test f x [] = f x ∙ sym (not-not (test x)) ∙ ap not (sym (or-false (not (test x))))
is_by-latest m number test f x (y ∷ ys) =
    is_by-later m (number x) (latest number y ys)
    ∙ (λ i. f x i && is_by-latest m number test f y ys i)
    ∙ not-and (test x) (list_any (λ z. not (test z)) (y ∷ ys))

-- the first number of a range at which a test holds that holds from a number on
found_number : (p : ℕ → Bool) (o : Option ℕ) (n : ℕ) → ((m : ℕ) → m ≤ n → p m ≡ is_by m o) → p 0 ≡ false → find p (range_with_len 1 n) ≡ up_to n o
found_number p o n same first = by (find p (range_with_len 1 n)) refl
  where
    none : find p (range_with_len 1 n) ≡ None → (q : Option ℕ) → o ≡ q → None ≡ up_to n q
    none e None f = refl
    none e (Some k) f = at (nat_le k n) refl
      where
        at : (b : Bool) → nat_le k n ≡ b → None ≡ (if b then Some k else None)
        at false h = refl
        at true h = absurd (true≢false (sym is ∙ not_there))
          where
            low : (j : ℕ) → j ≡ k → 1 ≤ k
            low zero g = absurd (true≢false (sym (same 0 (omega arith) ∙ ap (is_by 0) f ∙ ap (λ i. nat_le i 0) (sym g)) ∙ first))
            low (suc j) g = omega (arith, g)

            in_range : k ≤ n
            in_range = leb-true k n h

            is : p k ≡ true
            is = same k in_range ∙ ap (is_by k) f ∙ le-leb k k (omega arith)

            not_there : p k ≡ false
            not_there = none_in_range p 1 n e k (low k refl) (omega (arith, in_range))

    some : (j : ℕ) → find p (range_with_len 1 n) ≡ Some j → (q : Option ℕ) → o ≡ q → Some j ≡ up_to n q
    some j e None f = absurd (true≢false (sym (found_passes p (range_with_len 1 n) j e) ∙ same j (omega (arith, (found_in_range p 1 n j e).1)) ∙ ap (is_by j) f))
    some j e (Some k) f = ap Some is ∙ ap (λ b. if b then Some k else None) (sym (le-leb k n (omega (arith, in_range.1, least))))
      where
        in_range : (1 ≤ j) × (j < 1 + n)
        in_range = found_in_range p 1 n j e

        least : k ≤ j
        least = leb-true k j (ap (is_by j) (sym f) ∙ sym (same j (omega (arith, in_range.1))) ∙ found_passes p (range_with_len 1 n) j e)

        positive : (i : ℕ) → i ≡ k → 1 ≤ k
        positive zero g = absurd (true≢false (sym (same 0 (omega arith) ∙ ap (is_by 0) f ∙ ap (λ i. nat_le i 0) (sym g)) ∙ first))
        positive (suc i) g = omega (arith, g)

        not_less : k < j → ⊥
        not_less h = true≢false (sym (same k (omega (arith, in_range.1, least)) ∙ ap (is_by k) f ∙ le-leb k k (omega arith)) ∙ none_before p 1 n j e k (positive k refl) h)

        is : j ≡ k
        is = ⊎_elim (λ h. absurd (not_less h)) (λ h. omega (arith, h, least)) (cases_lt k j)

    by : (q : Option ℕ) → find p (range_with_len 1 n) ≡ q → q ≡ up_to n o
    by None e = none e o refl
    by (Some j) e = some j e o refl

-- ---- numbers of slots

module _ (tables : Tables) (W : Slots) (E : List Edit) (N m : ℕ) (h : m ≤ N) where
  -- what gets dirty and stays so is dirty by a number exactly where it is dirty after that slot
  is_by-first_slot : (test : DirtySet → Bool) → ((i j : ℕ) → i ≤ j → test (dirty_after tables W E i) ≡ true → test (dirty_after tables W E j) ≡ true) → test nothing_dirty ≡ false → is_by m (first_slot tables W E N test) ≡ test (dirty_after tables W E m)
  is_by-first_slot test stays none = by (first_slot tables W E N test) refl
    where
      p : ℕ → Bool
      p i = test (dirty_after tables W E i)

      first : p 0 ≡ false
      first = ap test (nothing_is_dirty_at_first tables W E) ∙ none

      never : find p (range_with_len 1 N) ≡ None → (k : ℕ) → k ≡ m → p m ≡ false
      never e zero g = ap p (sym g) ∙ first
      never e (suc k) g = none_in_range p 1 N e m (omega (arith, g)) (omega (arith, h))

      not_yet : (k : ℕ) → find p (range_with_len 1 N) ≡ Some k → m < k → (i : ℕ) → i ≡ m → p m ≡ false
      not_yet k e later zero g = ap p (sym g) ∙ first
      not_yet k e later (suc i) g = none_before p 1 N k e m (omega (arith, g)) later

      by : (o : Option ℕ) → find p (range_with_len 1 N) ≡ o → is_by m o ≡ p m
      by None e = sym (never e m refl)
      by (Some k) e = at (nat_le k m) refl
        where
          at : (b : Bool) → nat_le k m ≡ b → b ≡ p m
          at true g = sym (stays k m (leb-true k m g) (found_passes p (range_with_len 1 N) k e))
          at false g = sym (not_yet k e (leb-false k m g) m refl)

module _ (tables : Tables) (W : Slots) (E : List Edit) (N : ℕ) (since : DirtySince) (tells : TellsSince tables W E N since) where
  row_by : (m : ℕ) → m ≤ N → (table : ℕ) (key : ℤ) → is_by m (row_since since table key) ≡ has_row (dirty_after tables W E m) table key
  row_by m h table key = ap (is_by m) (tells.rows table key) ∙ is_by-first_slot tables W E N m h (λ D. has_row D table key) (λ i j early. (Grows-later tables W E i j early).rows table key) refl

  partition_by : (m : ℕ) → m ≤ N → (p : Partition) → is_by m (partition_since since p) ≡ has_partition (dirty_after tables W E m) p
  partition_by m h p = ap (is_by m) (tells.partitions p) ∙ is_by-first_slot tables W E N m h (λ D. has_partition D p) (λ i j early. (Grows-later tables W E i j early).partitions p) refl

  table_by : (m : ℕ) → m ≤ N → (table : ℕ) → is_by m (table_since since table) ≡ has_row_of (dirty_after tables W E m) table
  table_by m h table = ap (is_by m) (tells.tables table) ∙ is_by-first_slot tables W E N m h (λ D. has_row_of D table) (λ i j early. (Grows-later tables W E i j early).tables table) refl

  module _ (m : ℕ) (h : m ≤ N) where
    D : DirtySet
    D = dirty_after tables W E m

    key_by : (table : ℕ) (v : Value) → is_by m (key_since since table v) ≡ is_dirty_key (dirty_after tables W E m) table v
    key_by table (values.Int key) = row_by m h table key
    key_by table (values.Text t) = refl

    condition_by : (table : ℕ) (q : Equal) → is_by m (condition_since since table q) ≡ has_dirty_key (dirty_after tables W E m) table q
    condition_by table q = by (equates q && (q.column == 0))
      where
        by : (b : Bool) → is_by m (if b then key_since since table q.value else None) ≡ (b && is_dirty_key (dirty_after tables W E m) table q.value)
        by true = key_by table q.value
        by false = refl

    named_by_number : (w : Write) → is_by m (named_since since w) ≡ names_dirty_row (dirty_after tables W E m) w
    named_by_number (Insert table row) = row_by m h table (key_of row)
    named_by_number (Update table changes equals) = is_by-earliest m (condition_since since table) (has_dirty_key (dirty_after tables W E m) table) (condition_by table) equals
    named_by_number (Delete table equals) = is_by-earliest m (condition_since since table) (has_dirty_key (dirty_after tables W E m) table) (condition_by table) equals

    read_by : (table : ℕ) (ps : List Partition) → is_by m (read_since since table ps) ≡ not (is_clear (dirty_after tables W E m) table ps)
    read_by table [] = table_by m h table ∙ sym (not-not (has_row_of (dirty_after tables W E m) table))
    read_by table (p ∷ ps) = is_by-latest m (partition_since since) (has_partition (dirty_after tables W E m)) (partition_by m h) p ps

    unclear_by : (w : Write) → is_by m (unclear_since tables since w) ≡ not (is_write_clear tables (dirty_after tables W E m) w)
    unclear_by w = read_by (table_of w) (write_reads tables w)

    slot_by : (s : Option Action) (X : Content) → is_by m (slot_since tables since (slot_rows_touched s X) (slot_action_writes s)) ≡ is_slot_affected tables (dirty_after tables W E m) s X
    slot_by None X = refl
    slot_by (Some a) X =
        is_by-earlier m (earliest (row_id_since since) (rows_touched a X)) (earlier (earliest (named_since since) a.writes) (earliest (unclear_since tables since) a.writes))
        ∙ (λ i. is_by-earliest m (row_id_since since) (λ r. has_row (dirty_after tables W E m) r.table r.key) (λ r. row_by m h r.table r.key) (rows_touched a X) i
        || is_by-earlier m (earliest (named_since since) a.writes) (earliest (unclear_since tables since) a.writes) i)
        ∙ (λ i. list_any (λ r. has_row (dirty_after tables W E m) r.table r.key) (rows_touched a X)
        || (is_by-earliest m (named_since since) (names_dirty_row (dirty_after tables W E m)) named_by_number a.writes i
        || is_by-earliest m (unclear_since tables since) (λ w. not (is_write_clear tables (dirty_after tables W E m) w)) unclear_by a.writes i))

    row_named : (w : Write) → row_named_by_number since m w ≡ row_named_by (dirty_after tables W E m) w
    row_named (Insert table row) = refl
    row_named (Update table changes equals) = λ i. option_and_then (λ (q : Equal). row_of_key table q.value) (find (λ q. condition_by table q i) equals)
    row_named (Delete table equals) = λ i. option_and_then (λ (q : Equal). row_of_key table q.value) (find (λ q. condition_by table q i) equals)

    map-table : (o : Option Write) → option_map (λ w. Scans (table_of w) m) o ≡ option_map (λ t. Scans t m) (option_map table_of o)
    map-table None = refl
    map-table (Some w) = refl

    cause_by_same : (s : Option Action) (X : Content) → pred m ≤ N → cause_by_number tables since (slot_rows_touched s X) (slot_action_writes s) m ≡ cause_by tables (dirty_after tables W E (pred m)) (dirty_after tables W E m) s X m
    cause_by_same s X early =
        let ws = slot_action_writes s in
        (λ i. option_or (option_map (λ r. Wrote r m) (find (λ r. row_by m h r.table r.key i) (each_row_once (slot_rows_touched s X))))
        (option_or (option_map (λ r. Names r m) (option_and_then (λ w. row_named w i) (find (λ w. named_by_number w i) ws)))
        (option_or (option_map (λ p. Reads p m) (option_and_then (λ w. find (λ p. not (partition_by (pred m) early p i)) (write_reads tables w)) (find (λ w. unclear_by w i && not (length (write_reads tables w) == 0)) ws)))
        (option_map (λ w. Scans (table_of w) m) (find (λ w. unclear_by w i && (length (write_reads tables w) == 0)) ws)))))
        ∙ ap (λ o. option_or (option_map (λ r. Wrote r m) (first_dirty_row (dirty_after tables W E m) (slot_rows_touched s X)))
        (option_or (option_map (λ r. Names r m) (first_row_named (dirty_after tables W E m) ws))
        (option_or (option_map (λ p. Reads p m) (first_partition_read tables (dirty_after tables W E (pred m)) (dirty_after tables W E m) ws)) o)))
        (map-table (find (scans_dirty_table tables (dirty_after tables W E m)) ws))

  module _ (n : ℕ) (room : n ≤ N) where
    since_found : affected_since tables W E n ≡ up_to n (slot_since tables since (slot_rows_touched (slot_after W n) (content_after W n)) (slot_action_writes (slot_after W n)))
    since_found =
        found_number (is_affected_after tables W E n) (slot_since tables since (slot_rows_touched (slot_after W n) (content_after W n)) (slot_action_writes (slot_after W n))) n
        (λ m early. sym (slot_by m (omega (arith, early, room)) (slot_after W n) (content_after W n))) (affected_at_first tables W E (slot_after W n) (content_after W n))

    others_same : option_and_then (cause_since tables W E n) (affected_since tables W E n) ≡ cause_by_numbers tables since (slot_rows_touched (slot_after W n) (content_after W n)) (slot_action_writes (slot_after W n)) n
    others_same = by (affected_since tables W E n) refl ∙ ap (option_and_then (cause_by_number tables since (slot_rows_touched (slot_after W n) (content_after W n)) (slot_action_writes (slot_after W n)))) since_found
      where
        by : (o : Option ℕ) → affected_since tables W E n ≡ o → option_and_then (cause_since tables W E n) o ≡ option_and_then (cause_by_number tables since (slot_rows_touched (slot_after W n) (content_after W n)) (slot_action_writes (slot_after W n))) o
        by None e = refl
        by (Some m) e =
            let range = found_in_range (is_affected_after tables W E n) 1 n m e in
            sym (cause_by_same m (omega (arith, range.1, room)) (slot_after W n) (content_after W n) (omega (arith, range.1, room)))

pub causes_are_found_by_numbers : CausesAreFoundByNumbers
causes_are_found_by_numbers tables W E N since n room tells = ap (λ o. if is_some (edit_of E (suc n)) then Some Edited else o) (others_same tables W E N since tells n room)

-- ---- how numbers grow

-- a range of one number more
find-more : (p : ℕ → Bool) (a n : ℕ) → find p (range_with_len a (suc n)) ≡ since_or (find p (range_with_len a n)) (p (a + n)) (a + n)
find-more p a zero = let same : a ≡ a + zero = omega arith in (λ i. cond (p (same i)) (Some (same i)) None)
find-more p a (suc n) = by (p a) (find-more p (a + 1) n)
  where
    by : (b : Bool) → find p (range_with_len (a + 1) (suc n)) ≡ since_or (find p (range_with_len (a + 1) n)) (p ((a + 1) + n)) ((a + 1) + n)
        → cond b (Some a) (find p (range_with_len (a + 1) (suc n))) ≡ since_or (cond b (Some a) (find p (range_with_len (a + 1) n))) (p (a + suc n)) (a + suc n)
    by true rest = refl
    by false rest = let same : (a + 1) + n ≡ a + suc n = omega arith in rest ∙ (λ i. since_or (find p (range_with_len (a + 1) n)) (p (same i)) (same i))

module _ (tables : Tables) (W : Slots) (E : List Edit) where
  first_slot-more : (n : ℕ) (test : DirtySet → Bool) → first_slot tables W E (suc n) test ≡ since_or (first_slot tables W E n test) (test (dirty_after tables W E (suc n))) (suc n)
  first_slot-more n test = let same : 1 + n ≡ suc n = omega arith in find-more (λ m. test (dirty_after tables W E m)) 1 n ∙ (λ i. since_or (first_slot tables W E n test) (test (dirty_after tables W E (same i))) (same i))

  is_some-first_slot : (n : ℕ) (test : DirtySet → Bool) → ((i j : ℕ) → i ≤ j → test (dirty_after tables W E i) ≡ true → test (dirty_after tables W E j) ≡ true) → test nothing_dirty ≡ false → is_some (first_slot tables W E n test) ≡ test (dirty_after tables W E n)
  is_some-first_slot n test stays none = by (first_slot tables W E n test) refl ∙ is_by-first_slot tables W E n n (omega arith) test stays none
    where
      by : (o : Option ℕ) → first_slot tables W E n test ≡ o → is_some o ≡ is_by n o
      by None e = refl
      by (Some k) e = sym (le-leb k n (omega (arith, (found_in_range (λ m. test (dirty_after tables W E m)) 1 n k e).1)))

since_or-there : (o : Option ℕ) (b : Bool) (n : ℕ) → is_some o ≡ b → since_or o b n ≡ o
since_or-there None true n h = absurd (true≢false (sym h))
since_or-there None false n h = refl
since_or-there (Some k) b n h = refl

no_number : (o : Option ℕ) → is_some o ≡ false → o ≡ None
no_number None h = refl
no_number (Some k) h = absurd (true≢false h)

pub numbers_tell_what_is_dirty : NumbersTellWhatIsDirty
numbers_tell_what_is_dirty tables W E n since tells = record {
  rows = λ table key. ap is_some (tells.rows table key) ∙ is_some-first_slot tables W E n (λ D. has_row D table key) (λ i j early. (Grows-later tables W E i j early).rows table key) refl;
  partitions = λ p. ap is_some (tells.partitions p) ∙ is_some-first_slot tables W E n (λ D. has_partition D p) (λ i j early. (Grows-later tables W E i j early).partitions p) refl;
  tables = λ table. ap is_some (tells.tables table) ∙ is_some-first_slot tables W E n (λ D. has_row_of D table) (λ i j early. (Grows-later tables W E i j early).tables table) refl;
}

pub no_numbers_at_first : NoNumbersAtFirst
no_numbers_at_first tables W E since none = record {
  rows = λ table key. no_number (row_since since table key) (none.rows table key);
  partitions = λ p. no_number (partition_since since p) (none.partitions p);
  tables = λ table. no_number (table_since since table) (none.tables table);
}

pub numbers_stay_undue : NumbersStayUndue
numbers_stay_undue tables W E n since undue tells =
    let has : NumbersAgree (dirty_after tables W E n) since = numbers_tell_what_is_dirty tables W E n since tells in
    let same = undue_slots_dirty_nothing tables W E n undue in
    record {
      rows = λ table key. sym (since_or-there (row_since since table key) (has_row (dirty_after tables W E (suc n)) table key) (suc n) (has.rows table key ∙ ap (λ D. has_row D table key) (sym same)))
          ∙ ap (λ o. since_or o (has_row (dirty_after tables W E (suc n)) table key) (suc n)) (tells.rows table key) ∙ sym (first_slot-more tables W E n (λ D. has_row D table key));
      partitions = λ p. sym (since_or-there (partition_since since p) (has_partition (dirty_after tables W E (suc n)) p) (suc n) (has.partitions p ∙ ap (λ D. has_partition D p) (sym same)))
          ∙ ap (λ o. since_or o (has_partition (dirty_after tables W E (suc n)) p) (suc n)) (tells.partitions p) ∙ sym (first_slot-more tables W E n (λ D. has_partition D p));
      tables = λ table. sym (since_or-there (table_since since table) (has_row_of (dirty_after tables W E (suc n)) table) (suc n) (has.tables table ∙ ap (λ D. has_row_of D table) (sym same)))
          ∙ ap (λ o. since_or o (has_row_of (dirty_after tables W E (suc n)) table) (suc n)) (tells.tables table) ∙ sym (first_slot-more tables W E n (λ D. has_row_of D table));
    }

pub numbers_grow : NumbersGrow
numbers_grow tables W E n old new tells got = record {
  rows = λ table key. got.rows table key ∙ ap (λ o. since_or o (has_row (dirty_after tables W E (suc n)) table key) (suc n)) (tells.rows table key) ∙ sym (first_slot-more tables W E n (λ D. has_row D table key));
  partitions = λ p. got.partitions p ∙ ap (λ o. since_or o (has_partition (dirty_after tables W E (suc n)) p) (suc n)) (tells.partitions p) ∙ sym (first_slot-more tables W E n (λ D. has_partition D p));
  tables = λ table. got.tables table ∙ ap (λ o. since_or o (has_row_of (dirty_after tables W E (suc n)) table) (suc n)) (tells.tables table) ∙ sym (first_slot-more tables W E n (λ D. has_row_of D table));
}

pub later_slots_change_no_number : LaterSlotsChangeNoNumber
later_slots_change_no_number tables W X E n since room tells = record {
  rows = λ table key. tells.rows table key ∙ same (λ D. has_row D table key);
  partitions = λ p. tells.partitions p ∙ same (λ D. has_partition D p);
  tables = λ table. tells.tables table ∙ same (λ D. has_row_of D table);
}
  where
    same_dirty : (i : ℕ) → i ≤ n → dirty_after tables (W ++ X) E i ≡ dirty_after tables W E i
    same_dirty i early = let one : IsSameRepair tables W (W ++ X) E i = later_slots_change_no_repair tables W X E i (omega (arith, early, room)) in one.dirty

    same : (test : DirtySet → Bool) → first_slot tables W E n test ≡ first_slot tables (W ++ X) E n test
    same test = sym (find_agree (λ i. test (dirty_after tables (W ++ X) E i)) (λ i. test (dirty_after tables W E i)) 1 n (λ i low high. ap test (same_dirty i (omega (arith, high)))))
