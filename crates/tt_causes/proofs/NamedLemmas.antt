-- What a cause names: there is something wherever a slot may be affected by what got dirty, and it
-- is dirty and wasn't before.
use Rattle.std.proofs.Common.{◌≡◌, ℕ, Bool, true, false, not, ◌&&◌, ◌||◌, ◌==◌, List, [], ◌∷◌, map, length, Option, None, Some, is_some, option_map, option_and_then, refl, sym, ap, ◌∙◌, arith, true≢false}
use Rattle.std.specs.List.{list_any, find}
use Rattle.std.specs.Option.{option_or}
use Rattle.std.specs.Ordering.{int_eq}
use Rattle.std.proofs.lemmas.Bool.{and_parts, and_from, or_left, or_right, or_parts, false_from_ne_true, eqb-true, eq-eqb}
use Rattle.std.proofs.lemmas.Bool.Decides.{Decides-int_eq}
use Rattle.std.proofs.lemmas.Option.{option_and_then_some}
use Rattle.tt_values.specs.declared.row_id.RowId.{RowId}
use Rattle.tt_values.specs.declared.row.Row.{Row}
use Rattle.tt_values.specs.declared.value.Value.{Value}
use Rattle.tt_values.specs.declared.value.Value.TheVariants as values
use Rattle.tt_values.specs.declared.statement.Equal.{Equal}
use Rattle.tt_values.specs.declared.statement.Write.{Write}
use Rattle.tt_values.specs.declared.statement.Write.TheVariants.{Insert, Update, Delete}
use Rattle.tt_values.specs.declared.action.Action.{Action}
use Rattle.tt_values.specs.Matches.{equates}
use Rattle.tt_values.specs.Tables.{Tables}
use Rattle.tt_values.specs.Content.{Content, row_at}
use Rattle.tt_values.specs.Effect.{table_of}
use Rattle.tt_values.specs.Action.{content_after_writes, rows_of_writes, tried, rows_touched, is_among, each_row_once}
use Rattle.tt_values.proofs.LawProofs.{writes_write_each_row_once}
use Rattle.tt_parts.specs.declared.partition.Partition.{Partition}
use Rattle.tt_parts.specs.Dirty.{DirtySet, has_row, has_row_of, has_partition, is_clear}
use Rattle.tt_repair_laws.specs.Due.{slot_rows_touched, is_dirty_key, has_dirty_key, names_dirty_row, is_write_clear, may_read_dirty, is_slot_affected}
use Rattle.tt_causes.specs.Causes.{Wrote, Names, Reads, Scans, slot_action_writes, write_reads, first_dirty_row, row_of_key, row_named_by, first_row_named, reads_dirty_partitions, first_partition_read, scans_dirty_table, first_table_scanned, cause_by}
use Rattle.tt_causes.proofs.SearchLemmas.{none_is_some, same_value, or_if, is_some-or, is_some-map, is_some-find, found_passes, found_fails}

abbrev is_dirty : DirtySet → RowId → Bool
is_dirty D r = has_row D r.table r.key

same_row : (r s : RowId) → ((r.table == s.table) && int_eq r.key s.key) ≡ true → r ≡ s
same_row r s h =
    let parts = and_parts (r.table == s.table) (int_eq r.key s.key) h in
    let table = eqb-true r.table s.table parts.0 in
    let key = (Decides-int_eq r.key s.key).0 parts.1 in
    λ i. record { table = table i; key = key i }

itself : (r : RowId) → ((r.table == r.table) && int_eq r.key r.key) ≡ true
itself r = and_from _ _ (eq-eqb r.table r.table refl) ((Decides-int_eq r.key r.key).1 refl)

-- a row of a list that passes a test is in the list
passing_is_among : (p : RowId → Bool) (rs : List RowId) → list_any p rs ≡ true → (r : RowId) × (p r ≡ true) × (is_among r rs ≡ true)
passing_is_among p [] h = absurd (true≢false (sym h))
passing_is_among p (r ∷ rs) h = by (p r) refl h (passing_is_among p rs)
  where
    by : (b : Bool) → p r ≡ b → (b || list_any p rs) ≡ true → (list_any p rs ≡ true → (s : RowId) × (p s ≡ true) × (is_among s rs ≡ true)) → (s : RowId) × (p s ≡ true) × (is_among s (r ∷ rs) ≡ true)
    by true e g rest = (r, e, or_left _ _ (itself r))
    by false e g rest = let later = rest g in (later.0, later.1, or_right _ _ later.2)

among_passes : (p : RowId → Bool) (rs : List RowId) (r : RowId) → p r ≡ true → is_among r rs ≡ true → list_any p rs ≡ true
among_passes p [] r h among = among
among_passes p (s ∷ rs) r h among = by ((r.table == s.table) && int_eq r.key s.key) refl among (among_passes p rs r h)
  where
    by : (b : Bool) → ((r.table == s.table) && int_eq r.key s.key) ≡ b → (b || is_among r rs) ≡ true → (is_among r rs ≡ true → list_any p rs ≡ true) → (p s || list_any p rs) ≡ true
    by true e g rest = or_left _ _ (ap p (sym (same_row r s e)) ∙ h)
    by false e g rest = or_right _ _ (rest g)

same_rows_pass : (p : RowId → Bool) (rs ss : List RowId) → ((r : RowId) → is_among r rs ≡ is_among r ss) → list_any p rs ≡ true → list_any p ss ≡ true
same_rows_pass p rs ss same h = let one = passing_is_among p rs h in among_passes p ss one.0 one.1 (sym (same one.0) ∙ one.2)

map-first : (f : RowId → Option Row) (rs : List RowId) → map (λ e. e.0) (map {B = RowId × Option Row} (λ r. (r, f r)) rs) ≡ rs
map-first f [] = refl
map-first f (r ∷ rs) = ap (λ ss. r ∷ ss) (map-first f rs)

is_among-once : (ws : List Write) (X : Content) (r : RowId) → is_among r (each_row_once (rows_of_writes ws X)) ≡ is_among r (rows_of_writes ws X)
is_among-once ws X r =
    let row = λ (s : RowId). row_at (content_after_writes ws X s.table) s.key in
    let once = writes_write_each_row_once ws X in
    ap (is_among r) (sym (map-first row (each_row_once (rows_of_writes ws X)))) ∙ once.1 r

-- a dirty row is found where a slot touched one, and else none is dirty
module _ (p : RowId → Bool) where
  once_passes : (s : Option Action) (X : Content) → list_any p (slot_rows_touched s X) ≡ true → list_any p (each_row_once (slot_rows_touched s X)) ≡ true
  once_passes None X h = absurd (true≢false (sym h))
  once_passes (Some a) X h = same_rows_pass p (rows_touched a X) (each_row_once (rows_touched a X)) (λ r. sym (is_among-once (tried a X) X r)) h

  passes_once : (s : Option Action) (X : Content) → list_any p (each_row_once (slot_rows_touched s X)) ≡ true → list_any p (slot_rows_touched s X) ≡ true
  passes_once None X h = absurd (true≢false (sym h))
  passes_once (Some a) X h = same_rows_pass p (each_row_once (rows_touched a X)) (rows_touched a X) (is_among-once (tried a X) X) h

  none_once : (s : Option Action) (X : Content) → list_any p (slot_rows_touched s X) ≡ false → list_any p (each_row_once (slot_rows_touched s X)) ≡ false
  none_once s X h = false_from_ne_true _ (λ there. true≢false (sym (passes_once s X there) ∙ h))

-- a value that is the key of a dirty row
key_value : (D : DirtySet) (table : ℕ) (v : Value) → is_dirty_key D table v ≡ true → is_some (row_of_key table v) ≡ true
key_value D table (values.Int key) h = refl
key_value D table (values.Text t) h = absurd (true≢false (sym h))

is_some-and_then : {X Y : Type 0} (f : X → Option Y) (o : Option X) → is_some o ≡ true → ((x : X) → o ≡ Some x → is_some (f x) ≡ true) → is_some (option_and_then f o) ≡ true
is_some-and_then f None h g = absurd (true≢false (sym h))
is_some-and_then f (Some x) h g = g x refl

named_by : (D : DirtySet) (w : Write) → names_dirty_row D w ≡ true → is_some (row_named_by D w) ≡ true
named_by D (Insert table row) h = refl
named_by D (Update table changes equals) h =
    is_some-and_then (λ (q : Equal). row_of_key table q.value) (find (has_dirty_key D table) equals) (is_some-find (has_dirty_key D table) equals ∙ h)
    (λ q e. key_value D table q.value (and_parts (equates q && (q.column == 0)) _ (found_passes (has_dirty_key D table) equals q e)).1)
named_by D (Delete table equals) h =
    is_some-and_then (λ (q : Equal). row_of_key table q.value) (find (has_dirty_key D table) equals) (is_some-find (has_dirty_key D table) equals ∙ h)
    (λ q e. key_value D table q.value (and_parts (equates q && (q.column == 0)) _ (found_passes (has_dirty_key D table) equals q e)).1)

-- a write that isn't clear reads dirty partitions, or the whole of its table
reads_or_scans : (tables : Tables) (D : DirtySet) (ws : List Write) → list_any (λ w. not (is_write_clear tables D w)) ws ≡ true → (list_any (reads_dirty_partitions tables D) ws || list_any (scans_dirty_table tables D) ws) ≡ true
reads_or_scans tables D [] h = h
reads_or_scans tables D (w ∷ ws) h = by (not (is_write_clear tables D w)) (length (write_reads tables w) == 0) h (reads_or_scans tables D ws)
  where
    reads : Bool
    reads = list_any (reads_dirty_partitions tables D) ws

    scans : Bool
    scans = list_any (scans_dirty_table tables D) ws

    by : (unclear empty : Bool) → (unclear || list_any (λ v. not (is_write_clear tables D v)) ws) ≡ true → (list_any (λ v. not (is_write_clear tables D v)) ws ≡ true → (reads || scans) ≡ true) →
        (((unclear && not empty) || reads) || ((unclear && empty) || scans)) ≡ true
    by true true g rest = or_right reads true refl
    by true false g rest = refl
    by false empty g rest = rest g

-- a write that was clear and reads partitions reads one that wasn't dirty
one_was_clean : (before : DirtySet) (table : ℕ) (ps : List Partition) → is_clear before table ps ≡ true → not (length ps == 0) ≡ true → is_some (find (λ p. not (has_partition before p)) ps) ≡ true
one_was_clean before table [] clear filled = absurd (true≢false (sym filled))
one_was_clean before table (p ∷ ps) clear filled = is_some-find (λ q. not (has_partition before q)) (p ∷ ps) ∙ clear

not_unclear : (b : Bool) → not b ≡ false → b ≡ true
not_unclear true h = refl
not_unclear false h = sym h

unclear : (b : Bool) → not b ≡ true → b ≡ false
unclear true h = sym h
unclear false h = refl

-- a cause is found wherever a slot may be affected that couldn't before
pub cause_is_found : (tables : Tables) (before D : DirtySet) (s : Option Action) (X : Content) (m : ℕ) → is_slot_affected tables before s X ≡ false → is_slot_affected tables D s X ≡ true → is_some (cause_by tables before D s X m) ≡ true
cause_is_found tables before D None X m clean h = absurd (true≢false (sym h))
cause_is_found tables before D (Some a) X m clean h =
    is_some-or (option_map (λ r. Wrote r m) touched) (option_or (option_map (λ r. Names r m) named) (option_or (option_map (λ p. Reads p m) read) (option_map (λ t. Scans t m) scanned)))
    ∙ ap (λ b. b || is_some (option_or (option_map (λ r. Names r m) named) (option_or (option_map (λ p. Reads p m) read) (option_map (λ t. Scans t m) scanned)))) (is_some-map (λ r. Wrote r m) touched)
    ∙ ap (λ b. is_some touched || b) others
    ∙ or_if (list_any (is_dirty D) (rows_touched a X)) (may_read_dirty tables D a.writes) (is_some touched) (is_some named || (is_some read || is_some scanned)) is_touched
    (or_if (list_any (names_dirty_row D) a.writes) (list_any (λ w. not (is_write_clear tables D w)) a.writes) (is_some named) (is_some read || is_some scanned) is_named is_read) h
  where
    touched : Option RowId
    touched = first_dirty_row D (rows_touched a X)

    named : Option RowId
    named = first_row_named D a.writes

    read : Option Partition
    read = first_partition_read tables before D a.writes

    scanned : Option ℕ
    scanned = first_table_scanned tables D a.writes

    others : is_some (option_or (option_map (λ r. Names r m) named) (option_or (option_map (λ p. Reads p m) read) (option_map (λ t. Scans t m) scanned))) ≡ (is_some named || (is_some read || is_some scanned))
    others =
        is_some-or (option_map (λ r. Names r m) named) (option_or (option_map (λ p. Reads p m) read) (option_map (λ t. Scans t m) scanned))
        ∙ (λ i. is_some-map (λ r. Names r m) named i || is_some-or (option_map (λ p. Reads p m) read) (option_map (λ t. Scans t m) scanned) i)
        ∙ (λ i. is_some named || (is_some-map (λ p. Reads p m) read i || is_some-map (λ t. Scans t m) scanned i))

    is_touched : list_any (is_dirty D) (rows_touched a X) ≡ true → is_some touched ≡ true
    is_touched g = is_some-find (is_dirty D) (each_row_once (rows_touched a X)) ∙ once_passes (is_dirty D) (Some a) X g

    is_named : list_any (names_dirty_row D) a.writes ≡ true → is_some named ≡ true
    is_named g =
        is_some-and_then (row_named_by D) (find (names_dirty_row D) a.writes) (is_some-find (names_dirty_row D) a.writes ∙ g)
        (λ w e. named_by D w (found_passes (names_dirty_row D) a.writes w e))

    was_clear : list_any (λ w. not (is_write_clear tables before w)) a.writes ≡ false
    was_clear = (or_parts (list_any (names_dirty_row before) a.writes) (list_any (λ w. not (is_write_clear tables before w)) a.writes) (or_parts (list_any (is_dirty before) (rows_touched a X)) (may_read_dirty tables before a.writes) clean).1).1

    one_read : list_any (reads_dirty_partitions tables D) a.writes ≡ true → is_some read ≡ true
    one_read g =
        is_some-and_then (λ w. find (λ p. not (has_partition before p)) (write_reads tables w)) (find (reads_dirty_partitions tables D) a.writes) (is_some-find (reads_dirty_partitions tables D) a.writes ∙ g)
        (λ w e. one_was_clean before (table_of w) (write_reads tables w)
        (not_unclear _ (found_fails (reads_dirty_partitions tables D) (λ v. not (is_write_clear tables before v)) a.writes w e was_clear))
        (and_parts (not (is_write_clear tables D w)) _ (found_passes (reads_dirty_partitions tables D) a.writes w e)).1)

    one_scanned : list_any (scans_dirty_table tables D) a.writes ≡ true → is_some scanned ≡ true
    one_scanned g = is_some-map table_of (find (scans_dirty_table tables D) a.writes) ∙ is_some-find (scans_dirty_table tables D) a.writes ∙ g

    is_read : list_any (λ w. not (is_write_clear tables D w)) a.writes ≡ true → (is_some read || is_some scanned) ≡ true
    is_read g =
        or_if (list_any (reads_dirty_partitions tables D) a.writes) (list_any (scans_dirty_table tables D) a.writes) (is_some read) (is_some scanned) one_read one_scanned (reads_or_scans tables D a.writes g)

-- something is dirty in a set, and wasn't before
pub record IsNew (before D : DirtySet) (test : DirtySet → Bool) : Type 0 where
  pub now : test D ≡ true
  pub not_before : test before ≡ false

module _ (tables : Tables) (before D : DirtySet) (s : Option Action) (X : Content) (clean : is_slot_affected tables before s X ≡ false) where
  parts_clean : (t : Option Action) → is_slot_affected tables before t X ≡ false →
      (list_any (is_dirty before) (slot_rows_touched t X) ≡ false) × (list_any (names_dirty_row before) (slot_action_writes t) ≡ false) × (list_any (λ w. not (is_write_clear tables before w)) (slot_action_writes t) ≡ false)
  parts_clean None h = (refl, refl, refl)
  parts_clean (Some a) h = let first = or_parts _ _ h in let rest = or_parts _ _ first.1 in (first.0, rest.0, rest.1)

  abbrev ws : List Write
  ws = slot_action_writes s

  pub touched_is_new : (r : RowId) → first_dirty_row D (slot_rows_touched s X) ≡ Some r → IsNew before D (λ C. has_row C r.table r.key)
  touched_is_new r e = record {
    now = found_passes (is_dirty D) (each_row_once (slot_rows_touched s X)) r e;
    not_before = found_fails (is_dirty D) (is_dirty before) (each_row_once (slot_rows_touched s X)) r e (none_once (is_dirty before) s X (parts_clean s clean).0);
  }

  -- the row of a key that a condition equates
  key_is_new : (table : ℕ) (v : Value) (r : RowId) → row_of_key table v ≡ Some r → is_dirty_key D table v ≡ true → is_dirty_key before table v ≡ false → IsNew before D (λ C. has_row C r.table r.key)
  key_is_new table (values.Int key) r e now not_before =
      let same = same_value (record { table = table; key = key }) r e in
      record { now = ap (is_dirty D) (sym same) ∙ now; not_before = ap (is_dirty before) (sym same) ∙ not_before }
  key_is_new table (values.Text t) r e now not_before = absurd (true≢false (sym now))

  both_hold : (a b c : Bool) → (a && b) ≡ true → (a && c) ≡ false → (b ≡ true) × (c ≡ false)
  both_hold true b c h g = (h, g)
  both_hold false b c h g = absurd (true≢false (sym h))

  equated_is_new : (table : ℕ) (qs : List Equal) (r : RowId) → option_and_then (λ (q : Equal). row_of_key table q.value) (find (has_dirty_key D table) qs) ≡ Some r → list_any (has_dirty_key before table) qs ≡ false → IsNew before D (λ C. has_row C r.table r.key)
  equated_is_new table qs r e none =
      option_and_then_some (λ (q : Equal). row_of_key table q.value) (find (has_dirty_key D table) qs) r e
      (λ q found row.
      let both = both_hold (equates q && (q.column == 0)) _ _ (found_passes (has_dirty_key D table) qs q found) (found_fails (has_dirty_key D table) (has_dirty_key before table) qs q found none) in
      key_is_new table q.value r row both.0 both.1)

  named_by_is_new : (w : Write) (r : RowId) → row_named_by D w ≡ Some r → names_dirty_row D w ≡ true → names_dirty_row before w ≡ false → IsNew before D (λ C. has_row C r.table r.key)
  named_by_is_new (Insert table row) r e now not_before =
      let same = same_value _ r e in
      record { now = ap (is_dirty D) (sym same) ∙ now; not_before = ap (is_dirty before) (sym same) ∙ not_before }
  named_by_is_new (Update table changes equals) r e now not_before = equated_is_new table equals r e not_before
  named_by_is_new (Delete table equals) r e now not_before = equated_is_new table equals r e not_before

  pub named_is_new : (r : RowId) → first_row_named D ws ≡ Some r → IsNew before D (λ C. has_row C r.table r.key)
  named_is_new r e =
      option_and_then_some (row_named_by D) (find (names_dirty_row D) ws) r e
      (λ w found row. named_by_is_new w r row (found_passes (names_dirty_row D) ws w found) (found_fails (names_dirty_row D) (names_dirty_row before) ws w found (parts_clean s clean).1))

  -- each partition that a write reads is dirty, if the write isn't clear
  all_are_dirty : (table : ℕ) (ps : List Partition) (p : Partition) → is_clear D table ps ≡ false → find (λ q. not (has_partition before q)) ps ≡ Some p → has_partition D p ≡ true
  all_are_dirty table [] p h e = absurd (none_is_some p e)
  all_are_dirty table (q ∷ qs) p h e = not_unclear _ (found_fails (λ q. not (has_partition before q)) (λ q. not (has_partition D q)) (q ∷ qs) p e h)

  pub read_is_new : (p : Partition) → first_partition_read tables before D ws ≡ Some p → IsNew before D (λ C. has_partition C p)
  read_is_new p e =
      option_and_then_some (λ w. find (λ q. not (has_partition before q)) (write_reads tables w)) (find (reads_dirty_partitions tables D) ws) p e
      (λ w found part. record {
        now = all_are_dirty (table_of w) (write_reads tables w) p (unclear _ (and_parts (not (is_write_clear tables D w)) _ (found_passes (reads_dirty_partitions tables D) ws w found)).0) part;
        not_before = unclear _ (found_passes (λ q. not (has_partition before q)) (write_reads tables w) p part);
      })

  -- a table has a dirty row, if a write that reads all of it isn't clear; it has none, if the write is
  scan_is_new : (table : ℕ) (ps : List Partition) → (length ps == 0) ≡ true → is_clear D table ps ≡ false → is_clear before table ps ≡ true → (has_row_of D table ≡ true) × (has_row_of before table ≡ false)
  scan_is_new table [] empty now not_before = (not_unclear _ now, unclear _ not_before)
  scan_is_new table (p ∷ ps) empty now not_before = let none : ⊥ = omega (arith, eqb-true (length (p ∷ ps)) 0 empty) in absurd none

  pub scanned_is_new : (table : ℕ) → first_table_scanned tables D ws ≡ Some table → IsNew before D (λ C. has_row_of C table)
  scanned_is_new table e = by (find (scans_dirty_table tables D) ws) refl e
    where
      by : (o : Option Write) → find (scans_dirty_table tables D) ws ≡ o → option_map table_of o ≡ Some table → IsNew before D (λ C. has_row_of C table)
      by None found g = absurd (none_is_some table g)
      by (Some w) found g =
          let same = same_value (table_of w) table g in
          let passes = and_parts (not (is_write_clear tables D w)) _ (found_passes (scans_dirty_table tables D) ws w found) in
          let was_clear = not_unclear _ (found_fails (scans_dirty_table tables D) (λ v. not (is_write_clear tables before v)) ws w found (parts_clean s clean).2) in
          let both = scan_is_new (table_of w) (write_reads tables w) passes.1 (unclear _ passes.0) was_clear in
          record { now = ap (has_row_of D) (sym same) ∙ both.0; not_before = ap (has_row_of before) (sym same) ∙ both.1 }
