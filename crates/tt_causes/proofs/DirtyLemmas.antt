-- What is dirty stays dirty, and what it may affect stays so.
use Rattle.std.proofs.Common.{◌≡◌, ℕ, zero, suc, ◌+◌, ◌-◌, ◌≤◌, ℤ, Bool, true, false, not, ◌&&◌, ◌||◌, ◌==◌, List, [], ◌∷◌, ◌++◌, fold, Option, None, Some, refl, sym, ap, ◌∙◌, arith, zero-add}
use Rattle.std.specs.List.{list_any}
use Rattle.std.specs.Ordering.{int_eq}
use Rattle.std.proofs.lemmas.Bool.{and_parts, and_from, or_right, not_from_true}
use Rattle.std.proofs.lemmas.List.Folds.{list_any-append}
use Rattle.tt_values.specs.declared.row_id.RowId.{RowId}
use Rattle.tt_values.specs.declared.value.Value.{Value}
use Rattle.tt_values.specs.declared.value.Value.TheVariants as values
use Rattle.tt_values.specs.declared.table.Column.{Column}
use Rattle.tt_values.specs.declared.row.Row.{Row}
use Rattle.tt_values.specs.declared.statement.Equal.{Equal}
use Rattle.tt_values.specs.declared.statement.Write.{Write}
use Rattle.tt_values.specs.declared.statement.Write.TheVariants.{Insert, Update, Delete}
use Rattle.tt_values.specs.declared.action.Action.{Action}
use Rattle.tt_values.specs.Row.{key_of}
use Rattle.tt_values.specs.Matches.{equates}
use Rattle.tt_values.specs.Tables.{Tables}
use Rattle.tt_values.specs.Content.{Content, row_at}
use Rattle.tt_values.specs.Effect.{table_of}
use Rattle.tt_values.specs.Action.{rows_touched}
use Rattle.tt_values.specs.RowWrites.{Slots}
use Rattle.tt_parts.specs.declared.partition.Partition.{Partition}
use Rattle.tt_parts.specs.Partitions.{is_same_partition, is_partition_in, partitions_read}
use Rattle.tt_parts.specs.Dirty.{DirtySet, nothing_dirty, columns_in, has_row, has_row_of, has_partition, parts_if, with_row, is_clear}
use Rattle.tt_repair_laws.specs.declared.edit.Edit.{Edit}
use Rattle.tt_repair_laws.specs.Edits.{edited_slots}
use Rattle.tt_repair_laws.specs.Due.{content_after, is_dirty_key, has_dirty_key, names_dirty_row, is_write_clear, is_slot_affected, with_row_of, is_due, dirty_after, rows_reexecuted}
use Rattle.tt_repair_laws.proofs.LawProofs.{nothing_is_dirty_at_first, undue_slots_dirty_nothing, due_slots_dirty_reexecuted_rows}
use Rattle.tt_causes.specs.Laws.{WhatIsDirtyStaysDirty}
use Rattle.tt_causes.proofs.SearchLemmas.{or_if}

pub list_any_if : {X : Type 0} (p q : X → Bool) → ((x : X) → p x ≡ true → q x ≡ true) → (xs : List X) → list_any p xs ≡ true → list_any q xs ≡ true
list_any_if p q f [] h = h
list_any_if p q f (x ∷ xs) h = or_if (p x) (list_any p xs) (q x) (list_any q xs) (f x) (list_any_if p q f xs) h

-- what is dirty in one set is so in another
pub record Grows (D C : DirtySet) : Type 0 where
  pub rows : (table : ℕ) (key : ℤ) → has_row D table key ≡ true → has_row C table key ≡ true
  pub tables : (table : ℕ) → has_row_of D table ≡ true → has_row_of C table ≡ true
  pub partitions : (p : Partition) → has_partition D p ≡ true → has_partition C p ≡ true

Grows-refl : (D : DirtySet) → Grows D D
Grows-refl D = record { rows = λ table key h. h; tables = λ table h. h; partitions = λ p h. h }

Grows-trans : (D C B : DirtySet) → Grows D C → Grows C B → Grows D B
Grows-trans D C B g h = record {
  rows = λ table key dirty. h.rows table key (g.rows table key dirty);
  tables = λ table dirty. h.tables table (g.tables table dirty);
  partitions = λ p dirty. h.partitions p (g.partitions p dirty);
}

Grows-same : (D C : DirtySet) → C ≡ D → Grows D C
Grows-same D C e = record {
  rows = λ table key h. ap (λ B. has_row B table key) e ∙ h;
  tables = λ table h. ap (λ B. has_row_of B table) e ∙ h;
  partitions = λ p h. ap (λ B. has_partition B p) e ∙ h;
}

Grows-with_row : (D : DirtySet) (table : ℕ) (columns : List Column) (key : ℤ) (before after : Option Row) → Grows D (with_row D table columns key before after)
Grows-with_row D table columns key before after = record {
  rows = λ t k h. or_right ((t == table) && int_eq k key) (has_row D t k) h;
  tables = λ t h. or_right (t == table) (has_row_of D t) h;
  partitions = λ p h. or_right _ _ (list_any-append (is_same_partition p) (parts_if table columns before ++ parts_if table columns after) D.partitions ∙ or_right _ _ h);
}

Grows-with_rows : (tables : Tables) (X Y : Content) (rs : List RowId) (D : DirtySet) → Grows D (fold (with_row_of tables X Y) D rs)
Grows-with_rows tables X Y [] D = Grows-refl D
Grows-with_rows tables X Y (r ∷ rs) D =
    let next = with_row_of tables X Y D r in
    Grows-trans D next (fold (with_row_of tables X Y) next rs)
    (Grows-with_row D r.table (columns_in tables r.table) r.key (row_at (X r.table) r.key) (row_at (Y r.table) r.key))
    (Grows-with_rows tables X Y rs next)

module _ (tables : Tables) (W : Slots) (E : List Edit) where
  Grows-slot : (n : ℕ) → Grows (dirty_after tables W E n) (dirty_after tables W E (suc n))
  Grows-slot n = by (is_due tables W E n) refl
    where
      D : DirtySet
      D = dirty_after tables W E n

      by : (b : Bool) → is_due tables W E n ≡ b → Grows D (dirty_after tables W E (suc n))
      by true h =
          let X = content_after (edited_slots W E) n in
          let Y = content_after (edited_slots W E) (suc n) in
          let C = fold (with_row_of tables X Y) D (rows_reexecuted W E n) in
          Grows-trans D C (dirty_after tables W E (suc n)) (Grows-with_rows tables X Y (rows_reexecuted W E n) D) (Grows-same C (dirty_after tables W E (suc n)) (due_slots_dirty_reexecuted_rows tables W E n h))
      by false h = Grows-same D (dirty_after tables W E (suc n)) (undue_slots_dirty_nothing tables W E n h)

  Grows-more : (more m : ℕ) → Grows (dirty_after tables W E m) (dirty_after tables W E (more + m))
  Grows-more zero m = Grows-same (dirty_after tables W E m) (dirty_after tables W E (zero + m)) (ap (dirty_after tables W E) (zero-add m))
  Grows-more (suc more) m =
      let next : suc more + m ≡ suc (more + m) = omega arith in
      Grows-trans (dirty_after tables W E m) (dirty_after tables W E (more + m)) (dirty_after tables W E (suc more + m)) (Grows-more more m)
      (
      Grows-trans (dirty_after tables W E (more + m)) (dirty_after tables W E (suc (more + m))) (dirty_after tables W E (suc more + m)) (Grows-slot (more + m))
      (Grows-same (dirty_after tables W E (suc (more + m))) (dirty_after tables W E (suc more + m)) (ap (dirty_after tables W E) next))
      )

  pub Grows-later : (m n : ℕ) → m ≤ n → Grows (dirty_after tables W E m) (dirty_after tables W E n)
  Grows-later m n h =
      let sum : n ≡ (n - m) + m = omega (arith, h) in
      Grows-trans (dirty_after tables W E m) (dirty_after tables W E ((n - m) + m)) (dirty_after tables W E n) (Grows-more (n - m) m) (Grows-same (dirty_after tables W E ((n - m) + m)) (dirty_after tables W E n) (ap (dirty_after tables W E) sum))

pub what_is_dirty_stays_dirty : WhatIsDirtyStaysDirty
what_is_dirty_stays_dirty tables W E m n h = let grows = Grows-later tables W E m n h in (grows.rows, grows.tables, grows.partitions)

-- a partition that is clean in the greater set is so in the other
all_dirty : (D C : DirtySet) → Grows D C → (p : Partition) → not (has_partition C p) ≡ true → not (has_partition D p) ≡ true
all_dirty D C grows p h = by (has_partition D p) refl
  where
    by : (b : Bool) → has_partition D p ≡ b → not b ≡ true
    by true e = sym (not_from_true (has_partition C p) (grows.partitions p e)) ∙ h
    by false e = refl

-- a statement that is clear of the greater set is so of the other
clear_before : (D C : DirtySet) → Grows D C → (table : ℕ) (ps : List Partition) → is_clear C table ps ≡ true → is_clear D table ps ≡ true
clear_before D C grows table [] h = by (has_row_of D table) refl
  where
    by : (b : Bool) → has_row_of D table ≡ b → not b ≡ true
    by true e = sym (not_from_true (has_row_of C table) (grows.tables table e)) ∙ h
    by false e = refl
clear_before D C grows table (p ∷ ps) h = list_any_if (λ q. not (is_partition_in C.partitions q)) (λ q. not (is_partition_in D.partitions q)) (all_dirty D C grows) (p ∷ ps) h

module _ (tables : Tables) (D C : DirtySet) (grows : Grows D C) where
  not_clear_later : (w : Write) → not (is_write_clear tables D w) ≡ true → not (is_write_clear tables C w) ≡ true
  not_clear_later w h = by (is_write_clear tables C w) refl
    where
      by : (b : Bool) → is_write_clear tables C w ≡ b → not b ≡ true
      by true e = sym (not_from_true (is_write_clear tables D w) (clear_before D C grows (table_of w) (partitions_read (columns_in tables (table_of w)) w) e)) ∙ h
      by false e = refl

  dirty_key_later : (table : ℕ) (v : Value) → is_dirty_key D table v ≡ true → is_dirty_key C table v ≡ true
  dirty_key_later table (values.Int key) h = grows.rows table key h
  dirty_key_later table (values.Text t) h = h

  has_key_later : (table : ℕ) (q : Equal) → has_dirty_key D table q ≡ true → has_dirty_key C table q ≡ true
  has_key_later table q h =
      let parts = and_parts (equates q && (q.column == 0)) (is_dirty_key D table q.value) h in
      and_from (equates q && (q.column == 0)) (is_dirty_key C table q.value) parts.0 (dirty_key_later table q.value parts.1)

  names_later : (w : Write) → names_dirty_row D w ≡ true → names_dirty_row C w ≡ true
  names_later (Insert table row) h = grows.rows table (key_of row) h
  names_later (Update table changes equals) h = list_any_if (has_dirty_key D table) (has_dirty_key C table) (has_key_later table) equals h
  names_later (Delete table equals) h = list_any_if (has_dirty_key D table) (has_dirty_key C table) (has_key_later table) equals h

  -- a slot that may be affected stays so
  pub affected_later : (s : Option Action) (X : Content) → is_slot_affected tables D s X ≡ true → is_slot_affected tables C s X ≡ true
  affected_later None X h = h
  affected_later (Some a) X h =
      or_if _ _ _ _ (list_any_if (λ r. has_row D r.table r.key) (λ r. has_row C r.table r.key) (λ r. grows.rows r.table r.key) (rows_touched a X))
      (
      or_if _ _ _ _ (list_any_if (names_dirty_row D) (names_dirty_row C) names_later a.writes)
      (list_any_if (λ w. not (is_write_clear tables D w)) (λ w. not (is_write_clear tables C w)) not_clear_later a.writes)
      )
      h

-- nothing may be affected where nothing is dirty
no_key : (table : ℕ) (v : Value) → is_dirty_key nothing_dirty table v ≡ false
no_key table (values.Int key) = refl
no_key table (values.Text t) = refl

none_has_key : (table : ℕ) (qs : List Equal) → list_any (has_dirty_key nothing_dirty table) qs ≡ false
none_has_key table [] = refl
none_has_key table (q ∷ qs) = by (equates q && (q.column == 0)) (no_key table q.value) (none_has_key table qs)
  where
    by : (b : Bool) → is_dirty_key nothing_dirty table q.value ≡ false → list_any (has_dirty_key nothing_dirty table) qs ≡ false → ((b && is_dirty_key nothing_dirty table q.value) || list_any (has_dirty_key nothing_dirty table) qs) ≡ false
    by true e rest = ap (λ b. b || list_any (has_dirty_key nothing_dirty table) qs) e ∙ rest
    by false e rest = rest

names_nothing : (w : Write) → names_dirty_row nothing_dirty w ≡ false
names_nothing (Insert table row) = refl
names_nothing (Update table changes equals) = none_has_key table equals
names_nothing (Delete table equals) = none_has_key table equals

is_clear-nothing : (table : ℕ) (ps : List Partition) → is_clear nothing_dirty table ps ≡ true
is_clear-nothing table [] = refl
is_clear-nothing table (p ∷ ps) = refl

none_if : {X : Type 0} (p : X → Bool) → ((x : X) → p x ≡ false) → (xs : List X) → list_any p xs ≡ false
none_if p f [] = refl
none_if p f (x ∷ xs) = λ i. f x i || none_if p f xs i

affected_by_nothing : (tables : Tables) (s : Option Action) (X : Content) → is_slot_affected tables nothing_dirty s X ≡ false
affected_by_nothing tables None X = refl
affected_by_nothing tables (Some a) X =
    let rows = none_if (λ (r : RowId). has_row nothing_dirty r.table r.key) (λ r. refl) (rows_touched a X) in
    let names = none_if (names_dirty_row nothing_dirty) names_nothing a.writes in
    let unclear = none_if (λ w. not (is_write_clear tables nothing_dirty w)) (λ w. ap not (is_clear-nothing (table_of w) (partitions_read (columns_in tables (table_of w)) w))) a.writes in
    λ i. rows i || (names i || unclear i)

pub affected_at_first : (tables : Tables) (W : Slots) (E : List Edit) (s : Option Action) (X : Content) → is_slot_affected tables (dirty_after tables W E 0) s X ≡ false
affected_at_first tables W E s X = ap (λ D. is_slot_affected tables D s X) (nothing_is_dirty_at_first tables W E) ∙ affected_by_nothing tables s X
