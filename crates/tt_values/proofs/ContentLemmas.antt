-- The laws of contents: the row of each key after row writes, and the order of rows.
use Rattle.std.proofs.Common.{◌≡◌, ℕ, Bool, true, false, cond, not, ◌&&◌, ◌==◌, ℤ, List, [], ◌∷◌, fold, IsTrue, Option, None, Some, if◌then◌else◌, refl, sym, ap, subst, ◌∙◌, T}
use Rattle.std.specs.Ordering.{int_cmp, int_eq, is_eq}
use Rattle.std.specs.Cmp.{int_cmp_total}
use Rattle.std.specs.FinMap.Entries as sorted
use Rattle.tt_values.specs.declared.row.Row.{Row}
use Rattle.tt_values.specs.Content.{RowsByKey, Content, row_at, with_row_at, RowWrite, with_row_write, empty_content, up_to, for_key, last_row_written, last_row_written_or}
use Rattle.tt_values.specs.Laws.{ShowsLastRowWrite, RowsRise, OneKeyChanges, RowsStayByRisingKey, RowWriteChangesOneRow, LastRowWriteCounts}

cond-not : {A : Type 0} → (b : Bool) (x : A) (y : A) → cond (not b) x y ≡ cond b y x
cond-not true x y = refl
cond-not false x y = refl

pub one_key_changes : OneKeyChanges
one_key_changes rows key None q =
    sorted.find-where_key int_cmp (λ k. not (int_eq k key)) q (λ x t. ap (λ o. not (is_eq o)) (sym (int_cmp_total.congr q x key t))) rows ∙ cond-not (int_eq q key) (row_at rows q) None
one_key_changes rows key (Some row) q = sorted.find-put int_cmp int_cmp_total q key row rows

pub is_sorted-with_row_at : (rows : RowsByKey) (key : ℤ) (row : Option Row) → T (sorted.is_sorted int_cmp rows) → T (sorted.is_sorted int_cmp (with_row_at rows key row))
is_sorted-with_row_at rows key None h = sorted.is_sorted-where_key int_cmp (λ k. not (int_eq k key)) rows h
is_sorted-with_row_at rows key (Some row) h = sorted.is_sorted-put int_cmp int_cmp_total key row rows h

pub row_write_changes_one_row : RowWriteChangesOneRow
row_write_changes_one_row X w table q =
    elim (table == w.table) as (λ b. row_at (if b then with_row_at (X table) w.key w.row else X table) q ≡ cond (b && int_eq q w.key) w.row (row_at (X table) q)) [
      | true ↦ one_key_changes (X table) w.key w.row q
      | false ↦ refl
    ]

last_row_written_or-cond : (b : Bool) (d : Option Row) (w : RowWrite) (ws : List RowWrite) → last_row_written_or d (cond b (w ∷ ws) ws) ≡ last_row_written_or (cond b w.row d) ws
last_row_written_or-cond true d w ws = refl
last_row_written_or-cond false d w ws = refl

last_row_written_or-None : (d : Option Row) (w : RowWrite) (ws : List RowWrite) → last_row_written_or d (w ∷ ws) ≡ last_row_written (w ∷ ws)
last_row_written_or-None d w [] = refl
last_row_written_or-None d w (v ∷ ws) = last_row_written_or-None w.row v ws

last_row_written_or-None-is : (ws : List RowWrite) → last_row_written_or None ws ≡ last_row_written ws
last_row_written_or-None-is [] = refl
last_row_written_or-None-is (w ∷ ws) = last_row_written_or-None None w ws

pub last_row_write_counts : LastRowWriteCounts
last_row_write_counts [] X table q = refl
last_row_write_counts (w ∷ ws) X table q =
    last_row_write_counts ws (with_row_write X w) table q
    ∙ ap (λ d. last_row_written_or d (for_key table q ws)) (row_write_changes_one_row X w table q)
    ∙ sym (last_row_written_or-cond ((table == w.table) && int_eq q w.key) (row_at (X table) q) w (for_key table q ws))

pub shows_last_row_write : ShowsLastRowWrite
shows_last_row_write ws time table key = last_row_write_counts (up_to time ws) empty_content table key ∙ last_row_written_or-None-is (for_key table key (up_to time ws))

pub is_sorted-fold : (ws : List RowWrite) (X : Content) (table : ℕ) → T (sorted.is_sorted int_cmp (X table)) → T (sorted.is_sorted int_cmp (fold with_row_write X ws table))
is_sorted-fold [] X table h = h
is_sorted-fold (w ∷ ws) X table h = is_sorted-fold ws (with_row_write X w) table (by (table == w.table))
  where
    by : (b : Bool) → T (sorted.is_sorted int_cmp (if b then with_row_at (X table) w.key w.row else X table))
    by true = is_sorted-with_row_at (X table) w.key w.row h
    by false = h

pub true_from_T : (b : Bool) → T b → IsTrue b
true_from_T true h = refl
true_from_T false h = absurd h

pub rows_rise : RowsRise
rows_rise ws time table = true_from_T _ (is_sorted-fold (up_to time ws) empty_content table tt)

pub rows_stay_by_rising_key : RowsStayByRisingKey
rows_stay_by_rising_key rows key row sorted_before = true_from_T _ (is_sorted-with_row_at rows key row (subst T (sym sorted_before) tt))
