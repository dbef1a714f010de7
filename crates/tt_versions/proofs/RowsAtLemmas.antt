-- The rows of a side at a time, as the entries of a table have them.
use Rattle.std.proofs.Common.{◌≡◌, ℕ, ℤ, true, Option, None, Some, IsTrue, T, refl, sym, ap, subst, ◌∙◌}
use Rattle.std.specs.Option.{unwrap_or, option_and_then}
use Rattle.std.specs.Ordering.{int_cmp}
use Rattle.std.specs.Cmp.{int_cmp_total}
use Rattle.std.specs.FinMap.{int_cmp-IsAntisymmetric}
use Rattle.std.specs.FinMap.Entries as sorted
use Rattle.tt_values.specs.Content.{RowsByKey, content_at, row_at}
use Rattle.tt_values.proofs.LawProofs.{rows_rise}
use Rattle.tt_versions.specs.declared.side.Side.{Side}
use Rattle.tt_versions.specs.declared.lineage.Lineage.{Lineage}
use Rattle.tt_versions.specs.Versions.{visible_row}
use Rattle.tt_versions.specs.Lineage.{unwritten, chain_on}
use Rattle.tt_versions.specs.Sides.{LineagesByKey, RowsOverTime, lineage_at, side_of, ListsRows}
use Rattle.tt_versions.specs.RowsByWrites.{ListsContent}
use Rattle.tt_versions.proofs.SidesLemmas.{visible_row-unwritten}
use Rattle.tt_versions.proofs.EntriesByLemmas.{entries_by, is_sorted-entries_by, find-entries_by}

-- the rows of a side at a time, entry by entry
abbrev pub rows_of : ℕ → Side → LineagesByKey → RowsByKey
rows_of time side t = entries_by (λ key l. visible_row time (chain_on side l)) t

-- at each key the list has the row of the side
finds : (t : LineagesByKey) (time : ℕ) (side : Side) → sorted.is_sorted int_cmp t ≡ true → (q : ℤ) → row_at (rows_of time side t) q ≡ visible_row time (chain_on side (lineage_at t q))
finds t time side h q = find-entries_by (λ key l. visible_row time (chain_on side l)) t q h ∙ by (sorted.find int_cmp q t)
  where
    by : (o : Option Lineage) → option_and_then (λ l. visible_row time (chain_on side l)) o ≡ visible_row time (chain_on side (unwrap_or o unwritten))
    by None = sym (visible_row-unwritten time side)
    by (Some l) = refl

pub lists_rows : (es : RowsByKey) (t : LineagesByKey) (time : ℕ) (side : Side) → IsTrue (sorted.is_sorted int_cmp t) → es ≡ rows_of time side t → ListsRows es (side_of t side) time
unfolding side_of
lists_rows es t time side h is =
    record { sorted = ap (sorted.is_sorted int_cmp) is ∙ is_sorted-entries_by (λ key l. visible_row time (chain_on side l)) t h; finds = λ q. ap (λ rows. row_at rows q) is ∙ finds t time side h q }

-- where a side has the rows that row writes leave, its rows by rising key are the content of the table
pub lists_content : (es : RowsByKey) (rows : RowsOverTime) (time : ℕ) → ListsRows es rows time → ListsContent es rows time
lists_content es rows time l table ws follows =
    sorted.same_entries int_cmp int_cmp_total int_cmp-IsAntisymmetric es (content_at ws time table) (subst T (sym l.sorted) tt) (subst T (sym (rows_rise ws time table)) tt)
    (λ q. l.finds q ∙ (λ i. follows i q time))
