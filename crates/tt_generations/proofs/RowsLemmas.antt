-- Tables by position, and those that have the rows of row writes.
use Rattle.std.proofs.Common.{◌≡◌, ℕ, zero, suc, ◌<◌, ℤ, Bool, true, false, cond, nat_le, ◌==◌, List, [], ◌∷◌, ◌++◌, fold, length, set, get_or, Option, if◌then◌else◌, refl, sym, ap, subst, ◌∙◌, arith, append-nil, append_assoc}
use Rattle.std.proofs.lemmas.Bool.Decides.{nat_tests}
use Rattle.std.proofs.lemmas.List.{get_or-set_same, get_or-set_other}
use Rattle.std.proofs.lemmas.Option.{slice_get-get_or, get_or_from_slice_get}
use Rattle.std.proofs.lemmas.List.Elements.{filter-append}
use Rattle.std.proofs.lemmas.List.Sums.{fold-append}
use Rattle.tt_values.specs.declared.row.Row.{Row}
use Rattle.tt_values.specs.Content.{RowWrite, row_at, with_row_at, with_row_write, empty_content, up_to}
use Rattle.tt_versions.specs.declared.side.Side.TheVariants.{Current}
use Rattle.tt_versions.specs.Sides.{LineagesByKey, no_lineages, current_of, all_written_from}
use Rattle.tt_versions.specs.RowsByWrites.{rows_by, as_row_writes, AddsRowWritesOf}
use Rattle.tt_versions.proofs.LawProofs.{empty_table_shows_no_rows}
use Rattle.tt_generations.specs.Rows.{TablesByPosition, versions_at, KeepsOthers, CurrentAgrees, AddsEffect, WritesCurrent}

-- no tables have the rows of no row writes
pub CurrentAgrees-empty : CurrentAgrees [] []
CurrentAgrees-empty table = ap current_of (past_end table) ∙ empty_table_shows_no_rows Current
  where
    past_end : (table : ℕ) → versions_at [] table ≡ no_lineages
    past_end zero = refl
    past_end (suc table) = refl

-- an empty table more shows nothing else
pub versions_at-push : (tables : TablesByPosition) → versions_at (tables ++ no_lineages ∷ []) ≡ versions_at tables
versions_at-push tables = λ i t. by tables t i
  where
    none : (t : ℕ) → versions_at [] t ≡ no_lineages
    none zero = refl
    none (suc t) = refl

    by : (ts : TablesByPosition) (t : ℕ) → versions_at (ts ++ no_lineages ∷ []) t ≡ versions_at ts t
    by [] zero = refl
    by [] (suc t) = none t ∙ sym (none (suc t))
    by (x ∷ xs) zero = refl
    by (x ∷ xs) (suc t) = by xs t

pub same_table : (t table : ℕ) → (t == table) ≡ true → t ≡ table
same_table t table e = grind (arith, nat_tests)

itself : (n : ℕ) → (n == n) ≡ true
itself n = grind (arith, nat_tests)

-- one table is set at its position, and the others stay
pub versions_at-set : (tables : TablesByPosition) (position : ℕ) (table : LineagesByKey) (t : ℕ) → position < length tables
    → versions_at (set tables position table) t ≡ (if t == position then table else versions_at tables t)
versions_at-set tables position table t room = by (t == position) refl
  where
    by : (b : Bool) → (t == position) ≡ b → versions_at (set tables position table) t ≡ (if b then table else versions_at tables t)
    by true e = ap (versions_at (set tables position table)) (same_table t position e) ∙ get_or-set_same tables position table no_lineages room
    by false e = get_or-set_other tables position t table no_lineages (λ same. let clash = sym (itself t) ∙ ap (λ p. t == p) same ∙ e in cc)

-- a row write changes no other table
rows_by-other_table : (ws : List RowWrite) (w : RowWrite) (t : ℕ) → (t == w.table) ≡ false → rows_by t (ws ++ w ∷ []) ≡ rows_by t ws
rows_by-other_table ws w t other = λ i q u. (ap (λ vs. row_at (fold with_row_write empty_content vs t) q) (filter-append (λ v. nat_le v.time u) ws (w ∷ [])) ∙ by q u (nat_le w.time u)) i
  where
    by : (q : ℤ) (u : ℕ) (b : Bool) → row_at (fold with_row_write empty_content (up_to u ws ++ cond b (w ∷ []) []) t) q ≡ rows_by t ws q u
    by q u true =
        let X = fold with_row_write empty_content (up_to u ws) in
        ap (λ C. row_at (C t) q) (fold-append with_row_write empty_content (up_to u ws) (w ∷ []))
        ∙ ap (λ b. row_at (if b then with_row_at (X t) w.key w.row else X t) q) other
    by q u false = ap (λ vs. row_at (fold with_row_write empty_content vs t) q) (append-nil (up_to u ws))

-- the effect on one table changes no other
rows_by-other_effect : (effect : List (ℤ × Option Row)) (ws : List RowWrite) (time table t : ℕ) → (t == table) ≡ false → rows_by t (ws ++ as_row_writes time table effect) ≡ rows_by t ws
rows_by-other_effect [] ws time table t other = ap (rows_by t) (append-nil ws)
rows_by-other_effect (e ∷ effect) ws time table t other =
    let w : RowWrite = record { time = time; table = table; key = e.0; row = e.1 } in
    ap (rows_by t) (sym (append_assoc ws (w ∷ []) (as_row_writes time table effect)))
    ∙ rows_by-other_effect effect (ws ++ w ∷ []) time table t other ∙ rows_by-other_table ws w t other

-- a table stands at a position, and the others stay
pub record PutsTable (position : ℕ) (new : LineagesByKey) (before after : TablesByPosition) : Type 0 where
  pub each : (t : ℕ) → versions_at after t ≡ (if t == position then new else versions_at before t)

pub PutsTable-set : (before between : TablesByPosition) (position table : ℕ) (new : LineagesByKey) → position ≡ table → KeepsOthers position before between → position < length between
    → PutsTable table new before (set between position new)
PutsTable-set before between position table new same others room =
    subst (λ n. PutsTable n new before (set between position new)) same (record { each = λ t. versions_at-set between position new t room ∙ by t (t == position) refl })
  where
    by : (t : ℕ) (b : Bool) → (t == position) ≡ b → (if b then new else versions_at between t) ≡ (if b then new else versions_at before t)
    by t true e = refl
    by t false e = others t e

-- where empty tables are added, the table at a position is the one that was there
pub found-added : (before added : TablesByPosition) (position : ℕ) (table : LineagesByKey) → versions_at added ≡ versions_at before → position < length added
    → table ≡ get_or added position table → table ≡ versions_at before position
found-added before added position table same room found =
    found ∙ sym (get_or_from_slice_get added position (get_or added position table) no_lineages (slice_get-get_or added position table room)) ∙ (λ i. same i position)

-- where one table gets an effect, all tables do
pub AddsEffect-put : (before after : TablesByPosition) (table : ℕ) (new : LineagesByKey) (time : ℕ) (effect : List (ℤ × Option Row)) → PutsTable table new before after
    → AddsRowWritesOf (current_of (versions_at before table)) (current_of new) effect time → AddsEffect before after time table effect
AddsEffect-put before after table new time effect puts adds ws agree t = ap current_of (puts.each t) ∙ by (t == table) refl
  where
    further : List RowWrite
    further = as_row_writes time table effect

    by : (b : Bool) → (t == table) ≡ b → current_of (if b then new else versions_at before t) ≡ rows_by t (ws ++ further)
    by true e = adds table ws (agree table) ∙ ap (λ n. rows_by n (ws ++ further)) (sym (same_table t table e))
    by false e = agree t ∙ sym (rows_by-other_effect effect ws time table t e)

pub WritesCurrent-put : (before after : TablesByPosition) (table : ℕ) (new : LineagesByKey) (time : ℕ) (effect : List (ℤ × Option Row)) → PutsTable table new before after
    → current_of new ≡ all_written_from effect time (current_of (versions_at before table)) → WritesCurrent before after time table effect
WritesCurrent-put before after table new time effect puts written t = ap current_of (puts.each t) ∙ by (t == table)
  where
    by : (b : Bool) → current_of (if b then new else versions_at before t)
        ≡ (if b then all_written_from effect time (current_of (versions_at before table)) else current_of (versions_at before t))
    by true = written
    by false = refl

-- what adding empty tables rests on
pub ruleset adds_tables = (versions_at-push)
