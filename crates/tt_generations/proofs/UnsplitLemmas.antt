-- Tables of which both sides show what one side showed.
use Rattle.std.proofs.Common.{◌≡◌, ℕ, zero, suc, ◌+◌, ◌<◌, ◌≤◌, Bool, true, false, [], ◌∷◌, length, set, ◌==◌, nat_lt, if◌then◌else◌, refl, ◌∙◌, sym, ap, subst, arith}
use Rattle.std.proofs.lemmas.Bool.Decides.{nat_tests}
use Rattle.tt_versions.specs.declared.side.Side.{Side}
use Rattle.tt_versions.specs.Sides.{LineagesByKey, no_lineages, side_of, is_split, none_split}
use Rattle.tt_versions.proofs.LawProofs.{empty_table_shows_no_rows, empty_table_splits_nothing}
use Rattle.tt_generations.specs.Rows.{TablesByPosition, versions_at, ShowsSide}
use Rattle.tt_generations.proofs.RowsLemmas.{same_table, versions_at-set}

-- both sides of a table show what this one showed, and no row is split
pub record ShowsSideOf (side : Side) (before after : LineagesByKey) : Type 0 where
  pub rows : (either : Side) → side_of after either ≡ side_of before side
  pub whole : is_split after ≡ none_split

-- the first tables show the side, and the others are as they were
pub record ShowsSideBefore (side : Side) (n : ℕ) (before now : TablesByPosition) : Type 0 where
  pub done : (t : ℕ) → t < n → ShowsSideOf side (versions_at before t) (versions_at now t)
  pub left : (t : ℕ) → n ≤ t → versions_at now t ≡ versions_at before t

pub ShowsSideBefore-none : (side : Side) (tables : TablesByPosition) → ShowsSideBefore side 0 tables tables
ShowsSideBefore-none side tables = record { done = λ t within. absurd (omega (arith, within)); left = λ t beyond. refl }

-- one table more does
pub ShowsSideBefore-next : (side : Side) (n : ℕ) (before now : TablesByPosition) (new : LineagesByKey) → n < length now → ShowsSideOf side (versions_at now n) new
    → ShowsSideBefore side n before now → ShowsSideBefore side (n + 1) before (set now n new)
ShowsSideBefore-next side n before now new room shows sofar = record { done = λ t within. done t within (t == n) refl; left = left }
  where
    here : ShowsSideOf side (versions_at before n) new
    here = subst (λ (v : LineagesByKey). ShowsSideOf side v new) (sofar.left n (omega arith)) shows

    apart : (t : ℕ) → (t == n) ≡ false → t < n + 1 → t < n
    apart t e within = grind (arith, nat_tests)

    other : (t : ℕ) → n < t → (t == n) ≡ false
    other t beyond = grind (arith, nat_tests)

    at : (t : ℕ) (b : Bool) → (t == n) ≡ b → versions_at (set now n new) t ≡ (if b then new else versions_at now t)
    at t b e = versions_at-set now n new t room ∙ ap (λ (b : Bool). if b then new else versions_at now t) e

    done : (t : ℕ) → t < n + 1 → (b : Bool) → (t == n) ≡ b → ShowsSideOf side (versions_at before t) (versions_at (set now n new) t)
    done t within true e =
        subst (λ (v : LineagesByKey). ShowsSideOf side (versions_at before t) v) (sym (at t true e))
        (subst (λ (k : ℕ). ShowsSideOf side (versions_at before k) new) (sym (same_table t n e)) here)
    done t within false e = subst (λ (v : LineagesByKey). ShowsSideOf side (versions_at before t) v) (sym (at t false e)) (sofar.done t (apart t e within))

    left : (t : ℕ) → n + 1 ≤ t → versions_at (set now n new) t ≡ versions_at before t
    left t beyond = at t false (other t (omega (arith, beyond))) ∙ sofar.left t (omega (arith, beyond))

-- once all tables do, each position does: past the end no table has rows
pub ShowsSideBefore-all : (side : Side) (n : ℕ) (before now : TablesByPosition) → length now ≤ n → ShowsSideBefore side n before now → ShowsSide side before now
ShowsSideBefore-all side n before now all sofar = record { rows = λ t either. (shows t (nat_lt t n) refl).rows either; whole = λ t. (shows t (nat_lt t n) refl).whole }
  where
    past_end : (tables : TablesByPosition) (t : ℕ) → length tables ≤ t → versions_at tables t ≡ no_lineages
    past_end [] zero beyond = refl
    past_end [] (suc t) beyond = refl
    past_end (x ∷ xs) zero beyond = absurd (omega (arith, beyond))
    past_end (x ∷ xs) (suc t) beyond = past_end xs t (omega (arith, beyond))

    without_rows : ShowsSideOf side no_lineages no_lineages
    without_rows = record { rows = λ either. empty_table_shows_no_rows either ∙ sym (empty_table_shows_no_rows side); whole = empty_table_splits_nothing }

    within : (t : ℕ) → nat_lt t n ≡ true → t < n
    within t e = grind (arith, nat_tests)

    beyond : (t : ℕ) → nat_lt t n ≡ false → n ≤ t
    beyond t e = grind (arith, nat_tests)

    shows : (t : ℕ) (b : Bool) → nat_lt t n ≡ b → ShowsSideOf side (versions_at before t) (versions_at now t)
    shows t true e = sofar.done t (within t e)
    shows t false e =
        let none : versions_at now t ≡ no_lineages = past_end now t (omega (arith, all, beyond t e)) in
        let same : versions_at before t ≡ no_lineages = sym (sofar.left t (beyond t e)) ∙ none in
        subst (λ (v : LineagesByKey). ShowsSideOf side v (versions_at now t)) (sym same)
        (subst (λ (v : LineagesByKey). ShowsSideOf side no_lineages v) (sym none) without_rows)
