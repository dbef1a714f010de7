-- What one more row write, or a rollback, does to the rows that a list of row writes leaves.
use Rattle.std.proofs.Common.{◌≡◌, ℕ, zero, suc, ◌<◌, ◌≤◌, ℤ, Bool, true, false, cond, not, ◌&&◌, nat_le, ◌==◌, List, [], ◌∷◌, ◌++◌, filter, fold, Option, None, if◌then◌else◌, refl, sym, ap, ◌∙◌, arith, append-nil, append_assoc}
use Rattle.std.proofs.lemmas.Bool.Decides.{nat_tests}
use Rattle.std.proofs.lemmas.List.Elements.{filter-append}
use Rattle.std.proofs.lemmas.List.Sums.{fold-append}
use Rattle.std.specs.Ordering.{int_eq}
use Rattle.tt_values.specs.declared.row.Row.{Row}
use Rattle.tt_values.specs.Content.{RowWrite, Content, content_at, row_at, with_row_write, empty_content, up_to, last_row_written_or}
use Rattle.tt_values.proofs.LawProofs.{row_write_changes_one_row, last_row_write_counts}
use Rattle.tt_versions.specs.Sides.{all_written_from, RowsOverTime, written_from, rolled_back_from, just_before}
use Rattle.tt_versions.specs.RowsByWrites.{as_row_writes, AddsRowWritesOf, rows_by, without_row_writes, AddsRowWrite, DropsRowWrites}
use Rattle.tt_versions.proofs.VersionsLemmas.{early, late, filter-twice}
use Rattle.tt_versions.proofs.SidesLemmas.{same_key}

itself : (n : ℕ) → (n == n) ≡ true
itself n = grind (arith, nat_tests)

-- one more row write counts from its time on
pub rows_by-append : (table : ℕ) (ws : List RowWrite) (key : ℤ) (row : Option Row) (time : ℕ) → written_from key row time (rows_by table ws) ≡ rows_by table (ws ++ record { time = time; table = table; key = key; row = row } ∷ [])
rows_by-append table ws key row time = λ i q u. (by q u (nat_le time u) ∙ sym (ap (λ vs. row_at (fold with_row_write empty_content vs table) q) (filter-append (λ v. nat_le v.time u) ws (w ∷ [])))) i
  where
    w : RowWrite
    w = record { time = time; table = table; key = key; row = row }

    at_key : (X : Content) (q : ℤ) → row_at (with_row_write X w table) q ≡ (if int_eq q key && true then row else row_at (X table) q)
    at_key X q = row_write_changes_one_row X w table q ∙ ap (λ b. cond (b && int_eq q key) row (row_at (X table) q)) (itself table) ∙ turned (int_eq q key)
      where
        turned : (b : Bool) → cond (true && b) row (row_at (X table) q) ≡ (if b && true then row else row_at (X table) q)
        turned true = refl
        turned false = refl

    never : (b : Bool) (o : Option Row) → (if b && false then row else o) ≡ o
    never true o = refl
    never false o = refl

    by : (q : ℤ) (u : ℕ) (b : Bool) → (if int_eq q key && b then row else rows_by table ws q u) ≡ row_at (fold with_row_write empty_content (up_to u ws ++ cond b (w ∷ []) []) table) q
    by q u true = sym (ap (λ X. row_at (X table) q) (fold-append with_row_write empty_content (up_to u ws) (w ∷ [])) ∙ at_key (content_at ws u) q)
    by q u false = never (int_eq q key) (rows_by table ws q u) ∙ sym (ap (λ vs. row_at (fold with_row_write empty_content vs table) q) (append-nil (up_to u ws)))

filter-none : {X : Type 0} (p : X → Bool) → ((x : X) → p x ≡ false) → (xs : List X) → filter p xs ≡ []
filter-none p none [] = refl
filter-none p none (x ∷ xs) = ap (λ b. cond b (x ∷ filter p xs) (filter p xs)) (none x) ∙ filter-none p none xs

-- the tests of a rolled back list: on the key itself from the time on, on it before, and on another key
from_later : (b : Bool) (n t u : ℕ) → n < u → (not (b && nat_le (suc n) t) && (nat_le t u && b)) ≡ (nat_le t n && b)
from_later true n t u h = grind (arith, nat_tests)
from_later false n t u h = grind (arith, nat_tests)

from_zero : (b : Bool) (t u : ℕ) → (not (b && nat_le zero t) && (nat_le t u && b)) ≡ false
from_zero true t u = grind (arith, nat_tests)
from_zero false t u = grind (arith, nat_tests)

from_earlier : (b : Bool) (time t u : ℕ) → u < time → (not (b && nat_le time t) && (nat_le t u && b)) ≡ (nat_le t u && b)
from_earlier true time t u h = grind (arith, nat_tests)
from_earlier false time t u h = grind (arith, nat_tests)

elsewhere : (b x y : Bool) (time t u : ℕ) → (x ≡ true → y ≡ false) → (not (b && x && nat_le time t) && (nat_le t u && (b && y))) ≡ (nat_le t u && (b && y))
elsewhere true true y time t u apart = ap (λ c. not (nat_le time t) && (nat_le t u && c)) (apart refl) ∙ both (nat_le time t) (nat_le t u) ∙ sym (ap (λ c. nat_le t u && c) (apart refl))
  where
    both : (a c : Bool) → (not a && (c && false)) ≡ (c && false)
    both true true = refl
    both true false = refl
    both false c = refl
elsewhere true false y time t u apart = refl
elsewhere false x y time t u apart = refl

apart : (q key : ℤ) → int_eq q key ≡ false → (k : ℤ) → int_eq key k ≡ true → int_eq q k ≡ false
apart q key e k same = ap (int_eq q) (sym (same_key key k same)) ∙ e

-- from the time of a rollback on, the key has what it had just before
pub rows_by-without_row_writes : (table : ℕ) (ws : List RowWrite) (key : ℤ) (time : ℕ) → rolled_back_from key time (rows_by table ws) ≡ rows_by table (without_row_writes table key time ws)
rows_by-without_row_writes table ws key time = λ i q u. (by q u (int_eq q key) refl (nat_le time u) refl ∙ sym (back q u time)) i
  where
    is_for : ℤ → RowWrite → Bool
    is_for q w = (table == w.table) && int_eq q w.key

    stays : ℕ → RowWrite → Bool
    stays t w = not (is_for key w && nat_le t w.time)

    last_of : (q : ℤ) (u : ℕ) → rows_by table ws q u ≡ last_row_written_or None (filter (λ w. nat_le w.time u && is_for q w) ws)
    last_of q u = last_row_write_counts (up_to u ws) empty_content table q ∙ ap (last_row_written_or None) (filter-twice (is_for q) (λ w. nat_le w.time u) ws)

    back : (q : ℤ) (u t : ℕ) → rows_by table (without_row_writes table key t ws) q u ≡ last_row_written_or None (filter (λ w. stays t w && (nat_le w.time u && is_for q w)) ws)
    back q u t =
        last_row_write_counts (up_to u (filter (stays t) ws)) empty_content table q
        ∙ ap (last_row_written_or None) (filter-twice (is_for q) (λ w. nat_le w.time u) (filter (stays t) ws) ∙ filter-twice (λ w. nat_le w.time u && is_for q w) (stays t) ws)

    later : (u t : ℕ) → t ≤ u → just_before t (rows_by table ws key) ≡ last_row_written_or None (filter (λ w. stays t w && (nat_le w.time u && is_for key w)) ws)
    later u zero h = sym (ap (last_row_written_or None) (filter-none (λ w. stays zero w && (nat_le w.time u && is_for key w)) (λ w. from_zero (is_for key w) w.time u) ws))
    later u (suc n) h = last_of key n ∙ ap (λ p. last_row_written_or None (filter p ws)) (λ i w. sym (from_later (is_for key w) n w.time u (omega arith)) i)

    by : (q : ℤ) (u : ℕ) (b : Bool) → int_eq q key ≡ b → (c : Bool) → nat_le time u ≡ c
        → (if b && c then just_before time (rows_by table ws key) else rows_by table ws q u) ≡ last_row_written_or None (filter (λ w. stays time w && (nat_le w.time u && is_for q w)) ws)
    by q u true e true f = later u time (late time u f) ∙ ap (λ k. last_row_written_or None (filter (λ w. stays time w && (nat_le w.time u && is_for k w)) ws)) (sym (same_key q key e))
    by q u true e false f =
        last_of q u
        ∙ ap (λ k. last_row_written_or None (filter (λ w. nat_le w.time u && is_for k w) ws)) (same_key q key e)
        ∙ ap (λ p. last_row_written_or None (filter p ws)) (λ i w. sym (from_earlier (is_for key w) time w.time u (early time u f)) i)
        ∙ ap (λ k. last_row_written_or None (filter (λ w. stays time w && (nat_le w.time u && is_for k w)) ws)) (sym (same_key q key e))
    by q u false e c f = last_of q u ∙ ap (λ p. last_row_written_or None (filter p ws)) (λ i w. sym (elsewhere (table == w.table) (int_eq key w.key) (int_eq q w.key) time w.time u (apart q key e w.key)) i)

-- a side on which a row was written follows its list of row writes
pub adds_row_write : (before after : RowsOverTime) (key : ℤ) (row : Option Row) (time : ℕ) → after ≡ written_from key row time before → AddsRowWrite before after key row time
adds_row_write before after key row time is table ws follows = is ∙ ap (written_from key row time) follows ∙ rows_by-append table ws key row time

-- so does one on which several rows were written, one after another
pub adds_row_writes : (es : List (ℤ × Option Row)) (before after : RowsOverTime) (time : ℕ) → after ≡ all_written_from es time before → AddsRowWritesOf before after es time
adds_row_writes [] before after time is table ws follows = is ∙ follows ∙ ap (rows_by table) (sym (append-nil ws))
adds_row_writes (e ∷ es) before after time is table ws follows =
    let w : RowWrite = record { time = time; table = table; key = e.0; row = e.1 } in
    adds_row_writes es (written_from e.0 e.1 time before) after time is table (ws ++ w ∷ [])
    (adds_row_write before (written_from e.0 e.1 time before) e.0 e.1 time refl table ws follows)
    ∙ ap (rows_by table) (append_assoc ws (w ∷ []) (as_row_writes time table es))

-- and so does one on which a row was rolled back
pub drops_row_writes : (before after : RowsOverTime) (key : ℤ) (time : ℕ) → after ≡ rolled_back_from key time before → DropsRowWrites before after key time
drops_row_writes before after key time is table ws follows = is ∙ ap (rolled_back_from key time) follows ∙ rows_by-without_row_writes table ws key time
