-- Lists of rows that are the same.
use Rattle.std.proofs.Common.{◌≡◌, true, ◌==◌, List, [], ◌∷◌, length, refl, arith, eqb-true}
use Rattle.std.specs.List.{list_all, zip}
use Rattle.std.specs.Ordering.{int_eq}
use Rattle.std.proofs.lemmas.Bool.{and_parts}
use Rattle.std.proofs.lemmas.Bool.Decides.{Decides-int_eq}
use Rattle.tt_values.specs.declared.row_id.RowId.{RowId}
use Rattle.tt_generations.specs.RowIds.{is_same_row}

are_same-head : (r s : RowId) → is_same_row r s ≡ true → r ≡ s
are_same-head r s h =
    let both = and_parts (r.table == s.table) (int_eq r.key s.key) h in
    let table : r.table ≡ s.table = eqb-true r.table s.table both.0 in
    let key : r.key ≡ s.key = (Decides-int_eq r.key s.key).0 both.1 in
    λ i. record { table = table i; key = key i }

-- lists of one length with the same rows in turn are the same
pub same_lists : (rs ss : List RowId) → length rs ≡ length ss → list_all (λ p. is_same_row p.0 p.1) (zip rs ss) ≡ true → rs ≡ ss
same_lists [] [] many h = refl
same_lists [] (s ∷ ss) many h = cc
same_lists (r ∷ rs) [] many h = cc
same_lists (r ∷ rs) (s ∷ ss) many h =
    let both = and_parts (is_same_row r s) (list_all (λ p. is_same_row p.0 p.1) (zip rs ss)) h in
    let fewer : length rs ≡ length ss = omega (arith, many) in
    λ i. are_same-head r s both.0 i ∷ same_lists rs ss fewer both.1 i
