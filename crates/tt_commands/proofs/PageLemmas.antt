-- Pages of rows.
use Rattle.std.proofs.Common.{◌≡◌, List, [], ◌∷◌, None, refl, ap}
use Rattle.tt_values.specs.declared.row.Row.{Row}
use Rattle.tt_db.specs.Pages.{rows_after}

-- all rows, where no key is given
pub all_pass : (rows : List Row) → rows_after None rows ≡ rows
all_pass [] = refl
all_pass (row ∷ rows) = ap (λ rs. row ∷ rs) (all_pass rows)
