-- The versions of one row on both sides, at times 1 to 5.
use Rattle.std.proofs.Common.{◌≡◌, List, [], ◌∷◌, map, Option, None, Some, refl}
use Rattle.tt_values.specs.declared.row.Row.{Row}
use Rattle.tt_values.proofs.worked_rows.Accounts.{ann, bob, eve, account}
use Rattle.tt_versions.specs.declared.side.Side.{Side}
use Rattle.tt_versions.specs.declared.side.Side.TheVariants.{Current, Next}
use Rattle.tt_versions.specs.declared.lineage.Lineage.{Lineage}
use Rattle.tt_versions.specs.Versions.{visible_row}
use Rattle.tt_versions.specs.Lineage.{unwritten, chain_on, with_write_on, split_back, unsplit}

-- three contents of the row
abbrev a : Option Row
a = Some (account 1 ann 10)

abbrev b : Option Row
b = Some (account 1 bob 20)

abbrev c : Option Row
c = Some (account 1 eve 30)

-- the row on a side at times 1 to 5
abbrev rows_on : Side → Lineage → List (Option Row)
rows_on side l = map (λ time. visible_row time (chain_on side l)) (1 ∷ 2 ∷ 3 ∷ 4 ∷ 5 ∷ [])

abbrev Shows : Lineage → List (Option Row) → List (Option Row) → Type 0
Shows l current next = (rows_on Current l ≡ current) × (rows_on Next l ≡ next)

-- written at 1 and 3, rolled back to before 2
abbrev split_row : Lineage
split_row = split_back 2 (with_write_on Current b 3 (with_write_on Current a 1 unwritten))

rolled_back : Shows split_row (a ∷ a ∷ b ∷ b ∷ b ∷ []) (a ∷ a ∷ a ∷ a ∷ a ∷ [])
rolled_back = (refl, refl)

-- then written on the next side at 4, and deleted on the current side at 5
abbrev both_written : Lineage
both_written = with_write_on Current None 5 (with_write_on Next c 4 split_row)

written_on_each_side : Shows both_written (a ∷ a ∷ b ∷ b ∷ None ∷ []) (a ∷ a ∷ a ∷ c ∷ c ∷ [])
written_on_each_side = (refl, refl)

after_a_switch : Shows (unsplit Next both_written) (a ∷ a ∷ a ∷ c ∷ c ∷ []) (a ∷ a ∷ a ∷ c ∷ c ∷ [])
after_a_switch = (refl, refl)

after_an_abort : Shows (unsplit Current both_written) (a ∷ a ∷ b ∷ b ∷ None ∷ []) (a ∷ a ∷ b ∷ b ∷ None ∷ [])
after_an_abort = (refl, refl)

-- a row that was deleted before the time of a rollback stays deleted
deleted_row_stays_deleted :
    Shows (split_back 3 (with_write_on Current b 3 (with_write_on Current None 2 (with_write_on Current a 1 unwritten))))
    (a ∷ None ∷ b ∷ b ∷ b ∷ []) (a ∷ None ∷ None ∷ None ∷ None ∷ [])
deleted_row_stays_deleted = (refl, refl)

-- a split row without versions: a current write doesn't reach the next side
split_before_it_is_written : Shows (with_write_on Current a 2 (split_back 1 unwritten)) (None ∷ a ∷ a ∷ a ∷ a ∷ []) (None ∷ None ∷ None ∷ None ∷ None ∷ [])
split_before_it_is_written = (refl, refl)

-- a second rollback starts from the next side
rolled_back_twice : Shows (split_back 4 both_written) (a ∷ a ∷ b ∷ b ∷ None ∷ []) (a ∷ a ∷ a ∷ a ∷ a ∷ [])
rolled_back_twice = (refl, refl)
