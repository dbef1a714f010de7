-- One page of the rows that a select has.
use Rattle.std.specs.Prelude.{◌≡◌, ℕ, ℤ, nat_lt, map, length, take, Option}
use Rattle.tt_values.specs.declared.statement.Select.{Select}
use Rattle.tt_values.specs.Content.{RowsByKey, Content}
use Rattle.tt_values.specs.Effect.{matching_rows}
use Rattle.tt_versions.specs.Sides.{RowsOverTime, ListsRows}
use Rattle.tt_versions.specs.Pages.{those_after}
use Rattle.tt_generations.specs.declared.first_rows.FirstRows.{FirstRows}

-- of some rows, the first with greater keys than this one, at most this number, and whether more follow
abbrev pub page_of_rows : Option ℤ → ℕ → RowsByKey → FirstRows
page_of_rows low most es = record { rows = map (λ e. e.1) (take most (those_after low es)); more = nat_lt most (length (those_after low es)) }

-- a page of the rows that a select has on a content
abbrev pub page_of_select : Select → Option ℤ → ℕ → Content → FirstRows
page_of_select q low most X = page_of_rows low most (matching_rows q.equals (X q.table))

-- a page is right for a select, where its table shows these rows over time
abbrev pub IsPageOn : FirstRows → Select → Option ℤ → ℕ → RowsOverTime → ℕ → Type 0
IsPageOn page q low most rows time = (all : RowsByKey) → ListsRows all rows time → page ≡ page_of_rows low most (matching_rows q.equals all)
