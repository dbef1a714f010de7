-- One page of what stands by rising key: of what has greater keys than one, the first, and whether more follows.
use Rattle.std.specs.Prelude.{◌≡◌, ℕ, ℤ, int_lt, nat_lt, Bool, true, List, length, take, filter, Option, None, Some}
use Rattle.tt_values.specs.declared.statement.Equal.{Equal}
use Rattle.tt_values.specs.Content.{RowsByKey}
use Rattle.tt_values.specs.Effect.{matching_rows}
use Rattle.tt_versions.specs.declared.table.page.PageQuery.{PageQuery}
use Rattle.tt_versions.specs.Sides.{LineagesByKey, RowsOverTime, side_of, ListsRows}
use Rattle.tt_versions.specs.Matching.{ListsMatches}

-- whether a key is greater than this one, if one is given
abbrev pub is_after : Option ℤ → ℤ → Bool
is_after None key = true
is_after (Some low) key = int_lt low key

-- what has a greater key than this one, if one is given
abbrev pub those_after : {V : Type 0} → Option ℤ → List (ℤ × V) → List (ℤ × V)
those_after low es = filter (λ e. is_after low e.0) es

-- of some rows, the first with greater keys than this one, at most this number, and whether more follow
pub record IsPage (es : RowsByKey) (follow : Bool) (low : Option ℤ) (most : ℕ) (whole : RowsByKey) : Type 0 where
  pub rows : es ≡ take most (those_after low whole)
  pub more : follow ≡ nat_lt most (length (those_after low whole))

-- a page of the list that has the row of each key at a time, if it matches
pub record ListsPage (es : RowsByKey) (follow : Bool) (low : Option ℤ) (most : ℕ) (equals : List Equal) (rows : RowsOverTime) (time : ℕ) : Type 0 where
  pub whole : RowsByKey
  pub lists : ListsMatches whole equals rows time
  pub page : IsPage es follow low most whole

-- a page of a table, as a query asks for it
abbrev pub ListsPageOf : PageQuery → LineagesByKey → RowsByKey → Bool → Type 0
ListsPageOf q t es follow = ListsPage es follow q.after q.most q.equals.now (side_of t q.side) q.time

-- of whatever list has the rows of a side at a time, a page of those that match
abbrev pub ListsMatchingPage : RowsByKey → Bool → Option ℤ → ℕ → List Equal → RowsOverTime → ℕ → Type 0
ListsMatchingPage es follow low most equals rows time = (all : RowsByKey) → ListsRows all rows time → IsPage es follow low most (matching_rows equals all)
