-- The edits of a repair by the numbers of their slots.
use Rattle.std.specs.Prelude.{◌≡◌, ℕ, ℤ, pos, List}
use Rattle.std.specs.Option.{option_map}
use Rattle.std.specs.Ordering.{int_cmp}
use Rattle.std.specs.FinMap.Entries as sorted
use Rattle.tt_repair_laws.specs.declared.edit.Edit.{Edit}
use Rattle.tt_repair_laws.specs.Edits.{edit_of, replacement_of}
use Rattle.tt_generations.specs.declared.edits.Replacement.{Replacement}

-- a map has the replacement of each slot with an edit, by its number
abbrev pub HasEdits : List (ℤ × Replacement) → List Edit → Type 0
HasEdits replacements E = (t : ℕ) → sorted.find int_cmp (pos t) replacements ≡ option_map (λ e. record { action = replacement_of e }) (edit_of E t)
