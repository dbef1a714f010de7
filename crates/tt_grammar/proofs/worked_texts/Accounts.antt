-- A table of accounts, whose rows and writes are printed.
use Rattle.std.specs.Prelude.{ℕ, ℤ, true, false, List, [], ◌∷◌, codes}
use Rattle.tt_values.specs.declared.value.Value.TheVariants as values
use Rattle.tt_values.specs.declared.value.Kind.TheVariants as kinds
use Rattle.tt_values.specs.declared.row.Row.{Row}
use Rattle.tt_values.specs.Tables.{Tables}

-- the table
abbrev pub accounts : Tables
accounts = (
  codes "acct",
  record {
    columns =
        record { name = codes "id"; kind = kinds.Int; partition = false }
        ∷ record { name = codes "owner"; kind = kinds.Text; partition = true }
        ∷ record { name = codes "bal"; kind = kinds.Int; partition = false }
        ∷ [];
  },
)
    ∷ []

-- a row of it
abbrev pub account : ℤ → List ℕ → ℤ → Row
account id owner balance = record { values = values.Int id ∷ values.Text owner ∷ values.Int balance ∷ [] }
