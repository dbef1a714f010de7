-- The texts of the faults of a catalog, of a statement and of an action.
use Rattle.std.specs.Prelude.{ℕ, List, Option, Some, None, Result, Ok, codes, ⊤}
use Rattle.tt_values.specs.declared.catalog.CatalogError.{CatalogError}
use Rattle.tt_values.specs.declared.catalog.CatalogError.TheVariants as tables
use Rattle.tt_values.specs.declared.checking.CheckError.{CheckError}
use Rattle.tt_values.specs.declared.checking.CheckError.TheVariants as statements
use Rattle.tt_grammar.specs.declared.fault.DocFault.{DocFault}
use Rattle.tt_grammar.specs.Fault.{refuse}

-- no fault, or else the value is refused for it
abbrev pub judge : {E : Type 0} → (E → List ℕ) → Option E → Result ⊤ DocFault
judge cause_of None = Ok tt
judge cause_of (Some fault) = refuse (cause_of fault)

-- why a table is refused (running out of memory is no fault of the document)
abbrev pub cause_of_catalog : CatalogError → List ℕ
cause_of_catalog tables.BadName = codes "bad name"
cause_of_catalog tables.SameTable = codes "table named twice"
cause_of_catalog tables.NoColumns = codes "no columns"
cause_of_catalog tables.KeyNotInt = codes "first column is not int"
cause_of_catalog tables.SameColumn = codes "column named twice"
cause_of_catalog tables.TooMany = codes "too many tables or columns"
cause_of_catalog tables.Memory = codes "out of memory"

-- why a statement or an action is refused
abbrev pub cause_of_check : CheckError → List ℕ
cause_of_check statements.NoTable = codes "no such table"
cause_of_check statements.NoColumn = codes "no such column"
cause_of_check statements.WrongKind = codes "value of the wrong kind"
cause_of_check statements.WrongWidth = codes "row of the wrong width"
cause_of_check statements.TextTooLong = codes "text too long"
cause_of_check statements.SetsKey = codes "key set by an update"
cause_of_check statements.SameColumnTwice = codes "column changed twice"
cause_of_check statements.TooManyEquals = codes "too many equalities"
cause_of_check statements.TooManyWrites = codes "too many writes"
