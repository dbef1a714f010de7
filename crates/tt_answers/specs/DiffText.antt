-- Rows that differ between the generations, as they are printed.
use Rattle.std.specs.Prelude.{ℕ, List, [], ◌∷◌, Option, option_map, codes}
use Rattle.std.specs.Fmt.{signed_decimal}
use Rattle.tt_values.specs.declared.row.Row.{Row}
use Rattle.tt_values.specs.Tables.{Tables}
use Rattle.tt_grammar.specs.Printing.{row_text}
use Rattle.tt_grammar.specs.JsonText.{Member, object_text, text_or_null}
use Rattle.tt_answers.specs.declared.answer.DiffEntry.{DiffEntry}
use Rattle.tt_answers.specs.CauseText.{table_member}

-- a row, or null where there is none
abbrev pub row_or_null : Option Row → List ℕ
row_or_null row = text_or_null (option_map row_text row)

-- a row that differs: its table, its key, and the row before and after
abbrev pub diff_members : Tables → DiffEntry → List Member
diff_members tables entry =
    table_member tables entry.table
    ∷ (codes "key", signed_decimal entry.change.key)
    ∷ (codes "before", row_or_null entry.change.before)
    ∷ (codes "after", row_or_null entry.change.after)
    ∷ []

-- a row that differs, as an object
abbrev pub diff_text : Tables → DiffEntry → List ℕ
diff_text tables entry = object_text (diff_members tables entry)
