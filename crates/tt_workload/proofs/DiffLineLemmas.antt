-- The lines of the rows that differ, one table after another.
use Rattle.std.proofs.Common.{◌≡◌, ℕ, Bool, suc, ◌+◌, ◌-◌, ◌<◌, List, [], ◌∷◌, ◌++◌, length, map, refl, sym, ap, ◌∙◌, arith, append_assoc}
use Rattle.std.specs.List.{flat_map}
use Rattle.tt_causes.specs.Differences.{RowChange}
use Rattle.tt_generations.specs.declared.row_change.RowChange.{RowChange as ToldRowChange}
use Rattle.tt_generations.specs.RowChanges.{change_told}
use Rattle.tt_values.specs.Tables.{Tables}
use Rattle.tt_db.specs.Database.{Database}
use Rattle.tt_workload.specs.declared.told_repair.ToldRepair.{ToldRepair}
use Rattle.tt_workload.specs.DiffLines.{differences_by, diff_line, table_diff_lines, diff_lines_from}

-- the lines of the tables from one on
abbrev pub lines_from : Bool → Database → ToldRepair → ℕ → List ℕ
lines_from json db repair table = diff_lines_from json db repair table (length db.catalog - table)

-- the lines of the changes that are told
lines-told : (json : Bool) (tables : Tables) (table : ℕ) (told : List ToldRowChange)
    → flat_map (λ c. diff_line json tables table (change_told c)) told ≡ flat_map (λ c. diff_line json tables table c) (map change_told told)
lines-told json tables table [] = refl
lines-told json tables table (c ∷ told) = ap (λ xs. diff_line json tables table (change_told c) ++ xs) (lines-told json tables table told)

-- the lines of the next table, and those behind them
pub tables-next : (json : Bool) (db : Database) (repair : ToldRepair) (table : ℕ) (out new all : List ℕ) (told : List ToldRowChange) → table < length db.catalog
    → map change_told told ≡ differences_by db repair table → new ≡ out ++ flat_map (λ c. diff_line json db.catalog table (change_told c)) told
    → out ++ lines_from json db repair table ≡ all → new ++ lines_from json db repair (table + 1) ≡ all
tables-next json db repair table out new all told some right pushed before =
    let rest = lines_from json db repair (table + 1) in
    let more : length db.catalog - table ≡ suc (length db.catalog - (table + 1)) = omega (arith, some) in
    let next = ap (λ n. diff_lines_from json db repair table n) more in
    let lines : flat_map (λ c. diff_line json db.catalog table (change_told c)) told ≡ table_diff_lines json db repair table =
    lines-told json db.catalog table told ∙ ap (λ (cs : List RowChange). flat_map (λ c. diff_line json db.catalog table c) cs) right in
    ap (λ xs. xs ++ rest) (pushed ∙ ap (λ xs. out ++ xs) lines)
    ∙ append_assoc out (table_diff_lines json db repair table) rest
    ∙ ap (λ xs. out ++ xs) (sym next)
    ∙ before
