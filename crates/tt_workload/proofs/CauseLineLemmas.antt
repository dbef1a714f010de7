-- The lines of re-executed slots, one after another.
use Rattle.std.proofs.Common.{◌≡◌, ℕ, Bool, suc, ◌+◌, ◌-◌, ◌<◌, List, ◌++◌, Option, sym, ap, ◌∙◌, arith, append_assoc}
use Rattle.tt_causes.specs.Causes.{Cause}
use Rattle.tt_db.specs.Database.{Database}
use Rattle.tt_workload.specs.declared.told_repair.ToldRepair.{ToldRepair}
use Rattle.tt_workload.specs.CauseLines.{cause_by, slots_done, redone_line, redone_lines_from}

-- the lines of the slots behind one
abbrev pub lines_behind : Bool → Database → ToldRepair → ℕ → List ℕ
lines_behind json db repair earlier = redone_lines_from json db repair (earlier + 1) (slots_done db repair - earlier)

-- the line of the next slot, and those behind it
pub lines-next : (json : Bool) (db : Database) (repair : ToldRepair) (earlier : ℕ) (out new all : List ℕ) (cause : Option Cause) → earlier < slots_done db repair
    → cause ≡ cause_by db repair (earlier + 1) → new ≡ out ++ redone_line json db.catalog (earlier + 1) cause
    → out ++ lines_behind json db repair earlier ≡ all → new ++ lines_behind json db repair (earlier + 1) ≡ all
lines-next json db repair earlier out new all cause some told pushed before =
    let rest = lines_behind json db repair (earlier + 1) in
    let more : slots_done db repair - earlier ≡ suc (slots_done db repair - (earlier + 1)) = omega (arith, some) in
    let next = ap (λ n. redone_lines_from json db repair (earlier + 1) n) more in
    ap (λ xs. xs ++ rest) (pushed ∙ ap (λ o. out ++ redone_line json db.catalog (earlier + 1) o) told)
    ∙ append_assoc out (redone_line json db.catalog (earlier + 1) (cause_by db repair (earlier + 1))) rest
    ∙ ap (λ xs. out ++ xs) (sym next)
    ∙ before
