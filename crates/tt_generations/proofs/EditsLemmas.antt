-- The replacements of edits, one edit after another from the last on.
use Rattle.std.proofs.Common.{◌≡◌, ℕ, ℤ, pos, Bool, true, false, cond, ◌==◌, List, ◌∷◌, Option, Some, if◌then◌else◌, refl, ap, ◌∙◌, arith}
use Rattle.std.specs.Option.{option_map}
use Rattle.std.specs.Ordering.{int_cmp, int_eq}
use Rattle.std.specs.Cmp.{int_cmp_total}
use Rattle.std.specs.FinMap.Entries as sorted
use Rattle.std.proofs.lemmas.Bool.Decides.{nat_tests, same_from_decides, Decides-like, Decides-eqb, Decides-int_eq}
use Rattle.tt_values.specs.declared.action.Action.{Action}
use Rattle.tt_repair_laws.specs.declared.edit.Edit.{Edit}
use Rattle.tt_repair_laws.specs.Edits.{slot_number, edit_of, replacement_of}
use Rattle.tt_generations.specs.declared.edits.Replacement.{Replacement}
use Rattle.tt_generations.specs.EditsByNumber.{HasEdits}

int_eq-pos : (m n : ℕ) → int_eq (pos m) (pos n) ≡ (m == n)
int_eq-pos m n = same_from_decides _ _ (Decides-like (int_eq (pos m) (pos n)) (λ (e : pos m ≡ pos n). cc) (ap pos) (Decides-int_eq (pos m) (pos n))) (Decides-eqb m n)

abbrev as_replacement : Edit → Replacement
as_replacement e = record { action = replacement_of e }

-- the replacement of an edit counts before those of the edits behind it
pub HasEdits-put : (before after : List (ℤ × Replacement)) (e : Edit) (E : List Edit) (r : Replacement) → HasEdits before E → r.action ≡ replacement_of e
    → after ≡ sorted.put int_cmp (pos (slot_number e)) r before → HasEdits after (e ∷ E)
HasEdits-put before after e E r has action is t =
    ap (sorted.find int_cmp (pos t)) is ∙ sorted.find-put int_cmp int_cmp_total (pos t) (pos (slot_number e)) r before ∙ by (slot_number e == t) refl
  where
    by : (b : Bool) → (slot_number e == t) ≡ b
        → cond (int_eq (pos t) (pos (slot_number e))) (Some r) (sorted.find int_cmp (pos t) before) ≡ option_map as_replacement (if b then Some e else edit_of E t)
    by true same =
        let here : (t == slot_number e) ≡ true = grind (arith, nat_tests) in
        ap (λ b. cond b (Some r) (sorted.find int_cmp (pos t) before)) (int_eq-pos t (slot_number e) ∙ here)
        ∙ ap (λ (a : Option Action). Some (record { action = a })) action
    by false other =
        let elsewhere : (t == slot_number e) ≡ false = grind (arith, nat_tests) in
        ap (λ b. cond b (Some r) (sorted.find int_cmp (pos t) before)) (int_eq-pos t (slot_number e) ∙ elsewhere) ∙ has t
