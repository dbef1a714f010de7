-- The edit before those so far counts first.
use Rattle.std.proofs.Common.{◌≡◌, ℤ, suc, ◌-◌, ◌<◌, ◌≤◌, List, ◌∷◌, drop, length, pos, w64, sym, ap, subst, ◌∙◌, arith, drop-cons}
use mir.Val.{to_z}
use Rattle.std.specs.Ordering.{int_cmp}
use Rattle.std.specs.FinMap.Entries as sorted
use Rattle.std.proofs.lemmas.Int.{to_z_pos}
use Rattle.tt_repair_laws.specs.declared.edit.Edit.{Edit}
use Rattle.tt_repair_laws.specs.Edits.{slot_number}
use Rattle.tt_generations.specs.Limits.{max_slots}
use Rattle.tt_generations.specs.EditsByNumber.{HasEdits}
use Rattle.tt_generations.proofs.EditsLemmas.{HasEdits-put}
use Rattle.tt_generations.proofs.edits.replacements_of.Goals as goal

pub loop-left-preserved : goal.loop-left-preserved
loop-left-preserved c =
    let edits = c.args.edits.now in
    let left = c.loop-left.left in
    let e = c.index-edits-left.result in
    let within : left - 1 < length edits = omega (arith, c.loop-left.invariant.within, c.loop-left-test.true) in
    let next : suc (left - 1) ≡ left = omega (arith, c.loop-left-test.true) in
    let all : drop (left - 1) edits ≡ e ∷ drop left edits =
    drop-cons edits (left - 1) e within ∙ (λ i. sym c.index-edits-left.is i ∷ drop (next i) edits) in
    let few : slot_number e ≤ max_slots = subst (λ (d : Edit). slot_number d ≤ max_slots) (sym c.index-edits-left.is) (c.requires (left - 1) e within) in
    let key : to_z w64 c.number.result ≡ pos (slot_number e) = to_z_pos w64 c.number.result (omega (arith, few, c.number.ensures)) ∙ ap pos c.number.ensures in
    record {
      within = omega (arith, c.loop-left.invariant.within);
      edits = subst (λ (E : List Edit). HasEdits c.put.new.self E) (sym all)
          (HasEdits-put c.loop-left.replacements c.put.new.self e (drop left edits) c.in_ok-replacement.replacement c.loop-left.invariant.edits c.in_ok-replacement.ensures
          (c.in_ok-put.ensures.ok ∙ ap (λ (k : ℤ). sorted.put int_cmp k c.in_ok-replacement.replacement c.loop-left.replacements) key));
    }
