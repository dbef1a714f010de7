-- One edit more is compared with those before it.
use Rattle.std.proofs.Common.{◌==◌, take, Some, ap, sym, ◌∙◌}
use Rattle.std.specs.List.{list_any}
use Rattle.tt_repair_laws.specs.Edits.{slot_number}
use Rattle.tt_db.proofs.RefusalLemmas.{twice-found, twice-not_found}
use Rattle.tt_db.proofs.refusals.slot_edited_twice.Goals as goal

pub returns-then-has_slot : goal.returns-then-has_slot
returns-then-has_slot c =
    let E = c.args.edits.now in
    let k = c.loop-position.position in
    let e = c.index-edits-position.result in
    let found = sym (ap (λ n. list_any (λ d. n == slot_number d) (take k E)) c.number-number.ensures) ∙ sym c.has_slot.ensures ∙ c.if-has_slot.true in
    ap Some c.number-number.ensures ∙ sym (c.loop-position.invariant ∙ twice-found E k e c.index-edits-position.is c.loop-position-test.true found)

pub loop-position-preserved : goal.loop-position-preserved
loop-position-preserved c =
    let E = c.args.edits.now in
    let k = c.loop-position.position in
    let e = c.index-edits-position.result in
    let none = sym (ap (λ n. list_any (λ d. n == slot_number d) (take k E)) c.number-number.ensures) ∙ sym c.has_slot.ensures ∙ c.if-has_slot.false in
    c.loop-position.invariant ∙ twice-not_found E k e c.index-edits-position.is c.loop-position-test.true none
