-- The lines of the slots that are left follow.
use Rattle.std.proofs.Common.{◌≡◌, ◌+◌, ◌<◌, ◌++◌, ap, ◌∙◌, arith}
use Rattle.std.specs.Option.{option_map}
use Rattle.tt_values.specs.Tables.{Tables}
use Rattle.tt_generations.specs.SlotCauses.{cause_told}
use Rattle.tt_workload.specs.CauseLines.{redone_line, slots_done}
use Rattle.tt_workload.proofs.CauseLineLemmas.{lines-next}
use Rattle.tt_workload.proofs.causes.push_redone.Goals as goal

pub loop-earlier-preserved : goal.loop-earlier-preserved
loop-earlier-preserved c =
    let db = c.args.db.now in
    let l = c.loop-earlier in
    let count = c.slots_done-count.ensures in
    let some : l.earlier < slots_done db c.args.repair = omega (arith, c.loop-earlier-test.true, count) in
    let pushed = c.in_ok-push_redone_slot.ensures
    ∙ ap (λ (ts : Tables). l.out.items ++ redone_line c.args.json ts (l.earlier + 1) (option_map cause_told c.cause_by-cause.result)) c.catalog.ensures in
    lines-next c.args.json db c.args.repair l.earlier l.out.items c.push_redone_slot.new.out.items _ _ some c.cause_by-cause.ensures pushed l.invariant
