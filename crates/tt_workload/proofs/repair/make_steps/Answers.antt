-- As many steps are made as were asked for, and fewer slots are left.
use Rattle.std.proofs.Common.{◌≡◌, ◌+◌, sym, subst}
use Rattle.tt_db.specs.State.{slots_left}
use Rattle.tt_db.specs.Database.{Database, state_of}
use Rattle.tt_workload.specs.Room.{IsUnderWay}
use Rattle.tt_workload.proofs.RepairLemmas.{are_stepped, all_are_made}
use Rattle.tt_workload.proofs.repair.make_steps.Goals as goal

pub returns-clause-state : goal.returns-clause-state
returns-clause-state c =
    let made = c.in_ok-advance_steps.ensures in
    all_are_made c.args.calls c.args.db.now c.advance_steps.new.self c.args.worker c.args.count _ c.requires.under_way c.requires.few c.requires.left made.count made.state

pub returns-clause-under_way : goal.returns-clause-under_way
returns-clause-under_way c =
    let made = c.in_ok-advance_steps.ensures in
    let is = all_are_made c.args.calls c.args.db.now c.advance_steps.new.self c.args.worker c.args.count _ c.requires.under_way c.requires.few c.requires.left made.count made.state in
    subst (λ (d : Database). IsUnderWay c.args.calls d) (sym is) (are_stepped c.args.calls c.args.db.now c.args.worker c.args.count c.requires.under_way c.requires.left).under_way

pub returns-clause-left : goal.returns-clause-left
returns-clause-left c =
    let made = c.in_ok-advance_steps.ensures in
    let is = all_are_made c.args.calls c.args.db.now c.advance_steps.new.self c.args.worker c.args.count _ c.requires.under_way c.requires.few c.requires.left made.count made.state in
    subst (λ (d : Database). slots_left (state_of d) + c.args.count ≡ slots_left (state_of c.args.db.now)) (sym is)
    (are_stepped c.args.calls c.args.db.now c.args.worker c.args.count c.requires.under_way c.requires.left).left
