-- As many steps are made as are asked for, and the database that they leave is sound.
use Rattle.std.proofs.Common.{◌≤◌, sym, subst}
use Rattle.tt_db.specs.State.{slots_left}
use Rattle.tt_db.specs.Database.{state_of}
use Rattle.tt_commands.specs.Session.{OpenSession, with_database}
use Rattle.tt_commands.specs.Room.{CanEnd}
use Rattle.tt_commands.proofs.LawLemmas.{AreMade, are_made}
use Rattle.tt_commands.proofs.GoingOnLemmas.{sound-stepped}
use Rattle.tt_commands.proofs.open_session.OpenSession.make_steps.Goals as goal

-- all of them are made
all_made : (c : goal.Joined-branch-2) → AreMade c.args.self.now.database c.advance_steps.new.self c.args.worker c.args.count
all_made c =
    let steps = c.in_ok-advance_steps.ensures in
    let can_end = subst (λ (s : OpenSession). CanEnd s.database) (sym c.self.view_is) c.requires.can_end in
    let left = subst (λ (s : OpenSession). c.args.count ≤ slots_left (state_of s.database)) (sym c.self.view_is) c.requires.left in
    subst (λ (s : OpenSession). AreMade s.database c.advance_steps.new.self c.args.worker c.args.count) c.self.view_is
    (are_made c.self.inside.db c.advance_steps.new.self c.args.worker c.args.count _ can_end c.self.invariant.legal left steps.count steps.state)

pub invariant_of-self-2 : goal.invariant_of-self-2
invariant_of-self-2 c =
    let s = c.self.inside in
    let all = all_made c in
    sound-stepped s.db c.args.self.now.database c.advance_steps.new.self s.numbering s.records s.most_records c.args.count c.self.invariant all.stepped
    c.advance_steps.ensures.catalog c.advance_steps.ensures.limits

pub returns-clause-state : goal.returns-clause-state
returns-clause-state c = let all = all_made c in λ i. with_database (c.self.view_is i) (all.state i)

pub returns-clause-can_end : goal.returns-clause-can_end
returns-clause-can_end c = let all = all_made c in all.stepped.can_end

pub returns-clause-left : goal.returns-clause-left
returns-clause-left c = let all = all_made c in all.stepped.left
