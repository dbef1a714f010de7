-- The numbers of writes don't fall.
use Rattle.std.proofs.Common.{◌<◌, ◌≤◌, slice_get, sym, ap, ◌∙◌, arith}
use Rattle.std.proofs.lemmas.Bool.Decides.{nat_tests}
use Rattle.tt_db.specs.History.{writes_before_others}
use Rattle.tt_db.proofs.HistoryLemmas.{has_fewer, has_no_fewer, not_past}
use Rattle.tt_db.proofs.history.History.has_fewer.Goals as goal

pub returns-in-Some-clause-front : goal.returns-in-Some-clause-front
returns-in-Some-clause-front c = λ fewer.
    let counts = c.self.invariant.0 ∙ ap (writes_before_others 0) c.self.view_is in
    let at = ap (λ xs. slice_get xs c.args.position) (sym counts) ∙ sym c.in-Some.ensures in
    has_fewer c.args.self.now c.args.number c.args.position c.in-Some.writes.now at (let less : c.in-Some.writes.now < c.args.number = grind (arith, nat_tests) in less)

pub returns-in-Some-clause-rest : goal.returns-in-Some-clause-rest
returns-in-Some-clause-rest c = λ no_fewer.
    let counts = c.self.invariant.0 ∙ ap (writes_before_others 0) c.self.view_is in
    let at = ap (λ xs. slice_get xs c.args.position) (sym counts) ∙ sym c.in-Some.ensures in
    has_no_fewer c.args.self.now c.args.number c.args.position c.in-Some.writes.now at (let least : c.args.number ≤ c.in-Some.writes.now = grind (arith, nat_tests) in least)

pub returns-in-None-clause-rest : goal.returns-in-None-clause-rest
returns-in-None-clause-rest c =
    let counts = c.self.invariant.0 ∙ ap (writes_before_others 0) c.self.view_is in
    absurd (not_past (writes_before_others 0 c.args.self.now) c.args.position c.requires (c.in-None.ensures ∙ ap (λ xs. slice_get xs c.args.position) counts))
