-- All answers that are kept are handed over, and then the short one.
use Rattle.std.proofs.Common.{true, refl, ◌∙◌}
use Rattle.tt_session.specs.Run.{turn_without_memory}
use Rattle.tt_session.specs.Together.{is_opening_lost}
use Rattle.tt_session.proofs.AnsweringLemmas.{read-lost}
use Rattle.tt_commands.proofs.ResultLemmas.{err_of, and_results}
use Rattle.tt_lines.proofs.RunningLemmas.{one-short, stops-short, lost-as-far}
use Rattle.tt_lines.proofs.run.Run.answer_without_memory.Goals as goal

pub returns-clause-ok : goal.returns-clause-ok
returns-clause-ok g c =
    let old = c.args.self.now in
    let short = c.hand_over_short.ensures in
    let made = c.answer_without_memory-answer in
    and_results c.hand_over_short.result short.ok short.out short.lines (λ over out lines.
    one-short _ _ _ _ old (record old { session = made.new.self; workspace = c.release.new.self }) c.hand_over_short.new.self true (is_opening_lost c.args.lost) (turn_without_memory (is_opening_lost c.args.lost) old.session) _
    (λ bytes has. let some = c.requires.some bytes has in read-lost c.args.lost old.session bytes some.1 some.0 some.2)
    (lost-as-far (is_opening_lost c.args.lost) old.session) made.ensures.text refl c.release.ensures (short.session ∙ made.ensures.session) out lines over)

pub returns-clause-err : goal.returns-clause-err
returns-clause-err g c =
    let old = c.args.self.now in
    let made = c.answer_without_memory-answer in
    let O = g.O.Outlet in
    err_of c.hand_over_short.result (λ stops.
    stops-short O.handed O.stopped O.has_log c.args.outlet.now c.hand_over_short.new.outlet old (record old { session = made.new.self; workspace = c.release.new.self }) true (is_opening_lost c.args.lost) (turn_without_memory (is_opening_lost c.args.lost) old.session) _
    (λ bytes has. let some = c.requires.some bytes has in read-lost c.args.lost old.session bytes some.1 some.0 some.2)
    (lost-as-far (is_opening_lost c.args.lost) old.session) made.ensures.text refl c.release.ensures stops) c.hand_over_short.ensures.err
