-- Nothing is taken, or lines are answered together and many bytes are handed over.
use Rattle.std.proofs.Common.{take, drop, refl, sym, ap}
use Rattle.std.proofs.lemmas.List.{take-append-drop}
use Rattle.tt_session.specs.declared.together.Extent.{Extent}
use Rattle.tt_commands.proofs.ResultLemmas.{on_err}
use Rattle.tt_lines.proofs.RunningLemmas.{takes-nothing, takes-of, takes-given, takes-together, stops-between, stops-of, stops-before}
use Rattle.tt_lines.proofs.run.Run.take_together.Goals as goal

pub returns-then-not-is_empty-clause-ok : goal.returns-then-not-is_empty-clause-ok
returns-then-not-is_empty-clause-ok g c =
    let bytes = c.args.bytes.now in
    takes-of _ _ _ _ (take 0 bytes) (take c.of.result.taken bytes) c.args.self.now c.args.self.now (ap (λ (b : Extent). take b.taken bytes) (sym c.of.ensures)) (takes-nothing _ _ _ c.args.self.now)

pub returns-clause-ok : goal.returns-clause-ok
returns-clause-ok g c =
    let mid = c.answer_together-extent.new.self in
    let count = c.answer_together-extent.result.taken in
    let taken = takes-together _ _ _ c.args.bytes.now count c.args.self.now mid (c.if-not-is_empty.ensures.none refl) c.answer_together-extent.ensures.line c.answer_together-extent.ensures.answered in
    let given = c.in_ok-hand_over_much.ensures in
    takes-given _ _ _ _ _ (take count c.args.bytes.now) c.args.self.now mid c.hand_over_much.new.self given.session given.line given.stands taken

pub returns-in_err-hand_over_much-clause-err : goal.returns-in_err-hand_over_much-clause-err
returns-in_err-hand_over_much-clause-err g c =
    let bytes = c.args.bytes.now in
    let mid = c.answer_together-extent.new.self in
    let count = c.answer_together-extent.result.taken in
    let taken = takes-together _ _ _ bytes count c.args.self.now mid (c.if-not-is_empty.ensures.none refl) c.answer_together-extent.ensures.line c.answer_together-extent.ensures.answered in
    let front = stops-between _ _ _ _ _ _ (take count bytes) c.args.self.now mid taken c.in_err-hand_over_much.ensures.err in
    on_err c.from_residual.result (stops-of _ _ _ _ _ _ _ c.args.self.now (take-append-drop count bytes) (stops-before _ _ _ _ _ (take count bytes) (drop count bytes) c.args.self.now front))
