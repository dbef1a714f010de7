-- The bytes are kept, or the line that ends in them is answered.
use Rattle.std.proofs.Common.{◌+◌, [], ◌∷◌, take, drop, sym}
use Rattle.std.proofs.Math.Seq.{take-length}
use Rattle.std.proofs.lemmas.List.{take-append-drop}
use Rattle.tt_session.proofs.LineLemmas.{first_line}
use Rattle.tt_commands.proofs.ResultLemmas.{on_err}
use Rattle.tt_lines.proofs.RunningLemmas.{takes-none, takes-of, takes-trans, stops-of, stops-trans, stops-before}
use Rattle.tt_lines.proofs.run.Run.take_line.Goals as goal

pub returns-in_default-clause-ok : goal.returns-in_default-clause-ok
returns-in_default-clause-ok g c =
    let bytes = c.args.bytes.now in
    let kept = c.extend_line.ensures in
    let more = takes-none _ _ _ bytes c.args.self.now c.extend_line.new.self c.in_default.ensures kept.line kept.session kept.out kept.lines in
    takes-of _ _ _ _ bytes _ c.args.self.now c.extend_line.new.self (sym (take-length bytes)) more

pub returns-clause-ok : goal.returns-clause-ok
returns-clause-ok g c =
    let bytes = c.args.bytes.now in
    let piece = take c.in-Some.end bytes in
    let mid = c.extend_line-2.new.self in
    let kept = c.extend_line-2.ensures in
    let more = takes-none _ _ _ piece c.args.self.now mid c.in-Some.ensures.before kept.line kept.session kept.out kept.lines in
    let whole = takes-trans _ _ _ _ _ piece (10 ∷ []) c.args.self.now mid c.answer_line.new.self more c.in_ok-answer_line.ensures.ok in
    takes-of _ _ _ _ _ _ c.args.self.now c.answer_line.new.self (sym (first_line bytes c.in-Some.end c.in-Some.ensures)) whole

pub returns-in_err-answer_line-clause-err : goal.returns-in_err-answer_line-clause-err
returns-in_err-answer_line-clause-err g c =
    let bytes = c.args.bytes.now in
    let piece = take c.in-Some.end bytes in
    let mid = c.extend_line-2.new.self in
    let after = c.in-Some.end + 1 in
    let kept = c.extend_line-2.ensures in
    let more = takes-none _ _ _ piece c.args.self.now mid c.in-Some.ensures.before kept.line kept.session kept.out kept.lines in
    let whole = stops-trans _ _ _ _ _ _ piece (10 ∷ []) c.args.self.now mid more c.in_err-answer_line.ensures.err in
    let front = stops-of _ _ _ _ _ _ _ c.args.self.now (sym (first_line bytes c.in-Some.end c.in-Some.ensures)) whole in
    on_err c.from_residual.result (stops-of _ _ _ _ _ _ _ c.args.self.now (take-append-drop after bytes) (stops-before _ _ _ _ _ (take after bytes) (drop after bytes) c.args.self.now front))
