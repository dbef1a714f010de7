-- The lines are handed over, and the summary is theirs.
use Rattle.std.proofs.Common.{◌≡◌, ◌+◌, ◌-◌, ◌++◌, List, ℕ, length, ◌∙◌, ap, subst, arith}
use Rattle.tt_log.specs.Device.{ShowsFirst}
use Rattle.tt_log.proofs.ShowLemmas.{first_are, lines_of_first, rest_clear, clear_rests, not_false, not_true}
use Rattle.tt_log.proofs.show.show_log.Goals as goal

pub returns-clause-shown : goal.returns-clause-shown
returns-clause-shown g c = λ told.
    let file = g.D.Device.seen c.args.device.now in
    c.in_ok-lines.ensures.shown told ∙ ap (λ (l : List ℕ). g.D.Device.shown c.args.device.now ++ l) (first_are file c.in_ok-bytes.bytes (c.in_ok-bytes.ensures.end told))

pub returns-clause-summary : goal.returns-clause-summary
returns-clause-summary g c = λ told.
    let file = g.D.Device.seen c.args.device.now in
    let end = c.in_ok-bytes.bytes in
    let is_end = c.in_ok-bytes.ensures.end told in
    let is_len : c.in-Ok.len ≡ length file = c.in-Ok.ensures.length told in
    let n = c.in-Ok.len - end in
    let is_rest : end + n ≡ length file = omega (arith, is_len, c.in_ok-bytes.ensures.within) in
    let clear = c.in_ok-is_clear in
    record {
      lines = c.in_ok-lines.ensures.lines told ∙ ap length (lines_of_first file end is_end);
      bytes = is_end;
      whole = λ none. clear_rests file end n is_end is_rest (clear.ensures.clear told (not_false clear.is_clear none));
      torn = λ some rest. clear.ensures.other told (not_true clear.is_clear some) (rest_clear file end n is_end is_rest rest);
    }

-- what was handed over, also where it is not all
pub returns-in_err-lines-clause-first : goal.returns-in_err-lines-clause-first
returns-in_err-lines-clause-first g c = λ told.
    let first = c.args.device.now in
    subst (ShowsFirst (g.D.Device.shown first) (g.D.Device.shown c.show_first.new.device)) (first_are (g.D.Device.seen first) c.in_ok-bytes.bytes (c.in_ok-bytes.ensures.end told)) (c.show_first.ensures.first told)

pub returns-clause-first : goal.returns-clause-first
returns-clause-first g c = λ told.
    let first = c.args.device.now in
    subst (ShowsFirst (g.D.Device.shown first) (g.D.Device.shown c.show_first.new.device)) (first_are (g.D.Device.seen first) c.in_ok-bytes.bytes (c.in_ok-bytes.ensures.end told)) (c.show_first.ensures.first told)
