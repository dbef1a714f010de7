-- One piece more is read, up to the first 0.
use Rattle.std.proofs.Common.{◌≡◌, ◌+◌, ◌++◌, ◌≤◌, ℕ, length, take, drop, sym, ◌∙◌, ap, arith, length-append, length-drop, length-take-le}
use Rattle.tt_log.specs.Lines.{text, joined, whole_lines_of}
use Rattle.tt_log.proofs.ReadingLemmas.{read_more, end_more, none_left, end_is, end_behind-is}
use Rattle.tt_log.proofs.ShowLemmas.{end_within}
use Rattle.tt_log.proofs.show.end_of_lines.Goals as goal

pub returns-then-extent-count-clause-end : goal.returns-then-extent-count-clause-end
returns-then-extent-count-clause-end g c = λ told.
    let inv = c.loop-at.invariant in
    let file = g.D.Device.seen c.args.device.now in
    let at = c.loop-at.at in
    let n = c.piece_len-count.result in
    let buffer = c.loop-at.buffer in
    let piece = c.read_at.new.buffer in
    let extent = c.extent_of-extent in
    let taken : length (take n buffer) ≡ n = length-take-le n buffer (omega (arith, c.piece_len-count.ensures)) in
    let long : length piece ≡ n = omega (arith, c.read_at.auto.buffer, taken) in
    let within : at + n ≤ length file = omega (arith, inv.within, c.piece_len-count.ensures, c.requires.len told) in
    let is_piece = c.in-Ok.ensures.read told ∙ ap (λ (k : ℕ). take k (drop at file)) taken in
    let t = extent.result.taken in
    let is_end = end_behind-is c.loop-at.end at extent.result.end c.end_after-end.result (whole_lines_of (text piece)) extent.ensures.end c.end_after-end.ensures.none c.end_after-end.ensures.some in
    end_is file (at + t) c.end_after-end.result (read_more file piece at n t within is_piece extent.ensures.taken (inv.read told))
    (none_left file piece at n t within is_piece extent.ensures.taken (omega (arith, c.if-extent-count.true, long)))
    (end_more file piece at n t within is_piece extent.ensures.taken c.loop-at.end c.end_after-end.result (inv.end told) is_end)

pub loop-at-preserved : goal.loop-at-preserved
loop-at-preserved g c =
    let inv = c.loop-at.invariant in
    let file = g.D.Device.seen c.args.device.now in
    let at = c.loop-at.at in
    let n = c.piece_len-count.result in
    let buffer = c.loop-at.buffer in
    let piece = c.read_at.new.buffer in
    let extent = c.extent_of-extent in
    let taken : length (take n buffer) ≡ n = length-take-le n buffer (omega (arith, c.piece_len-count.ensures)) in
    let long : length piece ≡ n = omega (arith, c.read_at.auto.buffer, taken) in
    let t = extent.result.taken in
    let whole : n ≡ t = omega (arith, long, extent.ensures.within, c.if-extent-count.false) in
    let within : (told : g.D.Device.tells c.args.device.now) → at + n ≤ length file = λ told. omega (arith, inv.within, c.piece_len-count.ensures, c.requires.len told) in
    let is_piece = λ (told : g.D.Device.tells c.args.device.now). c.in-Ok.ensures.read told ∙ ap (λ (k : ℕ). take k (drop at file)) taken in
    let is_end = end_behind-is c.loop-at.end at extent.result.end c.end_after-end.result (whole_lines_of (text piece)) extent.ensures.end c.end_after-end.ensures.none c.end_after-end.ensures.some in
    record {
      some = omega (arith, inv.some, long, taken, length-append piece (drop n buffer), length-drop n buffer, c.piece_len-count.ensures);
      within = omega (arith, inv.within, c.piece_len-count.ensures);
      behind = end_within extent.result.end c.end_after-end.result c.loop-at.end at n c.end_after-end.ensures.none c.end_after-end.ensures.some inv.behind (omega (arith, whole, extent.ensures.end_within));
      read = λ told. read_more file piece at n t (within told) (is_piece told) extent.ensures.taken (inv.read told) ∙ ap (λ (k : ℕ). take (at + k) file ++ text (drop (at + k) file)) (sym whole);
      end = λ told. end_more file piece at n t (within told) (is_piece told) extent.ensures.taken c.loop-at.end c.end_after-end.result (inv.end told) is_end ∙ ap (λ (k : ℕ). length (joined (whole_lines_of (take (at + k) file)))) (sym whole);
    }
