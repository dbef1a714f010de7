-- One piece more is read, up to its first line feed or the first 0.
use Rattle.std.proofs.Common.{◌≡◌, ◌+◌, ◌++◌, ◌<◌, ◌≤◌, ℕ, length, take, drop, sym, ◌∙◌, ap, refl, arith, length-append, length-drop, length-take-le}
use Rattle.std.proofs.lemmas.List.{drop_all}
use Rattle.tt_log.specs.Lines.{text, joined, whole_lines_of}
use Rattle.tt_log.proofs.ReadingLemmas.{read_more, end_more, none_left, end_behind-is}
use Rattle.tt_log.proofs.ShowLemmas.{some_lines, none_logged}
use Rattle.tt_log.proofs.show.has_lines.Goals as goal

pub returns-then-extent-gt0-clause-some : goal.returns-then-extent-gt0-clause-some
returns-then-extent-gt0-clause-some g c = λ told is_true.
    let inv = c.loop-at.invariant in
    let file = g.D.Device.seen c.args.device.now in
    let at = c.loop-at.at in
    let n = c.piece_len-count.result in
    let buffer = c.loop-at.buffer in
    let piece = c.read_at.new.buffer in
    let extent = c.extent_of-extent in
    let taken : length (take n buffer) ≡ n = length-take-le n buffer (omega (arith, c.piece_len-count.ensures)) in
    let within : at + n ≤ length file = omega (arith, inv.within, c.piece_len-count.ensures, c.in-Ok.ensures.length told) in
    let is_piece = c.in-Ok-read_at.ensures.read told ∙ ap (λ (k : ℕ). take k (drop at file)) taken in
    let t = extent.result.taken in
    let end = extent.result.end in
    let some : 0 < end = omega (arith, c.if-extent-gt0.true) in
    let is_end = end_behind-is 0 at end (at + end) (whole_lines_of (text piece)) extent.ensures.end (λ none. omega (arith, some, none)) (λ more. refl) in
    some_lines file (at + t) (at + end) (read_more file piece at n t within is_piece extent.ensures.taken (inv.read told))
    (omega (arith, some))
    (end_more file piece at n t within is_piece extent.ensures.taken 0 (at + end) (inv.none told) is_end)

pub returns-then-extent-count-clause-none : goal.returns-then-extent-count-clause-none
returns-then-extent-count-clause-none g c = λ told is_false.
    let inv = c.loop-at.invariant in
    let file = g.D.Device.seen c.args.device.now in
    let at = c.loop-at.at in
    let n = c.piece_len-count.result in
    let buffer = c.loop-at.buffer in
    let piece = c.read_at.new.buffer in
    let extent = c.extent_of-extent in
    let taken : length (take n buffer) ≡ n = length-take-le n buffer (omega (arith, c.piece_len-count.ensures)) in
    let long : length piece ≡ n = omega (arith, c.read_at.auto.buffer, taken) in
    let within : at + n ≤ length file = omega (arith, inv.within, c.piece_len-count.ensures, c.in-Ok.ensures.length told) in
    let is_piece = c.in-Ok-read_at.ensures.read told ∙ ap (λ (k : ℕ). take k (drop at file)) taken in
    let t = extent.result.taken in
    let end = extent.result.end in
    let no_end : end ≡ 0 = omega (arith, c.if-extent-gt0.false) in
    let is_end = end_behind-is 0 at end 0 (whole_lines_of (text piece)) extent.ensures.end (λ none. refl) (λ more. omega (arith, more, no_end)) in
    none_logged file (at + t) (read_more file piece at n t within is_piece extent.ensures.taken (inv.read told))
    (none_left file piece at n t within is_piece extent.ensures.taken (omega (arith, c.if-extent-count.true, long)))
    (end_more file piece at n t within is_piece extent.ensures.taken 0 0 (inv.none told) is_end)

pub returns-clause-none : goal.returns-clause-none
returns-clause-none g c = λ told is_false.
    let inv = c.loop-at.invariant in
    let file = g.D.Device.seen c.args.device.now in
    let at = c.loop-at.at in
    none_logged file at (inv.read told) (ap text (drop_all at file (omega (arith, c.loop-at-test.false, c.in-Ok.ensures.length told)))) (inv.none told)

pub loop-at-preserved : goal.loop-at-preserved
loop-at-preserved g c =
    let inv = c.loop-at.invariant in
    let file = g.D.Device.seen c.args.device.now in
    let at = c.loop-at.at in
    let n = c.piece_len-count.result in
    let buffer = c.loop-at.buffer in
    let piece = c.read_at.new.buffer in
    let extent = c.extent_of-extent in
    let taken : length (take n buffer) ≡ n = length-take-le n buffer (omega (arith, c.piece_len-count.ensures)) in
    let long : length piece ≡ n = omega (arith, c.read_at.auto.buffer, taken) in
    let t = extent.result.taken in
    let end = extent.result.end in
    let whole : n ≡ t = omega (arith, long, extent.ensures.within, c.if-extent-count.false) in
    let no_end : end ≡ 0 = omega (arith, c.if-extent-gt0.false) in
    let within : (told : g.D.Device.tells c.args.device.now) → at + n ≤ length file = λ told. omega (arith, inv.within, c.piece_len-count.ensures, c.in-Ok.ensures.length told) in
    let is_piece = λ (told : g.D.Device.tells c.args.device.now). c.in-Ok-read_at.ensures.read told ∙ ap (λ (k : ℕ). take k (drop at file)) taken in
    let is_end = end_behind-is 0 at end 0 (whole_lines_of (text piece)) extent.ensures.end (λ none. refl) (λ more. omega (arith, more, no_end)) in
    record {
      some = omega (arith, inv.some, long, taken, length-append piece (drop n buffer), length-drop n buffer, c.piece_len-count.ensures);
      within = omega (arith, inv.within, c.piece_len-count.ensures);
      read = λ told. read_more file piece at n t (within told) (is_piece told) extent.ensures.taken (inv.read told) ∙ ap (λ (k : ℕ). take (at + k) file ++ text (drop (at + k) file)) (sym whole);
      none = λ told. end_more file piece at n t (within told) (is_piece told) extent.ensures.taken 0 0 (inv.none told) is_end ∙ ap (λ (k : ℕ). length (joined (whole_lines_of (take (at + k) file)))) (sym whole);
    }
