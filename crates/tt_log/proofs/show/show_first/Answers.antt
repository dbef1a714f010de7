-- One piece more is handed over.
use Rattle.std.proofs.Common.{◌≡◌, ◌+◌, ◌≤◌, ℕ, length, take, drop, ◌∙◌, ap, arith, length-append, length-drop, length-take-le}
use Rattle.tt_log.proofs.ShowLemmas.{count_piece, first_of_piece, shown_piece}
use Rattle.tt_log.proofs.show.show_first.Goals as goal

pub loop-at-preserved : goal.loop-at-preserved
loop-at-preserved g c =
    let inv = c.loop-at.invariant in
    let first = c.args.device.now in
    let file = g.D.Device.seen first in
    let at = c.loop-at.at in
    let n = c.piece_len-count.result in
    let buffer = c.loop-at.buffer in
    let piece = c.read_at.new.buffer in
    let few : n ≤ length buffer = omega (arith, c.piece_len-count.ensures) in
    let taken : length (take n buffer) ≡ n = length-take-le n buffer few in
    let long : length piece ≡ n = omega (arith, c.read_at.auto.buffer, taken) in
    let is_piece : (told : g.D.Device.tells first) → piece ≡ take n (drop at file) = λ told.
    c.in-Ok.ensures.read (inv.tells.0 told)
    ∙ ap (λ (k : ℕ). take k (drop at (g.D.Device.seen c.loop-at.device))) taken
    ∙ ap (λ l. take n (drop at l)) (inv.seen told) in
    let over = c.hand_over.ensures in
    record {
      some = omega (arith, inv.some, long, few, length-append piece (drop n buffer), length-drop n buffer);
      within = omega (arith, inv.within, c.piece_len-count.ensures);
      few = omega (arith, inv.few, c.line_count.ensures.few, long);
      tells = (λ told. over.tells.0 (inv.tells.0 told), λ now. inv.tells.1 (over.tells.1 now));
      seen = λ told. over.seen (inv.tells.0 told) ∙ inv.seen told;
      crash = λ told left may. inv.crash told left (over.crash (inv.tells.0 told) left may);
      shown = λ told. shown_piece file piece (g.D.Device.shown c.loop-at.device) (g.D.Device.shown first) (g.D.Device.shown c.hand_over.new.self) at n (is_piece told) (inv.shown told) (c.in-Ok-hand_over.ensures.shown (inv.tells.0 told));
      lines = λ told. ap (λ (k : ℕ). c.loop-at.lines + k) c.line_count.ensures.lines ∙ count_piece file piece at n c.loop-at.lines (is_piece told) (inv.lines told);
      failures = λ told. omega (arith, inv.failures told, (over.failed (inv.tells.0 told)).later);
    }

-- where the output fails
pub returns-in_default-hand_over-clause-first : goal.returns-in_default-hand_over-clause-first
returns-in_default-hand_over-clause-first g c = λ told.
    let inv = c.loop-at.invariant in
    let first = c.args.device.now in
    let file = g.D.Device.seen first in
    let at = c.loop-at.at in
    let n = c.piece_len-count.result in
    let buffer = c.loop-at.buffer in
    let taken : length (take n buffer) ≡ n = length-take-le n buffer (omega (arith, c.piece_len-count.ensures)) in
    let is_piece : c.read_at.new.buffer ≡ take n (drop at file) =
    c.in-Ok.ensures.read (inv.tells.0 told)
    ∙ ap (λ (k : ℕ). take k (drop at (g.D.Device.seen c.loop-at.device))) taken
    ∙ ap (λ l. take n (drop at l)) (inv.seen told) in
    first_of_piece file c.read_at.new.buffer (g.D.Device.shown c.loop-at.device) (g.D.Device.shown first) (g.D.Device.shown c.hand_over.new.self) at n c.args.end
    is_piece (omega (arith, inv.within, c.piece_len-count.ensures)) (inv.shown told) (c.hand_over.ensures.first (inv.tells.0 told))
