-- One piece more is 0.
use Rattle.std.proofs.Common.{◌≡◌, ◌+◌, ◌≤◌, length, take, drop, ◌∙◌, refl, ap, arith, ℕ, length-append, length-drop, length-take-le}
use Rattle.tt_log.proofs.ZeroLemmas.{clear_more}
use Rattle.tt_log.proofs.rest.is_clear.Goals as goal

pub loop-at-preserved : goal.loop-at-preserved
loop-at-preserved g c =
    let inv = c.loop-at.invariant in
    let at = c.loop-at.at in
    let n = c.piece_len-count.result in
    let buffer = c.loop-at.buffer in
    let piece = c.read_at.new.buffer in
    let few : n ≤ length buffer = omega (arith, c.piece_len-count.ensures) in
    let taken : length (take n buffer) ≡ n = length-take-le n buffer few in
    let long : length piece ≡ n = omega (arith, c.read_at.auto.buffer, taken) in
    record {
      some = omega (arith, inv.some, long, few, length-append piece (drop n buffer), length-drop n buffer);
      behind = omega (arith, inv.behind);
      within = omega (arith, inv.within, c.piece_len-count.ensures);
      clear = λ told.
          let seen = g.D.Device.seen c.args.device.now in
          let within : at + n ≤ length seen = omega (arith, inv.within, c.piece_len-count.ensures, c.requires.len told) in
          let is = c.in-Ok.ensures.read told ∙ ap (λ (k : ℕ). take k (drop at seen)) taken in
          clear_more seen piece c.args.from at n inv.behind within (inv.clear told) is long (c.if-not-is_zeros.ensures.zeros refl);
    }
