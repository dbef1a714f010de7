-- One piece more is written into the new file.
use Rattle.std.proofs.Common.{◌≡◌, ◌≤◌, ◌++◌, length, take, drop, sym, ◌∙◌, arith, length-append, length-drop}
use Rattle.std.proofs.lemmas.List.{length-take-le}
use Rattle.tt_log.proofs.ReadingLemmas.{take-add}
use Rattle.tt_log.proofs.SyncLemmas.{stays_on}
use Rattle.tt_log.proofs.starting.copy_lines.Goals as goal

pub loop-at-preserved : goal.loop-at-preserved
loop-at-preserved g c =
    let V = g.D.Device in
    let inv = c.loop-at.invariant in
    let first = c.args.device.now in
    let mid = c.loop-at.device in
    let new = c.append_new.new.self in
    let at = c.loop-at.at in
    let n = c.piece_len-count.result in
    let buffer = c.loop-at.buffer in
    let piece = c.read_at.new.buffer in
    let few : n ≤ length buffer = omega (arith, c.piece_len-count.ensures) in
    let taken : length (take n buffer) ≡ n = length-take-le n buffer few in
    let long : length piece ≡ n = omega (arith, c.read_at.auto.buffer, taken) in
    record {
      some = omega (arith, inv.some, long, few, length-append piece (drop n buffer), length-drop n buffer);
      within = omega (arith, inv.within, c.piece_len-count.ensures);
      tells = (λ told. c.append_new.ensures.tells.0 (inv.tells.0 told), λ now. inv.tells.1 (c.append_new.ensures.tells.1 now));
      copied = λ told.
          let told_mid = inv.tells.0 told in
          let file = V.seen first in
          let is_piece : piece ≡ take n (drop at file) = c.in-Ok.ensures.read told_mid ∙ (λ j. take (taken j) (drop at ((inv.stays told).seen_is j))) in
          c.in_ok-append_new.ensures.written told_mid ∙ (λ j. inv.copied told j ++ is_piece j) ∙ sym (take-add at n file);
      stays = λ told.
          let told_mid = inv.tells.0 told in
          stays_on V.seen V.shown V.may_leave V.moment V.left_since V.failures g.met.D.Device.only_now first mid new (inv.stays told)
          (c.append_new.ensures.seen told_mid) (c.append_new.ensures.shown told_mid) (c.append_new.ensures.crash told_mid) (c.append_new.ensures.time told_mid) (c.append_new.ensures.failed told_mid).later;
    }
