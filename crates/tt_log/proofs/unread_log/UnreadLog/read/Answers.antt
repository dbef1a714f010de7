-- One piece more is read.
use Rattle.std.proofs.Common.{◌≡◌, ◌+◌, ◌≤◌, ◌++◌, List, ℕ, length, take, drop, sym, ◌∙◌, ap, arith, length-take-le}
use Rattle.std.proofs.lemmas.List.{take-append-le}
use Rattle.tt_log.specs.Lines.{text, joined, whole_lines_of}
use Rattle.tt_log.proofs.ReadingLemmas.{text-le, given_left, read_more, end_more, none_left}
use Rattle.tt_log.proofs.unread_log.UnreadLog.read.Goals as goal

pub returns-clause-bytes : goal.returns-clause-bytes
returns-clause-bytes g c = λ told.
    let log = c.args.self.now in
    let seen = g.D.Device.seen log.device in
    let at = log.at in
    let count = c.next_count-count.result in
    let taken = c.take_piece.result in
    let buffer = c.args.buffer.now in
    let piece = c.read_at.new.buffer in
    let more = c.take_piece.ensures in
    let all : length (take count buffer) ≡ count = length-take-le count buffer c.next_count-count.ensures.most in
    let within : at + count ≤ length seen = omega (arith, c.next_count-count.ensures.within, (c.requires.reading told).len) in
    let is_piece = c.in_ok-read_at.ensures.read told ∙ ap (λ (k : ℕ). take k (drop at seen)) all in
    let few : taken ≤ length piece = omega (arith, more.taken, text-le piece) in
    let after = c.take_piece.new.self in
    let unread_is : text (drop after.at (g.D.Device.seen after.device)) ≡ text (drop (at + taken) seen) = (λ j. text (drop (more.at j) (g.D.Device.seen (more.device j)))) in
    ap (λ (l : List ℕ). l ++ text (drop after.at (g.D.Device.seen after.device))) (take-append-le taken piece (drop count buffer) few)
    ∙ (λ j. take taken piece ++ unread_is j)
    ∙ given_left seen piece at count taken within is_piece more.taken

pub returns-clause-reading : goal.returns-clause-reading
returns-clause-reading g c = λ told.
    let log = c.args.self.now in
    let seen = g.D.Device.seen log.device in
    let at = log.at in
    let count = c.next_count-count.result in
    let taken = c.take_piece.result in
    let buffer = c.args.buffer.now in
    let piece = c.read_at.new.buffer in
    let more = c.take_piece.ensures in
    let after = c.take_piece.new.self in
    let r = c.requires.reading told in
    let all : length (take count buffer) ≡ count = length-take-le count buffer c.next_count-count.ensures.most in
    let within : at + count ≤ length seen = omega (arith, c.next_count-count.ensures.within, r.len) in
    let is_piece = c.in_ok-read_at.ensures.read told ∙ ap (λ (k : ℕ). take k (drop at seen)) all in
    let unread_is : text (drop after.at (g.D.Device.seen after.device)) ≡ text (drop (at + taken) seen) = (λ j. text (drop (more.at j) (g.D.Device.seen (more.device j)))) in
    record {
      len = more.len ∙ r.len ∙ ap (λ d. length (g.D.Device.seen d)) (sym more.device);
      read = ap (λ d. text (g.D.Device.seen d)) more.device
          ∙ read_more seen piece at count taken within is_piece more.taken r.read
          ∙ sym (λ j. take (more.at j) (g.D.Device.seen (more.device j)) ++ unread_is j);
      end = end_more seen piece at count taken within is_piece more.taken log.end after.end r.end more.end
          ∙ sym (λ j. length (joined (whole_lines_of (take (more.at j) (g.D.Device.seen (more.device j))))));
      at_end = λ ended. unread_is ∙ none_left seen piece at count taken within is_piece more.taken (more.at_end ended);
    }
