-- A file whose lines fill it was ended well.
use Rattle.std.proofs.Common.{sym, ◌∙◌}
use Rattle.tt_log.proofs.ReadingLemmas.{end_is}
use Rattle.tt_log.proofs.SyncLemmas.{nothing_else}
use Rattle.tt_log.proofs.unread_log.UnreadLog.settle.Goals as goal

pub add_room-settled-requires-clause-lines : goal.add_room-settled-requires-clause-lines
add_room-settled-requires-clause-lines g c = λ told.
    let log = c.args.self in
    let seen = g.D.Device.seen log.device in
    let r = c.requires.reading told in
    let ends = end_is seen log.at log.end r.read (c.requires.read told) r.end in
    nothing_else seen (sym ends ∙ c.if-end-len.true ∙ r.len)

pub add_room-settled-requires-clause-left : goal.add_room-settled-requires-clause-left
add_room-settled-requires-clause-left g c = λ told. c.requires.left told (add_room-settled-requires-clause-lines g c told)
