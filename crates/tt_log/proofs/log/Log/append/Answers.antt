-- Lines are written behind those that are there, and then synced.
use Rattle.std.proofs.Common.{◌≡◌, ◌+◌, ◌++◌, ◌≤◌, ◌<◌, List, ℕ, length, ◌∙◌, ap, sym, subst, arith, eqb-true}
use Rattle.std.proofs.lemmas.List.{append-nil}
use Rattle.tt_log.specs.Lines.{logged, joined}
use Rattle.tt_log.specs.Log.{IsAtRest}
use Rattle.tt_log.proofs.PendingLemmas.{logged-lines, IsJoined-joined, no_lines}
use Rattle.tt_log.proofs.WriteLemmas.{at_rest-written, logged-written, length-written, end-written}
use Rattle.tt_log.proofs.StepLemmas.{written, written_synced}
use Rattle.tt_log.specs.Crash.{IsWritten}
use Rattle.tt_log.proofs.SyncLemmas.{all_synced, only_synced}
use Rattle.tt_log.proofs.UncleanLemmas.{write_unclean, write_sync_unclean}
use Rattle.tt_log.proofs.log.Log.append.Goals as goal

pub returns-in_err-write_at-clause-any_moment : goal.returns-in_err-write_at-clause-any_moment
returns-in_err-write_at-clause-any_moment g c = λ told.
    let told_1 = c.make_room.ensures.tells.0 told in
    let told_2 = c.write_at.ensures.tells.0 told_1 in
    let old = c.args.self.now.device in
    let mid = c.make_room.new.self.device in
    let lines = logged (g.D.Device.seen old) in
    let s = c.in_ok-end.ensures.settled told in
    written g.D.Device.shown g.D.Device.may_leave g.D.Device.moment g.D.Device.left_since g.met.D.Device.only_now old mid c.write_at.new.self lines c.args.lines.now (g.D.Device.seen mid) c.as_bytes-bytes.result.now c.make_room.new.self.end s.at_rest s.end (c.in_ok-end.ensures.logged told) c.as_bytes-bytes.ensures.lines c.as_bytes-bytes.ensures.bytes s.durable (c.make_room.ensures.any_moment told) (c.make_room.ensures.shown told) (c.write_at.ensures.crash told_1) (c.write_at.ensures.time told_1)

pub returns-in_err-sync-clause-any_moment : goal.returns-in_err-sync-clause-any_moment
returns-in_err-sync-clause-any_moment g c = λ told.
    let told_1 = c.make_room.ensures.tells.0 told in
    let told_2 = c.write_at.ensures.tells.0 told_1 in
    let old = c.args.self.now.device in
    let mid = c.make_room.new.self.device in
    let lines = logged (g.D.Device.seen old) in
    let s = c.in_ok-end.ensures.settled told in
    written_synced g.D.Device.shown g.D.Device.may_leave g.D.Device.moment g.D.Device.left_since g.met.D.Device.only_now old mid c.write_at.new.self lines c.args.lines.now (g.D.Device.seen mid) c.as_bytes-bytes.result.now c.make_room.new.self.end s.at_rest s.end (c.in_ok-end.ensures.logged told) c.as_bytes-bytes.ensures.lines c.as_bytes-bytes.ensures.bytes s.durable (c.make_room.ensures.any_moment told) (c.make_room.ensures.shown told) (c.write_at.ensures.crash told_1) (c.write_at.ensures.time told_1)
    c.sync.new.self (c.write_at.ensures.shown told_1) (c.sync.ensures.crash told_2) (c.sync.ensures.time told_2)

pub returns-clause-any_moment : goal.returns-clause-any_moment
returns-clause-any_moment g c = λ told.
    let told_1 = c.make_room.ensures.tells.0 told in
    let told_2 = c.write_at.ensures.tells.0 told_1 in
    let old = c.args.self.now.device in
    let mid = c.make_room.new.self.device in
    let lines = logged (g.D.Device.seen old) in
    let s = c.in_ok-end.ensures.settled told in
    written_synced g.D.Device.shown g.D.Device.may_leave g.D.Device.moment g.D.Device.left_since g.met.D.Device.only_now old mid c.write_at.new.self lines c.args.lines.now (g.D.Device.seen mid) c.as_bytes-bytes.result.now c.make_room.new.self.end s.at_rest s.end (c.in_ok-end.ensures.logged told) c.as_bytes-bytes.ensures.lines c.as_bytes-bytes.ensures.bytes s.durable (c.make_room.ensures.any_moment told) (c.make_room.ensures.shown told) (c.write_at.ensures.crash told_1) (c.write_at.ensures.time told_1)
    c.sync.new.self (c.write_at.ensures.shown told_1) (c.sync.ensures.crash told_2) (c.sync.ensures.time told_2)

-- what is seen in the end
pub returns-clause-logged : goal.returns-clause-logged
returns-clause-logged g c = λ told.
    let told_1 = c.make_room.ensures.tells.0 told in
    let told_2 = c.write_at.ensures.tells.0 told_1 in
    let old = c.args.self.now.device in
    let mid = c.make_room.new.self.device in
    let lines = logged (g.D.Device.seen old) in
    let s = c.in_ok-end.ensures.settled told in
    let bytes = c.as_bytes-bytes.result.now in
    let is = IsJoined-joined bytes c.args.lines.now c.as_bytes-bytes.ensures.lines c.as_bytes-bytes.ensures.bytes in
    let seen = c.in_ok-sync.ensures.seen told_2 ∙ c.in_ok-write_at.ensures.written told_1 in
    let lines_are : logged (g.D.Device.seen mid) ≡ lines = c.in_ok-end.ensures.logged told in
    let more_is : logged bytes ≡ c.args.lines.now = ap logged c.as_bytes-bytes.ensures.bytes ∙ logged-lines c.args.lines.now c.as_bytes-bytes.ensures.lines in
    ap logged seen ∙ logged-written (g.D.Device.seen mid) bytes c.make_room.new.self.end s.at_rest s.end is ∙ (λ j. lines_are j ++ more_is j)

pub returns-clause-settled : goal.returns-clause-settled
returns-clause-settled g c = λ told.
    let told_1 = c.make_room.ensures.tells.0 told in
    let told_2 = c.write_at.ensures.tells.0 told_1 in
    let old = c.args.self.now.device in
    let mid = c.make_room.new.self.device in
    let lines = logged (g.D.Device.seen old) in
    let s = c.in_ok-end.ensures.settled told in
    let file = g.D.Device.seen mid in
    let bytes = c.as_bytes-bytes.result.now in
    let is = IsJoined-joined bytes c.args.lines.now c.as_bytes-bytes.ensures.lines c.as_bytes-bytes.ensures.bytes in
    let seen = c.in_ok-sync.ensures.seen told_2 ∙ c.in_ok-write_at.ensures.written told_1 in
    let at_end = c.make_room.new.self.end in
    let fits : at_end + length bytes ≤ length file = omega (arith, c.in_ok-end.ensures.within, s.len) in
    record {
      at_rest = subst IsAtRest (sym seen) (at_rest-written file bytes at_end s.at_rest s.end is);
      end = c.in_ok-end.ensures.end ∙ end-written file bytes at_end s.at_rest s.end is ∙ ap (λ (f : List ℕ). length (joined (logged f))) (sym seen);
      len = s.len ∙ sym (length-written file bytes at_end s.at_rest s.end is fits) ∙ ap length (sym seen);
      durable = all_synced (IsWritten at_end bytes) file (g.D.Device.seen c.sync.new.self) (g.D.Device.once_synced mid) (g.D.Device.once_synced c.write_at.new.self) (g.D.Device.may_leave c.sync.new.self)
          (only_synced file (g.D.Device.may_leave mid) (g.D.Device.once_synced mid) s.durable (g.met.D.Device.synced_is_left mid told_1))
          (c.in_ok-write_at.ensures.synced told_1) (c.in_ok-sync.ensures.durable told_2) (λ f is. is ∙ sym seen);
    }

pub write_at-requires-clause-within : goal.write_at-requires-clause-within
write_at-requires-clause-within g c = λ told_1.
    let s = c.in_ok-end.ensures.settled (c.make_room.ensures.tells.1 told_1) in
    omega (arith, c.in_ok-end.ensures.within, s.len)

pub write_at-requires-clause-length : goal.write_at-requires-clause-length
write_at-requires-clause-length g c = λ told_1.
    let s = c.in_ok-end.ensures.settled (c.make_room.ensures.tells.1 told_1) in
    λ f left. ap length (s.durable f left)

-- where there are no lines
pub returns-then-is_empty-clause-logged : goal.returns-then-is_empty-clause-logged
returns-then-is_empty-clause-logged g c = λ told.
    let none = no_lines c.args.lines.now (sym (ap length c.as_bytes-bytes.ensures.bytes) ∙ eqb-true _ _ (sym c.if-is_empty.ensures)) in
    sym (append-nil (logged (g.D.Device.seen c.args.self.now.device))) ∙ ap (λ (ls : List (List ℕ)). logged (g.D.Device.seen c.args.self.now.device) ++ ls) (sym none)

-- what a crash leaves doesn't look ended
pub returns-in_err-write_at-clause-unclean : goal.returns-in_err-write_at-clause-unclean
returns-in_err-write_at-clause-unclean g c = λ told.
    let told_1 = c.make_room.ensures.tells.0 told in
    let V = g.D.Device in
    let old = c.args.self.now.device in
    let mid = c.make_room.new.self in
    let s = c.in_ok-end.ensures.settled told in
    let bytes = c.as_bytes-bytes.result.now in
    let is = IsJoined-joined bytes c.args.lines.now c.as_bytes-bytes.ensures.lines c.as_bytes-bytes.ensures.bytes in
    let room : mid.end + length bytes < length (V.seen mid.device) = omega (arith, c.in_ok-end.ensures.within, s.len) in
    write_unclean V.shown V.may_leave V.moment V.left_since g.met.D.Device.only_now old mid.device c.write_at.new.self (V.seen mid.device) bytes mid.end s.at_rest s.end is room s.durable (c.make_room.ensures.unclean told) (c.write_at.ensures.crash told_1) (c.write_at.ensures.time told_1)

pub returns-in_err-sync-clause-unclean : goal.returns-in_err-sync-clause-unclean
returns-in_err-sync-clause-unclean g c = λ told.
    let told_1 = c.make_room.ensures.tells.0 told in
    let told_2 = c.write_at.ensures.tells.0 told_1 in
    let V = g.D.Device in
    let old = c.args.self.now.device in
    let mid = c.make_room.new.self in
    let s = c.in_ok-end.ensures.settled told in
    let bytes = c.as_bytes-bytes.result.now in
    let is = IsJoined-joined bytes c.args.lines.now c.as_bytes-bytes.ensures.lines c.as_bytes-bytes.ensures.bytes in
    let room : mid.end + length bytes < length (V.seen mid.device) = omega (arith, c.in_ok-end.ensures.within, s.len) in
    write_sync_unclean V.shown V.may_leave V.moment V.left_since g.met.D.Device.only_now old mid.device c.write_at.new.self (V.seen mid.device) bytes mid.end s.at_rest s.end is room s.durable (c.make_room.ensures.unclean told) (c.write_at.ensures.crash told_1) (c.write_at.ensures.time told_1)
    c.sync.new.self (c.sync.ensures.crash told_2) (c.sync.ensures.time told_2)

pub returns-clause-unclean : goal.returns-clause-unclean
returns-clause-unclean g c = λ told.
    let told_1 = c.make_room.ensures.tells.0 told in
    let told_2 = c.write_at.ensures.tells.0 told_1 in
    let V = g.D.Device in
    let old = c.args.self.now.device in
    let mid = c.make_room.new.self in
    let s = c.in_ok-end.ensures.settled told in
    let bytes = c.as_bytes-bytes.result.now in
    let is = IsJoined-joined bytes c.args.lines.now c.as_bytes-bytes.ensures.lines c.as_bytes-bytes.ensures.bytes in
    let room : mid.end + length bytes < length (V.seen mid.device) = omega (arith, c.in_ok-end.ensures.within, s.len) in
    write_sync_unclean V.shown V.may_leave V.moment V.left_since g.met.D.Device.only_now old mid.device c.write_at.new.self (V.seen mid.device) bytes mid.end s.at_rest s.end is room s.durable (c.make_room.ensures.unclean told) (c.write_at.ensures.crash told_1) (c.write_at.ensures.time told_1)
    c.sync.new.self (c.sync.ensures.crash told_2) (c.sync.ensures.time told_2)
