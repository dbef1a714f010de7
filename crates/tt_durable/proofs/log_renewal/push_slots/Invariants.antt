-- the lines of the slots so far are written or to follow, and the log goes on as it was
use Rattle.std.proofs.Common.{◌↔◌, ◌-◌, All, take, drop}
use Rattle.tt_log.specs.Log.{IsSettled, IsMaking}
use Rattle.tt_session.specs.LogLines.{stamped_entries, lines_of_further}
use Rattle.tt_durable.specs.Renewing.{IsFurtherPrintable, WritesOn}
use Rattle.tt_durable.proofs.log_renewal.push_slots.Given as goal

abbrev pub invariant-loop-place : goal.invariant-loop-place
invariant-loop-place g l = record {
  settled : g.D.Device.tells l.initial.log.device → IsSettled g.D.Device.seen g.D.Device.may_leave l.log;
  making : g.D.Device.tells l.initial.log.device → IsMaking g.D.Device.new_file l.log;
  tells : g.D.Device.tells l.initial.log.device ↔ g.D.Device.tells l.log.device;
  writes : g.D.Device.tells l.initial.log.device → WritesOn g.D.Device l.initial.log l.log l.initial.lines l.lines (lines_of_further l.db.catalog (take (l.place - l.ground_slots) (stamped_entries (drop l.ground_slots l.db.history) l.stamps)));
  printable : All IsFurtherPrintable (take (l.place - l.ground_slots) (stamped_entries (drop l.ground_slots l.db.history) l.stamps));
}
