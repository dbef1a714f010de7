-- What is left to be read gets shorter.
use Rattle.std.proofs.Common.{◌≡◌, ◌<◌, ◌+◌, false, [], length}
use Rattle.std.specs.Prelude.{if◌then◌else◌}
use Rattle.tt_log.specs.Reading.{unread, IsReading}
use Rattle.tt_device_tests.proofs.one_run.read_to_end.Given as goal

abbrev pub invariant-loop-is_more : goal.invariant-loop-is_more
invariant-loop-is_more g l = record {
  some : 0 < length l.buffer;
  reading : IsReading (λ d. d.file.items) l.log;
  device : l.log.device ≡ l.fn.log.device;
  end : l.is_more ≡ false → unread (λ d. d.file.items) l.log ≡ [];
}

abbrev pub decreases-loop-is_more : goal.decreases-loop-is_more
decreases-loop-is_more g l = (if l.is_more then 1 else 0) + length (unread (λ d. d.file.items) l.log)
