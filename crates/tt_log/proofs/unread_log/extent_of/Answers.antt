-- The walk ends at a 0, or behind the last byte.
use Rattle.std.proofs.Common.{arith}
use Rattle.tt_log.proofs.RestLemmas.{ended_here, ended_last}
use Rattle.tt_log.proofs.unread_log.extent_of.Goals as goal

pub returns-then-byte-eq0-clause-end : goal.returns-then-byte-eq0-clause-end
returns-then-byte-eq0-clause-end c = ended_here c.args.bytes.now c.loop-i.i c.loop-i.end c.loop-i.invariant.read (omega arith) c.if-byte-eq0.true

pub returns-clause-end : goal.returns-clause-end
returns-clause-end c = ended_last c.args.bytes.now c.loop-i.i c.loop-i.end c.loop-i.invariant.read (omega arith)
