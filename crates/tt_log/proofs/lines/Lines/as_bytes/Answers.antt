-- What is logged is lines.
use Rattle.std.proofs.Common.{subst}
use Rattle.tt_log.specs.Lines.{AreLines}
use Rattle.tt_log.proofs.LineLemmas.{AreLines-logged}
use Rattle.tt_log.proofs.lines.Lines.as_bytes.Goals as goal

pub returns-clause-lines : goal.returns-clause-lines
returns-clause-lines c = subst AreLines c.self.view_is (AreLines-logged c.self.inside.bytes.items)
