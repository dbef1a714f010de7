use Rattle.tt_repair_laws.proofs.LawProofs.{updates_and_deletes_write_what_they_match}
use Rattle.tt_repair_laws.proofs.laws.updates_and_deletes_write_what_they_match.Goals as goal

pub returns : goal.returns
returns c = updates_and_deletes_write_what_they_match
