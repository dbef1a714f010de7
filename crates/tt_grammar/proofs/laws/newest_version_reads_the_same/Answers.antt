use Rattle.tt_grammar.proofs.NewestVersionLemmas.{newest_version_reads_the_same}
use Rattle.tt_grammar.proofs.laws.newest_version_reads_the_same.Goals as goal

pub returns : goal.returns
returns c = newest_version_reads_the_same
