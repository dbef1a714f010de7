use Rattle.tt_requests.proofs.NewestVersionLemmas.{requests_read_the_same}
use Rattle.tt_requests.proofs.laws.requests_read_the_same.Goals as goal

pub returns : goal.returns
returns c = requests_read_the_same
