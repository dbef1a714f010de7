use Rattle.tt_requests.proofs.NumberLemmas.{numbers_are_told_exactly}
use Rattle.tt_requests.proofs.laws.numbers_are_told_exactly.Goals as goal

pub returns : goal.returns
returns c = numbers_are_told_exactly
