-- The search finds the first line feed, or none.
use Rattle.tt_session.proofs.LineLemmas.{first_feed-found}
use Rattle.tt_session.proofs.first_line.first_feed.Goals as goal

pub returns : goal.returns
returns c = first_feed-found c.args.bytes.now c.memchr.result c.memchr.ensures
