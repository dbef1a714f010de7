-- No more records are kept than may be, whether there was memory or not.
use Rattle.tt_commands.proofs.GoingOnLemmas.{put-sound}
use Rattle.tt_commands.proofs.open_session.OpenSession.keep_record.Goals as goal

pub invariant_of-self : goal.invariant_of-self
invariant_of-self c =
    let s = c.self.inside in
    put-sound c.put.result s.db s.numbering s.records c.put.new.self c.in-Some.latest s.most_records c.self.invariant c.put.ensures.ok c.put.ensures.err
