-- No more records are kept than may be from now on.
use Rattle.tt_commands.proofs.GoingOnLemmas.{kept-sound}
use Rattle.tt_commands.proofs.open_session.OpenSession.keep_at_most.Goals as goal

pub invariant_of-self : goal.invariant_of-self
invariant_of-self c =
    let s = c.self.inside in
    kept-sound s.db s.numbering s.records s.records c.keep_last.new.self s.most_records c.args.most c.self.invariant c.requires c.keep_last.ensures
