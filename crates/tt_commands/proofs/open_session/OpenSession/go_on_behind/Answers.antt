-- The database that has forgotten is sound, and no more records are kept than before.
use Rattle.std.proofs.Common.{List, sym, subst}
use Rattle.tt_records.specs.declared.record.Record.{Record}
use Rattle.tt_commands.specs.Sound.{IsSound}
use Rattle.tt_commands.proofs.ForgettingLemmas.{behind-sound}
use Rattle.tt_commands.proofs.open_session.OpenSession.go_on_behind.Goals as goal

pub invariant_of-self : goal.invariant_of-self
invariant_of-self c =
    let s = c.self.inside in
    let f = c.db.inside in
    subst (λ (records : List Record). IsSound f.db f.numbering records s.most_records) (sym c.forget_before.ensures)
    (behind-sound s.db f.db s.numbering f.numbering s.records s.most_records f.time f.ground_slots c.self.invariant c.db.invariant.0)
