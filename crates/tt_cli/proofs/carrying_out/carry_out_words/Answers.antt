use Rattle.std.proofs.Common.{◌≡◌, rules}
use Rattle.tt_cli.proofs.CarryingOutLemmas.{carries_out}
use Rattle.tt_cli.proofs.carrying_out.carry_out_words.Goals as goal

pub returns-in-Ok-clause-words : goal.returns-in-Ok-clause-words
returns-in-Ok-clause-words g c =
    let is_slice : c.as_slice.result.now ≡ c.in-Ok.words.items = search rules in
    let asked = c.command_of-asked.ensures in
    let done = c.carry_out.ensures in
    rw (c.in-Ok.is, ← is_slice) (carries_out _ c.command_of-asked.result _ _ _ _ _
    asked.kinds asked.command asked.batch asked.closed asked.why asked.diff asked.json asked.dry asked.rounds done.run done.kind done.unread done.unwritten done.usage)
