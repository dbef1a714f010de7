use Rattle.std.proofs.Common.{ap, ◌∙◌}
use Rattle.serde_json.specs.Find.{as_bool}
use Rattle.tt_json.specs.Tape.{value_at}
use Rattle.tt_json.proofs.ItemsLemmas.{bool-value}
use Rattle.tt_json.proofs.tape.TapeValueJsonValue.as_bool.Goals as goal

pub returns : goal.returns
returns c = bool-value _ c.as_bool.result c.self.invariant c.as_bool.ensures ∙ ap (λ ts. as_bool (value_at ts)) c.self.view_is
