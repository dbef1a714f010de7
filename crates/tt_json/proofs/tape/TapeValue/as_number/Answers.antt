use Rattle.std.proofs.Common.{Some, None, ap, ◌∙◌}
use Rattle.serde_json.specs.Find.{as_number}
use Rattle.tt_json.specs.Tape.{value_at}
use Rattle.tt_json.proofs.ItemsLemmas.{number-value}
use Rattle.tt_json.proofs.tape.TapeValue.as_number.Goals as goal

pub returns-in-Some : goal.returns-in-Some
returns-in-Some c = c.number_of.ensures ∙ number-value _ (Some c.in-Some.text.now) c.self.invariant c.in-Some.ensures ∙ ap (λ ts. as_number (value_at ts)) c.self.view_is

pub returns-in-None : goal.returns-in-None
returns-in-None c = number-value _ None c.self.invariant c.in-None.ensures ∙ ap (λ ts. as_number (value_at ts)) c.self.view_is
