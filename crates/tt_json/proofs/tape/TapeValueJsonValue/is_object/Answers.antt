use Rattle.std.proofs.Common.{Some, None, is_some, ap, ◌∙◌}
use Rattle.serde_json.specs.Find.{as_object}
use Rattle.tt_json.specs.Tape.{value_at}
use Rattle.tt_json.proofs.ItemsLemmas.{object-value}
use Rattle.tt_json.proofs.tape.TapeValueJsonValue.is_object.Goals as goal

pub returns-in-Some : goal.returns-in-Some
returns-in-Some c = object-value _ (Some c.in-Some.field-0) c.self.invariant c.in-Some.ensures ∙ ap (λ ts. is_some (as_object (value_at ts))) c.self.view_is

pub returns-in-None : goal.returns-in-None
returns-in-None c = object-value _ None c.self.invariant c.in-None.ensures ∙ ap (λ ts. is_some (as_object (value_at ts))) c.self.view_is
