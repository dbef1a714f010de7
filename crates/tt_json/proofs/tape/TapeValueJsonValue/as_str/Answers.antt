use Rattle.std.proofs.Common.{option_map, ap, ◌∙◌}
use Rattle.serde_json.specs.Find.{as_str}
use Rattle.tt_json.specs.Tape.{value_at}
use Rattle.tt_json.proofs.ItemsLemmas.{str-value}
use Rattle.tt_json.proofs.tape.TapeValueJsonValue.as_str.Goals as goal

pub returns : goal.returns
returns c = str-value _ (option_map (λ s. s.now) c.as_str.result) c.self.invariant c.as_str.ensures ∙ ap (λ ts. as_str (value_at ts)) c.self.view_is
