-- The names of the text's JSON repeat somewhere.
use Rattle.json.specs.Json.{document}
use Rattle.json.specs.Value.{value_view}
use Rattle.tt_grammar.proofs.RepeatedLemmas.{names_once-repeated}
use Rattle.tt_grammar.proofs.text_value.repeated_member.Goals as goal

pub unreachable-requires : goal.unreachable-requires
unreachable-requires c = names_once-repeated (document c.args.text.now) (value_view c.in-Ok.value) c.in-Ok.ensures.ok c.requires c.in-Ok-names_once.ensures
