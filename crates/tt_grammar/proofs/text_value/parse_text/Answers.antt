-- The value is the one on the tape, where no object has a key twice.
use Rattle.std.proofs.Common.{rules}
use Rattle.tt_json.specs.Tape.{value_at}
use Rattle.tt_grammar.proofs.RepeatedLemmas.{value_of_text-unique, fails_refused}
use Rattle.tt_grammar.proofs.text_value.parse_text.Goals as goal

pub returns-in-Ok-clause-gives : goal.returns-in-Ok-clause-gives
returns-in-Ok-clause-gives c = value_of_text-unique c.args.text.now (value_at c.in-Ok.tape) c.in-Ok.ensures.ok c.in-Ok.ensures.unique

pub returns-in-Err-Invalid-clause-gives : goal.returns-in-Err-Invalid-clause-gives
returns-in-Err-Invalid-clause-gives c = fails_refused c.args.text.now c.here.result (c.in-Err-Invalid.ensures.invalid (search rules)) c.here.ensures
