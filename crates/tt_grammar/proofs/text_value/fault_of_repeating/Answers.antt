-- A text that has a value has the fault of the grammar's JSON.
use Rattle.std.proofs.Common.{rules}
use Rattle.tt_json.specs.Tape.{value_at}
use Rattle.tt_grammar.proofs.RepeatedLemmas.{value_of_text-repeated, fails_refused}
use Rattle.tt_grammar.proofs.text_value.fault_of_repeating.Goals as goal

pub returns-in-Ok : goal.returns-in-Ok
returns-in-Ok c = value_of_text-repeated c.args.text.now (value_at c.in-Ok.field-0) c.repeated_member.result c.in-Ok.ensures.ok c.repeated_member.ensures

pub returns-in-Err-Invalid : goal.returns-in-Err-Invalid
returns-in-Err-Invalid c = fails_refused c.args.text.now c.here.result (c.in-Err-Invalid.ensures.invalid (search rules)) c.here.ensures
