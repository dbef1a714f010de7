-- A few digits are the number that the numeral is.
use Rattle.std.proofs.Common.{Some, sym, ap, ◌∙◌}
use Rattle.serde_json.specs.Data.{unsigned}
use Rattle.tt_json.proofs.NumberLemmas.{number_from-few_digits}
use Rattle.tt_json.proofs.number.without_minus.Goals as goal

pub returns-in-Some : goal.returns-in-Some
returns-in-Some c =
    let digits = c.in-Some.ensures in
    ap (λ n. Some (unsigned n)) digits.1 ∙ sym (number_from-few_digits _ digits.0)
