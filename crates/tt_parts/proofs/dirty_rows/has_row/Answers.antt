use Rattle.std.proofs.Common.{is_some, w64, ap, ◌∙◌}
use Rattle.std.proofs.lemmas.Int.{to_z-of_z}
use Rattle.tt_parts.specs.Sets.{no_keys, key_since}
use Rattle.tt_parts.proofs.EntriesLemmas.{test_found, test_missing}
use Rattle.tt_parts.proofs.dirty_rows.has_row.Goals as goal

pub returns-in-Some : goal.returns-in-Some
returns-in-Some c =
    c.has.ensures
    ∙ ap (λ key. is_some (key_since c.in-Some.keys.now key)) (to_z-of_z w64 c.args.key c.ranges.key)
    ∙ test_found (λ keys. is_some (key_since keys c.args.key)) no_keys c.value_at.result c.in-Some.keys _ c.in-Some.is c.value_at.ensures

pub returns-in-None : goal.returns-in-None
returns-in-None c = test_missing (λ keys. is_some (key_since keys c.args.key)) no_keys c.value_at.result _ c.in-None.is c.value_at.ensures
