use Rattle.std.proofs.Common.{Option, ℤ, [], w64, sym, ap, ◌∙◌}
use Rattle.std.proofs.lemmas.Int.{to_z-of_z}
use Rattle.std.specs.Option.{unwrap_or, option_copied}
use Rattle.tt_versions.specs.Index.{KeySet, keys_under}
use Rattle.tt_versions.proofs.indexed_column.set_under.Goals as goal

pub returns-in-Some : goal.returns-in-Some
returns-in-Some c =
    sym (ap (λ o. unwrap_or (option_copied o) []) c.in-Some.is)
    ∙ ap (λ (o : Option KeySet). unwrap_or o []) c.get.ensures
    ∙ ap (λ (d : ℤ). keys_under d c.args.sets.now) (to_z-of_z w64 c.args.digest c.ranges.digest)

pub returns-in-None : goal.returns-in-None
returns-in-None c =
    c.requires
    ∙ sym (ap (λ o. unwrap_or (option_copied o) []) c.in-None.is)
    ∙ ap (λ (o : Option KeySet). unwrap_or o []) c.get.ensures
    ∙ ap (λ (d : ℤ). keys_under d c.args.sets.now) (to_z-of_z w64 c.args.digest c.ranges.digest)
