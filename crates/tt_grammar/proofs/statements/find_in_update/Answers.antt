-- The names of an update's own members are its two, behind `change`.
use Rattle.std.specs.Prelude.{[], ◌∷◌, codes}
use Rattle.std.specs.Option.{option_copied}
use Rattle.tt_grammar.proofs.statements.find_in_update.Goals as goal
use Rattle.tt_grammar.proofs.StatementLemmas.{unknown_beside}

-- src/statements.rt:168:1
pub returns-clause-unknown : goal.returns-clause-unknown
returns-clause-unknown g c =
    unknown_beside c.args.context (codes "change") (codes "update" ∷ codes "where" ∷ []) c.members_with_change_at.result.now (g.V.JsonValue.json c.args.value.now)
    (option_copied c.find_two.result.unknown) c.members_with_change_at.ensures c.find_two.ensures.unknown
