use Rattle.std.proofs.Common.{w64, ℤ, rules, ap, ◌∙◌}
use Rattle.std.proofs.lemmas.Int.{to_z-of_z}
use Rattle.std.proofs.lemmas.Result.{on_ok_weaker}
use Rattle.tt_pages.specs.MapEntries.{entries_without}
use Rattle.tt_versions.proofs.indexed_column.KeyRemovedModifyKeySet.apply.Goals as goal

pub returns : goal.returns
returns c = on_ok_weaker c.remove.result (λ is. is ∙ ap (λ (k : ℤ). entries_without k c.args.keys.now) (to_z-of_z w64 c.args.self.key (search rules))) c.remove.ensures.ok
