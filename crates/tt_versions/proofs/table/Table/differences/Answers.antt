-- The differences so far are the first, where there are as many as are asked for, or where no key is left.
use Rattle.std.proofs.Common.{◌≡◌, subst, arith, ap, ◌∙◌}
use Rattle.std.proofs.lemmas.Grind.{common_steps}
use Rattle.tt_versions.specs.Index.{KeySet}
use Rattle.tt_versions.specs.Pages.{those_after}
use Rattle.tt_versions.specs.Sides.{LineagesByKey, HasSplitKeys}
use Rattle.tt_versions.specs.Differences.{differences_behind}
use Rattle.tt_versions.proofs.DifferencesLemmas.{differences_among, first_differences-full, first_differences-all, first_differences-of_any}
use Rattle.tt_versions.proofs.table.Table.differences.Goals as goal

pub returns-then-len-most-clause-lists : goal.returns-then-len-most-clause-lists
returns-then-len-most-clause-lists c =
    let keys : KeySet = c.split_keys.result.now in
    let split = subst (λ (t : LineagesByKey). HasSplitKeys keys t) c.self.view_is c.split_keys.ensures in
    let walk : c.into_iter-key-iterator.result ≡ those_after c.args.after keys = cc in
    first_differences-full (differences_behind c.loop-key.differences.items) c.args.after c.args.most keys c.loop-key.key-iterator c.args.self.now c.args.time split c.iter_after-key-items.ensures.sorted
    (c.loop-key.invariant.rows ∙ ap (differences_among c.args.self.now c.args.time) walk) (grind (arith, common_steps))

pub returns-then-len-most-clause-any : goal.returns-then-len-most-clause-any
returns-then-len-most-clause-any c = first_differences-of_any _ _ _ _ _ _ (returns-then-len-most-clause-lists c)

pub returns-clause-lists : goal.returns-clause-lists
returns-clause-lists c =
    let keys : KeySet = c.split_keys.result.now in
    let split = subst (λ (t : LineagesByKey). HasSplitKeys keys t) c.self.view_is c.split_keys.ensures in
    first_differences-all (differences_behind c.loop-key.differences.items) c.args.after c.args.most keys c.args.self.now c.args.time split c.iter_after-key-items.ensures.sorted
    (grind (arith, common_steps)) c.loop-key.invariant.few

pub returns-clause-any : goal.returns-clause-any
returns-clause-any c = first_differences-of_any _ _ _ _ _ _ (returns-clause-lists c)
