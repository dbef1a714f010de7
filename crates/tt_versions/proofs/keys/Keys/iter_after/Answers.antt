-- Both sets are read from the key on.
use Rattle.std.proofs.Common.{sym, ap, ◌∙◌}
use Rattle.tt_versions.specs.Index.{KeySet}
use Rattle.tt_versions.specs.Keys.{merged, first_then}
use Rattle.tt_versions.specs.Pages.{those_after}
use Rattle.tt_versions.proofs.KeysLemmas.{is_sorted-merged, those_after-merged}
use Rattle.tt_versions.proofs.keys.Keys.iter_after.Goals as goal

pub returns-clause-all : goal.returns-clause-all
returns-clause-all c =
    let after = c.args.after in
    let current = c.args.self.current.now in
    let past = c.args.self.past.now in
    let one = c.next_key-first_current.ensures.first ∙ c.iter_after-current.ensures.all in
    let other = c.next_key-first_past.ensures.first ∙ c.iter_after-past.ensures.all in
    ap (λ (ks : KeySet). merged ks (first_then c.next_key-first_past.result c.next_key-first_past.new.keys)) one ∙ ap (merged (those_after after current)) other ∙ sym (those_after-merged after current past)

pub returns-clause-sorted : goal.returns-clause-sorted
returns-clause-sorted c = is_sorted-merged c.args.self.current.now c.args.self.past.now c.iter_after-current.ensures.sorted c.iter_after-past.ensures.sorted
