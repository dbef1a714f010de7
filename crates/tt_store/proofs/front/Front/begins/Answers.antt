-- Both begin what is known of both, so the one that isn't longer begins the other.
use Rattle.std.proofs.Common.{List, ap, subst}
use mathlib.Core.List.{IsPrefix}
use Rattle.tt_db.specs.declared.event.Entry.{Entry}
use Rattle.tt_store.specs.History.{joined}
use Rattle.tt_store.proofs.Prefixes.{joined-prefix, prefix_by_test}
use Rattle.tt_store.proofs.front.Front.begins.Goals as goal

pub returns : goal.returns
returns c =
    let both = c.learn.new.self.log in
    let mine : IsPrefix c.self.inside.seen.log both = subst (λ (l : List (List Entry)). IsPrefix l both) (ap (λ s. s.log) c.again-both.ensures) c.learn.ensures.2 in
    rw (← c.self.view_is, ← c.other.view_is)
    (prefix_by_test (joined c.self.inside.seen.log) (joined c.other.inside.seen.log) (joined both) c.self.inside.entries c.other.inside.entries
    c.self.invariant c.other.invariant (joined-prefix c.self.inside.seen.log both mine) (joined-prefix c.other.inside.seen.log both c.learn.ensures.3))
