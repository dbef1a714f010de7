-- The pieces of the member, one after another.
use Rattle.std.proofs.Common.{codes}
use Rattle.tt_grammar.specs.Quoting.{quoted}
use Rattle.tt_answers.proofs.PieceLemmas.{object-member}
use Rattle.tt_answers.proofs.fault_text.push_fault_at.Goals as goal

pub returns : goal.returns
returns c =
    object-member c.args.out.now.items c.push_named.new.out.items c.push_named-2.new.out.items c.push.new.self.items
    (codes "\"fault\":{\"path\":") (quoted c.args.path.now) (codes ",\"cause\":") (quoted c.args.cause.now) (codes "}")
    c.in_ok-push_named.ensures c.in_ok-push_named-2.ensures c.in_ok-push.ensures.items
