-- The pieces of the members, one after another.
use Rattle.std.proofs.Common.{◌++◌, ap, ◌∙◌, codes}
use Rattle.std.specs.Fmt.{decimal}
use Rattle.tt_grammar.specs.Quoting.{quoted}
use Rattle.tt_answers.proofs.PieceLemmas.{value-number}
use Rattle.tt_answers.proofs.refusal_text.push_refused_at.Goals as goal

pub returns : goal.returns
returns c =
    value-number c.args.out.now.items c.push_named.new.out.items c.push_named-2.new.out.items c.push.new.self.items c.push_decimal.new.out.items
    (codes "\"refused\":") (quoted c.args.cause.now) (codes ",") (quoted c.args.name.now) (codes ":") (decimal c.args.number)
    (c.in_ok-push_named.ensures ∙ ap (λ t. c.args.out.now.items ++ (codes "\"refused\":" ++ quoted t)) c.as_bytes.ensures.value)
    (c.in_ok-push_named-2.ensures ∙ ap (λ t. c.push_named.new.out.items ++ (codes "," ++ quoted t)) c.as_bytes-2.ensures.value)
    c.in_ok-push.ensures.items c.in_ok-push_decimal.ensures
