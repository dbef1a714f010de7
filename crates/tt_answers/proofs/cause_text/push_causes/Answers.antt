-- The pieces of the array, one after another.
use Rattle.std.proofs.Common.{◌≡◌, ◌-◌, ◌++◌, length, map, take, drop, subst, codes}
use Rattle.std.specs.List.{flat_map}
use Rattle.tt_grammar.specs.JsonText.{further_item}
use Rattle.tt_grammar.proofs.PieceLemmas.{four-pieces}
use Rattle.tt_grammar.proofs.ItemLemmas.{array_text-first}
use Rattle.tt_answers.specs.CauseText.{cause_text}
use Rattle.tt_answers.proofs.cause_text.push_causes.Goals as goal

pub returns : goal.returns
returns c =
    subst (λ t. c.push-2.new.self.items ≡ c.args.out.now.items ++ t)
    (array_text-first (cause_text c.args.catalog.now c.args.numbering) c.args.redone.now c.first-item.result c.in-len1-up.len_at_least c.first-item.is)
    (four-pieces c.args.out.now.items c.push.new.self.items c.push_cause_entry.new.out.items c.push_further_entries.new.out.items c.push-2.new.self.items
    (codes "[") (cause_text c.args.catalog.now c.args.numbering c.first-item.result) (flat_map further_item (map (cause_text c.args.catalog.now c.args.numbering) (take (length c.args.redone.now - 1) (drop 1 c.args.redone.now)))) (codes "]")
    c.in_ok-push.ensures.items c.in_ok-push_cause_entry.ensures c.in_ok-push_further_entries.ensures c.in_ok-push-2.ensures.items)
