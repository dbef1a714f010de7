-- The pieces of the array, one after another.
use Rattle.std.proofs.Common.{◌≡◌, ◌-◌, ◌++◌, length, map, take, drop, subst, codes}
use Rattle.std.specs.List.{flat_map}
use Rattle.tt_grammar.specs.JsonText.{further_item}
use Rattle.tt_grammar.proofs.PieceLemmas.{four-pieces}
use Rattle.tt_grammar.proofs.ItemLemmas.{array_text-first}
use Rattle.tt_answers.specs.DiffText.{diff_text}
use Rattle.tt_answers.proofs.diff_text.push_diff.Goals as goal

pub returns : goal.returns
returns c =
    subst (λ t. c.push-2.new.self.items ≡ c.args.out.now.items ++ t)
    (array_text-first (diff_text c.args.catalog.now) c.args.rows.now c.first-item.result c.in-len1-up.len_at_least c.first-item.is)
    (four-pieces c.args.out.now.items c.push.new.self.items c.push_entry.new.out.items c.push_further_entries.new.out.items c.push-2.new.self.items
    (codes "[") (diff_text c.args.catalog.now c.first-item.result) (flat_map further_item (map (diff_text c.args.catalog.now) (take (length c.args.rows.now - 1) (drop 1 c.args.rows.now)))) (codes "]")
    c.in_ok-push.ensures.items c.in_ok-push_entry.ensures c.in_ok-push_further_entries.ensures c.in_ok-push-2.ensures.items)
