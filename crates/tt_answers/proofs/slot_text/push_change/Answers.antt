-- The pieces of the object, one after another.
use Rattle.std.proofs.Common.{List, ◌∷◌, ◌++◌, map, codes}
use Rattle.std.specs.List.{flat_map}
use Rattle.std.specs.Fmt.{decimal}
use Rattle.tt_grammar.specs.JsonText.{Member, further_item, member_text}
use Rattle.tt_answers.specs.AnswerText.{place_member, worker_members, reply_change_members, asked_for_members}
use Rattle.tt_answers.proofs.PieceLemmas.{further-change, changed-pieces}
use Rattle.tt_answers.proofs.slot_text.push_change.Goals as goal

pub returns : goal.returns
returns c =
    let entry = c.args.entry.now in
    let worker : List Member = worker_members entry.worker in
    let place = place_member c.args.numbering entry.place in
    let replies : List Member = reply_change_members entry.change in
    let asked : List Member = asked_for_members c.args.catalog.now entry.asked in
    changed-pieces c.args.out.now.items c.push_labelled.new.out.items c.push_worker.new.out.items c.push_place.new.out.items c.push_reply_change.new.out.items
    c.push_asked_for.new.out.items c.push.new.self.items (codes "{\"call\":") (decimal entry.change.call)
    (flat_map further_item (map member_text worker)) (further_item (member_text place)) (flat_map further_item (map member_text replies))
    (flat_map further_item (map member_text asked)) (flat_map further_item (map member_text (worker ++ place ∷ (replies ++ asked)))) (codes "}")
    (further-change worker place replies asked)
    c.in_ok-push_labelled.ensures c.in_ok-push_worker.ensures c.in_ok-push_place.ensures c.in_ok-push_reply_change.ensures c.in_ok-push_asked_for.ensures
    c.in_ok-push.ensures.items
