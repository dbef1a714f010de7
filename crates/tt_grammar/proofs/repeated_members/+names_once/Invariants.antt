-- What is left has the first fault of all; and the set has the names so far.
use Rattle.std.proofs.Common.{◌≡◌, [], take, drop}
use Rattle.json.specs.Value.{items_view, members_view}
use Rattle.tt_grammar.specs.RepeatedMembers.{repeated_in_items, repeated_in_members}
use Rattle.tt_grammar.proofs.RepeatedLemmas.{names_of, HasNames}
use Rattle.tt_grammar.proofs.repeated_members.+names_once.Given as goal

abbrev pub invariant-items_name_once-loop-index : goal.invariant-items_name_once-loop-index
invariant-items_name_once-loop-index l = repeated_in_items l.index (items_view (drop l.index l.items)) ≡ repeated_in_items 0 (items_view l.items)

abbrev pub invariant-members_name_once-loop-member : goal.invariant-members_name_once-loop-member
invariant-members_name_once-loop-member l =
    (repeated_in_members (names_of (take l.member-index l.members)) (members_view (drop l.member-index l.members)) ≡ repeated_in_members [] (members_view l.members))
    × HasNames l.names.keys (names_of (take l.member-index l.members))
