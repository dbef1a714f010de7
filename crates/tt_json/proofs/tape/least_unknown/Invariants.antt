-- The name so far is the least of the members that have been put.
use Rattle.std.proofs.Common.{◌≡◌, not, filter, length}
use Rattle.std.specs.List.{list_any}
use Rattle.std.specs.Option.{option_copied}
use Rattle.std.specs.Str.{bytes_eq}
use Rattle.serde_json.specs.Data.{Members, no_members}
use Rattle.tt_json.specs.Value.{member_names, least}
use Rattle.tt_json.specs.Tape.{AreMembers}
use Rattle.tt_json.proofs.tape.least_unknown.Given as goal

abbrev pub invariant-loop-name : goal.invariant-loop-name
invariant-loop-name l =
    (all : Members) → AreMembers l.fn.members no_members all
    → (found : Members) × AreMembers l.members found all × (option_copied l.least ≡ least (filter (λ name. not (list_any (λ k. bytes_eq name k.now) l.fn.known)) (member_names found)))

abbrev pub decreases-loop-name : goal.decreases-loop-name
decreases-loop-name l = length l.members
