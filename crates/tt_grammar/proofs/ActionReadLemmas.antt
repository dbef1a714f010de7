-- Actions that are printed are read back as the same.
use Rattle.std.proofs.Common.{◌≡◌, Bool, true, false, nat_lt, List, [], ◌∷◌, length, Option, Some, None, if◌then◌else◌, Ok, codes, refl, ap, ◌∙◌, arith, All}
use Rattle.std.specs.Option.{option_or}
use Rattle.json.specs.Json as json
use Rattle.json.proofs.Printed.Utf8.{IsUtf8-are_ascii}
use Rattle.serde_json.specs.Data.{Data, Members, member, no_members}
use Rattle.serde_json.specs.Data as spec
use Rattle.tt_values.specs.declared.checking.CheckError.{CheckError}
use Rattle.tt_values.specs.declared.checking.CheckError.TheVariants as errors
use Rattle.tt_values.specs.declared.statement.Write.{Write}
use Rattle.tt_values.specs.declared.action.Action.{Action}
use Rattle.tt_values.specs.Limits.{max_writes}
use Rattle.tt_values.specs.Check.{write_fault, first_write_fault, action_fault}
use Rattle.tt_values.specs.Tables.{Tables, IsCatalog}
use Rattle.tt_json.specs.Value.{list_of}
use Rattle.tt_grammar.specs.Decoder.{within_limit}
use Rattle.tt_grammar.specs.Fault.{◌>>=◌}
use Rattle.tt_grammar.specs.Arrays.{each, array_of}
use Rattle.tt_grammar.specs.Actions.{write, item_of_action, writes, action}
use Rattle.tt_grammar.specs.Edits.{replacement}
use Rattle.tt_grammar.specs.Version.{newest_version}
use Rattle.tt_grammar.specs.JsonText.{Member, object_text}
use Rattle.tt_grammar.specs.WriteText.{write_text, writes_text, action_members}
use Rattle.tt_grammar.specs.ReadBack.{IsStorable, values_of_write, ActionsAreReadBack}
use Rattle.tt_grammar.proofs.EveryLemmas.{Every, every, every-both}
use Rattle.tt_grammar.proofs.Utf8Lemmas.{IsUtf8-object}
use Rattle.tt_grammar.proofs.JsonReadLemmas.{flag-prints, object-prints}
use Rattle.tt_grammar.proofs.ItemReadLemmas.{IsReadBack, read-back, also-back, trees, meanings, length-meanings, array-back}
use Rattle.tt_grammar.proofs.WriteReadLemmas.{json_of_write, data_of_write, write-back}

-- ---- an action that has no fault

pub few_writes : (many : Bool) (rest : Option CheckError) → (if many then Some errors.TooManyWrites else rest) ≡ None → (many ≡ false) × (rest ≡ None)
few_writes true rest h = cc
few_writes false rest h = (refl, h)

both_none : (o p : Option CheckError) → option_or o p ≡ None → (o ≡ None) × (p ≡ None)
both_none None p h = (refl, h)
both_none (Some fault) p h = cc

pub no_write_fault : (tables : Tables) (ws : List Write) → first_write_fault tables ws ≡ None → Every (λ w. write_fault tables w ≡ None) ws
no_write_fault tables [] h = tt
no_write_fault tables (w ∷ ws) h = let both = both_none (write_fault tables w) (first_write_fault tables ws) h in (both.0, no_write_fault tables ws both.1)

-- ---- the tree of some writes, and what it stands for

abbrev pub json_of_writes : Tables → List Write → json.Json
json_of_writes tables ws = json.array (trees (json_of_write tables) ws)

abbrev pub data_of_writes : Tables → List Write → Data
data_of_writes tables ws = spec.array (meanings (data_of_write tables) ws)

-- some writes are printed as JSON that is read as the same writes
abbrev pub AreWritesBack : Tables → List Write → Type 0
AreWritesBack tables ws = IsReadBack 4 (json_of_writes tables ws) (writes_text tables ws) (data_of_writes tables ws) (writes newest_version tables) ws

pub writes-back : (tables : Tables) (ws : List Write) → IsCatalog tables → action_fault tables ws ≡ None → All (λ w. All IsStorable (values_of_write w)) ws
    → AreWritesBack tables ws
writes-back tables ws catalog sound storable =
    let parts = few_writes (nat_lt max_writes (length ws)) (first_write_fault tables ws) sound in
    let items = every-both (λ w. write_fault tables w ≡ None) (λ w. All IsStorable (values_of_write w)) _ ws (λ w none all. write-back tables w catalog none all)
    (no_write_fault tables ws parts.1) (every _ ws storable) in
    let back = array-back 3 (json_of_write tables) (write_text tables) (data_of_write tables) (item_of_action newest_version tables) ws items in
    let ds : List Data = list_of (meanings (data_of_write tables) ws) in
    let few : nat_lt max_writes (length ds) ≡ false = ap (nat_lt max_writes) (length-meanings (data_of_write tables) ws) ∙ parts.0 in
    let within : (within_limit max_writes ds >>= λ _. each (item_of_action newest_version tables) 0 ds) ≡ Ok ws = rw few back.decoded in
    also-back 4 (json_of_writes tables ws) (writes_text tables ws) (data_of_writes tables ws) (array_of (item_of_action newest_version tables)) ws (writes newest_version tables) ws back within

-- ---- an action as an object

-- that it is whole, before other members
abbrev pub whole_tree : Bool → json.Members → json.Members
whole_tree false ms = ms
whole_tree true ms = json.member (codes "whole") (json.boolean true) ms

abbrev pub whole_data : Bool → Members → Members
whole_data false ms = ms
whole_data true ms = member (codes "whole") (spec.boolean true) ms

abbrev pub action_tree : Tables → Action → json.Json
action_tree tables action = json.object (json.member (codes "do") (json_of_writes tables action.writes) (whole_tree action.whole json.no_members))

abbrev pub action_data : Tables → Action → Data
action_data tables action = spec.object (member (codes "do") (data_of_writes tables action.writes) (whole_data action.whole no_members))

-- an action is printed as JSON that is read as the same action
abbrev pub IsActionBack : Tables → Action → Type 0
IsActionBack tables action = IsReadBack 5 (action_tree tables action) (object_text (action_members tables action)) (action_data tables action) (replacement newest_version tables) action

action_of-back : (tables : Tables) (ws : List Write) (whole : Bool) → AreWritesBack tables ws → IsActionBack tables (record { writes = ws; whole = whole })
unfolding replacement write action
action_of-back tables ws false back =
    let ms : List Member = (codes "do", writes_text tables ws) ∷ [] in
    record {
      prints = object-prints (json.member (codes "do") (json_of_writes tables ws) json.no_members) ms (refl, back.prints, tt);
      utf8 = IsUtf8-object ms ((IsUtf8-are_ascii (codes "do") refl, back.utf8), tt);
      numbers = (back.numbers, tt);
      shallow = let flat = back.shallow in omega arith;
      stands = simp back.stands;
      once = simp back.once;
      decoded = simp back.decoded;
    }
action_of-back tables ws true back =
    let ms : List Member = (codes "do", writes_text tables ws) ∷ (codes "whole", codes "true") ∷ [] in
    record {
      prints = object-prints (json.member (codes "do") (json_of_writes tables ws) (whole_tree true json.no_members)) ms (refl, back.prints, (refl, flag-prints true, tt));
      utf8 = IsUtf8-object ms ((IsUtf8-are_ascii (codes "do") refl, back.utf8), ((IsUtf8-are_ascii (codes "whole") refl, IsUtf8-are_ascii (codes "true") refl), tt));
      numbers = (back.numbers, (tt, tt));
      shallow = let flat = back.shallow in omega arith;
      stands = simp back.stands;
      once = simp back.once;
      decoded = simp back.decoded;
    }

pub action-back : (tables : Tables) (action : Action) → AreWritesBack tables action.writes → IsActionBack tables action
action-back tables action back = action_of-back tables action.writes action.whole back

-- an action that can be carried out is read back
pub actions_are_read_back : ActionsAreReadBack
actions_are_read_back tables action catalog sound storable =
    let ws : List Write = action.writes in
    let back = writes-back tables ws catalog sound storable in (
      read-back 4 (json_of_writes tables ws) (writes_text tables ws) (data_of_writes tables ws) (writes newest_version tables) ws back (omega arith),
      read-back 5 (action_tree tables action) (object_text (action_members tables action)) (action_data tables action) (replacement newest_version tables) action (action-back tables action back) (omega arith),
    )
