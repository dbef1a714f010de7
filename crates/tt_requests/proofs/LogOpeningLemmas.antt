-- The opening of a log is within its bounds.
use Rattle.std.proofs.Common.{◌≡◌, ℕ, ◌<◌, ◌≤◌, Bool, true, false, cond, nat_lt, List, [], ◌∷◌, Result, Ok, Err, codes, refl, subst}
use Rattle.std.specs.Prelude.{IfOk}
use Rattle.std.proofs.lemmas.Bool.{ltb-false, ltb-true}
use Rattle.serde_json.specs.Data.{Data}
use Rattle.tt_requests.specs.Numbers.{Numbering, number_limit, IsNumbering}
use Rattle.tt_grammar.specs.declared.fault.DocFault.{DocFault}
use Rattle.tt_grammar.specs.Fault.{◌>>=◌, refuse, Gives, document_path}
use Rattle.tt_grammar.specs.Decoder.{object, count, count_within, member}
use Rattle.tt_grammar.specs.Members.{is_one_of, no_members_but}
use Rattle.tt_requests.specs.declared.log_opening.LogOpening.{LogOpening}
use Rattle.tt_requests.specs.Opening.{declaration}
use Rattle.tt_requests.specs.LogOpening.{max_ground_slots, remembered_number, ground_numbering, members_of_log_opening, log_opening_of, IsLogOpening}
use Rattle.tt_requests.proofs.StepBackLemmas.{ok_same, step, with_path-ok, choice-ok, member-ok}
use Rattle.tt_requests.proofs.BoundLemmas.{count_within-most, is_declared}

kept : {T : Type 0} (b : Bool) (x y : T) → cond b (Ok x) (refuse (codes "out of range")) ≡ Ok y → (b ≡ true) × (x ≡ y)
kept true x y e = (refl, ok_same e)
kept false x y e = cc

-- a number that is remembered is below the limit
remembered : (v : Data) (n : ℕ) → remembered_number v ≡ Ok n → n < number_limit
remembered v n e =
    let counted = step (count v) (λ k. cond (nat_lt k number_limit) (Ok k) (refuse (codes "out of range"))) n e in
    let below = kept (nat_lt counted.value number_limit) counted.value n counted.rest in
    subst (λ k. k < number_limit) below.1 (ltb-true counted.value number_limit below.0)

pub remembered-below : (name : List ℕ) (v : Data) (n : ℕ) → member name remembered_number v ≡ Ok n → n < number_limit
remembered-below name v n e = let source = member-ok name remembered_number v n e in remembered source.value n source.is

record IsGround (n : Numbering) : Type 0 where
  pub numbering : IsNumbering n
  pub slots : n.ground_slots ≤ max_ground_slots

is_ground : (v : Data) (n : Numbering) → ground_numbering v ≡ Ok n → IsGround n
unfolding ground_numbering
is_ground v n e =
    let read = step (object v) _ n e in
    let time = step (member (codes "time") remembered_number v) _ n read.rest in
    let generation = step (member (codes "generation") remembered_number v) _ n time.rest in
    let slots = step (member (codes "slots") (count_within 0 max_ground_slots) v) _ n generation.rest in
    let known = step (no_members_but (is_one_of (codes "generation" ∷ codes "slots" ∷ codes "time" ∷ [])) v) _ n slots.rest in
    let source = member-ok (codes "slots") (count_within 0 max_ground_slots) v slots.value slots.is in
    let chosen = choice-ok {T = Numbering} (nat_lt time.value slots.value) (record { horizon = time.value; ground_slots = slots.value; generations = generation.value }) n (codes "out of range") known.rest in
    subst IsGround chosen.1 (record {
      numbering = record {
        within = ltb-false time.value slots.value chosen.0;
        time = remembered-below (codes "time") v time.value time.is;
        generation = remembered-below (codes "generation") v generation.value generation.is;
      };
      slots = count_within-most 0 max_ground_slots source.value slots.value source.is;
    })

members-are : (v : Data) (log : LogOpening) → members_of_log_opening v ≡ Ok log → IsLogOpening log
unfolding members_of_log_opening
members-are v log e =
    let opening = step (declaration v) _ log e in
    let read = step (member (codes "ground") ground_numbering v) _ log opening.rest in
    let known = step (no_members_but (is_one_of (codes "ground" ∷ codes "keep" ∷ codes "records" ∷ codes "tables" ∷ codes "version" ∷ [])) v) _ log read.rest in
    let declared = is_declared v opening.value opening.is in
    let source = member-ok (codes "ground") ground_numbering v read.value read.is in
    let bounds = is_ground source.value read.value source.is in
    subst IsLogOpening (ok_same known.rest) (record {
      keep = declared.keep;
      records = declared.records;
      numbering = bounds.numbering;
      ground_slots = bounds.slots;
    })

is_log_opening : (value : Result Data DocFault) (log : LogOpening) → log_opening_of value ≡ Ok log → IsLogOpening log
is_log_opening value log e =
    let read = step value members_of_log_opening log (with_path-ok document_path (value >>= members_of_log_opening) log e) in
    members-are read.value log read.rest

-- what is read as the opening of a log is within its bounds
pub gives_bounds : (r : Result LogOpening DocFault) (value : Result Data DocFault) → Gives r (log_opening_of value) → IfOk r IsLogOpening
gives_bounds (Ok log) value e = is_log_opening value log e
gives_bounds (Err fault) value e = tt
