-- The opening of a log that was made anew: as an opening, and with the ground, which the rest of the log stands on.
use Rattle.std.specs.Prelude.{ℕ, ◌≤◌, nat_lt, if◌then◌else◌, [], ◌∷◌, Result, Ok, codes}
use Rattle.serde_json.specs.Data.{Data}
use Rattle.tt_requests.specs.Numbers.{Numbering, number_limit, IsNumbering}
use Rattle.tt_grammar.specs.declared.fault.DocFault.{DocFault}
use Rattle.tt_grammar.specs.Fault.{◌>>=◌, refuse, with_path, document_path}
use Rattle.tt_grammar.specs.Decoder.{object, count, count_within, member}
use Rattle.tt_grammar.specs.Members.{is_one_of, no_members_but}
use Rattle.tt_requests.specs.declared.log_opening.LogOpening.{LogOpening}
use Rattle.tt_requests.specs.Opening.{max_keep, max_records, declaration}

-- the largest number of slots of the ground
abbrev pub max_ground_slots : ℕ
max_ground_slots = 1000000

-- a number that is remembered: a count below the limit
abbrev pub remembered_number : Data → Result ℕ DocFault
remembered_number v = do
  number ← count v
  if nat_lt number number_limit then Ok number else refuse (codes "out of range")

-- the ground: the time that was last forgotten up to, the generation of that, and how many slots the ground has. They are no more than were forgotten
unfoldable pub ground_numbering : Data → Result Numbering DocFault
ground_numbering v = do
  _ ← object v
  time ← member (codes "time") remembered_number v
  generation ← member (codes "generation") remembered_number v
  slots ← member (codes "slots") (count_within 0 max_ground_slots) v
  _ ← no_members_but (is_one_of (codes "generation" ∷ codes "slots" ∷ codes "time" ∷ [])) v
  if nat_lt time slots then refuse (codes "out of range") else Ok (record { horizon = time; ground_slots = slots; generations = generation })

-- the opening of a log: what it declares, the ground, and no further members
unfoldable pub members_of_log_opening : Data → Result LogOpening DocFault
members_of_log_opening v = do
  opening ← declaration v
  numbering ← member (codes "ground") ground_numbering v
  _ ← no_members_but (is_one_of (codes "ground" ∷ codes "keep" ∷ codes "records" ∷ codes "tables" ∷ codes "version" ∷ [])) v
  Ok (record { opening = opening; numbering = numbering })

-- the meaning of a JSON value, or of none: the opening of a log, or its first fault with the path from the root
abbrev pub log_opening_of : Result Data DocFault → Result LogOpening DocFault
log_opening_of value = with_path document_path (value >>= members_of_log_opening)

-- what is kept, what is remembered, and the ground are within their bounds
pub record IsLogOpening (log : LogOpening) : Type 0 where
  pub keep : log.opening.keep ≤ max_keep
  pub records : log.opening.records ≤ max_records
  pub numbering : IsNumbering log.numbering
  pub ground_slots : log.numbering.ground_slots ≤ max_ground_slots
