-- The lines of a log that is made anew, without their line feeds: its opening, and a line for each slot of the database.
use Rattle.std.specs.Prelude.{ℕ, List, [], ◌∷◌, ◌++◌, Option, codes}
use Rattle.tt_requests.specs.Numbers.{Numbering}
use Rattle.tt_values.specs.declared.action.Action.{Action}
use Rattle.tt_values.specs.Tables.{Tables}
use Rattle.tt_grammar.specs.JsonText.{Member, number_member, object_text}
use Rattle.tt_grammar.specs.WriteText.{action_members}
use Rattle.tt_answers.specs.AnswerText.{declared_members, stamp_members}

-- the time that was last forgotten up to, the generation of that, and how many slots of the database are the ground
abbrev pub ground_members : Numbering → List Member
ground_members numbering =
    number_member (codes "time") numbering.horizon
    ∷ number_member (codes "generation") numbering.generations
    ∷ number_member (codes "slots") numbering.ground_slots
    ∷ []

-- the opening as the tables are told, and the ground
abbrev pub log_opening_members : Tables → ℕ → ℕ → Numbering → List Member
log_opening_members tables keep records numbering =
    declared_members tables keep records ++ (codes "ground", object_text (ground_members numbering)) ∷ []

-- the first line
abbrev pub log_opening_line : Tables → ℕ → ℕ → Numbering → List ℕ
log_opening_line tables keep records numbering = object_text (log_opening_members tables keep records numbering)

-- a slot of the ground: its action
abbrev pub ground_line : Tables → Action → List ℕ
ground_line tables action = object_text (action_members tables action)

-- a further slot: its worker, its action, and its stamp
abbrev pub slot_line : Tables → ℕ → Action → Option ℕ → List ℕ
slot_line tables worker action stamp = object_text (number_member (codes "worker") worker ∷ action_members tables action ++ stamp_members stamp)
