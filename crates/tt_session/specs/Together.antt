-- Lines that have come together, and are answered together, with memory for each of them.
use Rattle.std.specs.Prelude.{◌≡◌, ℕ, ◌+◌, ◌≤◌, Bool, true, false, List, [], ◌∷◌, ◌++◌, length, map, take, Option, Result}
use Rattle.std.specs.List.{list_all}
use Rattle.tt_values.specs.Tables.{Tables}
use Rattle.tt_grammar.specs.declared.fault.DocFault.{DocFault}
use Rattle.tt_grammar.specs.Version.{newest_version}
use Rattle.tt_requests.specs.declared.request.Request.{Request}
use Rattle.tt_requests.specs.Lines.{is_passed_over}
use Rattle.tt_requests.specs.LineValue.{value_of_line}
use Rattle.tt_requests.specs.Requests.{request_of}
use Rattle.tt_requests.specs.SessionLine.{is_opening}
use Rattle.tt_session.specs.declared.first_line.FirstLine.{FirstLine}
use Rattle.tt_session.specs.declared.first_line.FirstLine.TheVariants as firsts
use Rattle.tt_session.specs.declared.lost_line.LostLine.{LostLine}
use Rattle.tt_session.specs.declared.lost_line.LostLine.TheVariants as losts
use Rattle.tt_session.specs.declared.session.Session.{Session}
use Rattle.tt_session.specs.declared.session.Session.TheVariants as sessions
use Rattle.tt_session.specs.Answering.{LineRead, turns_of}
use Rattle.tt_session.specs.Feeds.{has_no_feed, joined}
use Rattle.tt_session.specs.Logged.{logged_by, logged_of, ArePlain, with_lines}
use Rattle.tt_session.specs.Run.{turn_by_request, calls_of}
use Rattle.tt_commands.specs.Session.{OpenSession, counted}

-- a line for which there is memory, and for which the log could be made anew, if it was to be
abbrev pub kept_line : List ℕ → LineRead
kept_line line = record { is_lost = false; as_opening = false; is_unlogged = false; line = line }

-- whether a line was lost as an opening
abbrev pub is_opening_lost : LostLine → Bool
is_opening_lost losts.Opening = true
is_opening_lost losts.Request = false

-- a line is lost in this way: as an opening only if it is one
abbrev pub IsLostAs : LostLine → List ℕ → Type 0
IsLostAs losts.Opening line = is_opening (value_of_line line) ≡ true
IsLostAs losts.Request line = Unit {0}

-- a line for which there is no memory
abbrev pub lost_line : LostLine → List ℕ → LineRead
lost_line lost line = record { is_lost = true; as_opening = is_opening_lost lost; is_unlogged = false; line = line }

-- a line for which the log couldn't be made anew
abbrev pub unlogged_line : List ℕ → LineRead
unlogged_line line = record { is_lost = false; as_opening = false; is_unlogged = true; line = line }

-- the first of some bytes are whole lines, and these are answered, each with memory and none by making the log anew, and those that change the database are to be logged
pub record AnswersFront (bytes : List ℕ) (count : ℕ) (old new : Session) (before after : List ℕ) (kept left : Option (List (List ℕ))) : Type 0 where
  pub lines : List (List ℕ)
  pub within : count ≤ length bytes
  pub front : take count bytes ≡ joined lines
  pub whole : list_all has_no_feed lines ≡ true
  pub text : List ℕ
  pub out : after ≡ before ++ text
  pub turn : turns_of old (map kept_line lines) ≡ record { text = text; session = new }
  pub calls : calls_of new ≤ calls_of old + count
  pub logged : left ≡ with_lines kept (logged_of old (map kept_line lines))
  pub plain : ArePlain old (map kept_line lines)

-- the first of some bytes are a whole line
pub record BeginsWith (bytes : List ℕ) (count : ℕ) (line : List ℕ) : Type 0 where
  pub within : count ≤ length bytes
  pub front : take count bytes ≡ line ++ 10 ∷ []
  pub whole : has_no_feed line ≡ true

-- the first of some bytes are a whole line that gets no answer
pub record BeginsPassedOver (bytes : List ℕ) (count : ℕ) : Type 0 where
  pub line : List ℕ
  pub begins : BeginsWith bytes count line
  pub told : is_passed_over line ≡ true

-- the first of some bytes are a whole line, which is no opening and asks this of a database with these tables, or has this fault
pub record BeginsWithLine (tables : Tables) (bytes : List ℕ) (count : ℕ) (asked : Result Request DocFault) : Type 0 where
  pub line : List ℕ
  pub begins : BeginsWith bytes count line
  pub told : is_passed_over line ≡ false
  pub no_opening : is_opening (value_of_line line) ≡ false
  pub is : asked ≡ request_of newest_version tables (value_of_line line)

-- this is the first line of some bytes, where they have a whole one that is no opening
abbrev pub IsFirstLine : Tables → List ℕ → FirstLine → Type 0
IsFirstLine tables bytes firsts.NotWhole = Unit {0}
IsFirstLine tables bytes firsts.Opening = Unit {0}
IsFirstLine tables bytes (firsts.PassedOver len) = BeginsPassedOver bytes len
IsFirstLine tables bytes (firsts.Read line) = BeginsWithLine tables bytes line.len line.asked
