-- How lines are answered one after another, and the lines that bytes are.
use Rattle.std.proofs.Common.{◌≡◌, ℕ, ◌==◌, Bool, true, false, not, List, [], ◌∷◌, ◌++◌, append_assoc, refl, sym, ap, ◌∙◌}
use Rattle.std.proofs.lemmas.Bool.{and_parts, and_right}
use Rattle.std.specs.List.{list_all}
use Rattle.tt_requests.specs.Lines.{is_too_long, is_passed_over, lines_of, whole_lines_of, with_byte, with_byte_if}
use Rattle.tt_session.specs.declared.lost_line.LostLine.{LostLine}
use Rattle.tt_session.specs.declared.lost_line.LostLine.TheVariants as losts
use Rattle.tt_session.specs.declared.session.Session.{Session}
use Rattle.tt_session.specs.Feeds.{has_no_feed, joined}
use Rattle.tt_session.specs.Run.{Turn, turn_with_memory, turn_without_memory, turn_of_long_line}
use Rattle.tt_session.specs.Answering.{LineRead, forgets_by, turn_without_log, turn_of_read, turns_of}
use Rattle.tt_session.specs.Together.{kept_line, is_opening_lost, IsLostAs, lost_line, unlogged_line}
use Rattle.tt_requests.specs.LineValue.{value_of_line}
use Rattle.tt_session.specs.declared.session.Session.TheVariants.{Open}
use Rattle.tt_requests.specs.declared.asked.ForgetRequest.{ForgetRequest}
use Rattle.tt_requests.specs.Asked.{IsForgetRequest}
use Rattle.tt_commands.specs.Session.{OpenSession, counted, request_in}
use Rattle.tt_session.specs.ForgetTurns.{AsksToForget, turn_of_forget}
use Rattle.tt_session.specs.Run.{turn_by_request}
use Rattle.tt_session.proofs.TurnLemmas.{turn-long, turn-request, asked-request}

-- ---- lines that are answered one after another

pub turns_of-append : (session : Session) (first others : List LineRead)
    → turns_of session (first ++ others)
    ≡ record { text = (turns_of session first).text ++ (turns_of (turns_of session first).session others).text; session = (turns_of (turns_of session first).session others).session }
turns_of-append session [] others = refl
turns_of-append session (read ∷ first) others =
    let turn = turn_of_read session read in
    let more = turns_of-append turn.session first others in
    let both = turns_of turn.session first in
    λ i. record {
      text = (ap (λ (t : Turn). turn.text ++ t.text) more ∙ sym (append_assoc turn.text both.text (turns_of both.session others).text)) i;
      session = (more i).session;
    }

-- ---- whole lines, and the bytes of the next one

pub joined-append : (first others : List (List ℕ)) → joined (first ++ others) ≡ joined first ++ joined others
joined-append [] others = refl
joined-append (line ∷ first) others = ap (λ l. line ++ 10 ∷ l) (joined-append first others) ∙ sym (append_assoc line (10 ∷ joined first) (joined others))

-- ---- the lines of bytes

no_feed-cons : (b : ℕ) (bytes : List ℕ) → has_no_feed (b ∷ bytes) ≡ true → ((b == 10) ≡ false) × (has_no_feed bytes ≡ true)
no_feed-cons b bytes e =
    let both = and_parts (not (b == 10)) (has_no_feed bytes) e in
    (other (b == 10) both.0, both.1)
  where
    other : (t : Bool) → not t ≡ true → t ≡ false
    other true f = absurd (cc)
    other false f = refl

lines_of-line : (line rest : List ℕ) → has_no_feed line ≡ true → lines_of (line ++ 10 ∷ rest) ≡ line ∷ lines_of rest
lines_of-line [] rest e = refl
lines_of-line (b ∷ line) rest e =
    let both = no_feed-cons b line e in
    rw both.0 (ap (with_byte b) (lines_of-line line rest both.1))

pub whole_lines_of-line : (line rest : List ℕ) → has_no_feed line ≡ true → whole_lines_of (line ++ 10 ∷ rest) ≡ line ∷ whole_lines_of rest
whole_lines_of-line [] rest e = refl
whole_lines_of-line (b ∷ line) rest e =
    let both = no_feed-cons b line e in
    rw both.0 (ap (with_byte_if b) (whole_lines_of-line line rest both.1))

whole_lines_of-none : (line : List ℕ) → has_no_feed line ≡ true → whole_lines_of line ≡ []
whole_lines_of-none [] e = refl
whole_lines_of-none (b ∷ line) e =
    let both = no_feed-cons b line e in
    rw both.0 (ap (with_byte_if b) (whole_lines_of-none line both.1))

pub lines_of-joined : (lines : List (List ℕ)) (rest : List ℕ) → list_all has_no_feed lines ≡ true → lines_of (joined lines ++ rest) ≡ lines ++ lines_of rest
lines_of-joined [] rest e = refl
lines_of-joined (line ∷ lines) rest e =
    let both = and_parts (has_no_feed line) (list_all has_no_feed lines) e in
    ap lines_of (append_assoc line (10 ∷ joined lines) rest) ∙ lines_of-line line (joined lines ++ rest) both.0 ∙ ap (λ ls. line ∷ ls) (lines_of-joined lines rest both.1)

pub whole_lines_of-joined : (lines : List (List ℕ)) (rest : List ℕ) → list_all has_no_feed lines ≡ true → has_no_feed rest ≡ true → whole_lines_of (joined lines ++ rest) ≡ lines
whole_lines_of-joined [] rest e last = whole_lines_of-none rest last
whole_lines_of-joined (line ∷ lines) rest e last =
    let both = and_parts (has_no_feed line) (list_all has_no_feed lines) e in
    ap whole_lines_of (append_assoc line (10 ∷ joined lines) rest) ∙ whole_lines_of-line line (joined lines ++ rest) both.0 ∙ ap (λ ls. line ∷ ls) (whole_lines_of-joined lines rest both.1 last)

-- bytes without a line feed are one line, or none
pub lines_of-last : (b : ℕ) (line : List ℕ) → has_no_feed (b ∷ line) ≡ true → lines_of (b ∷ line) ≡ (b ∷ line) ∷ []
lines_of-last b [] e = rw ((no_feed-cons b [] e).0) refl
lines_of-last b (c ∷ line) e =
    let both = no_feed-cons b (c ∷ line) e in
    rw both.0 (ap (with_byte b) (lines_of-last c line both.1))

-- ---- one line

-- a line that is too long
pub read-long : (session : Session) (bytes : List ℕ) → is_too_long bytes ≡ true → turn_of_read session (kept_line bytes) ≡ turn_of_long_line session
read-long session bytes long = rw long (turn-long session bytes long)

-- a line for which there was memory
pub read-kept : (session : Session) (bytes : List ℕ) → turn_of_read session (kept_line bytes) ≡ turn_with_memory session bytes
read-kept session bytes = rw (and_right (not (is_too_long bytes)) false refl) refl

-- a line for which there was no memory
pub read-lost : (lost : LostLine) (session : Session) (bytes : List ℕ) → is_passed_over bytes ≡ false → is_too_long bytes ≡ false → IsLostAs lost bytes
    → turn_of_read session (lost_line lost bytes) ≡ turn_without_memory (is_opening_lost lost) session
read-lost losts.Opening session bytes told short is = rw (told, short, is) refl
read-lost losts.Request session bytes told short is = rw (told, short) refl

-- a line for which the log couldn't be made anew
pub read-unlogged : (session : Session) (bytes : List ℕ) → is_passed_over bytes ≡ false → forgets_by session bytes ≡ true → turn_of_read session (unlogged_line bytes) ≡ turn_without_log session
read-unlogged session bytes told forgets = rw (told, and_right (not (is_too_long bytes)) false refl, forgets) refl

-- ---- a line that asks to forget

pub forget-turn : (session : Session) (bytes : List ℕ) (f : ForgetRequest) (a : AsksToForget session bytes f) → turn_of_read session (kept_line bytes) ≡ turn_of_forget (counted a.opened) f
forget-turn session bytes f a =
    ap (λ s. turn_of_read s (kept_line bytes)) a.session_is ∙ read-kept (Open a.opened) bytes ∙ value-turn a.opened bytes f a.told a.asks
  where
    value-turn : (s : OpenSession) (line : List ℕ) (g : ForgetRequest) → is_passed_over line ≡ false → IsForgetRequest (request_in s (value_of_line line)) g
        → turn_with_memory (Open s) line ≡ turn_of_forget (counted s) g
    value-turn s line g told asks =
        rw told (turn-request s (value_of_line line) (asked-request s (value_of_line line) _ asks.1)) ∙ ap (turn_by_request (counted s)) asks.1
