-- Lines that are answered, one after another.
use Rattle.std.proofs.Common.{◌≡◌, ℕ, ◌+◌, ◌-◌, ◌<◌, ◌≤◌, Bool, true, false, if◌then◌else◌, List, [], ◌∷◌, ◌++◌, length, take, drop, map, append-nil, append_assoc, length-append, length-take, length-drop, Option, Result, Ok, Err, refl, sym, ap, ◌∙◌, subst, arith}
use Rattle.std.proofs.Math.Seq.{take-add, take-nil, take-append_seam}
use Rattle.std.proofs.lemmas.Bool.{and_from}
use Rattle.std.proofs.lemmas.List.{map-append, take_rest, take-take}
use Rattle.std.proofs.lemmas.List.Folds.{list_all-append}
use Rattle.tt_values.specs.Tables.{Tables}
use Rattle.tt_grammar.specs.declared.fault.DocFault.{DocFault}
use Rattle.tt_requests.specs.declared.request.Request.{Request}
use Rattle.tt_requests.specs.LineValue.{value_of_line}
use Rattle.tt_requests.specs.Opening.{opening_of}
use Rattle.serde_json.specs.Data.{Data}
use Rattle.tt_grammar.specs.declared.version.Version.{Version}
use Rattle.tt_requests.specs.Requests.{request_of}
use Rattle.tt_requests.specs.declared.session_line.SessionLine.TheVariants as lines
use Rattle.tt_requests.specs.SessionLine.{is_opening, session_line_of}
use Rattle.tt_db.specs.Database.{Database}
use Rattle.tt_requests.specs.Numbers.{Numbering}
use Rattle.tt_session.specs.declared.session.Session.{Session}
use Rattle.tt_session.specs.declared.session.Session.TheVariants.{Open}
use Rattle.tt_session.specs.Answering.{LineRead, turn_of_read, turns_of}
use Rattle.tt_requests.specs.Lines.{is_passed_over}
use Rattle.tt_session.specs.ForgetTurns.{AnswersPlain}
use Rattle.tt_requests.specs.Asked.{asks_to_forget}
use Rattle.tt_session.specs.Feeds.{joined, has_no_feed}
use Rattle.tt_session.specs.Logged.{logged_by, logged_of, ArePlain, with_lines}
use Rattle.tt_session.specs.Run.{Turn, turn_by_reopening, turn_by_request, turn_with_memory}
use Rattle.tt_commands.specs.Session.{OpenSession, counted, request_in}
use Rattle.tt_session.specs.Together.{kept_line, AnswersFront, BeginsWith, BeginsPassedOver, BeginsWithLine}
use Rattle.tt_session.proofs.AnsweringLemmas.{turns_of-append, joined-append, read-kept}
use Rattle.tt_session.proofs.TurnLemmas.{turn-opening, turn-request, reopening-next}
use Rattle.tt_session.proofs.LoggedLemmas.{IsAsFar, with-nil, with-append, logged_of-append, none-logged, same-logged, plain-far, plain-other, plain-append}

-- ---- lines that are answered

pub front-nil : (bytes : List ℕ) (session : Session) (out : List ℕ) (kept : Option (List (List ℕ))) → AnswersFront bytes 0 session session out out kept kept
front-nil bytes session out kept = record {
  lines = [];
  within = omega arith;
  front = refl;
  whole = refl;
  text = [];
  out = sym (append-nil out);
  turn = refl;
  calls = omega arith;
  logged = sym (with-nil kept);
  plain = tt;
}

pub front-trans : (bytes : List ℕ) (m n : ℕ) (old mid new : Session) (a b c : List ℕ) (x y z : Option (List (List ℕ)))
    → AnswersFront bytes m old mid a b x y → AnswersFront (drop m bytes) n mid new b c y z → AnswersFront bytes (m + n) old new a c x z
front-trans bytes m n old mid new a b c x y z p q = record {
  lines = p.lines ++ q.lines;
  within = omega (arith, p.within, q.within, length-drop m bytes);
  front = take-add m n bytes ∙ (λ i. p.front i ++ q.front i) ∙ sym (joined-append p.lines q.lines);
  whole = list_all-append has_no_feed p.lines q.lines ∙ and_from _ _ p.whole q.whole;
  text = p.text ++ q.text;
  out = q.out ∙ ap (λ l. l ++ q.text) p.out ∙ append_assoc a p.text q.text;
  turn =
      let first : List LineRead = map kept_line p.lines in
      let others : List LineRead = map kept_line q.lines in
      let front = p.turn in
      let back : turns_of (turns_of old first).session others ≡ record { text = q.text; session = new } = ap (λ (t : Turn). turns_of t.session others) front ∙ q.turn in
      ap (turns_of old) (map-append kept_line p.lines q.lines) ∙ turns_of-append old first others
      ∙ (λ i. record { text = (front i).text ++ (back i).text; session = (back i).session });
  calls = omega (arith, p.calls, q.calls);
  logged =
      let first : List LineRead = map kept_line p.lines in
      let others : List LineRead = map kept_line q.lines in
      let later : logged_of mid others ≡ logged_of (turns_of old first).session others = ap (λ (t : Turn). logged_of t.session others) (sym p.turn) in
      q.logged ∙ ap (λ k. with_lines k (logged_of mid others)) p.logged ∙ with-append x (logged_of old first) (logged_of mid others)
      ∙ ap (λ ls. with_lines x (logged_of old first ++ ls)) later ∙ ap (with_lines x) (sym (logged_of-append old first others) ∙ ap (logged_of old) (sym (map-append kept_line p.lines q.lines)));
  plain =
      let first : List LineRead = map kept_line p.lines in
      let others : List LineRead = map kept_line q.lines in
      subst (ArePlain old) (sym (map-append kept_line p.lines q.lines)) (plain-append old first others p.plain (subst (λ (t : Turn). ArePlain t.session others) (sym p.turn) q.plain));
}

-- further lines are answered
pub front-more : (bytes : List ℕ) (taken count all : ℕ) (old mid new : Session) (a b c : List ℕ) (x y z : Option (List (List ℕ))) → AnswersFront bytes taken old mid a b x y
    → AnswersFront (take (length bytes - taken) (drop taken bytes)) count mid new b c y z → taken + count ≡ all → AnswersFront bytes all old new a c x z
front-more bytes taken count all old mid new a b c x y z p q e =
    subst (λ n. AnswersFront bytes n old new a c x z) e
    (front-trans bytes taken count old mid new a b c x y z p (subst (λ l. AnswersFront l count mid new b c y z) (take_rest bytes taken) q))

-- a line has at least its line feed
begins-some : (bytes : List ℕ) (count : ℕ) (line : List ℕ) → BeginsWith bytes count line → 0 < count
begins-some bytes count line begins = omega (arith, ap length begins.front, length-take count bytes, length-append line (10 ∷ []))

pub line-fits : (tables : Tables) (bytes : List ℕ) (count : ℕ) (asked : Result Request DocFault) → BeginsWithLine tables bytes count asked → (0 < count) × (count ≤ length bytes)
line-fits tables bytes count asked is = (begins-some bytes count is.line is.begins, is.begins.within)

-- the line that so many first bytes are, without its line feed
abbrev pub line_in : List ℕ → ℕ → List ℕ
line_in bytes count = take (count - 1) bytes

line_is : (bytes : List ℕ) (count : ℕ) (line : List ℕ) → BeginsWith bytes count line → line_in bytes count ≡ line
line_is bytes count line begins =
    let len : count - 1 ≡ length line = omega (arith, ap length begins.front, length-take count bytes, length-append line (10 ∷ []), begins.within) in
    sym (take-take (count - 1) count bytes (omega arith)) ∙ ap (take (count - 1)) begins.front ∙ ap (λ n. take n (line ++ 10 ∷ [])) len ∙ take-append_seam line (10 ∷ [])

-- a line is passed over
pub front-passed : (bytes : List ℕ) (count : ℕ) (session : Session) (out : List ℕ) (kept : Option (List (List ℕ))) → BeginsPassedOver bytes count → AnswersFront bytes count session session out out kept kept
front-passed bytes count session out kept passed =
    let line = passed.line in
    let one : turn_of_read session (kept_line line) ≡ record { text = []; session = session } = rw passed.told refl in
    record {
      lines = line ∷ [];
      within = passed.begins.within;
      front = passed.begins.front;
      whole = and_from _ _ passed.begins.whole refl;
      text = [];
      out = sym (append-nil out);
      turn = λ i. record { text = ap (λ (t : Turn). t.text ++ []) one i; session = (one i).session };
      calls = omega arith;
      logged = sym (ap (λ (t : Turn). with_lines kept (logged_by session t.session line)) one ∙ ap (with_lines kept) (same-logged session line) ∙ with-nil kept);
      plain = (plain-far session (kept_line line) refl (subst (λ (t : Turn). IsAsFar session t.session) (sym one) (refl, refl)), tt);
    }

-- the session is the same behind them
pub front-stays : (bytes : List ℕ) (count : ℕ) (old new : OpenSession) (out : List ℕ) (kept : Option (List (List ℕ))) → new ≡ old
    → AnswersFront bytes count (Open old) (Open old) out out kept kept → AnswersFront bytes count (Open old) (Open new) out out kept kept
front-stays bytes count old new out kept same p = subst (λ (s : OpenSession). AnswersFront bytes count (Open old) (Open s) out out kept kept) (sym same) p

-- what becomes of a line, told by its text and by its session
turn-parts : (asked : Result Request DocFault) (session new : OpenSession) → Open new ≡ (turn_by_request session asked).session
    → turn_by_request session asked ≡ record { text = (turn_by_request session asked).text; session = Open new }
turn-parts asked session new is = λ i. record { text = (turn_by_request session asked).text; session = sym is i }

-- a line is answered
pub front-one : (bytes : List ℕ) (count : ℕ) (asked : Result Request DocFault) (old new : OpenSession) (text before after : List ℕ) (kept left : Option (List (List ℕ)))
    → asks_to_forget asked ≡ false → BeginsWithLine old.database.catalog bytes count asked → turn_by_request (counted old) asked ≡ record { text = text; session = Open new } → after ≡ before ++ text → new.calls ≡ old.calls + 1
    → left ≡ with_lines kept (logged_by (Open old) (Open new) (line_in bytes count)) → AnswersFront bytes count (Open old) (Open new) before after kept left
front-one bytes count asked old new text before after kept left other is turn out calls logged =
    let line = is.line in
    let passed : turn_with_memory (Open old) line ≡ turn_by_request (counted old) (request_in old (value_of_line line)) = rw is.told (turn-request old (value_of_line line) is.no_opening) in
    let asks : request_in old (value_of_line line) ≡ asked = sym is.is in
    let one : turn_of_read (Open old) (kept_line line) ≡ record { text = text; session = Open new } =
    read-kept (Open old) line ∙ passed ∙ ap (turn_by_request (counted old)) asks ∙ turn in
    let some = begins-some bytes count line is.begins in
    record {
      lines = line ∷ [];
      within = is.begins.within;
      front = is.begins.front;
      whole = and_from _ _ is.begins.whole refl;
      text = text;
      out = out;
      turn = λ i. record { text = (ap (λ (t : Turn). t.text ++ []) one ∙ append-nil text) i; session = (one i).session };
      calls = omega (arith, calls, some);
      logged =
          logged ∙ ap (λ l. with_lines kept (logged_by (Open old) (Open new) l)) (line_is bytes count line is.begins)
          ∙ ap (λ (t : Turn). with_lines kept (logged_by (Open old) t.session line)) (sym one);
      plain = (plain-other (Open old) (kept_line line) refl (ap asks_to_forget asks ∙ other), tt);
    }

-- a line is answered, told by its text and by its session
pub front-line : (bytes : List ℕ) (count : ℕ) (asked : Result Request DocFault) (old new : OpenSession) (before after : List ℕ) (kept left : Option (List (List ℕ)))
    → asks_to_forget asked ≡ false → BeginsWithLine old.database.catalog bytes count asked
    → after ≡ before ++ (turn_by_request (counted old) asked).text → Open new ≡ (turn_by_request (counted old) asked).session → new.calls ≡ old.calls + 1
    → left ≡ with_lines kept (logged_by (Open old) (Open new) (line_in bytes count)) → AnswersFront bytes count (Open old) (Open new) before after kept left
front-line bytes count asked old new before after kept left other is text session calls logged =
    front-one bytes count asked old new (turn_by_request (counted old) asked).text before after kept left other is (turn-parts asked (counted old) new session) text calls logged

-- a line that leaves the database as it is isn't logged
pub read-logged : (old new : OpenSession) (line : List ℕ) (kept : Option (List (List ℕ))) → new.database ≡ old.database → new.numbering ≡ old.numbering
    → kept ≡ with_lines kept (logged_by (Open old) (Open new) line)
read-logged old new line kept database numbering =
    let far : IsAsFar (Open old) (Open new) = (ap (λ (db : Database). length db.history + 1) database, ap (λ (n : Numbering). n.horizon) numbering) in
    sym (ap (with_lines kept) (none-logged (Open old) (Open new) line far) ∙ with-nil kept)

-- an open session is told by its state
pub open-same : (a b : OpenSession) → Open a ≡ Open b → a ≡ b
open-same a b is = cc

-- a line that is answered, and doesn't ask to forget
pub line-plain : (asked : Result Request DocFault) (line : List ℕ) (old new : OpenSession) (before after : List ℕ) (kept left : Option (List (List ℕ)))
    → is_passed_over line ≡ false → is_opening (value_of_line line) ≡ false → asked ≡ request_in old (value_of_line line) → asks_to_forget asked ≡ false
    → after ≡ before ++ (turn_by_request (counted old) asked).text → Open new ≡ (turn_by_request (counted old) asked).session → left ≡ with_lines kept (logged_by (Open old) (Open new) line)
    → AnswersPlain (Open old) (Open new) line before after kept left
line-plain asked line old new before after kept left told no_opening asks other text session logged =
    let turn : turn_with_memory (Open old) line ≡ turn_by_request (counted old) asked =
    rw told (turn-request old (value_of_line line) no_opening) ∙ ap (turn_by_request (counted old)) (sym asks) in
    record {
      text = text ∙ ap (λ (t : Turn). before ++ t.text) (sym turn);
      session = session ∙ ap (λ (t : Turn). t.session) (sym turn);
      lines = logged;
      plain = plain-other (Open old) (kept_line line) refl (ap asks_to_forget (sym asks) ∙ other);
    }

-- a line that was read as an opening is one
pub opening-read : (version : Version) (tables : Tables) (value : Result Data DocFault) → session_line_of version tables value ≡ lines.Opening → is_opening value ≡ true
opening-read version tables value = go (is_opening value)
  where
    go : (b : Bool) → (if b then lines.Opening else lines.Request (request_of version tables value)) ≡ lines.Opening → b ≡ true
    go true is = refl
    go false is = absurd (cc)

-- a line that is an opening
pub opening-plain : (line : List ℕ) (old new : OpenSession) (before after : List ℕ) (kept : Option (List (List ℕ))) → is_passed_over line ≡ false → is_opening (value_of_line line) ≡ true
    → after ≡ before ++ (turn_by_reopening old (opening_of (value_of_line line))).text → Open new ≡ (turn_by_reopening old (opening_of (value_of_line line))).session
    → AnswersPlain (Open old) (Open new) line before after kept kept
opening-plain line old new before after kept told is text session =
    let asked = opening_of (value_of_line line) in
    let turn : turn_with_memory (Open old) line ≡ turn_by_reopening old asked = rw told (turn-opening old (value_of_line line) is) in
    let n = reopening-next old asked in
    let far : IsAsFar (Open old) (turn_by_reopening old asked).session =
    subst (IsAsFar (Open old)) (sym n.is) (ap (λ (db : Database). length db.history + 1) n.database, ap (λ (told : Numbering). told.horizon) n.numbering) in
    record {
      text = text ∙ ap (λ (t : Turn). before ++ t.text) (sym turn);
      session = session ∙ ap (λ (t : Turn). t.session) (sym turn);
      lines = sym (ap (with_lines kept) (none-logged (Open old) (Open new) line (subst (IsAsFar (Open old)) (sym session) far)) ∙ with-nil kept);
      plain = plain-far (Open old) (kept_line line) refl (subst (λ (t : Turn). IsAsFar (Open old) t.session) (sym (read-kept (Open old) line ∙ turn)) far);
    }
