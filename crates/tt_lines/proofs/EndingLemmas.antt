-- How a session between a reader and an outlet ends.
use Rattle.std.proofs.Common.{◌≡◌, ℕ, ◌+◌, ◌<◌, Bool, true, false, ◌||◌, List, [], ◌∷◌, ◌++◌, length, map, append-nil, append_assoc, Option, None, Some, IfSome, refl, sym, ap, ◌∙◌, subst, arith, if◌then◌else◌, eq-eqb, ne_eqb}
use Rattle.std.proofs.lemmas.Bool.{or_from}
use Rattle.std.proofs.lemmas.List.{map-append}
use Rattle.std.proofs.KnownBytes.{Appends-nil}
use Rattle.std.specs.Io.KnownBytes.{Appends, Consumes, IsAtEnd}
use Rattle.tt_streams.specs.Writing.{AppendsPrefix}
use Rattle.tt_requests.specs.Lines.{lines_of, whole_lines_of}
use Rattle.tt_session.specs.declared.session.Session.{Session}
use Rattle.tt_session.specs.declared.session.Session.TheVariants.{NotOpen}
use Rattle.tt_lines.specs.declared.run.Run.{Run}
use Rattle.tt_lines.specs.declared.run.SessionFault.{SessionFault}
use Rattle.tt_lines.specs.declared.run.SessionFault.TheVariants as faults
use Rattle.tt_lines.specs.Lines.{HasBytes}
use Rattle.tt_session.specs.Feeds.{has_no_feed, joined}
use Rattle.tt_session.specs.Run.{Turn, Losses, is_numbered, turn_of_line, turn_of_lines, session_text}
use Rattle.tt_session.specs.Answering.{LineRead, turn_of_read, turns_of, AllLogged, lines_read}
use Rattle.tt_lines.specs.Writes.{Writes, WritesPrefix}
use Rattle.tt_session.specs.Together.{kept_line}
use Rattle.tt_lines.specs.Running.{Handing, Cuts, Rests, Halts, AnswersOne, StopsAt, HandsOver, StopsBetween}
use Rattle.tt_lines.specs.Ends.{AnswersAll, AnswersPrefix, EndsEarly, HandsOverAll, FailsReading, FailsHanding, Fails, Ends, StopsLast}
use Rattle.tt_session.proofs.AnsweringLemmas.{lines_of-joined, whole_lines_of-joined, lines_of-last}
use Rattle.tt_streams.proofs.WritingLemmas.{prefix-longer}
use Rattle.tt_session.proofs.LoggedLemmas.{logged-all}
use Rattle.tt_lines.proofs.RunningLemmas.{stands-rests, read-last, turns-text}

-- ---- the numbers of the lines for which there was no memory, and of those that were lost as openings

module _ (test : LineRead → Bool) where
  -- the numbers of the lines of which a test holds
  abbrev numbers_from : ℕ → List LineRead → List ℕ
  numbers_from number [] = []
  numbers_from number (read ∷ reads) = if test read then number ∷ numbers_from (number + 1) reads else numbers_from (number + 1) reads

  -- of lines from a number on, the numbers tell of which it holds
  abbrev Tells : List ℕ → ℕ → List LineRead → Type 0
  Tells numbers number [] = Unit {0}
  Tells numbers number (read ∷ reads) = (is_numbered numbers number ≡ test read) × Tells numbers (number + 1) reads

  none_below : (m number : ℕ) (reads : List LineRead) → m < number → is_numbered (numbers_from number reads) m ≡ false
  none_below m number [] less = refl
  none_below m number (read ∷ reads) less = by (test read) (none_below m (number + 1) reads (omega (arith, less)))
    where
      by : (b : Bool) → is_numbered (numbers_from (number + 1) reads) m ≡ false
          → is_numbered (if b then number ∷ numbers_from (number + 1) reads else numbers_from (number + 1) reads) m ≡ false
      by true none = or_from _ _ (ne_eqb number m (omega (arith, less))) none
      by false none = none

  tells-more : (m number : ℕ) (numbers : List ℕ) (reads : List LineRead) → m < number → Tells numbers number reads → Tells (m ∷ numbers) number reads
  tells-more m number numbers [] less told = tt
  tells-more m number numbers (read ∷ reads) less told =
      (ap (λ b. b || is_numbered numbers number) (ne_eqb m number (omega (arith, less))) ∙ told.0, tells-more m (number + 1) numbers reads (omega (arith, less)) told.1)

  numbers_tell : (number : ℕ) (reads : List LineRead) → Tells (numbers_from number reads) number reads
  numbers_tell number [] = tt
  numbers_tell number (read ∷ reads) = by (numbers_tell (number + 1) reads) (test read) refl
    where
      by : Tells (numbers_from (number + 1) reads) (number + 1) reads → (b : Bool) → test read ≡ b → Tells (if b then number ∷ numbers_from (number + 1) reads else numbers_from (number + 1) reads) number (read ∷ reads)
      by others true e = (ap (λ b. b || is_numbered (numbers_from (number + 1) reads) number) (eq-eqb number number refl) ∙ sym e, tells-more number (number + 1) (numbers_from (number + 1) reads) reads (omega arith) others)
      by others false e = (none_below number (number + 1) reads (omega arith) ∙ sym e, others)

is_lost_read : LineRead → Bool
is_lost_read read = read.is_lost

was_opening : LineRead → Bool
was_opening read = read.as_opening

turn-told : (losses : Losses) (number : ℕ) (session : Session) (read : LineRead) → is_numbered losses.lines number ≡ read.is_lost → is_numbered losses.openings number ≡ read.as_opening
    → read.is_unlogged ≡ false → turn_of_line losses number session read.line ≡ turn_of_read session read
turn-told losses number session read lost as_opening logged =
    (λ i. turn_of_read session (record { is_lost = lost i; as_opening = as_opening i; is_unlogged = false; line = read.line }))
    ∙ ap (λ unlogged. turn_of_read session (record { is_lost = read.is_lost; as_opening = read.as_opening; is_unlogged = unlogged; line = read.line })) (sym logged)

turns-told : (losses : Losses) (number : ℕ) (session : Session) (reads : List LineRead) → Tells is_lost_read losses.lines number reads → Tells was_opening losses.openings number reads → AllLogged reads
    → turn_of_lines losses number session (map (λ (r : LineRead). r.line) reads) ≡ turns_of session reads
unfolding is_lost_read was_opening
turns-told losses number session [] lost openings logged = refl
turns-told losses number session (read ∷ reads) lost openings logged =
    let turn = turn_of_read session read in
    let first = turn-told losses number session read lost.0 openings.0 logged.0 in
    let others = turns-told losses (number + 1) turn.session reads lost.1 openings.1 logged.1 in
    ap (λ (t : Turn). record {
      text = t.text ++ (turn_of_lines losses (number + 1) t.session (map (λ (r : LineRead). r.line) reads)).text;
      session = (turn_of_lines losses (number + 1) t.session (map (λ (r : LineRead). r.line) reads)).session;
    }) first
    ∙ ap (λ (t : Turn). record { text = turn.text ++ t.text; session = t.session }) others

losses_of : List LineRead → Losses
losses_of reads = record { lines = numbers_from is_lost_read 1 reads; openings = numbers_from was_opening 1 reads }

-- what lines are answered is what a session prints for them
pub printed : (reads : List LineRead) → AllLogged reads → (losses : Losses) × (session_text (lines_read reads) losses ≡ (turns_of NotOpen reads).text)
unfolding losses_of
printed reads logged =
    (losses_of reads, ap (λ (t : Turn). t.text) (turns-told (losses_of reads) 1 NotOpen reads (numbers_tell is_lost_read 1 reads) (numbers_tell was_opening 1 reads) logged))

-- ---- further lines

abbrev with_memory : List (List ℕ) → List LineRead
with_memory [] = []
with_memory (line ∷ lines) = kept_line line ∷ with_memory lines

with_memory-logged : (lines : List (List ℕ)) → AllLogged (with_memory lines)
with_memory-logged [] = tt
with_memory-logged (line ∷ lines) = (refl, with_memory-logged lines)

with_memory-lines : (lines : List (List ℕ)) → map (λ (r : LineRead). r.line) (with_memory lines) ≡ lines
with_memory-lines [] = refl
with_memory-lines (line ∷ lines) = ap (λ ls. line ∷ ls) (with_memory-lines lines)

-- ---- the ends

-- all that a reader had, where some of it was read
pub input_of : (unread left : Option (List ℕ)) (bytes : List ℕ) → Consumes unread left bytes → (rest : List ℕ) × IfSome unread (λ xs. bytes ++ rest ≡ xs)
input_of None left bytes p = ([], tt)
input_of (Some xs) None bytes p = absurd p
input_of (Some xs) (Some ys) bytes p = (ys, sym p)

whole_input : (unread left : Option (List ℕ)) (bytes : List ℕ) → Consumes unread left bytes → IsAtEnd left → IfSome unread (λ xs. bytes ≡ xs)
whole_input None left bytes p e = tt
whole_input (Some xs) None bytes p e = absurd p
whole_input (Some xs) (Some ys) bytes p e = sym (p ∙ ap (λ l. bytes ++ l) e ∙ append-nil bytes)

pub fails-reading : {O : Type 0} (handed : Handing O) (has_log : Type 0) (unread left : Option (List ℕ)) (first after : O) (start : Session) (bytes : List ℕ) (run : Run) → Consumes unread left bytes
    → Rests handed has_log first after start bytes run → FailsReading unread left (handed first after start)
fails-reading handed has_log unread left first after start bytes run consumed p = record {
  bytes = bytes;
  consumed = consumed;
  reads = p.reads;
  lines_are = sym (ap whole_lines_of p.cuts.parts ∙ whole_lines_of-joined (lines_read p.reads) p.left p.cuts.whole p.cuts.last);
  is_handed = p.is_handed;
}

-- the outlet failed within the bytes read
pub fails-within : {O : Type 0} (stopped : Handing O) (unread left : Option (List ℕ)) (first after : O) (start : Session) (bytes : List ℕ) → Consumes unread left bytes
    → Halts stopped first after start bytes → FailsHanding unread (stopped first after start)
fails-within stopped unread left first after start bytes consumed p =
    let input = input_of unread left bytes consumed in
    let rest = p.rest ++ input.0 in
    let more : List LineRead = with_memory (lines_of rest) in
    let whole : bytes ++ input.0 ≡ joined (lines_read p.reads) ++ rest = ap (λ l. l ++ input.0) p.parts ∙ append_assoc (joined (lines_read p.reads)) p.rest input.0 in
    record {
      bytes = bytes ++ input.0;
      input = input.1;
      reads = p.reads ++ more;
      lines_are =
          map-append (λ (r : LineRead). r.line) p.reads more ∙ ap (λ ls. lines_read p.reads ++ ls) (with_memory-lines (lines_of rest))
          ∙ sym (ap lines_of whole ∙ lines_of-joined (lines_read p.reads) rest p.whole);
      is_stopped = p.is_stopped more;
    }

pub hands-over-all : (unread left : Option (List ℕ)) (bytes : List ℕ) (handed : List LineRead → Type 0) → Consumes unread left bytes → IsAtEnd left
    → (reads : List LineRead) × (lines_read reads ≡ lines_of bytes) × handed reads → HandsOverAll unread left handed
hands-over-all unread left bytes handed consumed at_end done = record { bytes = bytes; consumed = consumed; at_end = at_end; reads = done.0; lines_are = done.1; is_handed = done.2 }

pub fails-last : (unread left : Option (List ℕ)) (bytes : List ℕ) (stopped : List LineRead → Type 0) → Consumes unread left bytes → IsAtEnd left
    → (reads : List LineRead) × (lines_read reads ≡ lines_of bytes) × stopped reads → FailsHanding unread stopped
fails-last unread left bytes stopped consumed at_end done = record { bytes = bytes; input = whole_input unread left bytes consumed at_end; reads = done.0; lines_are = done.1; is_stopped = done.2 }

-- ---- the last line

lines-so-far : (given : List ℕ) (lines : List (List ℕ)) (left : List ℕ) → Cuts given lines left → lines_of given ≡ lines ++ lines_of left
lines-so-far given lines left p = ap lines_of p.parts ∙ lines_of-joined lines left p.whole

lines-alone : (given : List ℕ) (reads : List LineRead) → Cuts given (lines_read reads) [] → lines_read reads ≡ lines_of given
lines-alone given reads p = sym (lines-so-far given (lines_read reads) [] p ∙ append-nil (lines_read reads))

last-line : (left : List ℕ) → 0 < length left → has_no_feed left ≡ true → lines_of left ≡ left ∷ []
last-line [] some none = absurd (omega (arith, some))
last-line (b ∷ left) some none = lines_of-last b left none

lines-with-last : (given : List ℕ) (reads : List LineRead) (left : List ℕ) (read : LineRead) → read.line ≡ left → Cuts given (lines_read reads) left → 0 < length left
    → lines_read (reads ++ read ∷ []) ≡ lines_of given
lines-with-last given reads left read is p some =
    sym (read-last reads read left is)
    ∙ sym (lines-so-far given (lines_read reads) left p ∙ ap (λ ls. lines_read reads ++ ls) (last-line left some p.last))

pub ends-none : {O : Type 0} (handed : Handing O) (has_log : Type 0) (before after : O) (run : Run) → ((left : List ℕ) → HasBytes run.line left → left ≡ [])
    → HandsOver handed has_log before after run → Ends handed has_log before after run
ends-none handed has_log before after run none over first start given p =
    let stands = stands-rests handed has_log first before start given run p in (
      p.reads,
      lines-alone given p.reads (subst (λ l. Cuts given (lines_read p.reads) l) (none p.left p.line) p.cuts),
      over first start p.reads stands,
    )

pub stops-none : {O : Type 0} (handed stopped : Handing O) (has_log : Type 0) (before after : O) (run : Run) → ((left : List ℕ) → HasBytes run.line left → left ≡ [])
    → StopsBetween handed stopped has_log before after run → StopsLast handed stopped has_log before after run
stops-none handed stopped has_log before after run none stops first start given p =
    let stands = stands-rests handed has_log first before start given run p in (
      p.reads,
      lines-alone given p.reads (subst (λ l. Cuts given (lines_read p.reads) l) (none p.left p.line) p.cuts),
      subst (λ rs. stopped first after start rs) (append-nil p.reads) (stops first start p.reads [] stands),
    )

pub ends-one : {O : Type 0} (handed : Handing O) (has_log : Type 0) (a b c : O) (old mid : Run) → ((left : List ℕ) → HasBytes old.line left → 0 < length left)
    → AnswersOne handed has_log a b old mid → HandsOver handed has_log b c mid → Ends handed has_log a c old
ends-one handed has_log a b c old mid some one over first start given p =
    let stands = stands-rests handed has_log first a start given old p in
    let done = one first start p.reads p.left p.line stands p.session in
    let reads = p.reads ++ done.0 ∷ [] in
    (reads, lines-with-last given p.reads p.left done.0 done.1 p.cuts (some p.left p.line), over first start reads done.2)

pub stops-at-last : {O : Type 0} (handed stopped : Handing O) (has_log : Type 0) (a b : O) (old : Run) → ((left : List ℕ) → HasBytes old.line left → 0 < length left)
    → StopsAt handed stopped has_log a b old → StopsLast handed stopped has_log a b old
stops-at-last handed stopped has_log a b old some stops first start given p =
    let stands = stands-rests handed has_log first a start given old p in
    let at = stops first start p.reads p.left p.line stands p.session in
    let reads = p.reads ++ at.0 ∷ [] in
    (reads, lines-with-last given p.reads p.left at.0 at.1 p.cuts (some p.left p.line), subst (λ rs. stopped first b start rs) (append-nil reads) (at.2 []))

pub stops-after-last : {O : Type 0} (handed stopped : Handing O) (has_log : Type 0) (a b c : O) (old mid : Run) → ((left : List ℕ) → HasBytes old.line left → 0 < length left)
    → AnswersOne handed has_log a b old mid → StopsBetween handed stopped has_log b c mid → StopsLast handed stopped has_log a c old
stops-after-last handed stopped has_log a b c old mid some one stops first start given p =
    let stands = stands-rests handed has_log first a start given old p in
    let done = one first start p.reads p.left p.line stands p.session in
    let reads = p.reads ++ done.0 ∷ [] in
    (reads, lines-with-last given p.reads p.left done.0 done.1 p.cuts (some p.left p.line), subst (λ rs. stopped first c start rs) (append-nil reads) (stops first start reads [] done.2))

-- ---- a session that has no log

pub answers-all : (a b unread left : Option (List ℕ)) → HandsOverAll unread left (Writes a b NotOpen) → AnswersAll unread left a b
answers-all a b unread left p =
    let told = printed p.reads p.is_handed.all_logged in
    record {
      bytes = p.bytes;
      consumed = p.consumed;
      at_end = p.at_end;
      answers = record { losses = told.0; written = subst (Appends a b) (sym told.1 ∙ ap (λ ls. session_text ls told.0) p.lines_are) p.is_handed.written };
    }

-- a prefix of the answers to the first of some lines is one of those to all of them, if each further one has memory
answers-prefix : (a b : Option (List ℕ)) (reads : List LineRead) (bytes : List ℕ) → lines_read reads ≡ lines_of bytes → WritesPrefix a b NotOpen reads → AnswersPrefix bytes a b
answers-prefix a b reads bytes lines_are p =
    let more : List LineRead = with_memory (lines_read p.others) in
    let all : List LineRead = p.front ++ more in
    let told = printed all (logged-all p.front more p.all_logged (with_memory-logged (lines_read p.others))) in
    let same : lines_read all ≡ lines_read reads =
    map-append (λ (r : LineRead). r.line) p.front more ∙ ap (λ ls. lines_read p.front ++ ls) (with_memory-lines (lines_read p.others))
    ∙ sym (ap lines_read p.reads_are ∙ map-append (λ (r : LineRead). r.line) p.front p.others) in
    let longer = subst (AppendsPrefix a b) (sym (turns-text NotOpen p.front more)) (prefix-longer a b (turns_of NotOpen p.front).text (turns_of (turns_of NotOpen p.front).session more).text p.written) in
    record { losses = told.0; written = subst (AppendsPrefix a b) (sym told.1 ∙ ap (λ ls. session_text ls told.0) (same ∙ lines_are)) longer }

pub ends-early : (fault : SessionFault) (a b unread left : Option (List ℕ)) → Fails fault unread left (Writes a b NotOpen) (WritesPrefix a b NotOpen) → EndsEarly fault unread left a b
ends-early faults.Read a b unread left p =
    let told = printed p.reads p.is_handed.all_logged in
    record {
      bytes = p.bytes;
      consumed = p.consumed;
      answers = record { losses = told.0; written = subst (Appends a b) (sym told.1 ∙ ap (λ ls. session_text ls told.0) p.lines_are) p.is_handed.written };
    }
ends-early faults.Write a b unread left p = record { bytes = p.bytes; input = p.input; answers = answers-prefix a b p.reads p.bytes p.lines_are p.is_stopped }
ends-early faults.Memory a b unread left p = absurd p

-- nothing is written yet
pub writes-none : (contents : Option (List ℕ)) (start : Session) → Writes contents contents start []
writes-none contents start = record { all_logged = tt; written = Appends-nil contents }

pub rests-first : {O : Type 0} (handed : Handing O) (has_log : Type 0) (first outlet : O) (session : Session) (run : Run) → HasBytes run.line [] → handed first outlet session []
    → run.session ≡ session → run.out.items ≡ [] → (has_log → run.workspace.lines ≡ Some []) → Rests handed has_log first outlet session [] run
rests-first handed has_log first outlet session run line none session_is out lines = record {
  reads = [];
  left = [];
  cuts = record { parts = refl; whole = refl; last = refl };
  line = line;
  is_handed = none;
  session = session_is;
  out = out;
  lines = lines;
}

-- ---- what the ends say of lines that are read

pub hands-map : (unread left : Option (List ℕ)) (P Q : List LineRead → Type 0) → ((reads : List LineRead) → P reads → Q reads) → HandsOverAll unread left P → HandsOverAll unread left Q
hands-map unread left P Q all p = record { bytes = p.bytes; consumed = p.consumed; at_end = p.at_end; reads = p.reads; lines_are = p.lines_are; is_handed = all p.reads p.is_handed }

pub fails-map : (fault : SessionFault) (unread left : Option (List ℕ)) (P Q S T : List LineRead → Type 0) → ((reads : List LineRead) → P reads → Q reads) → ((reads : List LineRead) → S reads → T reads)
    → Fails fault unread left P S → Fails fault unread left Q T
fails-map faults.Read unread left P Q S T all some p = record { bytes = p.bytes; consumed = p.consumed; reads = p.reads; lines_are = p.lines_are; is_handed = all p.reads p.is_handed }
fails-map faults.Write unread left P Q S T all some p = record { bytes = p.bytes; input = p.input; reads = p.reads; lines_are = p.lines_are; is_stopped = some p.reads p.is_stopped }
fails-map faults.Memory unread left P Q S T all some p = absurd p
