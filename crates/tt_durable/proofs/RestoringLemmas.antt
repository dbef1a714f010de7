-- How a session is read back from the lines of a log.
use Rattle.std.proofs.Common.{◌≡◌, ℕ, ◌+◌, ◌-◌, ◌<◌, ◌==◌, ◌&&◌, Bool, true, false, not, cond, List, [], ◌∷◌, ◌++◌, length, take, drop, append-nil, append_assoc, length-append, inl, inr, Option, None, Some, is_some, option_and_then, Result, Ok, Err, IsErr, IfOk, OnOk, IfErr, codes, refl, sym, ap, ◌∙◌, subst, arith, ne_eqb}
use Rattle.std.specs.List.{list_all}
use Rattle.std.proofs.lemmas.Bool.{and_parts}
use Rattle.std.proofs.lemmas.List.{take_rest, take-append-drop}
use Rattle.std.proofs.Math.Seq.{take-add}
use Rattle.tt_requests.specs.Lines.{is_too_long, is_passed_over, whole_lines_of, with_byte_if}
use Rattle.tt_requests.specs.LineValue.{value_of_line}
use Rattle.tt_log.specs.Lines as log
use Rattle.tt_session.specs.declared.session.Session.{Session}
use Rattle.tt_session.specs.declared.session.Session.TheVariants.{NotOpen, Open}
use Rattle.tt_durable.specs.declared.restoring.Restoring.{Restoring}
use Rattle.tt_durable.specs.declared.restoring.RestoreFault.{RestoreFault}
use Rattle.tt_durable.specs.declared.restoring.RestoreFault.TheVariants as faults
use Rattle.tt_lines.specs.Lines.{HasBytes}
use Rattle.tt_session.specs.Feeds.{HasFirstFeed, has_no_feed, joined}
use Rattle.tt_grammar.specs.Fault.{refuse}
use Rattle.tt_requests.specs.declared.log_opening.LogOpening.{LogOpening}
use Rattle.tt_requests.specs.LogOpening.{log_opening_of}
use Rattle.tt_requests.specs.GroundAction.{ground_action_of}
use Rattle.tt_commands.specs.Session.{OpenSession}
use Rattle.tt_session.specs.Run.{Turn, begun, turn_by_value, turn_of_long_line}
use Rattle.tt_session.specs.Answering.{turn_of_read}
use Rattle.tt_session.specs.Changing.{changes_database}
use Rattle.tt_session.specs.Together.{kept_line}
use Rattle.tt_commands.specs.Grounds.{opened_on, with_ground}
use Rattle.tt_durable.specs.Restoring.{laid_by, laid_by_lines, repeated, repeated_all, AllChange, LaysGround, BeginsLog, ReadsLog, restored, Restores, IsNoGround, IsNoNext, IsNoLine}
use Rattle.tt_durable.specs.declared.restoring.OpenLog.{OpenLog}
use Rattle.tt_durable.specs.RestoringRun.{IsRestoring, FailsAtLine, FailsIn, IsNextOrNot, OpensBy}
use Rattle.tt_session.proofs.AnsweringLemmas.{read-long, read-kept, whole_lines_of-joined, whole_lines_of-line}
use Rattle.tt_session.proofs.LineLemmas.{first_line, rest_of}
use Rattle.tt_session.proofs.LoggedLemmas.{same-entries}
use Rattle.tt_lines.proofs.RunningLemmas.{cuts-more, cuts-line}

-- ---- lines of a log

repeated-push : (base : Session) (lines : List (List ℕ)) (line : List ℕ) → repeated_all base (lines ++ line ∷ []) ≡ repeated (repeated_all base lines) line
repeated-push base [] line = refl
repeated-push base (first ∷ lines) line = repeated-push (repeated base first) lines line

change-push : (base : Session) (lines : List (List ℕ)) (line : List ℕ) → AllChange base lines
    → changes_database (repeated_all base lines) (repeated (repeated_all base lines) line) ≡ true → AllChange base (lines ++ line ∷ [])
change-push base [] line all changes = (changes, tt)
change-push base (first ∷ lines) line all changes = (all.0, change-push (repeated base first) lines line all.1 changes)

-- a further line that changes the database
pub reads-push : (lines : List (List ℕ)) (session : Session) (line : List ℕ) → ReadsLog lines session 0 → changes_database session (repeated session line) ≡ true
    → ReadsLog (lines ++ line ∷ []) (repeated session line) 0
reads-push lines session line p changes = record {
  first = p.first;
  others = p.others ++ line ∷ [];
  lines_are = ap (λ ls. ls ++ line ∷ []) p.lines_are ∙ append_assoc p.first p.others (line ∷ []);
  base = p.base;
  begins = p.begins;
  ground_first = λ less. absurd (omega (arith, less));
  all_change = change-push p.base p.others line p.all_change (subst (λ s. changes_database s (repeated s line) ≡ true) p.session_is changes);
  session_is = ap (λ s. repeated s line) p.session_is ∙ sym (repeated-push p.base p.others line);
}

laid-then : (laid : Option OpenSession) (next : OpenSession) (lines : List (List ℕ)) (line : List ℕ) → option_and_then (λ s. laid_by_lines s lines) laid ≡ Some next
    → ((s : OpenSession) → laid_by_lines s lines ≡ Some next → laid_by_lines s (lines ++ line ∷ []) ≡ laid_by_lines next (line ∷ []))
    → option_and_then (λ s. laid_by_lines s (lines ++ line ∷ [])) laid ≡ laid_by_lines next (line ∷ [])
laid-then None next lines line is by = cc
laid-then (Some s) next lines line is by = by s is

laid-append : (session next : OpenSession) (lines : List (List ℕ)) (line : List ℕ) → laid_by_lines session lines ≡ Some next → laid_by_lines session (lines ++ line ∷ []) ≡ laid_by_lines next (line ∷ [])
laid-append session next [] line is = ap (λ o. option_and_then (λ s. laid_by_lines s (line ∷ [])) o) is
laid-append session next (first ∷ lines) line is = laid-then (laid_by session first) next lines line is (λ s h. laid-append s next lines line h)

laid-one : (session next : OpenSession) (line : List ℕ) → laid_by session line ≡ Some next → laid_by_lines session (line ∷ []) ≡ Some next
laid-one session next line is = ap (λ o. option_and_then (λ s. laid_by_lines s []) o) is

-- what a log begins with, where nothing is behind the ground
pub begins-base : (lines : List (List ℕ)) (session : Session) (left : ℕ) (p : ReadsLog lines session left) → p.others ≡ [] → (lines ≡ p.first) × (p.base ≡ session)
begins-base lines session left p none =
    (p.lines_are ∙ ap (λ ls. p.first ++ ls) none ∙ append-nil p.first, sym (p.session_is ∙ ap (repeated_all p.base) none))

-- a further slot of the ground
reads-lay : (lines : List (List ℕ)) (now next : OpenSession) (line : List ℕ) (left after : ℕ) → ReadsLog lines (Open now) left → left ≡ after + 1 → laid_by now line ≡ Some next
    → ReadsLog (lines ++ line ∷ []) (Open next) after
reads-lay lines now next line left after p left_is laid =
    let none = p.ground_first (omega (arith, left_is)) in
    let base = begins-base lines (Open now) left p none in
    let ground : LaysGround p.first now left = subst (λ s. BeginsLog p.first s left) base.1 p.begins in
    record {
      first = lines ++ line ∷ [];
      others = [];
      lines_are = sym (append-nil (lines ++ line ∷ []));
      base = Open next;
      begins = record {
        line = ground.line;
        slots = ground.slots ++ line ∷ [];
        lines_are = ap (λ ls. ls ++ line ∷ []) (base.0 ∙ ground.lines_are);
        opening = ground.opening;
        opens = ground.opens;
        count = omega (arith, ground.count, left_is, length-append ground.slots (line ∷ []));
        laid = laid-append (opened_on ground.opening) now ground.slots line ground.laid ∙ laid-one now next line laid;
      };
      ground_first = λ less. refl;
      all_change = tt;
      session_is = refl;
    }

-- the opening of a log with a ground
reads-ground : (line : List ℕ) (opening : LogOpening) → log_opening_of (value_of_line line) ≡ Ok opening → ReadsLog (line ∷ []) (Open (opened_on opening)) opening.numbering.ground_slots
reads-ground line opening opens = record {
  first = line ∷ [];
  others = [];
  lines_are = refl;
  base = Open (opened_on opening);
  begins = record { line = line; slots = []; lines_are = refl; opening = opening; opens = opens; count = omega arith; laid = refl };
  ground_first = λ less. refl;
  all_change = tt;
  session_is = refl;
}

append-none : (first others : List (List ℕ)) → first ++ others ≡ [] → others ≡ []
append-none [] others is = is
append-none (line ∷ first) others is = cc

-- before the first line no ground is still to come
none-left : (left : ℕ) → ReadsLog [] NotOpen left → left ≡ 0
none-left left p =
    let base = begins-base [] NotOpen left p (append-none p.first p.others (sym p.lines_are)) in
    (subst (λ s. BeginsLog p.first s left) base.1 p.begins).1

-- what a line makes of a session, where it is neither passed over nor too long
pub read-value : (session : Session) (line : List ℕ) → is_passed_over line ≡ false → turn_of_read session (kept_line line) ≡ turn_by_value session (value_of_line line)
read-value session line told = read-kept session line ∙ (rw told refl)

open-closed : (s : OpenSession) → Open s ≡ NotOpen → ⊥
open-closed s is = cc

-- ---- a session that is being read back

pub restoring-more : (given bytes : List ℕ) (old new : Restoring) → IsRestoring given old → has_no_feed bytes ≡ true → ((left : List ℕ) → HasBytes old.line left → HasBytes new.line (left ++ bytes))
    → new.session ≡ old.session → new.ground_left ≡ old.ground_left → new.count ≡ old.count → IsRestoring (given ++ bytes) new
restoring-more given bytes old new p none line session ground count = record {
  lines = p.lines;
  left = p.left ++ bytes;
  cuts = cuts-more given bytes p.lines p.left none p.cuts;
  line = line p.left p.line;
  reads = subst (λ s. ReadsLog p.lines (begun s) new.ground_left) (sym session) (subst (λ n. ReadsLog p.lines (begun old.session) n) (sym ground) p.reads);
  fresh = λ closed. p.fresh (ap begun (sym session) ∙ closed);
  count_is = count ∙ p.count_is;
}

next-reads : (lines : List (List ℕ)) (begun_as : Option OpenSession) (next : Session) (left after : ℕ) (line : List ℕ) → ReadsLog lines (begun begun_as) left → (begun begun_as ≡ NotOpen → lines ≡ [])
    → IsNextOrNot true (begun begun_as) left line next after → ReadsLog (lines ++ line ∷ []) next after × ((next ≡ NotOpen) → ⊥)
next-reads lines begun_as next left after line p fresh (inl lays) = (
  subst (λ s. ReadsLog (lines ++ line ∷ []) s after) (sym lays.next_is)
      (reads-lay lines lays.before lays.laid line left after (subst (λ s. ReadsLog lines s left) lays.session_is p) lays.left_is lays.is),
  λ closed. open-closed lays.laid (sym lays.next_is ∙ closed),
)
next-reads lines begun_as next left after line p fresh (inr (inl logs)) =
    let session = begun begun_as in
    let zero_left : left ≡ 0 = no-left begun_as refl in (
      subst (λ s. ReadsLog (lines ++ line ∷ []) s after) (sym logs.next_is)
          (subst (λ n. ReadsLog (lines ++ line ∷ []) (repeated session line) n) (sym logs.left_is)
          (reads-push lines session line (subst (λ n. ReadsLog lines session n) zero_left p) (subst (λ s. changes_database session s ≡ true) logs.next_is logs.changes))),
      λ closed. open-closed logs.after (sym logs.is_open ∙ closed),
    )
  where
    no-left : (o : Option OpenSession) → begun_as ≡ o → left ≡ 0
    no-left None is = none-left left (subst (λ ls. ReadsLog ls NotOpen left) (fresh (ap begun is)) (subst (λ x. ReadsLog lines (begun x) left) is p))
    no-left (Some s) is = logs.no_ground s (ap begun is)
next-reads lines begun_as next left after line p fresh (inr (inr opens)) = (
  subst (λ ls. ReadsLog (ls ++ line ∷ []) next after) (sym (fresh opens.session_is))
      (subst (λ s. ReadsLog (line ∷ []) s after) (sym opens.next_is) (subst (λ n. ReadsLog (line ∷ []) (Open (opened_on opens.opening)) n) (sym opens.left_is) (reads-ground line opens.opening opens.opens))),
  λ closed. open-closed (opened_on opens.opening) (sym opens.next_is ∙ closed),
)

pub restoring-next : (given : List ℕ) (old new : Restoring) (p : IsRestoring given old) → IsNextOrNot true (begun old.session) old.ground_left p.left (begun new.session) new.ground_left
    → HasBytes new.line [] → new.count ≡ old.count + 1 → IsRestoring (given ++ 10 ∷ []) new
restoring-next given old new p next line count =
    let reads = next-reads p.lines old.session (begun new.session) old.ground_left new.ground_left p.left p.reads p.fresh next in
    record {
      lines = p.lines ++ p.left ∷ [];
      left = [];
      cuts = cuts-line given p.lines p.left p.cuts;
      line = line;
      reads = reads.0;
      fresh = λ closed. absurd (reads.1 closed);
      count_is = omega (arith, count, p.count_is, length-append p.lines (p.left ∷ []));
    }

-- ---- a line that can't be the next one

pub fails-at : (given : List ℕ) (old : Restoring) (p : IsRestoring given old) (number : ℕ) → number ≡ old.count + 1 → IsNoNext (begun old.session) old.ground_left p.left → FailsAtLine (given ++ 10 ∷ []) number
fails-at given old p number number_is fails = record {
  front = p.lines;
  line = p.left;
  rest = [];
  parts = ap (λ l. l ++ 10 ∷ []) p.cuts.parts ∙ append_assoc (joined p.lines) p.left (10 ∷ []);
  whole = p.cuts.whole;
  no_feed = p.cuts.last;
  number_is = omega (arith, number_is, p.count_is);
  session = begun old.session;
  left = old.ground_left;
  reads = p.reads;
  fails = fails;
}

-- the first line
opens-changes : (session : OpenSession) → changes_database NotOpen (Open session) ≡ true
opens-changes session = ap (λ b. not (b && (session.numbering.horizon == 0))) (ne_eqb (length session.database.history + 1) 0 (λ e. omega (arith, e)))

opens-log : (line : List ℕ) (log : OpenLog) (left : ℕ) → OpensBy line (Some log) → IsNextOrNot true NotOpen left line (Open log.session) log.ground_slots
opens-log line log left (inl opened) =
    inr (inl (record { no_ground = λ s same. absurd (open-closed s (sym same)); after = log.session; is_open = refl; next_is = opened.0; changes = opens-changes log.session; left_is = opened.1 }))
opens-log line log left (inr ground) = inr (inr ground)

pub opens-next : (line : List ℕ) (opened : Option OpenLog) (log : OpenLog) (before : Option OpenSession) (left : ℕ) (is_open : Bool)
    → OpensBy line opened → opened ≡ Some log → before ≡ None → is_open ≡ is_some opened → IsNextOrNot is_open (begun before) left line (Open log.session) log.ground_slots
opens-next line opened log before left is_open opens some none told =
    subst (λ b. IsNextOrNot b (begun before) left line (Open log.session) log.ground_slots) (sym (told ∙ ap is_some some))
    (subst (λ o. IsNextOrNot true (begun o) left line (Open log.session) log.ground_slots) (sym none) (opens-log line log left (subst (OpensBy line) some opens)))

-- a line that is too long
long-value : (line : List ℕ) → is_too_long line ≡ true → value_of_line line ≡ refuse (codes "longer than 16777216 bytes")
unfolding value_of_line
long-value line long = rw long refl

long-none : (session : Session) (line : List ℕ) → is_too_long line ≡ true → IsNoGround session line
long-none NotOpen line long = tt
long-none (Open session) line long = ap (λ v. with_ground session (ground_action_of session.database.catalog v)) (long-value line long)

long-stays : (session : Session) → changes_database session (turn_of_long_line session).session ≡ false
long-stays NotOpen = same-entries NotOpen NotOpen refl refl
long-stays (Open session) = same-entries (Open session) (turn_of_long_line (Open session)).session refl refl

pub fails-long : (given : List ℕ) (old : Restoring) (p : IsRestoring given old) (number : ℕ) → number ≡ old.count + 1 → is_too_long p.left ≡ true → FailsAtLine (given ++ 10 ∷ []) number
fails-long given old p number number_is long =
    let session = begun old.session in
    fails-at given old p number number_is (record {
      no_ground = λ some. long-none session p.left long;
      no_change = λ none. ap (λ (t : Turn). changes_database session t.session) (read-long session p.left long) ∙ long-stays session;
      no_opening = λ closed. subst (λ v. IsErr (log_opening_of v)) (sym (long-value p.left long)) refl;
    })

fails-more : (given more : List ℕ) (fault : RestoreFault) → FailsIn given fault → FailsIn (given ++ more) fault
fails-more given more (faults.Line number) p = record {
  front = p.front;
  line = p.line;
  rest = p.rest ++ more;
  parts =
      ap (λ l. l ++ more) p.parts ∙ append_assoc (joined p.front) (p.line ++ 10 ∷ p.rest) more
      ∙ ap (λ l. joined p.front ++ l) (append_assoc p.line (10 ∷ p.rest) more);
  whole = p.whole;
  no_feed = p.no_feed;
  number_is = p.number_is;
  session = p.session;
  left = p.left;
  reads = p.reads;
  fails = p.fails;
}
fails-more given more faults.Read p = tt
fails-more given more faults.Memory p = tt

-- ---- all lines of a log

-- both crates cut bytes into the same lines
same-if : (b : ℕ) (lines : List (List ℕ)) → log.with_byte_if b lines ≡ with_byte_if b lines
same-if b [] = refl
same-if b (line ∷ lines) = refl

same-lines : (bytes : List ℕ) → log.whole_lines_of bytes ≡ whole_lines_of bytes
same-lines [] = refl
same-lines (b ∷ bytes) = by (b == 10) (same-lines bytes)
  where
    by : (t : Bool) → log.whole_lines_of bytes ≡ whole_lines_of bytes → cond t ([] ∷ log.whole_lines_of bytes) (log.with_byte_if b (log.whole_lines_of bytes)) ≡ cond t ([] ∷ whole_lines_of bytes) (with_byte_if b (whole_lines_of bytes))
    by true others = ap (λ ls. [] ∷ ls) others
    by false others = ap (log.with_byte_if b) others ∙ same-if b (whole_lines_of bytes)

lines-all : (file given : List ℕ) (run : Restoring) (p : IsRestoring given run) → given ≡ log.text file → log.logged file ≡ p.lines
lines-all file given run p whole =
    ap log.whole_lines_of (sym whole) ∙ same-lines given ∙ ap whole_lines_of p.cuts.parts ∙ whole_lines_of-joined p.lines p.left p.cuts.whole p.cuts.last

restores-all : (file given : List ℕ) (run : Restoring) (session : Session) → IsRestoring given run → given ≡ log.text file → run.ground_left ≡ 0 → session ≡ restored (begun run.session)
    → Restores (log.logged file) session
restores-all file given run session p whole none session_is = record {
  after = begun run.session;
  reads = subst (λ ls. ReadsLog ls (begun run.session) 0) (sym (lines-all file given run p whole)) (subst (λ n. ReadsLog p.lines (begun run.session) n) none p.reads);
  session_is = session_is;
}

-- some of the ground are still to come behind the last line
no-more-lines : (file given : List ℕ) (run : Restoring) (number : ℕ) → IsRestoring given run → given ≡ log.text file → number ≡ run.count + 1 → 0 < run.ground_left → IsNoLine (log.logged file) number
no-more-lines file given run number p whole number_is some = record {
  front = p.lines;
  others = [];
  lines_are = lines-all file given run p whole ∙ sym (append-nil p.lines);
  number_is = omega (arith, number_is, p.count_is);
  session = begun run.session;
  left = run.ground_left;
  reads = p.reads;
  fails = some;
}

line-number : (n m : ℕ) → faults.Line n ≡ faults.Line m → n ≡ m
line-number n m is = cc

-- nothing is unread once nothing is read into a buffer
pub given-all : (given unread after buffer whole : List ℕ) (count : ℕ) → given ++ unread ≡ whole → take count buffer ++ after ≡ unread → count ≡ 0 → after ≡ [] → given ≡ whole
given-all given unread after buffer whole count parts bytes none end =
    sym (append-nil given) ∙ ap (λ l. given ++ l) ((λ i. take (sym none i) buffer ++ sym end i) ∙ bytes) ∙ parts

-- once all lines are read, with a ground that is whole or not
pub restores-if : (tells : Type 0) (file given : List ℕ) (run : Restoring) (result : Result Session RestoreFault) → IsRestoring given run → (tells → given ≡ log.text file)
    → IfOk result (λ session. session ≡ restored (begun run.session)) → OnOk result (run.ground_left ≡ 0) → IfOk result (λ session. tells → Restores (log.logged file) session)
restores-if tells file given run (Ok session) p whole is none = λ told. restores-all file given run session p (whole told) none is
restores-if tells file given run (Err fault) p whole is none = tt

pub no-line-if : (tells : Type 0) (file given : List ℕ) (run : Restoring) (result : Result Session RestoreFault) → IsRestoring given run → (tells → given ≡ log.text file)
    → IfErr result (λ e. (e ≡ faults.Line (run.count + 1)) × (0 < run.ground_left)) → IfErr result (λ e. (n : ℕ) → e ≡ faults.Line n → tells → IsNoLine (log.logged file) n)
no-line-if tells file given run (Ok session) p whole none = tt
no-line-if tells file given run (Err fault) p whole none = λ n is told. no-more-lines file given run n p (whole told) (line-number n (run.count + 1) (sym is ∙ none.0)) none.1

whole_lines-front : (front : List (List ℕ)) (line rest : List ℕ) → list_all has_no_feed front ≡ true → has_no_feed line ≡ true
    → whole_lines_of (joined front ++ (line ++ 10 ∷ rest)) ≡ front ++ line ∷ whole_lines_of rest
whole_lines-front [] line rest whole none = whole_lines_of-line line rest none
whole_lines-front (first ∷ front) line rest whole none =
    let both = and_parts (has_no_feed first) (list_all has_no_feed front) whole in
    ap whole_lines_of (append_assoc first (10 ∷ joined front) (line ++ 10 ∷ rest)) ∙ whole_lines_of-line first (joined front ++ (line ++ 10 ∷ rest)) both.0
    ∙ ap (λ ls. first ∷ ls) (whole_lines-front front line rest both.1 none)

pub no-line : (file given unread : List ℕ) (number : ℕ) → FailsAtLine given number → given ++ unread ≡ log.text file → IsNoLine (log.logged file) number
no-line file given unread number p whole = record {
  front = p.front;
  others = p.line ∷ whole_lines_of (p.rest ++ unread);
  lines_are =
      ap log.whole_lines_of (sym whole) ∙ same-lines (given ++ unread)
      ∙ ap whole_lines_of (ap (λ l. l ++ unread) p.parts ∙ append_assoc (joined p.front) (p.line ++ 10 ∷ p.rest) unread ∙ ap (λ l. joined p.front ++ l) (append_assoc p.line (10 ∷ p.rest) unread))
      ∙ whole_lines-front p.front p.line (p.rest ++ unread) p.whole p.no_feed;
  number_is = p.number_is;
  session = p.session;
  left = p.left;
  reads = p.reads;
  fails = p.fails;
}

-- ---- bytes that come in pieces

pub taken-line : (given bytes : List ℕ) (from end : ℕ) → HasFirstFeed (take (length bytes - from) (drop from bytes)) end
    → ((given ++ take from bytes) ++ take end (take (length bytes - from) (drop from bytes))) ++ 10 ∷ [] ≡ given ++ take (from + (end + 1)) bytes
taken-line given bytes from end first =
    let rest = take (length bytes - from) (drop from bytes) in
    append_assoc (given ++ take from bytes) (take end rest) (10 ∷ []) ∙ ap (λ l. (given ++ take from bytes) ++ l) (sym (first_line rest end first)) ∙ append_assoc given (take from bytes) (take (end + 1) rest)
    ∙ ap (λ l. given ++ (take from bytes ++ take (end + 1) l)) (take_rest bytes from) ∙ ap (λ l. given ++ l) (sym (take-add from (end + 1) bytes))

pub taken-rest : (given bytes : List ℕ) (from : ℕ) → (given ++ take from bytes) ++ take (length bytes - from) (drop from bytes) ≡ given ++ bytes
taken-rest given bytes from = append_assoc given (take from bytes) _ ∙ ap (λ l. given ++ l) (rest_of bytes from)

pub fails-within : (given bytes : List ℕ) (from end : ℕ) (fault : RestoreFault) → HasFirstFeed (take (length bytes - from) (drop from bytes)) end
    → FailsIn (((given ++ take from bytes) ++ take end (take (length bytes - from) (drop from bytes))) ++ 10 ∷ []) fault → FailsIn (given ++ bytes) fault
fails-within given bytes from end fault first p =
    let n = from + (end + 1) in
    let whole : (given ++ take n bytes) ++ drop n bytes ≡ given ++ bytes = append_assoc given (take n bytes) (drop n bytes) ∙ ap (λ l. given ++ l) (take-append-drop n bytes) in
    subst (λ l. FailsIn l fault) whole (fails-more (given ++ take n bytes) (drop n bytes) fault (subst (λ l. FailsIn l fault) (taken-line given bytes from end first) p))
