-- Which lines are logged.
use Rattle.std.proofs.Common.{◌≡◌, ℕ, zero, suc, ◌+◌, ◌≤◌, ◌==◌, Bool, true, false, not, ◌&&◌, List, [], ◌∷◌, ◌++◌, length, take, append-nil, append_assoc, sym, Option, None, Some, if◌then◌else◌, refl, ap, ◌∙◌, arith}
use Rattle.std.proofs.lemmas.Bool.{eq-eqb, and_right}
use Rattle.std.proofs.lemmas.Bool.Decides.{nat_tests}
use Rattle.tt_session.specs.declared.session.Session.{Session}
use Rattle.tt_session.specs.Changing.{entries_of, horizon_of, changes_database, line_asks_to_forget}
use Rattle.tt_session.specs.Answering.{LineRead, turn_of_read, turns_of, AllLogged, unlogged_count}
use Rattle.tt_session.specs.LogLines.{lines_of_log}
use Rattle.tt_session.specs.Logged.{with_line_if, logged_by, logged_of, makes_log_anew, log_next, log_after, IsPlain, ArePlain, with_lines}

pub with-nil : (kept : Option (List (List ℕ))) → with_lines kept [] ≡ kept
with-nil None = refl
with-nil (Some lines) = ap Some (append-nil lines)

pub with-append : (kept : Option (List (List ℕ))) (first others : List (List ℕ)) → with_lines (with_lines kept first) others ≡ with_lines kept (first ++ others)
with-append None first others = refl
with-append (Some lines) first others = ap Some (append_assoc lines first others)

if-append : (b : Bool) (line : List ℕ) (first others : List (List ℕ)) → with_line_if b line (first ++ others) ≡ with_line_if b line first ++ others
if-append true line first others = refl
if-append false line first others = refl

pub logged_of-append : (session : Session) (first others : List LineRead) → logged_of session (first ++ others) ≡ logged_of session first ++ logged_of (turns_of session first).session others
logged_of-append session [] others = refl
logged_of-append session (read ∷ first) others =
    let next = (turn_of_read session read).session in
    ap (with_line_if (changes_database session next) read.line) (logged_of-append next first others)
    ∙ if-append (changes_database session next) read.line (logged_of next first) (logged_of (turns_of next first).session others)

-- the database stays where there are as many entries as before, behind the same horizon
pub same-entries : (old new : Session) → entries_of new ≡ entries_of old → horizon_of new ≡ horizon_of old → changes_database old new ≡ false
same-entries old new entries horizon = λ i. not (eq-eqb (entries_of new) (entries_of old) entries i && eq-eqb (horizon_of new) (horizon_of old) horizon i)

abbrev pub IsAsFar : Session → Session → Type 0
IsAsFar old new = (entries_of new ≡ entries_of old) × (horizon_of new ≡ horizon_of old)

pub none-logged : (old new : Session) (line : List ℕ) → IsAsFar old new → logged_by old new line ≡ []
none-logged old new line far = ap (λ b. with_line_if b line []) (same-entries old new far.0 far.1)

pub same-logged : (session : Session) (line : List ℕ) → logged_by session session line ≡ []
same-logged session line = none-logged session session line (refl, refl)

-- one more in both
pub same-next : (n m : ℕ) → (n + 1 == m + 1) ≡ (n == m)
same-next n m = grind (arith, nat_tests)

-- ---- lines for which the log isn't made anew

-- a line that changes nothing
pub far-not-anew : (session : Session) (read : LineRead) → IsAsFar session (turn_of_read session read).session → makes_log_anew session read ≡ false
far-not-anew session read far =
    ap (λ b. line_asks_to_forget session read.line && b) (same-entries session (turn_of_read session read).session far.0 far.1)
    ∙ and_right (line_asks_to_forget session read.line) false refl

pub log-far : (lines : List (List ℕ)) (session : Session) (read : LineRead) → IsAsFar session (turn_of_read session read).session → log_next lines session read ≡ lines
log-far lines session read far =
    rw (far-not-anew session read far) (ap (λ ls. lines ++ ls) (none-logged session (turn_of_read session read).session read.line far) ∙ append-nil lines)

pub plain-far : (session : Session) (read : LineRead) → read.is_unlogged ≡ false → IsAsFar session (turn_of_read session read).session → IsPlain session read
plain-far session read logged far = record {
  not_unlogged = logged;
  not_anew = far-not-anew session read far;
}

-- a line that doesn't ask for it
pub plain-other : (session : Session) (read : LineRead) → read.is_unlogged ≡ false → line_asks_to_forget session read.line ≡ false → IsPlain session read
plain-other session read logged other = record {
  not_unlogged = logged;
  not_anew = ap (λ b. b && changes_database session (turn_of_read session read).session) other;
}

pub plain-append : (session : Session) (first others : List LineRead) → ArePlain session first → ArePlain (turns_of session first).session others → ArePlain session (first ++ others)
plain-append session [] others p q = q
plain-append session (read ∷ first) others p q = (p.0, plain-append (turn_of_read session read).session first others p.1 q)

pub plain-logged : (session : Session) (reads : List LineRead) → ArePlain session reads → AllLogged reads
plain-logged session [] p = tt
plain-logged session (read ∷ reads) p = (p.0.not_unlogged, plain-logged (turn_of_read session read).session reads p.1)

pub logged-all : (first others : List LineRead) → AllLogged first → AllLogged others → AllLogged (first ++ others)
logged-all [] others p q = q
logged-all (read ∷ first) others p q = (p.0, logged-all first others p.1 q)

pub unlogged-append : (first others : List LineRead) → unlogged_count (first ++ others) ≡ unlogged_count first + unlogged_count others
unlogged-append [] others = let none : unlogged_count [] ≡ 0 = refl in omega (arith, none)
unlogged-append (read ∷ first) others =
    let rest = unlogged-append first others in omega (arith, rest)

-- none of those is unlogged for which the log isn't made anew
pub plain-unlogged : (session : Session) (reads : List LineRead) → ArePlain session reads → unlogged_count reads ≡ 0
plain-unlogged session [] p = refl
plain-unlogged session (read ∷ reads) p =
    let one : ◌≡◌ {A = ℕ} (if read.is_unlogged then 1 else 0) 0 = ap (λ b. if b then 1 else 0) p.0.not_unlogged in
    let rest = plain-unlogged (turn_of_read session read).session reads p.1 in omega (arith, one, rest)

-- ---- the log after lines

pub log-append : (lines : List (List ℕ)) (session : Session) (first others : List LineRead)
    → log_after lines session (first ++ others) ≡ log_after (log_after lines session first) (turns_of session first).session others
log-append lines session [] others = refl
log-append lines session (read ∷ first) others = log-append (log_next lines session read) (turn_of_read session read).session first others

next-plain : (lines : List (List ℕ)) (session : Session) (read : LineRead) → IsPlain session read
    → log_next lines session read ≡ lines ++ logged_by session (turn_of_read session read).session read.line
next-plain lines session read p = rw p.not_anew refl

-- lines for which it isn't made anew stand behind those that were there, if they change the database
pub log-plain : (lines : List (List ℕ)) (session : Session) (reads : List LineRead) → ArePlain session reads → log_after lines session reads ≡ lines ++ logged_of session reads
log-plain lines session [] p = sym (append-nil lines)
log-plain lines session (read ∷ reads) p =
    let next = (turn_of_read session read).session in
    ap (λ ls. log_after ls next reads) (next-plain lines session read p.0) ∙ log-plain (lines ++ logged_by session next read.line) next reads p.1
    ∙ append_assoc lines (logged_by session next read.line) (logged_of next reads)
    ∙ ap (λ ls. lines ++ ls) (sym (if-append (changes_database session next) read.line [] (logged_of next reads)))

-- a line for which it is made anew
pub log-anew : (lines : List (List ℕ)) (session : Session) (read : LineRead) → makes_log_anew session read ≡ true → log_next lines session read ≡ lines_of_log (turn_of_read session read).session
log-anew lines session read anew = rw anew refl

-- ---- the first lines

pub plain-front : (session : Session) (first others : List LineRead) → ArePlain session (first ++ others) → ArePlain session first
plain-front session [] others p = tt
plain-front session (read ∷ first) others p = (p.0, plain-front (turn_of_read session read).session first others p.1)

-- the first lines that are logged are those of the first lines read
pub record Front (session : Session) (reads : List LineRead) (count : ℕ) : Type 0 where
  pub front : List LineRead
  pub others : List LineRead
  pub reads_are : reads ≡ front ++ others
  pub first : take count (logged_of session reads) ≡ logged_of session front

pub front-of : (session : Session) (reads : List LineRead) (count : ℕ) → count ≤ length (logged_of session reads) → Front session reads count
front-of session reads zero few = record { front = []; others = reads; reads_are = refl; first = refl }
front-of session [] (suc n) few = absurd (omega arith)
front-of session (read ∷ reads) (suc n) few =
    go (λ k le. front-of (turn_of_read session read).session reads k le) (changes_database session (turn_of_read session read).session) refl few
  where
    next : Session
    next = (turn_of_read session read).session

    front-more : (k : ℕ) (f : Front next reads k) → take (suc n) (with_line_if (changes_database session next) read.line (logged_of next reads)) ≡ with_line_if (changes_database session next) read.line (logged_of next f.front)
        → Front session (read ∷ reads) (suc n)
    front-more k f first = record { front = read ∷ f.front; others = f.others; reads_are = ap (λ rs. read ∷ rs) f.reads_are; first = first }

    go : ((k : ℕ) → k ≤ length (logged_of next reads) → Front next reads k) → (b : Bool) → changes_database session next ≡ b → suc n ≤ length (with_line_if b read.line (logged_of next reads))
        → Front session (read ∷ reads) (suc n)
    go further true made few =
        let f = further n (omega (arith, few)) in
        front-more n f
        (ap (λ b. take (suc n) (with_line_if b read.line (logged_of next reads))) made ∙ ap (λ ls. read.line ∷ ls) f.first
        ∙ ap (λ b. with_line_if b read.line (logged_of next f.front)) (sym made))
    go further false none few =
        let f = further (suc n) few in
        front-more (suc n) f
        (ap (λ b. take (suc n) (with_line_if b read.line (logged_of next reads))) none ∙ f.first
        ∙ ap (λ b. with_line_if b read.line (logged_of next f.front)) (sym none))
