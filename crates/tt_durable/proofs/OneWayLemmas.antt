-- A log is read back in one way: line by line, where each line leads to one session or to none.
use Rattle.std.proofs.Common.{◌≡◌, ℕ, zero, suc, ◌+◌, ◌<◌, Bool, true, false, List, [], ◌∷◌, ◌++◌, length, option_and_then, Option, None, Some, is_err, Result, Ok, Err, refl, sym, ap, ◌∙◌, subst, arith}
use Rattle.tt_grammar.specs.declared.fault.DocFault.{DocFault}
use Rattle.tt_requests.specs.declared.log_opening.LogOpening.{LogOpening}
use Rattle.tt_requests.specs.declared.opening.Opening.{Opening}
use Rattle.tt_requests.specs.Lines.{is_passed_over}
use Rattle.tt_requests.specs.LineValue.{value_of_line}
use Rattle.tt_requests.specs.Opening.{opening_of}
use Rattle.tt_requests.specs.LogOpening.{log_opening_of}
use Rattle.tt_session.specs.declared.session.Session.{Session}
use Rattle.tt_session.specs.declared.session.Session.TheVariants.{NotOpen, Open}
use Rattle.tt_commands.specs.Session.{OpenSession}
use Rattle.tt_session.specs.Run.{Turn, turn_by_opening}
use Rattle.tt_session.specs.Changing.{changes_database}
use Rattle.tt_commands.specs.Grounds.{opened_on}
use Rattle.tt_durable.specs.Restoring.{laid_by, laid_by_lines, repeated, repeated_all, AllChange, BeginsLog, ReadsLog, IsNoNext, IsNoLog, IsNoLine, LogsAreReadInOneWay}
use Rattle.tt_durable.proofs.LogReadLemmas.{openings_have_no_ground}
use Rattle.tt_durable.proofs.RestoringLemmas.{begins-base, read-value}

-- a session that is read back and how many slots of the ground are still to come, if the lines so far are some of a log
abbrev Reading : Type 0
Reading = Option (Session × ℕ)

-- ---- the reading of a further line

abbrev changed_to : Bool → Session → Reading
changed_to true next = Some (next, 0)
changed_to false next = None

abbrev by_request : Session → List ℕ → Reading
by_request session line = changed_to (changes_database session (repeated session line)) (repeated session line)

abbrev by_ground : Option OpenSession → ℕ → Reading
by_ground None left = None
by_ground (Some next) left = Some (Open next, left)

abbrev by_opening : Result LogOpening DocFault → List ℕ → Reading
by_opening (Ok opening) line = Some (Open (opened_on opening), opening.numbering.ground_slots)
by_opening (Err fault) line = by_request NotOpen line

abbrev by_line : Session → ℕ → List ℕ → Reading
by_line NotOpen left line = by_opening (log_opening_of (value_of_line line)) line
by_line (Open s) zero line = by_request (Open s) line
by_line (Open s) (suc left) line = by_ground (laid_by s line) left

abbrev behind : Reading → List ℕ → Reading
behind None line = None
behind (Some p) line = by_line p.0 p.1 line

abbrev by_lines : Reading → List (List ℕ) → Reading
by_lines reading [] = reading
by_lines reading (line ∷ lines) = by_lines (behind reading line) lines

by_lines-append : (reading : Reading) (first others : List (List ℕ)) → by_lines reading (first ++ others) ≡ by_lines (by_lines reading first) others
by_lines-append reading [] others = refl
by_lines-append reading (line ∷ first) others = by_lines-append (behind reading line) first others

by_lines-none : (lines : List (List ℕ)) → by_lines None lines ≡ None
by_lines-none [] = refl
by_lines-none (line ∷ lines) = by_lines-none lines

-- ---- lines that change the database

-- what opens a session opens no log that was made anew
opens-none : (line : List ℕ) → changes_database NotOpen (repeated NotOpen line) ≡ true → is_err (log_opening_of (value_of_line line)) ≡ true
opens-none line changes = by (is_passed_over line) refl
  where
    none : {A : Type 0} → repeated NotOpen line ≡ NotOpen → A
    none stays = let same : changes_database NotOpen NotOpen ≡ true = subst (λ s. changes_database NotOpen s ≡ true) stays changes in cc

    by_value : (r : Result Opening DocFault) → opening_of (value_of_line line) ≡ r → repeated NotOpen line ≡ (turn_by_opening r).session → is_err (log_opening_of (value_of_line line)) ≡ true
    by_value (Ok opening) is next = openings_have_no_ground (value_of_line line) opening is
    by_value (Err fault) is next = none next

    by : (b : Bool) → is_passed_over line ≡ b → is_err (log_opening_of (value_of_line line)) ≡ true
    by true passed = none (rw (passed, repeated) refl)
    by false taken =
        by_value (opening_of (value_of_line line)) refl (ap (λ (t : Turn). t.session) (read-value NotOpen line taken))

by_opening-err : (r : Result LogOpening DocFault) (line : List ℕ) → is_err r ≡ true → by_opening r line ≡ by_request NotOpen line
by_opening-err (Ok opening) line err = cc
by_opening-err (Err fault) line err = refl

by_request-changes : (session : Session) (line : List ℕ) → changes_database session (repeated session line) ≡ true → by_request session line ≡ Some (repeated session line, 0)
by_request-changes session line changes = ap (λ b. changed_to b (repeated session line)) changes

by_line-changes : (session : Session) (line : List ℕ) → changes_database session (repeated session line) ≡ true → by_line session 0 line ≡ Some (repeated session line, 0)
by_line-changes NotOpen line changes = by_opening-err (log_opening_of (value_of_line line)) line (opens-none line changes) ∙ by_request-changes NotOpen line changes
by_line-changes (Open s) line changes = by_request-changes (Open s) line changes

by_lines-change : (session : Session) (lines : List (List ℕ)) → AllChange session lines → by_lines (Some (session, 0)) lines ≡ Some (repeated_all session lines, 0)
by_lines-change session [] all = refl
by_lines-change session (line ∷ lines) all =
    ap (λ r. by_lines r lines) (by_line-changes session line all.0) ∙ by_lines-change (repeated session line) lines all.1

-- ---- the ground

by_lines-laid : (slots : List (List ℕ)) (session next : OpenSession) (left n : ℕ) → n ≡ length slots + left → laid_by_lines session slots ≡ Some next
    → by_lines (Some (Open session, n)) slots ≡ Some (Open next, left)
by_lines-laid [] session next left n count laid =
    let same : session ≡ next = cc laid in
    let ended : n ≡ left = omega (arith, count) in λ i. Some (Open (same i), ended i)
by_lines-laid (line ∷ slots) session next left zero count laid = absurd (omega (arith, count))
by_lines-laid (line ∷ slots) session next left (suc n) count laid = by (λ mid. by_lines-laid slots mid next left n (omega (arith, count))) (laid_by session line) laid
  where
    by : ((mid : OpenSession) → laid_by_lines mid slots ≡ Some next → by_lines (Some (Open mid, n)) slots ≡ Some (Open next, left))
        → (o : Option OpenSession) → option_and_then (λ s. laid_by_lines s slots) o ≡ Some next → by_lines (by_ground o n) slots ≡ Some (Open next, left)
    by others None rest = cc
    by others (Some mid) rest = others mid rest

begins-by : (first : List (List ℕ)) (base : Session) (left : ℕ) → BeginsLog first base left → by_lines (Some (NotOpen, 0)) first ≡ Some (base, left)
begins-by first NotOpen left begins =
    let none : Some (NotOpen, 0) ≡ Some (NotOpen, left) = ap (λ (n : ℕ). Some (NotOpen, n)) (sym begins.1) in ap (by_lines (Some (NotOpen, 0))) begins.0 ∙ none
begins-by first (Open session) left begins =
    ap (by_lines (Some (NotOpen, 0))) begins.lines_are ∙ ap (λ r. by_lines (by_opening r begins.line) begins.slots) begins.opens
    ∙ by_lines-laid begins.slots (opened_on begins.opening) session left begins.opening.numbering.ground_slots (sym begins.count) begins.laid

-- ---- one reading

reads-by : (lines : List (List ℕ)) (session : Session) (left : ℕ) → ReadsLog lines session left → by_lines (Some (NotOpen, 0)) lines ≡ Some (session, left)
reads-by lines session left p =
    ap (by_lines (Some (NotOpen, 0))) p.lines_are ∙ by_lines-append (Some (NotOpen, 0)) p.first p.others
    ∙ ap (λ r. by_lines r p.others) (begins-by p.first p.base left p.begins) ∙ others left p.ground_first ∙ ap (λ s. Some (s, left)) (sym p.session_is)
  where
    others : (n : ℕ) → (0 < n → p.others ≡ []) → by_lines (Some (p.base, n)) p.others ≡ Some (repeated_all p.base p.others, n)
    others zero none = by_lines-change p.base p.others p.all_change
    others (suc n) none =
        let no_others : p.others ≡ [] = none (omega arith) in
        ap (λ ls. by_lines (Some (p.base, suc n)) ls) no_others ∙ ap (λ ls. Some (repeated_all p.base ls, suc n)) (sym no_others)

-- a line that changes nothing isn't read
request-none : (session : Session) (line : List ℕ) → changes_database session (repeated session line) ≡ false → by_request session line ≡ None
request-none session line none = ap (λ b. changed_to b (repeated session line)) none

-- while slots of the ground are still to come, the session is open
begun-open : (session : Session) (lines : List (List ℕ)) (left : ℕ) → BeginsLog lines session (suc left) → (s : OpenSession) × (session ≡ Open s)
begun-open NotOpen lines left begins = absurd (cc begins.1)
begun-open (Open s) lines left begins = (s, refl)

left-open : (lines : List (List ℕ)) (session : Session) (left : ℕ) → ReadsLog lines session (suc left) → (s : OpenSession) × (session ≡ Open s)
left-open lines session left p =
    let base = begins-base lines session (suc left) p (p.ground_first (omega arith)) in
    begun-open session p.first left (subst (λ s. BeginsLog p.first s (suc left)) base.1 p.begins)

-- nor is one that can't be the next one of a log
no-next : (session : Session) (left : ℕ) (line : List ℕ) → IsNoNext session left line → ((n : ℕ) → left ≡ suc n → (s : OpenSession) × (session ≡ Open s)) → by_line session left line ≡ None
no-next NotOpen zero line isnt is_open = by_opening-err (log_opening_of (value_of_line line)) line (isnt.no_opening refl) ∙ request-none NotOpen line (isnt.no_change refl)
no-next (Open s) zero line isnt is_open = request-none (Open s) line (isnt.no_change refl)
no-next NotOpen (suc left) line isnt is_open = absurd (cc (is_open left refl).1)
no-next (Open s) (suc left) line isnt is_open = ap (λ o. by_ground o left) (isnt.no_ground (omega arith))

-- two readings that are the same have the same session, and as many slots left
same-parts : (s t : Session) (m n : ℕ) → ◌≡◌ {A = Reading} (Some (s, m)) (Some (t, n)) → (s ≡ t) × (m ≡ n)
same-parts s t m n is = (ap session_of is, ap left_of is)
  where
    session_of : Reading → Session
    session_of None = s
    session_of (Some r) = r.0

    left_of : Reading → ℕ
    left_of None = m
    left_of (Some r) = r.1

pub logs_are_read_in_one_way : LogsAreReadInOneWay
logs_are_read_in_one_way lines session p = (one, none)
  where
    all : by_lines (Some (NotOpen, 0)) lines ≡ Some (session, 0)
    all = reads-by lines session 0 p

    one : (other : Session) (left : ℕ) → ReadsLog lines other left → (other ≡ session) × (left ≡ 0)
    one other left q =
        same-parts other session left 0 (sym (reads-by lines other left q) ∙ all)

    none : (number : ℕ) → IsNoLine lines number → ⊥
    none number q = by q.others (sym (by_lines-append (Some (NotOpen, 0)) q.front q.others) ∙ ap (by_lines (Some (NotOpen, 0))) (sym q.lines_are) ∙ all) q.fails
      where
        front : by_lines (Some (NotOpen, 0)) q.front ≡ Some (q.session, q.left)
        front = reads-by q.front q.session q.left q.reads

        is_open : (n : ℕ) → q.left ≡ suc n → (s : OpenSession) × (q.session ≡ Open s)
        is_open n is = left-open q.front q.session n (subst (ReadsLog q.front q.session) is q.reads)

        by : (others : List (List ℕ)) → by_lines (by_lines (Some (NotOpen, 0)) q.front) others ≡ Some (session, 0) → IsNoLog q.session q.left others → ⊥
        by [] read left =
            let ended : q.left ≡ 0 = (same-parts q.session session q.left 0 (sym front ∙ read)).1 in omega (arith, ended, left)
        by (line ∷ others) read isnt =
            let stops : by_lines (by_lines (Some (NotOpen, 0)) q.front) (line ∷ others) ≡ None =
            ap (λ r. by_lines (behind r line) others) front ∙ ap (λ r. by_lines r others) (no-next q.session q.left line isnt is_open) ∙ by_lines-none others in
            let never : None ≡ Some (session, 0) = sym stops ∙ read in absurd (cc never)
