-- The closed generations that are kept, one after another, and their lines.
use Rattle.std.proofs.Common.{◌≡◌, ℕ, zero, suc, ◌+◌, ◌-◌, ◌<◌, ◌≤◌, ◌==◌, nat_lt, Bool, true, false, if◌then◌else◌, List, [], ◌∷◌, ◌++◌, length, drop, find, slice_get, Option, Some, None, Result, Ok, Err, refl, sym, ap, subst, ◌∙◌, arith, append_assoc}
use Rattle.std.proofs.lemmas.Bool.Decides.{nat_tests}
use Rattle.std.specs.Option.{option_map}
use Rattle.tt_values.specs.declared.statement.Select.{Select}
use Rattle.tt_values.specs.declared.reply.Reply.{Reply}
use Rattle.tt_values.specs.declared.table.TableDef.{TableDef}
use Rattle.tt_values.specs.Tables.{Tables}
use Rattle.tt_values.specs.Check.{select_fault}
use Rattle.tt_values.specs.Effect.{answer_of}
use Rattle.tt_values.specs.RowWrites.{Slots, content_of}
use Rattle.tt_db.specs.declared.limits.Limits.{Limits}
use Rattle.tt_db.specs.declared.errors.ReadError.{ReadError}
use Rattle.tt_db.specs.declared.errors.ReadError.TheVariants as errors
use Rattle.tt_db.specs.State.{State, ClosedGeneration, oldest_of, slots_in}
use Rattle.tt_db.specs.RightAnswers.{right_select_in, Answers}
use Rattle.tt_db.specs.Laws.{AreNumbered, KeepsLastGenerations}
use Rattle.tt_workload.specs.Report.{slots_or_none, closed_table_line, closed_table_lines, closed_lines}
use Rattle.tt_workload.proofs.ReportLemmas.{drop-at}

test-true : (a b : ℕ) → a ≡ b → (a == b) ≡ true
test-true a b h = grind (arith, nat_tests, h)

test-false : (a b : ℕ) → a < b → (a == b) ≡ false
test-false a b h = grind (arith, nat_tests, h)

-- the generation at a position has its number
record IsNumberedAt (closed : List ClosedGeneration) (i number : ℕ) : Type 0 where
  generation : ClosedGeneration
  at : slice_get closed i ≡ Some generation
  number_is : generation.number ≡ number

numbered-at : (first current : ℕ) (closed : List ClosedGeneration) (i : ℕ) → AreNumbered first current closed → first + i < current → IsNumberedAt closed i (first + i)
numbered-at first current [] i h below = absurd (omega (arith, h, below))
numbered-at first current (c ∷ closed) zero h below = record { generation = c; at = refl; number_is = h.0 ∙ omega arith }
numbered-at first current (c ∷ closed) (suc i) h below =
    let rest = numbered-at (suc first) current closed i h.1 (omega (arith, below)) in
    record { generation = rest.generation; at = rest.at; number_is = rest.number_is ∙ omega arith }

-- and a search for its number finds it
found-at : (first current : ℕ) (closed : List ClosedGeneration) (i : ℕ) (c : ClosedGeneration) → AreNumbered first current closed → slice_get closed i ≡ Some c
    → find (λ d. d.number == (first + i)) closed ≡ Some c
found-at first current [] i c h at = cc
found-at first current (d ∷ closed) zero c h at =
    let same : d ≡ c = cc in
    rw (test-true d.number (first + 0) (h.0 ∙ omega arith)) (ap Some same)
found-at first current (d ∷ closed) (suc i) c h at =
    let next : suc first + i ≡ first + suc i = omega arith in
    rw (test-false d.number (first + suc i) (omega (arith, h.0)))
    (subst (λ n. find (λ e. e.number == n) closed ≡ Some c) next (found-at (suc first) current closed i c h.1 at))

-- as many as there are numbers
numbered-length : (first current : ℕ) (closed : List ClosedGeneration) → AreNumbered first current closed → first + length closed ≡ current
numbered-length first current [] h = omega (arith, h)
numbered-length first current (c ∷ closed) h = omega (arith, numbered-length (suc first) current closed h.1)

drop-all : {X : Type 0} (xs : List X) (n : ℕ) → length xs ≤ n → drop n xs ≡ []
drop-all [] zero h = refl
drop-all [] (suc n) h = refl
drop-all (x ∷ xs) zero h = absurd (omega (arith, h))
drop-all (x ∷ xs) (suc n) h = drop-all xs n (omega (arith, h))

-- the closed generation of a number is kept
record IsKept (S : State) (number : ℕ) : Type 0 where
  generation : ClosedGeneration
  at : slice_get S.closed (number - oldest_of S.closed S.generation) ≡ Some generation
  number_is : generation.number ≡ number
  slots : slots_in S number ≡ Some generation.slots

kept-at : (limits : Limits) (S : State) (number : ℕ) → KeepsLastGenerations limits S → oldest_of S.closed S.generation ≤ number → number < S.generation → IsKept S number
kept-at limits S number kept least below =
    let first = oldest_of S.closed S.generation in
    let sum : first + (number - first) ≡ number = omega (arith, least) in
    let is = numbered-at first S.generation S.closed (number - first) kept.numbered (omega (arith, sum, below)) in
    let found = subst (λ n. find (λ d. d.number == n) S.closed ≡ Some is.generation) sum (found-at first S.generation S.closed (number - first) is.generation kept.numbered is.at) in
    record {
      generation = is.generation;
      at = is.at;
      number_is = is.number_is ∙ sum;
      slots = rw (test-false number S.generation below) (ap (option_map (λ c. c.slots)) found);
    }

-- so it can be read
pub kept-slots : (limits : Limits) (S : State) (number : ℕ) → KeepsLastGenerations limits S → oldest_of S.closed S.generation ≤ number → number < S.generation
    → (W : Slots) × (slots_in S number ≡ Some W)
kept-slots limits S number kept least below = let is = kept-at limits S number kept least below in (is.generation.slots, is.slots)

pub oldest-most : (limits : Limits) (S : State) → KeepsLastGenerations limits S → oldest_of S.closed S.generation ≤ S.generation
oldest-most limits S kept = omega (arith, numbered-length (oldest_of S.closed S.generation) S.generation S.closed kept.numbered)

-- the lines of the next generation, and those after it
pub closed_lines-next : (json : Bool) (limits : Limits) (S : State) (tables : Tables) (number : ℕ) (out all new : List ℕ) → KeepsLastGenerations limits S
    → oldest_of S.closed S.generation ≤ number → number < S.generation
    → out ++ closed_lines json tables (drop (number - oldest_of S.closed S.generation) S.closed) ≡ all
    → new ≡ out ++ closed_table_lines json number (slots_or_none (slots_in S number)) 0 tables
    → new ++ closed_lines json tables (drop (number + 1 - oldest_of S.closed S.generation) S.closed) ≡ all
closed_lines-next json limits S tables number out all new kept least below h text =
    let first = oldest_of S.closed S.generation in
    let is = kept-at limits S number kept least below in
    let c = is.generation in
    let next : number + 1 - first ≡ suc (number - first) = omega (arith, least) in
    let lines : new ≡ out ++ closed_table_lines json c.number c.slots 0 tables =
    text ∙ ap (λ o. out ++ closed_table_lines json number (slots_or_none o) 0 tables) is.slots ∙ ap (λ n. out ++ closed_table_lines json n c.slots 0 tables) (sym is.number_is) in
    ap (λ o. o ++ closed_lines json tables (drop (number + 1 - first) S.closed)) lines
    ∙ append_assoc out (closed_table_lines json c.number c.slots 0 tables) (closed_lines json tables (drop (number + 1 - first) S.closed))
    ∙ ap (λ j. out ++ (closed_table_lines json c.number c.slots 0 tables ++ closed_lines json tables (drop j S.closed))) next
    ∙ ap (λ cs. out ++ closed_lines json tables cs) (sym (drop-at S.closed (number - first) c is.at))
    ∙ h

-- none is left behind the last
pub closed_lines-end : (json : Bool) (limits : Limits) (S : State) (tables : Tables) (number : ℕ) → KeepsLastGenerations limits S → S.generation ≤ number
    → closed_lines json tables (drop (number - oldest_of S.closed S.generation) S.closed) ≡ []
closed_lines-end json limits S tables number kept most =
    let first = oldest_of S.closed S.generation in
    ap (closed_lines json tables) (drop-all S.closed (number - first) (omega (arith, most, numbered-length first S.generation S.closed kept.numbered)))

-- the next table's line, and those after it
pub closed_table_lines-named : (json : Bool) (number : ℕ) (W : Slots) (tables : Tables) (i : ℕ) (name out all new : List ℕ) → Some name ≡ option_map (λ t. t.0) (slice_get tables i)
    → out ++ closed_table_lines json number W i (drop i tables) ≡ all → new ≡ out ++ closed_table_line json number W i name → new ++ closed_table_lines json number W (i + 1) (drop (i + 1) tables) ≡ all
closed_table_lines-named json number W tables i name out all new there h text = by (slice_get tables i) refl there
  where
    by : (o : Option (List ℕ × TableDef)) → slice_get tables i ≡ o → Some name ≡ option_map (λ t. t.0) o → new ++ closed_table_lines json number W (i + 1) (drop (i + 1) tables) ≡ all
    by None e g = cc
    by (Some t) e g =
        let same : name ≡ t.0 = cc in
        let next : i + 1 ≡ suc i = omega arith in
        let line = closed_table_line json number W i t.0 in
        ap (λ ls. ls ++ closed_table_lines json number W (i + 1) (drop (i + 1) tables)) (text ∙ ap (λ n. out ++ closed_table_line json number W i n) same)
        ∙ append_assoc out line (closed_table_lines json number W (i + 1) (drop (i + 1) tables))
        ∙ ap (λ j. out ++ (line ++ closed_table_lines json number W (i + 1) (drop j tables))) next
        ∙ ap (λ ts. out ++ closed_table_lines json number W i ts) (sym (drop-at tables i t e))
        ∙ h

-- ---- the rows of a generation at its last time

not_later : (now time : ℕ) → now ≡ time → nat_lt now time ≡ false
not_later now time h = grind (arith, nat_tests, h)

pub answer-at_last : (tables : Tables) (S : State) (number : ℕ) (q : Select) (time : ℕ) → select_fault tables q ≡ None → option_map length (slots_in S number) ≡ Some time
    → right_select_in tables S number q time ≡ Ok (answer_of q (content_of (slots_or_none (slots_in S number)) time))
answer-at_last tables S number q time accepted last = by (slots_in S number) refl last
  where
    by : (o : Option Slots) → slots_in S number ≡ o → option_map length o ≡ Some time
        → right_select_in tables S number q time ≡ Ok (answer_of q (content_of (slots_or_none (slots_in S number)) time))
    by None e g = cc
    by (Some W) e g = let same : length W ≡ time = cc in rw (accepted, e, not_later (length W) time same) refl

-- a read that has an answer fails only where memory runs out
pub only-memory : (right : Result Reply ReadError) (reply : Reply) (e : ReadError) → right ≡ Ok reply → Answers right (Err e) → e ≡ errors.Memory
only-memory right reply (errors.Statement fault) is h = cc
only-memory right reply errors.NoReading is h = cc
only-memory right reply errors.NotRepairing is h = cc
only-memory right reply (errors.NoGeneration oldest newest) is h = cc
only-memory right reply (errors.Later now) is h = cc
only-memory right reply errors.Memory is h = refl
