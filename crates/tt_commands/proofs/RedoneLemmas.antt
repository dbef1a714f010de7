-- The next slot that a repair re-executed is the first one behind a number that has a cause.
use Rattle.std.proofs.Common.{◌≡◌, ℕ, zero, suc, ◌+◌, ◌-◌, ◌<◌, ◌≤◌, ◌==◌, nat_lt, Bool, true, false, cond, [], length, is_some, Option, None, Some, refl, sym, ap, ◌∙◌, arith}
use Rattle.std.proofs.lemmas.Bool.Decides.{nat_tests}
use Rattle.std.specs.List.{find, range_with_len}
use Rattle.std.specs.Option.{option_map, option_and_then, unwrap_or}
use Rattle.tt_values.specs.Tables.{Tables}
use Rattle.tt_values.specs.RowWrites.{Slots}
use Rattle.tt_generations.specs.SlotCauses.{cause_at, next_redone_at}
use Rattle.tt_generations.specs.TwoGenerations.{Phase, Idle, Repairing, done_of, IsWithin}
use Rattle.tt_db.specs.State.{ClosedGeneration}
use Rattle.tt_db.specs.Database.{Database, state_of, current_slots}
use Rattle.tt_db.specs.Causes.{cause_of, cause_of_closed, next_redone_of, next_redone_of_closed, next_redone_in_of}
use Rattle.tt_commands.specs.declared.asked_repair.AskedRepair.TheVariants.{UnderWay, Closing}
use Rattle.tt_commands.specs.AskedRepairs.{next_redone_by}

-- ---- the repair under way

-- the first slot behind a number, of so many, that has a cause
abbrev first_at : Tables → Phase → Slots → ℕ → ℕ → Option ℕ
first_at tables phase W number count = find (λ t. is_some (cause_at tables phase W t)) (range_with_len (number + 1) count)

redone-at : (tables : Tables) (phase : Phase) (W : Slots) (number : ℕ) → next_redone_at tables phase W number ≡ first_at tables phase W number (done_of phase - number)
redone-at tables Idle W number = let none : 0 ≡ 0 - number = omega arith in ap (first_at tables Idle W number) none
redone-at tables (Repairing edits n) W number = refl

pub redone-under_way : (db : Database) (number : ℕ) → next_redone_of db number ≡ next_redone_by db UnderWay number
redone-under_way db number = redone-at db.catalog (state_of db).phase (current_slots db) number

-- ---- slots that aren't done have no cause

find-none : (p : ℕ → Bool) (n a : ℕ) → ((t : ℕ) → a ≤ t → p t ≡ false) → find p (range_with_len a n) ≡ None
find-none p zero a none = refl
find-none p (suc n) a none =
    ap (λ b. cond b (Some a) (find p (range_with_len (a + 1) n))) (none a (omega arith)) ∙ find-none p n (a + 1) (λ t le. none t (omega (arith, le)))

find-longer : (p : ℕ → Bool) (n k a : ℕ) → ((t : ℕ) → a + n ≤ t → p t ≡ false) → find p (range_with_len a n) ≡ find p (range_with_len a (n + k))
find-longer p zero k a none = sym (find-none p (0 + k) a (λ t le. none t (omega (arith, le))))
find-longer p (suc n) k a none = by (p a) (find-longer p n k (a + 1) (λ t le. none t (omega (arith, le)))) ∙ ap (λ m. find p (range_with_len a m)) more
  where
    more : suc (n + k) ≡ suc n + k
    more = omega arith

    by : (b : Bool) → find p (range_with_len (a + 1) n) ≡ find p (range_with_len (a + 1) (n + k)) → cond b (Some a) (find p (range_with_len (a + 1) n)) ≡ cond b (Some a) (find p (range_with_len (a + 1) (n + k)))
    by true rest = refl
    by false rest = rest

undone : (tables : Tables) (phase : Phase) (W : Slots) (t : ℕ) → done_of phase < t → is_some (cause_at tables phase W t) ≡ false
undone tables Idle W t past = refl
undone tables (Repairing edits n) W zero past = refl
undone tables (Repairing edits n) W (suc i) past = let test : nat_lt i n ≡ false = grind (arith, nat_tests, past) in rw test refl

within-slots : (phase : Phase) (W : Slots) → IsWithin phase W → done_of phase ≤ length W
within-slots Idle W within = omega arith
within-slots (Repairing edits n) W within = within

all-at : (tables : Tables) (phase : Phase) (W : Slots) (number : ℕ) → IsWithin phase W → next_redone_at tables phase W number ≡ first_at tables phase W number (length W - number)
all-at tables phase W number within =
    let few = within-slots phase W within in
    let done : ℕ = done_of phase - number in
    let further : ℕ = length W - number - done in
    let all : done + further ≡ length W - number = omega (arith, few) in
    redone-at tables phase W number
    ∙ find-longer (λ t. is_some (cause_at tables phase W t)) done further (number + 1) (λ t le. undone tables phase W t (omega (arith, le)))
    ∙ ap (first_at tables phase W number) all

-- ---- the repair that closed a generation

closed-redone : (db : Database) (number : ℕ) (current : Bool) (o : Option ClosedGeneration) → IsWithin (state_of db).phase (state_of db).slots
    → cond current (next_redone_of db number) (option_and_then (λ c. next_redone_of_closed db.catalog c number) o)
    ≡ find (λ t. is_some (cond current (cause_of db t) (option_and_then (λ c. cause_of_closed db.catalog c t) o)))
    (range_with_len (number + 1) (length (unwrap_or (cond current (Some (state_of db).slots) (option_map (λ c. c.slots) o)) []) - number))
closed-redone db number true o within = all-at db.catalog (state_of db).phase (current_slots db) number within
closed-redone db number false None within =
    let none : 0 ≡ 0 - number = omega arith in
    ap (λ n. find (λ t. false) (range_with_len (number + 1) n)) none
closed-redone db number false (Some c) within = refl

pub redone-closing : (db : Database) (generation number : ℕ) → IsWithin (state_of db).phase (state_of db).slots
    → next_redone_in_of db generation number ≡ next_redone_by db (Closing generation) number
redone-closing db generation number within =
    closed-redone db number (generation == (state_of db).generation) (find (λ c. c.number == generation) (state_of db).closed) within
