-- The slots that a repair re-executed, one after another, and a page of them.
use Rattle.std.proofs.Common.{◌≡◌, ℕ, zero, suc, ◌+◌, ◌-◌, ◌<◌, ◌≤◌, nat_lt, min, true, false, cond, is_some, List, [], ◌∷◌, ◌++◌, length, take, Option, None, Some, refl, sym, ap, subst, ◌∙◌, arith, length-append}
use Rattle.std.proofs.lemmas.Bool.Decides.{nat_tests}
use Rattle.std.proofs.lemmas.List.{take_min}
use Rattle.std.proofs.Math.Seq.{take-append_seam, take-length}
use Rattle.std.specs.List.{filter_map, find, range_with_len, cons_option}
use Rattle.std.specs.Option.{option_map}
use Rattle.tt_causes.specs.Causes.{Cause}
use Rattle.tt_generations.specs.declared.cause.Cause.{Cause as ToldCause}
use Rattle.tt_generations.specs.SlotCauses.{cause_told}
use Rattle.tt_db.specs.Database.{Database}
use Rattle.tt_answers.specs.declared.answer.CauseEntry.{CauseEntry}
use Rattle.tt_commands.specs.declared.asked_repair.AskedRepair.{AskedRepair}
use Rattle.tt_commands.specs.AskedRepairs.{done_by, cause_by, next_redone_by}
use Rattle.tt_commands.specs.CauseEntries.{entry_with, cause_entry, cause_entries, is_full, first_entries, more_follow}

-- ---- the slots behind one

-- what is told of so many slots from one on, and the first of them that has a cause
abbrev entries_from : Database → AskedRepair → ℕ → ℕ → List CauseEntry
entries_from db repair first count = filter_map (cause_entry db repair) (range_with_len first count)

abbrev first_from : Database → AskedRepair → ℕ → ℕ → Option ℕ
first_from db repair first count = find (λ slot. is_some (cause_by db repair slot)) (range_with_len first count)

-- by the cause of the first one
told-from : (db : Database) (repair : AskedRepair) (first count : ℕ) (o : Option Cause) → cause_by db repair first ≡ o
    → entries_from db repair first (suc count) ≡ cons_option (option_map (entry_with first) o) (entries_from db repair (first + 1) count)
told-from db repair first count o is = ap (λ o. cons_option (option_map (entry_with first) o) (entries_from db repair (first + 1) count)) is

found-from : (db : Database) (repair : AskedRepair) (first count : ℕ) (o : Option Cause) → cause_by db repair first ≡ o
    → first_from db repair first (suc count) ≡ cond (is_some o) (Some first) (first_from db repair (first + 1) count)
found-from db repair first count o is = ap (λ o. cond (is_some o) (Some first) (first_from db repair (first + 1) count)) is

no-slot : (slot : ℕ) → ◌≡◌ {A = Option ℕ} (Some slot) None → ⊥
no-slot slot is = cc

same-slot : (a b : ℕ) → ◌≡◌ {A = Option ℕ} (Some a) (Some b) → a ≡ b
same-slot a b is = cc

same-cause : (a b : Cause) → ◌≡◌ {A = Option Cause} (Some a) (Some b) → a ≡ b
same-cause a b is = cc

no-cause : (a : Cause) → ◌≡◌ {A = Option Cause} None (Some a) → ⊥
no-cause a is = cc

none-from : (db : Database) (repair : AskedRepair) (count first : ℕ) → first_from db repair first count ≡ None → entries_from db repair first count ≡ []
none-from db repair zero first is = refl
none-from db repair (suc count) first is = by (cause_by db repair first) refl (λ e. none-from db repair count (first + 1) e)
  where
    by : (o : Option Cause) → cause_by db repair first ≡ o → (first_from db repair (first + 1) count ≡ None → entries_from db repair (first + 1) count ≡ [])
        → entries_from db repair first (suc count) ≡ []
    by None none others = told-from db repair first count None none ∙ others (sym (found-from db repair first count None none) ∙ is)
    by (Some c) there others = absurd (no-slot first (sym (found-from db repair first count (Some c) there) ∙ is))

-- a slot is the first one that is told, of so many from one on
record IsFirst (db : Database) (repair : AskedRepair) (first count slot : ℕ) : Type 0 where
  from : first ≤ slot
  within : slot < first + count
  cause : Cause
  is : cause_by db repair slot ≡ Some cause
  entries : entries_from db repair first count ≡ entry_with slot cause ∷ entries_from db repair (slot + 1) (first + count - (slot + 1))

some-from : (db : Database) (repair : AskedRepair) (count first slot : ℕ) → first_from db repair first count ≡ Some slot → IsFirst db repair first count slot
some-from db repair zero first slot is = absurd (no-slot slot (sym is))
some-from db repair (suc count) first slot is = by (cause_by db repair first) refl (λ e. some-from db repair count (first + 1) slot e)
  where
    by : (o : Option Cause) → cause_by db repair first ≡ o → (first_from db repair (first + 1) count ≡ Some slot → IsFirst db repair (first + 1) count slot)
        → IsFirst db repair first (suc count) slot
    by None none behind =
        let others = behind (sym (found-from db repair first count None none) ∙ is) in
        let all : first + 1 + count - (slot + 1) ≡ first + suc count - (slot + 1) = omega arith in
        record {
          from = omega (arith, others.from);
          within = omega (arith, others.within);
          cause = others.cause;
          is = others.is;
          entries = told-from db repair first count None none ∙ others.entries ∙ ap (λ n. entry_with slot others.cause ∷ entries_from db repair (slot + 1) n) all;
        }
    by (Some c) there behind =
        let same : first ≡ slot = same-slot first slot (sym (found-from db repair first count (Some c) there) ∙ is) in
        let all : count ≡ first + suc count - (first + 1) = omega arith in
        subst (λ (t : ℕ). IsFirst db repair first (suc count) t) same (record {
          from = omega arith;
          within = omega arith;
          cause = c;
          is = there;
          entries = told-from db repair first count (Some c) there ∙ ap (λ n. entry_with first c ∷ entries_from db repair (first + 1) n) all;
        })

-- none is told, where none behind one was re-executed
pub redone-none : (db : Database) (repair : AskedRepair) (before : ℕ) → next_redone_by db repair before ≡ None → cause_entries db repair before ≡ []
redone-none db repair before is = none-from db repair (done_by db repair - before) (before + 1) is

-- the next slot that was re-executed is told next
pub record IsNext (db : Database) (repair : AskedRepair) (before slot : ℕ) : Type 0 where
  pub behind : before < slot
  pub done : slot ≤ done_by db repair
  pub cause : Cause
  pub is : cause_by db repair slot ≡ Some cause
  pub entries : cause_entries db repair before ≡ entry_with slot cause ∷ cause_entries db repair slot

pub redone-some : (db : Database) (repair : AskedRepair) (before slot : ℕ) → next_redone_by db repair before ≡ Some slot → IsNext db repair before slot
redone-some db repair before slot is =
    let next = some-from db repair (done_by db repair - before) (before + 1) slot is in
    let left : before + 1 + (done_by db repair - before) - (slot + 1) ≡ done_by db repair - slot = omega (arith, next.from, next.within) in
    record {
      behind = omega (arith, next.from);
      done = omega (arith, next.from, next.within);
      cause = next.cause;
      is = next.is;
      entries = next.entries ∙ ap (λ n. entry_with slot next.cause ∷ entries_from db repair (slot + 1) n) left;
    }

-- its cause is lent
pub redone-lent : (db : Database) (repair : AskedRepair) (before slot : ℕ) (lent : Option ToldCause) → next_redone_by db repair before ≡ Some slot
    → option_map cause_told lent ≡ cause_by db repair slot → lent ≡ None → ⊥
redone-lent db repair before slot lent next right is =
    let told = redone-some db repair before slot next in
    no-cause told.cause (sym (ap (option_map cause_told) is) ∙ right ∙ told.is)

pub redone-told : (db : Database) (repair : AskedRepair) (before slot : ℕ) (lent : Option ToldCause) (c : ToldCause) → next_redone_by db repair before ≡ Some slot
    → option_map cause_told lent ≡ cause_by db repair slot → lent ≡ Some c
    → cause_entries db repair before ≡ entry_with slot (cause_told c) ∷ cause_entries db repair slot
redone-told db repair before slot lent c next right is =
    let told = redone-some db repair before slot next in
    let same : told.cause ≡ cause_told c = same-cause told.cause (cause_told c) (sym told.is ∙ sym right ∙ ap (option_map cause_told) is) in
    told.entries ∙ ap (λ cause. entry_with slot cause ∷ cause_entries db repair slot) same

-- ---- a page

-- so many entries aren't more than are asked for
abbrev pub HasRoom : Option ℕ → ℕ → Type 0
HasRoom None count = Unit {0}
HasRoom (Some most) count = count ≤ most

pub room-at-first : (most : Option ℕ) → HasRoom most 0
room-at-first None = tt
room-at-first (Some most) = omega arith

-- a page that isn't full has room for one more
pub room-more : (most : Option ℕ) (count next : ℕ) → HasRoom most count → is_full most count ≡ false → next ≡ count + 1 → HasRoom most next
room-more None count next room free is = tt
room-more (Some most) count next room free is = grind (arith, nat_tests, room, free, is)

-- a full page, behind which an entry follows
pub full-page : {X : Type 0} (most : Option ℕ) (entries rest whole : List X) (e : X) → is_full most (length entries) ≡ true → entries ++ e ∷ rest ≡ whole
    → (entries ≡ first_entries most whole) × (true ≡ more_follow most whole)
full-page None entries rest whole e full is = cc
full-page (Some most) entries rest whole e full is =
    let count : most ≡ length entries = grind (arith, nat_tests, full) in
    let long : length entries < length whole = omega (arith, ap length (sym is), length-append entries (e ∷ rest)) in
    let more : nat_lt (length entries) (length whole) ≡ true = grind (arith, nat_tests, long) in
    (sym (take-append_seam entries (e ∷ rest)) ∙ (λ i. take (sym count i) (is i)), sym more ∙ ap (λ n. nat_lt n (length whole)) (sym count))

-- a page with all entries
pub whole-page : {X : Type 0} (most : Option ℕ) (entries whole : List X) → HasRoom most (length entries) → entries ≡ whole
    → (entries ≡ first_entries most whole) × (false ≡ more_follow most whole)
whole-page None entries whole room is = (is, refl)
whole-page (Some most) entries whole room is =
    let few : length whole ≤ most = omega (arith, room, ap length is) in
    let all : min most (length whole) ≡ length whole = omega (arith, few) in
    let none : nat_lt most (length whole) ≡ false = grind (arith, nat_tests, few) in
    (is ∙ sym (sym (take_min most whole) ∙ ap (λ n. take n whole) all ∙ take-length whole), sym none)
