-- What is told of a repair just before its switch, and after it.
use Rattle.std.proofs.Common.{◌≡◌, ℕ, zero, suc, ◌+◌, ◌-◌, ◌<◌, ◌≤◌, ◌==◌, Bool, true, false, List, [], ◌∷◌, ◌++◌, length, drop, find, Option, None, Some, Ok, if◌then◌else◌, refl, sym, ap, ◌∙◌, arith}
use Rattle.std.proofs.lemmas.Bool.Decides.{nat_tests}
use Rattle.std.proofs.lemmas.List.{length-append}
use Rattle.std.specs.Option.{option_and_then}
use Rattle.tt_values.specs.RowWrites.{Slots}
use Rattle.tt_repair_laws.specs.declared.edit.Edit.{Edit}
use Rattle.tt_causes.specs.Causes.{Cause}
use Rattle.tt_generations.specs.TwoGenerations.{Phase, Repairing}
use Rattle.tt_generations.specs.SlotCauses.{cause_at}
use Rattle.tt_generations.specs.RowChanges.{differences_in}
use Rattle.tt_db.specs.declared.event.Event.TheVariants as events
use Rattle.tt_db.specs.State.{State, ClosedGeneration, start, edits_of, with_closed, next_state, oldest_of}
use Rattle.tt_db.specs.Database.{Database, state_of}
use Rattle.tt_db.specs.Causes.{cause_of, cause_of_closed, cause_in_of}
use Rattle.tt_db.specs.Differences.{unless_no_table, unless_none_under_way, right_diff, right_diff_in, diff_of_closed}
use Rattle.tt_db.specs.Laws.{AreNumbered, HasDoneAll, switched}
use Rattle.tt_db.proofs.EntryLemmas.{after-push}
use Rattle.tt_db.proofs.ClosedLemmas.{KeepsLastGenerations-after, KeepsLastGenerations-start}

-- generations that are numbered up to one begin with no greater number
numbered-upto : (first current : ℕ) (closed : List ClosedGeneration) → AreNumbered first current closed → first ≤ current
numbered-upto first current [] h = omega (arith, h)
numbered-upto first current (d ∷ closed) h = omega (arith, numbered-upto (suc first) current closed h.1)

-- behind them this one is found
found-behind : (first : ℕ) (c : ClosedGeneration) (closed : List ClosedGeneration) → AreNumbered first c.number closed
    → find (λ (d : ClosedGeneration). d.number == c.number) (closed ++ c ∷ []) ≡ Some c
found-behind first c [] h = by (c.number == c.number) (grind (arith, nat_tests))
  where
    by : (b : Bool) → b ≡ true → (if b then Some c else None) ≡ Some c
    by true is = refl
    by false is = cc
found-behind first c (d ∷ closed) h = by (d.number == c.number) fails (found-behind (suc first) c closed h.1)
  where
    found : Option ClosedGeneration
    found = find (λ (e : ClosedGeneration). e.number == c.number) (closed ++ c ∷ [])

    less : d.number < c.number
    less = omega (arith, h.0, numbered-upto (suc first) c.number closed h.1)

    fails : (d.number == c.number) ≡ false
    fails = grind (arith, nat_tests, less)

    by : (b : Bool) → b ≡ false → found ≡ Some c → (if b then Some d else found) ≡ Some c
    by true is rest = cc
    by false is rest = rest

-- also where the first ones are dropped
found-last : (n first : ℕ) (c : ClosedGeneration) (closed : List ClosedGeneration) → AreNumbered first c.number closed → n ≤ length closed
    → find (λ (d : ClosedGeneration). d.number == c.number) (drop n (closed ++ c ∷ [])) ≡ Some c
found-last zero first c closed h few = found-behind first c closed h
found-last (suc n) first c [] h few = absurd (omega (arith, few))
found-last (suc n) first c (d ∷ closed) h few = found-last n (suc first) c closed h.1 (omega (arith, few))

-- the generation that a switch closes, with the edits of the repair
abbrev closed_now : State → ClosedGeneration
closed_now S = record { number = S.generation; slots = S.slots; edits = edits_of S.phase }

-- where closed generations are kept, it is among them
found-closed : (keep first : ℕ) (S : State) → 0 < keep → AreNumbered first S.generation S.closed
    → find (λ (d : ClosedGeneration). d.number == S.generation) (with_closed keep S.closed (closed_now S)) ≡ Some (closed_now S)
found-closed keep first S some h =
    found-last (length (S.closed ++ closed_now S ∷ []) - keep) first (closed_now S) S.closed h (omega (arith, some, length-append S.closed (closed_now S ∷ [])))

-- and so it is in the database after the switch
closed-found : (db : Database) (worker : ℕ) → 0 < db.limits.keep
    → find (λ (d : ClosedGeneration). d.number == (state_of db).generation) (next_state db.limits (state_of db) events.Switch).closed ≡ Some (closed_now (state_of db))
closed-found db worker some =
    found-closed db.limits.keep (oldest_of (state_of db).closed (state_of db).generation) (state_of db) some
    (KeepsLastGenerations-after db.limits start db.history (KeepsLastGenerations-start db.limits)).numbered

-- a repair that has done all slots, by its own edits
as_done : (p : Phase) (W : Slots) (E : List Edit) → p ≡ Repairing E (length W) → p ≡ Repairing (edits_of p) (length W)
as_done p W E is = is ∙ ap (λ (q : Phase). Repairing (edits_of q) (length W)) (sym is)

-- what is told of a repair that has done all slots is told of the generation that its switch closes
pub causes-kept : (db : Database) (worker number : ℕ) → 0 < db.limits.keep → HasDoneAll db
    → cause_in_of (switched db worker) (state_of db).generation number ≡ cause_of db number
causes-kept db worker number some all =
    ap told (after-push db.limits db.history (record { worker = worker; event = events.Switch }))
    ∙ by (g == g + 1) fails _ _
    ∙ ap (option_and_then (λ (c : ClosedGeneration). cause_of_closed db.catalog c number)) (closed-found db worker some)
    ∙ ap (λ (p : Phase). cause_at db.catalog p (state_of db).slots number) (sym (as_done (state_of db).phase (state_of db).slots all.0 all.1))
  where
    g : ℕ
    g = (state_of db).generation

    told : State → Option Cause
    told T = if g == T.generation then cause_at db.catalog T.phase T.slots number
        else option_and_then (λ (c : ClosedGeneration). cause_of_closed db.catalog c number) (find (λ (c : ClosedGeneration). c.number == g) T.closed)

    fails : (g == g + 1) ≡ false
    fails = grind (arith, nat_tests)

    by : (b : Bool) → b ≡ false → (x y : Option Cause) → (if b then x else y) ≡ y
    by true is x y = cc
    by false is x y = refl

pub differences-kept : (db : Database) (worker table : ℕ) → 0 < db.limits.keep → HasDoneAll db
    → right_diff_in (switched db worker) (state_of db).generation table ≡ right_diff db table
differences-kept db worker table some all =
    ap (unless_no_table db.catalog table)
    (ap (λ (found : Option ClosedGeneration). diff_of_closed (switched db worker) found table)
    (ap (λ (T : State). find (λ (c : ClosedGeneration). c.number == (state_of db).generation) T.closed) (after-push db.limits db.history (record { worker = worker; event = events.Switch }))
    ∙ closed-found db worker some)
    ∙ sym (ap (λ (p : Phase). unless_none_under_way p (Ok (differences_in p (state_of db).slots table))) (as_done (state_of db).phase (state_of db).slots all.0 all.1)))
