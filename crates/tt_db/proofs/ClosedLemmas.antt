-- Lists of which the items are read one after another, and the numbers of closed generations.
use Rattle.std.proofs.Common.{◌≡◌, ℕ, zero, suc, ◌+◌, ◌-◌, ◌≤◌, Bool, true, false, cond, List, [], ◌∷◌, ◌++◌, length, drop, fold, find, slice_get, Some, refl, sym, ap, subst, ◌∙◌, arith}
use Rattle.std.proofs.lemmas.List.{drop_more, length-drop}
use Rattle.std.proofs.lemmas.Option.{slice_get_within, get_or_from_slice_get}
use Rattle.tt_values.specs.RowWrites.{Slots}
use Rattle.tt_repair_laws.specs.declared.edit.Edit.{Edit}
use Rattle.tt_db.specs.declared.limits.Limits.{Limits}
use Rattle.tt_db.specs.declared.event.Event.{Event}
use Rattle.tt_db.specs.declared.event.Event.TheVariants as events
use Rattle.tt_db.specs.declared.event.Entry.{Entry}
use Rattle.tt_db.specs.State.{State, ClosedGeneration, start, next_state, edits_of, last_items, oldest_of}
use Rattle.tt_db.specs.Laws.{AreNumbered, KeepsLastGenerations}

-- from the position of an item on, a list begins with it
pub drop_at_item : {X : Type 0} (xs : List X) (i : ℕ) (x : X) → slice_get xs i ≡ Some x → drop i xs ≡ x ∷ drop (i + 1) xs
drop_at_item xs i x at = drop_more xs i x (slice_get_within xs i x at) ∙ ap (λ y. y ∷ drop (i + 1) xs) (get_or_from_slice_get xs i x x at)

-- so a search from there on finds it, or goes on behind it
find_at_item : {X : Type 0} (test : X → Bool) (xs : List X) (i : ℕ) (x : X) → slice_get xs i ≡ Some x → find test (drop i xs) ≡ cond (test x) (Some x) (find test (drop (i + 1) xs))
find_at_item test xs i x at = ap (find test) (drop_at_item xs i x at)

pub find-passes : {X : Type 0} (test : X → Bool) (xs : List X) (i : ℕ) (x : X) → slice_get xs i ≡ Some x → test x ≡ true → find test (drop i xs) ≡ Some x
find-passes test xs i x at passes = find_at_item test xs i x at ∙ ap (λ b. cond b (Some x) (find test (drop (i + 1) xs))) passes

pub find-fails : {X : Type 0} (test : X → Bool) (xs : List X) (i : ℕ) (x : X) → slice_get xs i ≡ Some x → test x ≡ false → find test (drop i xs) ≡ find test (drop (i + 1) xs)
find-fails test xs i x at fails = find_at_item test xs i x at ∙ ap (λ b. cond b (Some x) (find test (drop (i + 1) xs))) fails

-- where the current generation is closed, the numbers go on
AreNumbered-push : (number current : ℕ) (closed : List ClosedGeneration) (W : Slots) (E : List Edit) → AreNumbered number current closed
    → AreNumbered number (current + 1) (closed ++ record { number = current; slots = W; edits = E } ∷ [])
AreNumbered-push number current [] W E h = (sym h, omega arith)
AreNumbered-push number current (c ∷ closed) W E h = (h.0, AreNumbered-push (suc number) current closed W E h.1)

-- where the first ones are dropped, the others have their numbers
AreNumbered-drop : (n number current : ℕ) (closed : List ClosedGeneration) → AreNumbered number current closed → (first : ℕ) × AreNumbered first current (drop n closed)
AreNumbered-drop zero number current closed h = (number, h)
AreNumbered-drop (suc n) number current [] h = (number, h)
AreNumbered-drop (suc n) number current (c ∷ closed) h = AreNumbered-drop n (suc number) current closed h.1

-- the first number is the oldest
oldest_of-numbered : (number current : ℕ) (closed : List ClosedGeneration) → AreNumbered number current closed → number ≡ oldest_of closed current
oldest_of-numbered number current [] h = h
oldest_of-numbered number current (c ∷ closed) h = sym h.0

AreNumbered-oldest : (number current : ℕ) (closed : List ClosedGeneration) → AreNumbered number current closed → AreNumbered (oldest_of closed current) current closed
AreNumbered-oldest number current closed h = subst (λ first. AreNumbered first current closed) (oldest_of-numbered number current closed h) h

-- no more than are kept are left
length-last_items : {X : Type 0} (count : ℕ) (items : List X) → length (last_items count items) ≤ count
length-last_items count items = omega (arith, length-drop (length items - count) items)

KeepsLastGenerations-next : (limits : Limits) (S : State) (event : Event) → KeepsLastGenerations limits S → KeepsLastGenerations limits (next_state limits S event)
KeepsLastGenerations-next limits S (events.Write action) h = record { numbered = h.numbered; few = h.few }
KeepsLastGenerations-next limits S (events.Begin edits) h = record { numbered = h.numbered; few = h.few }
KeepsLastGenerations-next limits S events.Step h = record { numbered = h.numbered; few = h.few }
KeepsLastGenerations-next limits S events.Abort h = record { numbered = h.numbered; few = h.few }
KeepsLastGenerations-next limits S events.Switch h =
    let all = S.closed ++ record { number = S.generation; slots = S.slots; edits = edits_of S.phase } ∷ [] in
    let numbered = AreNumbered-push (oldest_of S.closed S.generation) S.generation S.closed S.slots (edits_of S.phase) h.numbered in
    let left = AreNumbered-drop (length all - limits.keep) (oldest_of S.closed S.generation) (S.generation + 1) all numbered in record {
      numbered = AreNumbered-oldest left.0 (S.generation + 1) (last_items limits.keep all) left.1;
      few = length-last_items limits.keep all;
    }

pub KeepsLastGenerations-after : (limits : Limits) (S : State) (history : List Entry) → KeepsLastGenerations limits S
    → KeepsLastGenerations limits (fold (λ T e. next_state limits T e.event) S history)
KeepsLastGenerations-after limits S [] h = h
KeepsLastGenerations-after limits S (e ∷ history) h = KeepsLastGenerations-after limits (next_state limits S e.event) history (KeepsLastGenerations-next limits S e.event h)

pub KeepsLastGenerations-start : (limits : Limits) → KeepsLastGenerations limits start
KeepsLastGenerations-start limits = record { numbered = refl; few = omega arith }
