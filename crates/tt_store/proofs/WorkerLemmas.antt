-- Workers: what they have seen grows, and their places stay among those of their entries.
use Rattle.std.proofs.Common.{◌≡◌, ℕ, ◌+◌, ◌==◌, Bool, true, false, if◌then◌else◌, List, [], ◌∷◌, ◌++◌, length, refl, sym, ap, subst, ◌∙◌, inl, inr, ⊎_elim, arith}
use mathlib.Core.List.{IsPrefix}
use Rattle.tt_db.specs.declared.event.Entry.{Entry}
use Rattle.tt_store.specs.History.{places_from, places_of}
use Rattle.tt_store.specs.Workers.{WorkerState, Looks, IsAmong}
use Rattle.tt_store.specs.Own.{entries_at}
use Rattle.tt_store.proofs.Prefixes.{prefix_trans}
use Rattle.tt_store.proofs.OwnLemmas.{entries_stay}

pub looks_trans : (a b c : WorkerState) → Looks a b → Looks b c → Looks a c
looks_trans a b c p q = record {
  number = q.number ∙ p.number;
  seen = prefix_trans a.seen b.seen c.seen p.seen q.seen;
  own = q.own ∙ p.own;
  entries = q.entries ∙ p.entries;
}

places_or_not : (b : Bool) (place : ℕ) (all first rest : List ℕ) → all ≡ first ++ rest → (if b then place ∷ all else all) ≡ (if b then place ∷ first else first) ++ rest
places_or_not true place all first rest h = ap (λ w. place ∷ w) h
places_or_not false place all first rest h = h

-- the places of a longer list begin with those of its beginning
pub places_from-append : (place worker : ℕ) (xs ys : List Entry) → places_from place worker (xs ++ ys) ≡ places_from place worker xs ++ places_from (place + length xs) worker ys
places_from-append place worker [] ys = ap (λ n. places_from n worker ys) (let same : place ≡ place + 0 = omega arith in same)
places_from-append place worker (x ∷ xs) ys =
    places_or_not (x.worker == worker) place _ _ _
    (places_from-append (place + 1) worker xs ys ∙ ap (λ n. places_from (place + 1) worker xs ++ places_from n worker ys) (let same : place + 1 + length xs ≡ place + length (x ∷ xs) = omega arith in same))

pub among_append : (xs ys zs : List ℕ) → IsAmong xs ys → IsAmong xs (ys ++ zs)
among_append [] ys zs h = tt
among_append (x ∷ xs) [] zs h = absurd h
among_append (x ∷ xs) (y ∷ ys) zs h =
    ⊎_elim (λ (t : (x ≡ y) × IsAmong xs ys). inl (t.0, among_append xs ys zs t.1)) (λ (t : IsAmong (x ∷ xs) ys). inr (among_append (x ∷ xs) ys zs t)) h

-- a worker that sees a longer front makes nothing
pub looks_further : (w : WorkerState) (longer : List Entry) → IsPrefix w.seen longer → IsAmong w.own (places_of w.number w.seen) → Looks w (record w { seen = longer })
looks_further w longer p h = record {
  number = refl;
  seen = p;
  own = refl;
  entries = ap (λ front. entries_at front w.own) (sym p.1) ∙ entries_stay w.own w.number w.seen p.0 h;
}

-- places stay among those of a worker's entries in a longer front
pub among_longer : (own : List ℕ) (number : ℕ) (front longer : List Entry) → IsPrefix front longer → IsAmong own (places_of number front) → IsAmong own (places_of number longer)
among_longer own number front longer p h =
    subst (IsAmong own) (sym (places_from-append 1 number front p.0) ∙ ap (places_of number) p.1) (among_append own (places_of number front) (places_from (1 + length front) number p.0) h)
