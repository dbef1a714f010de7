-- The workers of the slots: the t-th one is that of the entry at the place of slot t.
use Rattle.std.proofs.Common.{◌≡◌, ℕ, zero, suc, ◌-◌, ◌≤◌, Bool, true, false, List, [], ◌∷◌, length, slice_get, Option, None, Some, option_map, if◌then◌else◌, refl, sym, ap, ◌∙◌, arith}
use Rattle.std.specs.List.{cons_option}
use Rattle.tt_db.specs.declared.event.Entry.{Entry}
use Rattle.tt_db.specs.Database.{nth_item}
use Rattle.tt_db.specs.History.{is_write, write_places}
use Rattle.tt_horizon.specs.Forgetting.{workers_of}

pub length-workers_of : (place : ℕ) (H : List Entry) → length (workers_of H) ≡ length (write_places place H)
length-workers_of place [] = refl
length-workers_of place (e ∷ H) = by (is_write e.event) (length-workers_of (suc place) H)
  where
    by : (b : Bool) → length (workers_of H) ≡ length (write_places (suc place) H)
        → length (cons_option (if b then Some e.worker else None) (workers_of H)) ≡ length (if b then place ∷ write_places (suc place) H else write_places (suc place) H)
    by true rest = ap (λ n. suc n) rest
    by false rest = rest

-- a place is at or behind that of the first entry, and the entry there is of this worker
record IsPlaceOf (H : List Entry) (first n place : ℕ) : Type 0 where
  behind : first ≤ place
  worker : option_map (λ e. e.worker) (slice_get H (place - first)) ≡ slice_get (workers_of H) n

worker-at : (H : List Entry) (first n place : ℕ) → slice_get (write_places first H) n ≡ Some place → IsPlaceOf H first n place
worker-at [] first n place at = cc
worker-at (e ∷ H) first n place at =
    let found = by (is_write e.event) n (λ m. worker-at H (suc first) m place) at in
    record { behind = found.0; worker = found.1 }
  where
    workers : Bool → List ℕ
    workers b = cons_option (if b then Some e.worker else None) (workers_of H)

    places : Bool → List ℕ
    places b = if b then first ∷ write_places (suc first) H else write_places (suc first) H

    on : (d : Option ℕ) → suc first ≤ place → option_map (λ e. e.worker) (slice_get H (place - suc first)) ≡ d → option_map (λ e. e.worker) (slice_get (e ∷ H) (place - first)) ≡ d
    on d behind is =
        let next : place - first ≡ suc (place - suc first) = omega (arith, behind) in
        ap (λ k. option_map (λ d. d.worker) (slice_get (e ∷ H) k)) next ∙ is

    by : (b : Bool) (m : ℕ) → ((k : ℕ) → slice_get (write_places (suc first) H) k ≡ Some place → IsPlaceOf H (suc first) k place) → slice_get (places b) m ≡ Some place
        → (first ≤ place) × (option_map (λ e. e.worker) (slice_get (e ∷ H) (place - first)) ≡ slice_get (workers b) m)
    by true zero rest is =
        let same : first ≡ place = cc in
        let none : place - first ≡ 0 = omega (arith, same) in
        (omega (arith, same), ap (λ k. option_map (λ d. d.worker) (slice_get (e ∷ H) k)) none)
    by true (suc m) rest is =
        let later = rest m is in
        (omega (arith, later.behind), on (slice_get (workers_of H) m) later.behind later.worker)
    by false m rest is =
        let later = rest m is in
        (omega (arith, later.behind), on (slice_get (workers_of H) m) later.behind later.worker)

-- the worker of the entry at a place is that of its slot
pub worker-nth : (H : List Entry) (number place : ℕ) → Some place ≡ nth_item (write_places 1 H) number
    → option_map (λ e. e.worker) (nth_item H place) ≡ nth_item (workers_of H) number
worker-nth H zero place at = cc
worker-nth H (suc n) zero at = let is = worker-at H 1 n 0 (sym at) in absurd (omega (arith, is.behind))
worker-nth H (suc n) (suc k) at =
    let is = worker-at H 1 n (suc k) (sym at) in
    let same : suc k - 1 ≡ k = omega arith in
    ap (λ j. option_map (λ e. e.worker) (slice_get H j)) (sym same) ∙ is.worker

none-both : (xs ys : List ℕ) (k : ℕ) → length ys ≡ length xs → None ≡ slice_get xs k → None ≡ slice_get ys k
none-both [] [] k same none = refl
none-both [] (y ∷ ys) k same none = absurd (omega (arith, same))
none-both (x ∷ xs) [] k same none = absurd (omega (arith, same))
none-both (x ∷ xs) (y ∷ ys) zero same none = cc
none-both (x ∷ xs) (y ∷ ys) (suc k) same none = none-both xs ys k (omega (arith, same)) none

-- where a slot has no place, it has no worker
pub worker-none : (H : List Entry) (number : ℕ) → None ≡ nth_item (write_places 1 H) number → None ≡ nth_item (workers_of H) number
worker-none H zero none = refl
worker-none H (suc n) none = none-both (write_places 1 H) (workers_of H) n (length-workers_of 1 H) none
