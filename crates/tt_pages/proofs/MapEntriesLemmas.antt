-- What `find`, `put` and a removal do to a list of entries: at a key's place, and where the list is two lists in a row.
use Rattle.std.proofs.Common.{◌≡◌, ℕ, zero, suc, ◌+◌, ◌<◌, ◌≤◌, Bool, true, false, cond, not, ℤ, List, [], ◌∷◌, ◌++◌, length, get_or, set, IsTrue, IsSome, Option, None, Some, Less, Equal, Greater, refl, sym, ap, ◌∙◌, subst, T, arith}
use Rattle.std.specs.Prelude.{pos, ◌&&◌}
use Rattle.std.specs.declared.cmp.Ordering.{Ordering}
use Rattle.std.specs.Ordering.{int_cmp, int_eq, is_lt, is_eq, is_gt, ordering_reverse}
use denote.Ref.{Bor}
use Rattle.std.specs.Option.{is_some, is_none, option_copied, unwrap_or}
use Rattle.std.specs.Cmp.{int_cmp_total}
use Rattle.std.specs.List.{insert, remove}
use Rattle.std.specs.FinMap.Entries.{by_order, find, put, is_sorted, below_all, is_sorted-put, is_sorted-where_key}
use Rattle.std.proofs.lemmas.Bool.{false≢true, and_parts, and_from}
use Rattle.std.proofs.lemmas.List.{length-map, length-set, map-append}
use Rattle.std.proofs.lemmas.List.Edits.{length-insert, length-remove}
use Rattle.std.proofs.lemmas.List.Elements.{filter-append}
use Rattle.tt_pages.specs.MapEntries.{rank_of, first_key, entries_without, keys_of, ChangesAt, IsPlaceOf, IsGapFor, FitsAt, MovesAt}

-- ---- the order of keys

-- the other way round
pub turned : (x y : ℤ) (o : Ordering) → int_cmp x y ≡ o → int_cmp y x ≡ ordering_reverse o
turned x y o e = int_cmp_total.antisymm y x ∙ ap ordering_reverse e

pub lt_less : (o : Ordering) → is_lt o ≡ true → o ≡ Less
lt_less Less h = refl
lt_less Equal h = absurd (false≢true h)
lt_less Greater h = absurd (false≢true h)

gt_greater : (o : Ordering) → is_gt o ≡ true → o ≡ Greater
gt_greater Less h = absurd (false≢true h)
gt_greater Equal h = absurd (false≢true h)
gt_greater Greater h = refl

-- a key x that is below y, where k isn't: x is below k
below_from : (x k y : ℤ) → int_cmp x y ≡ Less → is_lt (int_cmp k y) ≡ false → int_cmp k x ≡ Greater
below_from x k y less not_less = by (int_cmp k y) refl
  where
    by : (o : Ordering) → int_cmp k y ≡ o → int_cmp k x ≡ Greater
    by Less p = absurd (false≢true (sym not_less ∙ ap is_lt p))
    by Equal p = int_cmp_total.congr k y x p ∙ turned x y Less less
    by Greater p = turned x k Less (int_cmp_total.trans x y k less (turned k y Greater p))

from_T : (b : Bool) → T b → IsTrue b
from_T true t = refl
from_T false t = absurd t

to_T : (b : Bool) → IsTrue b → T b
to_T b h = subst T (sym h) tt

some_none : {A : Type 0} (o : Option A) → IsSome o → o ≡ None → ⊥
some_none o some none = false≢true (sym (ap is_some none) ∙ some)

module _ {V : Type 0} where
  pub sorted_tail : (e : ℤ × V) (es : List (ℤ × V)) → IsTrue (is_sorted int_cmp (e ∷ es)) → IsTrue (is_sorted int_cmp es)
  sorted_tail e es h = (and_parts (below_all int_cmp e.0 es) (is_sorted int_cmp es) h).1

  pub below_tail : (e : ℤ × V) (es : List (ℤ × V)) → IsTrue (is_sorted int_cmp (e ∷ es)) → IsTrue (below_all int_cmp e.0 es)
  below_tail e es h = (and_parts (below_all int_cmp e.0 es) (is_sorted int_cmp es) h).0

  -- a key below one that is below all is below all
  below_all-less : (k x : ℤ) (es : List (ℤ × V)) → int_cmp k x ≡ Less → IsTrue (below_all int_cmp x es) → IsTrue (below_all int_cmp k es)
  below_all-less k x [] p h = refl
  below_all-less k x (e ∷ es) p h =
      let parts = and_parts (is_lt (int_cmp x e.0)) (below_all int_cmp x es) h in
      and_from (is_lt (int_cmp k e.0)) (below_all int_cmp k es) (ap is_lt (int_cmp_total.trans k x e.0 p (lt_less _ parts.0))) (below_all-less k x es p parts.1)

  below_all-equal : (k x : ℤ) (es : List (ℤ × V)) → int_cmp k x ≡ Equal → IsTrue (below_all int_cmp x es) → IsTrue (below_all int_cmp k es)
  below_all-equal k x [] p h = refl
  below_all-equal k x (e ∷ es) p h =
      let parts = and_parts (is_lt (int_cmp x e.0)) (below_all int_cmp x es) h in
      and_from (is_lt (int_cmp k e.0)) (below_all int_cmp k es) (ap is_lt (int_cmp_total.congr k x e.0 p) ∙ parts.0) (below_all-equal k x es p parts.1)

  -- a key below all is below each
  below-at : (k : ℤ) (es : List (ℤ × V)) (d : ℤ × V) (n : ℕ) → n < length es → IsTrue (below_all int_cmp k es) → int_cmp k (get_or es n d).0 ≡ Less
  below-at k [] d n within h = absurd (omega (arith, within))
  below-at k (e ∷ es) d zero within h = lt_less _ (and_parts (is_lt (int_cmp k e.0)) (below_all int_cmp k es) h).0
  below-at k (e ∷ es) d (suc n) within h = below-at k es d n (omega (arith, within)) (and_parts (is_lt (int_cmp k e.0)) (below_all int_cmp k es) h).1

  -- a list has no entry at a key below all of its keys
  find-below : (k : ℤ) (es : List (ℤ × V)) → IsTrue (below_all int_cmp k es) → find int_cmp k es ≡ None
  find-below k [] h = refl
  find-below k (e ∷ es) h =
      let parts = and_parts (is_lt (int_cmp k e.0)) (below_all int_cmp k es) h in
      ap (λ o. cond (is_eq o) (Some e.1) (find int_cmp k es)) (lt_less _ parts.0) ∙ find-below k es parts.1

  -- ---- at a key's place

  module _ (key : ℤ) where
    -- a key with an entry has a place in the list
    pub rank_of-within : (es : List (ℤ × V)) → IsSome (find int_cmp key es) → rank_of key es < length es
    rank_of-within [] some = absurd (false≢true some)
    rank_of-within (e ∷ es) some =
        elim (int_cmp key e.0) as (λ o. IsSome (cond (is_eq o) (Some e.1) (find int_cmp key es)) → cond (is_gt o) (suc (rank_of key es)) 0 < suc (length es)) [
          | Less ↦ λ _. omega arith
          | Equal ↦ λ _. omega arith
          | Greater ↦ λ h. omega (arith, rank_of-within es h)
        ] some

    pub rank_of-le : (es : List (ℤ × V)) → rank_of key es ≤ length es
    rank_of-le [] = omega arith
    rank_of-le (e ∷ es) =
        elim (int_cmp key e.0) as (λ o. cond (is_gt o) (suc (rank_of key es)) 0 ≤ suc (length es)) [
          | Less ↦ omega arith
          | Equal ↦ omega arith
          | Greater ↦ omega (arith, rank_of-le es)
        ]

    -- the key's place isn't behind an entry that the key isn't above
    pub rank_of-at_most : (es : List (ℤ × V)) (d : ℤ × V) (n : ℕ) → n < length es → is_gt (int_cmp key (get_or es n d).0) ≡ false → rank_of key es ≤ n
    rank_of-at_most [] d n within not = absurd (omega (arith, within))
    rank_of-at_most (e ∷ es) d zero within not =
        let is : rank_of key (e ∷ es) ≡ 0 = ap (λ b. cond b (suc (rank_of key es)) 0) not in
        omega (arith, is)
    rank_of-at_most (e ∷ es) d (suc n) within not =
        elim (int_cmp key e.0) as (λ o. cond (is_gt o) (suc (rank_of key es)) 0 ≤ suc n) [
          | Less ↦ omega arith
          | Equal ↦ omega arith
          | Greater ↦ omega (arith, rank_of-at_most es d n (omega (arith, within)) not)
        ]

    -- and is behind each that it is above, where the keys rise
    pub rank_of-above : (es : List (ℤ × V)) (d : ℤ × V) (n : ℕ) → IsTrue (is_sorted int_cmp es) → n < length es → is_gt (int_cmp key (get_or es n d).0) ≡ true → n < rank_of key es
    rank_of-above [] d n sorted within above = absurd (omega (arith, within))
    rank_of-above (e ∷ es) d zero sorted within above =
        let is : rank_of key (e ∷ es) ≡ suc (rank_of key es) = ap (λ b. cond b (suc (rank_of key es)) 0) above in
        omega (arith, is)
    rank_of-above (e ∷ es) d (suc n) sorted within above =
        let there : n < length es = omega (arith, within) in
        let x = (get_or es n d).0 in
        let less : int_cmp e.0 key ≡ Less = int_cmp_total.trans e.0 x key (below-at e.0 es d n there (below_tail e es sorted)) (turned key x Greater (gt_greater (int_cmp key x) above)) in
        let is : rank_of key (e ∷ es) ≡ suc (rank_of key es) = ap (λ o. cond (is_gt o) (suc (rank_of key es)) 0) (turned e.0 key Less less) in
        omega (arith, is, rank_of-above es d n (sorted_tail e es sorted) there above)

    -- where the keys rise, there is no entry at a key below the first
    absent_before : (e : ℤ × V) (es : List (ℤ × V)) → IsTrue (is_sorted int_cmp (e ∷ es)) → int_cmp key e.0 ≡ Less → find int_cmp key es ≡ None
    absent_before e es sorted less = find-below key es (below_all-less key e.0 es less (below_tail e es sorted))

    pub find-at_rank : (es : List (ℤ × V)) (d : ℤ × V) → IsTrue (is_sorted int_cmp es) → IsSome (find int_cmp key es) → find int_cmp key es ≡ Some (get_or es (rank_of key es) d).1
    find-at_rank [] d sorted some = absurd (false≢true some)
    find-at_rank (e ∷ es) d sorted some =
        elim (int_cmp key e.0) as (λ o. int_cmp key e.0 ≡ o → IsSome (cond (is_eq o) (Some e.1) (find int_cmp key es)) → cond (is_eq o) (Some e.1) (find int_cmp key es) ≡ Some (get_or (e ∷ es) (cond (is_gt o) (suc (rank_of key es)) 0) d).1) [
          | Less ↦ λ p h. absurd (some_none _ h (absent_before e es sorted p))
          | Equal ↦ λ p h. refl
          | Greater ↦ λ p h. find-at_rank es d (sorted_tail e es sorted) h
        ] refl some

    pub put-at_rank : (es : List (ℤ × V)) (v : V) (d : ℤ × V) → IsTrue (is_sorted int_cmp es) → IsSome (find int_cmp key es) → put int_cmp key v es ≡ set es (rank_of key es) ((get_or es (rank_of key es) d).0, v)
    put-at_rank [] v d sorted some = absurd (false≢true some)
    put-at_rank (e ∷ es) v d sorted some =
        elim (int_cmp key e.0) as (λ o. int_cmp key e.0 ≡ o → IsSome (cond (is_eq o) (Some e.1) (find int_cmp key es)) → by_order o ((key, v) ∷ e ∷ es) ((e.0, v) ∷ es) (e ∷ put int_cmp key v es) ≡ set (e ∷ es) (cond (is_gt o) (suc (rank_of key es)) 0) ((get_or (e ∷ es) (cond (is_gt o) (suc (rank_of key es)) 0) d).0, v)) [
          | Less ↦ λ p h. absurd (some_none _ h (absent_before e es sorted p))
          | Equal ↦ λ p h. refl
          | Greater ↦ λ p h. ap (λ rest. e ∷ rest) (put-at_rank es v d (sorted_tail e es sorted) h)
        ] refl some

    pub put-in_gap : (es : List (ℤ × V)) (v : V) → find int_cmp key es ≡ None → put int_cmp key v es ≡ insert es (rank_of key es) (key, v)
    put-in_gap [] v none = refl
    put-in_gap (e ∷ es) v none =
        elim (int_cmp key e.0) as (λ o. cond (is_eq o) (Some e.1) (find int_cmp key es) ≡ None → by_order o ((key, v) ∷ e ∷ es) ((e.0, v) ∷ es) (e ∷ put int_cmp key v es) ≡ insert (e ∷ es) (cond (is_gt o) (suc (rank_of key es)) 0) (key, v)) [
          | Less ↦ λ h. refl
          | Equal ↦ λ h. absurd (some_none (Some e.1) refl h)
          | Greater ↦ λ h. ap (λ rest. e ∷ rest) (put-in_gap es v h)
        ] none

    -- the entries at other keys, where none has the key
    pub without-absent : (es : List (ℤ × V)) → find int_cmp key es ≡ None → entries_without key es ≡ es
    without-absent [] none = refl
    without-absent (e ∷ es) none =
        elim (int_cmp key e.0) as (λ o. int_cmp key e.0 ≡ o → cond (is_eq o) (Some e.1) (find int_cmp key es) ≡ None → cond (not (int_eq e.0 key)) (e ∷ entries_without key es) (entries_without key es) ≡ e ∷ es) [
          | Less ↦ λ p h. ap (λ o. cond (not (is_eq o)) (e ∷ entries_without key es) (entries_without key es)) (turned key e.0 Less p) ∙ ap (λ rest. e ∷ rest) (without-absent es h)
          | Equal ↦ λ p h. absurd (some_none (Some e.1) refl h)
          | Greater ↦ λ p h. ap (λ o. cond (not (is_eq o)) (e ∷ entries_without key es) (entries_without key es)) (turned key e.0 Greater p) ∙ ap (λ rest. e ∷ rest) (without-absent es h)
        ] refl none

    pub without-at_rank : (es : List (ℤ × V)) → IsTrue (is_sorted int_cmp es) → IsSome (find int_cmp key es) → entries_without key es ≡ remove es (rank_of key es)
    without-at_rank [] sorted some = absurd (false≢true some)
    without-at_rank (e ∷ es) sorted some =
        let rest = entries_without key es in
        elim (int_cmp key e.0) as (λ o. int_cmp key e.0 ≡ o → IsSome (cond (is_eq o) (Some e.1) (find int_cmp key es)) → cond (not (int_eq e.0 key)) (e ∷ rest) rest ≡ remove (e ∷ es) (cond (is_gt o) (suc (rank_of key es)) 0)) [
          | Less ↦ λ p h. absurd (some_none _ h (absent_before e es sorted p))
          | Equal ↦ λ p h. ap (λ o. cond (not (is_eq o)) (e ∷ rest) rest) (turned key e.0 Equal p) ∙ without-absent es (find-below key es (below_all-equal key e.0 es p (below_tail e es sorted)))
          | Greater ↦ λ p h. ap (λ o. cond (not (is_eq o)) (e ∷ rest) rest) (turned key e.0 Greater p) ∙ ap (λ rest. e ∷ rest) (without-at_rank es (sorted_tail e es sorted) h)
        ] refl some

    -- whether the entry at the key's place has the key
    pub find-from_rank : (es : List (ℤ × V)) (d : ℤ × V) → rank_of key es < length es → IsTrue (is_eq (int_cmp key (get_or es (rank_of key es) d).0)) → IsSome (find int_cmp key es)
    find-from_rank [] d within same = absurd (omega arith)
    find-from_rank (e ∷ es) d within same =
        elim (int_cmp key e.0) as (λ o. int_cmp key e.0 ≡ o → cond (is_gt o) (suc (rank_of key es)) 0 < suc (length es) → IsTrue (is_eq (int_cmp key (get_or (e ∷ es) (cond (is_gt o) (suc (rank_of key es)) 0) d).0)) → IsSome (cond (is_eq o) (Some e.1) (find int_cmp key es))) [
          | Less ↦ λ p w h. absurd (false≢true (sym (ap is_eq p) ∙ h))
          | Equal ↦ λ p w h. refl
          | Greater ↦ λ p w h. find-from_rank es d (omega arith) h
        ] refl within same

    pub absent-at_rank : (es : List (ℤ × V)) (d : ℤ × V) → IsTrue (is_sorted int_cmp es) → is_eq (int_cmp key (get_or es (rank_of key es) d).0) ≡ false → find int_cmp key es ≡ None
    absent-at_rank [] d sorted other = refl
    absent-at_rank (e ∷ es) d sorted other =
        elim (int_cmp key e.0) as (λ o. int_cmp key e.0 ≡ o → is_eq (int_cmp key (get_or (e ∷ es) (cond (is_gt o) (suc (rank_of key es)) 0) d).0) ≡ false → cond (is_eq o) (Some e.1) (find int_cmp key es) ≡ None) [
          | Less ↦ λ p h. absent_before e es sorted p
          | Equal ↦ λ p h. absurd (false≢true (sym h ∙ ap is_eq p))
          | Greater ↦ λ p h. absent-at_rank es d (sorted_tail e es sorted) h
        ] refl other

    pub absent-past_end : (es : List (ℤ × V)) → length es ≤ rank_of key es → find int_cmp key es ≡ None
    absent-past_end [] past = refl
    absent-past_end (e ∷ es) past =
        elim (int_cmp key e.0) as (λ o. suc (length es) ≤ cond (is_gt o) (suc (rank_of key es)) 0 → cond (is_eq o) (Some e.1) (find int_cmp key es) ≡ None) [
          | Less ↦ λ h. absurd (omega arith)
          | Equal ↦ λ h. absurd (omega arith)
          | Greater ↦ λ h. absent-past_end es (omega arith)
        ] past

    pub is_place : (es : List (ℤ × V)) (d : ℤ × V) (at : ℕ) → at ≡ rank_of key es → at < length es → IsTrue (is_eq (int_cmp key (get_or es at d).0)) → IsPlaceOf key es at
    is_place es d at place within same = record {
      place = place;
      within = within;
      present = find-from_rank es d (rw (← place) within) (rw (← place) same);
    }

    -- the place of a key that is there
    pub is_place-present : (es : List (ℤ × V)) (at : ℕ) → at ≡ rank_of key es → IsSome (find int_cmp key es) → IsPlaceOf key es at
    is_place-present es at place some = record {
      place = place;
      within = omega (arith, place, rank_of-within es some);
      present = some;
    }

    pub is_gap-other : (es : List (ℤ × V)) (d : ℤ × V) (at : ℕ) → IsTrue (is_sorted int_cmp es) → at ≡ rank_of key es → at < length es → is_eq (int_cmp key (get_or es at d).0) ≡ false → IsGapFor key es at
    is_gap-other es d at sorted place within other = record {
      place = place;
      within = omega arith;
      absent = absent-at_rank es d sorted (rw (← place) other);
    }

    pub is_gap-end : (es : List (ℤ × V)) (at : ℕ) → at ≡ rank_of key es → length es ≤ at → IsGapFor key es at
    is_gap-end es at place past = record {
      place = place;
      within = omega (arith, rank_of-le es);
      absent = absent-past_end es (omega arith);
    }

    -- what a search in a page gives, and what is done there
    pub find-place : (es : List (ℤ × V)) (d : ℤ × V) (at : ℕ) → IsTrue (is_sorted int_cmp es) → IsPlaceOf key es at → Some (get_or es at d).1 ≡ find int_cmp key es
    find-place es d at sorted here = rw here.place (sym (find-at_rank es d sorted here.present))

    pub put-place : (es : List (ℤ × V)) (v : V) (d : ℤ × V) (at : ℕ) → IsTrue (is_sorted int_cmp es) → IsPlaceOf key es at → set es at ((get_or es at d).0, v) ≡ put int_cmp key v es
    put-place es v d at sorted here = rw here.place (sym (put-at_rank es v d sorted here.present))

    -- a change of the value at a place changes it at the key
    pub ChangesAt-place : (es : List (ℤ × V)) (e : ℤ × V) (w : V) (at : ℕ) (f : V → V) → IsTrue (is_sorted int_cmp es) → IsPlaceOf key es at → e ≡ get_or es at e → w ≡ f e.1 → ChangesAt key f es (set es at (e.0, w))
    ChangesAt-place es e w at f sorted here is changed v found =
        let same : e.1 ≡ v = ap (λ (x : ℤ × V). x.1) is ∙ ap (λ o. unwrap_or o v) (find-place es e at sorted here ∙ found) in
        ap (λ (x : ℤ × V). set es at (x.0, w)) is ∙ put-place es w e at sorted here ∙ ap (λ u. put int_cmp key u es) (changed ∙ ap f same)

    -- the value at a place is the one at the key, for a context too
    pub FitsAt-place : {C : Type 0} (es : List (ℤ × V)) (e : ℤ × V) (at : ℕ) (fits : V → C → Type 0) (context : C) → IsTrue (is_sorted int_cmp es) → IsPlaceOf key es at → e ≡ get_or es at e → FitsAt key fits es context → fits e.1 context
    FitsAt-place es e at fits context sorted here is fit =
        fit e.1 (sym (find-place es e at sorted here) ∙ ap (λ (x : ℤ × V). Some x.1) (sym is))

    pub MovesAt-place : {C : Type 0} (es : List (ℤ × V)) (e : ℤ × V) (at : ℕ) (moves : V → C → C → Type 0) (before after : C) → IsTrue (is_sorted int_cmp es) → IsPlaceOf key es at → e ≡ get_or es at e → moves e.1 before after → MovesAt key moves es before after
    MovesAt-place es e at moves before after sorted here is moved v found =
        let same : e.1 ≡ v = ap (λ (x : ℤ × V). x.1) is ∙ ap (λ o. unwrap_or o v) (find-place es e at sorted here ∙ found) in
        subst (λ v. moves v before after) same moved

    pub put-gap : (es : List (ℤ × V)) (v : V) (at : ℕ) → IsGapFor key es at → insert es at (key, v) ≡ put int_cmp key v es
    put-gap es v at gap = rw gap.place (sym (put-in_gap es v gap.absent))

    pub without-place : (es : List (ℤ × V)) (at : ℕ) → IsTrue (is_sorted int_cmp es) → IsPlaceOf key es at → remove es at ≡ entries_without key es
    without-place es at sorted here = rw here.place (sym (without-at_rank es sorted here.present))

-- ---- two lists in a row

module _ {V : Type 0} where
  pub is_sorted-left : (l r : List (ℤ × V)) → IsTrue (is_sorted int_cmp (l ++ r)) → IsTrue (is_sorted int_cmp l)
  is_sorted-left [] r h = refl
  is_sorted-left (e ∷ l) r h = and_from (below_all int_cmp e.0 l) (is_sorted int_cmp l) (below_left e.0 l r (below_tail e (l ++ r) h)) (is_sorted-left l r (sorted_tail e (l ++ r) h))
    where
      below_left : (k : ℤ) (l r : List (ℤ × V)) → IsTrue (below_all int_cmp k (l ++ r)) → IsTrue (below_all int_cmp k l)
      below_left k [] r h = refl
      below_left k (e ∷ l) r h =
          let parts = and_parts (is_lt (int_cmp k e.0)) (below_all int_cmp k (l ++ r)) h in
          and_from (is_lt (int_cmp k e.0)) (below_all int_cmp k l) parts.0 (below_left k l r parts.1)

  pub is_sorted-right : (l r : List (ℤ × V)) → IsTrue (is_sorted int_cmp (l ++ r)) → IsTrue (is_sorted int_cmp r)
  is_sorted-right [] r h = h
  is_sorted-right (e ∷ l) r h = is_sorted-right l r (sorted_tail e (l ++ r) h)

  pub first_key-append : (l r : List (ℤ × V)) → 0 < length l → first_key (l ++ r) ≡ first_key l
  first_key-append [] r filled = absurd (omega arith)
  first_key-append (e ∷ l) r filled = refl

  -- a key below all of a list is below the first of the list's second half
  below-first : (k : ℤ) (l r : List (ℤ × V)) → 0 < length r → IsTrue (below_all int_cmp k (l ++ r)) → int_cmp k (first_key r) ≡ Less
  below-first k [] [] filled h = absurd (omega arith)
  below-first k [] (e ∷ r) filled h = lt_less _ (and_parts (is_lt (int_cmp k e.0)) (below_all int_cmp k r) h).0
  below-first k (e ∷ l) r filled h = below-first k l r filled (and_parts (is_lt (int_cmp k e.0)) (below_all int_cmp k (l ++ r)) h).1

  -- the first of two lists in a row begins below the second
  pub first_key-below : (l r : List (ℤ × V)) → 0 < length l → 0 < length r → IsTrue (is_sorted int_cmp (l ++ r)) → int_cmp (first_key l) (first_key r) ≡ Less
  first_key-below [] r left right sorted = absurd (omega arith)
  first_key-below (e ∷ l) r left right sorted = below-first e.0 l r right (below_tail e (l ++ r) sorted)

  pub below-all_first : (k : ℤ) (r : List (ℤ × V)) → 0 < length r → IsTrue (is_sorted int_cmp r) → IsTrue (is_lt (int_cmp k (first_key r))) → IsTrue (below_all int_cmp k r)
  below-all_first k [] filled sorted lt = absurd (omega arith)
  below-all_first k (e ∷ r) filled sorted lt = and_from (is_lt (int_cmp k e.0)) (below_all int_cmp k r) lt (below_all-less k e.0 r (lt_less _ lt) (below_tail e r sorted))

  -- the key is above each of a list's keys
  abbrev pub IsAbove : ℤ → List (ℤ × V) → Type 0
  IsAbove key [] = Unit {0}
  IsAbove key (e ∷ es) = (int_cmp key e.0 ≡ Greater) × IsAbove key es

  module _ (key : ℤ) (l r : List (ℤ × V)) (filled : 0 < length r) (sorted : IsTrue (is_sorted int_cmp (l ++ r))) where
    module _ (left : IsTrue (is_lt (int_cmp key (first_key r)))) where
      below_right : IsTrue (below_all int_cmp key r)
      below_right = below-all_first key r filled (is_sorted-right l r sorted) left

      absent_right : find int_cmp key r ≡ None
      absent_right = find-below key r below_right

      pub find-left : find int_cmp key (l ++ r) ≡ find int_cmp key l
      find-left = by l
        where
          by : (l : List (ℤ × V)) → find int_cmp key (l ++ r) ≡ find int_cmp key l
          by [] = absent_right
          by (e ∷ l) = ap (λ o. cond (is_eq (int_cmp key e.0)) (Some e.1) o) (by l)

      pub put-left : (v : V) → put int_cmp key v (l ++ r) ≡ put int_cmp key v l ++ r
      put-left v = by l
        where
          first : (r : List (ℤ × V)) → 0 < length r → IsTrue (is_lt (int_cmp key (first_key r))) → put int_cmp key v r ≡ (key, v) ∷ r
          first [] filled lt = absurd (omega arith)
          first (e ∷ r) filled lt = ap (λ o. by_order o ((key, v) ∷ e ∷ r) ((e.0, v) ∷ r) (e ∷ put int_cmp key v r)) (lt_less _ lt)

          by : (l : List (ℤ × V)) → put int_cmp key v (l ++ r) ≡ put int_cmp key v l ++ r
          by [] = first r filled left
          by (e ∷ l) = elim (int_cmp key e.0) as (λ o. by_order o ((key, v) ∷ e ∷ (l ++ r)) ((e.0, v) ∷ (l ++ r)) (e ∷ put int_cmp key v (l ++ r)) ≡ by_order o ((key, v) ∷ e ∷ l) ((e.0, v) ∷ l) (e ∷ put int_cmp key v l) ++ r) [
            | Less ↦ refl
            | Equal ↦ refl
            | Greater ↦ ap (λ es. e ∷ es) (by l)
          ]

      pub without-left : entries_without key (l ++ r) ≡ entries_without key l ++ r
      without-left = filter-append (λ (e : ℤ × V). not (int_eq e.0 key)) l r ∙ ap (λ es. entries_without key l ++ es) (without-absent key r absent_right)

    module _ (right : is_lt (int_cmp key (first_key r)) ≡ false) where
      pub is_above_left : IsAbove key l
      is_above_left = by l sorted
        where
          by : (l : List (ℤ × V)) → IsTrue (is_sorted int_cmp (l ++ r)) → IsAbove key l
          by [] h = tt
          by (e ∷ l) h = (below_from e.0 key (first_key r) (below-first e.0 l r filled (below_tail e (l ++ r) h)) right, by l (sorted_tail e (l ++ r) h))

      pub find-right : find int_cmp key (l ++ r) ≡ find int_cmp key r
      find-right = by l is_above_left
        where
          by : (l : List (ℤ × V)) → IsAbove key l → find int_cmp key (l ++ r) ≡ find int_cmp key r
          by [] h = refl
          by (e ∷ l) h = ap (λ o. cond (is_eq o) (Some e.1) (find int_cmp key (l ++ r))) h.0 ∙ by l h.1

      pub put-right : (v : V) → put int_cmp key v (l ++ r) ≡ l ++ put int_cmp key v r
      put-right v = by l is_above_left
        where
          by : (l : List (ℤ × V)) → IsAbove key l → put int_cmp key v (l ++ r) ≡ l ++ put int_cmp key v r
          by [] h = refl
          by (e ∷ l) h = ap (λ o. by_order o ((key, v) ∷ e ∷ (l ++ r)) ((e.0, v) ∷ (l ++ r)) (e ∷ put int_cmp key v (l ++ r))) h.0 ∙ ap (λ es. e ∷ es) (by l h.1)

      absent_left : find int_cmp key l ≡ None
      absent_left = by l is_above_left
        where
          by : (l : List (ℤ × V)) → IsAbove key l → find int_cmp key l ≡ None
          by [] h = refl
          by (e ∷ l) h = ap (λ o. cond (is_eq o) (Some e.1) (find int_cmp key l)) h.0 ∙ by l h.1

      pub without-right : entries_without key (l ++ r) ≡ l ++ entries_without key r
      without-right = filter-append (λ (e : ℤ × V). not (int_eq e.0 key)) l r ∙ ap (λ es. es ++ entries_without key r) (without-absent key l absent_left)

  -- ---- how many entries are left

  pub length-put_le : (key : ℤ) (v : V) (es : List (ℤ × V)) → length (put int_cmp key v es) ≤ length es + 1
  length-put_le key v [] = omega arith
  length-put_le key v (e ∷ es) = elim (int_cmp key e.0) as (λ o. length (by_order o ((key, v) ∷ e ∷ es) ((e.0, v) ∷ es) (e ∷ put int_cmp key v es)) ≤ suc (length es) + 1) [
    | Less ↦ omega arith
    | Equal ↦ omega arith
    | Greater ↦ omega (arith, length-put_le key v es)
  ]

  pub length-put_ge : (key : ℤ) (v : V) (es : List (ℤ × V)) → length es ≤ length (put int_cmp key v es)
  length-put_ge key v [] = omega arith
  length-put_ge key v (e ∷ es) = elim (int_cmp key e.0) as (λ o. suc (length es) ≤ length (by_order o ((key, v) ∷ e ∷ es) ((e.0, v) ∷ es) (e ∷ put int_cmp key v es))) [
    | Less ↦ omega arith
    | Equal ↦ omega arith
    | Greater ↦ omega (arith, length-put_ge key v es)
  ]

  -- a key that is there keeps its one entry
  pub length-put_present : (key : ℤ) (v : V) (es : List (ℤ × V)) → IsTrue (is_sorted int_cmp es) → IsSome (find int_cmp key es) → length (put int_cmp key v es) ≡ length es
  length-put_present key v [] sorted some = absurd (false≢true some)
  length-put_present key v (e ∷ es) sorted some =
      ap length (put-at_rank key (e ∷ es) v e sorted some) ∙ length-set (e ∷ es) (rank_of key (e ∷ es)) ((get_or (e ∷ es) (rank_of key (e ∷ es)) e).0, v)

  -- a new key gets one entry
  pub length-put_absent : (key : ℤ) (v : V) (es : List (ℤ × V)) → find int_cmp key es ≡ None → length (put int_cmp key v es) ≡ length es + 1
  length-put_absent key v es absent = ap length (put-in_gap key es v absent) ∙ length-insert es (rank_of key es) (key, v) (rank_of-le key es)

  pub length-without_present : (key : ℤ) (es : List (ℤ × V)) → IsTrue (is_sorted int_cmp es) → IsSome (find int_cmp key es) → length (entries_without key es) + 1 ≡ length es
  length-without_present key es sorted some =
      ap (λ fs. length fs + 1) (without-at_rank key es sorted some) ∙ length-remove es (rank_of key es) (rank_of-within key es some)

  pub length-put_filled : (key : ℤ) (v : V) (es : List (ℤ × V)) → 0 < length (put int_cmp key v es)
  length-put_filled key v [] = omega arith
  length-put_filled key v (e ∷ es) = elim (int_cmp key e.0) as (λ o. 0 < length (by_order o ((key, v) ∷ e ∷ es) ((e.0, v) ∷ es) (e ∷ put int_cmp key v es))) [
    | Less ↦ omega arith
    | Equal ↦ omega arith
    | Greater ↦ omega arith
  ]

  pub length-without_le : (key : ℤ) (es : List (ℤ × V)) → length (entries_without key es) ≤ length es
  length-without_le key [] = omega arith
  length-without_le key (e ∷ es) = elim (int_eq e.0 key) as (λ b. length (cond (not b) (e ∷ entries_without key es) (entries_without key es)) ≤ suc (length es)) [
    | true ↦ omega (arith, length-without_le key es)
    | false ↦ omega (arith, length-without_le key es)
  ]

  -- where the keys rise, at most one entry has the key
  pub length-without_ge : (key : ℤ) (es : List (ℤ × V)) → IsTrue (is_sorted int_cmp es) → length es ≤ length (entries_without key es) + 1
  length-without_ge key [] sorted = omega arith
  length-without_ge key (e ∷ es) sorted =
      elim (int_cmp e.0 key) as (λ o. int_cmp e.0 key ≡ o → suc (length es) ≤ length (cond (not (is_eq o)) (e ∷ entries_without key es) (entries_without key es)) + 1) [
        | Less ↦ λ p. omega (arith, length-without_ge key es (sorted_tail e es sorted))
        | Equal ↦ λ p.
            let same = without-absent key es (find-below key es (below_all-equal key e.0 es (turned e.0 key Equal p) (below_tail e es sorted))) in
            omega (arith, ap length same)
        | Greater ↦ λ p. omega (arith, length-without_ge key es (sorted_tail e es sorted))
      ] refl

  -- one entry, at this key, leaves none
  pub without-lone : (key : ℤ) (es : List (ℤ × V)) → length es ≡ 1 → IsSome (find int_cmp key es) → entries_without key es ≡ []
  without-lone key [] lone some = absurd (omega arith)
  without-lone key (e ∷ []) lone some =
      elim (int_cmp key e.0) as (λ o. int_cmp key e.0 ≡ o → IsSome (cond (is_eq o) (Some e.1) None) → cond (not (int_eq e.0 key)) (e ∷ []) [] ≡ []) [
        | Less ↦ λ p h. absurd (false≢true h)
        | Equal ↦ λ p h. ap (λ o. cond (not (is_eq o)) (e ∷ []) []) (turned key e.0 Equal p)
        | Greater ↦ λ p h. absurd (false≢true h)
      ] refl some
  without-lone key (e ∷ f ∷ es) lone some = absurd (omega arith)

  -- ---- the order stays

  pub sorted-put : (key : ℤ) (v : V) (es : List (ℤ × V)) → IsTrue (is_sorted int_cmp es) → IsTrue (is_sorted int_cmp (put int_cmp key v es))
  sorted-put key v es h = from_T _ (is_sorted-put int_cmp int_cmp_total key v es (to_T _ h))

  pub sorted-without : (key : ℤ) (es : List (ℤ × V)) → IsTrue (is_sorted int_cmp es) → IsTrue (is_sorted int_cmp (entries_without key es))
  sorted-without key es h = from_T _ (is_sorted-where_key int_cmp (λ k. not (int_eq k key)) es (to_T _ h))

-- ---- the keys

below_keys : ℤ → List ℤ → Bool
below_keys k [] = true
below_keys k (x ∷ xs) = is_lt (int_cmp k x) && below_keys k xs

sorted_keys : List ℤ → Bool
sorted_keys [] = true
sorted_keys (x ∷ xs) = below_keys x xs && sorted_keys xs

first_of : List ℤ → ℤ
first_of [] = pos 0
first_of (x ∷ xs) = x

module _ {V : Type 0} where
  below_all-is : (k : ℤ) (es : List (ℤ × V)) → below_all int_cmp k es ≡ below_keys k (keys_of es)
  unfolding below_keys
  below_all-is k [] = refl
  below_all-is k (e ∷ es) = ap (λ b. is_lt (int_cmp k e.0) && b) (below_all-is k es)

  is_sorted-is : (es : List (ℤ × V)) → is_sorted int_cmp es ≡ sorted_keys (keys_of es)
  unfolding sorted_keys
  is_sorted-is [] = refl
  is_sorted-is (e ∷ es) = ap (λ b. b && is_sorted int_cmp es) (below_all-is e.0 es) ∙ ap (λ b. below_keys e.0 (keys_of es) && b) (is_sorted-is es)

  first_key-is : (es : List (ℤ × V)) → first_key es ≡ first_of (keys_of es)
  unfolding first_of
  first_key-is [] = refl
  first_key-is (e ∷ es) = refl

  keys-set : (es : List (ℤ × V)) (d : ℤ × V) (w : V) (at : ℕ) → keys_of (set es at ((get_or es at d).0, w)) ≡ keys_of es
  keys-set [] d w at = refl
  keys-set (e ∷ es) d w zero = refl
  keys-set (e ∷ es) d w (suc at) = ap (λ ks. e.0 ∷ ks) (keys-set es d w at)

  -- another value at a place leaves the keys
  pub keys-place : (es : List (ℤ × V)) (e : ℤ × V) (w : V) (at : ℕ) → e ≡ get_or es at e → keys_of (set es at (e.0, w)) ≡ keys_of es
  keys-place es e w at is = ap (λ (x : ℤ × V). keys_of (set es at (x.0, w))) is ∙ keys-set es e w at

  pub keys-append : (es fs : List (ℤ × V)) → keys_of (es ++ fs) ≡ keys_of es ++ keys_of fs
  keys-append es fs = map-append (λ e. e.0) es fs

  -- what entries with the same keys have in common
  module _ (es fs : List (ℤ × V)) (same : keys_of es ≡ keys_of fs) where
    pub length-keys : length es ≡ length fs
    length-keys = sym (length-map es (λ e. e.0)) ∙ ap length same ∙ length-map fs (λ e. e.0)

    pub sorted-keys : IsTrue (is_sorted int_cmp fs) → IsTrue (is_sorted int_cmp es)
    sorted-keys h = is_sorted-is es ∙ ap sorted_keys same ∙ sym (is_sorted-is fs) ∙ h

    pub first_key-keys : first_key es ≡ first_key fs
    first_key-keys = first_key-is es ∙ ap first_of same ∙ sym (first_key-is fs)

-- ---- an answer that lends a value

pub none_copied : {V : Type 0} (o : Option (Bor V)) (answer : Option V) → option_copied o ≡ answer → is_some o ≡ false → answer ≡ None
none_copied None answer same h = sym same
none_copied (Some x) answer same h = absurd (false≢true (sym h))

pub some_copied : {V : Type 0} (o : Option (Bor V)) (answer : Option V) → option_copied o ≡ answer → is_some o ≡ true → IsSome answer
some_copied None answer same h = absurd (false≢true h)
some_copied (Some x) answer same h = ap is_some (sym same)

pub none_of : {V : Type 0} (answer : Option V) → is_none answer ≡ true → answer ≡ None
none_of None is = refl
none_of (Some x) is = absurd (false≢true is)

pub some_of : {V : Type 0} (answer : Option V) → is_none answer ≡ false → IsSome answer
some_of None is = absurd (false≢true (sym is))
some_of (Some x) is = refl

pub absent_of : {V : Type 0} (answer : Option V) → is_some answer ≡ false → answer ≡ None
absent_of None is = refl
absent_of (Some x) is = absurd (false≢true (sym is))
