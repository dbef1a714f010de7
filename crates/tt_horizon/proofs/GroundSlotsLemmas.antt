-- The slots that stand on a ground, and the contents after them.
use Rattle.std.proofs.Common.{◌≡◌, ℕ, zero, suc, ◌+◌, ◌-◌, ◌≤◌, List, [], ◌∷◌, ◌++◌, length, map, drop, Option, None, Some, refl, sym, ap, subst, subst₂, ◌∙◌, arith, append_assoc, append-nil, length-append, length-drop}
use Rattle.std.proofs.lemmas.List.{length-map, drop-append-le}
use Rattle.tt_values.specs.declared.action.Action.{Action}
use Rattle.tt_values.specs.Content.{content_at}
use Rattle.tt_values.specs.Action.{action_of}
use Rattle.tt_values.specs.RowWrites.{Slots, slot_after, content_of}
use Rattle.tt_values.proofs.LawProofs.{later_slots_change_nothing}
use Rattle.tt_repair_laws.specs.Due.{content_after}
use Rattle.tt_repair_laws.proofs.LawProofs.{content_after_is_kept}
use Rattle.tt_horizon.specs.Ground.{kept_slot, on_ground, moved}
use Rattle.tt_horizon.specs.Laws.{Leaves, ForgettingKeepsContents}
use Rattle.tt_horizon.proofs.SlotsLemmas.{content_after_slot, next_by_slot}

-- what holds at the horizon, and from each time to the next, holds so many times later, and there on a ground
later_by : (P : ℕ → ℕ → Type 0) (time size : ℕ) → P size time → ((n : ℕ) → time ≤ n → P (moved time size n) n → P (suc (moved time size n)) (suc n)) →
    (more : ℕ) → P (moved time size (more + time)) (more + time)
later_by P time size base step zero =
    let place : size ≡ moved time size (0 + time) = omega arith in
    let first : time ≡ 0 + time = omega arith in
    subst₂ P place first base
later_by P time size base step (suc more) =
    let n = more + time in
    let place : suc (moved time size n) ≡ moved time size (suc more + time) = omega arith in
    let next : suc n ≡ suc more + time = omega arith in
    subst₂ P place next (step n (omega arith) (later_by P time size base step more))

-- what holds at the horizon, and from each time to the next, holds of all later times and their places on a ground
pub later_times : (P : ℕ → ℕ → Type 0) (time size : ℕ) → P size time → ((n : ℕ) → time ≤ n → P (moved time size n) n → P (suc (moved time size n)) (suc n)) →
    (n : ℕ) → time ≤ n → P (moved time size n) n
later_times P time size base step n h =
    let here : (n - time) + time ≡ n = omega (arith, h) in
    subst (λ j. P (moved time size j) j) here (later_by P time size base step (n - time))

-- slots behind others have their own order
slot_behind : (V W : Slots) (i j : ℕ) → j ≡ i + length V → slot_after (V ++ W) j ≡ slot_after W i
slot_behind [] W i j e = let here : j ≡ i = omega (arith, e) in ap (slot_after W) here
slot_behind (s ∷ V) W i zero e = let none : ⊥ = omega (arith, e) in absurd none
slot_behind (s ∷ V) W i (suc j) e = slot_behind V W i j (omega (arith, e))

-- without its first slots a list has the same later ones
slot_dropped : (t : ℕ) (W : Slots) (i j : ℕ) → j ≡ i + t → slot_after (drop t W) i ≡ slot_after W j
slot_dropped zero W i j e = let here : i ≡ j = omega (arith, e) in ap (slot_after W) here
slot_dropped (suc t) [] i j e = refl
slot_dropped (suc t) (s ∷ W) i zero e = let none : ⊥ = omega (arith, e) in absurd none
slot_dropped (suc t) (s ∷ W) i (suc j) e = slot_dropped t W i j (omega (arith, e))

-- there is no slot behind the last one
pub slot_past : (W : Slots) (n : ℕ) → length W ≤ n → slot_after W n ≡ None
slot_past [] n h = refl
slot_past (s ∷ W) zero h = let none : ⊥ = omega (arith, h) in absurd none
slot_past (s ∷ W) (suc n) h = slot_past W n (omega (arith, h))

-- what is told of cancelled slots as of the action of no writes is the same of slots as they stand behind a ground
kept_alike : {A : Type 0} (f : Option Action → A) → f (Some (action_of [])) ≡ f None → (W X : Slots) (i : ℕ) →
    f (slot_after (map kept_slot W ++ X) i) ≡ f (slot_after (W ++ X) i)
kept_alike f h [] X i = refl
kept_alike f h (None ∷ W) X zero = h
kept_alike f h (Some action ∷ W) X zero = refl
kept_alike f h (s ∷ W) X (suc i) = kept_alike f h W X i

module _ (W : Slots) (G : List Action) (time : ℕ) (X : Slots) (early : time ≤ length W) where
  -- what is told of cancelled slots as of the action of no writes is the same of each slot behind the horizon, with whatever slots follow
  pub slots_alike : {A : Type 0} (f : Option Action → A) → f (Some (action_of [])) ≡ f None → (n : ℕ) → time ≤ n →
      f (slot_after (on_ground G W time ++ X) (moved time (length G) n)) ≡ f (slot_after (W ++ X) n)
  slots_alike f h n later =
      let kept = map kept_slot (drop time W) in
      let place = moved time (length G) n in
      let i = n - time in
      ap (λ V. f (slot_after V place)) (append_assoc (map Some G) kept X)
      ∙ ap f (slot_behind (map Some G) (kept ++ X) i place (omega (arith, length-map G (λ (action : Action). Some action))))
      ∙ kept_alike f h (drop time W) X i
      ∙ ap (λ V. f (slot_after V i)) (sym (drop-append-le time W X early))
      ∙ ap f (slot_dropped time (W ++ X) i n (omega (arith, later)))

  -- there are as many slots behind the ground as behind the horizon
  pub length-on_ground : length (on_ground G W time ++ X) ≡ moved time (length G) (length (W ++ X))
  length-on_ground =
      let kept = map kept_slot (drop time W) in
      omega (
        arith,
        early,
        length-append (map Some G ++ kept) X,
        length-append (map Some G) kept,
        length-map G (λ (action : Action). Some action),
        length-map (drop time W) kept_slot,
        length-drop time W,
        length-append W X,
      )

  module _ (leaves : Leaves G (content_of W time)) where
    -- the ground leaves the content of the horizon
    pub content_at_horizon : content_after (on_ground G W time ++ X) (length G) ≡ content_after (W ++ X) time
    content_at_horizon =
        let k = length G in
        let kept = map kept_slot (drop time W) in
        let all : length (map Some G) ≡ k = length-map G Some in
        let ground_first : k ≤ length (on_ground G W time) = omega (arith, all, length-append (map Some G) kept) in
        ap (λ ws. content_at ws k) (later_slots_change_nothing (on_ground G W time) X k ground_first)
        ∙ ap (λ ws. content_at ws k) (later_slots_change_nothing (map Some G) kept k (omega (arith, all)))
        ∙ sym (content_after_is_kept (map Some G) k (omega (arith, all)))
        ∙ leaves
        ∙ content_after_is_kept W time early
        ∙ ap (λ ws. content_at ws time) (sym (later_slots_change_nothing W X time early))

    -- from the horizon on the contents are the same
    pub contents_alike : (n : ℕ) → time ≤ n → content_after (on_ground G W time ++ X) (moved time (length G) n) ≡ content_after (W ++ X) n
    contents_alike = later_times (λ m n. content_after V m ≡ content_after (W ++ X) n) time (length G) content_at_horizon next
      where
        V : Slots
        V = on_ground G W time ++ X

        next : (n : ℕ) → time ≤ n → content_after V (moved time (length G) n) ≡ content_after (W ++ X) n →
            content_after V (suc (moved time (length G) n)) ≡ content_after (W ++ X) (suc n)
        next n later same =
            let m = moved time (length G) n in
            next_by_slot V m
            ∙ slots_alike (λ s. content_after_slot s (content_after V m)) refl n later
            ∙ ap (content_after_slot (slot_after (W ++ X) n)) same
            ∙ sym (next_by_slot (W ++ X) n)

-- from the horizon on the contents are those of the slots that haven't forgotten
pub forgetting_keeps_contents : ForgettingKeepsContents
forgetting_keeps_contents W G time u leaves later within =
    let m = moved time (length G) u in
    let early : time ≤ length W = omega (arith, later, within) in
    let as_long = length-on_ground W G time [] early in
    let long_enough : m ≤ length (on_ground G W time) = omega (arith, as_long, within, length-append (on_ground G W time) [], length-append W []) in
    content_after_is_kept (on_ground G W time) m long_enough
    ∙ ap (λ V. content_after V m) (sym (append-nil (on_ground G W time)))
    ∙ contents_alike W G time [] early leaves u later
    ∙ ap (λ V. content_after V u) (append-nil W)
    ∙ sym (content_after_is_kept W u within)
