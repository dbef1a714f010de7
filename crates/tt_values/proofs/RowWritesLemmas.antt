-- The laws of slots: their row writes, and the contents that these leave.
use Rattle.std.proofs.Common.{sym, length-append, ◌≡◌, ℕ, zero, suc, ◌+◌, ◌<◌, ◌≤◌, Bool, true, false, cond, nat_le, List, [], ◌∷◌, ◌++◌, map, filter, length, Option, None, Some, slice_get, refl, ap, ◌∙◌, arith, append-nil, zero-add, fold, ◌-◌}
use Rattle.std.proofs.lemmas.List.Sums.{fold-append}
use Rattle.std.proofs.lemmas.Bool.Decides.{nat_tests}
use Rattle.std.specs.Option.{unwrap_or}
use Rattle.tt_values.specs.declared.row.Row.{Row}
use Rattle.tt_values.specs.declared.action.Action.{Action}
use Rattle.tt_values.specs.Content.{Content, RowWrite, with_row_write, content_at, empty_content, up_to}
use Rattle.tt_values.specs.declared.row_id.RowId.{RowId}
use Rattle.tt_values.specs.Action.{effect_of_action}
use Rattle.tt_values.specs.RowWrites.{Slots, slot_after, slot_writes, row_writes}
use Rattle.tt_values.specs.Laws.{SlotsFollow, LaterSlotsChangeNothing, PastStays, LastContentStays, NextContent, EarlierSlotsStay, AddedSlotIsNext, AddedSlotLeavesPast}

slice_get-append_left : {X : Type 0} → (xs ys : List X) (i : ℕ) → i < length xs → slice_get (xs ++ ys) i ≡ slice_get xs i
slice_get-append_left [] ys i h = absurd (omega arith)
slice_get-append_left (x ∷ xs) ys zero h = refl
slice_get-append_left (x ∷ xs) ys (suc i) h = slice_get-append_left xs ys i (omega arith)

slice_get-append_at : {X : Type 0} → (xs ys : List X) → slice_get (xs ++ ys) (length xs) ≡ slice_get ys 0
slice_get-append_at [] ys = refl
slice_get-append_at (x ∷ xs) ys = slice_get-append_at xs ys

pub earlier_slots_stay : EarlierSlotsStay
earlier_slots_stay W V n h = ap (λ s. unwrap_or s None) (slice_get-append_left W V n h)

pub added_slot_is_next : AddedSlotIsNext
added_slot_is_next W s = ap (λ s. unwrap_or s None) (slice_get-append_at W (s ∷ []))

pub later_slots_change_nothing : LaterSlotsChangeNothing
unfolding row_writes
later_slots_change_nothing W V zero h = refl
later_slots_change_nothing W V (suc n) h =
    let same = later_slots_change_nothing W V n (omega arith) in
    let slot = earlier_slots_stay W V n (omega arith) in
    λ i. same i ++ slot_writes (suc n) (slot i) (content_at (same i) n)

pub slots_follow : SlotsFollow
unfolding row_writes
slots_follow W s =
    let n = length W in
    let same = later_slots_change_nothing W (s ∷ []) n (omega arith) in
    (refl, λ i. same i ++ slot_writes (suc n) (added_slot_is_next W s i) (content_at (same i) n))

filter-append : {X : Type 0} → (p : X → Bool) (xs ys : List X) → filter p (xs ++ ys) ≡ filter p xs ++ filter p ys
filter-append p [] ys = refl
filter-append p (x ∷ xs) ys =
    elim (p x) as (λ b. cond b (x ∷ filter p (xs ++ ys)) (filter p (xs ++ ys)) ≡ cond b (x ∷ filter p xs) (filter p xs) ++ filter p ys) [
      | true ↦ ap (λ zs. x ∷ zs) (filter-append p xs ys)
      | false ↦ filter-append p xs ys
    ]

nat_le-false : (time later : ℕ) → time < later → nat_le later time ≡ false
nat_le-false time later h = grind (arith, nat_tests)

-- row writes at a later time aren't among those up to an earlier time
up_to-before_effect : (time later : ℕ) → time < later → (es : List (RowId × Option Row)) → up_to time (map (λ e. record { time = later; table = e.0.table; key = e.0.key; row = e.1 }) es) ≡ []
up_to-before_effect time later h [] = refl
up_to-before_effect time later h (e ∷ es) =
    let rest = map (λ (d : RowId × Option Row). record { time = later; table = d.0.table; key = d.0.key; row = d.1 }) es in
    let first : RowWrite = record { time = later; table = e.0.table; key = e.0.key; row = e.1 } in
    ap (λ b. cond b (first ∷ up_to time rest) (up_to time rest)) (nat_le-false time later h) ∙ up_to-before_effect time later h es

up_to-before_slot : (time later : ℕ) → time < later → (s : Option Action) (X : Content) → up_to time (slot_writes later s X) ≡ []
up_to-before_slot time later h None X = refl
up_to-before_slot time later h (Some action) X = up_to-before_effect time later h (effect_of_action action X)

up_to-suc : (W : Slots) (n time : ℕ) → time ≤ n → up_to time (row_writes W (suc n)) ≡ up_to time (row_writes W n)
unfolding row_writes
up_to-suc W n time h =
    filter-append (λ w. nat_le w.time time) (row_writes W n) (slot_writes (suc n) (slot_after W n) (content_at (row_writes W n) n))
    ∙ ap (λ ws. up_to time (row_writes W n) ++ ws) (up_to-before_slot time (suc n) (omega arith) (slot_after W n) (content_at (row_writes W n) n))
    ∙ append-nil (up_to time (row_writes W n))

up_to-more : (W : Slots) (n more time : ℕ) → time ≤ n → up_to time (row_writes W (more + n)) ≡ up_to time (row_writes W n)
up_to-more W n zero time h = ap (λ m. up_to time (row_writes W m)) (zero-add n)
up_to-more W n (suc more) time h =
    let next : suc more + n ≡ suc (more + n) = omega arith in
    ap (λ m. up_to time (row_writes W m)) next ∙ up_to-suc W (more + n) time (omega arith) ∙ up_to-more W n more time h

pub past_stays : PastStays
past_stays W n m time early later =
    let sum : m ≡ (m - n) + n = omega arith in
    ap (λ k. content_at (row_writes W k) time) sum ∙ ap (fold with_row_write empty_content) (up_to-more W n (m - n) time early)

nat_le-true : (time earlier : ℕ) → earlier ≤ time → nat_le earlier time ≡ true
nat_le-true time earlier h = grind (arith, nat_tests)

-- row writes at an earlier time are among those up to a later time
up_to-after_effect : (time earlier : ℕ) → earlier ≤ time → (es : List (RowId × Option Row)) → let ws : List RowWrite = map (λ e. record { time = earlier; table = e.0.table; key = e.0.key; row = e.1 }) es in up_to time ws ≡ ws
up_to-after_effect time earlier h [] = refl
up_to-after_effect time earlier h (e ∷ es) =
    let rest : List RowWrite = map (λ (d : RowId × Option Row). record { time = earlier; table = d.0.table; key = d.0.key; row = d.1 }) es in
    let first : RowWrite = record { time = earlier; table = e.0.table; key = e.0.key; row = e.1 } in
    ap (λ b. cond b (first ∷ up_to time rest) (up_to time rest)) (nat_le-true time earlier h) ∙ ap (λ r. first ∷ r) (up_to-after_effect time earlier h es)

up_to-after_slot : (time earlier : ℕ) → earlier ≤ time → (s : Option Action) (X : Content) → up_to time (slot_writes earlier s X) ≡ slot_writes earlier s X
up_to-after_slot time earlier h None X = refl
up_to-after_slot time earlier h (Some action) X = up_to-after_effect time earlier h (effect_of_action action X)

-- the row writes of n slots are at times up to n
up_to-all : (W : Slots) (n time : ℕ) → n ≤ time → up_to time (row_writes W n) ≡ row_writes W n
unfolding row_writes
up_to-all W zero time h = refl
up_to-all W (suc n) time h =
    let new_writes = slot_writes (suc n) (slot_after W n) (content_at (row_writes W n) n) in
    filter-append (λ w. nat_le w.time time) (row_writes W n) new_writes
    ∙ (λ i. up_to-all W n time (omega arith) i ++ up_to-after_slot time (suc n) h (slot_after W n) (content_at (row_writes W n) n) i)

pub last_content_stays : LastContentStays
last_content_stays W n time h = ap (fold with_row_write empty_content) (up_to-all W n time h ∙ sym (up_to-all W n n (omega arith)))

pub next_content : NextContent
unfolding row_writes
next_content W n =
    let X = content_at (row_writes W n) n in
    let new_writes = slot_writes (suc n) (slot_after W n) X in
    ap (fold with_row_write empty_content) (up_to-all W (suc n) (suc n) (omega arith))
    ∙ fold-append with_row_write empty_content (row_writes W n) new_writes
    ∙ ap (λ ws. fold with_row_write (fold with_row_write empty_content ws) new_writes) (sym (up_to-all W n n (omega arith)))

pub added_slot_leaves_past : AddedSlotLeavesPast
added_slot_leaves_past W s time h =
    let n = length W in
    let next : length (W ++ s ∷ []) ≡ suc n = omega (arith, length-append W (s ∷ [])) in
    ap (λ m. content_at (row_writes (W ++ s ∷ []) m) time) next
    ∙ past_stays (W ++ s ∷ []) n (suc n) time h (omega arith)
    ∙ ap (λ ws. content_at ws time) (later_slots_change_nothing W (s ∷ []) n (omega arith))
