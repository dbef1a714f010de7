-- The slots behind a time, one after another.
use Rattle.std.proofs.Common.{◌≡◌, ℕ, zero, suc, ◌+◌, ◌<◌, ◌≤◌, Bool, true, false, nat_lt, List, [], ◌∷◌, map, length, drop, zip, slice_get, None, Some, unwrap_or, option_and_then, if◌then◌else◌, refl, sym, ap, ◌∙◌, arith, append-nil, append_assoc}
use Rattle.std.proofs.lemmas.Bool.Decides.{nat_tests}
use Rattle.std.proofs.lemmas.List.{drop_all}
use Rattle.std.proofs.lemmas.Option.{slice_get-get_or}
use Rattle.tt_values.specs.declared.action.Action.{Action}
use Rattle.tt_values.specs.Action.{action_of}
use Rattle.tt_values.specs.RowWrites.{Slots, slot_after}
use Rattle.tt_generations.specs.declared.slot.Slot.{Slot}
use Rattle.tt_generations.specs.KeptSlots.{slot_with_replies, slot_at}
use Rattle.tt_db.specs.declared.event.Entry.{Entry}
use Rattle.tt_db.specs.Database.{Database, with_entry, now_in, current_slots, nth_item}
use Rattle.tt_db.proofs.HistoryLemmas.{not_past}
use Rattle.tt_horizon.specs.Forgetting.{workers_of, entry_of, entries_behind}
use Rattle.tt_horizon.specs.Laying.{with_entries, action_at}
use Rattle.tt_horizon.proofs.HistoryLemmas.{entry_of_pair}
use Rattle.tt_horizon.proofs.ForgettingLemmas.{as_many_workers}

drop-at : {X : Type 0} (xs : List X) (k : ℕ) (x : X) → slice_get xs k ≡ Some x → drop k xs ≡ x ∷ drop (suc k) xs
drop-at [] k x at = cc
drop-at (y ∷ xs) zero x at = let same : y ≡ x = cc in ap (λ z. z ∷ xs) same
drop-at (y ∷ xs) (suc k) x at = drop-at xs k x at

-- a slot that is there has a worker
pub has_worker : (db : Database) (before : ℕ) → before < now_in db → None ≡ nth_item (workers_of db.history) (before + 1) → ⊥
has_worker db before there none =
    let next : before + 1 ≡ suc before = omega arith in
    not_past (workers_of db.history) before (omega (arith, there, as_many_workers db)) (none ∙ ap (nth_item (workers_of db.history)) next)

action-at : (W : Slots) (n : ℕ) → n < length W → option_and_then (λ s. s.action) (slot_at W (suc n)) ≡ slot_after W n
action-at W n there = by (nat_lt n (length W)) refl
  where
    by : (b : Bool) → nat_lt n (length W) ≡ b → option_and_then (λ (s : Slot). s.action) (if b then Some (slot_with_replies W n) else None) ≡ slot_after W n
    by true is = refl
    by false is = let past : length W ≤ n = grind (arith, nat_tests) in absurd (omega (arith, past, there))

slot-there : (W : Slots) (n : ℕ) → n < length W → slice_get W n ≡ Some (slot_after W n)
slot-there W n there =
    let at = slice_get-get_or W n None there in
    at ∙ ap Some (sym (ap (λ o. unwrap_or o None) at))

-- the next slot behind a time, and those behind it
pub entries_behind-next : (db : Database) (before worker : ℕ) (action : Action) → before < now_in db → Some worker ≡ nth_item (workers_of db.history) (before + 1)
    → action ≡ action_at db (before + 1) → entries_behind db before ≡ entry_of worker action ∷ entries_behind db (before + 1)
entries_behind-next db before worker action there by_worker is =
    let W = current_slots db in
    let next : before + 1 ≡ suc before = omega arith in
    let workers = drop-at (workers_of db.history) before worker (sym (by_worker ∙ ap (nth_item (workers_of db.history)) next)) in
    let slots = drop-at W before (slot_after W before) (slot-there W before there) in
    let kept : unwrap_or (slot_after W before) (action_of []) ≡ action = sym (is ∙ ap (action_at db) next ∙ ap (λ o. unwrap_or o (action_of [])) (action-at W before there)) in
    (λ i. map entry_of_pair (zip (workers i) (slots i)))
    ∙ (λ i. entry_of worker (kept i) ∷ entries_behind db (sym next i))

-- there are none behind the last one
pub entries_behind-last : (db : Database) (time : ℕ) → now_in db ≤ time → entries_behind db time ≡ []
entries_behind-last db time last =
    let none = drop_all time (workers_of db.history) (omega (arith, last, as_many_workers db)) in
    ap (λ workers. map entry_of_pair (zip workers (drop time (current_slots db)))) none

-- ---- a database in which they are carried out

pub carried_out-next : (db next after : Database) (before worker : ℕ) (action : Action) → before < now_in db → Some worker ≡ nth_item (workers_of db.history) (before + 1)
    → action ≡ action_at db (before + 1) → after ≡ with_entry next (entry_of worker action) → with_entries after (entries_behind db (before + 1)) ≡ with_entries next (entries_behind db before)
carried_out-next db next after before worker action there by_worker is entered =
    let rest = entries_behind db (before + 1) in
    ap (λ (d : Database). with_entries d rest) entered
    ∙ ap (λ (history : List Entry). record next { history = history }) (append_assoc next.history (entry_of worker action ∷ []) rest)
    ∙ ap (with_entries next) (sym (entries_behind-next db before worker action there by_worker is))

pub carried_out-last : (db next : Database) (before : ℕ) → now_in db ≤ before → next ≡ with_entries next (entries_behind db before)
carried_out-last db next before last =
    ap (λ (history : List Entry). record next { history = history }) (sym (append-nil next.history)) ∙ ap (with_entries next) (sym (entries_behind-last db before last))
