-- What was asked for at each slot, and the slots that there are.
use Rattle.std.proofs.Common.{◌≡◌, ℕ, zero, suc, ◌+◌, ◌-◌, ◌<◌, ◌≤◌, nat_lt, Bool, true, false, if◌then◌else◌, List, [], ◌∷◌, ◌++◌, length, slice_get, min, Option, None, Some, Result, Ok, Err, IfOk, refl, sym, ap, ◌∙◌, arith, append-nil, append_assoc, length-append}
use Rattle.std.proofs.lemmas.Bool.Decides.{nat_tests}
use Rattle.std.specs.Prelude.{filter_map, option_map, option_and_then}
use Rattle.std.specs.List.{range_with_len, cons_option}
use Rattle.std.specs.Option.{option_to_list}
use Rattle.tt_values.specs.declared.action.Action.{Action}
use Rattle.tt_values.specs.RowWrites.{Slots}
use Rattle.tt_generations.specs.declared.slot.Slot.{Slot}
use Rattle.tt_generations.specs.KeptSlots.{slot_at, slot_with_replies}
use Rattle.tt_db.specs.declared.event.Event.{Event}
use Rattle.tt_db.specs.declared.event.Event.TheVariants as events
use Rattle.tt_db.specs.declared.event.Entry.{Entry}
use Rattle.tt_db.specs.Database.{Database, nth_item, now_in, slot_of, place_of, current_slots}
use Rattle.tt_db.specs.History.{write_places}
use Rattle.tt_requests.specs.declared.request.SlotFilter.{SlotFilter}
use Rattle.tt_answers.specs.declared.answer.SlotEntry.{SlotEntry}
use Rattle.tt_commands.specs.Session.{OpenSession, stamp_of}
use Rattle.tt_commands.specs.SlotEntries.{Asked, asked_for, action_of, asked_by, asked_in, asked_action, slot_entry, entry_of_slot, if_asked_for, asked_entry, slot_entries}

-- ---- what was asked for

-- what an entry asks for
abbrev pub asked_of : Entry → Option Asked
asked_of e = asked_by e.worker e.event

-- what the entry at a place asks for
abbrev pub asked_at : List Entry → Option ℕ → Option Asked
asked_at H place = option_and_then (λ p. option_and_then asked_of (nth_item H p)) place

get-behind : (front : List Entry) (e : Entry) (rest : List Entry) → slice_get (front ++ e ∷ rest) (length front) ≡ Some e
get-behind [] e rest = refl
get-behind (d ∷ front) e rest = get-behind front e rest

-- the places behind one more entry
behind-one : (front H : List Entry) (e : Entry) (j : ℕ)
    → slice_get (asked_in H) j ≡ asked_at ((front ++ e ∷ []) ++ H) (slice_get (write_places (suc (length (front ++ e ∷ []))) H) j)
    → slice_get (asked_in H) j ≡ asked_at (front ++ e ∷ H) (slice_get (write_places (suc (suc (length front))) H) j)
behind-one front H e j is =
    let longer : suc (length (front ++ e ∷ [])) ≡ suc (suc (length front)) = omega (arith, length-append front (e ∷ [])) in
    is ∙ ap (λ G. asked_at G (slice_get (write_places (suc (length (front ++ e ∷ []))) H) j)) (append_assoc front (e ∷ []) H)
    ∙ ap (λ n. asked_at (front ++ e ∷ H) (slice_get (write_places n H) j)) longer

-- an entry of a worker
abbrev entry_of : ℕ → Event → Entry
entry_of worker event = record { worker = worker; event = event }

-- the writes of a history stand at their places, behind other entries
asked-behind : (front H : List Entry) (k : ℕ) → slice_get (asked_in H) k ≡ asked_at (front ++ H) (slice_get (write_places (suc (length front)) H) k)
asked-behind front [] k = refl
asked-behind front (e ∷ H) k = by e.worker e.event k (λ j. asked-behind (front ++ e ∷ []) H j)
  where
    by : (w : ℕ) (event : Event) (k : ℕ)
        → ((j : ℕ) → slice_get (asked_in H) j ≡ asked_at ((front ++ entry_of w event ∷ []) ++ H) (slice_get (write_places (suc (length (front ++ entry_of w event ∷ []))) H) j))
        → slice_get (asked_in (entry_of w event ∷ H)) k ≡ asked_at (front ++ entry_of w event ∷ H) (slice_get (write_places (suc (length front)) (entry_of w event ∷ H)) k)
    by w (events.Write action) zero rest = sym (ap (option_and_then asked_of) (get-behind front (entry_of w (events.Write action)) H))
    by w (events.Write action) (suc k) rest = behind-one front H (entry_of w (events.Write action)) k (rest k)
    by w (events.Begin edits) k rest = behind-one front H (entry_of w (events.Begin edits)) k (rest k)
    by w events.Step k rest = behind-one front H (entry_of w events.Step) k (rest k)
    by w events.Switch k rest = behind-one front H (entry_of w events.Switch) k (rest k)
    by w events.Abort k rest = behind-one front H (entry_of w events.Abort) k (rest k)

-- what was asked for at a slot is what the entry at its place asks for
pub asked-nth : (H : List Entry) (number : ℕ) → nth_item (asked_in H) number ≡ asked_at H (nth_item (write_places 1 H) number)
asked-nth H zero = refl
asked-nth H (suc k) = asked-behind [] H k

-- nothing was asked for at a slot that isn't there
pub no_action_asked : (db : Database) (number : ℕ) (place : Option ℕ) → place ≡ place_of db number → asked_at db.history place ≡ None → None ≡ asked_action db number
no_action_asked db number place is none =
    ap (option_map (λ (a : Asked). a.action)) (sym (asked-nth db.history number ∙ ap (asked_at db.history) (sym is) ∙ none))

action-asked : (worker : ℕ) (action : Option Action) → option_map (λ (a : Asked). a.action) (option_map (asked_for worker) action) ≡ action
action-asked worker None = refl
action-asked worker (Some action) = refl

-- the action of the entry at its place was asked for at a slot
pub entry_action_asked : (db : Database) (number p : ℕ) (place : Option ℕ) (e : Entry) → place ≡ place_of db number → place ≡ Some p → nth_item db.history p ≡ Some e
    → action_of e.event ≡ asked_action db number
entry_action_asked db number p place e is there entry =
    let asked : nth_item (asked_in db.history) number ≡ option_map (asked_for e.worker) (action_of e.event) =
    asked-nth db.history number ∙ ap (asked_at db.history) (sym is ∙ there) ∙ ap (option_and_then asked_of) entry in
    sym (ap (option_map (λ (a : Asked). a.action)) asked ∙ action-asked e.worker (action_of e.event))

no_slot_entry : (number : ℕ) (stamp : Option ℕ) (slot : Option Slot) → None ≡ option_and_then (λ s. option_map (slot_entry number stamp s) None) slot
no_slot_entry number stamp None = refl
no_slot_entry number stamp (Some slot) = refl

-- nothing is told of a slot for which nothing was asked
pub none_asked : (db : Database) (number : ℕ) (stamp : Option ℕ) (place : Option ℕ) → place ≡ place_of db number → asked_at db.history place ≡ None → None ≡ entry_of_slot db number stamp
none_asked db number stamp place is none =
    let asked : nth_item (asked_in db.history) number ≡ None = asked-nth db.history number ∙ ap (asked_at db.history) (sym is) ∙ none in
    no_slot_entry number stamp (slot_of db number) ∙ ap (λ a. option_and_then (λ s. option_map (slot_entry number stamp s) a) (slot_of db number)) (sym asked)

-- what is told of a slot
pub entry_asked : (db : Database) (number p : ℕ) (stamp : Option ℕ) (place : Option ℕ) (e : Entry) (action : Action) (slot : Slot) → place ≡ place_of db number → place ≡ Some p
    → nth_item db.history p ≡ Some e → action_of e.event ≡ Some action → slot_of db number ≡ Some slot
    → Some (slot_entry number stamp slot (asked_for e.worker action)) ≡ entry_of_slot db number stamp
entry_asked db number p stamp place e action slot is there entry asks slot_is =
    let asked : nth_item (asked_in db.history) number ≡ Some (asked_for e.worker action) =
    asked-nth db.history number ∙ ap (asked_at db.history) (sym is ∙ there) ∙ ap (option_and_then asked_of) entry ∙ ap (option_map (asked_for e.worker)) asks in
    sym ((λ i. option_and_then (λ s. option_map (slot_entry number stamp s) (asked i)) (slot_is i)))

-- ---- the slots from one number to another

-- there is no slot after the last one
pub no_slot_past : (W : Slots) (number : ℕ) → length W < number → slot_at W number ≡ None
no_slot_past W zero past = absurd (omega (arith, past))
no_slot_past W (suc n) past =
    let test : nat_lt n (length W) ≡ false = grind (arith, nat_tests, past) in
    ap (λ b. if b then Some (slot_with_replies W n) else None) test

no_entry_past : (session : OpenSession) (filter : SlotFilter) (number : ℕ) → now_in session.database < number → asked_entry session filter number ≡ None
no_entry_past session filter number past =
    ap (λ s. option_and_then (if_asked_for session.database filter) (option_and_then (λ slot. option_map (slot_entry number (stamp_of session number) slot) (nth_item (asked_in session.database.history) number)) s))
    (no_slot_past (current_slots session.database) number past)

no_entries_past : (session : OpenSession) (filter : SlotFilter) (number count : ℕ) → now_in session.database < number
    → filter_map (asked_entry session filter) (range_with_len number count) ≡ []
no_entries_past session filter number zero past = refl
no_entries_past session filter number (suc count) past =
    ap (λ o. cons_option o (filter_map (asked_entry session filter) (range_with_len (number + 1) count))) (no_entry_past session filter number past)
    ∙ no_entries_past session filter (number + 1) count (omega (arith, past))

-- nothing is told of slots behind the last one
pub entries-past : (session : OpenSession) (from to : ℕ) (filter : SlotFilter) → now_in session.database < from → slot_entries session from to filter ≡ []
entries-past session from to filter past = no_entries_past session filter from (to + 1 - from) past

-- nothing is told where there are no numbers
pub entries-none : (session : OpenSession) (from to : ℕ) (filter : SlotFilter) → to < from → slot_entries session from to filter ≡ []
entries-none session from to filter none =
    let no_numbers : to + 1 - from ≡ 0 = omega (arith, none) in
    ap (λ n. filter_map (asked_entry session filter) (range_with_len from n)) no_numbers

-- one number, and then the others
pub entries-next : (session : OpenSession) (from to : ℕ) (filter : SlotFilter) → from ≤ to
    → slot_entries session from to filter ≡ cons_option (asked_entry session filter from) (slot_entries session (from + 1) to filter)
entries-next session from to filter some =
    let more : to + 1 - from ≡ suc (to + 1 - (from + 1)) = omega (arith, some) in
    ap (λ n. filter_map (asked_entry session filter) (range_with_len from n)) more

-- the slots that are left are none at the end
pub entries-end : (session : OpenSession) (number to : ℕ) (filter : SlotFilter) → min to (now_in session.database) < number → slot_entries session number to filter ≡ []
entries-end session number to filter past = by (nat_lt to number) refl
  where
    by : (b : Bool) → nat_lt to number ≡ b → slot_entries session number to filter ≡ []
    by true is = let none : to < number = grind (arith, nat_tests, is) in entries-none session number to filter none
    by false is = let some : number ≤ to = grind (arith, nat_tests, is) in entries-past session number to filter (omega (arith, past, some))

-- the entries so far, with that of one number more
pub entries-push : {X : Type 0} (entries whole rest : List X) (o : Option X) → entries ++ cons_option o rest ≡ whole → (entries ++ option_to_list o) ++ rest ≡ whole
entries-push entries whole rest None is = ap (λ es. es ++ rest) (append-nil entries) ∙ is
entries-push entries whole rest (Some e) is = append_assoc entries (e ∷ []) rest ∙ is

-- a list that is made of these items
pub made : {E : Type 0} (r : Result (List SlotEntry) E) (entries whole : List SlotEntry) → entries ≡ whole → IfOk r (λ l. l ≡ entries) → IfOk r (λ l. l ≡ whole)
made (Ok l) entries whole all is = is ∙ all
made (Err e) entries whole all is = tt
