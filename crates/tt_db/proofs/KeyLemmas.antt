-- Rows and the keys that they are stored under.
use Rattle.std.proofs.Common.{◌≡◌, ℕ, zero, suc, ◌≤◌, ◌-◌, ℤ, pos, Bool, true, false, cond, not, ◌&&◌, ◌==◌, nat_le, nat_lt, List, [], ◌∷◌, ◌++◌, map, filter, find, length, drop, fold, Option, None, Some, IsSome, is_some, Less, Equal, Greater, if◌then◌else◌, refl, sym, ap, subst, ◌∙◌, arith}
use Rattle.std.proofs.lemmas.Bool.Decides.{nat_tests}
use Rattle.std.proofs.lemmas.List.Elements.{All-from_recursion}
use Rattle.std.specs.declared.cmp.Ordering.{Ordering}
use Rattle.std.specs.Ordering.{int_cmp, int_eq, is_eq, is_lt}
use Rattle.std.specs.List.{AllByRecursion}
use Rattle.std.specs.List.Sorted.{IsStrictlySortedBy}
use Rattle.std.specs.Option.{option_map, option_or, unwrap_or}
use Rattle.std.specs.FinMap.{int_cmp-IsAntisymmetric}
use Rattle.std.specs.FinMap.Entries as sorted
use Rattle.std.specs.FinMap.Entries.{by_order}
use Rattle.tt_values.specs.declared.row.Row.{Row}
use Rattle.tt_values.specs.declared.statement.Change.{Change}
use Rattle.tt_values.specs.declared.statement.Select.{Select}
use Rattle.tt_values.specs.declared.statement.Write.{Write}
use Rattle.tt_values.specs.declared.statement.Write.TheVariants.{Insert, Update, Delete}
use Rattle.tt_values.specs.declared.action.Action.{Action}
use Rattle.tt_values.specs.declared.checking.CheckError.{CheckError}
use Rattle.tt_values.specs.declared.checking.CheckError.TheVariants as faults
use Rattle.tt_values.specs.Row.{first_int, key_of}
use Rattle.tt_values.specs.Tables.{Tables, IsCatalog}
use Rattle.tt_values.specs.Limits.{max_writes}
use Rattle.tt_values.specs.Check.{write_fault, first_write_fault, action_fault}
use Rattle.tt_values.specs.Change.{changed}
use Rattle.tt_values.specs.Matches.{matches}
use Rattle.tt_values.specs.Content.{RowsByKey, Content, RowWrite, row_at, with_row_at, with_row_write, content_at}
use Rattle.tt_values.specs.Effect.{table_of, matching_rows, effect_on, effect, answer_of}
use Rattle.tt_values.specs.Action.{with_rows_at, content_after_write, content_after_writes, is_undone, content_after_action}
use Rattle.tt_values.specs.ActionLaws.{IsByRisingKey}
use Rattle.tt_values.specs.RowWrites.{Slots, row_writes, slot_writes, slot_after, content_of}
use Rattle.tt_values.proofs.LawProofs.{rows_rise, next_content, past_stays, last_content_stays, action_leaves_its_last_content, accepted_inserts_have_keys, accepted_updates_keep_keys}
use Rattle.tt_db.specs.declared.limits.Limits.{Limits}
use Rattle.tt_db.specs.declared.event.Event.{Event}
use Rattle.tt_db.specs.declared.event.Event.TheVariants as events
use Rattle.tt_db.specs.declared.event.Entry.{Entry}
use Rattle.tt_repair_laws.specs.declared.edit.Edit.{Edit}
use Rattle.tt_repair_laws.specs.declared.edit.Edit.TheVariants.{Cancel, Replace}
use Rattle.tt_repair_laws.specs.Edits.{edit_of, slot_with_edit, edited_slots_from, edited_slots}
use Rattle.tt_generations.specs.KeptSlots.{IsAccepted}
use Rattle.tt_generations.specs.TwoGenerations.{Phase, Idle, Repairing, phase_after_step, slots_edited_by, done_of, next_content_at}
use Rattle.tt_db.specs.State.{State, ClosedGeneration, start, after, current_at, next_at, slots_in, next_state, edits_of, with_closed, edits_fault, refusal, IsLegal, IsLegalFrom}
use Rattle.tt_db.specs.RightAnswers.{RowsHaveRisingKeys}
use Rattle.tt_db.proofs.RefusalLemmas.{accepted_action, accepted_begin}

both_true-left : (a b : Bool) → (a && b) ≡ true → a ≡ true
both_true-left true b h = refl
both_true-left false b h = h

both_true-right : (a b : Bool) → (a && b) ≡ true → b ≡ true
both_true-right true b h = h
both_true-right false b h = cc

is_lt-Less : (o : Ordering) → is_lt o ≡ true → o ≡ Less
is_lt-Less Less h = refl
is_lt-Less Equal h = cc
is_lt-Less Greater h = cc

-- each row has the key that it is stored under
abbrev pub AllKeyed : RowsByKey → Type 0
AllKeyed [] = Unit {0}
AllKeyed (e ∷ es) = (first_int e.1.values ≡ Some e.0) × AllKeyed es

-- where a row is, it has that key
abbrev IsKeyed : ℤ → Option Row → Type 0
IsKeyed key None = Unit {0}
IsKeyed key (Some row) = first_int row.values ≡ Some key

abbrev AllPairsKeyed : List (ℤ × Option Row) → Type 0
AllPairsKeyed [] = Unit {0}
AllPairsKeyed (e ∷ es) = IsKeyed e.0 e.1 × AllPairsKeyed es

AllKeyed-put : (es : RowsByKey) (key : ℤ) (row : Row) → AllKeyed es → first_int row.values ≡ Some key → AllKeyed (sorted.put int_cmp key row es)
AllKeyed-put [] key row h k = (k, tt)
AllKeyed-put (e ∷ es) key row h k = by (int_cmp key e.0) refl (AllKeyed-put es key row h.1 k)
  where
    by : (o : Ordering) → int_cmp key e.0 ≡ o → AllKeyed (sorted.put int_cmp key row es) → AllKeyed (by_order o ((key, row) ∷ e ∷ es) ((e.0, row) ∷ es) (e ∷ sorted.put int_cmp key row es))
    by Less p rest = (k, h)
    by Equal p rest = (k ∙ ap Some (int_cmp-IsAntisymmetric key e.0 p), h.1)
    by Greater p rest = (h.0, rest)

pub AllKeyed-filter : (p : ℤ × Row → Bool) (es : RowsByKey) → AllKeyed es → AllKeyed (filter p es)
AllKeyed-filter p [] h = tt
AllKeyed-filter p (e ∷ es) h = by (p e) (AllKeyed-filter p es h.1)
  where
    by : (b : Bool) → AllKeyed (filter p es) → AllKeyed (cond b (e ∷ filter p es) (filter p es))
    by true rest = (h.0, rest)
    by false rest = rest

AllKeyed-with_row_at : (rows : RowsByKey) (key : ℤ) (row : Option Row) → AllKeyed rows → IsKeyed key row → AllKeyed (with_row_at rows key row)
AllKeyed-with_row_at rows key None h k = AllKeyed-filter (λ e. not (int_eq e.0 key)) rows h
AllKeyed-with_row_at rows key (Some row) h k = AllKeyed-put rows key row h k

-- the row at a key has that key
pub AllKeyed-row_at : (es : RowsByKey) (key : ℤ) (row : Row) → AllKeyed es → row_at es key ≡ Some row → first_int row.values ≡ Some key
AllKeyed-row_at [] key row h e = cc
AllKeyed-row_at (x ∷ es) key row h e = by (int_cmp key x.0) refl (AllKeyed-row_at es key row h.1) e
  where
    by : (o : Ordering) → int_cmp key x.0 ≡ o → (row_at es key ≡ Some row → first_int row.values ≡ Some key) → cond (is_eq o) (Some x.1) (row_at es key) ≡ Some row → first_int row.values ≡ Some key
    by Less p rest f = rest f
    by Equal p rest f =
        let same : x.1 ≡ row = cc in
        let at : key ≡ x.0 = int_cmp-IsAntisymmetric key x.0 p in
        ap (λ r. first_int r.values) (sym same) ∙ h.0 ∙ ap Some (sym at)
    by Greater p rest f = rest f

-- each table of a content has its rows under their keys
abbrev pub IsKeyedContent : Content → Type 0
IsKeyedContent X = (table : ℕ) → AllKeyed (X table)

AllKeyed-fold : (pairs : List (ℤ × Option Row)) (rows : RowsByKey) → AllKeyed rows → AllPairsKeyed pairs → AllKeyed (fold (λ rs e. with_row_at rs e.0 e.1) rows pairs)
AllKeyed-fold [] rows h k = h
AllKeyed-fold (e ∷ es) rows h k = AllKeyed-fold es (with_row_at rows e.0 e.1) (AllKeyed-with_row_at rows e.0 e.1 h k.0) k.1

IsKeyedContent-with_rows_at : (table : ℕ) (pairs : List (ℤ × Option Row)) (X : Content) → IsKeyedContent X → AllPairsKeyed pairs → IsKeyedContent (with_rows_at table pairs X)
IsKeyedContent-with_rows_at table pairs X h k t = by (t == table)
  where
    by : (b : Bool) → AllKeyed (if b then fold (λ rs e. with_row_at rs e.0 e.1) (X t) pairs else X t)
    by true = AllKeyed-fold pairs (X t) (h t) k
    by false = h t

key_of-first_int : (row : Row) → IsSome (first_int row.values) → first_int row.values ≡ Some (key_of row)
key_of-first_int row h = by (first_int row.values) h
  where
    by : (o : Option ℤ) → IsSome o → o ≡ Some (unwrap_or o (pos 0))
    by None e = cc
    by (Some n) e = refl

AllPairsKeyed-update : (changes : List Change) → ((row : Row) → first_int (changed row changes).values ≡ first_int row.values)
    → (es : RowsByKey) → AllKeyed es → AllPairsKeyed (map (λ e. (e.0, Some (changed e.1 changes))) es)
AllPairsKeyed-update changes same [] h = tt
AllPairsKeyed-update changes same (e ∷ es) h = (same e.1 ∙ h.0, AllPairsKeyed-update changes same es h.1)

AllPairsKeyed-delete : (es : RowsByKey) → AllPairsKeyed (map (λ e. (e.0, None)) es)
AllPairsKeyed-delete [] = tt
AllPairsKeyed-delete (e ∷ es) = (tt, AllPairsKeyed-delete es)

-- a write without a fault writes rows with their keys
AllPairsKeyed-effect_on : (tables : Tables) (w : Write) (rows : RowsByKey) → IsCatalog tables → write_fault tables w ≡ None → AllKeyed rows → AllPairsKeyed (effect_on w rows)
AllPairsKeyed-effect_on tables (Insert table row) rows catalog none h = by (is_some (row_at rows (key_of row)))
  where
    by : (b : Bool) → AllPairsKeyed (if b then [] else (key_of row, Some row) ∷ [])
    by true = tt
    by false = (key_of-first_int row (accepted_inserts_have_keys tables table row catalog none), tt)
AllPairsKeyed-effect_on tables (Update table changes equals) rows catalog none h =
    AllPairsKeyed-update changes (λ row. accepted_updates_keep_keys tables table changes equals row none) (matching_rows equals rows)
    (AllKeyed-filter (λ e. matches equals e.1) rows h)
AllPairsKeyed-effect_on tables (Delete table equals) rows catalog none h = AllPairsKeyed-delete (matching_rows equals rows)

-- a content after a write without a fault, after some without one, and after an action without one
IsKeyedContent-after_write : (tables : Tables) (w : Write) (X : Content) → IsCatalog tables → write_fault tables w ≡ None → IsKeyedContent X → IsKeyedContent (content_after_write w X)
IsKeyedContent-after_write tables w X catalog none h =
    IsKeyedContent-with_rows_at (table_of w) (effect w X) X h (AllPairsKeyed-effect_on tables w (X (table_of w)) catalog none (h (table_of w)))

abbrev HaveNoFaults : Tables → List Write → Type 0
HaveNoFaults tables [] = Unit {0}
HaveNoFaults tables (w ∷ ws) = (write_fault tables w ≡ None) × HaveNoFaults tables ws

HaveNoFaults-first : (tables : Tables) (ws : List Write) → first_write_fault tables ws ≡ None → HaveNoFaults tables ws
HaveNoFaults-first tables [] none = tt
HaveNoFaults-first tables (w ∷ ws) none = by (write_fault tables w) none (HaveNoFaults-first tables ws)
  where
    by : (fault : Option CheckError) → option_or fault (first_write_fault tables ws) ≡ None → (first_write_fault tables ws ≡ None → HaveNoFaults tables ws) → (fault ≡ None) × HaveNoFaults tables ws
    by None h rest = (refl, rest h)
    by (Some e) h rest = cc

HaveNoFaults-action : (tables : Tables) (ws : List Write) → action_fault tables ws ≡ None → HaveNoFaults tables ws
HaveNoFaults-action tables ws none = by (nat_lt max_writes (length ws)) none
  where
    by : (b : Bool) → (if b then Some faults.TooManyWrites else first_write_fault tables ws) ≡ None → HaveNoFaults tables ws
    by true h = cc
    by false h = HaveNoFaults-first tables ws h

IsKeyedContent-after_writes : (tables : Tables) (ws : List Write) (X : Content) → IsCatalog tables → HaveNoFaults tables ws → IsKeyedContent X → IsKeyedContent (content_after_writes ws X)
IsKeyedContent-after_writes tables [] X catalog none h = h
IsKeyedContent-after_writes tables (w ∷ ws) X catalog none h =
    IsKeyedContent-after_writes tables ws (content_after_write w X) catalog none.1 (IsKeyedContent-after_write tables w X catalog none.0 h)

IsKeyedContent-after_action : (tables : Tables) (action : Action) (X : Content) → IsCatalog tables → HaveNoFaults tables action.writes → IsKeyedContent X → IsKeyedContent (content_after_action action X)
IsKeyedContent-after_action tables action X catalog none h = by (is_undone action X)
  where
    by : (b : Bool) → IsKeyedContent (content_after_writes (if b then [] else action.writes) X)
    by true = h
    by false = IsKeyedContent-after_writes tables action.writes X catalog none h

-- the actions of slots have no faults
abbrev AllAccepted : Tables → Slots → Type 0
AllAccepted tables [] = Unit {0}
AllAccepted tables (s ∷ W) = IsAccepted tables s × AllAccepted tables W

AllAccepted-push : (tables : Tables) (W : Slots) (s : Option Action) → AllAccepted tables W → IsAccepted tables s → AllAccepted tables (W ++ s ∷ [])
AllAccepted-push tables [] s h a = (a, tt)
AllAccepted-push tables (x ∷ W) s h a = (h.0, AllAccepted-push tables W s h.1 a)

slot_after-AllAccepted : (tables : Tables) (W : Slots) (n : ℕ) → AllAccepted tables W → IsAccepted tables (slot_after W n)
slot_after-AllAccepted tables [] n h = tt
slot_after-AllAccepted tables (s ∷ W) zero h = h.0
slot_after-AllAccepted tables (s ∷ W) (suc n) h = slot_after-AllAccepted tables W n h.1

-- slots stay so with edits whose actions have no faults
IsAccepted-edit : (tables : Tables) (E : List Edit) (t : ℕ) (s : Option Action) → edits_fault tables E ≡ None → IsAccepted tables s → IsAccepted tables (slot_with_edit (edit_of E t) s)
IsAccepted-edit tables [] t s none h = h
IsAccepted-edit tables (Cancel k ∷ E) t s none h = by (k == t) (IsAccepted-edit tables E t s none h)
  where
    by : (b : Bool) → IsAccepted tables (slot_with_edit (edit_of E t) s) → IsAccepted tables (slot_with_edit (if b then Some (Cancel k) else edit_of E t) s)
    by true rest = tt
    by false rest = rest
IsAccepted-edit tables (Replace k action ∷ E) t s none h = by (action_fault tables action.writes) refl none (λ rest. IsAccepted-edit tables E t s rest h)
  where
    at : (b : Bool) → action_fault tables action.writes ≡ None → IsAccepted tables (slot_with_edit (edit_of E t) s) → IsAccepted tables (slot_with_edit (if b then Some (Replace k action) else edit_of E t) s)
    at true is others = is
    at false is others = others

    by : (fault : Option CheckError) → action_fault tables action.writes ≡ fault → option_or fault (edits_fault tables E) ≡ None
        → (edits_fault tables E ≡ None → IsAccepted tables (slot_with_edit (edit_of E t) s))
        → IsAccepted tables (slot_with_edit (if k == t then Some (Replace k action) else edit_of E t) s)
    by None is rest others = at (k == t) is (others rest)
    by (Some e) is rest others = cc

AllAccepted-edits : (tables : Tables) (E : List Edit) (t : ℕ) (W : Slots) → edits_fault tables E ≡ None → AllAccepted tables W → AllAccepted tables (edited_slots_from t W E)
AllAccepted-edits tables E t [] none h = tt
AllAccepted-edits tables E t (s ∷ W) none h = (IsAccepted-edit tables E t s none h.0, AllAccepted-edits tables E (suc t) W none h.1)

-- the actions of a legal history have no faults, nor have those of the edits
abbrev HasAcceptedEdits : Tables → Phase → Type 0
HasAcceptedEdits tables Idle = Unit {0}
HasAcceptedEdits tables (Repairing edits n) = edits_fault tables edits ≡ None

-- nor have those of closed generations
abbrev AllClosedAccepted : Tables → List ClosedGeneration → Type 0
AllClosedAccepted tables [] = Unit {0}
AllClosedAccepted tables (c ∷ closed) = AllAccepted tables c.slots × AllClosedAccepted tables closed

AllClosedAccepted-drop : (tables : Tables) (n : ℕ) (closed : List ClosedGeneration) → AllClosedAccepted tables closed → AllClosedAccepted tables (drop n closed)
AllClosedAccepted-drop tables zero closed h = h
AllClosedAccepted-drop tables (suc n) [] h = tt
AllClosedAccepted-drop tables (suc n) (c ∷ closed) h = AllClosedAccepted-drop tables n closed h.1

AllClosedAccepted-push : (tables : Tables) (closed : List ClosedGeneration) (c : ClosedGeneration) → AllClosedAccepted tables closed → AllAccepted tables c.slots
    → AllClosedAccepted tables (closed ++ c ∷ [])
AllClosedAccepted-push tables [] c h a = (a, tt)
AllClosedAccepted-push tables (d ∷ closed) c h a = (h.0, AllClosedAccepted-push tables closed c h.1 a)

AllClosedAccepted-with : (tables : Tables) (keep : ℕ) (closed : List ClosedGeneration) (c : ClosedGeneration) → AllClosedAccepted tables closed
    → AllAccepted tables c.slots → AllClosedAccepted tables (with_closed keep closed c)
AllClosedAccepted-with tables keep closed c h a =
    let all = closed ++ c ∷ [] in
    AllClosedAccepted-drop tables (length all - keep) all (AllClosedAccepted-push tables closed c h a)

record IsAcceptedState (tables : Tables) (S : State) : Type 0 where
  slots : AllAccepted tables S.slots
  edits : HasAcceptedEdits tables S.phase
  closed : AllClosedAccepted tables S.closed

edits-step : (tables : Tables) (phase : Phase) → HasAcceptedEdits tables phase → HasAcceptedEdits tables (phase_after_step phase)
edits-step tables Idle h = tt
edits-step tables (Repairing edits n) h = h

slots-switch : (tables : Tables) (phase : Phase) (W : Slots) → HasAcceptedEdits tables phase → AllAccepted tables W → AllAccepted tables (slots_edited_by phase W)
slots-switch tables Idle W edits h = h
slots-switch tables (Repairing E n) W edits h = AllAccepted-edits tables E 1 W edits h

IsAcceptedState-next : (tables : Tables) (limits : Limits) (S : State) (event : Event) → refusal tables limits S event ≡ None → IsAcceptedState tables S → IsAcceptedState tables (next_state limits S event)
IsAcceptedState-next tables limits S (events.Write action) accepted h = record {
  slots = AllAccepted-push tables S.slots (Some action) h.slots (accepted_action tables limits S action accepted).no_fault;
  edits = h.edits;
  closed = h.closed;
}
IsAcceptedState-next tables limits S (events.Begin edits) accepted h = record { slots = h.slots; edits = (accepted_begin tables limits S edits accepted).no_fault; closed = h.closed }
IsAcceptedState-next tables limits S events.Step accepted h = record { slots = h.slots; edits = edits-step tables S.phase h.edits; closed = h.closed }
IsAcceptedState-next tables limits S events.Switch accepted h = record {
  slots = slots-switch tables S.phase S.slots h.edits h.slots;
  edits = tt;
  closed = AllClosedAccepted-with tables limits.keep S.closed (record { number = S.generation; slots = S.slots; edits = edits_of S.phase }) h.closed h.slots;
}
IsAcceptedState-next tables limits S events.Abort accepted h = record { slots = h.slots; edits = tt; closed = h.closed }

IsAcceptedState-legal : (tables : Tables) (limits : Limits) (S : State) (history : List Entry) → IsLegalFrom tables limits S history → IsAcceptedState tables S
    → IsAcceptedState tables (fold (λ T e. next_state limits T e.event) S history)
IsAcceptedState-legal tables limits S [] legal h = h
IsAcceptedState-legal tables limits S (e ∷ history) legal h =
    IsAcceptedState-legal tables limits (next_state limits S e.event) history legal.1 (IsAcceptedState-next tables limits S e.event legal.0 h)

IsAcceptedState-after : (tables : Tables) (limits : Limits) (history : List Entry) → IsLegal tables limits history → IsAcceptedState tables (after limits history)
IsAcceptedState-after tables limits history legal = IsAcceptedState-legal tables limits start history legal (record { slots = tt; edits = tt; closed = tt })

IsKeyedContent-slot : (tables : Tables) (s : Option Action) (time : ℕ) (X : Content) → IsCatalog tables → IsAccepted tables s → IsByRisingKey X → IsKeyedContent X
    → IsKeyedContent (fold with_row_write X (slot_writes time s X))
IsKeyedContent-slot tables None time X catalog a rising h = h
IsKeyedContent-slot tables (Some action) time X catalog a rising h =
    subst IsKeyedContent (sym (action_leaves_its_last_content time action X rising)) (IsKeyedContent-after_action tables action X catalog (HaveNoFaults-action tables action.writes a) h)

IsKeyedContent-slots : (tables : Tables) (W : Slots) (n : ℕ) → IsCatalog tables → AllAccepted tables W → IsKeyedContent (content_at (row_writes W n) n)
unfolding row_writes
IsKeyedContent-slots tables W zero catalog h = λ t. tt
IsKeyedContent-slots tables W (suc n) catalog h =
    let X = content_at (row_writes W n) n in
    subst IsKeyedContent (sym (next_content W n))
    (IsKeyedContent-slot tables (slot_after W n) (suc n) X catalog (slot_after-AllAccepted tables W n h) (rows_rise (row_writes W n) n) (IsKeyedContent-slots tables W n catalog h))

-- at every time
IsKeyedContent-at : (tables : Tables) (W : Slots) (n time : ℕ) → IsCatalog tables → AllAccepted tables W → IsKeyedContent (content_at (row_writes W n) time)
IsKeyedContent-at tables W n time catalog h = by (nat_le time n) refl
  where
    by : (b : Bool) → nat_le time n ≡ b → IsKeyedContent (content_at (row_writes W n) time)
    by true e =
        let past : time ≤ n = grind (arith, nat_tests) in
        subst IsKeyedContent (sym (past_stays W time n time (omega arith) past)) (IsKeyedContent-slots tables W time catalog h)
    by false e =
        let later : n ≤ time = grind (arith, nat_tests) in
        subst IsKeyedContent (sym (last_content_stays W n time later)) (IsKeyedContent-slots tables W n catalog h)

IsKeyedContent-content_of : (tables : Tables) (W : Slots) (time : ℕ) → IsCatalog tables → AllAccepted tables W → IsKeyedContent (content_of W time)
IsKeyedContent-content_of tables W time catalog h = IsKeyedContent-at tables W (length W) time catalog h

pub IsKeyedContent-legal : (tables : Tables) (limits : Limits) (history : List Entry) (time : ℕ) → IsCatalog tables → IsLegal tables limits history → IsKeyedContent (current_at (after limits history) time)
IsKeyedContent-legal tables limits history time catalog legal =
    IsKeyedContent-content_of tables (after limits history).slots time catalog (IsAcceptedState-after tables limits history legal).slots

-- the rows of a list that match have rising keys, where the list is by rising key
all_above : (p : ℤ × Row → Bool) (key : ℤ) (es : RowsByKey) → sorted.below_all int_cmp key es ≡ true → AllKeyed es
    → AllByRecursion (λ k. int_cmp key k ≡ Less) (map key_of (map (λ e. e.1) (filter p es)))
all_above p key [] below h = tt
all_above p key (e ∷ es) below h = by (p e) (all_above p key es (both_true-right _ _ below) h.1)
  where
    first : int_cmp key (key_of e.1) ≡ Less
    first = ap (λ o. int_cmp key (unwrap_or o (pos 0))) h.0 ∙ is_lt-Less (int_cmp key e.0) (both_true-left _ _ below)

    by : (b : Bool) → AllByRecursion (λ k. int_cmp key k ≡ Less) (map key_of (map (λ e. e.1) (filter p es)))
        → AllByRecursion (λ k. int_cmp key k ≡ Less) (map key_of (map (λ e. e.1) (cond b (e ∷ filter p es) (filter p es))))
    by true rest = (first, rest)
    by false rest = rest

keys_rise : (p : ℤ × Row → Bool) (es : RowsByKey) → sorted.is_sorted int_cmp es ≡ true → AllKeyed es
    → IsStrictlySortedBy int_cmp (map key_of (map (λ e. e.1) (filter p es)))
unfolding IsStrictlySortedBy
keys_rise p [] rise h = tt
keys_rise p (e ∷ es) rise h = by (p e) (keys_rise p es (both_true-right _ _ rise) h.1)
  where
    above : AllByRecursion (λ k. int_cmp (key_of e.1) k ≡ Less) (map key_of (map (λ x. x.1) (filter p es)))
    above = subst (λ k. AllByRecursion (λ l. int_cmp k l ≡ Less) (map key_of (map (λ x. x.1) (filter p es)))) (sym (ap (λ o. unwrap_or o (pos 0)) h.0))
        (all_above p e.0 es (both_true-left _ _ rise) h.1)

    by : (b : Bool) → IsStrictlySortedBy int_cmp (map key_of (map (λ x. x.1) (filter p es)))
        → IsStrictlySortedBy int_cmp (map key_of (map (λ x. x.1) (cond b (e ∷ filter p es) (filter p es))))
    by true rest = (above, rest)
    by false rest = rest

have_keys : (es : RowsByKey) → AllKeyed es → AllByRecursion (λ r. IsSome (first_int r.values)) (map (λ e. e.1) es)
have_keys [] h = tt
have_keys (e ∷ es) h = (subst IsSome (sym h.0) refl, have_keys es h.1)

RowsHaveRisingKeys-content : (q : Select) (ws : List RowWrite) (time : ℕ) → IsKeyedContent (content_at ws time) → RowsHaveRisingKeys (answer_of q (content_at ws time))
RowsHaveRisingKeys-content q ws time keyed =
    let rows = content_at ws time q.table in
    let p : ℤ × Row → Bool = λ e. matches q.equals e.1 in
    record {
      keyed = All-from_recursion (λ r. IsSome (first_int r.values)) (map (λ e. e.1) (filter p rows)) (have_keys (filter p rows) (AllKeyed-filter p rows (keyed q.table)));
      rising = keys_rise p rows (rows_rise ws time q.table) (keyed q.table);
    }

-- the reply to a select has rising keys, at each time
pub RowsHaveRisingKeys-current : (tables : Tables) (limits : Limits) (history : List Entry) (q : Select) (time : ℕ)
    → IsCatalog tables → IsLegal tables limits history → RowsHaveRisingKeys (answer_of q (current_at (after limits history) time))
RowsHaveRisingKeys-current tables limits history q time catalog legal =
    let W = (after limits history).slots in
    RowsHaveRisingKeys-content q (row_writes W (length W)) time (IsKeyedContent-legal tables limits history time catalog legal)

-- in each generation that can be read
AllAccepted-find : (tables : Tables) (test : ClosedGeneration → Bool) (closed : List ClosedGeneration) (W : Slots) → AllClosedAccepted tables closed
    → option_map (λ c. c.slots) (find test closed) ≡ Some W → AllAccepted tables W
AllAccepted-find tables test [] W h is = cc
AllAccepted-find tables test (c ∷ closed) W h is = by (test c) is (AllAccepted-find tables test closed W h.1)
  where
    by : (b : Bool) → option_map (λ c. c.slots) (cond b (Some c) (find test closed)) ≡ Some W
        → (option_map (λ c. c.slots) (find test closed) ≡ Some W → AllAccepted tables W) → AllAccepted tables W
    by true found rest = let same : c.slots ≡ W = cc in subst (AllAccepted tables) same h.0
    by false found rest = rest found

AllAccepted-slots_in : (tables : Tables) (S : State) (number : ℕ) (W : Slots) → IsAcceptedState tables S → slots_in S number ≡ Some W → AllAccepted tables W
AllAccepted-slots_in tables S number W h is = by (number == S.generation) is
  where
    by : (b : Bool) → (if b then Some S.slots else option_map (λ c. c.slots) (find (λ c. c.number == number) S.closed)) ≡ Some W → AllAccepted tables W
    by true found = let same : S.slots ≡ W = cc in subst (AllAccepted tables) same h.slots
    by false found = AllAccepted-find tables (λ c. c.number == number) S.closed W h.closed found

pub IsKeyedContent-in : (tables : Tables) (limits : Limits) (history : List Entry) (number : ℕ) (W : Slots) (time : ℕ)
    → IsCatalog tables → IsLegal tables limits history → slots_in (after limits history) number ≡ Some W → IsKeyedContent (content_of W time)
IsKeyedContent-in tables limits history number W time catalog legal is =
    IsKeyedContent-content_of tables W time catalog (AllAccepted-slots_in tables (after limits history) number W (IsAcceptedState-after tables limits history legal) is)

pub RowsHaveRisingKeys-in : (tables : Tables) (limits : Limits) (history : List Entry) (number : ℕ) (W : Slots) (q : Select) (time : ℕ)
    → IsCatalog tables → IsLegal tables limits history → slots_in (after limits history) number ≡ Some W → RowsHaveRisingKeys (answer_of q (content_of W time))
RowsHaveRisingKeys-in tables limits history number W q time catalog legal is =
    RowsHaveRisingKeys-content q (row_writes W (length W)) time (IsKeyedContent-in tables limits history number W time catalog legal is)

-- and in the next generation, at each time
keyed_next_at : (tables : Tables) (phase : Phase) (W : Slots) (time : ℕ) → IsCatalog tables → AllAccepted tables W → HasAcceptedEdits tables phase → IsKeyedContent (next_content_at phase W time)
keyed_next_at tables Idle W time catalog slots edits = IsKeyedContent-content_of tables W time catalog slots
keyed_next_at tables (Repairing E n) W time catalog slots edits = IsKeyedContent-at tables (edited_slots W E) n time catalog (AllAccepted-edits tables E 1 W edits slots)

of_next_at : (phase : Phase) (W : Slots) (time : ℕ) (q : Select) → IsKeyedContent (next_content_at phase W time) → RowsHaveRisingKeys (answer_of q (next_content_at phase W time))
of_next_at Idle W time q keyed = RowsHaveRisingKeys-content q (row_writes W (length W)) time keyed
of_next_at (Repairing E n) W time q keyed = RowsHaveRisingKeys-content q (row_writes (edited_slots W E) n) time keyed

pub RowsHaveRisingKeys-next_at : (tables : Tables) (limits : Limits) (history : List Entry) (q : Select) (time : ℕ) → IsCatalog tables → IsLegal tables limits history
    → RowsHaveRisingKeys (answer_of q (next_at (after limits history) time))
RowsHaveRisingKeys-next_at tables limits history q time catalog legal =
    let S = after limits history in
    let accepted = IsAcceptedState-after tables limits history legal in
    of_next_at S.phase S.slots time q (keyed_next_at tables S.phase S.slots time catalog accepted.slots accepted.edits)

-- and at the last slot done
pub IsKeyedContent-next : (tables : Tables) (limits : Limits) (history : List Entry) → IsCatalog tables → IsLegal tables limits history
    → IsKeyedContent (next_at (after limits history) (done_of (after limits history).phase))
IsKeyedContent-next tables limits history catalog legal =
    let S = after limits history in
    let accepted = IsAcceptedState-after tables limits history legal in
    keyed_next_at tables S.phase S.slots (done_of S.phase) catalog accepted.slots accepted.edits

pub RowsHaveRisingKeys-next : (tables : Tables) (limits : Limits) (history : List Entry) (q : Select) → IsCatalog tables → IsLegal tables limits history
    → RowsHaveRisingKeys (answer_of q (next_at (after limits history) (done_of (after limits history).phase)))
RowsHaveRisingKeys-next tables limits history q catalog legal =
    RowsHaveRisingKeys-next_at tables limits history q (done_of (after limits history).phase) catalog legal
