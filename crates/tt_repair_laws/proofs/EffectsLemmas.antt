-- The rows that a slot doesn't write.
use Rattle.std.proofs.Common.{◌≡◌, ℕ, ℤ, Bool, true, false, cond, ◌||◌, List, [], ◌∷◌, map, fold, Option, None, Some, is_some, if◌then◌else◌, refl, sym, ap, ◌∙◌, true≢false}
use Rattle.std.specs.List.{list_any}
use Rattle.std.proofs.lemmas.Bool.{or_parts}
use Rattle.std.proofs.lemmas.List.Folds.{list_any-append}
use Rattle.std.proofs.lemmas.Simd.{map-map}
use Rattle.tt_values.specs.declared.row.Row.{Row}
use Rattle.tt_values.specs.declared.statement.Write.{Write}
use Rattle.tt_values.specs.declared.action.Action.{Action}
use Rattle.tt_values.specs.declared.statement.Write.TheVariants.{Insert, Update, Delete}
use Rattle.tt_values.specs.Row.{key_of}
use Rattle.tt_values.specs.Change.{changed}
use Rattle.tt_values.specs.Content.{Content, RowWrite, row_at, with_row_write, for_key, last_row_written_or}
use Rattle.tt_values.specs.Effect.{matching_rows}
use Rattle.tt_values.specs.declared.row_id.RowId.{RowId}
use Rattle.tt_values.specs.Action.{content_after_write, rows_of_write, rows_of_writes, is_among, effect_of_action, action_writes, tried, kept, is_undone}
use Rattle.tt_values.specs.RowWrites.{slot_writes}
use Rattle.tt_values.proofs.LawProofs.{last_row_write_counts, writes_write_each_row_once, all_writes_are_tried}
use Rattle.tt_repair_laws.specs.Due.{rows_matched, rows_matched_by, slot_rows_written, slot_rows_touched, slot_rows_matched}
use Rattle.tt_repair_laws.specs.Steps.{WrittenRowsAreTouched, WrittenRowsAreMatched, UpdatesAndDeletesWriteWhatTheyMatch}
use Rattle.tt_repair_laws.proofs.RowListsLemmas.{list_none-append}
use Rattle.tt_repair_laws.proofs.DirtyLemmas.{is_row}

abbrev id : ℕ → ℤ → RowId
id table key = record { table = table; key = key }

-- an effect without a row has no row write for it
for_key-none : (time : ℕ) (es : List (RowId × Option Row)) (table : ℕ) (key : ℤ) → is_among (id table key) (map (λ e. e.0) es) ≡ false →
    for_key table key (map (λ e. record { time = time; table = e.0.table; key = e.0.key; row = e.1 }) es) ≡ []
for_key-none time [] table key h = refl
for_key-none time (e ∷ es) table key h =
    let rest : List RowWrite = map (λ (d : RowId × Option Row). record { time = time; table = d.0.table; key = d.0.key; row = d.1 }) es in
    let first : RowWrite = record { time = time; table = e.0.table; key = e.0.key; row = e.1 } in
    ap (λ b. cond b (first ∷ for_key table key rest) (for_key table key rest)) (or_parts _ _ h).0 ∙ for_key-none time es table key (or_parts _ _ h).1

-- a row that a slot doesn't write stays the same
pub row_at-unwritten : (time : ℕ) (s : Option Action) (X : Content) (table : ℕ) (key : ℤ) → list_any (is_row table key) (slot_rows_written s X) ≡ false → row_at (fold with_row_write X (slot_writes time s X) table) key ≡ row_at (X table) key
row_at-unwritten time None X table key h = refl
row_at-unwritten time (Some action) X table key h =
    let once = writes_write_each_row_once (kept action X) X in
    let none = once.1 (id table key) ∙ h in
    last_row_write_counts (action_writes time action X) X table key
    ∙ ap (last_row_written_or (row_at (X table) key)) (for_key-none time (effect_of_action action X) table key none)

-- rows that agree still agree after the same row writes
pub row_at-agree : (ws : List RowWrite) (X Y : Content) (table : ℕ) (key : ℤ) → row_at (X table) key ≡ row_at (Y table) key → row_at (fold with_row_write X ws table) key ≡ row_at (fold with_row_write Y ws table) key
row_at-agree ws X Y table key h = last_row_write_counts ws X table key ∙ ap (λ d. last_row_written_or d (for_key table key ws)) h ∙ sym (last_row_write_counts ws Y table key)

unmatched_unwritten-insert : (b : Bool) (of : ℕ) (k : ℤ) (row : Row) (table : ℕ) (key : ℤ) → list_any (is_row table key) (id of k ∷ []) ≡ false →
    let es : List (ℤ × Option Row) = if b then [] else (k, Some row) ∷ [] in list_any (is_row table key) (map (λ e. id of e.0) es) ≡ false
unmatched_unwritten-insert true of k row table key h = refl
unmatched_unwritten-insert false of k row table key h = h

-- a write doesn't write a row that it doesn't match
unmatched_unwritten : (w : Write) (X : Content) (table : ℕ) (key : ℤ) → list_any (is_row table key) (rows_matched w X) ≡ false → list_any (is_row table key) (rows_of_write w X) ≡ false
unmatched_unwritten (Insert of row) X table key h = unmatched_unwritten-insert (is_some (row_at (X of) (key_of row))) of (key_of row) row table key h
unmatched_unwritten (Update of cs qs) X table key h = ap (list_any (is_row table key)) (map-map (λ e. id of e.0) (λ e. (e.0, Some (changed e.1 cs))) (matching_rows qs (X of))) ∙ h
unmatched_unwritten (Delete of qs) X table key h = ap (list_any (is_row table key)) (map-map (λ e. id of e.0) (λ e. (e.0, None)) (matching_rows qs (X of))) ∙ h

pub written_rows_are_matched : WrittenRowsAreMatched
written_rows_are_matched w X table key h = by (list_any (is_row table key) (rows_matched w X)) refl
  where
    by : (b : Bool) → list_any (is_row table key) (rows_matched w X) ≡ b → list_any (is_row table key) (rows_matched w X) ≡ true
    by true e = e
    by false e = absurd (true≢false (sym h ∙ unmatched_unwritten w X table key e))

pub updates_and_deletes_write_what_they_match : UpdatesAndDeletesWriteWhatTheyMatch
updates_and_deletes_write_what_they_match of cs qs X = (
  sym (map-map (λ e. id of e.0) (λ e. (e.0, Some (changed e.1 cs))) (matching_rows qs (X of))),
  sym (map-map (λ e. id of e.0) (λ e. (e.0, None)) (matching_rows qs (X of))),
)

-- writes don't write a row that none of them matches in its turn
writes_unmatched_unwritten : (ws : List Write) (X : Content) (table : ℕ) (key : ℤ) → list_any (is_row table key) (rows_matched_by ws X) ≡ false → list_any (is_row table key) (rows_of_writes ws X) ≡ false
writes_unmatched_unwritten [] X table key h = refl
writes_unmatched_unwritten (w ∷ ws) X table key h =
    let next = content_after_write w X in
    let both = list_none-append (is_row table key) (rows_matched w X) (rows_matched_by ws next) h in
    let first = unmatched_unwritten w X table key both.0 in
    let rest = writes_unmatched_unwritten ws next table key both.1 in
    list_any-append (is_row table key) (rows_of_write w X) (rows_of_writes ws next)
    ∙ (λ i. first i || rest i)

-- a slot doesn't touch a row that its writes don't match, and doesn't write one that it doesn't touch
pub slot_unmatched_untouched : (s : Option Action) (X : Content) (table : ℕ) (key : ℤ) → list_any (is_row table key) (slot_rows_matched s X) ≡ false → list_any (is_row table key) (slot_rows_touched s X) ≡ false
slot_unmatched_untouched None X table key h = refl
slot_unmatched_untouched (Some action) X table key h = writes_unmatched_unwritten (tried action X) X table key h

pub slot_untouched_unwritten : (s : Option Action) (X : Content) (table : ℕ) (key : ℤ) → list_any (is_row table key) (slot_rows_touched s X) ≡ false → list_any (is_row table key) (slot_rows_written s X) ≡ false
slot_untouched_unwritten None X table key h = refl
slot_untouched_unwritten (Some action) X table key h = by (is_undone action X) refl
  where
    by : (b : Bool) → is_undone action X ≡ b → list_any (is_row table key) (rows_of_writes (cond b [] action.writes) X) ≡ false
    by true e = refl
    by false e = ap (λ ws. list_any (is_row table key) (rows_of_writes ws X)) (sym (all_writes_are_tried action X e)) ∙ h

pub row_at-untouched : (time : ℕ) (s : Option Action) (X : Content) (table : ℕ) (key : ℤ) → list_any (is_row table key) (slot_rows_touched s X) ≡ false → row_at (fold with_row_write X (slot_writes time s X) table) key ≡ row_at (X table) key
row_at-untouched time s X table key h = row_at-unwritten time s X table key (slot_untouched_unwritten s X table key h)

-- a test passes where another does that fails where it fails
passes_if : (b c : Bool) → (c ≡ false → b ≡ false) → b ≡ true → c ≡ true
passes_if b true fails h = refl
passes_if b false fails h = absurd (true≢false (sym h ∙ fails refl))

pub written_rows_are_touched : WrittenRowsAreTouched
written_rows_are_touched s X table key = (
  passes_if (list_any (is_row table key) (slot_rows_written s X)) (list_any (is_row table key) (slot_rows_touched s X)) (slot_untouched_unwritten s X table key),
  passes_if (list_any (is_row table key) (slot_rows_touched s X)) (list_any (is_row table key) (slot_rows_matched s X)) (slot_unmatched_untouched s X table key),
)
