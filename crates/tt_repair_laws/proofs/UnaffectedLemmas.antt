-- Actions that aren't affected do the same on two contents, where a dirty set tracks how these differ.
use Rattle.std.proofs.Common.{◌≡◌, ℕ, ℤ, Bool, true, false, ◌&&◌, ◌==◌, List, [], ◌∷◌, ◌++◌, map, fold, length, cond, ◌||◌, Option, None, Some, if◌then◌else◌, IsTrue, refl, sym, ap, ◌∙◌, append-nil, int_cmp, int_eq, true≢false}
use Rattle.std.specs.List.{list_any}
use Rattle.std.specs.FinMap.Entries as sorted
use Rattle.std.proofs.lemmas.Bool.{or_parts, or_left, or_right, and_from, eq-eqb, false_from_ne_true}
use Rattle.std.proofs.lemmas.Bool.Decides.{Decides-int_eq}
use Rattle.std.proofs.lemmas.List.{map-id}
use Rattle.std.proofs.lemmas.Simd.{map-map}
use Rattle.tt_values.specs.declared.row.Row.{Row}
use Rattle.tt_values.specs.declared.statement.Write.{Write}
use Rattle.tt_values.specs.declared.action.Action.{Action}
use Rattle.tt_values.specs.Tables.{Tables}
use Rattle.tt_values.specs.Content.{RowsByKey, Content, RowWrite, row_at, with_row_at, with_row_write}
use Rattle.tt_values.specs.Effect.{table_of, effect}
use Rattle.tt_values.specs.declared.row_id.RowId.{RowId}
use Rattle.tt_values.specs.Action.{content_after_write, content_after_writes, replies_of_writes, rows_of_write, rows_of_writes, is_among, each_row_once, effect_of_writes, effect_at_time, has_no_effect, one_has_no_effect, up_to_no_effect, tried, kept, is_undone}
use Rattle.tt_values.specs.ActionLaws.{IsByRisingKey}
use Rattle.tt_values.specs.RowWrites.{slot_writes, slot_replies}
use Rattle.tt_values.proofs.LawProofs.{rows_stay_by_rising_key, writes_leave_their_last_content, action_of_one_write, writes_write_each_row_once, all_writes_are_tried}
use Rattle.tt_parts.specs.Dirty.{DirtySet, has_row}
use Rattle.tt_repair_laws.specs.Due.{is_write_affected, is_affected, is_slot_affected, slot_rows_written, slot_rows_touched}
use Rattle.tt_repair_laws.proofs.DirtyLemmas.{is_row, clean_rows_differ}
use Rattle.tt_repair_laws.proofs.EffectsLemmas.{row_at-unwritten, row_at-untouched}
use Rattle.tt_repair_laws.proofs.AffectedLemmas.{are_affected, are_affected-first, tried_unaffected}
use Rattle.tt_repair_laws.proofs.TrackingLemmas.{Tracks, unaffected, Tracks-same_writes}

-- the rows still rise after some keys are set, or removed
rising_after_all : (es : List (ℤ × Option Row)) (rows : RowsByKey) → IsTrue (sorted.is_sorted int_cmp rows) → IsTrue (sorted.is_sorted int_cmp (fold (λ rows e. with_row_at rows e.0 e.1) rows es))
rising_after_all [] rows h = h
rising_after_all (e ∷ es) rows h = rising_after_all es (with_row_at rows e.0 e.1) (rows_stay_by_rising_key rows e.0 e.1 h)

-- and after a write
rising_after_write : (w : Write) (X : Content) → IsByRisingKey X → IsByRisingKey (content_after_write w X)
rising_after_write w X rising table = by (table == table_of w)
  where
    by : (b : Bool) → IsTrue (sorted.is_sorted int_cmp (if b then fold (λ rows e. with_row_at rows e.0 e.1) (X table) (effect w X) else X table))
    by true = rising_after_all (effect w X) (X table) (rising table)
    by false = rising table

-- an effect on a table, as row writes at time 0
abbrev writes_of : ℕ → List (ℤ × Option Row) → List RowWrite
writes_of table es = map (λ e. record { time = 0; table = table; key = e.0; row = e.1 }) es

-- the content after a write is the one after the row writes of its effect
after_write : (w : Write) (X : Content) → IsByRisingKey X → content_after_write w X ≡ fold with_row_write X (writes_of (table_of w) (effect w X))
after_write w X rising =
    let one = action_of_one_write 0 w false X rising in
    sym (writes_leave_their_last_content 0 (w ∷ []) X rising) ∙ ap (fold with_row_write X) one.0

-- a row that a write doesn't write stays the same
row_at-after_write : (w : Write) (X : Content) → IsByRisingKey X → (table : ℕ) (key : ℤ) → list_any (is_row table key) (rows_of_write w X) ≡ false → row_at (content_after_write w X table) key ≡ row_at (X table) key
row_at-after_write w X rising table key none =
    ap (λ Z. row_at (Z table) key) (sym (writes_leave_their_last_content 0 (w ∷ []) X rising))
    ∙ row_at-unwritten 0 (Some (record { writes = w ∷ []; whole = false })) X table key (ap (list_any (is_row table key)) (append-nil (rows_of_write w X)) ∙ none)

-- a row is the same as itself
itself : (r : RowId) → ((r.table == r.table) && int_eq r.key r.key) ≡ true
itself r = and_from _ _ (eq-eqb r.table r.table refl) ((Decides-int_eq r.key r.key).1 refl)

-- images of a list under functions that agree on its rows
map-agree : {A : Type 0} → (f g : RowId → A) (rs : List RowId) → ((r : RowId) → is_among r rs ≡ true → f r ≡ g r) → map f rs ≡ map g rs
map-agree f g [] h = refl
map-agree f g (r ∷ rs) h =
    let here = h r (or_left _ _ (itself r)) in
    let rest = map-agree f g rs (λ s among. h s (or_right _ _ among)) in
    λ i. here i ∷ rest i

-- a row is in the list with each row once exactly if it is in the list of the rows that some writes write
is_among-once : (ws : List Write) (X : Content) (r : RowId) → is_among r (each_row_once (rows_of_writes ws X)) ≡ is_among r (rows_of_writes ws X)
is_among-once ws X r =
    let rs = each_row_once (rows_of_writes ws X) in
    let row = λ (s : RowId). row_at (content_after_writes ws X s.table) s.key in
    let once = writes_write_each_row_once ws X in
    ap (is_among r) (sym (map-map (λ (e : RowId × Option Row). e.0) (λ s. (s, row s)) rs ∙ map-id rs)) ∙ once.1 r

module _ (tables : Tables) (D : DirtySet) where
  -- a set still tracks two contents after a write that isn't affected
  Tracks-after_write : (w : Write) (X Y : Content) → Tracks tables D X Y → IsByRisingKey X → IsByRisingKey Y → is_write_affected tables D w X ≡ false → Tracks tables D (content_after_write w X) (content_after_write w Y)
  Tracks-after_write w X Y tracks rising rising2 h =
      Tracks-same_writes tables D X Y tracks (writes_of (table_of w) (effect w X)) (content_after_write w X) (content_after_write w Y) (after_write w X rising)
      (after_write w Y rising2 ∙ ap (λ es. fold with_row_write Y (writes_of (table_of w) es)) same) stays
    where
      same : effect w Y ≡ effect w X
      same = (unaffected tables D X Y tracks rising rising2 w h).0

      stays : (table : ℕ) (key : ℤ) → has_row D table key ≡ true → row_at (content_after_write w Y table) key ≡ row_at (Y table) key
      stays table key dirty =
          let clean = clean_rows_differ D (rows_of_write w X) table key dirty (or_parts _ _ (or_parts _ _ h).0).0 in
          row_at-after_write w Y rising2 table key (ap (λ es. list_any (is_row table key) (map (λ e. record { table = table_of w; key = e.0 }) es)) same ∙ clean)

  -- writes write the same rows on both contents, have the same replies, and leave contents that the set tracks
  record SameWrites (ws : List Write) (X Y : Content) : Type 0 where
    rows : rows_of_writes ws Y ≡ rows_of_writes ws X
    replies : replies_of_writes ws Y ≡ replies_of_writes ws X
    tracks : Tracks tables D (content_after_writes ws X) (content_after_writes ws Y)

  unaffected_writes : (ws : List Write) (X Y : Content) → Tracks tables D X Y → IsByRisingKey X → IsByRisingKey Y → are_affected tables D ws X ≡ false → SameWrites ws X Y
  unaffected_writes [] X Y tracks rising rising2 h = record { rows = refl; replies = refl; tracks = tracks }
  unaffected_writes (w ∷ ws) X Y tracks rising rising2 h =
      let both = or_parts (is_write_affected tables D w X) (are_affected tables D ws (content_after_write w X)) (sym (are_affected-first tables D w ws X) ∙ h) in
      let first = unaffected tables D X Y tracks rising rising2 w both.0 in
      let rest = unaffected_writes ws (content_after_write w X) (content_after_write w Y) (Tracks-after_write w X Y tracks rising rising2 both.0) (rising_after_write w X rising) (rising_after_write w Y rising2) both.1 in
      record {
        rows = λ i. map (λ (e : ℤ × Option Row). record { table = table_of w; key = e.0 }) (first.0 i) ++ rest.rows i;
        replies = λ i. first.1 i ∷ rest.replies i;
        tracks = rest.tracks;
      }

  -- where the writes up to the first without an effect aren't affected, they are the same on both contents
  same_up_to : (ws : List Write) (X Y : Content) → Tracks tables D X Y → IsByRisingKey X → IsByRisingKey Y → are_affected tables D (up_to_no_effect ws X) X ≡ false →
      (up_to_no_effect ws Y ≡ up_to_no_effect ws X) × (one_has_no_effect ws Y ≡ one_has_no_effect ws X)
  same_up_to [] X Y tracks rising rising2 h = (refl, refl)
  same_up_to (w ∷ ws) X Y tracks rising rising2 h =
      by (has_no_effect w X) refl (same_up_to ws next (content_after_write w Y) (Tracks-after_write w X Y tracks rising rising2 both.0) (rising_after_write w X rising) (rising_after_write w Y rising2))
    where
      next : Content
      next = content_after_write w X

      both : (is_write_affected tables D w X ≡ false) × (are_affected tables D (cond (has_no_effect w X) [] (up_to_no_effect ws next)) next ≡ false)
      both = or_parts _ _ (sym (are_affected-first tables D w (cond (has_no_effect w X) [] (up_to_no_effect ws next)) X) ∙ h)

      same : has_no_effect w Y ≡ has_no_effect w X
      same = ap (λ (es : List (ℤ × Option Row)). length es == 0) (unaffected tables D X Y tracks rising rising2 w both.0).0

      SameRest : Type 0
      SameRest = (up_to_no_effect ws (content_after_write w Y) ≡ up_to_no_effect ws next) × (one_has_no_effect ws (content_after_write w Y) ≡ one_has_no_effect ws next)

      by : (b : Bool) → has_no_effect w X ≡ b → (are_affected tables D (up_to_no_effect ws next) next ≡ false → SameRest) →
          (up_to_no_effect (w ∷ ws) Y ≡ up_to_no_effect (w ∷ ws) X) × (one_has_no_effect (w ∷ ws) Y ≡ one_has_no_effect (w ∷ ws) X)
      by true e rest = (
        ap (λ c. w ∷ cond c [] (up_to_no_effect ws (content_after_write w Y))) (same ∙ e) ∙ sym (ap (λ c. w ∷ cond c [] (up_to_no_effect ws next)) e),
        ap (λ c. c || one_has_no_effect ws (content_after_write w Y)) (same ∙ e) ∙ sym (ap (λ c. c || one_has_no_effect ws next) e),
      )
      by false e rest =
          let others = rest (ap (λ c. are_affected tables D (cond c [] (up_to_no_effect ws next)) next) (sym e) ∙ both.1) in
          (λ i. w ∷ cond (same i) [] (others.0 i), λ i. same i || others.1 i)

  module _ (X Y : Content) (tracks : Tracks tables D X Y) (rising : IsByRisingKey X) (rising2 : IsByRisingKey Y) where
    -- the rows that writes write are clean, if they aren't affected
    written_rows_are_clean : (ws : List Write) → are_affected tables D ws X ≡ false → (r : RowId) → is_among r (rows_of_writes ws X) ≡ true → has_row D r.table r.key ≡ false
    written_rows_are_clean ws h r among = false_from_ne_true _ (λ dirty. true≢false (sym among ∙ other dirty))
      where
        other : has_row D r.table r.key ≡ true → list_any (is_row r.table r.key) (rows_of_writes ws X) ≡ false
        other dirty = clean_rows_differ D (rows_of_writes ws X) r.table r.key dirty (or_parts _ _ h).0

    -- so their last rows agree
    effect_of_writes-unaffected : (ws : List Write) → are_affected tables D ws X ≡ false → effect_of_writes ws Y ≡ effect_of_writes ws X
    effect_of_writes-unaffected ws h =
        let rows = ap (λ rs. map (row (content_after_writes ws Y)) (each_row_once rs)) same.rows in
        let last = map-agree (row (content_after_writes ws Y)) (row (content_after_writes ws X)) (each_row_once (rows_of_writes ws X)) agrees in
        rows ∙ last
      where
        same : SameWrites ws X Y
        same = unaffected_writes ws X Y tracks rising rising2 h

        row : Content → RowId → RowId × Option Row
        row Z r = (r, row_at (Z r.table) r.key)

        agrees : (r : RowId) → is_among r (each_row_once (rows_of_writes ws X)) ≡ true → row (content_after_writes ws Y) r ≡ row (content_after_writes ws X) r
        agrees r among =
            let clean = written_rows_are_clean ws h r (sym (is_among-once ws X r) ∙ among) in
            ap (λ o. (r, o)) (sym (same.tracks.agree r.table r.key clean))

    -- an action that isn't affected carries out the same writes on both contents, and is undone on both or on neither
    same_tried : (a : Action) → is_affected tables D a X ≡ false → (tried a Y ≡ tried a X) × (is_undone a Y ≡ is_undone a X)
    same_tried a h = by a.whole (tried_unaffected tables D a X h)
      where
        by : (b : Bool) → are_affected tables D (cond b (up_to_no_effect a.writes X) a.writes) X ≡ false →
            (cond b (up_to_no_effect a.writes Y) a.writes ≡ cond b (up_to_no_effect a.writes X) a.writes) × ((b && one_has_no_effect a.writes Y) ≡ (b && one_has_no_effect a.writes X))
        by true g = same_up_to a.writes X Y tracks rising rising2 g
        by false g = (refl, refl)

    -- the writes that stay of an action are none, or those that are carried out: where these aren't affected, no others are
    kept_unaffected : (a : Action) → is_affected tables D a X ≡ false → are_affected tables D (kept a X) X ≡ false
    kept_unaffected a h = by (is_undone a X) refl
      where
        by : (b : Bool) → is_undone a X ≡ b → are_affected tables D (cond b [] a.writes) X ≡ false
        by true e = refl
        by false e = ap (λ ws. are_affected tables D ws X) (sym (all_writes_are_tried a X e)) ∙ tried_unaffected tables D a X h

    same_kept : (a : Action) → is_affected tables D a X ≡ false → kept a Y ≡ kept a X
    same_kept a h = ap (λ b. cond b [] a.writes) (same_tried a h).1

    -- a slot that isn't affected has the same row writes and the same replies on both
    pub slot_writes-unaffected : (time : ℕ) (s : Option Action) → is_slot_affected tables D s X ≡ false → slot_writes time s Y ≡ slot_writes time s X
    slot_writes-unaffected time None h = refl
    slot_writes-unaffected time (Some a) h =
        ap (λ ws. effect_at_time time (effect_of_writes ws Y)) (same_kept a h) ∙ ap (effect_at_time time) (effect_of_writes-unaffected (kept a X) (kept_unaffected a h))

    pub slot_replies-unaffected : (s : Option Action) → is_slot_affected tables D s X ≡ false → slot_replies s Y ≡ slot_replies s X
    slot_replies-unaffected None h = refl
    slot_replies-unaffected (Some a) h =
        let same = unaffected_writes (tried a X) X Y tracks rising rising2 (tried_unaffected tables D a X h) in
        ap (λ ws. Some (replies_of_writes ws Y)) (same_tried a h).0 ∙ ap Some same.replies

    -- and writes and touches the same rows
    pub slot_rows_written-unaffected : (s : Option Action) → is_slot_affected tables D s X ≡ false → slot_rows_written s Y ≡ slot_rows_written s X
    slot_rows_written-unaffected None h = refl
    slot_rows_written-unaffected (Some a) h =
        let same = unaffected_writes (kept a X) X Y tracks rising rising2 (kept_unaffected a h) in
        ap (λ ws. rows_of_writes ws Y) (same_kept a h) ∙ same.rows

    pub slot_rows_touched-unaffected : (s : Option Action) → is_slot_affected tables D s X ≡ false → slot_rows_touched s Y ≡ slot_rows_touched s X
    slot_rows_touched-unaffected None h = refl
    slot_rows_touched-unaffected (Some a) h =
        let same = unaffected_writes (tried a X) X Y tracks rising rising2 (tried_unaffected tables D a X h) in
        ap (λ ws. rows_of_writes ws Y) (same_tried a h).0 ∙ same.rows

    pub unaffected_touches_clean_rows : (s : Option Action) → is_slot_affected tables D s X ≡ false → list_any (λ r. has_row D r.table r.key) (slot_rows_touched s X) ≡ false
    unaffected_touches_clean_rows None h = refl
    unaffected_touches_clean_rows (Some a) h = (or_parts _ _ h).0

    -- and the set tracks the contents after it
    pub Tracks-unaffected : (time : ℕ) (s : Option Action) (X2 Y2 : Content) → is_slot_affected tables D s X ≡ false → X2 ≡ fold with_row_write X (slot_writes time s X) → Y2 ≡ fold with_row_write Y (slot_writes time s Y) → Tracks tables D X2 Y2
    Tracks-unaffected time s X2 Y2 h is is2 =
        Tracks-same_writes tables D X Y tracks (slot_writes time s X) X2 Y2 is (is2 ∙ ap (fold with_row_write Y) (slot_writes-unaffected time s h)) stays
      where
        stays : (table : ℕ) (key : ℤ) → has_row D table key ≡ true → row_at (Y2 table) key ≡ row_at (Y table) key
        stays table key dirty =
            let none = ap (list_any (is_row table key)) (slot_rows_touched-unaffected s h) ∙ clean_rows_differ D (slot_rows_touched s X) table key dirty (unaffected_touches_clean_rows s h) in
            ap (λ Z. row_at (Z table) key) is2 ∙ row_at-untouched time s Y table key none
