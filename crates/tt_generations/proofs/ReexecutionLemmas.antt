-- A slot that is re-executed on the next side: the content that its rows show, write by write.
use Rattle.std.proofs.Common.{◌≡◌, ℕ, ◌+◌, ◌≤◌, ℤ, Bool, true, false, cond, not, ◌&&◌, ◌||◌, nat_le, ◌==◌, List, [], ◌∷◌, ◌++◌, length, Option, Some, None, is_some, if◌then◌else◌, refl, sym, ap, subst, ◌∙◌, arith, append-nil, append_assoc}
use Rattle.std.specs.List.{All}
use Rattle.std.specs.Ordering.{int_eq}
use Rattle.std.proofs.lemmas.Bool.{or_parts, or_left, or_right}
use Rattle.std.proofs.lemmas.Bool.Decides.{nat_tests, Decides-int_eq}
use Rattle.std.proofs.lemmas.List.Elements.{All-nil, All-cons}
use Rattle.std.proofs.lemmas.List.Folds.{list_any-append}
use Rattle.std.proofs.lemmas.Simd.{map-map}
use Rattle.tt_values.specs.declared.row.Row.{Row}
use Rattle.tt_values.specs.declared.statement.Write.{Write}
use Rattle.tt_values.specs.declared.action.Action.{Action}
use Rattle.tt_values.specs.declared.statement.Write.TheVariants.{Insert, Update, Delete}
use Rattle.tt_values.specs.declared.reply.Reply.{Reply}
use Rattle.tt_values.specs.Row.{key_of}
use Rattle.tt_values.specs.Change.{changed}
use Rattle.tt_values.specs.Content.{RowsByKey, Content, row_at}
use Rattle.tt_values.specs.Effect.{matching_rows, table_of, effect, effect_on, reply_on}
use Rattle.tt_values.specs.Action.{action_of, whole_of, content_after_write, content_after_writes, replies_of_writes, rows_of_write, rows_of_writes, has_no_effect, one_has_no_effect, up_to_no_effect, tried, content_after_action, replies_of}
use Rattle.tt_values.proofs.LawProofs.{all_writes_are_tried, few_writes_are_whole}
use Rattle.tt_versions.specs.declared.side.Side.TheVariants.{Next}
use Rattle.tt_versions.specs.Sides.{next_of, is_split, just_before, all_written_from, ListsRows}
use Rattle.tt_parts.specs.Dirty.{is_row_in}
use Rattle.tt_repair_laws.specs.Due.{rows_matched, rows_matched_by}
use Rattle.tt_values.specs.declared.row_id.RowId.{RowId}
use Rattle.tt_generations.specs.Effect.{IsEffect, rows_of_effect, matched_rows}
use Rattle.tt_generations.specs.Rows.{TablesByPosition, versions_at, AreSplit, SplitsRows, WritesNext, HasFewRows}
use Rattle.tt_generations.specs.Reexecution.{ReexecutionOnRows, ShowsContentBefore, AreReexecuted, IsUnderWay, HasReexecutedWrites, ReexecutesWrites, TellsNextEffect, TriesNextWrites, ReexecutesAction, Reexecutes, IsUnderWayWithFew}
use Rattle.tt_generations.proofs.ContentLemmas.{all_put, with_rows_at-unwritten, all_written_from-unwritten, all_written_from-later, all_written_from-earlier, IsByRisingKey-after_write}
use Rattle.tt_generations.proofs.RowsLemmas.{same_table}
use Rattle.tt_generations.proofs.ActionStepsLemmas.{no_effect-told, an_effect-told, tried-few}
use Rattle.tt_generations.proofs.SplitRowsLemmas.{just_before-alike, either_split}
use Rattle.tt_generations.proofs.FewRowsLemmas.{length-after_write, effect-of_few}

-- ---- rows in lists

is_row_in-append : (rows further : List RowId) (t : ℕ) (key : ℤ) → is_row_in (rows ++ further) t key ≡ (is_row_in rows t key || is_row_in further t key)
is_row_in-append rows further t key = list_any-append (λ r. (t == r.table) && int_eq key r.key) rows further

in_neither : (rows further : List RowId) (t : ℕ) (key : ℤ) → is_row_in (rows ++ further) t key ≡ false → (is_row_in rows t key ≡ false) × (is_row_in further t key ≡ false)
in_neither rows further t key h = or_parts _ _ (sym (is_row_in-append rows further t key) ∙ h)

in_first : (rows further : List RowId) (t : ℕ) (key : ℤ) → is_row_in rows t key ≡ true → is_row_in (rows ++ further) t key ≡ true
in_first rows further t key h = is_row_in-append rows further t key ∙ or_left _ _ h

-- what holds of each row in a list
All-in : (P : ℕ → ℤ → Type 0) (rows : List RowId) → ((t : ℕ) (key : ℤ) → is_row_in rows t key ≡ true → P t key) → All (λ r. P r.table r.key) rows
All-in P [] h = All-nil (λ r. P r.table r.key)
All-in P (r ∷ rows) h =
    let table : (r.table == r.table) ≡ true = grind (arith, nat_tests) in
    let key = (Decides-int_eq r.key r.key).1 refl in
    All-cons (λ r. P r.table r.key) r rows (h r.table r.key (or_left _ _ (λ i. table i && key i))) (All-in P rows (λ t key later. h t key (or_right _ _ later)))

-- what holds of each key that an effect writes holds of its pairs
All-written : (table : ℕ) (P : ℤ → Type 0) (es : List (ℤ × Option Row)) → ((key : ℤ) → is_row_in (rows_of_effect table es) table key ≡ true → P key) → All (λ e. P e.0) es
All-written table P [] h = All-nil (λ e. P e.0)
All-written table P (e ∷ es) h =
    let here : (table == table) ≡ true = grind (arith, nat_tests) in
    let there = (Decides-int_eq e.0 e.0).1 refl in
    All-cons (λ e. P e.0) e es (h e.0 (or_left _ _ (λ i. here i && there i))) (All-written table P es (λ key later. h key (or_right _ _ later)))

-- ---- the rows that a write matches

abbrev id : ℕ → ℤ → RowId
id table key = record { table = table; key = key }

matched_rows-effect : (w : Write) (X : Content) → matched_rows w (effect w X) ≡ rows_matched w X
matched_rows-effect (Insert table row) X = refl
matched_rows-effect (Update table changes equals) X = map-map (λ e. id table e.0) (λ e. (e.0, Some (changed e.1 changes))) (matching_rows equals (X table))
matched_rows-effect (Delete table equals) X = map-map (λ e. id table e.0) (λ e. (e.0, None)) (matching_rows equals (X table))

-- a write doesn't write a row that it doesn't match
unmatched_unwritten : (w : Write) (X : Content) (t : ℕ) (key : ℤ) → is_row_in (rows_matched w X) t key ≡ false → is_row_in (rows_of_effect (table_of w) (effect w X)) t key ≡ false
unmatched_unwritten (Insert table row) X t key h = by (is_some (row_at (X table) (key_of row)))
  where
    by : (b : Bool) → is_row_in (rows_of_effect table (if b then [] else (key_of row, Some row) ∷ [])) t key ≡ false
    by true = refl
    by false = h
unmatched_unwritten (Update table changes equals) X t key h =
    ap (λ rs. is_row_in rs t key) (map-map (λ e. id table e.0) (λ e. (e.0, Some (changed e.1 changes))) (matching_rows equals (X table))) ∙ h
unmatched_unwritten (Delete table equals) X t key h =
    ap (λ rs. is_row_in rs t key) (map-map (λ e. id table e.0) (λ e. (e.0, None)) (matching_rows equals (X table))) ∙ h

-- so the rows that it writes are among those that it matches
written-matched : (w : Write) (X : Content) (t : ℕ) (key : ℤ) → is_row_in (rows_of_effect (table_of w) (effect w X)) t key ≡ true → is_row_in (rows_matched w X) t key ≡ true
written-matched w X t key h = by (is_row_in (rows_matched w X) t key) refl
  where
    by : (b : Bool) → is_row_in (rows_matched w X) t key ≡ b → b ≡ true
    by true e = refl
    by false e = let clash = sym h ∙ unmatched_unwritten w X t key e in cc

-- and are split once those are
pub effect-is_split : (before after : TablesByPosition) (time most table : ℕ) (w : Write) (pairs : List (ℤ × Option Row)) (matched : List RowId) → HasFewRows before Next time most → table ≡ table_of w
    → IsEffect pairs w (next_of (versions_at before table)) time → matched ≡ matched_rows w pairs → SplitsRows before after matched time
    → All (λ e. is_split (versions_at after table) e.0 ≡ true) pairs
effect-is_split before after time most table w pairs matched has on is matches splits =
    let X = has.content in
    let same = effect-of_few before Next time most table w pairs has on is in
    let rows : matched ≡ rows_matched w X = matches ∙ ap (matched_rows w) same ∙ matched_rows-effect w X in
    let all : All (λ e. is_split (versions_at after (table_of w)) e.0 ≡ true) (effect w X) =
    All-written (table_of w) (λ key. is_split (versions_at after (table_of w)) key ≡ true) (effect w X) (λ key h.
    splits.split (table_of w) key ∙ or_left _ _ (ap (λ rs. is_row_in rs (table_of w) key) rows ∙ written-matched w X (table_of w) key h)) in
    subst (λ es. All (λ e. is_split (versions_at after table) e.0 ≡ true) es) (sym same)
    (subst (λ n. All (λ e. is_split (versions_at after n) e.0 ≡ true) (effect w X)) (sym on) all)

-- ---- rows that are re-executed

-- nothing is re-executed
AreReexecuted-none : (tables : TablesByPosition) (time : ℕ) (X : Content) → AreReexecuted tables tables [] time X
AreReexecuted-none tables time X = record { current = λ t. refl; split = λ t key. refl; next = λ t key u. refl }

module _ (before between after : TablesByPosition) (rows further : List RowId) (time : ℕ) (X Y : Content) (touched : List RowId) (start : ShowsContentBefore before time Y touched)
    (others : (t : ℕ) (key : ℤ) → is_row_in rows t key ≡ false → row_at (X t) key ≡ row_at (Y t) key) (reexecuted : AreReexecuted before between rows time X) (splits : SplitsRows between after further time) where
  -- a row that wasn't re-executed is rolled back to the row that the content has
  rolled_back : (t : ℕ) (key : ℤ) → is_row_in rows t key ≡ false → just_before time (next_of (versions_at between t) key) ≡ row_at (X t) key
  rolled_back t key none =
      let old = next_of (versions_at before t) key in
      just_before-alike time (next_of (versions_at between t) key) old (λ v earlier. reexecuted.next t key v ∙ ap (λ b. if b && nat_le time v then row_at (X t) key else old v) none)
      ∙ start.before t key ∙ sym (others t key none)

  next_split : (t : ℕ) (key : ℤ) (u : ℕ) (r : Bool) → is_row_in rows t key ≡ r → (f p : Bool) → is_split (versions_at before t) key ≡ p → (l : Bool) → nat_le time u ≡ l
      → (if f && not (r || p) && l then just_before time (next_of (versions_at between t) key) else (if r && l then row_at (X t) key else next_of (versions_at before t) key u))
      ≡ (if (r || f) && l then row_at (X t) key else next_of (versions_at before t) key u)
  next_split t key u true is true p split l later = refl
  next_split t key u true is false p split l later = refl
  next_split t key u false is true false split true later = rolled_back t key is
  next_split t key u false is true false split false later = refl
  next_split t key u false is true true split true later =
      let after_time : time ≤ u = grind (arith, nat_tests) in
      start.split t key u split after_time ∙ sym (others t key is)
  next_split t key u false is true true split false later = refl
  next_split t key u false is false p split l later = refl

  -- further rows are split, and show the same content then
  pub AreReexecuted-split : AreReexecuted before after (rows ++ further) time X
  AreReexecuted-split = record {
    current = λ t. splits.current t ∙ reexecuted.current t;
    split = λ t key.
        let p = is_split (versions_at before t) key in
        splits.split t key ∙ ap (λ b. is_row_in further t key || b) (reexecuted.split t key) ∙ either_split (is_row_in rows t key) (is_row_in further t key) p
        ∙ ap (λ b. b || p) (sym (is_row_in-append rows further t key));
    next = λ t key u.
        let p = is_split (versions_at before t) key in
        let old = next_of (versions_at before t) key in
        let back = just_before time (next_of (versions_at between t) key) in
        let r = is_row_in rows t key in
        let f = is_row_in further t key in
        let l = nat_le time u in
        splits.next t key u
        ∙ (λ i. if f && not (reexecuted.split t key i) && l then back else reexecuted.next t key u i)
        ∙ next_split t key u r refl f p refl l refl
        ∙ ap (λ b. if b && l then row_at (X t) key else old u) (sym (is_row_in-append rows further t key));
  }

module _ (before between after : TablesByPosition) (rows : List RowId) (time : ℕ) (w : Write) (X : Content)
    (within : (t : ℕ) (key : ℤ) → is_row_in rows t key ≡ false → is_row_in (rows_of_effect (table_of w) (effect w X)) t key ≡ false)
    (reexecuted : AreReexecuted before between rows time X) (writes : WritesNext between after time (table_of w) (effect w X)) where
  next_written : (t : ℕ) (key : ℤ) (u : ℕ) (b : Bool) → (t == table_of w) ≡ b → (r : Bool) → is_row_in rows t key ≡ r → (l : Bool) → nat_le time u ≡ l
      → (if b then all_written_from (effect w X) time (next_of (versions_at between (table_of w))) else next_of (versions_at between t)) key u
      ≡ (if r && l then row_at (if b then all_put (X t) (effect w X) else X t) key else next_of (versions_at before t) key u)
  next_written t key u false e r is l later = reexecuted.next t key u ∙ (λ i. if is i && later i then row_at (X t) key else next_of (versions_at before t) key u)
  next_written t key u true e true is true later =
      all_written_from-later (effect w X) time (next_of (versions_at between (table_of w))) (X t) key u later
      (ap (λ n. next_of (versions_at between n) key u) (sym (same_table t (table_of w) e)) ∙ reexecuted.next t key u
      ∙ (λ i. if is i && later i then row_at (X t) key else next_of (versions_at before t) key u))
  next_written t key u true e true is false later =
      all_written_from-earlier (effect w X) time (next_of (versions_at between (table_of w))) key u later
      ∙ ap (λ n. next_of (versions_at between n) key u) (sym (same_table t (table_of w) e)) ∙ reexecuted.next t key u
      ∙ (λ i. if is i && later i then row_at (X t) key else next_of (versions_at before t) key u)
  next_written t key u true e false is l later =
      all_written_from-unwritten (table_of w) (effect w X) time (next_of (versions_at between (table_of w))) t key u e (within t key is)
      ∙ ap (λ n. next_of (versions_at between n) key u) (sym (same_table t (table_of w) e)) ∙ reexecuted.next t key u
      ∙ ap (λ b. if b && nat_le time u then row_at (X t) key else next_of (versions_at before t) key u) is

  -- a write among the rows leaves the content after it
  pub AreReexecuted-write : AreReexecuted before after rows time (content_after_write w X)
  AreReexecuted-write = record {
    current = λ t. writes.current t ∙ reexecuted.current t;
    split = λ t key. (λ i. writes.split t i key) ∙ reexecuted.split t key;
    next = λ t key u. (λ i. writes.next t i key u) ∙ next_written t key u (t == table_of w) refl (is_row_in rows t key) refl (nat_le time u) refl;
  }

-- ---- a slot under re-execution

-- at its time all rows show its content
shows_content : (before : TablesByPosition) (time : ℕ) (Y : Content) (touched : List RowId) (run : ReexecutionOnRows) (X : Content) → IsUnderWay before time Y touched run X
    → (t : ℕ) (key : ℤ) → next_of (versions_at run.rows t) key time ≡ row_at (X t) key
shows_content before time Y touched run X under t key =
    under.rows.next t key time ∙ by (is_row_in reexecuted t key) refl (is_split (versions_at before t) key) refl (is_row_in touched t key) refl
  where
    reexecuted : List RowId
    reexecuted = run.reexecuted

    now : nat_le time time ≡ true
    now = grind (arith, nat_tests)

    by : (r : Bool) → is_row_in reexecuted t key ≡ r → (p : Bool) → is_split (versions_at before t) key ≡ p → (w : Bool) → is_row_in touched t key ≡ w
        → (if r && nat_le time time then row_at (X t) key else next_of (versions_at before t) key time) ≡ row_at (X t) key
    by true is p split w wrote = ap (λ b. if b then row_at (X t) key else next_of (versions_at before t) key time) now
    by false is true split w wrote = under.start.split t key time split (omega arith) ∙ sym (under.others t key is)
    by false is false split true wrote = let clash = sym is ∙ under.covers t key wrote in cc
    by false is false split false wrote = under.start.untouched t key split wrote ∙ sym (under.others t key is)

lists_content : (before : TablesByPosition) (time : ℕ) (Y : Content) (touched : List RowId) (run : ReexecutionOnRows) (X : Content) → IsUnderWay before time Y touched run X
    → (t : ℕ) → ListsRows (X t) (next_of (versions_at run.rows t)) time
lists_content before time Y touched run X under t = record { sorted = under.rising t; finds = λ key. sym (shows_content before time Y touched run X under t key) }

-- one write of a slot under re-execution: its effect is found, the rows that it matches are split, and the effect is written and answered
pub record CarriesOutWrite (time : ℕ) (w : Write) (run after : ReexecutionOnRows) : Type 0 where
  pub table : ℕ
  pub between : TablesByPosition
  pub pairs : List (ℤ × Option Row)
  pub reply : Reply
  pub on : table ≡ table_of w
  pub found : IsEffect pairs w (next_of (versions_at run.rows table)) time
  pub splits : SplitsRows run.rows between (matched_rows w pairs) time
  pub writes : WritesNext between after.rows time table pairs
  pub answers : (rows : RowsByKey) → pairs ≡ effect_on w rows → reply ≡ reply_on w rows
  pub replies : after.replies ≡ run.replies ++ reply ∷ []
  pub touched : after.rows_touched ≡ run.rows_touched ++ rows_of_effect table pairs
  pub reexecuted : after.reexecuted ≡ run.reexecuted ++ matched_rows w pairs

-- its effect is that on the content that the rows show
effect-shown : (time : ℕ) (w : Write) (run : ReexecutionOnRows) (table : ℕ) (pairs : List (ℤ × Option Row)) → table ≡ table_of w → IsEffect pairs w (next_of (versions_at run.rows table)) time
    → (before : TablesByPosition) (Y : Content) (touched : List RowId) (X : Content) → IsUnderWay before time Y touched run X → pairs ≡ effect w X
effect-shown time w run table pairs on found before Y touched X under =
    found (X (table_of w)) (subst (λ n. ListsRows (X (table_of w)) (next_of (versions_at run.rows n)) time) (sym on) (lists_content before time Y touched run X under (table_of w)))

pub TellsNextEffect-pairs : (time : ℕ) (w : Write) (run : ReexecutionOnRows) (table : ℕ) (pairs : List (ℤ × Option Row)) (has_one : Bool) → table ≡ table_of w
    → IsEffect pairs w (next_of (versions_at run.rows table)) time → has_one ≡ not (length pairs == 0) → TellsNextEffect time w run has_one
TellsNextEffect-pairs time w run table pairs has_one on found tells before Y touched X under =
    tells ∙ ap (λ (es : List (ℤ × Option Row)). not (length es == 0)) (effect-shown time w run table pairs on found before Y touched X under)

pub ReexecutesWrites-write : (time : ℕ) (w : Write) (run after : ReexecutionOnRows) → CarriesOutWrite time w run after → ReexecutesWrites time (w ∷ []) run after
ReexecutesWrites-write time w run after one before Y touched X under =
    let same = effect-shown time w run one.table one.pairs one.on one.found before Y touched X under in
    let first = run.reexecuted in
    let further = rows_matched w X in
    let rows : matched_rows w one.pairs ≡ further = ap (matched_rows w) same ∙ matched_rows-effect w X in
    let all : after.reexecuted ≡ first ++ further = one.reexecuted ∙ ap (λ rs. first ++ rs) rows in
    let split = AreReexecuted-split before run.rows one.between first further time X Y touched under.start under.others under.rows (subst (λ rs. SplitsRows run.rows one.between rs time) rows one.splits) in
    let unwritten : (t : ℕ) (key : ℤ) → is_row_in (first ++ further) t key ≡ false → is_row_in (rows_of_effect (table_of w) (effect w X)) t key ≡ false =
    λ t key none. unmatched_unwritten w X t key (in_neither first further t key none).1 in
    let written_on = subst (λ es. WritesNext one.between after.rows time (table_of w) es) same (subst (λ n. WritesNext one.between after.rows time n one.pairs) one.on one.writes) in
    let next = AreReexecuted-write before one.between after.rows (first ++ further) time w X unwritten split written_on in
    record {
      under_way = record {
        start = under.start;
        rising = IsByRisingKey-after_write w X under.rising;
        covers = λ t key h. ap (λ rs. is_row_in rs t key) all ∙ in_first first further t key (under.covers t key h);
        rows = subst (λ rs. AreReexecuted before after.rows rs time (content_after_write w X)) (sym all) next;
        others = λ t key h.
            let none = sym (ap (λ rs. is_row_in rs t key) all) ∙ h in
            with_rows_at-unwritten (table_of w) (effect w X) X t key (unwritten t key none) ∙ under.others t key (in_neither first further t key none).0;
      };
      reexecuted = all ∙ ap (λ rs. first ++ rs) (sym (append-nil further));
      replies = one.replies ∙ ap (λ r. run.replies ++ r ∷ []) (one.answers (X (table_of w)) same);
      touched_now = one.touched ∙ (λ i. run.rows_touched ++ rows_of_effect (one.on i) (same i)) ∙ ap (λ l. run.rows_touched ++ l) (sym (append-nil (rows_of_write w X)));
    }

-- one write, and then further ones
HasReexecutedWrites-next : (before : TablesByPosition) (time : ℕ) (Y : Content) (touched : List RowId) (w : Write) (ws : List Write) (run between after : ReexecutionOnRows) (X : Content)
    → HasReexecutedWrites before time Y touched (w ∷ []) run between X → HasReexecutedWrites before time Y touched ws between after (content_after_write w X) → HasReexecutedWrites before time Y touched (w ∷ ws) run after X
HasReexecutedWrites-next before time Y touched w ws run between after X one more =
    let next = content_after_write w X in
    let later = rows_of_writes ws next in
    record {
      under_way = more.under_way;
      reexecuted = more.reexecuted ∙ ap (λ rs. rs ++ rows_matched_by ws next) one.reexecuted ∙ append_assoc run.reexecuted _ _
          ∙ ap (λ rs. run.reexecuted ++ (rs ++ rows_matched_by ws next)) (append-nil (rows_matched w X));
      replies = more.replies ∙ ap (λ rs. rs ++ replies_of_writes ws next) one.replies ∙ append_assoc run.replies _ _;
      touched_now = more.touched_now ∙ ap (λ rs. rs ++ later) one.touched_now ∙ append_assoc run.rows_touched _ _
          ∙ ap (λ rs. run.rows_touched ++ (rs ++ later)) (append-nil (rows_of_write w X));
    }

pub ReexecutesWrites-next : (time : ℕ) (w : Write) (ws : List Write) (run between after : ReexecutionOnRows) → ReexecutesWrites time (w ∷ []) run between → ReexecutesWrites time ws between after → ReexecutesWrites time (w ∷ ws) run after
ReexecutesWrites-next time w ws run between after first rest before Y touched X under =
    let one = first before Y touched X under in
    HasReexecutedWrites-next before time Y touched w ws run between after X one (rest before Y touched (content_after_write w X) one.under_way)

-- without writes nothing is carried out
pub ReexecutesWrites-none : (time : ℕ) (run : ReexecutionOnRows) → ReexecutesWrites time [] run run
ReexecutesWrites-none time run before Y touched X under = record {
  under_way = under;
  reexecuted = sym (append-nil run.reexecuted);
  replies = sym (append-nil run.replies);
  touched_now = sym (append-nil run.rows_touched);
}

-- an action that isn't whole is all its writes
pub ReexecutesAction-writes : (time : ℕ) (ws : List Write) (run after : ReexecutionOnRows) → ReexecutesWrites time ws run after → ReexecutesAction time (action_of ws) run after
ReexecutesAction-writes time ws run after all before Y touched X under =
    let done = all before Y touched X under in
    record { under_way = done.under_way; reexecuted = done.reexecuted; replies = done.replies; touched_now = done.touched_now }

-- ---- the writes of a whole action

-- a write with an effect, and then further ones
pub TriesNextWrites-next : (time : ℕ) (w : Write) (ws : List Write) (run between after : ReexecutionOnRows) (has_one all : Bool)
    → ReexecutesWrites time (w ∷ []) run between → TellsNextEffect time w run has_one → has_one ≡ true → TriesNextWrites time ws between after all → TriesNextWrites time (w ∷ ws) run after all
TriesNextWrites-next time w ws run between after has_one all first tells is rest before Y touched X under =
    let one = first before Y touched X under in
    let next = content_after_write w X in
    let more = rest before Y touched next one.under_way in
    let others = up_to_no_effect ws next in
    let effective : has_no_effect w X ≡ false = an_effect-told (has_no_effect w X) has_one (tells before Y touched X under) is in (
      subst (λ (b : Bool). HasReexecutedWrites before time Y touched (w ∷ cond b [] others) run after X) (sym effective) (HasReexecutedWrites-next before time Y touched w others run between after X one more.0),
      more.1 ∙ (λ i. not (sym effective i || one_has_no_effect ws next)),
    )

-- a write without an effect is the last
pub TriesNextWrites-stop : (time : ℕ) (w : Write) (ws : List Write) (run after : ReexecutionOnRows) (has_one : Bool)
    → ReexecutesWrites time (w ∷ []) run after → TellsNextEffect time w run has_one → has_one ≡ false → TriesNextWrites time (w ∷ ws) run after false
TriesNextWrites-stop time w ws run after has_one first tells is before Y touched X under =
    let next = content_after_write w X in
    let others = up_to_no_effect ws next in
    let none : has_no_effect w X ≡ true = no_effect-told (has_no_effect w X) has_one (tells before Y touched X under) is in (
      subst (λ (b : Bool). HasReexecutedWrites before time Y touched (w ∷ cond b [] others) run after X) (sym none) (first before Y touched X under),
      λ i. not (sym none i || one_has_no_effect ws next),
    )

pub TriesNextWrites-none : (time : ℕ) (run : ReexecutionOnRows) → TriesNextWrites time [] run run true
TriesNextWrites-none time run before Y touched X under = (ReexecutesWrites-none time run before Y touched X under, refl)

-- rows that are re-executed are so in any order, and however often
AreReexecuted-same : (before after : TablesByPosition) (rows all : List RowId) (time : ℕ) (X : Content) → ((t : ℕ) (key : ℤ) → is_row_in rows t key ≡ is_row_in all t key)
    → AreReexecuted before after rows time X → AreReexecuted before after all time X
AreReexecuted-same before after rows all time X same are = record {
  current = are.current;
  split = λ t key. are.split t key ∙ ap (λ b. b || is_split (versions_at before t) key) (same t key);
  next = λ t key u. are.next t key u ∙ ap (λ b. if b && nat_le time u then row_at (X t) key else next_of (versions_at before t) key u) (same t key);
}

in_twice : (first further : List RowId) (t : ℕ) (key : ℤ) → is_row_in (first ++ (first ++ further)) t key ≡ is_row_in (first ++ further) t key
in_twice first further t key =
    is_row_in-append first (first ++ further) t key ∙ ap (λ b. is_row_in first t key || b) (is_row_in-append first further t key)
    ∙ by (is_row_in first t key) (is_row_in further t key)
    ∙ sym (is_row_in-append first further t key)
  where
    by : (a b : Bool) → (a || (a || b)) ≡ (a || b)
    by true b = refl
    by false b = refl

-- what tried writes left, with the rows before them again, and those rolled back that were re-executed
pub record GoesBack (time : ℕ) (run tried after : ReexecutionOnRows) : Type 0 where
  pub rows : SplitsRows run.rows after.rows tried.reexecuted time
  pub reexecuted : after.reexecuted ≡ tried.reexecuted
  pub replies : after.replies ≡ tried.replies
  pub touched : after.rows_touched ≡ tried.rows_touched

module _ (time : ℕ) (ws : List Write) (run mid after : ReexecutionOnRows) where
  -- then the slot is under way as before the writes
  IsUnderWay-back : (before : TablesByPosition) (Y : Content) (touched : List RowId) (X : Content) (us : List Write) → IsUnderWay before time Y touched run X → HasReexecutedWrites before time Y touched us run mid X
      → GoesBack time run mid after → IsUnderWay before time Y touched after X
  IsUnderWay-back before Y touched X us under done back =
      let first = run.reexecuted in
      let further = rows_matched_by us X in
      let all : after.reexecuted ≡ first ++ further = back.reexecuted ∙ done.reexecuted in
      let splits = subst (λ rs. SplitsRows run.rows after.rows rs time) done.reexecuted back.rows in
      let rows = AreReexecuted-split before run.rows after.rows first (first ++ further) time X Y touched under.start under.others under.rows splits in
      record {
        start = under.start;
        rising = under.rising;
        covers = λ t key h. ap (λ rs. is_row_in rs t key) all ∙ in_first first further t key (under.covers t key h);
        rows = subst (λ rs. AreReexecuted before after.rows rs time X) (sym all) (AreReexecuted-same before after.rows (first ++ (first ++ further)) (first ++ further) time X (in_twice first further) rows);
        others = λ t key h. under.others t key (in_neither first further t key (sym (ap (λ rs. is_row_in rs t key) all) ∙ h)).0;
      }

  -- where a write has no effect, the rows go back
  pub ReexecutesAction-back : TriesNextWrites time ws run mid false → GoesBack time run mid after → ReexecutesAction time (whole_of ws) run after
  ReexecutesAction-back tries back before Y touched X under =
      let done = tries before Y touched X under in
      let undone : one_has_no_effect ws X ≡ true = no_effect-told (one_has_no_effect ws X) false done.1 refl in
      record {
        under_way = subst (λ (b : Bool). IsUnderWay before time Y touched after (content_after_writes (cond b [] ws) X)) (sym undone) (IsUnderWay-back before Y touched X (up_to_no_effect ws X) under done.0 back);
        reexecuted = back.reexecuted ∙ done.0.reexecuted;
        replies = back.replies ∙ done.0.replies;
        touched_now = back.touched ∙ done.0.touched_now;
      }

  -- else all writes stay
  pub ReexecutesAction-stay : TriesNextWrites time ws run after true → ReexecutesAction time (whole_of ws) run after
  ReexecutesAction-stay tries before Y touched X under =
      let done = tries before Y touched X under in
      let effective : one_has_no_effect ws X ≡ false = an_effect-told (one_has_no_effect ws X) true done.1 refl in
      let every : up_to_no_effect ws X ≡ ws = all_writes_are_tried (whole_of ws) X effective in
      record {
        under_way = subst (λ (b : Bool). IsUnderWay before time Y touched after (content_after_writes (cond b [] ws) X)) (sym effective)
            (subst (λ (us : List Write). IsUnderWay before time Y touched after (content_after_writes us X)) every done.0.under_way);
        reexecuted = done.0.reexecuted;
        replies = done.0.replies;
        touched_now = done.0.touched_now;
      }

-- of an action of at most one write it doesn't matter whether it is whole
content-few : (a : Action) (X : Content) → length a.writes ≤ 1 → content_after_action a X ≡ content_after_writes a.writes X
content-few a X few = by a.whole
  where
    by : (b : Bool) → content_after_action (record { writes = a.writes; whole = b }) X ≡ content_after_writes a.writes X
    by true = let same = few_writes_are_whole a.writes X few in same.content
    by false = refl

pub ReexecutesAction-few : (time : ℕ) (a : Action) (run after : ReexecutionOnRows) → length a.writes ≤ 1 → ReexecutesAction time (action_of a.writes) run after → ReexecutesAction time a run after
ReexecutesAction-few time a run after few all before Y touched X under =
    let done = all before Y touched X under in
    let every = tried-few a X few in
    record {
      under_way = subst (λ (Z : Content). IsUnderWay before time Y touched after Z) (sym (content-few a X few)) done.under_way;
      reexecuted = done.reexecuted ∙ ap (λ ws. run.reexecuted ++ rows_matched_by ws X) (sym every);
      replies = done.replies ∙ ap (λ ws. run.replies ++ replies_of_writes ws X) (sym every);
      touched_now = done.touched_now ∙ ap (λ ws. run.rows_touched ++ rows_of_writes ws X) (sym every);
    }

-- a slot begins with the rows that it touched
IsUnderWay-start : (time : ℕ) (touched : List RowId) (before : TablesByPosition) (run : ReexecutionOnRows) (X : Content) → run.reexecuted ≡ touched → SplitsRows before run.rows touched time
    → ShowsContentBefore before time X touched → IsUnderWay before time X touched run X
IsUnderWay-start time touched before run X reexecuted splits start = record {
  start = start;
  rising = start.rising;
  covers = λ t key h. ap (λ rs. is_row_in rs t key) reexecuted ∙ h;
  rows = subst (λ rs. AreReexecuted before run.rows rs time X) (sym reexecuted)
      (AreReexecuted-split before before run.rows [] touched time X X touched start (λ t key none. refl) (AreReexecuted-none before time X) splits);
  others = λ t key none. refl;
}

pub Reexecutes-start : (time : ℕ) (touched : List RowId) (a : Action) (before : TablesByPosition) (run after : ReexecutionOnRows) → run.reexecuted ≡ touched → SplitsRows before run.rows touched time
    → run.replies ≡ [] → run.rows_touched ≡ [] → ReexecutesAction time a run after → Reexecutes time touched a before after
Reexecutes-start time touched a before run after reexecuted splits replies none_touched all X start =
    let done = all before X touched X (IsUnderWay-start time touched before run X reexecuted splits start) in
    let rows = done.reexecuted ∙ ap (λ rs. rs ++ rows_matched_by (tried a X) X) reexecuted in
    record {
      rows = subst (λ rs. AreReexecuted before after.rows rs time (content_after_action a X)) rows done.under_way.rows;
      reexecuted = rows;
      replies = done.replies ∙ ap (λ l. l ++ replies_of a X) replies;
      touched_now = done.touched_now ∙ ap (λ l. l ++ rows_of_writes (tried a X) X) none_touched;
    }

-- ---- how many rows there are

pub IsUnderWayWithFew-start : (time most : ℕ) (touched : List RowId) (before : TablesByPosition) (run : ReexecutionOnRows) (X : Content) → run.reexecuted ≡ touched → SplitsRows before run.rows touched time
    → ShowsContentBefore before time X touched → ((t : ℕ) → length (X t) ≤ most) → IsUnderWayWithFew time run most
IsUnderWayWithFew-start time most touched before run X reexecuted splits start few = record {
  before = before;
  touched = touched;
  start = X;
  content = X;
  under_way = IsUnderWay-start time touched before run X reexecuted splits start;
  few = few;
}

-- the rows that were re-executed so far are split
pub AreSplit-under_way : (time : ℕ) (run : ReexecutionOnRows) (most : ℕ) → IsUnderWayWithFew time run most → AreSplit run.rows run.reexecuted
AreSplit-under_way time run most has =
    All-in (λ t key. is_split (versions_at run.rows t) key ≡ true) run.reexecuted (λ t key h. has.under_way.rows.split t key ∙ or_left _ _ h)

pub IsUnderWayWithFew-next : (time : ℕ) (run after : ReexecutionOnRows) (w : Write) (most : ℕ) → IsUnderWayWithFew time run most → ReexecutesWrites time (w ∷ []) run after → IsUnderWayWithFew time after (most + 1)
IsUnderWayWithFew-next time run after w most has redoes = record {
  before = has.before;
  touched = has.touched;
  start = has.start;
  content = content_after_write w has.content;
  under_way = (redoes has.before has.start has.touched has.content has.under_way).under_way;
  few = λ t. omega (arith, has.few t, length-after_write w has.content t has.under_way.rising);
}

pub HasFewRows-under_way : (time : ℕ) (run : ReexecutionOnRows) (few most : ℕ) → few ≤ most → IsUnderWayWithFew time run few → HasFewRows run.rows Next time most
HasFewRows-under_way time run few most h has = record {
  content = has.content;
  shows = λ t. lists_content has.before time has.start has.touched run has.content has.under_way t;
  few = λ t. omega (arith, has.few t, h);
}

pub IsUnderWayWithFew-more : (time : ℕ) (run : ReexecutionOnRows) (few most : ℕ) → few ≤ most → IsUnderWayWithFew time run few → IsUnderWayWithFew time run most
IsUnderWayWithFew-more time run few most h has = record {
  before = has.before;
  touched = has.touched;
  start = has.start;
  content = has.content;
  under_way = has.under_way;
  few = λ t. omega (arith, has.few t, h);
}
