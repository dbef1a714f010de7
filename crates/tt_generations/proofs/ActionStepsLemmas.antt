-- Writes that are carried out one after another, at one time: their row writes, and the contents that these leave.
use Rattle.std.proofs.Common.{◌≡◌, ℕ, suc, eqb-true, true≢false, ◌≤◌, Bool, true, false, cond, not, ◌||◌, ◌&&◌, ◌⊎◌, inl, inr, nat_lt, length, nat_le, ◌==◌, ℤ, List, [], ◌∷◌, ◌++◌, map, fold, Option, if◌then◌else◌, refl, sym, ap, subst, ◌∙◌, arith, append-nil, append_assoc}
use Rattle.std.proofs.lemmas.Bool.{and_parts, and_cases, ltb-false}
use Rattle.std.proofs.lemmas.Bool.Decides.{nat_tests}
use Rattle.std.proofs.lemmas.List.Elements.{filter-append}
use Rattle.std.proofs.lemmas.List.Sums.{fold-append}
use Rattle.tt_values.specs.declared.row.Row.{Row}
use Rattle.tt_values.specs.declared.statement.Write.{Write}
use Rattle.tt_values.specs.declared.action.Action.{Action}
use Rattle.tt_values.specs.declared.reply.Reply.{Reply}
use Rattle.tt_values.specs.Content.{RowsByKey, Content, RowWrite, row_at, with_row_at, with_row_write, content_at, empty_content, up_to}
use Rattle.tt_values.specs.Effect.{table_of, effect, effect_on, reply_on}
use Rattle.tt_values.specs.declared.row_id.RowId.{RowId}
use Rattle.tt_values.specs.Action.{action_of, whole_of, with_rows_at, content_after_write, content_after_writes, replies_of_writes, rows_of_write, rows_of_writes, effect_of_writes, effect_at_time, has_no_effect, one_has_no_effect, up_to_no_effect, tried, is_undone, kept}
use Rattle.tt_values.specs.ActionLaws.{IsByRisingKey}
use Rattle.tt_values.proofs.LawProofs.{rows_rise, writes_leave_their_last_content, all_writes_are_tried}
use Rattle.tt_versions.specs.Sides.{current_of, ListsRows}
use Rattle.tt_versions.specs.RowsByWrites.{as_row_writes}
use Rattle.tt_generations.proofs.ContentLemmas.{all_put}
use Rattle.tt_generations.specs.Effect.{IsEffect, rows_of_effect}
use Rattle.tt_generations.specs.Rows.{TablesByPosition, versions_at, CurrentAgrees, AddsEffect}
use Rattle.tt_generations.specs.ActionRun.{RunOnRows, step_writes, HasCarriedOut, CarriesOut, TellsEffect, TriesWrites, CarriesOutAction}

-- the row writes of an effect on a table leave the content once the keys have their rows
rows-after_row_writes : (pairs : List (ℤ × Option Row)) (time table : ℕ) (X : Content) (t : ℕ) → fold with_row_write X (as_row_writes time table pairs) t ≡ with_rows_at table pairs X t
rows-after_row_writes [] time table X t = by (t == table)
  where
    by : (b : Bool) → X t ≡ cond b (X t) (X t)
    by true = refl
    by false = refl
rows-after_row_writes (e ∷ es) time table X t =
    let w : RowWrite = record { time = time; table = table; key = e.0; row = e.1 } in
    rows-after_row_writes es time table (with_row_write X w) t ∙ by (t == table)
  where
    by : (b : Bool) → cond b (all_put (if b then with_row_at (X t) e.0 e.1 else X t) es) (if b then with_row_at (X t) e.0 e.1 else X t) ≡ cond b (all_put (X t) (e ∷ es)) (X t)
    by true = refl
    by false = refl

pub content-after_row_writes : (time : ℕ) (w : Write) (X : Content) → fold with_row_write X (as_row_writes time (table_of w) (effect w X)) ≡ content_after_write w X
content-after_row_writes time w X = λ i t. rows-after_row_writes (effect w X) time (table_of w) X t i

pub content-after_steps : (ws : List Write) (time : ℕ) (X : Content) → fold with_row_write X (step_writes time ws X) ≡ content_after_writes ws X
content-after_steps [] time X = refl
content-after_steps (w ∷ ws) time X =
    let next = content_after_write w X in
    fold-append with_row_write X (as_row_writes time (table_of w) (effect w X)) (step_writes time ws next)
    ∙ ap (λ Y. fold with_row_write Y (step_writes time ws next)) (content-after_row_writes time w X)
    ∙ content-after_steps ws time next

-- row writes at one time are all among those up to a later one, and none among those up to an earlier one
up_to-later : {A : Type 0} (f : A → RowWrite) (u : ℕ) → ((e : A) → nat_le (f e).time u ≡ true) → (es : List A) → up_to u (map f es) ≡ map f es
up_to-later f u h [] = refl
up_to-later f u h (e ∷ es) =
    ap (λ b. cond b (f e ∷ up_to u (map f es)) (up_to u (map f es))) (h e) ∙ ap (λ ws. f e ∷ ws) (up_to-later f u h es)

up_to-earlier : {A : Type 0} (f : A → RowWrite) (u : ℕ) → ((e : A) → nat_le (f e).time u ≡ false) → (es : List A) → up_to u (map f es) ≡ []
up_to-earlier f u h [] = refl
up_to-earlier f u h (e ∷ es) =
    ap (λ b. cond b (f e ∷ up_to u (map f es)) (up_to u (map f es))) (h e) ∙ up_to-earlier f u h es

abbrev of_pair : ℕ → ℕ → ℤ × Option Row → RowWrite
of_pair time table e = record { time = time; table = table; key = e.0; row = e.1 }

abbrev of_row : ℕ → RowId × Option Row → RowWrite
of_row time e = record { time = time; table = e.0.table; key = e.0.key; row = e.1 }

steps-later : (ws : List Write) (time u : ℕ) (X : Content) → nat_le time u ≡ true → up_to u (step_writes time ws X) ≡ step_writes time ws X
steps-later [] time u X h = refl
steps-later (w ∷ ws) time u X h =
    filter-append (λ v. nat_le v.time u) (as_row_writes time (table_of w) (effect w X)) (step_writes time ws (content_after_write w X))
    ∙ (λ i. up_to-later (of_pair time (table_of w)) u (λ e. h) (effect w X) i ++ steps-later ws time u (content_after_write w X) h i)

steps-earlier : (ws : List Write) (time u : ℕ) (X : Content) → nat_le time u ≡ false → up_to u (step_writes time ws X) ≡ []
steps-earlier [] time u X h = refl
steps-earlier (w ∷ ws) time u X h =
    filter-append (λ v. nat_le v.time u) (as_row_writes time (table_of w) (effect w X)) (step_writes time ws (content_after_write w X))
    ∙ (λ i. up_to-earlier (of_pair time (table_of w)) u (λ e. h) (effect w X) i ++ steps-earlier ws time u (content_after_write w X) h i)

content-append : (vs further : List RowWrite) (u : ℕ) → content_at (vs ++ further) u ≡ fold with_row_write (content_at vs u) (up_to u further)
content-append vs further u =
    ap (fold with_row_write empty_content) (filter-append (λ v. nat_le v.time u) vs further)
    ∙ fold-append with_row_write empty_content (up_to u vs) (up_to u further)

-- after steps at a time on the content of that time, the content is that after their writes
pub content-steps : (ws : List Write) (time : ℕ) (vs : List RowWrite) → content_at (vs ++ step_writes time ws (content_at vs time)) time ≡ content_after_writes ws (content_at vs time)
content-steps ws time vs =
    let X = content_at vs time in
    let now : nat_le time time ≡ true = grind (arith, nat_tests) in
    content-append vs (step_writes time ws X) time ∙ ap (fold with_row_write X) (steps-later ws time time X now) ∙ content-after_steps ws time X

-- the row writes of writes leave the same contents as their steps, at each time
same_contents : (vs : List RowWrite) (time : ℕ) (ws : List Write) (X : Content) → IsByRisingKey X → ((u : ℕ) → time ≤ u → content_at vs u ≡ X)
    → (u : ℕ) → content_at (vs ++ step_writes time ws X) u ≡ content_at (vs ++ effect_at_time time (effect_of_writes ws X)) u
same_contents vs time ws X rising last u = by (nat_le time u) refl
  where
    steps : List RowWrite
    steps = step_writes time ws X

    all : List RowWrite
    all = effect_at_time time (effect_of_writes ws X)

    by : (b : Bool) → nat_le time u ≡ b → content_at (vs ++ steps) u ≡ content_at (vs ++ all) u
    by true e =
        let later : time ≤ u = grind (arith, nat_tests) in
        content-append vs steps u
        ∙ (λ i. fold with_row_write (last u later i) (steps-later ws time u X e i))
        ∙ content-after_steps ws time X
        ∙ sym (writes_leave_their_last_content time ws X rising)
        ∙ (λ i. fold with_row_write (sym (last u later) i) (sym (up_to-later (of_row time) u (λ d. e) (effect_of_writes ws X)) i))
        ∙ sym (content-append vs all u)
    by false e =
        content-append vs steps u
        ∙ ap (fold with_row_write (content_at vs u)) (steps-earlier ws time u X e ∙ sym (up_to-earlier (of_row time) u (λ d. e) (effect_of_writes ws X)))
        ∙ sym (content-append vs all u)

-- so tables that have the rows of the steps have those of the row writes
pub CurrentAgrees-writes : (tables : TablesByPosition) (vs : List RowWrite) (time : ℕ) (ws : List Write) (X : Content) → IsByRisingKey X → ((u : ℕ) → time ≤ u → content_at vs u ≡ X)
    → CurrentAgrees tables (vs ++ step_writes time ws X) → CurrentAgrees tables (vs ++ effect_at_time time (effect_of_writes ws X))
CurrentAgrees-writes tables vs time ws X rising last agree table = agree table ∙ (λ i key u. row_at (same_contents vs time ws X rising last u i table) key)

-- tables that have the rows of row writes list their content
pub CurrentAgrees-lists : (tables : TablesByPosition) (vs : List RowWrite) (time table : ℕ) → CurrentAgrees tables vs → ListsRows (content_at vs time table) (current_of (versions_at tables table)) time
CurrentAgrees-lists tables vs time table agree = record { sorted = rows_rise vs time table; finds = λ key i. sym (agree table) i key time }

-- one write, and then further ones, at the same time

-- pairs that are the effect of a write on a table have that on the content of row writes that the tables agree with
effect-agreed : (time table : ℕ) (w : Write) (before : TablesByPosition) (pairs : List (ℤ × Option Row)) (vs : List RowWrite)
    → table ≡ table_of w → IsEffect pairs w (current_of (versions_at before table)) time → CurrentAgrees before vs → pairs ≡ effect w (content_at vs time)
effect-agreed time table w before pairs vs on is agree =
    let X = content_at vs time in
    is (X (table_of w)) (subst (λ n. ListsRows (X (table_of w)) (current_of (versions_at before n)) time) (sym on) (CurrentAgrees-lists before vs time (table_of w) agree))

-- whether pairs are none tells whether a write has an effect
pub TellsEffect-pairs : (time table : ℕ) (w : Write) (before : TablesByPosition) (pairs : List (ℤ × Option Row)) (has_one : Bool)
    → table ≡ table_of w → IsEffect pairs w (current_of (versions_at before table)) time → has_one ≡ not (length pairs == 0) → TellsEffect time w before has_one
TellsEffect-pairs time table w before pairs has_one on is tells vs agree =
    tells ∙ ap (λ (es : List (ℤ × Option Row)). not (length es == 0)) (effect-agreed time table w before pairs vs on is agree)

-- tables that get the effect of a write, its reply, and the rows that it writes
pub CarriesOut-write : (time table : ℕ) (w : Write) (before after : RunOnRows) (pairs : List (ℤ × Option Row)) (reply : Reply)
    → table ≡ table_of w → IsEffect pairs w (current_of (versions_at before.rows table)) time → AddsEffect before.rows after.rows time table pairs
    → ((rows : RowsByKey) → pairs ≡ effect_on w rows → reply ≡ reply_on w rows) → after.replies ≡ before.replies ++ reply ∷ []
    → after.rows_touched ≡ before.rows_touched ++ rows_of_effect table pairs → CarriesOut time (w ∷ []) before after
CarriesOut-write time table w before after pairs reply on is adds answers replies touched vs agree =
    let X = content_at vs time in
    let same = effect-agreed time table w before.rows pairs vs on is agree in
    record {
      rows = subst (CurrentAgrees after.rows) ((λ i. vs ++ as_row_writes time (on i) (same i)) ∙ ap (λ l. vs ++ l) (sym (append-nil (as_row_writes time (table_of w) (effect w X))))) (adds vs agree);
      replies = replies ∙ ap (λ r. before.replies ++ r ∷ []) (answers (X (table_of w)) same);
      touched = touched ∙ (λ i. before.rows_touched ++ rows_of_effect (on i) (same i)) ∙ ap (λ l. before.rows_touched ++ l) (sym (append-nil (rows_of_write w X)));
    }

HasCarriedOut-next : (time : ℕ) (w : Write) (ws : List Write) (before between after : RunOnRows) (vs : List RowWrite) → HasCarriedOut time (w ∷ []) before between vs
    → HasCarriedOut time ws between after (vs ++ step_writes time (w ∷ []) (content_at vs time)) → HasCarriedOut time (w ∷ ws) before after vs
HasCarriedOut-next time w ws before between after vs one more =
    let X = content_at vs time in
    let further = vs ++ step_writes time (w ∷ []) X in
    let next : content_at further time ≡ content_after_write w X = content-steps (w ∷ []) time vs in
    let left = step_writes time ws (content_after_write w X) in
    let later = rows_of_writes ws (content_after_write w X) in
    let first = as_row_writes time (table_of w) (effect w X) in
    record {
      rows = subst (CurrentAgrees after.rows) ((λ i. further ++ step_writes time ws (next i)) ∙ append_assoc vs (first ++ []) left ∙ ap (λ l. vs ++ (l ++ left)) (append-nil first)) more.rows;
      replies = more.replies ∙ (λ i. one.replies i ++ replies_of_writes ws (next i)) ∙ append_assoc before.replies _ _;
      touched = more.touched ∙ (λ i. one.touched i ++ rows_of_writes ws (next i)) ∙ append_assoc before.rows_touched _ _
          ∙ ap (λ l. before.rows_touched ++ (l ++ later)) (append-nil (rows_of_write w X));
    }

pub CarriesOut-next : (time : ℕ) (w : Write) (ws : List Write) (before between after : RunOnRows)
    → CarriesOut time (w ∷ []) before between → CarriesOut time ws between after → CarriesOut time (w ∷ ws) before after
CarriesOut-next time w ws before between after first rest vs agree =
    let one = first vs agree in
    HasCarriedOut-next time w ws before between after vs one (rest (vs ++ step_writes time (w ∷ []) (content_at vs time)) one.rows)

-- without writes nothing is carried out
pub CarriesOut-none : (time : ℕ) (run : RunOnRows) → CarriesOut time [] run run
CarriesOut-none time run vs agree = record {
  rows = subst (CurrentAgrees run.rows) (sym (append-nil vs)) agree;
  replies = sym (append-nil run.replies);
  touched = sym (append-nil run.rows_touched);
}

-- an action begins with no replies and no rows that it touched
pub CarriesOutAction-start : (time : ℕ) (ws : List Write) (before after : RunOnRows) → before.replies ≡ [] → before.rows_touched ≡ []
    → CarriesOut time ws before after → CarriesOutAction time (action_of ws) before.rows after
CarriesOutAction-start time ws before after replies touched all vs agree =
    let done = all vs agree in
    record {
      rows = done.rows;
      replies = done.replies ∙ ap (λ l. l ++ replies_of_writes ws (content_at vs time)) replies;
      touched = done.touched ∙ ap (λ l. l ++ rows_of_writes ws (content_at vs time)) touched;
    }

-- ---- the writes of a whole action

-- what is told of an effect
pub no_effect-told : (b has_one : Bool) → has_one ≡ not b → has_one ≡ false → b ≡ true
no_effect-told true has_one told h = refl
no_effect-told false has_one told h = cc

pub an_effect-told : (b has_one : Bool) → has_one ≡ not b → has_one ≡ true → b ≡ false
an_effect-told true has_one told h = cc
an_effect-told false has_one told h = refl

-- a write with an effect, and then further ones
pub TriesWrites-next : (time : ℕ) (w : Write) (ws : List Write) (before between after : RunOnRows) (has_one all : Bool)
    → CarriesOut time (w ∷ []) before between → TellsEffect time w before.rows has_one → has_one ≡ true → TriesWrites time ws between after all → TriesWrites time (w ∷ ws) before after all
TriesWrites-next time w ws before between after has_one all first tells is rest vs agree =
    let X = content_at vs time in
    let one = first vs agree in
    let further = vs ++ step_writes time (w ∷ []) X in
    let next : content_at further time ≡ content_after_write w X = content-steps (w ∷ []) time vs in
    let more = rest further one.rows in
    let effective : has_no_effect w X ≡ false = an_effect-told (has_no_effect w X) has_one (tells vs agree) is in
    let others : List Write = up_to_no_effect ws (content_after_write w X) in
    let done : HasCarriedOut time others between after further = subst (λ (Y : Content). HasCarriedOut time (up_to_no_effect ws Y) between after further) next more.0 in (
      subst (λ (b : Bool). HasCarriedOut time (w ∷ cond b [] others) before after vs) (sym effective) (HasCarriedOut-next time w others before between after vs one done),
      more.1 ∙ (λ i. not (one_has_no_effect ws (next i))) ∙ (λ i. not (sym effective i || one_has_no_effect ws (content_after_write w X))),
    )

-- a write without an effect is the last
pub TriesWrites-stop : (time : ℕ) (w : Write) (ws : List Write) (before after : RunOnRows) (has_one : Bool)
    → CarriesOut time (w ∷ []) before after → TellsEffect time w before.rows has_one → has_one ≡ false → TriesWrites time (w ∷ ws) before after false
TriesWrites-stop time w ws before after has_one first tells is vs agree =
    let X = content_at vs time in
    let none : has_no_effect w X ≡ true = no_effect-told (has_no_effect w X) has_one (tells vs agree) is in
    let others : List Write = up_to_no_effect ws (content_after_write w X) in (
      subst (λ (b : Bool). HasCarriedOut time (w ∷ cond b [] others) before after vs) (sym none) (first vs agree),
      λ i. not (sym none i || one_has_no_effect ws (content_after_write w X)),
    )

pub TriesWrites-none : (time : ℕ) (run : RunOnRows) → TriesWrites time [] run run true
TriesWrites-none time run vs agree = (CarriesOut-none time run vs agree, refl)

-- where each write has an effect, all are carried out and stay; else the rows are those before
pub CarriesOutAction-whole : (time : ℕ) (ws : List Write) (before tried after : RunOnRows) (all : Bool) → before.replies ≡ [] → before.rows_touched ≡ []
    → TriesWrites time ws before tried all → after.replies ≡ tried.replies → after.rows_touched ≡ tried.rows_touched → (all ≡ true → after.rows ≡ tried.rows) → (all ≡ false → after.rows ≡ before.rows)
    → CarriesOutAction time (whole_of ws) before.rows after
CarriesOutAction-whole time ws before tried after all replies touched tries same_replies same_touched kept_rows undone_rows vs agree = record {
  rows = by (one_has_no_effect ws X) refl;
  replies = same_replies ∙ done.0.replies ∙ ap (λ l. l ++ replies_of_writes (up_to_no_effect ws X) X) replies;
  touched = same_touched ∙ done.0.touched ∙ ap (λ l. l ++ rows_of_writes (up_to_no_effect ws X) X) touched;
}
  where
    X : Content
    X = content_at vs time

    done : HasCarriedOut time (up_to_no_effect ws (content_at vs time)) before tried vs × (all ≡ not (one_has_no_effect ws (content_at vs time)))
    done = tries vs agree

    by : (b : Bool) → one_has_no_effect ws X ≡ b → CurrentAgrees after.rows (vs ++ step_writes time (cond b [] ws) X)
    by true e =
        let undone : all ≡ false = done.1 ∙ ap not e in
        subst (λ (t : TablesByPosition). CurrentAgrees t (vs ++ [])) (sym (undone_rows undone)) (subst (CurrentAgrees before.rows) (sym (append-nil vs)) agree)
    by false e =
        let whole : all ≡ true = done.1 ∙ ap not e in
        let every : up_to_no_effect ws X ≡ ws = all_writes_are_tried (whole_of ws) X e in
        subst (λ (t : TablesByPosition). CurrentAgrees t (vs ++ step_writes time ws X)) (sym (kept_rows whole)) (subst (λ us. CurrentAgrees tried.rows (vs ++ step_writes time us X)) every done.0.rows)

-- ---- actions of at most one write

no_pairs : (es : List (ℤ × Option Row)) → (length es == 0) ≡ true → es ≡ []
no_pairs [] h = refl
no_pairs (e ∷ es) h = let none : suc (length es) ≡ 0 = eqb-true (suc (length es)) 0 h in absurd (omega (arith, none))

-- their writes are all carried out
pub tried-few : (a : Action) (X : Content) → length a.writes ≤ 1 → tried a X ≡ a.writes
tried-few a X few = by a.whole (up_to a.writes few)
  where
    only : (b : Bool) (w : Write) → w ∷ cond b [] [] ≡ w ∷ []
    only true w = refl
    only false w = refl

    up_to : (ws : List Write) → length ws ≤ 1 → up_to_no_effect ws X ≡ ws
    up_to [] h = refl
    up_to (w ∷ []) h = only (has_no_effect w X) w
    up_to (w ∷ v ∷ ws) h = absurd (omega (arith, h))

    by : (b : Bool) → up_to_no_effect a.writes X ≡ a.writes → cond b (up_to_no_effect a.writes X) a.writes ≡ a.writes
    by true h = h
    by false h = refl

-- and where they don't stay, they write nothing
steps-few : (ws : List Write) (time : ℕ) (X : Content) → length ws ≤ 1 → one_has_no_effect ws X ≡ true → step_writes time ws X ≡ []
steps-few [] time X few h = absurd (true≢false (sym h))
steps-few (w ∷ []) time X few h = ap (λ es. as_row_writes time (table_of w) es ++ []) (no_pairs (effect w X) (none (has_no_effect w X) h))
  where
    none : (b : Bool) → (b || false) ≡ true → b ≡ true
    none true g = refl
    none false g = g
steps-few (w ∷ v ∷ ws) time X few h = absurd (omega (arith, few))

steps-kept : (a : Action) (time : ℕ) (X : Content) → length a.writes ≤ 1 → step_writes time (kept a X) X ≡ step_writes time a.writes X
steps-kept a time X few = by (is_undone a X) refl
  where
    by : (b : Bool) → is_undone a X ≡ b → step_writes time (cond b [] a.writes) X ≡ step_writes time a.writes X
    by true e = let both = and_parts a.whole (one_has_no_effect a.writes X) e in sym (steps-few a.writes time X few both.1)
    by false e = refl

-- so it doesn't matter whether they are whole
pub CarriesOutAction-few : (time : ℕ) (a : Action) (before : TablesByPosition) (after : RunOnRows) → length a.writes ≤ 1 → CarriesOutAction time (action_of a.writes) before after → CarriesOutAction time a before after
CarriesOutAction-few time a before after few all vs agree =
    let X = content_at vs time in
    let done = all vs agree in
    let every = tried-few a X few in
    record {
      rows = subst (λ (further : List RowWrite). CurrentAgrees after.rows (vs ++ further)) (sym (steps-kept a time X few)) done.rows;
      replies = done.replies ∙ ap (λ ws. replies_of_writes ws X) (sym every);
      touched = done.touched ∙ ap (λ ws. rows_of_writes ws X) (sym every);
    }

-- an action that needn't give anything up isn't whole, or has at most one write
pub gives_nothing_up : (a : Action) (may : Bool) → may ≡ (a.whole && nat_lt 1 (length a.writes)) → may ≡ false → (action_of a.writes ≡ a) ⊎ (length a.writes ≤ 1)
gives_nothing_up a may is never = elim (and_cases a.whole (nat_lt 1 (length a.writes)) (sym is ∙ never)) [
  | inl h ↦ inl (λ i. record { writes = a.writes; whole = sym h i })
  | inr h ↦ inr (ltb-false 1 (length a.writes) h)
]

-- and one that may do so is whole
pub may_give_up-whole : (a : Action) (may : Bool) → may ≡ (a.whole && nat_lt 1 (length a.writes)) → may ≡ true → whole_of a.writes ≡ a
may_give_up-whole a may is h = let both = and_parts a.whole (nat_lt 1 (length a.writes)) (sym is ∙ h) in λ i. record { writes = a.writes; whole = sym both.0 i }
