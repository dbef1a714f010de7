-- The laws of actions, by those of their writes that are carried out and that stay.
use Rattle.std.proofs.Common.{◌≡◌, Bool, true, false, cond, not, ◌&&◌, ◌||◌, ◌==◌, ℤ, Option, List, [], ◌∷◌, ◌++◌, map, length, refl, sym, ap, ◌∙◌, arith, true≢false}
use Rattle.std.proofs.lemmas.Bool.{or_parts, and_parts, or_left, eqb-true}
use Rattle.tt_values.specs.declared.statement.Write.{Write}
use Rattle.tt_values.specs.declared.action.Action.{Action}
use Rattle.tt_values.specs.declared.row.Row.{Row}
use Rattle.tt_values.specs.declared.row_id.RowId.{RowId}
use Rattle.tt_values.specs.Content.{Content, row_at}
use Rattle.tt_values.specs.Effect.{table_of, effect}
use Rattle.tt_values.specs.Action.{action_of, whole_of, with_rows_at, content_after_write, content_after_writes, replies_of_writes, rows_of_writes, effect_of_writes, is_among, has_no_effect, one_has_no_effect, up_to_no_effect, each_row_once, effect_at_time, tried, is_undone, kept, content_after_action, replies_of, rows_touched}
use Rattle.tt_values.specs.ActionLaws.{ActionLeavesItsLastContent, ActionOfOneWrite, DoTheSame, FewWritesAreWhole, IdleWritesChangeNothing, EffectiveWritesAreWhole, UndoneActionsChangeNothing, AllWritesAreTried, UndoneActionsStop, ActionWritesEachRowOnce, WrittenRowsAreTouched, ActionsFollow, UndoneActionsStayUndone}
use Rattle.tt_values.proofs.WritesLemmas.{writes_leave_their_last_content, row_writes_of_one_write, writes_write_each_row_once, writes_follow}

-- an action of these writes
abbrev of : List Write → Bool → Action
of ws whole = record { writes = ws; whole = whole }

pub action_leaves_its_last_content : ActionLeavesItsLastContent
action_leaves_its_last_content time a X rising = writes_leave_their_last_content time (kept a X) X rising

-- writes that all have an effect are all carried out
up_to_no_effect-all : (ws : List Write) (X : Content) → one_has_no_effect ws X ≡ false → up_to_no_effect ws X ≡ ws
up_to_no_effect-all [] X h = refl
up_to_no_effect-all (w ∷ ws) X h =
    let next = content_after_write w X in
    let both = or_parts (has_no_effect w X) (one_has_no_effect ws next) h in
    ap (λ b. w ∷ cond b [] (up_to_no_effect ws next)) both.0 ∙ ap (λ vs. w ∷ vs) (up_to_no_effect-all ws next both.1)

pub all_writes_are_tried : AllWritesAreTried
all_writes_are_tried a X = by a.whole
  where
    by : (b : Bool) → (b && one_has_no_effect a.writes X) ≡ false → cond b (up_to_no_effect a.writes X) a.writes ≡ a.writes
    by true h = up_to_no_effect-all a.writes X h
    by false h = refl

kept-all : (a : Action) (X : Content) → is_undone a X ≡ false → kept a X ≡ a.writes
kept-all a X h = ap (λ b. cond b [] a.writes) h

kept-none : (a : Action) (X : Content) → is_undone a X ≡ true → kept a X ≡ []
kept-none a X h = ap (λ b. cond b [] a.writes) h

pub effective_writes_are_whole : EffectiveWritesAreWhole
effective_writes_are_whole ws X h =
    let a = whole_of ws in
    let stay = kept-all a X h in
    let made = all_writes_are_tried a X h in
    let same : DoTheSame a (action_of ws) X = record {
      effect = ap (λ vs. effect_of_writes vs X) stay;
      replies = ap (λ vs. replies_of_writes vs X) made;
      rows = ap (λ vs. rows_of_writes vs X) made;
      content = ap (λ vs. content_after_writes vs X) stay;
    } in same

pub undone_actions_change_nothing : UndoneActionsChangeNothing
undone_actions_change_nothing a X h =
    let none = kept-none a X h in (ap (λ vs. content_after_writes vs X) none, ap (λ vs. effect_of_writes vs X) none)

-- an effect without rows
empty : {A : Type 0} (es : List A) → length es ≡ 0 → es ≡ []
empty [] h = refl
empty (e ∷ es) h = let none : ⊥ = omega (arith, h) in absurd none

effect-none : (w : Write) (X : Content) → has_no_effect w X ≡ true → effect w X ≡ []
effect-none w X h = empty (effect w X) (eqb-true (length (effect w X)) 0 h)

either_way : {A : Type 0} (b : Bool) (x : A) → cond b x x ≡ x
either_way true x = refl
either_way false x = refl

pub idle_writes_change_nothing : IdleWritesChangeNothing
idle_writes_change_nothing w X h =
    let none = effect-none w X h in (
      ap (map (λ (e : ℤ × Option Row). record { table = table_of w; key = e.0 })) none,
      ap (λ es. with_rows_at (table_of w) es X) none ∙ (λ i table. either_way (table == table_of w) (X table) i),
    )

-- the one write of an action that is undone has no effect
few_writes_are_whole-one : (w : Write) (X : Content) (b : Bool) → has_no_effect w X ≡ b → DoTheSame (whole_of (w ∷ [])) (action_of (w ∷ [])) X
few_writes_are_whole-one w X true h =
    let a = whole_of (w ∷ []) in
    let none = undone_actions_change_nothing a X (or_left (has_no_effect w X) false h) in
    let idle = idle_writes_change_nothing w X h in
    let made : tried a X ≡ w ∷ [] = ap (λ vs. w ∷ vs) (either_way (has_no_effect w X) []) in
    let same : DoTheSame a (action_of (w ∷ [])) X = record {
      effect = none.1 ∙ ap (λ rs. map (λ (r : RowId). (r, row_at (content_after_write w X r.table) r.key)) (each_row_once (rs ++ []))) (sym idle.0);
      replies = ap (λ vs. replies_of_writes vs X) made;
      rows = ap (λ vs. rows_of_writes vs X) made;
      content = none.0 ∙ sym idle.1;
    } in same
few_writes_are_whole-one w X false h = effective_writes_are_whole (w ∷ []) X (ap (λ b. b || false) h)

pub few_writes_are_whole : FewWritesAreWhole
few_writes_are_whole [] X h = effective_writes_are_whole [] X refl
few_writes_are_whole (w ∷ []) X h = few_writes_are_whole-one w X (has_no_effect w X) refl
few_writes_are_whole (w ∷ v ∷ ws) X h = let none : ⊥ = omega (arith, h) in absurd none

pub action_of_one_write : ActionOfOneWrite
action_of_one_write time w false X rising = (row_writes_of_one_write time w X rising, refl)
action_of_one_write time w true X rising =
    let same = few_writes_are_whole (w ∷ []) X (omega arith) in
    (ap (effect_at_time time) same.effect ∙ row_writes_of_one_write time w X rising, same.replies)

-- where the writes stop of which one has no effect
abbrev StopsAt : List Write → Content → Type 0
StopsAt us X =
    (ws : List Write) × (w : Write) × (vs : List Write)
    × (us ≡ ws ++ w ∷ vs)
    × (up_to_no_effect us X ≡ ws ++ w ∷ [])
    × (one_has_no_effect ws X ≡ false)
    × (has_no_effect w (content_after_writes ws X) ≡ true)

stops_at : (us : List Write) (X : Content) → one_has_no_effect us X ≡ true → StopsAt us X
stops_at [] X h = absurd (true≢false (sym h))
stops_at (w ∷ ws) X h = by (has_no_effect w X) refl h (stops_at ws next)
  where
    next : Content
    next = content_after_write w X

    by : (b : Bool) → has_no_effect w X ≡ b → (b || one_has_no_effect ws next) ≡ true → (one_has_no_effect ws next ≡ true → StopsAt ws next) → StopsAt (w ∷ ws) X
    by true e g rest = ([], w, ws, refl, ap (λ b. w ∷ cond b [] (up_to_no_effect ws next)) e, refl, e)
    by false e g rest =
        let later = rest g in (
          w ∷ later.0,
          later.1,
          later.2,
          ap (λ vs. w ∷ vs) later.3,
          ap (λ b. w ∷ cond b [] (up_to_no_effect ws next)) e ∙ ap (λ vs. w ∷ vs) later.4,
          ap (λ b. b || one_has_no_effect later.0 next) e ∙ later.5,
          later.6,
        )

pub undone_actions_stop : UndoneActionsStop
undone_actions_stop a X h =
    let both = and_parts a.whole (one_has_no_effect a.writes X) h in
    let at = stops_at a.writes X both.1 in
    (at.0, at.1, at.2, at.3, ap (λ b. cond b (up_to_no_effect a.writes X) a.writes) both.0 ∙ at.4, at.5, at.6)

pub action_writes_each_row_once : ActionWritesEachRowOnce
action_writes_each_row_once a X = let once = writes_write_each_row_once (kept a X) X in (once.0, λ r. once.1 r ∙ by r (is_undone a X) refl)
  where
    by : (r : RowId) (b : Bool) → is_undone a X ≡ b → is_among r (rows_of_writes (cond b [] a.writes) X) ≡ (not b && is_among r (rows_touched a X))
    by r true e = refl
    by r false e = ap (λ vs. is_among r (rows_of_writes vs X)) (sym (all_writes_are_tried a X e))

pub written_rows_are_touched : WrittenRowsAreTouched
written_rows_are_touched a X r h =
    let once = action_writes_each_row_once a X in
    (and_parts (not (is_undone a X)) (is_among r (rows_touched a X)) (sym (once.1 r) ∙ h)).1

-- actions one after another

up_to_no_effect-append : (ws vs : List Write) (X : Content) → one_has_no_effect ws X ≡ false → up_to_no_effect (ws ++ vs) X ≡ ws ++ up_to_no_effect vs (content_after_writes ws X)
up_to_no_effect-append [] vs X h = refl
up_to_no_effect-append (w ∷ ws) vs X h =
    let next = content_after_write w X in
    let both = or_parts (has_no_effect w X) (one_has_no_effect ws next) h in
    ap (λ b. w ∷ cond b [] (up_to_no_effect (ws ++ vs) next)) both.0 ∙ ap (λ us. w ∷ us) (up_to_no_effect-append ws vs next both.1)

tried-append : (ws vs : List Write) (whole : Bool) (X : Content) → is_undone (of ws whole) X ≡ false → tried (of (ws ++ vs) whole) X ≡ ws ++ tried (of vs whole) (content_after_writes ws X)
tried-append ws vs true X h = up_to_no_effect-append ws vs X h
tried-append ws vs false X h = refl

is_undone-append : (ws vs : List Write) (whole : Bool) (X : Content) → is_undone (of ws whole) X ≡ false → is_undone (of (ws ++ vs) whole) X ≡ is_undone (of vs whole) (content_after_writes ws X)
is_undone-append ws vs true X h =
    let follow = writes_follow ws vs X in
    follow.3 ∙ ap (λ b. b || one_has_no_effect vs (content_after_writes ws X)) h
is_undone-append ws vs false X h = refl

pub actions_follow : ActionsFollow
actions_follow ws vs whole X h =
    let a = of ws whole in
    let b = of vs whole in
    let both = of (ws ++ vs) whole in
    let Z = content_after_writes ws X in
    let all = all_writes_are_tried a X h in
    let end : content_after_action a X ≡ Z = ap (λ us. content_after_writes us X) (kept-all a X h) in
    let made = tried-append ws vs whole X h in
    let undone = is_undone-append ws vs whole X h in
    let follow = writes_follow ws (tried b Z) X in (
      made ∙ ap (λ Y. ws ++ tried b Y) (sym end),
      ap (λ us. replies_of_writes us X) made ∙ follow.1 ∙ (λ i. replies_of_writes (sym all i) X ++ replies_of b (sym end i)),
      ap (λ us. rows_of_writes us X) made ∙ follow.2 ∙ (λ i. rows_of_writes (sym all i) X ++ rows_touched b (sym end i)),
      undone ∙ ap (is_undone b) (sym end),
      λ g.
          let stays = ap (is_undone b) (sym end) ∙ g in
          let last = writes_follow ws vs X in
          ap (λ us. content_after_writes us X) (kept-all both X (undone ∙ stays))
          ∙ last.0
          ∙ ap (λ us. content_after_writes us Z) (sym (kept-all b Z stays))
          ∙ ap (content_after_action b) (sym end),
    )

up_to_no_effect-stopped : (ws vs : List Write) (X : Content) → one_has_no_effect ws X ≡ true → up_to_no_effect (ws ++ vs) X ≡ up_to_no_effect ws X
up_to_no_effect-stopped [] vs X h = absurd (true≢false (sym h))
up_to_no_effect-stopped (w ∷ ws) vs X h = by (has_no_effect w X) h (up_to_no_effect-stopped ws vs next)
  where
    next : Content
    next = content_after_write w X

    by : (b : Bool) → (b || one_has_no_effect ws next) ≡ true → (one_has_no_effect ws next ≡ true → up_to_no_effect (ws ++ vs) next ≡ up_to_no_effect ws next)
        → w ∷ cond b [] (up_to_no_effect (ws ++ vs) next) ≡ w ∷ cond b [] (up_to_no_effect ws next)
    by true g rest = refl
    by false g rest = ap (λ us. w ∷ us) (rest g)

pub undone_actions_stay_undone : UndoneActionsStayUndone
undone_actions_stay_undone ws vs true X h =
    let follow = writes_follow ws vs X in
    (follow.3 ∙ or_left (one_has_no_effect ws X) (one_has_no_effect vs (content_after_writes ws X)) h, up_to_no_effect-stopped ws vs X h)
undone_actions_stay_undone ws vs false X h = absurd (true≢false (sym h))
