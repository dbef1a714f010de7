-- An action is affected exactly where one of its writes is, in its turn.
use Rattle.std.proofs.Common.{◌≡◌, Bool, true, false, cond, not, ◌||◌, List, [], ◌∷◌, refl, sym, ap, ◌∙◌, true≢false}
use Rattle.std.specs.List.{list_any}
use Rattle.std.proofs.lemmas.Bool.{or_parts, or_from}
use Rattle.std.proofs.lemmas.List.Folds.{list_any-append}
use Rattle.tt_values.specs.declared.row_id.RowId.{RowId}
use Rattle.tt_values.specs.declared.statement.Write.{Write}
use Rattle.tt_values.specs.declared.action.Action.{Action}
use Rattle.tt_values.specs.Tables.{Tables}
use Rattle.tt_values.specs.Content.{Content}
use Rattle.tt_values.specs.Action.{content_after_write, rows_of_write, rows_of_writes, has_no_effect, up_to_no_effect, tried}
use Rattle.tt_parts.specs.Dirty.{DirtySet, has_row}
use Rattle.tt_repair_laws.specs.Due.{names_dirty_row, is_write_clear, is_write_affected, may_read_dirty, is_affected}
use Rattle.tt_repair_laws.specs.Laws.{ActionsAreAffectedByTheirWrites}

-- three tests of a first element and of the others, test by test or element by element
or-by_element : (a a2 b b2 c c2 : Bool) → ((a || a2) || ((b || b2) || (c || c2))) ≡ (((a || b) || c) || (a2 || (b2 || c2)))
or-by_element true a2 b b2 c c2 = refl
or-by_element false true true b2 c c2 = refl
or-by_element false true false b2 true c2 = refl
or-by_element false true false b2 false c2 = refl
or-by_element false false true b2 c c2 = refl
or-by_element false false false true true c2 = refl
or-by_element false false false true false c2 = refl
or-by_element false false false false c c2 = refl

module _ (tables : Tables) (D : DirtySet) where
  abbrev is_dirty : RowId → Bool
  is_dirty r = has_row D r.table r.key

  -- whether what is dirty may affect an action of these writes, if each of them is carried out
  abbrev pub are_affected : List Write → Content → Bool
  are_affected ws X = list_any is_dirty (rows_of_writes ws X) || may_read_dirty tables D ws

  -- a first write and others, of which these are carried out
  first_and_others : (w : Write) (ws vs : List Write) (X : Content) → (list_any is_dirty (rows_of_writes (w ∷ vs) X) || may_read_dirty tables D (w ∷ ws))
      ≡ (is_write_affected tables D w X || (list_any is_dirty (rows_of_writes vs (content_after_write w X)) || may_read_dirty tables D ws))
  first_and_others w ws vs X =
      let next = content_after_write w X in
      let named = list_any (names_dirty_row D) ws in
      let unclear = list_any (λ v. not (is_write_clear tables D v)) ws in
      let rows = list_any-append is_dirty (rows_of_write w X) (rows_of_writes vs next) in
      ap (λ b. b || ((names_dirty_row D w || named) || (not (is_write_clear tables D w) || unclear))) rows
      ∙ or-by_element (list_any is_dirty (rows_of_write w X)) (list_any is_dirty (rows_of_writes vs next)) (names_dirty_row D w) named (not (is_write_clear tables D w)) unclear

  pub are_affected-first : (w : Write) (ws : List Write) (X : Content) → are_affected (w ∷ ws) X ≡ (is_write_affected tables D w X || are_affected ws (content_after_write w X))
  are_affected-first w ws X = first_and_others w ws ws X

-- if no element of a list passes a test, no write that is carried out does
none_up_to : (p : Write → Bool) (ws : List Write) (X : Content) → list_any p ws ≡ false → list_any p (up_to_no_effect ws X) ≡ false
none_up_to p [] X h = refl
none_up_to p (w ∷ ws) X h =
    let both = or_parts (p w) (list_any p ws) h in
    or_from (p w) _ both.0 (by (has_no_effect w X) (none_up_to p ws (content_after_write w X) both.1))
  where
    by : (b : Bool) → list_any p (up_to_no_effect ws (content_after_write w X)) ≡ false → list_any p (cond b [] (up_to_no_effect ws (content_after_write w X))) ≡ false
    by true g = refl
    by false g = g

none_tried : (p : Write → Bool) (a : Action) (X : Content) → list_any p a.writes ≡ false → list_any p (tried a X) ≡ false
none_tried p a X h = by a.whole
  where
    by : (b : Bool) → list_any p (cond b (up_to_no_effect a.writes X) a.writes) ≡ false
    by true = none_up_to p a.writes X h
    by false = h

-- where an action isn't affected, its writes aren't that are carried out
pub tried_unaffected : (tables : Tables) (D : DirtySet) (a : Action) (X : Content) → is_affected tables D a X ≡ false → are_affected tables D (tried a X) X ≡ false
tried_unaffected tables D a X h =
    let both = or_parts _ _ h in
    let read = or_parts _ _ both.1 in
    or_from _ _ both.0 (or_from _ _ (none_tried (names_dirty_row D) a X read.0) (none_tried (λ w. not (is_write_clear tables D w)) a X read.1))

pub actions_are_affected_by_their_writes : ActionsAreAffectedByTheirWrites
actions_are_affected_by_their_writes tables D false X = (refl, λ w ws h. are_affected-first tables D w ws X, λ w ws h. absurd (true≢false (sym h)))
actions_are_affected_by_their_writes tables D true X = (
  refl,
  λ w ws h.
      let others = up_to_no_effect ws (content_after_write w X) in
      ap (λ b. list_any (is_dirty tables D) (rows_of_writes (w ∷ cond b [] others) X) || may_read_dirty tables D (w ∷ ws)) h ∙ first_and_others tables D w ws others X,
  λ w ws h.
      let others = up_to_no_effect ws (content_after_write w X) in
      ap (λ b. list_any (is_dirty tables D) (rows_of_writes (w ∷ cond b [] others) X) || may_read_dirty tables D (w ∷ ws)) h ∙ first_and_others tables D w ws [] X,
)
