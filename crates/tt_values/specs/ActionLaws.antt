-- Laws of lists of writes and of actions.
use Rattle.std.specs.Prelude.{◌≡◌, ℕ, ◌≤◌, not, ◌&&◌, ◌||◌, true, false, Bool, List, [], ◌∷◌, ◌++◌, map, fold, length, IsTrue, None}
use Rattle.std.specs.List.{All}
use Rattle.std.specs.Ordering.{int_cmp}
use Rattle.std.specs.FinMap.Entries as sorted
use Rattle.tt_values.specs.declared.statement.Write.{Write}
use Rattle.tt_values.specs.declared.action.Action.{Action}
use Rattle.tt_values.specs.Tables.{Tables, IsCatalog}
use Rattle.tt_values.specs.Check.{action_fault, HasKey}
use Rattle.tt_values.specs.Content.{Content, with_row_write}
use Rattle.tt_values.specs.Effect.{table_of, effect, reply_of}
use Rattle.tt_values.specs.declared.row_id.RowId.{RowId}
use Rattle.tt_values.specs.Action.{action_of, whole_of, content_after_write, content_after_writes, replies_of_writes, rows_of_write, rows_of_writes, effect_of_writes, effect_at_time, is_among, row_id_cmp, has_no_effect, one_has_no_effect, tried, is_undone, content_after_action, replies_of, rows_touched, effect_of_action, action_writes}

-- the rows of each table are in strictly ascending order of their keys
abbrev pub IsByRisingKey : Content → Type 0
IsByRisingKey X = (table : ℕ) → IsTrue (sorted.is_sorted int_cmp (X table))

-- the row writes of some writes leave the content after these, one after another
abbrev pub WritesLeaveTheirLastContent : Type 0
WritesLeaveTheirLastContent = (time : ℕ) (ws : List Write) (X : Content) → IsByRisingKey X →
    fold with_row_write X (effect_at_time time (effect_of_writes ws X)) ≡ content_after_writes ws X

-- the row writes of an action leave the content after it
abbrev pub ActionLeavesItsLastContent : Type 0
ActionLeavesItsLastContent = (time : ℕ) (a : Action) (X : Content) → IsByRisingKey X →
    fold with_row_write X (action_writes time a X) ≡ content_after_action a X

-- an action of one write, whole or not, makes the row writes of that write, and has its reply
abbrev pub ActionOfOneWrite : Type 0
ActionOfOneWrite = (time : ℕ) (w : Write) (whole : Bool) (X : Content) → IsByRisingKey X →
    let a : Action = record { writes = w ∷ []; whole = whole } in
    (action_writes time a X ≡ map (λ e. record { time = time; table = table_of w; key = e.0; row = e.1 }) (effect w X))
    × (replies_of a X ≡ reply_of w X ∷ [])

-- two actions have the same effect and the same replies on a content, touch the same rows of it,
-- and leave the same
pub record DoTheSame (a b : Action) (X : Content) : Type 0 where
  pub effect : effect_of_action a X ≡ effect_of_action b X
  pub replies : replies_of a X ≡ replies_of b X
  pub rows : rows_touched a X ≡ rows_touched b X
  pub content : content_after_action a X ≡ content_after_action b X

-- of an action of at most one write it doesn't matter whether it is whole
abbrev pub FewWritesAreWhole : Type 0
FewWritesAreWhole = (ws : List Write) (X : Content) → length ws ≤ 1 →
    DoTheSame (whole_of ws) (action_of ws) X

-- nor does it of an action of which each write has an effect
abbrev pub EffectiveWritesAreWhole : Type 0
EffectiveWritesAreWhole = (ws : List Write) (X : Content) → one_has_no_effect ws X ≡ false →
    DoTheSame (whole_of ws) (action_of ws) X

-- a write without an effect writes no rows, and leaves the content as it was
abbrev pub IdleWritesChangeNothing : Type 0
IdleWritesChangeNothing = (w : Write) (X : Content) → has_no_effect w X ≡ true →
    (rows_of_write w X ≡ []) × (content_after_write w X ≡ X)

-- an undone action leaves the content as it was, and has no effect
abbrev pub UndoneActionsChangeNothing : Type 0
UndoneActionsChangeNothing = (a : Action) (X : Content) → is_undone a X ≡ true →
    (content_after_action a X ≡ X) × (effect_of_action a X ≡ [])

-- of an action that isn't undone all writes are carried out
abbrev pub AllWritesAreTried : Type 0
AllWritesAreTried = (a : Action) (X : Content) → is_undone a X ≡ false → tried a X ≡ a.writes

-- of an undone action the writes are carried out up to the first without an effect: each before it
-- has one
abbrev pub UndoneActionsStop : Type 0
UndoneActionsStop = (a : Action) (X : Content) → is_undone a X ≡ true →
    (ws : List Write) × (w : Write) × (vs : List Write)
    × (a.writes ≡ ws ++ w ∷ vs)
    × (tried a X ≡ ws ++ w ∷ [])
    × (one_has_no_effect ws X ≡ false)
    × (has_no_effect w (content_after_writes ws X) ≡ true)

-- the effect of some writes has the rows that they write, and no others, each once: by table, then
-- by key
abbrev pub WritesWriteEachRowOnce : Type 0
WritesWriteEachRowOnce = (ws : List Write) (X : Content) →
    IsTrue (sorted.is_sorted row_id_cmp (effect_of_writes ws X))
    × ((r : RowId) → is_among r (map (λ e. e.0) (effect_of_writes ws X)) ≡ is_among r (rows_of_writes ws X))

-- the effect of an action has the rows that it touches, or none if it is undone, each once: by
-- table, then by key
abbrev pub ActionWritesEachRowOnce : Type 0
ActionWritesEachRowOnce = (a : Action) (X : Content) →
    IsTrue (sorted.is_sorted row_id_cmp (effect_of_action a X))
    × ((r : RowId) → is_among r (map (λ e. e.0) (effect_of_action a X)) ≡ (not (is_undone a X) && is_among r (rows_touched a X)))

-- an action touches each row that it writes
abbrev pub WrittenRowsAreTouched : Type 0
WrittenRowsAreTouched = (a : Action) (X : Content) (r : RowId) →
    is_among r (map (λ e. e.0) (effect_of_action a X)) ≡ true → is_among r (rows_touched a X) ≡ true

-- the last of some writes are carried out on the content that those before them left
abbrev pub WritesFollow : Type 0
WritesFollow = (ws vs : List Write) (X : Content) → let Y = content_after_writes ws X in
    (content_after_writes (ws ++ vs) X ≡ content_after_writes vs Y)
    × (replies_of_writes (ws ++ vs) X ≡ replies_of_writes ws X ++ replies_of_writes vs Y)
    × (rows_of_writes (ws ++ vs) X ≡ rows_of_writes ws X ++ rows_of_writes vs Y)
    × (one_has_no_effect (ws ++ vs) X ≡ (one_has_no_effect ws X || one_has_no_effect vs Y))

-- the writes at the end of an action are carried out on the content that those before them left,
-- unless these undo it
abbrev pub ActionsFollow : Type 0
ActionsFollow = (ws vs : List Write) (whole : Bool) (X : Content) →
    let a : Action = record { writes = ws; whole = whole } in
    let b : Action = record { writes = vs; whole = whole } in
    let both : Action = record { writes = ws ++ vs; whole = whole } in
    let Y = content_after_action a X in
    is_undone a X ≡ false →
    (tried both X ≡ ws ++ tried b Y)
    × (replies_of both X ≡ replies_of a X ++ replies_of b Y)
    × (rows_touched both X ≡ rows_touched a X ++ rows_touched b Y)
    × (is_undone both X ≡ is_undone b Y)
    × (is_undone b Y ≡ false → content_after_action both X ≡ content_after_action b Y)

-- an action is undone as soon as its first writes are, and the others aren't carried out
abbrev pub UndoneActionsStayUndone : Type 0
UndoneActionsStayUndone = (ws vs : List Write) (whole : Bool) (X : Content) →
    let a : Action = record { writes = ws; whole = whole } in
    let both : Action = record { writes = ws ++ vs; whole = whole } in
    is_undone a X ≡ true → (is_undone both X ≡ true) × (tried both X ≡ tried a X)

-- each insert of an action without a fault has a row with a key
abbrev pub AcceptedActionsHaveKeys : Type 0
AcceptedActionsHaveKeys = (tables : Tables) (ws : List Write) → IsCatalog tables →
    action_fault tables ws ≡ None → All HasKey ws
