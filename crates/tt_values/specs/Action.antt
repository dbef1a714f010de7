-- The effects and the replies of actions. An action has writes that are carried out in order, at
-- one time: each of them sees the rows that the ones before it left. A whole action writes nothing
-- where one of its writes has no effect in its turn, and the writes behind this one aren't carried
-- out.
use Rattle.std.specs.Prelude.{ℕ, ◌==◌, ◌&&◌, ◌||◌, Bool, true, false, ℤ, List, [], ◌∷◌, ◌++◌, map, fold, length, Option, ⊤, if◌then◌else◌}
use Rattle.std.specs.List.{list_any}
use Rattle.std.specs.declared.cmp.Ordering.{Ordering}
use Rattle.std.specs.Ordering.{nat_cmp, int_cmp, int_eq, ordering_then}
use Rattle.std.specs.FinMap.Entries as sorted
use Rattle.tt_values.specs.declared.row.Row.{Row}
use Rattle.tt_values.specs.declared.row_id.RowId.{RowId}
use Rattle.tt_values.specs.declared.statement.Write.{Write}
use Rattle.tt_values.specs.declared.action.Action.{Action}
use Rattle.tt_values.specs.declared.reply.Reply.{Reply}
use Rattle.tt_values.specs.Content.{Content, RowWrite, row_at, with_row_at}
use Rattle.tt_values.specs.Effect.{table_of, effect, reply_of}

-- the action of these writes, each of which is carried out
abbrev pub action_of : List Write → Action
action_of ws = record { writes = ws; whole = false }

-- the action of these writes that is carried out wholly or not at all
abbrev pub whole_of : List Write → Action
whole_of ws = record { writes = ws; whole = true }

-- the content in which some keys of a table have these rows, or none
abbrev pub with_rows_at : ℕ → List (ℤ × Option Row) → Content → Content
with_rows_at table es X t = if t == table then fold (λ rows e. with_row_at rows e.0 e.1) (X t) es else X t

-- the content after a write
abbrev pub content_after_write : Write → Content → Content
content_after_write w X = with_rows_at (table_of w) (effect w X) X

-- the content after some writes, one after another
abbrev pub content_after_writes : List Write → Content → Content
content_after_writes [] X = X
content_after_writes (w ∷ ws) X = content_after_writes ws (content_after_write w X)

-- the replies to some writes: one to each, on the content that the ones before it left
abbrev pub replies_of_writes : List Write → Content → List Reply
replies_of_writes [] X = []
replies_of_writes (w ∷ ws) X = reply_of w X ∷ replies_of_writes ws (content_after_write w X)

-- the rows that a write writes
abbrev pub rows_of_write : Write → Content → List RowId
rows_of_write w X = map (λ e. record { table = table_of w; key = e.0 }) (effect w X)

-- the rows that some writes write, in order
abbrev pub rows_of_writes : List Write → Content → List RowId
rows_of_writes [] X = []
rows_of_writes (w ∷ ws) X = rows_of_write w X ++ rows_of_writes ws (content_after_write w X)

-- whether a row is in a list of rows
abbrev pub is_among : RowId → List RowId → Bool
is_among r rs = list_any (λ s. (r.table == s.table) && int_eq r.key s.key) rs

-- the order of rows: by table, then by key
abbrev pub row_id_cmp : RowId → RowId → Ordering
row_id_cmp a b = ordering_then (nat_cmp a.table b.table) (int_cmp a.key b.key)

-- a list of rows in that order, with one more row in its place; the same list if it is there
abbrev pub with_row_once : List (RowId × ⊤) → RowId → List (RowId × ⊤)
with_row_once es r = sorted.put row_id_cmp r tt es

-- the rows of a list, each once, in that order
abbrev pub each_row_once : List RowId → List RowId
each_row_once rs = map (λ e. e.0) (fold with_row_once [] rs)

-- the effect of some writes: each row that one of them writes, once, with the row that the content
-- after them has there, or none
abbrev pub effect_of_writes : List Write → Content → List (RowId × Option Row)
effect_of_writes ws X = map (λ r. (r, row_at (content_after_writes ws X r.table) r.key)) (each_row_once (rows_of_writes ws X))

-- an effect, as row writes at this time
abbrev pub effect_at_time : ℕ → List (RowId × Option Row) → List RowWrite
effect_at_time time es = map (λ e. record { time = time; table = e.0.table; key = e.0.key; row = e.1 }) es

-- whether a write has no effect on a content: an insert of a key that is there, or an update or
-- delete that matches no row
abbrev pub has_no_effect : Write → Content → Bool
has_no_effect w X = length (effect w X) == 0

-- whether one of some writes has no effect in its turn
abbrev pub one_has_no_effect : List Write → Content → Bool
one_has_no_effect [] X = false
one_has_no_effect (w ∷ ws) X = has_no_effect w X || one_has_no_effect ws (content_after_write w X)

-- the first of some writes, up to the one that has no effect in its turn, with this one
abbrev pub up_to_no_effect : List Write → Content → List Write
up_to_no_effect [] X = []
up_to_no_effect (w ∷ ws) X = w ∷ (if has_no_effect w X then [] else up_to_no_effect ws (content_after_write w X))

-- the writes of an action that are carried out: of a whole one those up to the first without an
-- effect, of any other all
abbrev pub tried : Action → Content → List Write
tried a X = if a.whole then up_to_no_effect a.writes X else a.writes

-- whether an action writes nothing since it is whole and one of its writes has no effect
abbrev pub is_undone : Action → Content → Bool
is_undone a X = a.whole && one_has_no_effect a.writes X

-- the writes of an action that stay: none if it is undone, else all
abbrev pub kept : Action → Content → List Write
kept a X = if is_undone a X then [] else a.writes

-- the content after an action
abbrev pub content_after_action : Action → Content → Content
content_after_action a X = content_after_writes (kept a X) X

-- the replies to an action: one to each write that is carried out
abbrev pub replies_of : Action → Content → List Reply
replies_of a X = replies_of_writes (tried a X) X

-- the rows that an action touches: those in the effects of its writes, in order, of an undone
-- action too
abbrev pub rows_touched : Action → Content → List RowId
rows_touched a X = rows_of_writes (tried a X) X

-- the effect of an action
abbrev pub effect_of_action : Action → Content → List (RowId × Option Row)
effect_of_action a X = effect_of_writes (kept a X) X

-- the effect of an action on a content, as row writes at this time
abbrev pub action_writes : ℕ → Action → Content → List RowWrite
action_writes time a X = effect_at_time time (effect_of_action a X)
