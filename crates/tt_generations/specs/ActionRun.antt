-- How an action is carried out on the current side, write by write.
use Rattle.std.specs.Prelude.{◌≡◌, ℕ, ◌*◌, Bool, not, List, [], ◌∷◌, ◌++◌}
use Rattle.tt_values.specs.declared.statement.Write.{Write}
use Rattle.tt_values.specs.declared.action.Action.{Action}
use Rattle.tt_values.specs.declared.reply.Reply.{Reply}
use Rattle.tt_values.specs.declared.row_id.RowId.{RowId}
use Rattle.tt_values.specs.Limits.{max_writes}
use Rattle.tt_values.specs.Content.{Content, RowWrite, content_at}
use Rattle.tt_values.specs.Effect.{table_of, effect}
use Rattle.tt_values.specs.Action.{content_after_write, replies_of_writes, rows_of_writes, has_no_effect, one_has_no_effect, up_to_no_effect, kept, replies_of, rows_touched}
use Rattle.tt_versions.specs.RowsByWrites.{as_row_writes}
use Rattle.tt_generations.specs.declared.action_run.ActionRun.{ActionRun}
use Rattle.tt_generations.specs.Limits.{max_slots}
use Rattle.tt_generations.specs.Rows.{TablesByPosition, CurrentAgrees}

-- an action under way, with the tables that its writes so far leave
pub record RunOnRows : Type 0 where
  pub rows : TablesByPosition
  pub replies : List Reply
  pub rows_touched : List RowId

abbrev pub run_on : TablesByPosition → ActionRun → RunOnRows
run_on rows run = record { rows = rows; replies = run.replies; rows_touched = run.rows_touched }

-- the row writes of writes that are carried out one after another, at one time
abbrev pub step_writes : ℕ → List Write → Content → List RowWrite
step_writes time [] X = []
step_writes time (w ∷ ws) X = as_row_writes time (table_of w) (effect w X) ++ step_writes time ws (content_after_write w X)

-- what writes leave, and what they answer, after they are carried out at a time on tables that have the rows of these row writes
pub record HasCarriedOut (time : ℕ) (ws : List Write) (before after : RunOnRows) (vs : List RowWrite) : Type 0 where
  pub rows : CurrentAgrees after.rows (vs ++ step_writes time ws (content_at vs time))
  pub replies : after.replies ≡ before.replies ++ replies_of_writes ws (content_at vs time)
  pub touched : after.rows_touched ≡ before.rows_touched ++ rows_of_writes ws (content_at vs time)

-- writes are carried out at a time, for all row writes whose rows the tables before have
abbrev pub CarriesOut : ℕ → List Write → RunOnRows → RunOnRows → Type 0
CarriesOut time ws before after = (vs : List RowWrite) → CurrentAgrees before.rows vs → HasCarriedOut time ws before after vs

-- it is told whether a write has an effect at a time, for all row writes whose rows the tables have
abbrev pub TellsEffect : ℕ → Write → TablesByPosition → Bool → Type 0
TellsEffect time w before has_one = (vs : List RowWrite) → CurrentAgrees before vs → has_one ≡ not (has_no_effect w (content_at vs time))

-- writes are carried out at a time up to the first without an effect, and it is told whether each has one
abbrev pub TriesWrites : ℕ → List Write → RunOnRows → RunOnRows → Bool → Type 0
TriesWrites time ws before after all = (vs : List RowWrite) → CurrentAgrees before.rows vs → let X = content_at vs time in
    HasCarriedOut time (up_to_no_effect ws X) before after vs × (all ≡ not (one_has_no_effect ws X))

-- what an action leaves, and what it answers, for a run that begins with these tables, before its first write
pub record StartsAction (time : ℕ) (a : Action) (before : TablesByPosition) (after : RunOnRows) (vs : List RowWrite) : Type 0 where
  pub rows : CurrentAgrees after.rows (vs ++ step_writes time (kept a (content_at vs time)) (content_at vs time))
  pub replies : after.replies ≡ replies_of a (content_at vs time)
  pub touched : after.rows_touched ≡ rows_touched a (content_at vs time)

-- an action is carried out at a time, for all row writes whose rows the tables before have
abbrev pub CarriesOutAction : ℕ → Action → TablesByPosition → RunOnRows → Type 0
CarriesOutAction time a before after = (vs : List RowWrite) → CurrentAgrees before vs → StartsAction time a before after vs

-- how many rows a table has at most, before the last slot that there may be
abbrev pub most_rows : ℕ
most_rows = max_writes * max_slots
