-- How a slot is re-executed on the next side: the rows that it touched, and those that its writes match, are rolled back to before its time, and its writes carried out on them.
use Rattle.std.specs.Prelude.{◌≡◌, ℕ, ◌≤◌, nat_le, ℤ, Bool, true, false, not, ◌&&◌, ◌||◌, List, ◌++◌, length, if◌then◌else◌}
use Rattle.tt_values.specs.declared.row_id.RowId.{RowId}
use Rattle.tt_values.specs.declared.statement.Write.{Write}
use Rattle.tt_values.specs.declared.action.Action.{Action}
use Rattle.tt_values.specs.declared.reply.Reply.{Reply}
use Rattle.tt_values.specs.Content.{Content, row_at}
use Rattle.tt_values.specs.Action.{content_after_writes, replies_of_writes, rows_of_writes, has_no_effect, one_has_no_effect, up_to_no_effect, tried, content_after_action, replies_of, rows_touched}
use Rattle.tt_values.specs.ActionLaws.{IsByRisingKey}
use Rattle.tt_versions.specs.Sides.{next_of, is_split, just_before}
use Rattle.tt_parts.specs.Dirty.{is_row_in}
use Rattle.tt_repair_laws.specs.Due.{rows_matched_by}
use Rattle.tt_generations.specs.declared.reexecution.Reexecution.{Reexecution}
use Rattle.tt_generations.specs.Rows.{TablesByPosition, versions_at, KeepsCurrent, SplitsRows}
use Rattle.tt_generations.specs.ActionRun.{most_rows}

-- a slot under re-execution, with the tables that it leaves so far
pub record ReexecutionOnRows : Type 0 where
  pub rows : TablesByPosition
  pub replies : List Reply
  pub rows_touched : List RowId
  pub reexecuted : List RowId

abbrev pub reexecution_on : TablesByPosition → Reexecution → ReexecutionOnRows
reexecution_on rows run = record { rows = rows; replies = run.replies; rows_touched = run.rows_touched; reexecuted = run.reexecuted.items }

-- what tables show on the next side before a slot is re-executed at a time: a content just before that time. Split rows show it from then on too, and the others do at that time, except the rows that the slot touched
pub record ShowsContentBefore (tables : TablesByPosition) (time : ℕ) (X : Content) (touched : List RowId) : Type 0 where
  pub rising : IsByRisingKey X
  pub before : (table : ℕ) (key : ℤ) → just_before time (next_of (versions_at tables table) key) ≡ row_at (X table) key
  pub split : (table : ℕ) (key : ℤ) (u : ℕ) → is_split (versions_at tables table) key ≡ true → time ≤ u → next_of (versions_at tables table) key u ≡ row_at (X table) key
  pub untouched : (table : ℕ) (key : ℤ) → is_split (versions_at tables table) key ≡ false → is_row_in touched table key ≡ false → next_of (versions_at tables table) key time ≡ row_at (X table) key

-- on the next side, these rows are split, and have from a time on what a content says; all else is as before
pub record AreReexecuted (before after : TablesByPosition) (rows : List RowId) (time : ℕ) (X : Content) : Type 0 where
  pub current : KeepsCurrent before after
  pub split : (table : ℕ) (key : ℤ) → is_split (versions_at after table) key ≡ (is_row_in rows table key || is_split (versions_at before table) key)
  pub next : (table : ℕ) (key : ℤ) (u : ℕ) → next_of (versions_at after table) key u
      ≡ (if is_row_in rows table key && nat_le time u then row_at (X table) key else next_of (versions_at before table) key u)

-- a slot is under re-execution, with its writes so far: its rows show a content. The other rows of the content are those just before the slot
pub record IsUnderWay (before : TablesByPosition) (time : ℕ) (Y : Content) (touched : List RowId) (run : ReexecutionOnRows) (X : Content) : Type 0 where
  pub start : ShowsContentBefore before time Y touched
  pub rising : IsByRisingKey X
  pub covers : (table : ℕ) (key : ℤ) → is_row_in touched table key ≡ true → is_row_in run.reexecuted table key ≡ true
  pub rows : AreReexecuted before run.rows run.reexecuted time X
  pub others : (table : ℕ) (key : ℤ) → is_row_in run.reexecuted table key ≡ false → row_at (X table) key ≡ row_at (Y table) key

-- further rows are split for a slot under re-execution
pub record SplitsForRun (run after : ReexecutionOnRows) (further : List RowId) (time : ℕ) : Type 0 where
  pub rows : SplitsRows run.rows after.rows further time
  pub reexecuted : after.reexecuted ≡ run.reexecuted ++ further
  pub replies : after.replies ≡ run.replies
  pub rows_touched : after.rows_touched ≡ run.rows_touched

-- what further writes leave and answer
pub record HasReexecutedWrites (before : TablesByPosition) (time : ℕ) (Y : Content) (touched : List RowId) (ws : List Write) (run after : ReexecutionOnRows) (X : Content) : Type 0 where
  pub under_way : IsUnderWay before time Y touched after (content_after_writes ws X)
  pub reexecuted : after.reexecuted ≡ run.reexecuted ++ rows_matched_by ws X
  pub replies : after.replies ≡ run.replies ++ replies_of_writes ws X
  pub touched_now : after.rows_touched ≡ run.rows_touched ++ rows_of_writes ws X

-- further writes are carried out, on whatever content the slot began
abbrev pub ReexecutesWrites : ℕ → List Write → ReexecutionOnRows → ReexecutionOnRows → Type 0
ReexecutesWrites time ws run after = (before : TablesByPosition) (Y : Content) (touched : List RowId) (X : Content) → IsUnderWay before time Y touched run X → HasReexecutedWrites before time Y touched ws run after X

-- it is told whether a further write has an effect
abbrev pub TellsNextEffect : ℕ → Write → ReexecutionOnRows → Bool → Type 0
TellsNextEffect time w run has_one = (before : TablesByPosition) (Y : Content) (touched : List RowId) (X : Content) → IsUnderWay before time Y touched run X → has_one ≡ not (has_no_effect w X)

-- further writes are carried out up to the first without an effect, and it is told whether each has one
abbrev pub TriesNextWrites : ℕ → List Write → ReexecutionOnRows → ReexecutionOnRows → Bool → Type 0
TriesNextWrites time ws run after all = (before : TablesByPosition) (Y : Content) (touched : List RowId) (X : Content) → IsUnderWay before time Y touched run X →
    HasReexecutedWrites before time Y touched (up_to_no_effect ws X) run after X × (all ≡ not (one_has_no_effect ws X))

-- what an action leaves and answers
pub record HasReexecutedAction (before : TablesByPosition) (time : ℕ) (Y : Content) (touched : List RowId) (a : Action) (run after : ReexecutionOnRows) (X : Content) : Type 0 where
  pub under_way : IsUnderWay before time Y touched after (content_after_action a X)
  pub reexecuted : after.reexecuted ≡ run.reexecuted ++ rows_matched_by (tried a X) X
  pub replies : after.replies ≡ run.replies ++ replies_of a X
  pub touched_now : after.rows_touched ≡ run.rows_touched ++ rows_touched a X

-- an action is carried out, on whatever content the slot began
abbrev pub ReexecutesAction : ℕ → Action → ReexecutionOnRows → ReexecutionOnRows → Type 0
ReexecutesAction time a run after = (before : TablesByPosition) (Y : Content) (touched : List RowId) (X : Content) → IsUnderWay before time Y touched run X → HasReexecutedAction before time Y touched a run after X

-- a slot that touched these rows is re-executed with this action, on tables that show a content before it
pub record HasReexecuted (time : ℕ) (touched : List RowId) (a : Action) (before : TablesByPosition) (after : ReexecutionOnRows) (X : Content) : Type 0 where
  pub rows : AreReexecuted before after.rows (touched ++ rows_matched_by (tried a X) X) time (content_after_action a X)
  pub reexecuted : after.reexecuted ≡ touched ++ rows_matched_by (tried a X) X
  pub replies : after.replies ≡ replies_of a X
  pub touched_now : after.rows_touched ≡ rows_touched a X

abbrev pub Reexecutes : ℕ → List RowId → Action → TablesByPosition → ReexecutionOnRows → Type 0
Reexecutes time touched a before after = (X : Content) → ShowsContentBefore before time X touched → HasReexecuted time touched a before after X

-- tables show some content before a slot, with few rows
pub record ShowsFewBefore (tables : TablesByPosition) (time : ℕ) (touched : List RowId) : Type 0 where
  pub content : Content
  pub shows : ShowsContentBefore tables time content touched
  pub few : (table : ℕ) → length (content table) ≤ most_rows

-- a slot is under re-execution from some tables and content on, and its rows show a content with no more rows in a table than this
pub record IsUnderWayWithFew (time : ℕ) (run : ReexecutionOnRows) (most : ℕ) : Type 0 where
  pub before : TablesByPosition
  pub touched : List RowId
  pub start : Content
  pub content : Content
  pub under_way : IsUnderWay before time start touched run content
  pub few : (table : ℕ) → length (content table) ≤ most
