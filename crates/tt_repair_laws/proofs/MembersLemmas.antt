-- A repair depends only on the members of its dirty sets.
use Rattle.std.proofs.Common.{◌≡◌, ℕ, suc, not, ◌&&◌, ◌||◌, ◌==◌, List, [], ◌∷◌, Option, None, Some, is_some, refl, sym, ap, ◌∙◌}
use Rattle.std.specs.List.{list_any}
use Rattle.tt_values.specs.declared.value.Value.{Value}
use Rattle.tt_values.specs.declared.value.Value.TheVariants as values
use Rattle.tt_values.specs.declared.statement.Write.{Write}
use Rattle.tt_values.specs.declared.action.Action.{Action}
use Rattle.tt_values.specs.declared.statement.Write.TheVariants.{Insert, Update, Delete}
use Rattle.tt_values.specs.Row.{key_of}
use Rattle.tt_values.specs.Matches.{equates}
use Rattle.tt_values.specs.Tables.{Tables}
use Rattle.tt_values.specs.Action.{rows_touched}
use Rattle.tt_values.specs.Content.{Content, row_at}
use Rattle.tt_values.specs.Effect.{table_of}
use Rattle.tt_values.specs.RowWrites.{slot_after}
use Rattle.tt_parts.specs.declared.partition.Partition.{Partition}
use Rattle.tt_parts.specs.Partitions.{partitions_read, reads_or_all}
use Rattle.tt_parts.specs.Dirty.{DirtySet, SameMembers, columns_in, is_clear}
use Rattle.tt_parts.proofs.LawProofs.{same_members_with_row, clear_depends_on_members, reads_decide_clear}
use Rattle.tt_repair_laws.specs.Edits.{edit_of}
use Rattle.tt_repair_laws.specs.Due.{content_after, is_dirty_key, names_dirty_row, is_write_clear, is_affected, is_slot_affected, with_row_of}
use Rattle.tt_repair_laws.specs.Steps.{DueDependsOnMembers, DirtyRowsDependOnMembers}

module _ (tables : Tables) (C D : DirtySet) (same : SameMembers C D) where
  same_dirty_key : (table : ℕ) (v : Value) → is_dirty_key C table v ≡ is_dirty_key D table v
  same_dirty_key table (values.Int key) = same.rows table key
  same_dirty_key table (values.Text t) = refl

  same_named : (w : Write) → names_dirty_row C w ≡ names_dirty_row D w
  same_named (Insert table row) = same.rows table (key_of row)
  same_named (Update table cs qs) = λ i. list_any (λ q. equates q && (q.column == 0) && same_dirty_key table q.value i) qs
  same_named (Delete table qs) = λ i. list_any (λ q. equates q && (q.column == 0) && same_dirty_key table q.value i) qs

  same_clear : (table : ℕ) (ps : List Partition) → is_clear C table ps ≡ is_clear D table ps
  same_clear table ps =
      sym (reads_decide_clear C table ps) ∙ clear_depends_on_members C D (reads_or_all table ps) same ∙ reads_decide_clear D table ps

  same_write_clear : (w : Write) → is_write_clear tables C w ≡ is_write_clear tables D w
  same_write_clear w = same_clear (table_of w) (partitions_read (columns_in tables (table_of w)) w)

  same_affected : (action : Action) (X : Content) → is_affected tables C action X ≡ is_affected tables D action X
  same_affected action X = λ i.
      list_any (λ r. same.rows r.table r.key i) (rows_touched action X)
      || (list_any (λ w. same_named w i) action.writes || list_any (λ w. not (same_write_clear w i)) action.writes)

  same_slot_affected : (s : Option Action) (X : Content) → is_slot_affected tables C s X ≡ is_slot_affected tables D s X
  same_slot_affected None X = refl
  same_slot_affected (Some action) X = same_affected action X

pub due_depends_on_members : DueDependsOnMembers
due_depends_on_members tables W E n C D same =
    ap (λ b. is_some (edit_of E (suc n)) || b) (same_slot_affected tables C D same (slot_after W n) (content_after W n))

pub dirty_rows_depend_on_members : DirtyRowsDependOnMembers
dirty_rows_depend_on_members tables X Y [] C D same = same
dirty_rows_depend_on_members tables X Y (r ∷ rs) C D same =
    let next = same_members_with_row C D r.table (columns_in tables r.table) r.key (row_at (X r.table) r.key) (row_at (Y r.table) r.key) same in
    dirty_rows_depend_on_members tables X Y rs (with_row_of tables X Y C r) (with_row_of tables X Y D r) next
