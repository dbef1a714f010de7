-- The action is re-executed on the rows, and what it re-executes gets dirty.
use Rattle.std.proofs.Common.{◌+◌, ◌<◌, Option, List, length, subst, sym, ap, ◌∙◌, arith}
use Rattle.std.specs.List.{All}
use Rattle.tt_values.specs.declared.statement.Write.{Write}
use Rattle.tt_values.specs.declared.action.Action.{Action}
use Rattle.tt_values.specs.Tables.{Tables}
use Rattle.tt_values.specs.Check.{HasKey}
use Rattle.tt_parts.specs.Dirty.{SameMembers}
use Rattle.tt_causes.specs.Numbers.{GotDirtyAt}
use Rattle.tt_values.specs.declared.row_id.RowId.{RowId}
use Rattle.tt_generations.specs.declared.repair.Repair.{Repair}
use Rattle.tt_generations.specs.Replies.{replies_if}
use Rattle.tt_generations.specs.Reexecution.{reexecution_on, Reexecutes, ShowsFewBefore}
use Rattle.tt_generations.specs.Repair.{next_action, as_action, with_rows_shown, ReexecutesSlot}
use Rattle.tt_generations.proofs.RepairLemmas.{few_writes-accepted, keyed-accepted, tables-of_run, ReexecutesSlot-done}
use Rattle.tt_generations.proofs.repair.Repair.reexecute_as.Goals as goal

pub of_slot-requires-clause-keyed : goal.of_slot-requires-clause-keyed
of_slot-requires-clause-keyed c =
    let writes = c.writes_of-writes.ensures ∙ ap (λ (s : Option Action). (as_action s).writes) c.requires.action in
    subst (λ (ws : List Write). All HasKey ws) (sym writes)
    (keyed-accepted c.args.catalog.now (next_action c.args.self.now c.args.kept.now) c.len.ensures.sound c.requires.accepted)

pub of_slot-requires-clause-short : goal.of_slot-requires-clause-short
of_slot-requires-clause-short c =
    let writes = c.writes_of-writes.ensures ∙ ap (λ (s : Option Action). (as_action s).writes) c.requires.action in
    omega (arith, few_writes-accepted c.args.catalog.now (next_action c.args.self.now c.args.kept.now) c.requires.accepted, ap length writes)

pub of_slot-requires-clause-few : goal.of_slot-requires-clause-few
of_slot-requires-clause-few c =
    let time = c.args.self.now.done + 1 in
    subst (λ (rs : List RowId). ShowsFewBefore c.args.rows.now time rs) (sym c.as_slice-touched.ensures) c.requires.few

pub add_rows_shown-requires-clause-tables : goal.add_rows_shown-requires-clause-tables
add_rows_shown-requires-clause-tables c =
    let before = c.args.self.now in
    let run = reexecution_on c.of_slot.new.rows c.in_ok-run.run' in
    let time = before.done + 1 in
    let touched = c.args.kept.now.rows in
    let writes = c.writes_of-writes.ensures ∙ ap (λ (s : Option Action). (as_action s).writes) c.requires.action in
    let whole = c.is_whole-whole.ensures ∙ ap (λ (s : Option Action). (as_action s).whole) c.requires.action in
    let reexecutes : Reexecutes time touched (as_action (next_action before c.args.kept.now)) c.args.rows.now run =
    subst (λ (a : Action). Reexecutes time touched a c.args.rows.now run) (λ i. record { writes = writes i; whole = whole i })
    (subst (λ (rs : List RowId). Reexecutes time rs (record { writes = c.writes_of-writes.result.now; whole = c.is_whole-whole.result }) c.args.rows.now run) c.as_slice-touched.ensures c.in_ok-run.ensures) in
    let all = tables-of_run c.args.catalog.now before c.args.kept.now c.args.rows.now run c.requires.touched c.requires.accepted c.requires.few reexecutes in
    let there = subst (λ (tables : Tables). All (λ r. r.table < length tables) run.reexecuted) (sym c.requires.catalog) all in
    subst (λ (rs : List RowId). All (λ r. r.table < length before.dirty.catalog) rs) (sym c.deref.ensures.value) there

pub returns-clause-done : goal.returns-clause-done
returns-clause-done c =
    let put = c.in_ok-put_slot.ensures in
    record {
      edits = ap (λ (r : Repair). r.edits) put;
      replacements = ap (λ (r : Repair). r.replacements) put;
      done = ap (λ (r : Repair). r.done) put;
      reexecuted = ap (λ (r : Repair). r.reexecuted) put;
      catalog = ap (λ (r : Repair). r.dirty.catalog) put ∙ c.in_ok-add_rows_shown.ensures.catalog;
    }

pub returns-clause-rows : goal.returns-clause-rows
returns-clause-rows c =
    let before = c.args.self.now in
    let after = c.put_slot.new.self in
    let kept = c.args.kept.now in
    let run = reexecution_on c.of_slot.new.rows c.in_ok-run.run' in
    let time = before.done + 1 in
    let touched = c.args.kept.now.rows in
    let writes = c.writes_of-writes.ensures ∙ ap (λ (s : Option Action). (as_action s).writes) c.requires.action in
    let whole = c.is_whole-whole.ensures ∙ ap (λ (s : Option Action). (as_action s).whole) c.requires.action in
    let reexecutes : Reexecutes time touched (as_action (next_action before c.args.kept.now)) c.args.rows.now run =
    subst (λ (a : Action). Reexecutes time touched a c.args.rows.now run) (λ i. record { writes = writes i; whole = whole i })
    (subst (λ (rs : List RowId). Reexecutes time rs (record { writes = c.writes_of-writes.result.now; whole = c.is_whole-whole.result }) c.args.rows.now run) c.as_slice-touched.ensures c.in_ok-run.ensures) in
    let action = c.requires.action in
    let new = c.in_ok-slot.ensures in
    let put = c.in_ok-put_slot.ensures in
    let replies = new.replies ∙ ap (λ a. replies_if a run.replies) action in
    let shown = subst (λ (rs : List RowId). SameMembers c.add_rows_shown.new.dirty.dirty (with_rows_shown before.dirty run.rows rs (before.done + 1))) c.deref.ensures.value c.in_ok-add_rows_shown.ensures.dirty in
    let dirty = subst (λ (r : Repair). SameMembers r.dirty.dirty (with_rows_shown before.dirty run.rows run.reexecuted (before.done + 1))) (sym put) shown in
    let since = subst (λ (r : Repair). GotDirtyAt before.dirty.since (before.done + 1) r.dirty.dirty r.dirty.since) (sym put) c.in_ok-add_rows_shown.ensures.since in
    ReexecutesSlot-done before after kept c.in_ok-slot.slot c.args.rows.now run reexecutes (new.action ∙ action) replies new.rows_touched (ap (λ (r : Repair). r.slots) put) dirty since
