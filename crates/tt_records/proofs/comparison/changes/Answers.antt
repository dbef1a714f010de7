-- The slots stay those of the database, so each record is compared with it.
use Rattle.std.proofs.Common.{◌≡◌, ◌++◌, sym, ap, ◌∙◌}
use Rattle.std.proofs.lemmas.List.{append-nil}
use Rattle.tt_db.specs.Database.{Database, state_of}
use Rattle.tt_records.specs.Changes.{change_of, changes_of, as_list}
use Rattle.tt_records.proofs.ChangesLemmas.{changes-next, is_none}
use Rattle.tt_records.proofs.comparison.changes.Goals as goal
use Rattle.tt_records.proofs.comparison.changes.Goals.{in-Some+in_ok-push, in_default}

pub loop-record-preserved : goal.loop-record-preserved
loop-record-preserved c =
    let db = c.args.db.now in
    let records = c.args.records.now in
    let same = c.loop-record.invariant.database in
    let before = c.loop-record.changes.items in
    let change = c.in_ok-change.field-0 in
    let is : change ≡ change_of db.catalog (state_of db) c.record-item.result = c.in_ok-change.ensures.change ∙ ap (λ (d : Database). change_of d.catalog (state_of d) c.record-item.result) same in
    let added : c.match-branch-2.changes.items ≡ before ++ as_list change = elim c.match-branch-2.branch [
      | in-Some+in_ok-push w ↦ ap (λ v. v.items) w.changes-is ∙ w.in_ok-push.ensures.items ∙ ap (λ o. before ++ as_list o) (sym w.in-Some.is)
      | in_default w ↦ ap (λ v. v.items) w.changes-is ∙ sym (append-nil before) ∙ ap (λ o. before ++ as_list o) (sym (is_none change w.in_default.not-Some))
    ] in
    record {
      database = c.change_of.ensures.database ∙ same;
      all = changes-next db.catalog (state_of db) records c.loop-record.record-index c.record-item.result before c.match-branch-2.changes.items (changes_of db.catalog (state_of db) records) change c.loop-record-test.true c.record-item.is is added c.loop-record.invariant.all;
    }
