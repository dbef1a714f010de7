-- One call more, with the steps before it.
use Rattle.std.proofs.Common.{rules, ◌≡◌, ◌+◌, ◌∷◌, ◌++◌, List, [], refl, sym, ap, subst, ◌∙◌}
use Rattle.tt_values.specs.Tables.{Tables}
use Rattle.tt_db.specs.Database.{Database, state_of}
use Rattle.tt_document.specs.declared.document.Call.{Call}
use Rattle.tt_workload.specs.Records.{record_in, line_of_record, lines_of_records}
use Rattle.tt_workload.specs.Room.{IsUnderWay}
use Rattle.tt_workload.proofs.ReportLemmas.{is_memory}
use Rattle.tt_workload.proofs.RepairLemmas.{under_way-call, records_meanwhile-next, with_meanwhile-next, next-piece}
use Rattle.tt_workload.proofs.repair.make_meanwhile.Goals as goal

pub loop-call-preserved : goal.loop-call-preserved
loop-call-preserved c =
    let l = c.loop-call in
    let call : Call = c.in-Some.call in
    let rest : List Call = c.next.new.self.rest.items in
    let next : l.call-iterator.rest.items ≡ call ∷ rest = search rules in
    let before = c.in_ok-make_batch.ensures.state in
    let next_is = c.in_ok-record.ensures.state in
    let left = records_meanwhile-next c.args.administrator.worker c.args.administrator.batch (l.number + 1) l.db c.make_batch.new.db c.make_call.new.db call l.call-iterator.rest.items rest next before next_is in
    let latest = record_in (l.number + 1) (state_of c.make_batch.new.db) call in
    let catalog : c.make_batch.new.db.catalog ≡ c.args.db.now.catalog = ap (λ (db : Database). db.catalog) before ∙ l.invariant.catalog in
    let line : c.make_call.new.out.items ≡ l.out.items ++ line_of_record c.args.json c.args.db.now.catalog latest =
    c.in_ok-record.ensures.line ∙ ap (λ (ts : Tables). l.out.items ++ line_of_record c.args.json ts latest) catalog in
    record {
      lines = next-piece (lines_of_records c.args.json c.args.db.now.catalog) (line_of_record c.args.json c.args.db.now.catalog) l.out.items c.make_call.new.out.items _ latest _ _ (λ r rs. refl) left line l.invariant.lines;
      records = next-piece (λ rs. rs) (λ r. r ∷ []) l.records.items _ _ latest _ _ (λ r rs. refl) left
          (c.in_ok-push.ensures.items ∙ ap (λ r. l.records.items ++ r ∷ []) c.in_ok-record.ensures.answer) l.invariant.records;
      state = sym (with_meanwhile-next c.args.administrator.worker c.args.administrator.batch l.db c.make_batch.new.db c.make_call.new.db call l.call-iterator.rest.items rest next before next_is) ∙ l.invariant.state;
      catalog = ap (λ (db : Database). db.catalog) next_is ∙ catalog;
      under_way =
          let more = under_way-call l.number c.make_batch.new.db call.worker call.ask c.in_ok-make_batch.ensures.under_way in
          subst (λ (db : Database). IsUnderWay (l.number + 1) db) (sym next_is) more;
      accepted = search rules;
      number = search rules;
    }

pub returns-in_err-push-clause-err : goal.returns-in_err-push-clause-err
returns-in_err-push-clause-err c = let gives = c.from_residual-in_err-push in is_memory gives.result gives.ensures.1
