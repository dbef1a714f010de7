-- One call more.
use Rattle.std.proofs.Common.{rules, ◌≡◌, ◌+◌, ◌∷◌, ◌++◌, List, [], refl, sym, ap, subst, ◌∙◌}
use Rattle.tt_values.specs.Tables.{Tables}
use Rattle.tt_db.specs.Database.{Database, state_of}
use Rattle.tt_records.specs.declared.record.Record.{Record}
use Rattle.tt_document.specs.declared.document.Call.{Call}
use Rattle.tt_workload.specs.Records.{record_in, kept, line_of_record, lines_of_records}
use Rattle.tt_workload.specs.History.{history_of, entries_of}
use Rattle.tt_workload.specs.Room.{IsBefore}
use Rattle.tt_workload.proofs.ReportLemmas.{is_memory}
use Rattle.tt_workload.proofs.RepairLemmas.{before-call, records_of-next, next-piece, kept-next}
use Rattle.tt_workload.proofs.calls.make_calls.Goals as goal

pub loop-call-preserved : goal.loop-call-preserved
loop-call-preserved c =
    let l = c.loop-call in
    let call : Call = c.in-Some.call in
    let rest : List Call = c.next.new.self.rest.items in
    let next : l.call-iterator.rest.items ≡ call ∷ rest = search rules in
    let next_is = c.in_ok-record.ensures.state in
    let left = records_of-next (l.number + 1) l.db c.make_call.new.db call l.call-iterator.rest.items rest next next_is in
    let latest = record_in (l.number + 1) (state_of l.db) call in
    let line : c.make_call.new.out.items ≡ l.out.items ++ line_of_record c.args.json c.args.db.catalog latest =
    c.in_ok-record.ensures.line ∙ ap (λ (ts : Tables). l.out.items ++ line_of_record c.args.json ts latest) l.invariant.catalog in
    record {
      lines = next-piece (lines_of_records c.args.json c.args.db.catalog) (line_of_record c.args.json c.args.db.catalog) l.out.items c.make_call.new.out.items _ latest _ _ (λ r rs. refl) left line l.invariant.lines;
      records = next-piece (kept c.args.are_kept) (λ r. kept c.args.are_kept (r ∷ [])) l.records.items _ _ latest _ _ (kept-next c.args.are_kept) left
          (c.in_ok-keep.ensures ∙ ap (λ (r : Record). l.records.items ++ kept c.args.are_kept (r ∷ [])) c.in_ok-record.ensures.answer) l.invariant.records;
      state = next-piece history_of entries_of l.db.history c.make_call.new.db.history _ call _ _ (λ d ds. refl) next (ap (λ (db : Database). db.history) next_is) l.invariant.state;
      catalog = search rules;
      limits = search rules;
      before =
          let more = before-call l.number l.db call.worker call.ask l.invariant.before in
          subst (λ (db : Database). IsBefore (l.number + 1) db) (sym next_is) more;
      accepted = search rules;
      number = search rules;
    }

pub returns-in_err-keep-clause-err : goal.returns-in_err-keep-clause-err
returns-in_err-keep-clause-err c = let gives = c.from_residual-in_err-keep in is_memory gives.result gives.ensures.1
