-- The session begins with what was read back, and goes on.
use Rattle.std.proofs.Common.{sym, subst, inr}
use Rattle.tt_durable.specs.LoggedSession.{GoesOnLog, StopsInLog, FailsOnLog}
use Rattle.tt_lines.proofs.EndingLemmas.{hands-map, fails-map, fails-last}
use Rattle.tt_durable.proofs.LoggedSessionLemmas.{goes-ended, stops-ending, StopsFor, goes-on, stops-for, fails-at-start, fails-on-log, keeps-same}
use Rattle.tt_durable.proofs.logged_session.run_logged_session.Goals as goal

pub returns-in-Err-begin-clause-err : goal.returns-in-Err-begin-clause-err
returns-in-Err-begin-clause-err g c = λ told. fails-at-start c.in-Err-begin.fault.0 _ _ _ _ _ (keeps-same (g.R.Read.remaining c.args.reader.now)) (c.in-Err-begin.ensures.err told)

pub returns-in-Err-serve_on_log-clause-err : goal.returns-in-Err-serve_on_log-clause-err
returns-in-Err-serve_on_log-clause-err g c = λ told.
    let D = g.D.Device in
    let of = D in
    let begun = c.in-Ok-begin.ensures.ok told in
    let after = c.in-Err-serve_on_log.log.device in
    let whole =
    fails-map c.in-Err-serve_on_log.fault _ _ _ (GoesOnLog of c.args.device after) _ (StopsFor c.in-Err-serve_on_log.error of c.args.device after)
    (λ reads handed. goes-on of c.args.device c.in-Ok-begin.begun.0 c.in-Ok-begin.begun.1 begun after reads handed)
    (λ reads stopped. stops-for c.in-Err-serve_on_log.error of c.args.device c.in-Ok-begin.begun.0 c.in-Ok-begin.begun.1 begun after reads stopped) (c.in-Err-serve_on_log.ensures.err begun.tells) in
    subst (λ d. FailsOnLog c.fault_of.result (g.R.Read.remaining c.args.reader.now) (g.R.Read.remaining c.serve_on_log.new.reader) of c.args.device d) (sym c.into_device.ensures)
    (subst (λ f. FailsOnLog f (g.R.Read.remaining c.args.reader.now) (g.R.Read.remaining c.serve_on_log.new.reader) of c.args.device after) (sym c.fault_of.ensures)
    (fails-on-log c.in-Err-serve_on_log.fault c.in-Err-serve_on_log.error _ _ of c.args.device after whole))

pub returns-in-Ok-close-clause-ok : goal.returns-in-Ok-close-clause-ok
returns-in-Ok-close-clause-ok g c = λ told.
    let D = g.D.Device in
    let of = D in
    let begun = c.in-Ok-begin.ensures.ok told in
    let log = c.in-Ok-serve_on_log.served.1 in
    let e = c.in-Ok-close.ensures in
    hands-map _ _ _ (GoesOnLog of c.args.device c.in-Ok-close.device)
    (λ reads handed. goes-ended of c.in-Ok-begin.begun.1.device log.device c.in-Ok-close.device c.in-Ok-begin.begun.0 reads handed c.args.device begun.begins (record {
      tells = e.tells.0 handed.tells;
      lines = e.lines handed.tells;
      lines_are = e.logged handed.tells;
      durable = e.durable handed.tells;
      shown_is = e.shown handed.tells;
      any_moment = e.any_moment handed.tells;
      failures = e.failures handed.tells;
      no_new = e.no_new handed.tells;
    })) (c.in-Ok-serve_on_log.ensures.ok begun.tells)

pub returns-clause-err : goal.returns-clause-err
returns-clause-err g c = λ told.
    let D = g.D.Device in
    let of = D in
    let begun = c.in-Ok-begin.ensures.ok told in
    let log = c.in-Ok-serve_on_log.served.1 in
    let e = c.in-Err-close.ensures in
    let h = c.in-Ok-serve_on_log.ensures.ok begun.tells in
    inr (fails-last _ _ h.bytes (StopsInLog of c.args.device c.in-Err-close.device) h.consumed h.at_end (
      h.reads,
      h.lines_are,
      stops-ending of c.in-Ok-begin.begun.1.device log.device c.in-Err-close.device c.in-Ok-begin.begun.0 h.reads h.is_handed c.args.device begun.begins (record {
        shown_is = e.shown_err h.is_handed.tells;
        any_moment = e.any_moment_err h.is_handed.tells;
        failed = e.failed h.is_handed.tells;
        no_new = e.no_new_err h.is_handed.tells;
      }),
    ))
