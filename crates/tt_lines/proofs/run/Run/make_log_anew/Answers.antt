-- The log is made anew, or it is refused, or there is no memory for it, or the outlet fails.
use Rattle.std.proofs.Common.{refl, sym, ap, subst, ◌∙◌}
use Rattle.tt_session.specs.declared.short_answer.ShortAnswer.TheVariants as shorts
use Rattle.tt_session.specs.ShortAnswers.{short_text}
use Rattle.tt_lines.specs.Anew.{Forgets, Renews}
use Rattle.tt_commands.proofs.ResultLemmas.{err_of, and_results}
use Rattle.tt_lines.proofs.RunningLemmas.{forgets, forgets-made, forgets-refused, forgets-lost, stops-lost}
use Rattle.tt_lines.proofs.run.Run.make_log_anew.Goals as goal

pub returns-in-Ok-MadeAnew-clause-ok : goal.returns-in-Ok-MadeAnew-clause-ok
returns-in-Ok-MadeAnew-clause-ok g c = λ first start over line p.
    let O = g.O.Outlet in
    let old = c.args.self.now in
    let f = forgets O.handed O.has_log first c.args.outlet.now start over line old c.args.ready c.terms.result c.as_slice.result.now c.as_bytes.result.now p
    c.terms.ensures.terms c.terms.ensures.few c.as_slice.ensures.value
    (c.as_bytes.ensures.value ∙ c.as_str.ensures.value ∙ c.text-refusal.ensures ∙ ap (λ n. short_text (shorts.CallWithoutLog n)) c.calls-call.ensures) in
    let told = subst (λ x. Forgets start over line x c.terms.result c.as_slice.result.now c.as_bytes.result.now) (sym c.get.ensures) f in
    let given = subst (Renews O.handed first c.hand_over_anew.new.self start over line) c.in-Ok-MadeAnew.field-0-is (c.in-Ok-MadeAnew.ensures.renewed first start over line p.is_handed told) in
    forgets-made O.handed O.has_log first c.args.outlet.now c.hand_over_anew.new.self start over line old (record old { session = c.go_on_behind.new.self }) c.args.ready p given
    c.go_on_behind.ensures.session refl refl

pub returns-in-Ok-Refused-clause-ok : goal.returns-in-Ok-Refused-clause-ok
returns-in-Ok-Refused-clause-ok g c = λ first start over line p.
    let O = g.O.Outlet in
    let old = c.args.self.now in
    let f = forgets O.handed O.has_log first c.args.outlet.now start over line old c.args.ready c.terms.result c.as_slice.result.now c.as_bytes.result.now p
    c.terms.ensures.terms c.terms.ensures.few c.as_slice.ensures.value
    (c.as_bytes.ensures.value ∙ c.as_str.ensures.value ∙ c.text-refusal.ensures ∙ ap (λ n. short_text (shorts.CallWithoutLog n)) c.calls-call.ensures) in
    let told = subst (λ x. Forgets start over line x c.terms.result c.as_slice.result.now c.as_bytes.result.now) (sym c.get.ensures) f in
    let given = subst (Renews O.handed first c.hand_over_anew.new.self start over line) c.in-Ok-Refused.field-0-is (c.in-Ok-Refused.ensures.renewed first start over line p.is_handed told) in
    forgets-refused O.handed O.has_log first c.args.outlet.now c.hand_over_anew.new.self start over line old c.args.ready p given

pub returns-in-Ok-OutOfMemory-clause-ok : goal.returns-in-Ok-OutOfMemory-clause-ok
returns-in-Ok-OutOfMemory-clause-ok g c =
    let O = g.O.Outlet in
    let old = c.args.self.now in
    let short = c.hand_over_short.ensures in
    and_results c.hand_over_short.result short.ok short.out short.lines (λ given_short out lines first start over line p.
    let f = forgets O.handed O.has_log first c.args.outlet.now start over line old c.args.ready c.terms.result c.as_slice.result.now c.as_bytes.result.now p
    c.terms.ensures.terms c.terms.ensures.few c.as_slice.ensures.value
    (c.as_bytes.ensures.value ∙ c.as_str.ensures.value ∙ c.text-refusal.ensures ∙ ap (λ n. short_text (shorts.CallWithoutLog n)) c.calls-call.ensures) in
    let told = subst (λ x. Forgets start over line x c.terms.result c.as_slice.result.now c.as_bytes.result.now) (sym c.get.ensures) f in
    let given = subst (Renews O.handed first c.hand_over_anew.new.self start over line) c.in-Ok-OutOfMemory.field-0-is (c.in-Ok-OutOfMemory.ensures.renewed first start over line p.is_handed told) in
    forgets-lost O.handed O.has_log first c.args.outlet.now c.hand_over_anew.new.self c.hand_over_short.new.outlet start over line old c.hand_over_short.new.self c.args.ready
    (short_text (shorts.CallOutOfMemory c.calls-call.result)) p given (ap (λ n. short_text (shorts.CallOutOfMemory n)) c.calls-call.ensures) given_short short.session out lines)

pub returns-in-Ok-OutOfMemory-clause-err : goal.returns-in-Ok-OutOfMemory-clause-err
returns-in-Ok-OutOfMemory-clause-err g c =
    let O = g.O.Outlet in
    let old = c.args.self.now in
    err_of c.hand_over_short.result (λ stops first start over line p.
    let f = forgets O.handed O.has_log first c.args.outlet.now start over line old c.args.ready c.terms.result c.as_slice.result.now c.as_bytes.result.now p
    c.terms.ensures.terms c.terms.ensures.few c.as_slice.ensures.value
    (c.as_bytes.ensures.value ∙ c.as_str.ensures.value ∙ c.text-refusal.ensures ∙ ap (λ n. short_text (shorts.CallWithoutLog n)) c.calls-call.ensures) in
    let told = subst (λ x. Forgets start over line x c.terms.result c.as_slice.result.now c.as_bytes.result.now) (sym c.get.ensures) f in
    let given = subst (Renews O.handed first c.hand_over_anew.new.self start over line) c.in-Ok-OutOfMemory.field-0-is (c.in-Ok-OutOfMemory.ensures.renewed first start over line p.is_handed told) in
    stops-lost O.handed O.stopped O.has_log first c.args.outlet.now c.hand_over_anew.new.self c.hand_over_short.new.outlet start over line old c.args.ready
    (short_text (shorts.CallOutOfMemory c.calls-call.result)) p given (ap (λ n. short_text (shorts.CallOutOfMemory n)) c.calls-call.ensures) stops) c.hand_over_short.ensures.err

pub returns-in-Err-clause-err : goal.returns-in-Err-clause-err
returns-in-Err-clause-err g c = λ first start over line p.
    let O = g.O.Outlet in
    let old = c.args.self.now in
    let f = forgets O.handed O.has_log first c.args.outlet.now start over line old c.args.ready c.terms.result c.as_slice.result.now c.as_bytes.result.now p
    c.terms.ensures.terms c.terms.ensures.few c.as_slice.ensures.value
    (c.as_bytes.ensures.value ∙ c.as_str.ensures.value ∙ c.text-refusal.ensures ∙ ap (λ n. short_text (shorts.CallWithoutLog n)) c.calls-call.ensures) in
    let told = subst (λ x. Forgets start over line x c.terms.result c.as_slice.result.now c.as_bytes.result.now) (sym c.get.ensures) f in
    c.in-Err.ensures.stopped first start over line p.is_handed told
