-- One slot of the ground more; where one can't be written, the log goes on as it was.
use Rattle.std.proofs.Common.{◌≡◌, List, [], ◌∷◌, ◌++◌, ℕ, Some, All, take, slice_get, sym, ap, ◌∙◌, subst, arith}
use Rattle.std.specs.Option.{option_copied}
use Rattle.std.proofs.lemmas.List.Elements.{All-append}
use Rattle.tt_session.specs.LogLines.{line_of_ground, lines_of_ground}
use Rattle.tt_durable.specs.Renewing.{IsPrintable, IsWriting}
use Rattle.tt_durable.specs.declared.log_renewal.RenewFault.TheVariants as faults
use Rattle.tt_durable.proofs.RenewingLemmas.{err_is, item-at, take-further, lines-further, all-one, writes-more}
use Rattle.tt_durable.proofs.log_renewal.push_ground.Goals as goal

pub returns-in_err-print_ground-clause-err : goal.returns-in_err-print_ground-clause-err
returns-in_err-print_ground-clause-err g c =
    err_is _ c.from_residual.result faults.Memory c.from_residual.ensures.1 (λ told before all so_far. (c.loop-place.invariant.writes told before all so_far).keeps)

pub returns-in_err-push_line-clause-err : goal.returns-in_err-push_line-clause-err
returns-in_err-push_line-clause-err g c =
    let l = c.loop-place in
    err_is _ c.from_residual-in_err-push_line.result c.in_err-push_line.field-0.0 c.from_residual-in_err-push_line.ensures.1
    (λ told before all so_far. c.in_err-push_line.ensures.err (l.invariant.tells.0 told) before _ (l.invariant.writes told before all so_far))

pub loop-place-preserved : goal.loop-place-preserved
loop-place-preserved g c =
    let D = g.D.Device in
    let of = D in
    let l = c.loop-place in
    let tables = c.args.db.now.catalog in
    let h = c.args.db.now.history in
    let e = c.in-Some.entry.now in
    let line = c.deref.result.now in
    let pushed = c.in_ok-push_line.ensures in
    let at : slice_get h l.place ≡ Some e =
    item-at h l.place (option_copied c.entry.result) e c.entry.ensures (ap option_copied c.in-Some.is) in
    let line_is : line ≡ line_of_ground tables e =
    c.deref.ensures.value ∙ c.in_ok-print_ground.ensures.line ∙ ap (λ t. line_of_ground t e) c.catalog.ensures in
    let so_far : List (List ℕ) = lines_of_ground tables (take l.place h) in
    let both = lines-further (line_of_ground tables) h l.place e line at line_is in
    record {
      settled = λ told. pushed.settled (pushed.tells.0 (l.invariant.tells.0 told));
      making = λ told. pushed.making (pushed.tells.0 (l.invariant.tells.0 told));
      tells = (λ told. pushed.tells.0 (l.invariant.tells.0 told), λ told. l.invariant.tells.1 (pushed.tells.1 told));
      writes = λ told.
          writes-more of c.args.log.now l.log c.push_line.new.log c.args.lines.now l.lines c.push_line.new.lines so_far (line ∷ []) _ both (l.invariant.writes told)
          (pushed.ok (l.invariant.tells.0 told));
      printable =
          subst (All IsPrintable) (sym (take-further h l.place e at))
          (All-append IsPrintable (take l.place h) (e ∷ []) l.invariant.printable (all-one IsPrintable e c.in_ok-print_ground.ensures.printable));
    }

pub returns-clause-ok : goal.returns-clause-ok
returns-clause-ok g c =
    let D = g.D.Device in
    let of = D in
    let l = c.loop-place in
    let h = c.args.db.now.history in
    let end : l.place ≡ c.args.ground_slots = omega (arith, l.auto.place-end, c.loop-place-test.false) in
    λ told before all so_far.
    subst (λ n. IsWriting of before l.log l.lines (all ++ lines_of_ground c.args.db.now.catalog (take n h))) end (l.invariant.writes told before all so_far)

pub returns-clause-printable : goal.returns-clause-printable
returns-clause-printable g c =
    let l = c.loop-place in
    let end : l.place ≡ c.args.ground_slots = omega (arith, l.auto.place-end, c.loop-place-test.false) in
    subst (λ n. All IsPrintable (take n c.args.db.now.history)) end l.invariant.printable
