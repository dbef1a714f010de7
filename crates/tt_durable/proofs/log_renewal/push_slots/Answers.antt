-- One slot more; where one can't be written, the log goes on as it was.
use Rattle.std.proofs.Common.{◌≡◌, ◌+◌, ◌-◌, ◌≤◌, List, [], ◌∷◌, ◌++◌, ℕ, Option, Some, All, take, drop, slice_get, refl, sym, ap, ◌∙◌, subst, arith}
use Rattle.std.specs.Option.{option_copied}
use Rattle.std.proofs.lemmas.List.Elements.{All-append}
use Rattle.tt_db.specs.declared.event.Entry.{Entry}
use Rattle.tt_session.specs.LogLines.{stamped_entries, line_of_further, lines_of_further}
use Rattle.tt_durable.specs.Renewing.{IsFurtherPrintable, IsWriting}
use Rattle.tt_durable.specs.declared.log_renewal.RenewFault.TheVariants as faults
use Rattle.tt_durable.proofs.RenewingLemmas.{err_is, item-at, take-further, lines-further, all-one, writes-more}
use Rattle.tt_durable.proofs.StampLemmas.{slot-at, slots-all}
use Rattle.tt_durable.proofs.log_renewal.push_slots.Goals as goal

pub returns-in_err-print_slot-clause-err : goal.returns-in_err-print_slot-clause-err
returns-in_err-print_slot-clause-err g c =
    err_is _ c.from_residual.result faults.Memory c.from_residual.ensures.1 (λ told before all so_far. (c.loop-place.invariant.writes told before all so_far).keeps)

pub returns-in_err-push_line-clause-err : goal.returns-in_err-push_line-clause-err
returns-in_err-push_line-clause-err g c =
    let l = c.loop-place in
    err_is _ c.from_residual-in_err-push_line.result c.in_err-push_line.field-0.0 c.from_residual-in_err-push_line.ensures.1
    (λ told before all so_far. c.in_err-push_line.ensures.err (l.invariant.tells.0 told) before _ (l.invariant.writes told before all so_far))

pub loop-place-preserved : goal.loop-place-preserved
loop-place-preserved g c =
    let D = g.D.Device in
    let of = D in
    let l = c.loop-place in
    let from = c.args.ground_slots in
    let tables = c.args.db.now.catalog in
    let h = c.args.db.now.history in
    let stamps = c.args.stamps.now in
    let e = c.in-Some.entry.now in
    let stamp : Option ℕ = c.get-stamp.result in
    let line = c.deref.result.now in
    let pushed = c.in_ok-push_line.ensures in
    let slots : List (Entry × Option ℕ) = stamped_entries (drop from h) stamps in
    let behind : from ≤ l.place = omega arith in
    let at : slice_get h l.place ≡ Some e =
    item-at h l.place (option_copied c.entry.result) e c.entry.ensures (ap option_copied c.in-Some.is) in
    let here : slice_get slots (l.place - from) ≡ Some (e, stamp) = slot-at h from l.place (l.place + 1 - from) stamps e stamp behind at refl c.get-stamp.ensures in
    let line_is : line ≡ line_of_further tables (e, stamp) =
    c.deref.ensures.value ∙ c.in_ok-print_slot.ensures.line ∙ ap (λ t. line_of_further t (e, stamp)) c.catalog.ensures in
    let count : l.place - from + 1 ≡ l.place + 1 - from = omega (arith, behind) in
    let so_far : List (List ℕ) = lines_of_further tables (take (l.place - from) slots) in
    let both = subst (λ n. lines_of_further tables (take n slots) ≡ so_far ++ line ∷ []) count (lines-further (line_of_further tables) slots (l.place - from) (e, stamp) line here line_is) in
    record {
      settled = λ told. pushed.settled (pushed.tells.0 (l.invariant.tells.0 told));
      making = λ told. pushed.making (pushed.tells.0 (l.invariant.tells.0 told));
      tells = (λ told. pushed.tells.0 (l.invariant.tells.0 told), λ told. l.invariant.tells.1 (pushed.tells.1 told));
      writes = λ told.
          writes-more of c.args.log.now l.log c.push_line.new.log c.args.lines.now l.lines c.push_line.new.lines so_far (line ∷ []) _ both (l.invariant.writes told)
          (pushed.ok (l.invariant.tells.0 told));
      printable =
          subst (λ n. All IsFurtherPrintable (take n slots)) count
          (subst (All IsFurtherPrintable) (sym (take-further slots (l.place - from) (e, stamp) here))
          (All-append IsFurtherPrintable (take (l.place - from) slots) ((e, stamp) ∷ []) l.invariant.printable (all-one IsFurtherPrintable (e, stamp) c.in_ok-print_slot.ensures.printable)));
    }

pub returns-clause-ok : goal.returns-clause-ok
returns-clause-ok g c =
    let D = g.D.Device in
    let of = D in
    let l = c.loop-place in
    let end : l.place ≡ c.events-slots.result = omega (arith, l.auto.place-end, c.loop-place-test.false) in
    let all = slots-all c.args.db.now.history c.args.ground_slots l.place c.args.stamps.now (end ∙ c.events-slots.ensures.count) in
    λ told before so_far w.
    subst (λ slots. IsWriting of before l.log l.lines (so_far ++ lines_of_further c.args.db.now.catalog slots)) all (l.invariant.writes told before so_far w)

pub returns-clause-printable : goal.returns-clause-printable
returns-clause-printable g c =
    let l = c.loop-place in
    let end : l.place ≡ c.events-slots.result = omega (arith, l.auto.place-end, c.loop-place-test.false) in
    subst (All IsFurtherPrintable) (slots-all c.args.db.now.history c.args.ground_slots l.place c.args.stamps.now (end ∙ c.events-slots.ensures.count)) l.invariant.printable
