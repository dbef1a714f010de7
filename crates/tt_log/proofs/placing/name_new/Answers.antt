-- The new file is filled up, synced, and named.
use Rattle.std.proofs.Common.{◌<◌, ◌-◌, length, ⊎_elim, inl, inr, refl, ◌∙◌, arith}
use Rattle.tt_log.specs.Device.{NothingNew}
use Rattle.tt_log.specs.Lines.{logged}
use Rattle.tt_log.proofs.RenewalLemmas.{at_rest-filled, logged-filled, named_left}
use Rattle.tt_log.proofs.SyncLemmas.{once_yet, once_on, earlier}
use Rattle.tt_log.proofs.UncleanLemmas.{name_unclean}
use Rattle.tt_log.proofs.placing.name_new.Goals as goal

pub returns-clause-at_rest : goal.returns-clause-at_rest
returns-clause-at_rest g c = λ told.
    let told_1 = c.grow_new.ensures.tells.0 told in
    let told_2 = c.sync_new.ensures.tells.0 told_1 in
    let bytes = g.D.Device.new_file c.args.device.now in
    let is = c.in_ok-rename_new.ensures.named told_2 ∙ c.in_ok-sync_new.ensures.new_file told_1 ∙ c.in_ok-grow_new.ensures.grown told in
    at_rest-filled bytes (g.D.Device.seen c.rename_new.new.self) _ is (c.requires.lines told)

pub returns-clause-logged : goal.returns-clause-logged
returns-clause-logged g c = λ told.
    let told_1 = c.grow_new.ensures.tells.0 told in
    let told_2 = c.sync_new.ensures.tells.0 told_1 in
    let bytes = g.D.Device.new_file c.args.device.now in
    let is = c.in_ok-rename_new.ensures.named told_2 ∙ c.in_ok-sync_new.ensures.new_file told_1 ∙ c.in_ok-grow_new.ensures.grown told in
    logged-filled bytes (g.D.Device.seen c.rename_new.new.self) _ is

pub returns-in_err-rename_new-clause-crash : goal.returns-in_err-rename_new-clause-crash
returns-in_err-rename_new-clause-crash g c = λ told.
    let V = g.D.Device in
    let told_1 = c.grow_new.ensures.tells.0 told in
    let told_2 = c.sync_new.ensures.tells.0 told_1 in
    let old = c.args.device.now in
    let synced = c.sync_new.new.self in
    let less : NothingNew (V.may_leave old) (V.may_leave synced) = λ left was. c.grow_new.ensures.crash told left (c.sync_new.ensures.crash told_1 left was) in
    named_left (V.new_file old) (V.new_file c.grow_new.new.self) _ (c.in_ok-grow_new.ensures.grown told) (V.may_leave old) (V.may_leave_new synced) (V.may_leave c.rename_new.new.self) (V.shown old)
    (c.in_ok-sync_new.ensures.durable told_1) (λ left is. ⊎_elim (λ was. inl (less left was)) (λ new. inr new) (c.rename_new.ensures.either told_2 left is))

pub returns-clause-crash : goal.returns-clause-crash
returns-clause-crash g c = λ told.
    let V = g.D.Device in
    let told_1 = c.grow_new.ensures.tells.0 told in
    let told_2 = c.sync_new.ensures.tells.0 told_1 in
    let old = c.args.device.now in
    let synced = c.sync_new.new.self in
    let less : NothingNew (V.may_leave old) (V.may_leave synced) = λ left was. c.grow_new.ensures.crash told left (c.sync_new.ensures.crash told_1 left was) in
    named_left (V.new_file old) (V.new_file c.grow_new.new.self) _ (c.in_ok-grow_new.ensures.grown told) (V.may_leave old) (V.may_leave_new synced) (V.may_leave c.rename_new.new.self) (V.shown old)
    (c.in_ok-sync_new.ensures.durable told_1) (λ left is. ⊎_elim (λ was. inl (less left was)) (λ new. inr new) (c.rename_new.ensures.either told_2 left is))

pub returns-in_err-rename_new-clause-any_moment : goal.returns-in_err-rename_new-clause-any_moment
returns-in_err-rename_new-clause-any_moment g c = λ told.
    let V = g.D.Device in
    let told_1 = c.grow_new.ensures.tells.0 told in
    let told_2 = c.sync_new.ensures.tells.0 told_1 in
    let old = c.args.device.now in
    let grown = c.grow_new.new.self in
    let synced = c.sync_new.new.self in
    let lines = logged (V.new_file old) in
    let less : NothingNew (V.may_leave old) (V.may_leave synced) = λ left was. c.grow_new.ensures.crash told left (c.sync_new.ensures.crash told_1 left was) in
    let only = g.met.D.Device.only_now in
    once_on V.seen V.shown V.may_leave V.moment V.left_since V.failures only old synced c.rename_new.new.self lines
    (once_on V.seen V.shown V.may_leave V.moment V.left_since V.failures only old grown synced lines
    (once_on V.seen V.shown V.may_leave V.moment V.left_since V.failures only old old grown lines (once_yet V.seen V.shown V.may_leave V.moment V.left_since V.failures only old lines) (c.grow_new.ensures.time told) refl
    (earlier (V.may_leave old) (V.may_leave grown) lines (V.shown old) (c.grow_new.ensures.crash told)))
    (c.sync_new.ensures.time told_1) (c.grow_new.ensures.shown told) (earlier (V.may_leave old) (V.may_leave synced) lines (V.shown old) less))
    (c.rename_new.ensures.time told_2) (c.sync_new.ensures.shown told_1 ∙ c.grow_new.ensures.shown told) (returns-in_err-rename_new-clause-crash g c told)

pub returns-clause-any_moment : goal.returns-clause-any_moment
returns-clause-any_moment g c = λ told.
    let V = g.D.Device in
    let told_1 = c.grow_new.ensures.tells.0 told in
    let told_2 = c.sync_new.ensures.tells.0 told_1 in
    let old = c.args.device.now in
    let grown = c.grow_new.new.self in
    let synced = c.sync_new.new.self in
    let lines = logged (V.new_file old) in
    let less : NothingNew (V.may_leave old) (V.may_leave synced) = λ left was. c.grow_new.ensures.crash told left (c.sync_new.ensures.crash told_1 left was) in
    let only = g.met.D.Device.only_now in
    once_on V.seen V.shown V.may_leave V.moment V.left_since V.failures only old synced c.rename_new.new.self lines
    (once_on V.seen V.shown V.may_leave V.moment V.left_since V.failures only old grown synced lines
    (once_on V.seen V.shown V.may_leave V.moment V.left_since V.failures only old old grown lines (once_yet V.seen V.shown V.may_leave V.moment V.left_since V.failures only old lines) (c.grow_new.ensures.time told) refl
    (earlier (V.may_leave old) (V.may_leave grown) lines (V.shown old) (c.grow_new.ensures.crash told)))
    (c.sync_new.ensures.time told_1) (c.grow_new.ensures.shown told) (earlier (V.may_leave old) (V.may_leave synced) lines (V.shown old) less))
    (c.rename_new.ensures.time told_2) (c.sync_new.ensures.shown told_1 ∙ c.grow_new.ensures.shown told) (returns-clause-crash g c told)

-- what a crash leaves doesn't look ended
pub returns-in_err-rename_new-clause-unclean : goal.returns-in_err-rename_new-clause-unclean
returns-in_err-rename_new-clause-unclean g c = λ told all.
    let V = g.D.Device in
    let told_1 = c.grow_new.ensures.tells.0 told in
    let told_2 = c.sync_new.ensures.tells.0 told_1 in
    let old = c.args.device.now in
    let synced = c.sync_new.new.self in
    let some : 0 < c.args.len - length (V.new_file old) = omega (arith, c.requires.len told) in
    name_unclean V.shown V.may_leave V.moment V.left_since g.met.D.Device.only_now old c.grow_new.new.self synced (V.new_file old) (V.new_file c.grow_new.new.self) _ some (c.in_ok-grow_new.ensures.grown told) all
    (c.grow_new.ensures.crash told) (c.grow_new.ensures.time told) (c.sync_new.ensures.crash told_1) (c.sync_new.ensures.time told_1)
    c.rename_new.new.self (V.may_leave_new synced) (c.in_ok-sync_new.ensures.durable told_1) (c.rename_new.ensures.either told_2) (c.rename_new.ensures.time told_2)

pub returns-clause-unclean : goal.returns-clause-unclean
returns-clause-unclean g c = λ told all.
    let V = g.D.Device in
    let told_1 = c.grow_new.ensures.tells.0 told in
    let told_2 = c.sync_new.ensures.tells.0 told_1 in
    let old = c.args.device.now in
    let synced = c.sync_new.new.self in
    let some : 0 < c.args.len - length (V.new_file old) = omega (arith, c.requires.len told) in
    name_unclean V.shown V.may_leave V.moment V.left_since g.met.D.Device.only_now old c.grow_new.new.self synced (V.new_file old) (V.new_file c.grow_new.new.self) _ some (c.in_ok-grow_new.ensures.grown told) all
    (c.grow_new.ensures.crash told) (c.grow_new.ensures.time told) (c.sync_new.ensures.crash told_1) (c.sync_new.ensures.time told_1)
    c.rename_new.new.self (V.may_leave_new synced) (c.in_ok-sync_new.ensures.durable told_1) (c.rename_new.ensures.either told_2) (c.rename_new.ensures.time told_2)
