-- Bytes are handed over.
use Rattle.std.proofs.Common.{◌≡◌, ◌++◌, List, ℕ, length, take, ap, refl, sym, ◌∙◌, subst, arith, ⊎_elim}
use Rattle.std.proofs.Math.Logic.{∥∥₁_map}
use Rattle.std.proofs.lemmas.List.{take_all}
use Rattle.tt_log.specs.Device.{NowShowing}
use Rattle.tt_device_tests.specs.declared.event.Event.TheVariants.{Shown}
use Rattle.tt_device_tests.specs.Outcomes.{Outcomes, left_by, outcomes, may_leave_of}
use Rattle.tt_device_tests.proofs.EventLemmas.{copied, outcomes-shown, elapses_more, same_once, either_way}
use Rattle.tt_device_tests.proofs.device.MemoryDeviceDevice.hand_over.Goals as goal

pub invariant_of-self-2-clause-seen_left : goal.invariant_of-self-2-clause-seen_left
invariant_of-self-2-clause-seen_left g c =
    let d = c.args.self.now in
    let events = d.events.items in
    let bytes = c.args.bytes.now in
    let new = c.record.new.events.items in
    let copy = c.in_ok-bytes.bytes in
    let same = copied c.copy_of.result copy bytes c.in_ok-bytes.ensures.ok c.copy_of.ensures in
    ⊎_elim
    (λ more. ∥∥₁_map d.seen_left (λ left. subst (λ (o : Outcomes). o.once_synced d.file.items) (sym (outcomes-shown events bytes copy same new more)) left))
    (λ none. ∥∥₁_map d.seen_left (λ left. same_once events new d.file.items d.file.items none refl left))
    (either_way c.record.result events new (Shown copy) c.record.ensures.ok c.record.ensures.err)

pub invariant_of-self-2-clause-one_name : goal.invariant_of-self-2-clause-one_name
invariant_of-self-2-clause-one_name g c = λ named left was.
    let d = c.args.self.now in
    let events = d.events.items in
    let bytes = c.args.bytes.now in
    let new = c.record.new.events.items in
    let copy = c.in_ok-bytes.bytes in
    let same = copied c.copy_of.result copy bytes c.in_ok-bytes.ensures.ok c.copy_of.ensures in
    d.one_name named left (⊎_elim
    (λ more. subst (λ (o : Outcomes). o.other left) (outcomes-shown events bytes copy same new more) was)
    (λ none. subst (λ es. (outcomes es).other left) none was)
    (either_way c.record.result events new (Shown copy) c.record.ensures.ok c.record.ensures.err))

pub returns-clause-shown : goal.returns-clause-shown
returns-clause-shown g c = λ told.
    let d = c.args.self.now in
    let events = d.events.items in
    let bytes = c.args.bytes.now in
    let new = c.record.new.events.items in
    let copy = c.in_ok-bytes.bytes in
    let same = copied c.copy_of.result copy bytes c.in_ok-bytes.ensures.ok c.copy_of.ensures in
    let is = outcomes-shown events bytes copy same new c.in_ok-record.ensures.ok in
    ap (λ (o : Outcomes). o.shown) is

pub returns-clause-renames : goal.returns-clause-renames
returns-clause-renames g c = λ told.
    let d = c.args.self.now in
    let events = d.events.items in
    let bytes = c.args.bytes.now in
    let new = c.record.new.events.items in
    let copy = c.in_ok-bytes.bytes in
    let same = copied c.copy_of.result copy bytes c.in_ok-bytes.ensures.ok c.copy_of.ensures in
    let is = outcomes-shown events bytes copy same new c.in_ok-record.ensures.ok in
    ap (λ (o : Outcomes). o.rename_count) is

pub returns-clause-first : goal.returns-clause-first
returns-clause-first g c = λ told.
    let d = c.args.self.now in
    let events = d.events.items in
    let bytes = c.args.bytes.now in
    let new = c.record.new.events.items in
    let copy = c.in_ok-bytes.bytes in
    let same = copied c.copy_of.result copy bytes c.in_ok-bytes.ensures.ok c.copy_of.ensures in
    let is = outcomes-shown events bytes copy same new c.in_ok-record.ensures.ok in
    (length bytes, ap (λ (o : Outcomes). o.shown) is ∙ ap (λ (b : List ℕ). (outcomes events).shown ++ b) (sym (take_all (length bytes) bytes (omega arith))))

pub returns-clause-crash : goal.returns-clause-crash
returns-clause-crash g c = λ told left was.
    let d = c.args.self.now in
    let events = d.events.items in
    let bytes = c.args.bytes.now in
    let new = c.record.new.events.items in
    let copy = c.in_ok-bytes.bytes in
    let same = copied c.copy_of.result copy bytes c.in_ok-bytes.ensures.ok c.copy_of.ensures in
    let is = outcomes-shown events bytes copy same new c.in_ok-record.ensures.ok in
    subst (λ (o : Outcomes). left_by o left) is was

pub returns-clause-time : goal.returns-clause-time
returns-clause-time g c = λ told.
    let d = c.args.self.now in
    let events = d.events.items in
    let bytes = c.args.bytes.now in
    let new = c.record.new.events.items in
    let copy = c.in_ok-bytes.bytes in
    let same = copied c.copy_of.result copy bytes c.in_ok-bytes.ensures.ok c.copy_of.ensures in
    let is = outcomes-shown events bytes copy same new c.in_ok-record.ensures.ok in
    let all : (outcomes new).shown ≡ (outcomes events).shown ++ take (length bytes) bytes = ap (λ (o : Outcomes). o.shown) is ∙ ap (λ (b : List ℕ). (outcomes events).shown ++ b) (sym (take_all (length bytes) bytes (omega arith))) in
    elapses_more events (Shown copy) new c.in_ok-record.ensures.ok (NowShowing (may_leave_of new) (outcomes events).shown bytes) (λ left now. (now.0, (length bytes, now.1 ∙ all)))
