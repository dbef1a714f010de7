-- The new file takes the name.
use Rattle.std.proofs.Common.{ap, sym, ◌∙◌, subst, inl, inr, ⊎_elim, arith}
use Rattle.std.proofs.lemmas.Grind.{merely}
use Rattle.std.specs.Prelude.{vec_items}
use Rattle.tt_device_tests.specs.declared.event.Event.TheVariants.{Placed}
use Rattle.tt_device_tests.specs.Outcomes.{Outcomes, left_by}
use Rattle.tt_device_tests.proofs.EventLemmas.{copied, outcomes-placed, elapses_kept}
use Rattle.tt_device_tests.proofs.device.MemoryDeviceDevice.rename_new.Goals as goal

pub invariant_of-self-2-clause-seen_left : goal.invariant_of-self-2-clause-seen_left
invariant_of-self-2-clause-seen_left g c =
    let d = c.args.self.now in
    let events = d.events.items in
    let new = c.record.new.events.items in
    let is_on_disk = c.is_synced-is_on_disk.result in
    let copy = c.in_ok-bytes.bytes in
    let same = copied c.copy_of.result copy c.deref.result.now c.in_ok-bytes.ensures.ok c.copy_of.ensures ∙ c.deref.ensures.value in
    let is = outcomes-placed events d.new_file.items copy same new is_on_disk c.in_ok-record.ensures.ok in
    let file = c.replace.result.items in
    merely (subst (λ (o : Outcomes). o.once_synced file) (sym is) (λ on. ap vec_items c.replace.ensures.value))

pub returns-in-Ok-clause-either : goal.returns-in-Ok-clause-either
returns-in-Ok-clause-either g c = λ told left was.
    let d = c.args.self.now in
    let events = d.events.items in
    let new = c.record.new.events.items in
    let is_on_disk = c.is_synced-is_on_disk.result in
    let copy = c.in_ok-bytes.bytes in
    let same = copied c.copy_of.result copy c.deref.result.now c.in_ok-bytes.ensures.ok c.copy_of.ensures ∙ c.deref.ensures.value in
    let is = outcomes-placed events d.new_file.items copy same new is_on_disk c.in_ok-record.ensures.ok in
    ⊎_elim
    (λ new_one. inr (λ synced. new_one (c.is_synced-is_on_disk.ensures synced)))
    (λ old_one. inl old_one)
    (subst (λ (o : Outcomes). left_by o left) is was)

pub returns-in-Ok-clause-shown : goal.returns-in-Ok-clause-shown
returns-in-Ok-clause-shown g c = λ told.
    let d = c.args.self.now in
    let events = d.events.items in
    let new = c.record.new.events.items in
    let is_on_disk = c.is_synced-is_on_disk.result in
    let copy = c.in_ok-bytes.bytes in
    let same = copied c.copy_of.result copy c.deref.result.now c.in_ok-bytes.ensures.ok c.copy_of.ensures ∙ c.deref.ensures.value in
    let is = outcomes-placed events d.new_file.items copy same new is_on_disk c.in_ok-record.ensures.ok in
    ap (λ (o : Outcomes). o.shown) is

pub returns-in-Ok-clause-renames : goal.returns-in-Ok-clause-renames
returns-in-Ok-clause-renames g c = λ told.
    let d = c.args.self.now in
    let events = d.events.items in
    let new = c.record.new.events.items in
    let is_on_disk = c.is_synced-is_on_disk.result in
    let copy = c.in_ok-bytes.bytes in
    let same = copied c.copy_of.result copy c.deref.result.now c.in_ok-bytes.ensures.ok c.copy_of.ensures ∙ c.deref.ensures.value in
    let is = outcomes-placed events d.new_file.items copy same new is_on_disk c.in_ok-record.ensures.ok in
    omega (arith, ap (λ (o : Outcomes). o.rename_count) is)

pub returns-in-Ok-clause-time : goal.returns-in-Ok-clause-time
returns-in-Ok-clause-time g c = λ told.
    let d = c.args.self.now in
    let events = d.events.items in
    let new = c.record.new.events.items in
    let is_on_disk = c.is_synced-is_on_disk.result in
    let copy = c.in_ok-bytes.bytes in
    let same = copied c.copy_of.result copy c.deref.result.now c.in_ok-bytes.ensures.ok c.copy_of.ensures ∙ c.deref.ensures.value in
    let is = outcomes-placed events d.new_file.items copy same new is_on_disk c.in_ok-record.ensures.ok in
    elapses_kept events (Placed is_on_disk copy) new c.in_ok-record.ensures.ok (ap (λ (o : Outcomes). o.shown) is)

pub returns-in-Err-clause-either : goal.returns-in-Err-clause-either
returns-in-Err-clause-either g c = λ told left was.
    let d = c.args.self.now in
    let events = d.events.items in
    let new = c.record.new.events.items in
    let is_on_disk = c.is_synced-is_on_disk.result in
    let copy = c.in_ok-bytes.bytes in
    let same = copied c.copy_of.result copy c.deref.result.now c.in_ok-bytes.ensures.ok c.copy_of.ensures ∙ c.deref.ensures.value in
    let is = outcomes-placed events d.new_file.items copy same new is_on_disk c.in_ok-record.ensures.ok in
    ⊎_elim
    (λ new_one. inr (λ synced. new_one (c.is_synced-is_on_disk.ensures synced)))
    (λ old_one. inl old_one)
    (subst (λ (o : Outcomes). left_by o left) is was)

pub returns-in-Err-clause-shown : goal.returns-in-Err-clause-shown
returns-in-Err-clause-shown g c = λ told.
    let d = c.args.self.now in
    let events = d.events.items in
    let new = c.record.new.events.items in
    let is_on_disk = c.is_synced-is_on_disk.result in
    let copy = c.in_ok-bytes.bytes in
    let same = copied c.copy_of.result copy c.deref.result.now c.in_ok-bytes.ensures.ok c.copy_of.ensures ∙ c.deref.ensures.value in
    let is = outcomes-placed events d.new_file.items copy same new is_on_disk c.in_ok-record.ensures.ok in
    ap (λ (o : Outcomes). o.shown) is

pub returns-in-Err-clause-renames_lost : goal.returns-in-Err-clause-renames_lost
returns-in-Err-clause-renames_lost g c = λ told unknown.
    let d = c.args.self.now in
    let events = d.events.items in
    let new = c.record.new.events.items in
    let is_on_disk = c.is_synced-is_on_disk.result in
    let copy = c.in_ok-bytes.bytes in
    let same = copied c.copy_of.result copy c.deref.result.now c.in_ok-bytes.ensures.ok c.copy_of.ensures ∙ c.deref.ensures.value in
    let is = outcomes-placed events d.new_file.items copy same new is_on_disk c.in_ok-record.ensures.ok in
    omega (arith, ap (λ (o : Outcomes). o.rename_count) is)

pub returns-in-Err-clause-time : goal.returns-in-Err-clause-time
returns-in-Err-clause-time g c = λ told.
    let d = c.args.self.now in
    let events = d.events.items in
    let new = c.record.new.events.items in
    let is_on_disk = c.is_synced-is_on_disk.result in
    let copy = c.in_ok-bytes.bytes in
    let same = copied c.copy_of.result copy c.deref.result.now c.in_ok-bytes.ensures.ok c.copy_of.ensures ∙ c.deref.ensures.value in
    let is = outcomes-placed events d.new_file.items copy same new is_on_disk c.in_ok-record.ensures.ok in
    elapses_kept events (Placed is_on_disk copy) new c.in_ok-record.ensures.ok (ap (λ (o : Outcomes). o.shown) is)

pub returns-in-Ok-clause-once_named : goal.returns-in-Ok-clause-once_named
returns-in-Ok-clause-once_named g c = λ told left was synced.
    let d = c.args.self.now in
    let events = d.events.items in
    let new = c.record.new.events.items in
    let is_on_disk = c.is_synced-is_on_disk.result in
    let copy = c.in_ok-bytes.bytes in
    let same = copied c.copy_of.result copy c.deref.result.now c.in_ok-bytes.ensures.ok c.copy_of.ensures ∙ c.deref.ensures.value in
    let is = outcomes-placed events d.new_file.items copy same new is_on_disk c.in_ok-record.ensures.ok in
    subst (λ (o : Outcomes). o.named left) is was (c.is_synced-is_on_disk.ensures synced)
