-- The name of the file gets onto the disk.
use Rattle.std.proofs.Common.{ap, sym, subst, inl, ⊎_elim}
use Rattle.std.proofs.Math.Logic.{∥∥₁_map}
use Rattle.tt_device_tests.specs.declared.event.Event.TheVariants.{NameSynced}
use Rattle.tt_device_tests.specs.Outcomes.{Outcomes, left_by}
use Rattle.tt_device_tests.proofs.EventLemmas.{outcomes-more, elapses_kept}
use Rattle.tt_device_tests.proofs.device.MemoryDeviceDevice.sync_folder.Goals as goal

pub invariant_of-self-2-clause-seen_left : goal.invariant_of-self-2-clause-seen_left
invariant_of-self-2-clause-seen_left g c =
    let d = c.args.self.now in
    let events = d.events.items in
    let new = c.record.new.events.items in
    let is = outcomes-more events NameSynced new c.in_ok-record.ensures.ok in
    ∥∥₁_map d.seen_left (λ left. subst (λ (o : Outcomes). o.once_synced d.file.items) (sym is) left)

pub invariant_of-self-2-clause-one_name : goal.invariant_of-self-2-clause-one_name
invariant_of-self-2-clause-one_name g c = λ named left was.
    let d = c.args.self.now in
    let events = d.events.items in
    let new = c.record.new.events.items in
    let is = outcomes-more events NameSynced new c.in_ok-record.ensures.ok in
    subst (λ (o : Outcomes). o.other left) is was

pub returns-clause-durable : goal.returns-clause-durable
returns-clause-durable g c = λ told left was.
    let d = c.args.self.now in
    let events = d.events.items in
    let new = c.record.new.events.items in
    let is = outcomes-more events NameSynced new c.in_ok-record.ensures.ok in
    ⊎_elim (λ named. named) (λ none. absurd none) (subst (λ (o : Outcomes). left_by o left) is was)

pub returns-clause-shown : goal.returns-clause-shown
returns-clause-shown g c = λ told.
    let d = c.args.self.now in
    let events = d.events.items in
    let new = c.record.new.events.items in
    ap (λ (o : Outcomes). o.shown) (outcomes-more events NameSynced new c.in_ok-record.ensures.ok)

pub returns-clause-renames : goal.returns-clause-renames
returns-clause-renames g c = λ told.
    let d = c.args.self.now in
    let events = d.events.items in
    let new = c.record.new.events.items in
    ap (λ (o : Outcomes). o.rename_count) (outcomes-more events NameSynced new c.in_ok-record.ensures.ok)

pub returns-clause-crash : goal.returns-clause-crash
returns-clause-crash g c = λ told left was.
    let d = c.args.self.now in
    let events = d.events.items in
    let new = c.record.new.events.items in
    let is = outcomes-more events NameSynced new c.in_ok-record.ensures.ok in
    ⊎_elim (λ named. inl named) (λ none. absurd none) (subst (λ (o : Outcomes). left_by o left) is was)

pub returns-clause-time : goal.returns-clause-time
returns-clause-time g c = λ told.
    let d = c.args.self.now in
    let events = d.events.items in
    let new = c.record.new.events.items in
    elapses_kept events NameSynced new c.in_ok-record.ensures.ok (ap (λ (o : Outcomes). o.shown) (outcomes-more events NameSynced new c.in_ok-record.ensures.ok))
