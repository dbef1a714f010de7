-- The file is synced, or that fails and is forgotten.
use Rattle.std.proofs.Common.{ap, refl, sym, subst, inl, inr, ⊎_elim}
use Rattle.std.proofs.Math.Logic.{∥∥₁_map}
use Rattle.tt_device_tests.specs.declared.event.Event.TheVariants.{Synced, SyncFailed}
use Rattle.tt_device_tests.specs.Outcomes.{Outcomes, left_by, outcomes}
use Rattle.tt_device_tests.specs.Laws.{once_is_named}
use Rattle.tt_device_tests.proofs.EventLemmas.{outcomes-more, elapses_kept, same_once, either_way}
use Rattle.tt_device_tests.proofs.device.MemoryDeviceDevice.sync.Goals as goal

pub invariant_of-self-in-Err-clause-seen_left : goal.invariant_of-self-in-Err-clause-seen_left
invariant_of-self-in-Err-clause-seen_left g c =
    let d = c.args.self.now in
    let events = d.events.items in
    let new = c.record.new.events.items in
    let file = d.file.items in
    ⊎_elim
    (λ more. ∥∥₁_map d.seen_left (λ left. subst (λ (o : Outcomes). o.once_synced file) (sym (outcomes-more events SyncFailed new more)) (once_is_named events file left)))
    (λ none. ∥∥₁_map d.seen_left (λ left. same_once events new file file none refl left))
    (either_way c.record.result events new SyncFailed c.record.ensures.ok c.record.ensures.err)

pub invariant_of-self-in-Err-clause-one_name : goal.invariant_of-self-in-Err-clause-one_name
invariant_of-self-in-Err-clause-one_name g c = λ named left was.
    let d = c.args.self.now in
    let events = d.events.items in
    let new = c.record.new.events.items in
    d.one_name named left (⊎_elim
    (λ more. subst (λ (o : Outcomes). o.other left) (outcomes-more events SyncFailed new more) was)
    (λ none. subst (λ es. (outcomes es).other left) none was)
    (either_way c.record.result events new SyncFailed c.record.ensures.ok c.record.ensures.err))

pub returns-in-Err-clause-shown : goal.returns-in-Err-clause-shown
returns-in-Err-clause-shown g c = λ told.
    let d = c.args.self.now in
    let events = d.events.items in
    let new = c.record.new.events.items in
    ap (λ (o : Outcomes). o.shown) (outcomes-more events SyncFailed new c.in_ok-record.ensures.ok)

pub returns-in-Err-clause-renames : goal.returns-in-Err-clause-renames
returns-in-Err-clause-renames g c = λ told.
    let d = c.args.self.now in
    let events = d.events.items in
    let new = c.record.new.events.items in
    ap (λ (o : Outcomes). o.rename_count) (outcomes-more events SyncFailed new c.in_ok-record.ensures.ok)

pub returns-in-Err-clause-crash : goal.returns-in-Err-clause-crash
returns-in-Err-clause-crash g c = λ told left was.
    let d = c.args.self.now in
    let events = d.events.items in
    let new = c.record.new.events.items in
    subst (λ (o : Outcomes). left_by o left) (outcomes-more events SyncFailed new c.in_ok-record.ensures.ok) was

pub returns-in-Err-clause-time : goal.returns-in-Err-clause-time
returns-in-Err-clause-time g c = λ told.
    let d = c.args.self.now in
    let events = d.events.items in
    let new = c.record.new.events.items in
    let more = c.in_ok-record.ensures.ok in
    elapses_kept events SyncFailed new more (ap (λ (o : Outcomes). o.shown) (outcomes-more events SyncFailed new more))

pub invariant_of-self-2-clause-seen_left : goal.invariant_of-self-2-clause-seen_left
invariant_of-self-2-clause-seen_left g c =
    let d = c.args.self.now in
    let events = d.events.items in
    let new = c.record-2.new.events.items in
    let file = d.file.items in
    ⊎_elim
    (λ more. ∥∥₁_map d.seen_left (λ left. subst (λ (o : Outcomes). o.once_synced file) (sym (outcomes-more events Synced new more)) left))
    (λ none. ∥∥₁_map d.seen_left (λ left. same_once events new file file none refl left))
    (either_way c.record-2.result events new Synced c.record-2.ensures.ok c.record-2.ensures.err)

pub invariant_of-self-2-clause-one_name : goal.invariant_of-self-2-clause-one_name
invariant_of-self-2-clause-one_name g c = λ named left was.
    let d = c.args.self.now in
    let events = d.events.items in
    let new = c.record-2.new.events.items in
    d.one_name named left (⊎_elim
    (λ more. subst (λ (o : Outcomes). o.other left) (outcomes-more events Synced new more) was)
    (λ none. subst (λ es. (outcomes es).other left) none was)
    (either_way c.record-2.result events new Synced c.record-2.ensures.ok c.record-2.ensures.err))

pub returns-clause-durable : goal.returns-clause-durable
returns-clause-durable g c = λ told left was.
    let d = c.args.self.now in
    let events = d.events.items in
    let new = c.record-2.new.events.items in
    ⊎_elim
    (λ once. once)
    (λ other. absurd (d.one_name c.if-not-self.false left other))
    (subst (λ (o : Outcomes). left_by o left) (outcomes-more events Synced new c.in_ok-record-2.ensures.ok) was)

pub returns-clause-shown : goal.returns-clause-shown
returns-clause-shown g c = λ told.
    let d = c.args.self.now in
    let events = d.events.items in
    let new = c.record-2.new.events.items in
    ap (λ (o : Outcomes). o.shown) (outcomes-more events Synced new c.in_ok-record-2.ensures.ok)

pub returns-clause-renames : goal.returns-clause-renames
returns-clause-renames g c = λ told.
    let d = c.args.self.now in
    let events = d.events.items in
    let new = c.record-2.new.events.items in
    ap (λ (o : Outcomes). o.rename_count) (outcomes-more events Synced new c.in_ok-record-2.ensures.ok)

pub returns-clause-crash : goal.returns-clause-crash
returns-clause-crash g c = λ told left was.
    let d = c.args.self.now in
    let events = d.events.items in
    let new = c.record-2.new.events.items in
    ⊎_elim
    (λ once. inl (once_is_named events left once))
    (λ other. inr other)
    (subst (λ (o : Outcomes). left_by o left) (outcomes-more events Synced new c.in_ok-record-2.ensures.ok) was)

pub returns-clause-time : goal.returns-clause-time
returns-clause-time g c = λ told.
    let d = c.args.self.now in
    let events = d.events.items in
    let new = c.record-2.new.events.items in
    let more = c.in_ok-record-2.ensures.ok in
    elapses_kept events Synced new more (ap (λ (o : Outcomes). o.shown) (outcomes-more events Synced new more))
