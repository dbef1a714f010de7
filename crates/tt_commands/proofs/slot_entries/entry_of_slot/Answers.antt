-- What is told of a slot: what was asked for at its place of the history.
use Rattle.std.proofs.Common.{rules, ◌≡◌, Some, sym, ap, ◌∙◌}
use Rattle.std.specs.Prelude.{option_map, option_and_then}
use Rattle.std.specs.Option.{option_copied}
use Rattle.tt_commands.specs.SlotEntries.{asked_for}
use Rattle.tt_commands.proofs.SlotLemmas.{asked_of, asked_at, none_asked, entry_asked}
use Rattle.tt_commands.proofs.slot_entries.entry_of_slot.Goals as goal

pub returns-in_default-place_of : goal.returns-in_default-place_of
returns-in_default-place_of c =
    let db = c.args.db.now in
    none_asked db c.args.number c.args.stamp c.place_of.result c.place_of.ensures (ap (asked_at db.history) c.in_default-place_of.is)

pub returns-in_default-entry : goal.returns-in_default-entry
returns-in_default-entry c =
    let db = c.args.db.now in
    none_asked db c.args.number c.args.stamp c.place_of.result c.place_of.ensures
    (ap (asked_at db.history) c.in-Some-place_of.is ∙ ap (option_and_then asked_of) (sym c.entry.ensures ∙ ap option_copied c.in_default-entry.is))

pub returns-in_default-action_of : goal.returns-in_default-action_of
returns-in_default-action_of c =
    let db = c.args.db.now in
    none_asked db c.args.number c.args.stamp c.place_of.result c.place_of.ensures
    (ap (asked_at db.history) c.in-Some-place_of.is ∙ ap (option_and_then asked_of) (sym c.entry.ensures ∙ ap option_copied c.in-Some-entry.is)
    ∙ ap (option_map (asked_for c.in-Some-entry.entry.now.worker)) (sym c.action_of.ensures ∙ ap option_copied c.in_default-action_of.is))

pub returns : goal.returns
returns c =
    let db = c.args.db.now in
    let e = c.in-Some-entry.entry.now in
    let slot_is : c.in_ok-slot.slot ≡ c.in-Some.slot.now = search rules in
    (λ i. Some (record { number = c.args.number; worker = e.worker; stamp = c.args.stamp; slot = slot_is i; asked = c.in_ok-asked.ensures i }))
    ∙ entry_asked db c.args.number c.in-Some-place_of.place c.args.stamp c.place_of.result e c.in-Some-action_of.action.now c.in-Some.slot.now
    c.place_of.ensures c.in-Some-place_of.is (sym c.entry.ensures ∙ ap option_copied c.in-Some-entry.is)
    (sym c.action_of.ensures ∙ ap option_copied c.in-Some-action_of.is) (sym c.slot.ensures ∙ ap option_copied c.in-Some.is)
