-- The action of the entry at the place of the slot.
use Rattle.std.proofs.Common.{sym, ap, ◌∙◌}
use Rattle.std.specs.Prelude.{option_and_then}
use Rattle.std.specs.Option.{option_copied}
use Rattle.tt_commands.proofs.SlotLemmas.{asked_of, asked_at, no_action_asked, entry_action_asked}
use Rattle.tt_commands.proofs.slot_entries.asked_action.Goals as goal

pub returns-in_default : goal.returns-in_default
returns-in_default c =
    let db = c.args.db.now in
    no_action_asked db c.args.number c.place_of.result c.place_of.ensures (ap (asked_at db.history) c.in_default.is)

pub returns-in_default-entry : goal.returns-in_default-entry
returns-in_default-entry c =
    let db = c.args.db.now in
    no_action_asked db c.args.number c.place_of.result c.place_of.ensures
    (ap (asked_at db.history) c.in-Some.is ∙ ap (option_and_then asked_of) (sym c.entry.ensures ∙ ap option_copied c.in_default-entry.is))

pub returns : goal.returns
returns c =
    let db = c.args.db.now in
    c.action_of.ensures
    ∙ entry_action_asked db c.args.number c.in-Some.place c.place_of.result c.in-Some-entry.entry.now c.place_of.ensures c.in-Some.is
    (sym c.entry.ensures ∙ ap option_copied c.in-Some-entry.is)
