-- What holds of all records.
use Rattle.std.specs.Prelude.{◌≡◌, List, length}
use Rattle.tt_values.specs.Tables.{Tables}
use Rattle.tt_repair_laws.specs.declared.edit.Edit.{Edit}
use Rattle.tt_generations.specs.TwoGenerations.{Repairing}
use Rattle.tt_db.specs.declared.limits.Limits.{Limits}
use Rattle.tt_db.specs.declared.event.Event.TheVariants.{Switch}
use Rattle.tt_db.specs.State.{State, next_state}
use Rattle.tt_records.specs.declared.record.Record.{Record}
use Rattle.tt_records.specs.Changes.{changes_of, next_changes_of}

-- once the repair has done all slots, the next changes are the changes right after the switch
abbrev pub NextChangesEndAsChanges : Type 0
NextChangesEndAsChanges = (tables : Tables) (limits : Limits) (S : State) (E : List Edit) (records : List Record) → S.phase ≡ Repairing E (length S.slots) →
    next_changes_of tables S records ≡ changes_of tables (next_state limits S Switch) records
