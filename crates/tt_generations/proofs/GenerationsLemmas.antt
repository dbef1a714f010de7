-- The tables of two generations, before and after each event.
use Rattle.std.proofs.Common.{get_or, ◌≡◌, ℕ, zero, suc, ◌<◌, ◌≤◌, ◌+◌, ◌-◌, nat_lt, if◌then◌else◌, Bool, true, false, ℤ, List, [], ◌∷◌, ◌++◌, map, length, slice_get, Option, None, Some, refl, sym, ap, subst, ◌∙◌, arith, length-append}
use Rattle.std.proofs.lemmas.Bool.Decides.{nat_tests}
use Rattle.std.proofs.lemmas.List.{length-map, get_or-map}
use Rattle.std.proofs.lemmas.Option.{slice_get_within}
use Rattle.std.proofs.lemmas.List.Elements.{All-nil, All-cons, All-append}
use Rattle.std.specs.Option.{option_or}
use Rattle.std.specs.List.{All}
use Rattle.tt_values.specs.declared.statement.Write.{Write}
use Rattle.tt_values.specs.declared.action.Action.{Action}
use Rattle.tt_values.specs.declared.statement.Write.TheVariants.{Insert, Update, Delete}
use Rattle.tt_values.specs.declared.checking.CheckError.{CheckError}
use Rattle.tt_values.specs.declared.row.Row.{Row}
use Rattle.tt_values.specs.Effect.{table_of, effect}
use Rattle.tt_values.specs.Tables.{Tables, IsCatalog}
use Rattle.tt_values.specs.Check.{action_fault, first_write_fault, write_fault}
use Rattle.tt_values.specs.Content.{Content, content_at, row_at}
use Rattle.tt_values.specs.declared.row_id.RowId.{RowId}
use Rattle.tt_values.specs.Action.{content_after_write, replies_of, rows_of_write, rows_of_writes, rows_touched, kept, tried}
use Rattle.tt_values.specs.RowWrites.{Slots, slot_after, row_writes, content_of}
use Rattle.tt_values.proofs.LawProofs.{rows_rise, past_stays, last_content_stays, slots_follow, accepted_actions_have_keys}
use Rattle.tt_versions.specs.declared.side.Side.{Side}
use Rattle.tt_versions.specs.declared.side.Side.TheVariants.{Current, Next}
use Rattle.tt_versions.specs.Sides.{LineagesByKey, side_of, current_of, next_of, ListsRows}
use Rattle.tt_parts.specs.Dirty.{NumbersAgree}
use Rattle.tt_repair_laws.specs.declared.edit.Edit.{Edit}
use Rattle.tt_repair_laws.specs.Edits.{slot_number, edited_slots, HasNoFault}
use Rattle.tt_repair_laws.specs.Due.{content_after, is_due, slot_rows_touched}
use Rattle.tt_repair_laws.specs.NextSide.{current_side}
use Rattle.tt_repair_laws.proofs.LawProofs.{edited_slots_are_as_many, next_side_shows_edited_slots}
use Rattle.tt_generations.specs.declared.slot.KeptSlot.{KeptSlot}
use Rattle.tt_generations.specs.declared.repair.Repair.{Repair}
use Rattle.tt_generations.specs.Limits.{max_slots}
use Rattle.tt_generations.specs.Rows.{TablesByPosition, HasFewRows, CurrentAgrees, KeepsSplitRows, ShowsSide}
use Rattle.tt_generations.specs.ActionRun.{RunOnRows, step_writes, CarriesOutAction, most_rows}
use Rattle.tt_generations.specs.Reexecution.{ShowsContentBefore, ShowsFewBefore}
use Rattle.tt_generations.specs.KeptSlots.{last_content, slot_with_replies, kept_slot, actions_of, AreKept, IsAccepted, AreAccepted}
use Rattle.tt_generations.specs.Repair.{HasKeysIfAny, is_kept_due, next_action, repair_with_slot, next_slots, HasDoneDueSlot, HasReexecutedSlot, ReexecutesSlot, DoesSlot}
use Rattle.tt_generations.specs.TwoGenerations.{TwoGenerations, Phase, Idle, Repairing, NamesSlot, IsWithin, done_of, next_content_in, next_content_at, next_slot_at, left_of, slots_edited_by, next_side_of, rows_on}
use Rattle.tt_generations.specs.Generations.{phase_of, next_kept_slot, HaveBothSides, IsRepair, IsRepairIfAny, AreGenerations}
use Rattle.tt_generations.proofs.ActionStepsLemmas.{CurrentAgrees-writes}
use Rattle.tt_generations.proofs.FewRowsLemmas.{HasFewRows-agree}
use Rattle.tt_generations.proofs.KeptSlotsLemmas.{AreKept-push, kept_slot-append, kept_slot-last, actions-push, actions-kept, AreKept-all_done, AreAccepted-at, AreAccepted-push, AreAccepted-edited}
use Rattle.tt_generations.proofs.BothSidesLemmas.{HaveBothSides-empty, HaveBothSides-idle, HaveBothSides-slot, HaveBothSides-begin, HaveBothSides-undue, HaveBothSides-switch, HaveBothSides-abort, ShowsContentBefore-next}
use Rattle.tt_generations.proofs.RepairLemmas.{first_fault-accepted, first_fault-tried, table-faultless}
use Rattle.tt_generations.proofs.RepairStepsLemmas.{length-content, IsRepair-slot, numbers-repair, IsNewRepair, IsRepair-new, IsRepair-undue, IsRepair-due, is_due-kept, rows-kept, HaveBothSides-reexecuted, ShowsFewBefore-next, next_action-accepted}

pub AreGenerations-empty : (tables : Tables) → IsCatalog tables → AreGenerations tables [] [] None
AreGenerations-empty tables catalog = record {
  catalog = catalog;
  few = omega arith;
  accepted = All-nil (IsAccepted tables);
  slots = record { as_many = refl; each = λ n h. absurd (omega (arith, h)) };
  rows = HaveBothSides-empty tables;
  under_way = tt;
}

pub IsWithin-repair : (tables : Tables) (W : Slots) (repair : Option Repair) → IsRepairIfAny tables W repair → IsWithin (phase_of repair) W
IsWithin-repair tables W None is = tt
IsWithin-repair tables W (Some r) is = is.done

-- the content of all slots lists the current side
pub lists-current : (W : Slots) (time table : ℕ) → ListsRows (content_of W time table) (current_side W table) time
lists-current W time table = record { sorted = rows_rise (row_writes W (length W)) time table; finds = λ key. refl }

-- the next content lists the next side, at the last slot done
pub lists-next : (tables : Tables) (phase : Phase) (W : Slots) (table : ℕ) → IsWithin phase W → ListsRows (next_content_in phase W table) (next_side_of tables phase W table) (done_of phase)
lists-next tables Idle W table within = record {
  sorted = rows_rise (row_writes W 0) 0 table;
  finds = λ key. (λ i. row_at (sym (past_stays W 0 (length W) 0 (omega arith) (omega arith)) i table) key);
}
lists-next tables (Repairing E n) W table within = record {
  sorted = rows_rise (row_writes (edited_slots W E) n) n table;
  finds = λ key. sym (next_side_shows_edited_slots tables W E n n table key within (omega arith));
}

-- and so does the next content at each time up to it
pub lists-next_at : (tables : Tables) (phase : Phase) (W : Slots) (time table : ℕ) → IsWithin phase W → time ≤ done_of phase
    → ListsRows (next_content_at phase W time table) (next_side_of tables phase W table) time
lists-next_at tables Idle W time table within past = lists-current W time table
lists-next_at tables (Repairing E n) W time table within past = record {
  sorted = rows_rise (row_writes (edited_slots W E) n) time table;
  finds = λ key. sym (next_side_shows_edited_slots tables W E n time table key within past);
}

-- a table that shows what both sides are to show, on either of them
pub shows-side : (t : LineagesByKey) (G : TwoGenerations) (table : ℕ) (side : Side) → current_of t ≡ rows_on Current G table → next_of t ≡ rows_on Next G table → side_of t side ≡ rows_on side G table
shows-side t G table Current current next = current
shows-side t G table Next current next = next

-- ---- an action is added

-- what an action that is carried out at the next time leaves, answers and writes
pub record IsNextSlot (W : Slots) (action : Action) (run : RunOnRows) : Type 0 where
  pub rows : CurrentAgrees run.rows (row_writes (W ++ Some action ∷ []) (length (W ++ Some action ∷ [])))
  pub replies : run.replies ≡ replies_of action (last_content W)
  pub touched : run.rows_touched ≡ rows_touched action (last_content W)

pub IsNextSlot-run : (W : Slots) (action : Action) (before : TablesByPosition) (run : RunOnRows) (time : ℕ) → CurrentAgrees before (row_writes W (length W)) → time ≡ length W + 1
    → CarriesOutAction time action before run → IsNextSlot W action run
IsNextSlot-run W action before run time rows at carries =
    let n = length W in
    let vs = row_writes W n in
    let done = carries vs rows in
    let now : time ≡ suc n = omega (arith, at) in
    let now_content : content_at vs time ≡ last_content W = last_content_stays W n time (omega (arith, at)) in
    let steps : CurrentAgrees run.rows (vs ++ step_writes (suc n) (kept action (last_content W)) (last_content W)) = subst (CurrentAgrees run.rows) (λ i. vs ++ step_writes (now i) (kept action (now_content i)) (now_content i)) done.rows in
    let added = CurrentAgrees-writes run.rows vs (suc n) (kept action (last_content W)) (last_content W) (λ t. rows_rise vs n t) (λ u later. last_content_stays W n u (omega (arith, later))) steps in
    let next : length (W ++ Some action ∷ []) ≡ suc n = omega (arith, length-append W (Some action ∷ [])) in
    let same = ap (row_writes (W ++ Some action ∷ [])) next ∙ (slots_follow W (Some action)).1 in
    record {
      rows = subst (CurrentAgrees run.rows) (sym same) added;
      replies = done.replies ∙ ap (replies_of action) now_content;
      touched = done.touched ∙ ap (rows_touched action) now_content;
    }

pub phase-with_slot : (k : KeptSlot) (repair : Option Repair) → phase_of (repair_with_slot k repair) ≡ phase_of repair
phase-with_slot k None = refl
phase-with_slot k (Some r) = refl

under_way-with_slot : (tables : Tables) (W : Slots) (s : Option Action) (k : KeptSlot) (repair : Option Repair) → k ≡ kept_slot (W ++ s ∷ []) (length W) → IsRepairIfAny tables W repair
    → IsRepairIfAny tables (W ++ s ∷ []) (repair_with_slot k repair)
under_way-with_slot tables W s k None last is = tt
under_way-with_slot tables W s k (Some r) last is = IsRepair-slot tables W s r _ k is last refl

-- an action was carried out on tables as the slot of a time, of which this is kept
pub record IsSlotOfRun (time : ℕ) (action : Action) (before : TablesByPosition) (run : RunOnRows) (k : KeptSlot) : Type 0 where
  pub carries : CarriesOutAction time action before run
  pub keeps : KeepsSplitRows before run.rows
  pub is_action : k.slot.action ≡ Some action
  pub replies : k.slot.replies ≡ Some run.replies
  pub rows : k.rows ≡ run.rows_touched

pub AreGenerations-action : (tables : Tables) (kept : List KeptSlot) (before : TablesByPosition) (repair : Option Repair) (action : Action) (run : RunOnRows) (k : KeptSlot) (time : ℕ)
    → AreGenerations tables kept before repair → action_fault tables action.writes ≡ None → length kept < max_slots → time ≡ length kept + 1 → IsSlotOfRun time action before run k
    → AreGenerations tables (kept ++ k ∷ []) run.rows (repair_with_slot k repair)
AreGenerations-action tables kept before repair action run k time are accepted room at slot = record {
  catalog = are.catalog;
  few = omega (arith, room, length-append kept (k ∷ []));
  accepted = subst (AreAccepted tables) (sym all) (AreAccepted-push tables W (Some action) are.accepted accepted);
  slots = subst (λ V. AreKept (kept ++ k ∷ []) (kept_slot V) (length (kept ++ k ∷ []))) (sym all)
      (subst (AreKept (kept ++ k ∷ []) (kept_slot (W ++ Some action ∷ []))) (sym (length-append kept (k ∷ [])))
      (AreKept-push kept (kept_slot W) (kept_slot (W ++ Some action ∷ [])) (length kept) k are.slots (λ i h. kept_slot-append W (Some action) i (omega (arith, h, many)))
      (last ∙ ap (kept_slot (W ++ Some action ∷ [])) many)));
  rows = subst (λ V. HaveBothSides run.rows tables (phase_of (repair_with_slot k repair)) V) (sym all)
      (subst (λ p. HaveBothSides run.rows tables p (W ++ Some action ∷ [])) (sym (phase-with_slot k repair))
      (HaveBothSides-slot before run.rows tables (phase_of repair) W (Some action) (IsWithin-repair tables W repair are.under_way) are.rows next.rows slot.keeps));
  under_way = subst (λ V. IsRepairIfAny tables V (repair_with_slot k repair)) (sym all) (under_way-with_slot tables W (Some action) k repair last are.under_way);
}
  where
    W : Slots
    W = actions_of kept

    many : length (actions_of kept) ≡ length kept
    many = length-map kept (λ t. t.slot.action)

    all : actions_of (kept ++ k ∷ []) ≡ W ++ Some action ∷ []
    all = actions-push kept k ∙ ap (λ s. W ++ s ∷ []) slot.is_action

    next : IsNextSlot W action run
    next = IsNextSlot-run W action before run time are.rows.current (omega (arith, at, many)) slot.carries

    last : k ≡ kept_slot (W ++ Some action ∷ []) (length W)
    last = kept_slot-last W (Some action) k slot.is_action (slot.replies ∙ ap Some next.replies) (slot.rows ∙ next.touched)

-- ---- a repair begins

pub AreGenerations-repair : (tables : Tables) (kept : List KeptSlot) (versions : TablesByPosition) (E : List Edit) (r : Repair) → AreGenerations tables kept versions None
    → All (NamesSlot (actions_of kept)) E → All (HasNoFault tables) E → IsNewRepair tables E kept r → AreGenerations tables kept versions (Some r)
AreGenerations-repair tables kept versions E r are named accepted new = record {
  catalog = are.catalog;
  few = are.few;
  accepted = are.accepted;
  slots = are.slots;
  rows = subst (λ n. HaveBothSides versions tables (Repairing r.edits n) W) (sym new.done) (HaveBothSides-begin versions tables W r.edits are.rows);
  under_way = IsRepair-new tables W E kept r named accepted (subst (AreKept kept (kept_slot W)) (sym (length-map kept (λ t. t.slot.action))) are.slots) new;
}
  where
    W : Slots
    W = actions_of kept

-- ---- a step

keys-if_any : (tables : Tables) (s : Option Action) → IsCatalog tables → IsAccepted tables s → HasKeysIfAny s
keys-if_any tables None catalog is = tt
keys-if_any tables (Some action) catalog is = accepted_actions_have_keys tables action.writes catalog is

-- the tables of the rows that an accepted action touches are there
abbrev IsInCatalog : Tables → RowId → Type 0
IsInCatalog tables r = r.table < length tables

table-written : (tables : Tables) (w : Write) → write_fault tables w ≡ None → table_of w < length tables
table-written tables (Insert table row) h = table-faultless tables table _ h
table-written tables (Update table changes equals) h = table-faultless tables table _ h
table-written tables (Delete table equals) h = table-faultless tables table _ h

tables-effect : (tables : Tables) (table : ℕ) (es : List (ℤ × Option Row)) → table < length tables → All (IsInCatalog tables) (map (λ e. record { table = table; key = e.0 }) es)
tables-effect tables table [] h = All-nil (IsInCatalog tables)
tables-effect tables table (e ∷ es) h = All-cons (IsInCatalog tables) (record { table = table; key = e.0 }) _ h (tables-effect tables table es h)

tables-writes : (tables : Tables) (ws : List Write) (X : Content) → first_write_fault tables ws ≡ None → All (IsInCatalog tables) (rows_of_writes ws X)
tables-writes tables [] X h = All-nil (IsInCatalog tables)
tables-writes tables (w ∷ ws) X h = by (write_fault tables w) refl h (tables-writes tables ws (content_after_write w X))
  where
    by : (o : Option CheckError) → write_fault tables w ≡ o → option_or o (first_write_fault tables ws) ≡ None
        → (first_write_fault tables ws ≡ None → All (IsInCatalog tables) (rows_of_writes ws (content_after_write w X)))
        → All (IsInCatalog tables) (rows_of_writes (w ∷ ws) X)
    by None at g rest = All-append (IsInCatalog tables) (rows_of_write w X) _ (tables-effect tables (table_of w) (effect w X) (table-written tables w at)) (rest g)
    by (Some e) at g rest = cc

tables-slot : (tables : Tables) (s : Option Action) (X : Content) → IsAccepted tables s → All (IsInCatalog tables) (slot_rows_touched s X)
tables-slot tables None X is = All-nil (IsInCatalog tables)
tables-slot tables (Some action) X is = tables-writes tables (tried action X) X (first_fault-tried tables action X (first_fault-accepted tables action.writes is).1)

-- what is known of the next slot of a repair
pub record IsAtSlot (tables : Tables) (kept : List KeptSlot) (versions : TablesByPosition) (r : Repair) (k : KeptSlot) : Type 0 where
  pub is : k ≡ kept_slot (actions_of kept) r.done
  pub left : r.done < length (actions_of kept)
  pub room : r.done < max_slots
  pub there : r.done < length r.slots
  pub catalog : r.dirty.catalog ≡ tables
  pub numbers : NumbersAgree r.dirty.dirty r.dirty.since
  pub keyed : HasKeysIfAny k.slot.action
  pub touched : All (λ (row : RowId). row.table < length tables) k.rows
  pub accepted : IsAccepted tables (next_action r k)
  pub shows : ShowsFewBefore versions (r.done + 1) k.rows
  pub due : is_kept_due r k ≡ is_due tables (actions_of kept) r.edits r.done

some-injective : {X : Type 0} (x y : X) → Some x ≡ Some y → x ≡ y
some-injective x y h = cc

pub IsAtSlot-next : (tables : Tables) (kept : List KeptSlot) (versions : TablesByPosition) (r : Repair) (k : KeptSlot) → AreGenerations tables kept versions (Some r) → slice_get kept r.done ≡ Some k
    → r.done < length kept → IsAtSlot tables kept versions r k
IsAtSlot-next tables kept versions r k are found inside =
    let W = actions_of kept in
    let many : length W ≡ length kept = length-map kept (λ t. t.slot.action) in
    let left : r.done < length W = omega (arith, inside, many) in
    let is : k ≡ kept_slot W r.done = some-injective k (kept_slot W r.done) (sym found ∙ are.slots.each r.done inside) in
    let repair = are.under_way in
    record {
      is = is;
      left = left;
      room = omega (arith, inside, are.few);
      there = omega (arith, left, repair.slots.as_many);
      catalog = repair.catalog;
      numbers = numbers-repair tables W r repair;
      keyed = subst (λ (j : KeptSlot). HasKeysIfAny j.slot.action) (sym is) (keys-if_any tables (slot_after W r.done) are.catalog (AreAccepted-at tables W are.accepted r.done));
      touched = subst (λ (j : KeptSlot). All (IsInCatalog tables) j.rows) (sym is) (tables-slot tables (slot_after W r.done) (content_of W r.done) (AreAccepted-at tables W are.accepted r.done));
      accepted = subst (λ (j : KeptSlot). IsAccepted tables (next_action r j)) (sym is) (next_action-accepted tables W r repair left are.accepted);
      shows = subst (λ (j : KeptSlot). ShowsFewBefore versions (r.done + 1) j.rows) (sym is) (ShowsFewBefore-next versions tables W r repair left (omega (arith, many, are.few)) are.accepted are.rows);
      due = subst (λ (j : KeptSlot). is_kept_due r j ≡ is_due tables W r.edits r.done) (sym is) (is_due-kept tables W r repair left);
    }

-- the same of the repair that is under way
pub IsAtSlot-found : (tables : Tables) (kept : List KeptSlot) (versions : TablesByPosition) (repair : Option Repair) (r : Repair) (k : KeptSlot) → AreGenerations tables kept versions repair → repair ≡ Some r
    → slice_get kept r.done ≡ Some k → IsAtSlot tables kept versions r k
IsAtSlot-found tables kept versions repair r k are is found = IsAtSlot-next tables kept versions r k (subst (AreGenerations tables kept versions) is are) found (slice_get_within kept r.done k found)

-- each slot that is kept has the keys of its rows
pub keys-kept : (tables : Tables) (slots : List KeptSlot) → IsCatalog tables → AreAccepted tables (actions_of slots) → All (λ (k : KeptSlot). HasKeysIfAny k.slot.action) slots
keys-kept tables slots catalog are = λ n d inside.
    keys-if_any tables (get_or slots n d).slot.action catalog
    (subst (IsAccepted tables) (get_or-map (λ (k : KeptSlot). k.slot.action) slots n d d.slot.action inside) (are n d.slot.action (omega (arith, inside, length-map slots (λ (k : KeptSlot). k.slot.action)))))

-- where the slot wasn't due
pub AreGenerations-undue : (tables : Tables) (kept : List KeptSlot) (versions : TablesByPosition) (r after : Repair) → AreGenerations tables kept versions (Some r) → r.done < length (actions_of kept)
    → is_due tables (actions_of kept) r.edits r.done ≡ false → after ≡ record r { done = r.done + 1 } → AreGenerations tables kept versions (Some after)
AreGenerations-undue tables kept versions r after are left undue new = record {
  catalog = are.catalog;
  few = are.few;
  accepted = are.accepted;
  slots = are.slots;
  rows = subst (λ (s : Repair). HaveBothSides versions tables (Repairing s.edits s.done) W) (sym new)
      (subst (λ n. HaveBothSides versions tables (Repairing r.edits n) W) (omega arith) (HaveBothSides-undue versions tables W r.edits r.done undue are.rows));
  under_way = IsRepair-undue tables W r after are.under_way left undue new;
}
  where
    W : Slots
    W = actions_of kept

-- and where it was
pub AreGenerations-due : (tables : Tables) (kept : List KeptSlot) (before versions : TablesByPosition) (r after : Repair) (k : KeptSlot) → AreGenerations tables kept before (Some r) → IsAtSlot tables kept before r k
    → is_kept_due r k ≡ true → HasDoneDueSlot r after → ReexecutesSlot r k before after versions → AreGenerations tables kept versions (Some after)
AreGenerations-due tables kept before versions r after k are at due done redoes = record {
  catalog = are.catalog;
  few = are.few;
  accepted = are.accepted;
  slots = are.slots;
  rows = subst (λ E. HaveBothSides versions tables (Repairing E after.done) W) (sym done.edits)
      (subst (λ n. HaveBothSides versions tables (Repairing r.edits n) W) (sym done.done)
      (HaveBothSides-reexecuted before versions tables W r after are.under_way at.left is_due_slot are.rows reexecuted));
  under_way = IsRepair-due tables W r after before versions are.under_way at.left is_due_slot done reexecuted;
}
  where
    W : Slots
    W = actions_of kept

    X : Content
    X = content_after (edited_slots W r.edits) r.done

    is_due_slot : is_due tables (actions_of kept) r.edits r.done ≡ true
    is_due_slot = sym at.due ∙ due

    pairs : k.rows ≡ slot_rows_touched (slot_after W r.done) (content_after W r.done)
    pairs = ap (λ (j : KeptSlot). j.rows) at.is ∙ rows-kept W r.done (omega (arith, at.left))

    shows : ShowsContentBefore before (r.done + 1) X k.rows
    shows = subst (ShowsContentBefore before (r.done + 1) X) (sym pairs)
        (subst (λ m. ShowsContentBefore before m X (slot_rows_touched (slot_after W r.done) (content_after W r.done))) (omega arith) (ShowsContentBefore-next before tables W r.edits r.done at.left are.rows))

    reexecuted : HasReexecutedSlot r (kept_slot W r.done) before after versions X
    reexecuted = subst (λ (j : KeptSlot). HasReexecutedSlot r j before after versions X) at.is (redoes X shows)

-- so a step leaves what it is to leave
pub AreGenerations-step : (tables : Tables) (kept : List KeptSlot) (before versions : TablesByPosition) (r after : Repair) (k : KeptSlot) (due : Bool) → AreGenerations tables kept before (Some r) → IsAtSlot tables kept before r k
    → due ≡ is_kept_due r k → DoesSlot r k before due after versions → AreGenerations tables kept versions (Some after)
AreGenerations-step tables kept before versions r after k false are at due does =
    subst (λ (t : TablesByPosition). AreGenerations tables kept t (Some after)) (sym does.1) (AreGenerations-undue tables kept before r after are at.left (sym at.due ∙ sym due) does.0)
AreGenerations-step tables kept before versions r after k true are at due does = AreGenerations-due tables kept before versions r after k are at (sym due) does.0 does.1

pub phase-step : (r after : Repair) (k : KeptSlot) (before versions : TablesByPosition) (due : Bool) → DoesSlot r k before due after versions → phase_of (Some after) ≡ Repairing r.edits (suc r.done)
phase-step r after k before versions false does = ap (λ (s : Repair). Repairing s.edits s.done) does.0 ∙ ap (Repairing r.edits) (omega arith)
phase-step r after k before versions true does = (λ i. Repairing (does.0.edits i) (does.0.done i)) ∙ ap (Repairing r.edits) (omega arith)

-- a slot that the repair has done is kept as the next generation has it
pub next_slot-kept : (tables : Tables) (W : Slots) (r : Repair) (number position : ℕ) (k : KeptSlot) → IsRepair tables W r → 1 ≤ number → number ≤ r.done → position ≡ number - 1
    → slice_get r.slots position ≡ Some k → Some k.slot ≡ next_slot_at (Repairing r.edits r.done) W number
next_slot-kept tables W r zero position k is first within at found = absurd (omega (arith, first))
next_slot-kept tables W r (suc i) position k is first within at found = by (nat_lt i r.done) (nat_lt r.done (suc i)) (nat_lt i (length V)) done (sym past) there kept
  where
    V : Slots
    V = edited_slots W r.edits

    inside : i < length W
    inside = omega (arith, within, is.done)

    many : length V ≡ length W
    many = edited_slots_are_as_many W r.edits

    done : true ≡ nat_lt i r.done
    done = grind (arith, nat_tests)

    past : nat_lt r.done (suc i) ≡ false
    past = grind (arith, nat_tests)

    there : true ≡ nat_lt i (length V)
    there = let below : i < length V = omega (arith, inside, many) in grind (arith, nat_tests)

    here : position ≡ i
    here = omega (arith, at)

    kept : k ≡ next_kept_slot W r.edits r.done i
    kept = some-injective k (next_kept_slot W r.edits r.done i) (sym found ∙ ap (slice_get r.slots) here ∙ is.slots.each i inside)

    by : (a b c : Bool) → true ≡ a → false ≡ b → true ≡ c → k ≡ (if a then kept_slot V i else kept_slot W i)
        → Some k.slot ≡ (if b then None else if c then Some (slot_with_replies V i) else None)
    by true false true e f g same = ap (λ (j : KeptSlot). Some j.slot) same
    by false b c e f g same = absurd (cc e)
    by true true c e f g same = absurd (cc f)
    by true false false e f g same = absurd (cc g)

pub next_slot-done : (tables : Tables) (W : Slots) (repair : Option Repair) (r : Repair) (number position : ℕ) (k : KeptSlot) → IsRepairIfAny tables W repair → Some r ≡ repair
    → 1 ≤ number → number ≤ r.done → position ≡ number - 1 → slice_get r.slots position ≡ Some k → Some k.slot ≡ next_slot_at (phase_of repair) W number
next_slot-done tables W repair r number position k is under_way first within at found =
    next_slot-kept tables W r number position k (subst (IsRepairIfAny tables W) (sym under_way) is) first within at found
    ∙ ap (λ (o : Option Repair). next_slot_at (phase_of o) W number) under_way

-- ---- the end of a repair

pub AreGenerations-switch : (tables : Tables) (kept : List KeptSlot) (before versions : TablesByPosition) (r : Repair) → AreGenerations tables kept before (Some r) → length (actions_of kept) ≤ r.done → ShowsSide Next before versions
    → AreGenerations tables r.slots versions None
AreGenerations-switch tables kept before versions r are all_done shows = record {
  catalog = are.catalog;
  few = omega (arith, are.few, many, repair.slots.as_many);
  accepted = subst (AreAccepted tables) (sym actions) (AreAccepted-edited tables W r.edits are.accepted repair.accepted);
  slots = subst (λ U. AreKept r.slots (kept_slot U) (length r.slots)) (sym actions) (subst (AreKept r.slots (kept_slot V)) (sym edited.as_many) edited);
  rows = subst (HaveBothSides versions tables Idle) (sym actions) (HaveBothSides-switch before versions tables W r.edits (subst (λ n. HaveBothSides before tables (Repairing r.edits n) W) end are.rows) shows);
  under_way = tt;
}
  where
    W : Slots
    W = actions_of kept

    V : Slots
    V = edited_slots W r.edits

    repair : IsRepair tables W r
    repair = are.under_way

    many : length W ≡ length kept
    many = length-map kept (λ t. t.slot.action)

    end : r.done ≡ length W
    end = omega (arith, repair.done, all_done)

    edited : AreKept r.slots (kept_slot V) (length V)
    edited = AreKept-all_done r.slots W r.edits (subst (λ n. AreKept r.slots (next_kept_slot W r.edits n) (length W)) end repair.slots)

    actions : actions_of r.slots ≡ V
    actions = actions-kept r.slots V edited

pub actions-switched : (tables : Tables) (kept : List KeptSlot) (before : TablesByPosition) (r : Repair) → AreGenerations tables kept before (Some r) → length (actions_of kept) ≤ r.done → actions_of r.slots ≡ edited_slots (actions_of kept) r.edits
actions-switched tables kept before r are all_done =
    let W = actions_of kept in
    let end : r.done ≡ length W = omega (arith, are.under_way.done, all_done) in
    actions-kept r.slots (edited_slots W r.edits) (AreKept-all_done r.slots W r.edits (subst (λ n. AreKept r.slots (next_kept_slot W r.edits n) (length W)) end are.under_way.slots))

pub AreGenerations-switched : (tables : Tables) (kept : List KeptSlot) (before versions : TablesByPosition) (repair : Option Repair) → AreGenerations tables kept before repair → left_of (phase_of repair) (actions_of kept) ≡ 0
    → ShowsSide Next before versions → AreGenerations tables (next_slots repair kept) versions None
AreGenerations-switched tables kept before versions None are left shows = record {
  catalog = are.catalog;
  few = are.few;
  accepted = are.accepted;
  slots = are.slots;
  rows = HaveBothSides-idle before versions tables (actions_of kept) are.rows shows;
  under_way = tt;
}
AreGenerations-switched tables kept before versions (Some r) are left shows = AreGenerations-switch tables kept before versions r are (omega (arith, left)) shows

pub actions-next : (tables : Tables) (kept : List KeptSlot) (before : TablesByPosition) (repair : Option Repair) → AreGenerations tables kept before repair → left_of (phase_of repair) (actions_of kept) ≡ 0
    → actions_of (next_slots repair kept) ≡ slots_edited_by (phase_of repair) (actions_of kept)
actions-next tables kept before None are left = refl
actions-next tables kept before (Some r) are left = actions-switched tables kept before r are (omega (arith, left))

pub AreGenerations-abort : (tables : Tables) (kept : List KeptSlot) (before versions : TablesByPosition) (repair : Option Repair) → AreGenerations tables kept before repair → ShowsSide Current before versions → AreGenerations tables kept versions None
AreGenerations-abort tables kept before versions repair are shows = record {
  catalog = are.catalog;
  few = are.few;
  accepted = are.accepted;
  slots = are.slots;
  rows = HaveBothSides-abort before versions tables (phase_of repair) (actions_of kept) are.rows shows;
  under_way = tt;
}

-- the tables have few rows while there is room for a slot
pub HasFewRows-slots : (tables : Tables) (kept : List KeptSlot) (versions : TablesByPosition) (repair : Option Repair) (time : ℕ) → AreGenerations tables kept versions repair → length kept ≤ time → HasFewRows versions Current time most_rows
HasFewRows-slots tables kept versions repair time are later =
    let W = actions_of kept in
    let many : length W ≡ length kept = length-map kept (λ t. t.slot.action) in
    HasFewRows-agree versions (row_writes W (length W)) time most_rows are.rows.current
    (λ t. subst (λ C. length (C t) ≤ most_rows) (sym (last_content_stays W (length W) time (omega (arith, later, many)))) (length-content tables W (length W) t are.accepted (omega (arith, many, are.few))))

-- edits of slots that are there have small numbers
pub number-within : (kept : List KeptSlot) (E : List Edit) → All (NamesSlot (actions_of kept)) E → length kept ≤ max_slots → All (λ e. slot_number e ≤ max_slots) E
number-within kept E named few k d h = omega (arith, (named k d h).1, few, length-map kept (λ t. t.slot.action))

-- without a repair nothing is under way
pub no_repair-idle : (repair : Option Repair) → phase_of repair ≡ Idle → repair ≡ None
no_repair-idle None idle = refl
no_repair-idle (Some r) idle = cc
