-- What a repair keeps, before and after each event.
use Rattle.std.proofs.Common.{◌≡◌, ℕ, zero, suc, ◌<◌, ◌≤◌, ◌+◌, ◌*◌, Bool, true, false, ◌||◌, ◌==◌, nat_lt, ℤ, List, [], ◌∷◌, ◌++◌, fold, length, Option, None, Some, is_some, if◌then◌else◌, refl, sym, ap, subst, ◌∙◌, arith, length-append}
use Rattle.std.proofs.lemmas.Bool.Decides.{nat_tests}
use Rattle.std.specs.List.{All, list_any}
use Rattle.std.specs.Option.{option_map}
use Rattle.tt_values.specs.declared.action.Action.{Action}
use Rattle.tt_values.specs.declared.checking.CheckError.TheVariants as faults
use Rattle.tt_values.specs.Tables.{Tables}
use Rattle.tt_values.specs.Limits.{max_writes}
use Rattle.tt_values.specs.Check.{first_write_fault}
use Rattle.tt_values.specs.Content.{Content, with_row_write}
use Rattle.tt_values.specs.declared.row_id.RowId.{RowId}
use Rattle.tt_values.specs.Action.{rows_touched, content_after_action}
use Rattle.tt_values.specs.ActionLaws.{IsByRisingKey}
use Rattle.tt_values.specs.RowWrites.{Slots, slot_after, slot_writes, slot_replies, row_writes, content_of}
use Rattle.tt_values.proofs.LawProofs.{rows_rise, next_content, action_leaves_its_last_content}
use Rattle.tt_parts.specs.Dirty.{DirtySet, DirtyTables, SameMembers, NumbersAgree, nothing_dirty, nothing_since, has_row}
use Rattle.tt_causes.specs.Numbers.{TellsSince, GotDirtyAt}
use Rattle.tt_causes.proofs.LawProofs.{numbers_tell_what_is_dirty, no_numbers_at_first, numbers_stay_undue, numbers_grow, later_slots_change_no_number}
use Rattle.tt_repair_laws.specs.declared.edit.Edit.{Edit}
use Rattle.tt_repair_laws.specs.Edits.{edit_of, edited_slots, slot_with_edit, replacement_of, HasNoFault}
use Rattle.tt_repair_laws.specs.Due.{content_after, is_due, is_slot_affected, dirty_after, reexecuted_count, rows_reexecuted, slot_rows_touched, slot_rows_matched, may_read_dirty, with_row_of}
use Rattle.tt_repair_laws.specs.Laws.{IsSameRepair}
use Rattle.tt_repair_laws.proofs.LawProofs.{edited_slots_are_as_many, edited_slot_is_next, later_slots_change_no_repair, content_after_is_kept, due_depends_on_members, dirty_rows_depend_on_members, nothing_is_dirty_at_first, undue_slots_dirty_nothing, due_slots_dirty_reexecuted_rows, no_slot_is_reexecuted_at_first, due_slots_are_reexecuted, undue_slots_are_not_reexecuted}
use Rattle.tt_generations.specs.declared.slot.KeptSlot.{KeptSlot}
use Rattle.tt_generations.specs.declared.edits.Replacement.{Replacement}
use Rattle.tt_generations.specs.declared.repair.Repair.{Repair}
use Rattle.tt_generations.specs.Limits.{max_slots}
use Rattle.tt_generations.specs.Rows.{TablesByPosition}
use Rattle.tt_generations.specs.ActionRun.{most_rows}
use Rattle.tt_generations.specs.Reexecution.{AreReexecuted, ShowsContentBefore, ShowsFewBefore}
use Rattle.tt_generations.specs.KeptSlots.{kept_slot, AreKept, IsAccepted, AreAccepted}
use Rattle.tt_generations.specs.EditsByNumber.{HasEdits}
use Rattle.tt_generations.specs.Repair.{is_kept_affected, is_kept_due, next_replacement, replaced_by, next_action, as_action, HasReexecutedSlot, HasDoneDueSlot}
use Rattle.tt_generations.specs.ReexecutedSlots.{numbers_of}
use Rattle.tt_generations.specs.TwoGenerations.{NamesSlot, Repairing}
use Rattle.tt_generations.specs.Generations.{next_kept_slot, IsRepair, HaveBothSides}
use Rattle.tt_generations.proofs.FewRowsLemmas.{length-after_action}
use Rattle.tt_generations.proofs.NumbersLemmas.{same_table, GotDirtyAt-same}
use Rattle.tt_generations.proofs.KeptSlotsLemmas.{AreKept-same, AreKept-push, AreKept-set, kept_slot-is, next_kept_slot-append, next_kept_slot-last, next_kept_slot-first, next_kept_slot-other, next_kept_slot-done, next_kept_slot-left, kept_slot-undue, named-append, AreAccepted-at, AreAccepted-edited}
use Rattle.tt_generations.proofs.ReexecutedSlotsLemmas.{numbers-same, numbers-stay, numbers-more}
use Rattle.tt_generations.proofs.BothSidesLemmas.{HaveBothSides-due, ShowsContentBefore-next}

next_number : (n : ℕ) → n + 1 ≡ suc n
next_number n = omega arith

-- ---- a slot that is added

pub IsRepair-slot : (tables : Tables) (W : Slots) (s : Option Action) (r after : Repair) (k : KeptSlot) → IsRepair tables W r → k ≡ kept_slot (W ++ s ∷ []) (length W)
    → after ≡ record r { slots = r.slots ++ k ∷ [] } → IsRepair tables (W ++ s ∷ []) after
IsRepair-slot tables W s r after k is last new = subst (IsRepair tables V) (sym new) (record {
  named = named-append W s E is.named;
  accepted = is.accepted;
  replacements = is.replacements;
  done = omega (arith, is.done, many);
  reexecuted = is.reexecuted ∙ numbers-same (is_due tables W E) (is_due tables V E) n (λ i h. sym (same.due i h));
  count = is.count ∙ sym same.reexecuted;
  catalog = is.catalog;
  dirty = subst (SameMembers r.dirty.dirty) (sym same.dirty) is.dirty;
  since = later_slots_change_no_number tables W (s ∷ []) r.edits r.done r.dirty.since is.done is.since;
  slots = subst (AreKept (r.slots ++ k ∷ []) (next_kept_slot V E n)) (sym many)
      (AreKept-push r.slots (next_kept_slot W E n) (next_kept_slot V E n) (length W) k is.slots (λ i h. next_kept_slot-append W s E n i is.named h) (last ∙ next_kept_slot-last W s E n is.done));
})
  where
    V : Slots
    V = W ++ s ∷ []

    E : List Edit
    E = r.edits

    n : ℕ
    n = r.done

    same : IsSameRepair tables W (W ++ s ∷ []) r.edits r.done
    same = later_slots_change_no_repair tables W (s ∷ []) r.edits r.done is.done

    many : length (W ++ s ∷ []) ≡ length W + 1
    many = length-append W (s ∷ [])

-- ---- the first step

pub record IsNewRepair (tables : Tables) (E : List Edit) (kept : List KeptSlot) (r : Repair) : Type 0 where
  pub edits : r.edits ≡ E
  pub replacements : HasEdits r.replacements E
  pub done : r.done ≡ 0
  pub reexecuted : r.reexecuted ≡ []
  pub catalog : r.dirty.catalog ≡ tables
  pub dirty : SameMembers r.dirty.dirty nothing_dirty
  pub since : r.dirty.since ≡ nothing_since
  pub slots : r.slots ≡ kept

pub IsRepair-new : (tables : Tables) (W : Slots) (E : List Edit) (kept : List KeptSlot) (r : Repair) → All (NamesSlot W) E → All (HasNoFault tables) E → AreKept kept (kept_slot W) (length W) → IsNewRepair tables E kept r → IsRepair tables W r
IsRepair-new tables W E kept r named accepted are new = record {
  named = subst (All (NamesSlot W)) (sym new.edits) named;
  accepted = subst (All (HasNoFault tables)) (sym new.edits) accepted;
  replacements = subst (HasEdits r.replacements) (sym new.edits) new.replacements;
  done = omega (arith, new.done);
  reexecuted = new.reexecuted ∙ ap (numbers_of (is_due tables W r.edits)) (sym new.done);
  count = ap length new.reexecuted ∙ sym (no_slot_is_reexecuted_at_first tables W r.edits) ∙ ap (reexecuted_count tables W r.edits) (sym new.done);
  catalog = new.catalog;
  dirty = subst (λ n. SameMembers r.dirty.dirty (dirty_after tables W r.edits n)) (sym new.done) (subst (SameMembers r.dirty.dirty) (sym (nothing_is_dirty_at_first tables W r.edits)) new.dirty);
  since = subst (λ n. TellsSince tables W r.edits n r.dirty.since) (sym new.done) (subst (TellsSince tables W r.edits 0) (sym new.since) (no_numbers_at_first tables W r.edits nothing_since (record { rows = λ table key. refl; partitions = λ p. refl; tables = λ table. refl })));
  slots = subst (λ n. AreKept r.slots (next_kept_slot W r.edits n) (length W)) (sym new.done)
      (subst (λ (slots : List KeptSlot). AreKept slots (next_kept_slot W r.edits 0) (length W)) (sym new.slots)
      (AreKept-same kept (kept_slot W) (next_kept_slot W r.edits 0) (length W) are (λ i h. next_kept_slot-first W r.edits i)));
}

-- ---- a slot that isn't due

pub IsRepair-undue : (tables : Tables) (W : Slots) (r after : Repair) → IsRepair tables W r → r.done < length W → is_due tables W r.edits r.done ≡ false → after ≡ record r { done = r.done + 1 } → IsRepair tables W after
IsRepair-undue tables W r after is room undue new = subst (IsRepair tables W) (sym new) (record {
  named = is.named;
  accepted = is.accepted;
  replacements = is.replacements;
  done = omega (arith, room);
  reexecuted = is.reexecuted ∙ sym (numbers-stay (is_due tables W E) n undue) ∙ ap (numbers_of (is_due tables W E)) next;
  count = is.count ∙ sym (undue_slots_are_not_reexecuted tables W E n undue) ∙ ap (reexecuted_count tables W E) next;
  catalog = is.catalog;
  dirty = subst (λ m. SameMembers r.dirty.dirty (dirty_after tables W E m)) next (subst (SameMembers r.dirty.dirty) (sym (undue_slots_dirty_nothing tables W E n undue)) is.dirty);
  since = subst (λ m. TellsSince tables W E m r.dirty.since) next (numbers_stay_undue tables W E n r.dirty.since undue is.since);
  slots = subst (λ m. AreKept r.slots (next_kept_slot W E m) (length W)) next (AreKept-same r.slots (next_kept_slot W E n) (next_kept_slot W E (suc n)) (length W) is.slots (λ i h. each i (i == n) refl));
})
  where
    E : List Edit
    E = r.edits

    n : ℕ
    n = r.done

    next : suc n ≡ n + 1
    next = sym (next_number n)

    each : (i : ℕ) (b : Bool) → (i == n) ≡ b → next_kept_slot W E n i ≡ next_kept_slot W E (suc n) i
    each i true e =
        let here : i ≡ n = grind (arith, nat_tests) in
        ap (next_kept_slot W E n) here ∙ next_kept_slot-left W E n ∙ kept_slot-undue tables W E n room undue ∙ next_kept_slot-done W E n ∙ ap (next_kept_slot W E (suc n)) (sym here)
    each i false e = next_kept_slot-other W E n i e

-- ---- the numbers of what is dirty

pub numbers-repair : (tables : Tables) (W : Slots) (r : Repair) → IsRepair tables W r → NumbersAgree r.dirty.dirty r.dirty.since
numbers-repair tables W r is =
    let D = dirty_after tables W r.edits r.done in
    let agree : NumbersAgree D r.dirty.since = numbers_tell_what_is_dirty tables W r.edits r.done r.dirty.since is.since in
    record {
      rows = λ table key. agree.rows table key ∙ sym (is.dirty.rows table key);
      partitions = λ p. agree.partitions p ∙ sym (is.dirty.partitions p);
      tables = λ table. agree.tables table ∙ sym (same_table r.dirty.dirty D table is.dirty);
    }

-- ---- whether a slot is due

affected-kept : (tables : Tables) (d : DirtyTables) (s : Option Action) (X : Content) → d.catalog ≡ tables → is_kept_affected d (slot_rows_touched s X) s ≡ is_slot_affected tables d.dirty s X
affected-kept tables d None X catalog = refl
affected-kept tables d (Some action) X catalog = λ i.
    list_any (λ r. has_row d.dirty r.table r.key) (rows_touched action X) || may_read_dirty (catalog i) d.dirty action.writes

is_some-map : {A B : Type 0} (f : A → B) (o : Option A) → is_some (option_map f o) ≡ is_some o
is_some-map f None = refl
is_some-map f (Some x) = refl

pub is_due-kept : (tables : Tables) (W : Slots) (r : Repair) → IsRepair tables W r → r.done < length W → is_kept_due r (kept_slot W r.done) ≡ is_due tables W r.edits r.done
is_due-kept tables W r is room =
    let n = r.done in
    let edited : is_some (next_replacement r) ≡ is_some (edit_of r.edits (suc n)) =
    ap is_some (is.replacements (n + 1)) ∙ is_some-map (λ e. record { action = replacement_of e }) (edit_of r.edits (n + 1)) ∙ ap (λ t. is_some (edit_of r.edits t)) (next_number n) in
    let affected : is_kept_affected r.dirty (slot_rows_touched (slot_after W n) (content_of W n)) (slot_after W n) ≡ is_slot_affected tables r.dirty.dirty (slot_after W n) (content_after W n) =
    affected-kept tables r.dirty (slot_after W n) (content_of W n) is.catalog
    ∙ ap (is_slot_affected tables r.dirty.dirty (slot_after W n)) (content_after_is_kept W n (omega (arith, room))) in
    (λ i. edited i || affected i) ∙ due_depends_on_members tables W r.edits n r.dirty.dirty (dirty_after tables W r.edits n) is.dirty

-- ---- a slot that is due

SameMembers-trans : {C D F : DirtySet} → SameMembers C D → SameMembers D F → SameMembers C F
SameMembers-trans one two = record { rows = λ table key. one.rows table key ∙ two.rows table key; partitions = λ p. one.partitions p ∙ two.partitions p }

replaced-edit : (o : Option Edit) (s : Option Action) → replaced_by (option_map (λ e. record { action = replacement_of e }) o) s ≡ slot_with_edit o s
replaced-edit None s = refl
replaced-edit (Some e) s = refl

pub next_action-is : (tables : Tables) (W : Slots) (r : Repair) → IsRepair tables W r → r.done < length W → next_action r (kept_slot W r.done) ≡ slot_after (edited_slots W r.edits) r.done
next_action-is tables W r is room =
    let n = r.done in
    ap (λ o. replaced_by o (slot_after W n)) (is.replacements (n + 1))
    ∙ replaced-edit (edit_of r.edits (n + 1)) (slot_after W n)
    ∙ ap (λ t. slot_with_edit (edit_of r.edits t) (slot_after W n)) (next_number n)
    ∙ sym (edited_slot_is_next W r.edits n room)

pub rows-kept : (W : Slots) (n : ℕ) → n ≤ length W → (kept_slot W n).rows ≡ slot_rows_touched (slot_after W n) (content_after W n)
rows-kept W n h = ap (slot_rows_touched (slot_after W n)) (content_after_is_kept W n h)

-- the content after a slot, by its action
after-slot : (s : Option Action) (time : ℕ) (X : Content) → IsByRisingKey X → fold with_row_write X (slot_writes time s X) ≡ content_after_action (as_action s) X
after-slot None time X rising = refl
after-slot (Some action) time X rising = action_leaves_its_last_content time action X rising

pub content-after_slot : (W : Slots) (n : ℕ) → content_after W (suc n) ≡ content_after_action (as_action (slot_after W n)) (content_after W n)
content-after_slot W n = next_content W n ∙ after-slot (slot_after W n) (suc n) (content_after W n) (rows_rise (row_writes W n) n)

record ReexecutedBy : Type 0 where
  rows : List RowId
  time : ℕ
  content : Content

pub HaveBothSides-reexecuted : (before after : TablesByPosition) (tables : Tables) (W : Slots) (r next : Repair) → IsRepair tables W r → r.done < length W → is_due tables W r.edits r.done ≡ true
    → HaveBothSides before tables (Repairing r.edits r.done) W → HasReexecutedSlot r (kept_slot W r.done) before next after (content_after (edited_slots W r.edits) r.done) → HaveBothSides after tables (Repairing r.edits (r.done + 1)) W
HaveBothSides-reexecuted before after tables W r next is room due have done = subst (λ m. HaveBothSides after tables (Repairing E m) W) (sym (next_number n))
    (HaveBothSides-due before after tables W E n (omega (arith, room)) due have
    (subst (λ (a : ReexecutedBy). AreReexecuted before after a.rows a.time a.content) same done.rows))
  where
    E : List Edit
    E = r.edits

    n : ℕ
    n = r.done

    V : Slots
    V = edited_slots W r.edits

    X : Content
    X = content_after V n

    action : next_action r (kept_slot W n) ≡ slot_after V n
    action = next_action-is tables W r is room

    by_step : ReexecutedBy
    by_step = record { rows = (kept_slot W n).rows ++ slot_rows_matched (next_action r (kept_slot W n)) X; time = n + 1; content = content_after_action (as_action (next_action r (kept_slot W n))) X }

    by_slot : ReexecutedBy
    by_slot = record { rows = rows_reexecuted W E n; time = suc n; content = content_after V (suc n) }

    same : by_step ≡ by_slot
    same = λ i. record {
      rows = rows-kept W n (omega (arith, room)) i ++ slot_rows_matched (action i) X;
      time = next_number n i;
      content = (ap (λ s. content_after_action (as_action s) X) action ∙ sym (content-after_slot V n)) i;
    }

pub IsRepair-due : (tables : Tables) (W : Slots) (r after : Repair) (before left : TablesByPosition) → IsRepair tables W r → r.done < length W → is_due tables W r.edits r.done ≡ true
    → HasDoneDueSlot r after → HasReexecutedSlot r (kept_slot W r.done) before after left (content_after (edited_slots W r.edits) r.done) → IsRepair tables W after
IsRepair-due tables W r after before left is room due done reexecuted = record {
  named = subst (All (NamesSlot W)) (sym done.edits) is.named;
  accepted = subst (All (HasNoFault tables)) (sym done.edits) is.accepted;
  replacements = subst (HasEdits after.replacements) (sym done.edits) (subst (λ (m : List (ℤ × Replacement)). HasEdits m E) (sym done.replacements) is.replacements);
  done = omega (arith, done.done, room);
  reexecuted = done.reexecuted ∙ (λ i. is.reexecuted i ++ next_number n i ∷ []) ∙ sym (numbers-more (is_due tables W E) n due) ∙ (λ i. numbers_of (is_due tables W (sym done.edits i)) (now i));
  count = ap length done.reexecuted ∙ length-append r.reexecuted ((n + 1) ∷ []) ∙ ap (λ m. m + 1) is.count ∙ next_number (reexecuted_count tables W E n) ∙ sym (due_slots_are_reexecuted tables W E n due) ∙ (λ i. reexecuted_count tables W (sym done.edits i) (now i));
  catalog = done.catalog ∙ is.catalog;
  dirty = subst (λ (D : DirtySet). SameMembers after.dirty.dirty D) dirty_now (SameMembers-trans reexecuted.dirty (dirty_rows_depend_on_members r.dirty.catalog X Y rows r.dirty.dirty (dirty_after tables W E n) is.dirty));
  since = subst (λ (F : List Edit). TellsSince tables W F after.done after.dirty.since) (sym done.edits) (subst (λ m. TellsSince tables W E m after.dirty.since) now since_now);
  slots = subst (λ m. AreKept after.slots (next_kept_slot W after.edits m) (length W)) now
      (subst (λ (F : List Edit). AreKept after.slots (next_kept_slot W F (suc n)) (length W)) (sym done.edits)
      (subst (λ (slots : List KeptSlot). AreKept slots (next_kept_slot W E (suc n)) (length W)) (sym reexecuted.slots)
      (AreKept-set r.slots (next_kept_slot W E n) (next_kept_slot W E (suc n)) (length W) n new is.slots room (λ i h other. next_kept_slot-other W E n i other) (new_is ∙ next_kept_slot-done W E n))));
}
  where
    E : List Edit
    E = r.edits

    n : ℕ
    n = r.done

    V : Slots
    V = edited_slots W r.edits

    X : Content
    X = content_after V n

    Y : Content
    Y = content_after_action (as_action (next_action r (kept_slot W n))) X

    rows : List RowId
    rows = (kept_slot W n).rows ++ slot_rows_matched (next_action r (kept_slot W n)) X

    now : suc n ≡ after.done
    now = sym (next_number n) ∙ sym done.done

    action : next_action r (kept_slot W n) ≡ slot_after V n
    action = next_action-is tables W r is room

    dirty_now : fold (with_row_of r.dirty.catalog X Y) (dirty_after tables W E n) rows ≡ dirty_after tables W after.edits after.done
    dirty_now =
        (λ i. fold (with_row_of (is.catalog i) X ((ap (λ s. content_after_action (as_action s) X) action ∙ sym (content-after_slot V n)) i)) (dirty_after tables W E n) (rows-kept W n (omega (arith, room)) i ++ slot_rows_matched (action i) X))
        ∙ sym (due_slots_dirty_reexecuted_rows tables W E n due)
        ∙ (λ i. dirty_after tables W (sym done.edits i) (now i))

    dirty_then : SameMembers after.dirty.dirty (dirty_after tables W E (suc n))
    dirty_then = subst (λ (F : List Edit). SameMembers after.dirty.dirty (dirty_after tables W F (suc n))) done.edits (subst (λ m. SameMembers after.dirty.dirty (dirty_after tables W after.edits m)) (sym now)
        (subst (λ (D : DirtySet). SameMembers after.dirty.dirty D) dirty_now (SameMembers-trans reexecuted.dirty (dirty_rows_depend_on_members r.dirty.catalog X Y rows r.dirty.dirty (dirty_after tables W E n) is.dirty))))

    since_now : TellsSince tables W E (suc n) after.dirty.since
    since_now = numbers_grow tables W E n r.dirty.since after.dirty.since is.since
        (GotDirtyAt-same r.dirty.since (suc n) after.dirty.dirty (dirty_after tables W E (suc n)) after.dirty.since dirty_then (subst (λ m. GotDirtyAt r.dirty.since m after.dirty.dirty after.dirty.since) (next_number n) reexecuted.since))

    new : KeptSlot
    new = record { slot = record { action = next_action r (kept_slot W n); replies = slot_replies (next_action r (kept_slot W n)) X }; rows = slot_rows_touched (next_action r (kept_slot W n)) X }

    new_is : new ≡ kept_slot V n
    new_is = kept_slot-is V n (slot_after V n) X new refl (content_after_is_kept V n (omega (arith, room, edited_slots_are_as_many W E)))
        action (ap (λ s. slot_replies s X) action) (ap (λ s. slot_rows_touched s X) action)

-- ---- what the re-execution asks for

IsAccepted-short : (tables : Tables) (s : Option Action) → IsAccepted tables s → length (as_action s).writes ≤ max_writes
IsAccepted-short tables None is = omega arith
IsAccepted-short tables (Some action) is = by (nat_lt max_writes (length action.writes)) refl is
  where
    by : (b : Bool) → nat_lt max_writes (length action.writes) ≡ b → (if b then Some faults.TooManyWrites else first_write_fault tables action.writes) ≡ None → length action.writes ≤ max_writes
    by true e none = cc
    by false e none = grind (arith, nat_tests)

few_rows_of : (tables : Tables) (W : Slots) (n t : ℕ) → AreAccepted tables W → length (content_after W n t) ≤ max_writes * n
unfolding row_writes
few_rows_of tables W zero t all = omega arith
few_rows_of tables W (suc n) t all =
    let X = content_after W n in
    let s = slot_after W n in
    let few = few_rows_of tables W n t all in
    let next = length-after_action (as_action s) X t (rows_rise (row_writes W n) n) in
    let short = IsAccepted-short tables s (AreAccepted-at tables W all n) in
    subst (λ C. length (C t) ≤ max_writes * suc n) (sym (content-after_slot W n)) (omega (arith, few, next, short))

pub length-content : (tables : Tables) (W : Slots) (n t : ℕ) → AreAccepted tables W → n ≤ max_slots → length (content_after W n t) ≤ most_rows
length-content tables W n t all few = omega (arith, few_rows_of tables W n t all, few)

pub ShowsFewBefore-next : (versions : TablesByPosition) (tables : Tables) (W : Slots) (r : Repair) → IsRepair tables W r → r.done < length W → length W ≤ max_slots → AreAccepted tables W
    → HaveBothSides versions tables (Repairing r.edits r.done) W → ShowsFewBefore versions (r.done + 1) (kept_slot W r.done).rows
ShowsFewBefore-next versions tables W r is room few all have =
    let n = r.done in
    let V = edited_slots W r.edits in
    let shows = ShowsContentBefore-next versions tables W r.edits n room have in
    record {
      content = content_after V n;
      shows = subst (λ (rows : List RowId). ShowsContentBefore versions (n + 1) (content_after V n) rows) (sym (rows-kept W n (omega (arith, room))))
          (subst (λ m. ShowsContentBefore versions m (content_after V n) (slot_rows_touched (slot_after W n) (content_after W n))) (sym (next_number n)) shows);
      few = λ t. length-content tables V n t (AreAccepted-edited tables W r.edits all is.accepted) (omega (arith, room, few));
    }

pub next_action-accepted : (tables : Tables) (W : Slots) (r : Repair) → IsRepair tables W r → r.done < length W → AreAccepted tables W → IsAccepted tables (next_action r (kept_slot W r.done))
next_action-accepted tables W r is room all =
    subst (IsAccepted tables) (sym (next_action-is tables W r is room)) (AreAccepted-at tables (edited_slots W r.edits) (AreAccepted-edited tables W r.edits all is.accepted) r.done)
