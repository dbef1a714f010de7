-- One slot more: it is told, or it is the first one behind a full page.
use Rattle.std.proofs.Common.{◌≡◌, true, [], ◌∷◌, ◌++◌, length, append-nil, append_assoc, length-append, false, sym, ap, subst, ◌∙◌, arith}
use Rattle.tt_generations.specs.SlotCauses.{cause_told}
use Rattle.tt_answers.specs.declared.answer.SlotCause.{SlotCause}
use Rattle.tt_commands.specs.CauseEntries.{entry_with, cause_entries, is_full, first_entries, more_follow}
use Rattle.tt_commands.proofs.CauseLemmas.{HasRoom, redone-none, redone-some, redone-lent, redone-told, room-at-first, room-more, full-page, whole-page}
use Rattle.tt_commands.proofs.cause_entries.first_causes.Goals.{Then-is_full}
use Rattle.tt_commands.proofs.cause_entries.first_causes.Goals as goal

pub loop-slot-init : goal.loop-slot-init
loop-slot-init c =
    let a = c.args in
    let none = c.new-entries.ensures.items in
    record {
      all = ap (λ es. es ++ cause_entries a.db.now a.repair a.before) none;
      room = subst (λ n. HasRoom a.most n) (sym (ap length none)) (room-at-first a.most);
    }

-- the first slot behind a full page
full : (c : Then-is_full) → let a = c.args in let whole = cause_entries a.db.now a.repair a.before in let entries = c.loop-slot.entries.items in
    (entries ≡ first_entries a.most whole) × (true ≡ more_follow a.most whole)
full c =
    let a = c.args in
    let l = c.loop-slot in
    let db = a.db.now in
    let slot = c.in-Some.slot in
    let next = redone-some db a.repair l.told slot (sym c.next_redone.ensures ∙ c.in-Some.is) in
    let count : is_full a.most (length l.entries.items) ≡ true = ap (is_full a.most) (sym l.entries.ok.0 ∙ sym c.len.ensures) ∙ sym c.is_full.ensures ∙ c.if-is_full.true in
    full-page a.most l.entries.items (cause_entries db a.repair slot) (cause_entries db a.repair a.before) (entry_with slot next.cause) count
    (ap (λ es. l.entries.items ++ es) (sym next.entries) ∙ l.invariant.all)

pub returns-then-is_full-clause-entries : goal.returns-then-is_full-clause-entries
returns-then-is_full-clause-entries c = (full c).0

pub returns-then-is_full-clause-more : goal.returns-then-is_full-clause-more
returns-then-is_full-clause-more c = (full c).1

pub unreachable-requires : goal.unreachable-requires
unreachable-requires c =
    let a = c.args in
    absurd (redone-lent a.db.now a.repair c.loop-slot.told c.in-Some.slot c.cause.result (sym c.next_redone.ensures ∙ c.in-Some.is) c.cause.ensures c.in_default-cause.is)

pub loop-slot-preserved : goal.loop-slot-preserved
loop-slot-preserved c =
    let a = c.args in
    let l = c.loop-slot in
    let db = a.db.now in
    let slot = c.in-Some.slot in
    let entries = l.entries.items in
    let others = cause_entries db a.repair slot in
    let lent = c.in-Some-cause.cause in
    let e = entry_with slot (cause_told lent) in
    let next = redone-told db a.repair l.told slot c.cause.result lent (sym c.next_redone.ensures ∙ c.in-Some.is) c.cause.ensures c.in-Some-cause.is in
    let pushed : c.push.new.self.items ≡ entries ++ e ∷ [] =
    c.in_ok-push.ensures.items ∙ ap (λ (s : SlotCause). entries ++ (record { slot = slot; cause = s }) ∷ []) c.in_ok-cause.ensures in
    let count : is_full a.most (length entries) ≡ false = ap (is_full a.most) (sym l.entries.ok.0 ∙ sym c.len.ensures) ∙ sym c.is_full.ensures ∙ c.if-is_full.false in
    record {
      all = ap (λ es. es ++ others) pushed ∙ append_assoc entries (e ∷ []) others ∙ ap (λ es. entries ++ es) (sym next) ∙ l.invariant.all;
      room = room-more a.most (length entries) (length c.push.new.self.items) l.invariant.room count (ap length pushed ∙ length-append entries (e ∷ []));
    }

pub loop-slot-smaller : goal.loop-slot-smaller
loop-slot-smaller c =
    let a = c.args in
    let next = redone-some a.db.now a.repair c.loop-slot.told c.in-Some.slot (sym c.next_redone.ensures ∙ c.in-Some.is) in
    omega (arith, next.behind, next.done)

-- all slots are told
pub returns-clause-entries : goal.returns-clause-entries
returns-clause-entries c =
    let a = c.args in
    let l = c.loop-slot in
    let none = redone-none a.db.now a.repair l.told (sym c.next_redone.ensures ∙ c.in_default.is) in
    (whole-page a.most l.entries.items (cause_entries a.db.now a.repair a.before) l.invariant.room
    (sym (append-nil l.entries.items) ∙ ap (λ es. l.entries.items ++ es) (sym none) ∙ l.invariant.all)).0

pub returns-clause-more : goal.returns-clause-more
returns-clause-more c =
    let a = c.args in
    let l = c.loop-slot in
    let none = redone-none a.db.now a.repair l.told (sym c.next_redone.ensures ∙ c.in_default.is) in
    (whole-page a.most l.entries.items (cause_entries a.db.now a.repair a.before) l.invariant.room
    (sym (append-nil l.entries.items) ∙ ap (λ es. l.entries.items ++ es) (sym none) ∙ l.invariant.all)).1
