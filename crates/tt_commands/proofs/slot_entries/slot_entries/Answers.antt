-- One number more.
use Rattle.std.proofs.Common.{◌≡◌, ◌+◌, ◌≤◌, ◌<◌, min, ◌++◌, sym, ap, ◌∙◌, arith, append-nil}
use Rattle.std.specs.Option.{option_to_list}
use Rattle.tt_db.specs.Database.{now_in}
use Rattle.tt_commands.specs.SlotEntries.{asked_entry, slot_entries}
use Rattle.tt_commands.proofs.SlotLemmas.{entries-next, entries-push, entries-end, made}
use Rattle.tt_commands.proofs.slot_entries.slot_entries.Goals.{in-Some-2+in_ok-push, in_default-2}
use Rattle.tt_commands.proofs.slot_entries.slot_entries.Goals as goal

pub loop-number-preserved : goal.loop-number-preserved
loop-number-preserved c =
    let l = c.loop-number in
    let s = c.args.session.now in
    let o = asked_entry s c.args.filter l.number in
    let rest = slot_entries s (l.number + 1) c.args.to c.args.filter in
    let some : l.number ≤ c.args.to = omega (arith, c.in-Some.ensures, c.min-last.ensures, c.loop-number-test.true) in
    let next = entries-next s l.number c.args.to c.args.filter some in
    let all = entries-push l.entries.items (slot_entries s c.args.from c.args.to c.args.filter) rest o (ap (λ es. l.entries.items ++ es) (sym next) ∙ l.invariant) in
    elim c.match-branch-2.branch [
      | in-Some-2+in_ok-push w ↦
          let pushed : c.match-branch-2.entries.items ≡ l.entries.items ++ option_to_list o =
          (λ i. (w.entries-is i).items) ∙ w.in_ok-push.ensures.items ∙ ap (λ p. l.entries.items ++ option_to_list p) (sym w.in-Some-2.is ∙ c.in_ok-entry.ensures) in
          ap (λ es. es ++ rest) pushed ∙ all
      | in_default-2 w ↦
          let pushed : c.match-branch-2.entries.items ≡ l.entries.items ++ option_to_list o =
          (λ i. (w.entries-is i).items) ∙ sym (append-nil l.entries.items) ∙ ap (λ p. l.entries.items ++ option_to_list p) (sym w.in_default-2.is ∙ c.in_ok-entry.ensures) in
          ap (λ es. es ++ rest) pushed ∙ all
    ]

pub returns : goal.returns
returns c =
    let l = c.loop-number in
    let s = c.args.session.now in
    let over : min c.args.to (now_in s.database) < l.number = omega (arith, c.in-Some.ensures, c.min-last.ensures, c.now.ensures, ap now_in c.db.ensures.value, c.loop-number-test.false) in
    let none = entries-end s l.number c.args.to c.args.filter over in
    let all : l.entries.items ≡ slot_entries s c.args.from c.args.to c.args.filter =
    sym (append-nil l.entries.items) ∙ ap (λ es. l.entries.items ++ es) (sym none) ∙ l.invariant in
    made c.new.result l.entries.items (slot_entries s c.args.from c.args.to c.args.filter) all c.new.ensures
