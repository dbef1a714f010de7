-- One record more: it isn't told, it is told, or it is the first one behind a full page.
use Rattle.std.proofs.Common.{◌≡◌, ◌+◌, true, false, List, [], ◌∷◌, ◌++◌, length, drop, slice_get, Some, refl, sym, ap, subst, ◌∙◌}
use Rattle.std.specs.Option.{option_copied}
use Rattle.std.specs.List.{cons_option}
use Rattle.tt_db.specs.Database.{Database, state_of}
use Rattle.tt_answers.specs.declared.answer.ChangeEntry.{ChangeEntry}
use Rattle.tt_commands.specs.CauseEntries.{is_full}
use Rattle.tt_commands.specs.ChangeEntries.{wanted_entry}
use Rattle.tt_commands.specs.Moments.{change_at, entries_at}
use Rattle.tt_commands.proofs.CauseLemmas.{HasRoom}
use Rattle.tt_commands.proofs.ChangeLemmas.{entries-next}
use Rattle.tt_commands.proofs.ChangePageLemmas.{told-next, skipped-next, full-next}
use Rattle.tt_commands.proofs.change_entries.first_changes.Goals.{in-Some-2+else-is_full+in_ok-push, in_default-2}
use Rattle.tt_commands.proofs.change_entries.first_changes.Goals as goal

pub returns-then-is_full-clause-more : goal.returns-then-is_full-clause-more
returns-then-is_full-clause-more c =
    let a = c.args in
    let l = c.loop-index in
    let db = a.db.now in
    let r = c.in-Some.earlier.now in
    let told = wanted_entry db a.page (change_at a.moment db.catalog (state_of db)) in
    let rest : List ChangeEntry = entries_at a.moment db a.page (drop (l.index + 1) a.records.now) in
    let whole : List ChangeEntry = entries_at a.moment db a.page a.records.now in
    let there : slice_get a.records.now l.index ≡ Some r = sym c.get.ensures ∙ ap option_copied c.in-Some.is in
    let all : l.entries.items ++ cons_option (told r) rest ≡ whole =
    ap (λ es. l.entries.items ++ es) (sym (entries-next told a.records.now l.index (l.index + 1) r there refl)) ∙ l.invariant.all in
    let right : c.in_ok-entry.field-0 ≡ told r =
    c.in_ok-entry.ensures.entry ∙ ap (λ (D : Database). wanted_entry D a.page (change_at a.moment D.catalog (state_of D)) r) l.invariant.database in
    let full : is_full a.page.most (length l.entries.items) ≡ true =
    ap (is_full a.page.most) (sym l.entries.ok.0 ∙ sym c.len.ensures) ∙ sym c.is_full.ensures ∙ c.if-is_full.true in
    (full-next a.page.most l.entries.items rest whole (told r) c.in-Some-2.entry all (sym right ∙ c.in-Some-2.is) full).1

pub loop-index-preserved : goal.loop-index-preserved
loop-index-preserved c =
    let a = c.args in
    let l = c.loop-index in
    let db = a.db.now in
    let r = c.in-Some.earlier.now in
    let told = wanted_entry db a.page (change_at a.moment db.catalog (state_of db)) in
    let rest : List ChangeEntry = entries_at a.moment db a.page (drop (l.index + 1) a.records.now) in
    let whole : List ChangeEntry = entries_at a.moment db a.page a.records.now in
    let there : slice_get a.records.now l.index ≡ Some r = sym c.get.ensures ∙ ap option_copied c.in-Some.is in
    let all : l.entries.items ++ cons_option (told r) rest ≡ whole =
    ap (λ es. l.entries.items ++ es) (sym (entries-next told a.records.now l.index (l.index + 1) r there refl)) ∙ l.invariant.all in
    let right : c.in_ok-entry.field-0 ≡ told r =
    c.in_ok-entry.ensures.entry ∙ ap (λ (D : Database). wanted_entry D a.page (change_at a.moment D.catalog (state_of D)) r) l.invariant.database in
    let same_database : c.wanted_entry.new.slots ≡ db = c.wanted_entry.ensures.database ∙ l.invariant.database in
    elim c.match-branch-2.branch [
      | in-Some-2+else-is_full+in_ok-push w ↦
          let pushed : c.match-branch-2.entries.items ≡ l.entries.items ++ w.in-Some-2.entry ∷ [] = (λ i. (w.entries-is i).items) ∙ w.in_ok-push.ensures.items in
          let free : is_full a.page.most (length l.entries.items) ≡ false =
          ap (is_full a.page.most) (sym l.entries.ok.0 ∙ sym w.len.ensures) ∙ sym w.is_full.ensures ∙ w.if-is_full.false in
          let next = told-next a.page.most l.entries.items c.match-branch-2.entries.items rest whole (told r) w.in-Some-2.entry all (sym right ∙ w.in-Some-2.is) free l.invariant.room pushed in
          record { database = same_database; all = next.0; room = next.1 }
      | in_default-2 w ↦
          let same : c.match-branch-2.entries.items ≡ l.entries.items = λ i. (w.entries-is i).items in
          record {
            database = same_database;
            all = ap (λ es. es ++ rest) same ∙ skipped-next l.entries.items rest whole (told r) all (sym right ∙ w.in_default-2.is);
            room = subst (λ n. HasRoom a.page.most n) (sym (ap length same)) l.invariant.room;
          }
    ]
