-- Why slots were re-executed, which rows differ, and what a repair would come to, as it is answered.
use Rattle.std.specs.Prelude.{◌≡◌, pos, negsuc, true, false, [], ◌∷◌, ◌++◌, None, Some, codes, refl}
use Rattle.std.specs.Fmt.{digits}
use Rattle.tt_requests.specs.Numbers.{nothing_forgotten}
use Rattle.tt_values.specs.declared.value.Value.TheVariants as values
use Rattle.tt_values.specs.declared.reply.Reply.TheVariants as replies
use Rattle.tt_records.specs.declared.changed.After.TheVariants as afters
use Rattle.tt_grammar.proofs.worked_texts.Accounts.{accounts, account}
use Rattle.tt_answers.specs.declared.answer.Answer.TheVariants as answers
use Rattle.tt_answers.specs.declared.answer.Place.TheVariants as places
use Rattle.tt_answers.specs.declared.answer.SlotCause.TheVariants as told
use Rattle.tt_answers.specs.AnswerText.{call_text}

none : call_text accounts nothing_forgotten 6 (answers.Causes 0 [] None) ≡ codes "{\"call\":6,\"done\":0,\"redone\":[]}\n"
unfolding digits
none = refl

edited : call_text accounts nothing_forgotten 7 (answers.Causes 3 (record { slot = 2; cause = told.Edited } ∷ []) None)
    ≡ codes "{\"call\":7,\"done\":3,\"redone\":[{\"slot\":2,\"because\":\"edited\"}]}\n"
unfolding digits
edited = refl

wrote : call_text accounts nothing_forgotten 8 (answers.Causes 3 (record { slot = 3; cause = told.Wrote (record { table = 0; key = pos 1 }) 2 } ∷ []) None)
    ≡ codes "{\"call\":8,\"done\":3,\"redone\":[{\"slot\":3,\"because\":\"wrote\",\"table\":\"acct\",\"key\":1,\"since\":2}]}\n"
unfolding digits
wrote = refl

names : call_text accounts nothing_forgotten 9 (answers.Causes 2 (record { slot = 2; cause = told.Names (record { table = 0; key = pos 1 }) 1 } ∷ []) None)
    ≡ codes "{\"call\":9,\"done\":2,\"redone\":[{\"slot\":2,\"because\":\"names\",\"table\":\"acct\",\"key\":1,\"since\":1}]}\n"
unfolding digits
names = refl

-- a text, and an integer
reads : (call_text accounts nothing_forgotten 10 (answers.Causes 4 (record { slot = 4; cause = told.Reads 0 1 (values.Text (codes "ann")) 2 } ∷ []) None)
    ≡ codes "{\"call\":10,\"done\":4,\"redone\":[{\"slot\":4,\"because\":\"reads\",\"table\":\"acct\",\"column\":\"owner\",\"value\":\"ann\",\"since\":2}]}\n")
    × (call_text accounts nothing_forgotten 10 (answers.Causes 4 (record { slot = 4; cause = told.Reads 0 2 (values.Int (pos 7)) 2 } ∷ []) None)
    ≡ codes "{\"call\":10,\"done\":4,\"redone\":[{\"slot\":4,\"because\":\"reads\",\"table\":\"acct\",\"column\":\"bal\",\"value\":7,\"since\":2}]}\n")
unfolding digits
reads = (refl, refl)

scans : call_text accounts nothing_forgotten 11 (answers.Causes 3 (record { slot = 3; cause = told.Scans 0 1 } ∷ []) None)
    ≡ codes "{\"call\":11,\"done\":3,\"redone\":[{\"slot\":3,\"because\":\"scans\",\"table\":\"acct\",\"since\":1}]}\n"
unfolding digits
scans = refl

-- pages: more follow the first one, none the second one, which has no slot
pages : (call_text accounts nothing_forgotten 12 (answers.Causes 4 (
    record { slot = 1; cause = told.Edited } ∷ record { slot = 3; cause = told.Scans 0 1 } ∷ []) (Some true))
    ≡ codes "{\"call\":12,\"done\":4,\"redone\":[{\"slot\":1,\"because\":\"edited\"},{\"slot\":3,\"because\":\"scans\",\"table\":\"acct\",\"since\":1}],\"more\":true}\n")
    × (call_text accounts nothing_forgotten 13 (answers.Causes 4 [] (Some false)) ≡ codes "{\"call\":13,\"done\":4,\"redone\":[],\"more\":false}\n")
unfolding digits
pages = (refl, refl)

same : call_text accounts nothing_forgotten 6 (answers.Differences 2 [] None) ≡ codes "{\"call\":6,\"done\":2,\"diff\":[]}\n"
unfolding digits
same = refl

-- a row that only one side has, and one that is another
different : call_text accounts nothing_forgotten 7 (answers.Differences 4 (
    record { table = 0; change = record { key = pos 1; before = None; after = Some (account (pos 1) (codes "ann") (pos 5)) } }
    ∷ record { table = 0; change = record { key = pos 3; before = Some (account (pos 3) (codes "bob") (pos 7)); after = None } }
    ∷ record { table = 0; change = record { key = pos 4; before = Some (account (pos 4) (codes "bob") (pos 1)); after = Some (account (pos 4) (codes "bob") (pos 2)) } }
    ∷ []) None)
    ≡ (codes "{\"call\":7,\"done\":4,\"diff\":[{\"table\":\"acct\",\"key\":1,\"before\":null,\"after\":[1,\"ann\",5]},"
    ++ (codes "{\"table\":\"acct\",\"key\":3,\"before\":[3,\"bob\",7],\"after\":null},"
    ++ codes "{\"table\":\"acct\",\"key\":4,\"before\":[4,\"bob\",1],\"after\":[4,\"bob\",2]}]}\n"))
unfolding digits
different = refl

-- pages: more follow the first one, none the second one, which has no row
pages_of_rows : (call_text accounts nothing_forgotten 8 (answers.Differences 4 (
    record { table = 0; change = record { key = negsuc 0; before = None; after = Some (account (negsuc 0) [] (pos 0)) } } ∷ []) (Some true))
    ≡ codes "{\"call\":8,\"done\":4,\"diff\":[{\"table\":\"acct\",\"key\":-1,\"before\":null,\"after\":[-1,\"\",0]}],\"more\":true}\n")
    × (call_text accounts nothing_forgotten 9 (answers.Differences 4 [] (Some false)) ≡ codes "{\"call\":9,\"done\":4,\"diff\":[],\"more\":false}\n")
unfolding digits
pages_of_rows = (refl, refl)

tried : call_text accounts nothing_forgotten 6 (answers.Trial 2 1 (record { slot = 2; cause = told.Edited } ∷ [])
    (record { worker = None; place = places.Slot 2; change = record { call = 2; before = replies.Updated 1 ∷ []; after = afters.Cancelled }; asked = None }
    ∷ record {
      worker = None;
      place = places.Time 2;
      change = record {
        call = 3;
        before = replies.Rows (account (pos 1) (codes "ann") (pos 0) ∷ []) ∷ [];
        after = afters.Replies (replies.Rows (account (pos 1) (codes "ann") (pos 10) ∷ []) ∷ []);
      };
      asked = None;
    }
    ∷ [])
    (record { table = 0; change = record { key = pos 1; before = Some (account (pos 1) (codes "ann") (pos 0)); after = Some (account (pos 1) (codes "ann") (pos 10)) } } ∷ []))
    ≡ (codes "{\"call\":6,\"slots\":2,\"rerun\":1,\"redone\":[{\"slot\":2,\"because\":\"edited\"}],"
    ++ (codes "\"changed\":[{\"call\":2,\"slot\":2,\"before\":[{\"updated\":1}],\"after\":\"cancelled\"},"
    ++ (codes "{\"call\":3,\"time\":2,\"before\":[[1,\"ann\",0]],\"after\":[[1,\"ann\",10]]}],"
    ++ codes "\"diff\":[{\"table\":\"acct\",\"key\":1,\"before\":[1,\"ann\",0],\"after\":[1,\"ann\",10]}]}\n")))
unfolding digits
tried = refl

-- without edits
nothing_tried : call_text accounts nothing_forgotten 7 (answers.Trial 2 0 [] [] [])
    ≡ codes "{\"call\":7,\"slots\":2,\"rerun\":0,\"redone\":[],\"changed\":[],\"diff\":[]}\n"
unfolding digits
nothing_tried = refl
