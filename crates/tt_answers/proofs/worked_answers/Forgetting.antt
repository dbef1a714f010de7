-- Answers of a session that has forgotten what lies before the time 3, in its generation 2: one slot of its database is the ground.
use Rattle.std.specs.Prelude.{◌≡◌, pos, true, [], ◌∷◌, ◌++◌, None, Some, codes, refl}
use Rattle.std.specs.Fmt.{digits}
use Rattle.tt_requests.specs.Numbers.{Numbering}
use Rattle.tt_values.specs.declared.reply.Reply.TheVariants as replies
use Rattle.tt_values.specs.Action.{action_of}
use Rattle.tt_values.specs.declared.statement.Write.TheVariants as writes
use Rattle.tt_db.specs.declared.errors.DbError.TheVariants as errors
use Rattle.tt_db.specs.declared.errors.ReadError.TheVariants as read_errors
use Rattle.tt_records.specs.declared.changed.After.TheVariants as afters
use Rattle.tt_grammar.proofs.worked_texts.Accounts.{accounts, account}
use Rattle.tt_answers.specs.declared.answer.Refusal.TheVariants as refusals
use Rattle.tt_answers.specs.declared.answer.Place.TheVariants as places
use Rattle.tt_answers.specs.declared.answer.SlotCause.TheVariants as causes
use Rattle.tt_answers.specs.declared.answer.Answer.TheVariants as answers
use Rattle.tt_answers.specs.AnswerText.{opening_text, call_text}

abbrev behind : Numbering
behind = record { horizon = 3; ground_slots = 1; generations = 2 }

opened : opening_text behind (answers.Standing (record { time = 1; generation = 0; oldest = 0; entries = 1; repair = None }))
    ≡ codes "{\"time\":3,\"generation\":2,\"oldest\":2,\"entries\":1,\"repair\":null,\"horizon\":3}\n"
unfolding digits
opened = refl

-- while a repair is under way
standing : call_text accounts behind 9 (answers.Standing (record {
  time = 4;
  generation = 1;
  oldest = 0;
  entries = 9;
  repair = Some (record { progress = record { done = 2; left = 2; rerun = 1 }; worker = 1 });
}))
    ≡ (codes "{\"call\":9,\"time\":6,\"generation\":3,\"oldest\":2,\"entries\":9,\"repair\":{\"done\":4,\"left\":2,\"rerun\":1,\"worker\":1},"
    ++ codes "\"horizon\":3}\n")
unfolding digits
standing = refl

written : call_text accounts behind 10 (answers.Written 2 (replies.Inserted ∷ [])) ≡ codes "{\"call\":10,\"slot\":4,\"replies\":[\"inserted\"]}\n"
unfolding digits
written = refl

selected : call_text accounts behind 11 (answers.Selected 3 (record { rows = account (pos 1) (codes "ann") (pos 0) ∷ []; more = None }))
    ≡ codes "{\"call\":11,\"time\":5,\"rows\":[[1,\"ann\",0]]}\n"
unfolding digits
selected = refl

previewed : call_text accounts behind 12 (answers.Previewed 1 (record { rows = []; more = None })) ≡ codes "{\"call\":12,\"done\":3,\"rows\":[]}\n"
unfolding digits
previewed = refl

-- how many slots are left and how many were re-executed are counts
stepped : call_text accounts behind 13 (answers.Repairing (record { done = 3; left = 1; rerun = 2 }))
    ≡ codes "{\"call\":13,\"done\":5,\"left\":1,\"rerun\":2}\n"
unfolding digits
stepped = refl

finished : call_text accounts behind 14 (answers.Finished 1 4 2) ≡ codes "{\"call\":14,\"generation\":3,\"slots\":6,\"rerun\":2}\n"
unfolding digits
finished = refl

slots : call_text accounts behind 15 (answers.Slots 4 (
    record {
      number = 2;
      worker = 1;
      stamp = None;
      slot = record { action = Some (action_of (writes.Insert 0 (account (pos 1) (codes "ann") (pos 10)) ∷ [])); replies = Some (replies.Inserted ∷ []) };
      asked = None;
    }
    ∷ []))
    ≡ (codes "{\"call\":15,\"time\":6,\"slots\":[{\"slot\":4,\"worker\":1,\"do\":[{\"insert\":\"acct\",\"row\":[1,\"ann\",10]}],"
    ++ codes "\"replies\":[\"inserted\"]}]}\n")
unfolding digits
slots = refl

-- the calls are counted on
changed : call_text accounts behind 16 (answers.Changes 7 (
    record { worker = None; place = places.Slot 2; change = record { call = 8; before = replies.Updated 1 ∷ []; after = afters.Cancelled }; asked = None }
    ∷ record { worker = None; place = places.Time 3; change = record { call = 9; before = []; after = afters.Replies [] }; asked = None }
    ∷ []) None)
    ≡ (codes "{\"call\":16,\"from\":7,\"changed\":[{\"call\":8,\"slot\":4,\"before\":[{\"updated\":1}],\"after\":\"cancelled\"},"
    ++ codes "{\"call\":9,\"time\":5,\"before\":[],\"after\":[]}]}\n")
unfolding digits
changed = refl

forgotten : call_text accounts behind 17 (answers.Refused refusals.Forgotten) ≡ codes "{\"call\":17,\"refused\":\"forgotten\",\"horizon\":3}\n"
unfolding digits
forgotten = refl

no_log : call_text accounts behind 17 (answers.Refused refusals.Log) ≡ codes "{\"call\":17,\"refused\":\"log\"}\n"
unfolding digits
no_log = refl

-- a slot that the request names, by the number that it is told by
no_slot : call_text accounts behind 18 (answers.Refused (refusals.NoSlot (record { number = 9 })))
    ≡ codes "{\"call\":18,\"refused\":\"no slot\",\"slot\":9}\n"
unfolding digits
no_slot = refl

-- a slot that the database names, by its own number
no_own_slot : call_text accounts behind 19 (answers.Refused (refusals.Event (errors.NoSlot 9)))
    ≡ codes "{\"call\":19,\"refused\":\"no slot\",\"slot\":11}\n"
unfolding digits
no_own_slot = refl

edited_twice : call_text accounts behind 20 (answers.Refused (refusals.Event (errors.EditTwice 7)))
    ≡ codes "{\"call\":20,\"refused\":\"edited twice\",\"slot\":9}\n"
unfolding digits
edited_twice = refl

full : call_text accounts behind 21 (answers.Refused (refusals.Event (errors.Full 4000000))) ≡ codes "{\"call\":21,\"refused\":\"full\",\"limit\":4000000}\n"
unfolding digits
full = refl

no_generation : call_text accounts behind 22 (answers.Refused (refusals.Read (read_errors.NoGeneration 0 1)))
    ≡ codes "{\"call\":22,\"refused\":\"no generation\",\"oldest\":2,\"newest\":3}\n"
unfolding digits
no_generation = refl

later : call_text accounts behind 23 (answers.Refused (refusals.Read (read_errors.Later 2))) ≡ codes "{\"call\":23,\"refused\":\"later\",\"now\":4}\n"
unfolding digits
later = refl

moved : call_text accounts behind 24 (answers.Refused (refusals.Moved 4)) ≡ codes "{\"call\":24,\"refused\":\"moved\",\"now\":6}\n"
unfolding digits
moved = refl

-- why slots were re-executed
explained : call_text accounts behind 22 (answers.Causes 4 (
    record { slot = 2; cause = causes.Edited } ∷ record { slot = 4; cause = causes.Wrote (record { table = 0; key = pos 1 }) 2 } ∷ []) (Some true))
    ≡ (codes "{\"call\":22,\"done\":6,\"redone\":[{\"slot\":4,\"because\":\"edited\"},"
    ++ codes "{\"slot\":6,\"because\":\"wrote\",\"table\":\"acct\",\"key\":1,\"since\":4}],\"more\":true}\n")
unfolding digits
explained = refl

-- the rows that differ, of which only the slots done are numbered
different : call_text accounts behind 23 (answers.Differences 4 (
    record { table = 0; change = record { key = pos 1; before = None; after = Some (account (pos 1) (codes "ann") (pos 5)) } } ∷ []) None)
    ≡ codes "{\"call\":23,\"done\":6,\"diff\":[{\"table\":\"acct\",\"key\":1,\"before\":null,\"after\":[1,\"ann\",5]}]}\n"
unfolding digits
different = refl

-- what a repair would come to: its count isn't a number of a slot
tried : call_text accounts behind 24 (answers.Trial 4 1 (record { slot = 2; cause = causes.Edited } ∷ [])
    (record { worker = None; place = places.Slot 2; change = record { call = 2; before = replies.Updated 1 ∷ []; after = afters.Cancelled }; asked = None } ∷ []) [])
    ≡ (codes "{\"call\":24,\"slots\":6,\"rerun\":1,\"redone\":[{\"slot\":4,\"because\":\"edited\"}],"
    ++ codes "\"changed\":[{\"call\":2,\"slot\":4,\"before\":[{\"updated\":1}],\"after\":\"cancelled\"}],\"diff\":[]}\n")
unfolding digits
tried = refl
