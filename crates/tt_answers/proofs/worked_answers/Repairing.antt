-- Repairs as they are answered, and what they have changed.
use Rattle.std.specs.Prelude.{◌≡◌, pos, [], ◌∷◌, ◌++◌, None, Some, codes, refl}
use Rattle.std.specs.Fmt.{digits}
use Rattle.tt_requests.specs.Numbers.{nothing_forgotten}
use Rattle.tt_values.specs.declared.reply.Reply.TheVariants as replies
use Rattle.tt_records.specs.declared.changed.After.TheVariants as afters
use Rattle.tt_grammar.proofs.worked_texts.Accounts.{accounts, account}
use Rattle.tt_answers.specs.declared.answer.Answer.TheVariants as answers
use Rattle.tt_answers.specs.declared.answer.Place.TheVariants as places
use Rattle.tt_answers.specs.AnswerText.{call_text}

begun : call_text accounts nothing_forgotten 6 (answers.Repairing (record { done = 0; left = 2; rerun = 0 }))
    ≡ codes "{\"call\":6,\"done\":0,\"left\":2,\"rerun\":0}\n"
unfolding digits
begun = refl

stepped : call_text accounts nothing_forgotten 7 (answers.Repairing (record { done = 1; left = 1; rerun = 0 }))
    ≡ codes "{\"call\":7,\"done\":1,\"left\":1,\"rerun\":0}\n"
unfolding digits
stepped = refl

previewed : call_text accounts nothing_forgotten 8 (answers.Previewed 1 (record { rows = account (pos 1) (codes "ann") (pos 10) ∷ []; more = None }))
    ≡ codes "{\"call\":8,\"done\":1,\"rows\":[[1,\"ann\",10]]}\n"
unfolding digits
previewed = refl

unchanged : call_text accounts nothing_forgotten 11 (answers.Changes 1 [] None) ≡ codes "{\"call\":11,\"from\":1,\"changed\":[]}\n"
unfolding digits
unchanged = refl

finished : call_text accounts nothing_forgotten 12 (answers.Finished 1 3 2) ≡ codes "{\"call\":12,\"generation\":1,\"slots\":3,\"rerun\":2}\n"
unfolding digits
finished = refl

changed : call_text accounts nothing_forgotten 13 (answers.Changes 1 (
    record { worker = None; place = places.Slot 2; change = record { call = 2; before = replies.Updated 1 ∷ []; after = afters.Cancelled }; asked = None }
    ∷ record {
      worker = None;
      place = places.Time 2;
      change = record {
        call = 3;
        before = replies.Rows (account (pos 1) (codes "ann") (pos 0) ∷ []) ∷ [];
        after = afters.Replies (replies.Rows (account (pos 1) (codes "ann") (pos 10) ∷ []) ∷ []);
      };
      asked = None;
    }
    ∷ []) None)
    ≡ (codes "{\"call\":13,\"from\":1,\"changed\":[{\"call\":2,\"slot\":2,\"before\":[{\"updated\":1}],\"after\":\"cancelled\"},"
    ++ codes "{\"call\":3,\"time\":2,\"before\":[[1,\"ann\",0]],\"after\":[[1,\"ann\",10]]}]}\n")
unfolding digits
changed = refl

-- while a repair is under way
standing : call_text accounts nothing_forgotten 9 (answers.Standing (record {
  time = 3;
  generation = 1;
  oldest = 0;
  entries = 7;
  repair = Some (record { progress = record { done = 1; left = 2; rerun = 1 }; worker = 7 });
}))
    ≡ codes "{\"call\":9,\"time\":3,\"generation\":1,\"oldest\":0,\"entries\":7,\"repair\":{\"done\":1,\"left\":2,\"rerun\":1,\"worker\":7}}\n"
unfolding digits
standing = refl
