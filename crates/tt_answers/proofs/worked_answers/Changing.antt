-- Changed replies, as they are answered.
use Rattle.std.specs.Prelude.{◌≡◌, pos, true, false, [], ◌∷◌, ◌++◌, None, Some, codes, refl}
use Rattle.std.specs.Fmt.{digits}
use Rattle.tt_requests.specs.Numbers.{nothing_forgotten}
use Rattle.tt_values.specs.declared.value.Value.TheVariants as values
use Rattle.tt_values.specs.declared.statement.Change.TheVariants as changes
use Rattle.tt_values.specs.declared.statement.Write.TheVariants as writes
use Rattle.tt_values.specs.declared.reply.Reply.TheVariants as replies
use Rattle.tt_values.specs.declared.comparison.Comparison.TheVariants.{Is, AtLeast}
use Rattle.tt_values.specs.Action.{action_of, whole_of}
use Rattle.tt_records.specs.declared.changed.After.TheVariants as afters
use Rattle.tt_grammar.proofs.worked_texts.Accounts.{accounts, account}
use Rattle.tt_answers.specs.declared.answer.Answer.TheVariants as answers
use Rattle.tt_answers.specs.declared.answer.AskedFor.TheVariants as asked
use Rattle.tt_answers.specs.declared.answer.Place.TheVariants as places
use Rattle.tt_answers.specs.AnswerText.{call_text}

-- a write that was cancelled, and a select whose rows are others, told in full
in_full : call_text accounts nothing_forgotten 10 (answers.Changes 1 (
    record {
      worker = Some 2;
      place = places.Slot 2;
      change = record { call = 2; before = replies.Updated 1 ∷ []; after = afters.Cancelled };
      asked = Some (asked.Action (action_of (writes.Update 0 (changes.Set 2 (values.Int (pos 0)) ∷ []) [] ∷ [])));
    }
    ∷ record {
      worker = Some 3;
      place = places.Time 2;
      change = record {
        call = 3;
        before = replies.Rows (account (pos 1) (codes "ann") (pos 0) ∷ []) ∷ [];
        after = afters.Replies (replies.Rows (account (pos 1) (codes "ann") (pos 10) ∷ []) ∷ []);
      };
      asked = Some (asked.Select (record { table = 0; equals = record { column = 1; how = Is; value = values.Text (codes "ann") } ∷ [] }));
    }
    ∷ []) None)
    ≡ (codes "{\"call\":10,\"from\":1,\"changed\":[{\"call\":2,\"worker\":2,\"slot\":2,\"before\":[{\"updated\":1}],\"after\":\"cancelled\","
    ++ codes "\"do\":[{\"update\":\"acct\",\"change\":[[\"set\",\"bal\",0]],\"where\":[]}]},{\"call\":3,\"worker\":3,\"time\":2,"
    ++ codes "\"before\":[[1,\"ann\",0]],\"after\":[[1,\"ann\",10]],\"select\":\"acct\",\"where\":[[\"owner\",\"ann\"]]}]}\n")
unfolding digits
in_full = refl

-- a whole action, and a select with a comparison and with no rows
whole_in_full : call_text accounts nothing_forgotten 11 (answers.Changes 4 (
    record {
      worker = Some 1;
      place = places.Slot 1;
      change = record { call = 4; before = []; after = afters.Replies (replies.Inserted ∷ []) };
      asked = Some (asked.Action (whole_of []));
    }
    ∷ record {
      worker = Some 1;
      place = places.Time 1;
      change = record { call = 5; before = replies.Rows [] ∷ []; after = afters.Replies (replies.Rows [] ∷ []) };
      asked = Some (asked.Select (record { table = 0; equals = record { column = 2; how = AtLeast; value = values.Int (pos 7) } ∷ [] }));
    }
    ∷ []) (Some true))
    ≡ (codes "{\"call\":11,\"from\":4,\"changed\":[{\"call\":4,\"worker\":1,\"slot\":1,\"before\":[],\"after\":[\"inserted\"],\"do\":[],\"whole\":true},"
    ++ codes "{\"call\":5,\"worker\":1,\"time\":1,\"before\":[],\"after\":[],\"select\":\"acct\",\"where\":[[\"bal\",\">=\",7]]}],\"more\":true}\n")
unfolding digits
whole_in_full = refl

-- none, and one that isn't told in full
in_short : (call_text accounts nothing_forgotten 13 (answers.Changes 1 [] None) ≡ codes "{\"call\":13,\"from\":1,\"changed\":[]}\n")
    × (call_text accounts nothing_forgotten 12 (answers.Changes 1 (
    record {
      worker = None;
      place = places.Slot 2;
      change = record { call = 2; before = replies.Updated 1 ∷ []; after = afters.Cancelled };
      asked = None;
    }
    ∷ []) (Some false))
    ≡ codes "{\"call\":12,\"from\":1,\"changed\":[{\"call\":2,\"slot\":2,\"before\":[{\"updated\":1}],\"after\":\"cancelled\"}],\"more\":false}\n")
unfolding digits
in_short = (refl, refl)
