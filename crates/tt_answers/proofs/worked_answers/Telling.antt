-- What is told of slots and of the database.
use Rattle.std.specs.Prelude.{◌≡◌, pos, [], ◌∷◌, ◌++◌, None, Some, codes, refl}
use Rattle.std.specs.Fmt.{digits}
use Rattle.tt_requests.specs.Numbers.{nothing_forgotten}
use Rattle.tt_values.specs.declared.value.Value.TheVariants as values
use Rattle.tt_values.specs.declared.statement.Change.TheVariants as changes
use Rattle.tt_values.specs.declared.statement.Write.TheVariants as writes
use Rattle.tt_values.specs.declared.reply.Reply.TheVariants as replies
use Rattle.tt_values.specs.Action.{action_of, whole_of}
use Rattle.tt_values.specs.declared.comparison.Comparison.TheVariants.{Is, AtLeast}
use Rattle.tt_grammar.proofs.worked_texts.Accounts.{accounts, account}
use Rattle.tt_answers.specs.declared.answer.Answer.TheVariants as answers
use Rattle.tt_answers.specs.AnswerText.{call_text}

slots : call_text accounts nothing_forgotten 18 (answers.Slots 4 (
    record {
      number = 1;
      worker = 1;
      stamp = None;
      slot = record { action = Some (action_of (writes.Insert 0 (account (pos 1) (codes "ann") (pos 10)) ∷ [])); replies = Some (replies.Inserted ∷ []) };
      asked = None;
    }
    ∷ record {
      number = 3;
      worker = 1;
      stamp = Some 1000;
      slot = record {
        action = Some (action_of (writes.Update 0 (changes.Add 2 (pos 1) ∷ []) (record { column = 0; how = Is; value = values.Int (pos 1) } ∷ []) ∷ []));
        replies = Some (replies.Updated 1 ∷ []);
      };
      asked = None;
    }
    ∷ []))
    ≡ (codes "{\"call\":18,\"time\":4,\"slots\":[{\"slot\":1,\"worker\":1,\"do\":[{\"insert\":\"acct\",\"row\":[1,\"ann\",10]}],\"replies\":[\"inserted\"]},"
    ++ codes "{\"slot\":3,\"worker\":1,\"stamp\":1000,\"do\":[{\"update\":\"acct\",\"change\":[[\"add\",\"bal\",1]],\"where\":[[\"id\",1]]}],\"replies\":[{\"updated\":1}]}]}\n")
unfolding digits
slots = refl

-- a slot that a repair cancelled: nothing is done, and its own action is what was asked for
cancelled : call_text accounts nothing_forgotten 19 (answers.Slots 4 (
    record {
      number = 2;
      worker = 2;
      stamp = None;
      slot = record { action = None; replies = None };
      asked = Some (action_of (writes.Update 0 (changes.Set 2 (values.Int (pos 0)) ∷ []) [] ∷ []));
    }
    ∷ []))
    ≡ (codes "{\"call\":19,\"time\":4,\"slots\":[{\"slot\":2,\"worker\":2,\"do\":null,\"replies\":null,\"asked\":[{\"update\":\"acct\",\"change\":[[\"set\","
    ++ codes "\"bal\",0]],\"where\":[]}]}]}\n")
unfolding digits
cancelled = refl

-- a slot that a repair replaced by two writes
replaced : call_text accounts nothing_forgotten 25 (answers.Slots 4 (
    record {
      number = 2;
      worker = 2;
      stamp = None;
      slot = record {
        action = Some (action_of (
            writes.Delete 0 (record { column = 1; how = Is; value = values.Text (codes "bob") } ∷ record { column = 2; how = AtLeast; value = values.Int (pos 0) } ∷ [])
            ∷ writes.Update 0 (changes.Set 1 (values.Text (codes "eve")) ∷ changes.Add 2 (pos 5) ∷ []) [] ∷ []));
        replies = Some (replies.Deleted 0 ∷ replies.Updated 2 ∷ []);
      };
      asked = Some (action_of []);
    }
    ∷ []))
    ≡ (codes "{\"call\":25,\"time\":4,\"slots\":[{\"slot\":2,\"worker\":2,\"do\":[{\"delete\":\"acct\",\"where\":[[\"owner\",\"bob\"],[\"bal\",\">=\",0]]},"
    ++ codes "{\"update\":\"acct\",\"change\":[[\"set\",\"owner\",\"eve\"],[\"add\",\"bal\",5]],\"where\":[]}],\"replies\":[{\"deleted\":0},{\"updated\":2}],"
    ++ codes "\"asked\":[]}]}\n")
unfolding digits
replaced = refl

-- a whole action
whole_slot : call_text accounts nothing_forgotten 26 (answers.Slots 4 (
    record {
      number = 1;
      worker = 1;
      stamp = None;
      slot = record { action = Some (whole_of (writes.Insert 0 (account (pos 1) (codes "ann") (pos 10)) ∷ [])); replies = Some (replies.Inserted ∷ []) };
      asked = None;
    }
    ∷ []))
    ≡ (codes "{\"call\":26,\"time\":4,\"slots\":[{\"slot\":1,\"worker\":1,\"do\":[{\"insert\":\"acct\",\"row\":[1,\"ann\",10]}],\"whole\":true,"
    ++ codes "\"replies\":[\"inserted\"]}]}\n")
unfolding digits
whole_slot = refl

-- a whole action that a repair cancelled, and one that it replaced by the same writes
asked_whole : call_text accounts nothing_forgotten 27 (answers.Slots 4 (
    record { number = 2; worker = 2; stamp = None; slot = record { action = None; replies = None }; asked = Some (whole_of []) }
    ∷ record { number = 3; worker = 1; stamp = None; slot = record { action = Some (action_of []); replies = Some [] }; asked = Some (whole_of []) }
    ∷ record { number = 4; worker = 1; stamp = None; slot = record { action = Some (whole_of []); replies = Some [] }; asked = Some (action_of []) }
    ∷ []))
    ≡ (codes "{\"call\":27,\"time\":4,\"slots\":[{\"slot\":2,\"worker\":2,\"do\":null,\"replies\":null,\"asked\":[],\"asked_whole\":true},"
    ++ codes "{\"slot\":3,\"worker\":1,\"do\":[],\"replies\":[],\"asked\":[],\"asked_whole\":true},"
    ++ codes "{\"slot\":4,\"worker\":1,\"do\":[],\"whole\":true,\"replies\":[],\"asked\":[]}]}\n")
unfolding digits
asked_whole = refl

tables : call_text accounts nothing_forgotten 21 (answers.Declared 4 100000)
    ≡ (codes "{\"call\":21,\"version\":4,\"tables\":[{\"name\":\"acct\",\"columns\":[{\"name\":\"id\",\"kind\":\"int\",\"partition\":false},{\"name\":\"owner\","
    ++ codes "\"kind\":\"text\",\"partition\":true},{\"name\":\"bal\",\"kind\":\"int\",\"partition\":false}]}],\"keep\":4,\"records\":100000}\n")
unfolding digits
tables = refl

status : call_text accounts nothing_forgotten 22 (answers.Standing (record { time = 4; generation = 1; oldest = 0; entries = 9; repair = None }))
    ≡ codes "{\"call\":22,\"time\":4,\"generation\":1,\"oldest\":0,\"entries\":9,\"repair\":null}\n"
unfolding digits
status = refl
