-- Refusals and faults as they are answered.
use Rattle.std.specs.Prelude.{◌≡◌, ◌++◌, codes, refl}
use Rattle.std.specs.Fmt.{digits}
use Rattle.tt_requests.specs.Numbers.{nothing_forgotten}
use Rattle.tt_db.specs.declared.errors.DbError.TheVariants as errors
use Rattle.tt_db.specs.declared.errors.ReadError.TheVariants as read_errors
use Rattle.tt_grammar.specs.declared.fault.DocFault.TheVariants as faults
use Rattle.tt_grammar.proofs.worked_texts.Accounts.{accounts}
use Rattle.tt_answers.specs.declared.answer.Refusal.TheVariants as refusals
use Rattle.tt_answers.specs.declared.answer.Answer.TheVariants as answers
use Rattle.tt_answers.specs.RefusalText.{too_long}
use Rattle.tt_answers.specs.AnswerText.{opening_text, call_text}

later : call_text accounts nothing_forgotten 4 (answers.Refused (refusals.Read (read_errors.Later 2))) ≡ codes "{\"call\":4,\"refused\":\"later\",\"now\":2}\n"
unfolding digits
later = refl

no_slot : call_text accounts nothing_forgotten 5 (answers.Refused (refusals.Event (errors.NoSlot 9)))
    ≡ codes "{\"call\":5,\"refused\":\"no slot\",\"slot\":9}\n"
unfolding digits
no_slot = refl

not_repairing : call_text accounts nothing_forgotten 15 (answers.Refused (refusals.Event errors.NotRepairing))
    ≡ codes "{\"call\":15,\"refused\":\"not repairing\"}\n"
unfolding digits
not_repairing = refl

repair_of_another : call_text accounts nothing_forgotten 16 (answers.Refused (refusals.RepairOfAnother 2))
    ≡ codes "{\"call\":16,\"refused\":\"repair of another\",\"worker\":2}\n"
unfolding digits
repair_of_another = refl

-- a preview is refused by the same words
no_preview : call_text accounts nothing_forgotten 15 (answers.Refused (refusals.Read read_errors.NotRepairing))
    ≡ codes "{\"call\":15,\"refused\":\"not repairing\"}\n"
unfolding digits
no_preview = refl

moved : call_text accounts nothing_forgotten 17 (answers.Refused (refusals.Moved 4)) ≡ codes "{\"call\":17,\"refused\":\"moved\",\"now\":4}\n"
unfolding digits
moved = refl

no_generation : call_text accounts nothing_forgotten 30 (answers.Refused (refusals.Read (read_errors.NoGeneration 1 5)))
    ≡ codes "{\"call\":30,\"refused\":\"no generation\",\"oldest\":1,\"newest\":5}\n"
unfolding digits
no_generation = refl

repairing : call_text accounts nothing_forgotten 31 (answers.Refused (refusals.Event errors.Repairing)) ≡ codes "{\"call\":31,\"refused\":\"repairing\"}\n"
unfolding digits
repairing = refl

edited_twice : call_text accounts nothing_forgotten 32 (answers.Refused (refusals.Event (errors.EditTwice 7)))
    ≡ codes "{\"call\":32,\"refused\":\"edited twice\",\"slot\":7}\n"
unfolding digits
edited_twice = refl

full : call_text accounts nothing_forgotten 33 (answers.Refused (refusals.Event (errors.Full 4000000)))
    ≡ codes "{\"call\":33,\"refused\":\"full\",\"limit\":4000000}\n"
unfolding digits
full = refl

memory : call_text accounts nothing_forgotten 34 answers.OutOfMemory ≡ codes "{\"call\":34,\"refused\":\"memory\"}\n"
unfolding digits
memory = refl

-- a read that found no memory is answered by the same words
read_memory : call_text accounts nothing_forgotten 34 (answers.Refused (refusals.Read read_errors.Memory)) ≡ codes "{\"call\":34,\"refused\":\"memory\"}\n"
unfolding digits
read_memory = refl

opening_memory : opening_text nothing_forgotten answers.OutOfMemory ≡ codes "{\"refused\":\"memory\"}\n"
opening_memory = refl

fault : call_text accounts nothing_forgotten 10 (answers.Faulty (faults.At (codes "$") (codes "row of the wrong width")))
    ≡ codes "{\"call\":10,\"fault\":{\"path\":\"$\",\"cause\":\"row of the wrong width\"}}\n"
unfolding digits
fault = refl

-- a name in quotes is quoted once more
unknown_member : call_text accounts nothing_forgotten 23 (answers.Faulty (faults.At (codes "$") (codes "unknown member \"x\\n\"")))
    ≡ codes "{\"call\":23,\"fault\":{\"path\":\"$\",\"cause\":\"unknown member \\\"x\\\\n\\\"\"}}\n"
unfolding digits
unknown_member = refl

no_kind : call_text accounts nothing_forgotten 24 (answers.Faulty (faults.At (codes "$")
    (codes "missing one of insert, update, delete, select, preview, do, begin, step, finish, abort, status, slots, changes, tables")))
    ≡ (codes "{\"call\":24,\"fault\":{\"path\":\"$\",\"cause\":\"missing one of insert, update, delete, select, preview, do, begin, step, finish,"
    ++ codes " abort, status, slots, changes, tables\"}}\n")
unfolding digits
no_kind = refl

long_line : call_text accounts nothing_forgotten 35 (answers.Faulty too_long)
    ≡ codes "{\"call\":35,\"fault\":{\"path\":\"$\",\"cause\":\"longer than 16777216 bytes\"}}\n"
unfolding digits
long_line = refl

unopened : opening_text nothing_forgotten (answers.Faulty (faults.At (codes "$.keep") (codes "out of range")))
    ≡ codes "{\"fault\":{\"path\":\"$.keep\",\"cause\":\"out of range\"}}\n"
unopened = refl
