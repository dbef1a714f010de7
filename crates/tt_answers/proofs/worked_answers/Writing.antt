-- Writes and reads as they are answered.
use Rattle.std.specs.Prelude.{◌≡◌, pos, negsuc, true, false, [], ◌∷◌, None, Some, codes, refl}
use Rattle.std.specs.Fmt.{digits}
use Rattle.tt_requests.specs.Numbers.{nothing_forgotten}
use Rattle.tt_values.specs.declared.reply.Reply.TheVariants as replies
use Rattle.tt_grammar.proofs.worked_texts.Accounts.{accounts, account}
use Rattle.tt_answers.specs.declared.answer.Answer.TheVariants as answers
use Rattle.tt_answers.specs.AnswerText.{opening_text, call_text}

opened : opening_text nothing_forgotten (answers.Standing (record { time = 0; generation = 0; oldest = 0; entries = 0; repair = None }))
    ≡ codes "{\"time\":0,\"generation\":0,\"oldest\":0,\"entries\":0,\"repair\":null}\n"
unfolding digits
opened = refl

inserted : call_text accounts nothing_forgotten 1 (answers.Written 1 (replies.Inserted ∷ [])) ≡ codes "{\"call\":1,\"slot\":1,\"replies\":[\"inserted\"]}\n"
unfolding digits
inserted = refl

updated : call_text accounts nothing_forgotten 2 (answers.Written 2 (replies.Updated 1 ∷ [])) ≡ codes "{\"call\":2,\"slot\":2,\"replies\":[{\"updated\":1}]}\n"
unfolding digits
updated = refl

-- an action of several writes
several : call_text accounts nothing_forgotten 5 (answers.Written 3 (replies.Duplicate ∷ replies.Deleted 2 ∷ replies.Inserted ∷ []))
    ≡ codes "{\"call\":5,\"slot\":3,\"replies\":[\"duplicate\",{\"deleted\":2},\"inserted\"]}\n"
unfolding digits
several = refl

-- an action of none
nothing : call_text accounts nothing_forgotten 16 (answers.Written 4 []) ≡ codes "{\"call\":16,\"slot\":4,\"replies\":[]}\n"
unfolding digits
nothing = refl

selected : call_text accounts nothing_forgotten 3 (answers.Selected 2 (record { rows = account (pos 1) (codes "ann") (pos 0) ∷ []; more = None }))
    ≡ codes "{\"call\":3,\"time\":2,\"rows\":[[1,\"ann\",0]]}\n"
unfolding digits
selected = refl

-- a page of two rows, behind which there is a further one
page : call_text accounts nothing_forgotten 20
    (answers.Selected 4 (record { rows = account (negsuc 0) (codes "a\"b") (pos 11) ∷ account (pos 2) [] (negsuc 9) ∷ []; more = Some true }))
    ≡ codes "{\"call\":20,\"time\":4,\"rows\":[[-1,\"a\\\"b\",11],[2,\"\",-10]],\"more\":true}\n"
unfolding digits
page = refl

last_page : call_text accounts nothing_forgotten 20 (answers.Selected 4 (record { rows = account (pos 1) (codes "ann") (pos 11) ∷ []; more = Some false }))
    ≡ codes "{\"call\":20,\"time\":4,\"rows\":[[1,\"ann\",11]],\"more\":false}\n"
unfolding digits
last_page = refl

-- a page without rows tells that none follow
empty_page : call_text accounts nothing_forgotten 21 (answers.Selected 4 (record { rows = []; more = Some false }))
    ≡ codes "{\"call\":21,\"time\":4,\"rows\":[],\"more\":false}\n"
unfolding digits
empty_page = refl
