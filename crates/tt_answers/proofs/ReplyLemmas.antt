-- Replies as items of an array, one after another.
use Rattle.std.proofs.Common.{◌≡◌, ℕ, suc, ◌+◌, ◌<◌, ◌==◌, ◌&&◌, Bool, List, ◌∷◌, ◌++◌, length, get_or, drop, sym, ap, ◌∙◌, arith, append_assoc}
use Rattle.std.proofs.Math.Seq.{drop-cons}
use Rattle.std.specs.List.{flat_map}
use Rattle.tt_values.specs.declared.reply.Reply.{Reply}
use Rattle.tt_grammar.specs.JsonText.{items_at}
use Rattle.tt_grammar.proofs.ItemLemmas.{items_at-append}
use Rattle.tt_answers.specs.AnswerText.{reply_items}

-- the items of the next reply, and those after it
pub items_at-reply : (replies : List Reply) (i : ℕ) (reply : Reply) (first next : Bool) (out new all : List ℕ) → i < length replies → reply ≡ get_or replies i reply
    → next ≡ (first && (length (reply_items reply) == 0)) → out ++ items_at first (flat_map reply_items (drop i replies)) ≡ all
    → new ≡ out ++ items_at first (reply_items reply) → new ++ items_at next (flat_map reply_items (drop (i + 1) replies)) ≡ all
items_at-reply replies i reply first next out new all h is e rest text =
    let after : i + 1 ≡ suc i = omega arith in
    let here : drop i replies ≡ reply ∷ drop (i + 1) replies = drop-cons replies i reply h ∙ ap (λ r. r ∷ drop (suc i) replies) (sym is) ∙ ap (λ j. reply ∷ drop j replies) (sym after) in
    let left : List (List ℕ) = flat_map reply_items (drop (i + 1) replies) in
    ap (λ t. t ++ items_at next left) text
    ∙ append_assoc out (items_at first (reply_items reply)) (items_at next left)
    ∙ ap (λ b. out ++ (items_at first (reply_items reply) ++ items_at b left)) e
    ∙ ap (λ t. out ++ t) (sym (items_at-append first (reply_items reply) left))
    ∙ ap (λ rs. out ++ items_at first (flat_map reply_items rs)) (sym here)
    ∙ rest
