-- Conditions that compare.
use Rattle.std.proofs.Common.{◌≡◌, ℕ, pos, negsuc, true, false, List, [], ◌∷◌, refl}
use Rattle.tt_values.specs.declared.comparison.Comparison.TheVariants.{Is, IsNot, Below, AtMost, Above, AtLeast}
use Rattle.tt_values.specs.declared.value.Value.TheVariants as values
use Rattle.tt_values.specs.declared.statement.Equal.{Equal}
use Rattle.tt_values.specs.declared.statement.Write.{Write}
use Rattle.tt_values.specs.declared.reply.Reply.{Reply}
use Rattle.tt_values.specs.declared.reply.Reply.TheVariants.{Rows}
use Rattle.tt_values.specs.Comparison.{compares}
use Rattle.tt_values.specs.Matches.{holds, equates}
use Rattle.tt_values.specs.Effect.{answer_of}
use Rattle.tt_values.specs.RowWrites.{row_writes, content_of}
use Rattle.tt_values.proofs.worked_rows.Accounts.{ann, bob, max_int, min_int, account, id_compares, owner_compares, balance_compares, insert, select, slots_of}

-- é, in UTF-8
abbrev e_acute : List ℕ
e_acute = 195 ∷ 169 ∷ []

abbrev three : List Write
three = insert 1 ann 1 ∷ insert 2 bob 5 ∷ insert 3 e_acute 9 ∷ []

abbrev found : List Equal → Reply
found conditions = answer_of (select conditions) (content_of (slots_of three) 3)

selects :
    (found (balance_compares Above 1 ∷ []) ≡ Rows (account 2 bob 5 ∷ account 3 e_acute 9 ∷ []))
    × (found (balance_compares IsNot 5 ∷ []) ≡ Rows (account 1 ann 1 ∷ account 3 e_acute 9 ∷ []))
    × (found (owner_compares AtLeast (98 ∷ []) ∷ []) ≡ Rows (account 2 bob 5 ∷ account 3 e_acute 9 ∷ []))
    × (found (owner_compares Below (98 ∷ []) ∷ id_compares AtMost 1 ∷ []) ≡ Rows (account 1 ann 1 ∷ []))
    × (found (id_compares Above 1 ∷ id_compares Below 3 ∷ []) ≡ Rows (account 2 bob 5 ∷ []))
unfolding row_writes
selects = (refl, refl, refl, refl, refl)

-- Each comparison with a lower, the same and a greater value
ints :
    (compares Is (values.Int min_int) (values.Int min_int) ≡ true)
    × (compares IsNot (values.Int min_int) (values.Int min_int) ≡ false)
    × (compares Below (values.Int (pos 0)) (values.Int (negsuc 0)) ≡ true)
    × (compares Below (values.Int (pos 0)) (values.Int (pos 0)) ≡ false)
    × (compares AtMost (values.Int (pos 0)) (values.Int (pos 0)) ≡ true)
    × (compares AtMost (values.Int (pos 0)) (values.Int (pos 1)) ≡ false)
    × (compares Above (values.Int (pos 0)) (values.Int max_int) ≡ true)
    × (compares Above (values.Int max_int) (values.Int max_int) ≡ false)
    × (compares AtLeast (values.Int max_int) (values.Int max_int) ≡ true)
    × (compares AtLeast (values.Int max_int) (values.Int min_int) ≡ false)
ints = (refl, refl, refl, refl, refl, refl, refl, refl, refl, refl)

-- texts compare by their bytes, whatever their lengths
texts :
    (compares Below (values.Text (98 ∷ [])) (values.Text (97 ∷ 97 ∷ [])) ≡ true)
    × (compares Below (values.Text (97 ∷ 97 ∷ [])) (values.Text (98 ∷ [])) ≡ false)
    × (compares Below (values.Text (97 ∷ 97 ∷ [])) (values.Text (97 ∷ [])) ≡ true)
    × (compares Above (values.Text []) (values.Text (97 ∷ [])) ≡ true)
    × (compares AtLeast (values.Text []) (values.Text []) ≡ true)
    × (compares Above (values.Text []) (values.Text []) ≡ false)
texts = (refl, refl, refl, refl, refl, refl)

-- of two kinds only "is not" holds
kinds :
    (compares Is (values.Int (pos 1)) (values.Text []) ≡ false)
    × (compares IsNot (values.Int (pos 1)) (values.Text []) ≡ true)
    × (compares AtMost (values.Int (pos 1)) (values.Text []) ≡ false)
    × (compares AtLeast (values.Int (pos 1)) (values.Text []) ≡ false)
kinds = (refl, refl, refl, refl)

-- outside the row none holds
outside :
    (holds (record { column = 3; how = IsNot; value = values.Int (pos 1) }) (account 1 ann 1) ≡ false)
    × (holds (record { column = 3; how = AtMost; value = values.Int (pos 1) }) (account 1 ann 1) ≡ false)
outside = (refl, refl)

-- only an equality equates, also where comparisons leave one value
equated : (equates (id_compares Is 1) ≡ true) × (equates (id_compares AtMost 1) ≡ false) × (equates (id_compares AtLeast 1) ≡ false)
equated = (refl, refl, refl)
