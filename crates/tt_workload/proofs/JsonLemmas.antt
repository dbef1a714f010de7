-- The lines of a report as JSON, piece by piece.
use Rattle.std.proofs.Common.{◌≡◌, ℕ, List, [], ◌++◌, ap, ◌∙◌, append_assoc, append-nil}

-- a line of two numbers
pub numbers-line : (out one two all label_1 number_1 label_2 number_2 close feed : List ℕ) → one ≡ out ++ (label_1 ++ number_1) → two ≡ one ++ (label_2 ++ number_2)
    → all ≡ two ++ (close ++ feed) → all ≡ out ++ (label_1 ++ (((number_1 ++ (label_2 ++ (number_2 ++ []))) ++ close) ++ feed))
numbers-line out one two all label_1 number_1 label_2 number_2 close feed p q r =
    r ∙ ap (λ o. o ++ (close ++ feed)) (q ∙ ap (λ o. o ++ (label_2 ++ number_2)) p) ∙ simp (append_assoc, append-nil)

-- a line of two numbers and more members
pub numbers-members-line : (out one two three all label_1 number_1 label_2 number_2 members close feed : List ℕ) → one ≡ out ++ (label_1 ++ number_1)
    → two ≡ one ++ (label_2 ++ number_2) → three ≡ two ++ members → all ≡ three ++ (close ++ feed)
    → all ≡ out ++ (label_1 ++ (((number_1 ++ (label_2 ++ (number_2 ++ members))) ++ close) ++ feed))
numbers-members-line out one two three all label_1 number_1 label_2 number_2 members close feed p q r s =
    s ∙ ap (λ o. o ++ (close ++ feed)) (r ∙ ap (λ o. o ++ members) (q ∙ ap (λ o. o ++ (label_2 ++ number_2)) p)) ∙ simp append_assoc

-- two values behind a label, each with its name
pub values-behind : (out one two three all label name_1 value_1 name_2 value_2 : List ℕ) → one ≡ out ++ label → two ≡ one ++ (name_1 ++ value_1) → three ≡ two ++ name_2
    → all ≡ three ++ value_2 → all ≡ out ++ (label ++ (name_1 ++ (value_1 ++ (name_2 ++ (value_2 ++ [])))))
values-behind out one two three all label name_1 value_1 name_2 value_2 p q r s =
    s ∙ ap (λ o. o ++ value_2) (r ∙ ap (λ o. o ++ name_2) (q ∙ ap (λ o. o ++ (name_1 ++ value_1)) p)) ∙ simp (append_assoc, append-nil)
