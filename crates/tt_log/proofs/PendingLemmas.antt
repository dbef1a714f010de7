-- Lines that wait to be written.
use Rattle.std.proofs.Common.{◌≡◌, ◌≢◌, ℕ, zero, suc, ◌<◌, List, [], ◌∷◌, ◌++◌, length, slice_index, take, refl, sym, ◌∙◌, ap, subst, arith, append_assoc, length-append}
use Rattle.std.proofs.lemmas.List.{append-nil, take_at}
use Rattle.tt_log.specs.Lines.{logged, joined, IsJoined, IsLine, AreLines}
use Rattle.tt_log.proofs.LineLemmas.{logged-joined, joined-append, AreLines-append, AreLines-logged}

pub logged-lines : (lines : List (List ℕ)) → AreLines lines → logged (joined lines) ≡ lines
logged-lines lines are = ap logged (sym (append-nil (joined lines))) ∙ logged-joined lines [] are ∙ append-nil lines

pub IsJoined-joined : (bytes : List ℕ) (lines : List (List ℕ)) → AreLines lines → bytes ≡ joined lines → IsJoined bytes
IsJoined-joined bytes lines are is = is ∙ ap joined (sym (ap logged is ∙ logged-lines lines are))

module _ (bytes line : List ℕ) (waits : IsJoined bytes) (is : IsLine line) where
  one_more : (bytes ++ line) ++ 10 ∷ [] ≡ joined (logged bytes ++ line ∷ [])
  one_more =
      append_assoc bytes line (10 ∷ [])
      ∙ ap (λ (l : List ℕ). l ++ (line ++ 10 ∷ [])) waits
      ∙ sym (joined-append (logged bytes) (line ∷ []))

  are : AreLines (logged bytes ++ line ∷ [])
  are = AreLines-append (logged bytes) (line ∷ []) (AreLines-logged bytes) (is, tt)

  pub appended : (after : List ℕ) → after ≡ (bytes ++ line) ++ 10 ∷ [] → logged after ≡ logged bytes ++ line ∷ []
  appended after is_after = ap logged (is_after ∙ one_more) ∙ logged-lines (logged bytes ++ line ∷ []) are

  pub appended_joined : (after : List ℕ) → after ≡ (bytes ++ line) ++ 10 ∷ [] → IsJoined after
  appended_joined after is_after = IsJoined-joined after (logged bytes ++ line ∷ []) are (is_after ∙ one_more)

-- a line by its bytes
pub line_if_each : (line : List ℕ) → ((k : ℕ) → k < length line → (slice_index line k ≢ 0) × (slice_index line k ≢ 10)) → IsLine line
line_if_each [] each = tt
line_if_each (b ∷ line) each = let here = each 0 (omega arith) in (here.0, here.1, line_if_each line (λ k few. each (suc k) (omega (arith, few))))

pub each_of_line : (line : List ℕ) → IsLine line → (k : ℕ) → k < length line → (slice_index line k ≢ 0) × (slice_index line k ≢ 10)
each_of_line [] is k few = absurd (omega arith)
each_of_line (b ∷ line) is zero few = (is.0, is.1)
each_of_line (b ∷ line) is (suc k) few = each_of_line line is.2 k (omega (arith, few))

pub no_lines : (lines : List (List ℕ)) → length (joined lines) ≡ 0 → lines ≡ []
no_lines [] none = refl
no_lines (line ∷ lines) none = absurd (omega (arith, none, length-append line (10 ∷ joined lines)))

-- further lines
pub joined_more : (bytes more : List ℕ) → IsJoined bytes → IsJoined more → logged (bytes ++ more) ≡ logged bytes ++ logged more
joined_more bytes more waits follow =
    ap logged ((λ j. waits j ++ follow j) ∙ sym (joined-append (logged bytes) (logged more)))
    ∙ logged-lines (logged bytes ++ logged more) (AreLines-append (logged bytes) (logged more) (AreLines-logged bytes) (AreLines-logged more))

pub joined_more_is : (bytes more : List ℕ) → IsJoined bytes → IsJoined more → IsJoined (bytes ++ more)
joined_more_is bytes more waits follow =
    (λ j. waits j ++ follow j) ∙ sym (joined-append (logged bytes) (logged more)) ∙ ap joined (sym (joined_more bytes more waits follow))

-- the first lines
pub joined_front : (bytes : List ℕ) (n : ℕ) (kept more : List (List ℕ)) → IsJoined bytes → logged bytes ≡ kept ++ more → n ≡ length (joined kept) → logged (take n bytes) ≡ kept
joined_front bytes n kept more waits are is =
    ap logged (ap (take n) (waits ∙ ap joined are ∙ joined-append kept more) ∙ take_at (joined kept) (joined more) n (sym is))
    ∙ logged-lines kept (are_first kept more (subst AreLines are (AreLines-logged bytes)))
  where
    are_first : (first second : List (List ℕ)) → AreLines (first ++ second) → AreLines first
    are_first [] second are = tt
    are_first (line ∷ first) second are = (are.0, are_first first second are.1)

pub joined_front_is : (bytes : List ℕ) (n : ℕ) (kept more : List (List ℕ)) → IsJoined bytes → logged bytes ≡ kept ++ more → n ≡ length (joined kept) → IsJoined (take n bytes)
joined_front_is bytes n kept more waits are is =
    ap (take n) (waits ∙ ap joined are ∙ joined-append kept more)
    ∙ take_at (joined kept) (joined more) n (sym is)
    ∙ ap joined (sym (joined_front bytes n kept more waits are is))
