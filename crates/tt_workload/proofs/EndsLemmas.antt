-- The cases of a document's bytes: too many of them, no JSON, or a value. And the bytes that reads give, one after another.
use Rattle.std.proofs.Common.{◌≡◌, ℕ, ◌-◌, ◌<◌, ◌≤◌, min, true, false, List, ◌++◌, length, length-append, length-take, take, drop, take_all, take_at, append-nil, Option, None, Some, IfSome, refl, sym, ap, subst, ◌∙◌, arith}
use Rattle.std.specs.Prelude.{codes}
use Rattle.std.specs.Str.{IsUtf8, is_utf8}
use Rattle.std.proofs.lemmas.List.{take-append-le}
use Rattle.std.proofs.lemmas.Bool.{lt-ltb, le-ltb}
use Rattle.std.proofs.lemmas.Str.{IsUtf8-from_is_utf8, is_utf8-from_IsUtf8}
use Rattle.std.specs.Io.KnownBytes.{Consumes, IsAtEnd}
use Rattle.std.proofs.KnownBytes.{Consumes-trans}
use Rattle.tt_grammar.specs.Fault.{document_fault}
use Rattle.std.specs.Prelude.{Err}
use Rattle.tt_grammar.specs.TextValue.{json_of_bytes}
use Rattle.tt_document.specs.Document.{document_of_text}
use Rattle.tt_workload.specs.Ends.{max_document_bytes, document_of_bytes, ConsumesAtMost}

pub document_of_bytes-long : (bytes : List ℕ) → max_document_bytes < length bytes → document_of_bytes bytes ≡ Err (document_fault (codes "longer than 16777216 bytes"))
unfolding document_of_bytes
document_of_bytes-long bytes long = rw (lt-ltb max_document_bytes (length bytes) long) refl

pub json_of_bytes-none : (bytes : List ℕ) → ¬ (IsUtf8 bytes) → json_of_bytes bytes ≡ None
json_of_bytes-none bytes no_text = elim (is_utf8 bytes) as (λ b. is_utf8 bytes ≡ b → json_of_bytes bytes ≡ None) [ true ↦ λ e. absurd (no_text (IsUtf8-from_is_utf8 bytes e)) | false ↦ λ e. rw e refl ] refl

pub document_of_bytes-no_text : (bytes : List ℕ) → length bytes ≤ max_document_bytes → ¬ (IsUtf8 bytes) → document_of_bytes bytes ≡ Err (document_fault (codes "not JSON"))
unfolding document_of_bytes
document_of_bytes-no_text bytes short no_text = rw (le-ltb max_document_bytes (length bytes) short, json_of_bytes-none bytes no_text) refl

pub document_of_bytes-text : (bytes : List ℕ) → length bytes ≤ max_document_bytes → IsUtf8 bytes → document_of_bytes bytes ≡ document_of_text bytes
unfolding document_of_bytes
document_of_bytes-text bytes short text = rw (le-ltb max_document_bytes (length bytes) short, is_utf8-from_IsUtf8 bytes text) refl

pub ruleset document_cases = (document_of_bytes-long, document_of_bytes-no_text, document_of_bytes-text)

-- ---- the bytes that a reader gives

-- all of them, where the reader is at its end
pub whole_read : (a b : Option (List ℕ)) (bs : List ℕ) (n : ℕ) → length bs ≤ n → Consumes a b bs → IsAtEnd b → IfSome a (λ xs. bs ≡ take n xs)
whole_read None b bs n few p e = tt
whole_read (Some x) None bs n few p e = absurd p
whole_read (Some x) (Some y) bs n few p e = sym (take_all n bs few) ∙ ap (take n) (sym (p ∙ ap (λ l. bs ++ l) e ∙ append-nil bs))

-- as many as are to be read
pub full_read : (a b : Option (List ℕ)) (bs : List ℕ) (n : ℕ) → length bs ≡ n → Consumes a b bs → IfSome a (λ xs. bs ≡ take n xs)
full_read None b bs n full p = tt
full_read (Some x) None bs n full p = absurd p
full_read (Some x) (Some y) bs n full p = sym (ap (take n) p ∙ take_at bs y n full)

-- two reads, one after the other
pub further_read : (a b c : Option (List ℕ)) (bs more new : List ℕ) → new ≡ bs ++ more → Consumes a b bs → Consumes b c more → Consumes a c new
further_read a b c bs more new e p q = subst (Consumes a c) (sym e) (Consumes-trans a b c bs more p q)

pub ConsumesAtMost-all : (n : ℕ) (a b : Option (List ℕ)) (bs : List ℕ) → length bs ≤ n → Consumes a b bs → ConsumesAtMost n a b
ConsumesAtMost-all n a b bs few p = record { bytes = bs; consumed = p; short = few }

-- what was consumed, where the bytes are known
pub consumed_bytes : (a b : Option (List ℕ)) (bs : List ℕ) (n : ℕ) → Consumes a b bs → IfSome a (λ xs. bs ≡ take n xs) → IfSome a (λ xs. Consumes (Some xs) b (take n xs))
consumed_bytes None b bs n p e = tt
consumed_bytes (Some x) b bs n p e = subst (Consumes (Some x) b) e p

-- ---- one read more, into the part of the buffer that there is room for

-- that part is not empty, where more bytes may be read
pub room_left : (bs buffer : List ℕ) (room n : ℕ) → length bs < n → 0 < length buffer → room ≡ min (length buffer) (n - length bs) → 0 < length (take room buffer)
room_left bs buffer room n more some e = omega (arith, length-take room buffer)

-- a read filled that part, and its bytes were put behind those so far, of which there may be n
pub record IsRead (bs buffer piece new : List ℕ) (room count n : ℕ) : Type 0 where
  pub more : length bs < n
  pub room_is : room ≡ min (length buffer) (n - length bs)
  pub fills : length piece ≡ length (take room buffer)
  pub within : count ≤ length piece
  pub longer : new ≡ bs ++ take count (piece ++ drop room buffer)

-- with what the read gave, the bytes are not too many, and are those that the reader lost
pub read_more : (a b c : Option (List ℕ)) (bs buffer piece new : List ℕ) (room count n : ℕ) → IsRead bs buffer piece new room count n
    → Consumes a b bs → Consumes b c (take count piece) → (length new ≤ n) × Consumes a c new
read_more a b c bs buffer piece new room count n read p q =
    let taken = read.longer ∙ ap (λ l. bs ++ l) (take-append-le count piece (drop room buffer) read.within) in
    (omega (arith, read.more, read.room_is, read.fills, read.within, ap length taken, length-append bs (take count piece), length-take count piece, length-take room buffer), further_read a b c bs (take count piece) new taken p q)
