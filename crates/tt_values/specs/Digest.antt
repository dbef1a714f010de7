-- Digests: numbers that stand for values in an index. Two values may have the same digest.
use Rattle.std.specs.Prelude.{ℕ, ◌+◌, ◌*◌, ◌%◌, ℤ, pos, List, fold}
use Rattle.tt_values.specs.declared.value.Value.{Value}
use Rattle.tt_values.specs.declared.value.Value.TheVariants as values

-- the digest of a text, by its bytes
unfoldable pub text_digest : List ℕ → ℕ
text_digest bytes = fold (λ d b. (d * 257 + b) % 36028797018963968) 0 bytes

-- the digest of a value
abbrev pub digest_of : Value → ℤ
digest_of (values.Int n) = n
digest_of (values.Text t) = pos (text_digest t)
