-- the digest so far, carried on over the bytes that are left, is that of all bytes
use Rattle.std.proofs.Common.{◌≡◌, ◌+◌, ◌*◌, ◌%◌, ◌<◌, fold, drop}
use Rattle.tt_values.specs.Digest.{text_digest}
use Rattle.tt_values.proofs.digests.text_digest.Given as goal

abbrev pub invariant-loop-byte : goal.invariant-loop-byte
invariant-loop-byte l = record {
  digest : fold (λ d b. (d * 257 + b) % 36028797018963968) l.digest (drop l.byte-index l.bytes) ≡ text_digest l.bytes;
  small : l.digest < 36028797018963968;
}
