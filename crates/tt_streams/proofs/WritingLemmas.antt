-- Prefixes of a text that is written in pieces.
use Rattle.std.proofs.Common.{ℕ, ◌+◌, ◌≤◌, min, List, ◌++◌, length, take, Option, sym, subst, ◌∙◌, arith}
use Rattle.std.proofs.Math.Seq.{take-append-add}
use Rattle.std.proofs.lemmas.List.{take_min, take-append-le}
use Rattle.std.specs.Io.KnownBytes.{Appends}
use Rattle.std.proofs.KnownBytes.{Appends-trans}
use Rattle.tt_streams.specs.Writing.{AppendsPrefix}

-- a text, and a prefix of the next one
pub prefix-after : (a b c : Option (List ℕ)) (text more : List ℕ) → Appends a b text → AppendsPrefix b c more → AppendsPrefix a c (text ++ more)
prefix-after a b c text more p q = record {
  count = length text + q.count;
  appended = subst (Appends a c) (sym (take-append-add text more q.count)) (Appends-trans a b c text (take q.count more) p q.appended);
}

-- a prefix of a text, and none of the next one
pub prefix-longer : (a b : Option (List ℕ)) (text more : List ℕ) → AppendsPrefix a b text → AppendsPrefix a b (text ++ more)
prefix-longer a b text more p =
    let count = min p.count (length text) in
    let few : count ≤ length text = omega arith in
    record { count = count; appended = subst (Appends a b) (sym (take_min p.count text) ∙ sym (take-append-le count text more few)) p.appended }
