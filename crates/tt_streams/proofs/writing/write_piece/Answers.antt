use Rattle.std.proofs.Common.{◌-◌, ◌++◌, length, take, drop, sym, ap, subst, ◌∙◌, arith, length-take}
use Rattle.std.proofs.Math.Seq.{take-add, take-take}
use Rattle.std.specs.Io.KnownBytes.{Appends}
use Rattle.std.proofs.KnownBytes.{Appends-trans}
use Rattle.tt_streams.proofs.writing.write_piece.Goals as goal

pub loop-written-preserved : goal.loop-written-preserved
loop-written-preserved g c =
    let written = c.loop-written.written in
    let count = c.in_ok-written.field-0 in
    let text = c.args.text.now in
    let before = c.loop-written.invariant in
    let fits = c.in_ok-written.ensures.bound in
    let length_rest = length-take (length text - written) (drop written text) in
    let joined = ap (λ l. take written text ++ l) (take-take count (length text - written) (drop written text) (omega arith)) ∙ sym (take-add written count text) in
    record {
      within = omega arith;
      appended = subst (Appends _ _) joined (Appends-trans _ _ _ _ _ before.appended c.in_ok-written.ensures.ok);
      retries = omega (arith, before.retries, c.in_ok-written.ensures.retries);
    }
