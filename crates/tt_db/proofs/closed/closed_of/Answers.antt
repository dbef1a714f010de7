-- The generation reached has the number, or those behind it are left.
use Rattle.std.proofs.Common.{◌≡◌, ◌==◌, true, false, slice_get, Some, option_map, sym, ap, ◌∙◌, arith}
use Rattle.std.proofs.lemmas.Bool.Decides.{nat_tests}
use Rattle.std.specs.Option.{option_copied}
use Rattle.tt_db.specs.ClosedGenerations.{KeptGeneration}
use Rattle.tt_db.proofs.ClosedLemmas.{find-passes, find-fails}
use Rattle.tt_db.proofs.closed.closed_of.Goals as goal

pub returns-then-number : goal.returns-then-number
returns-then-number c =
    let closed = c.args.closed.now in
    let x = c.in-Some.generation.now in
    let at : slice_get closed c.loop-position.position ≡ Some x = sym c.get.ensures ∙ ap option_copied c.in-Some.is in
    let number : x.number ≡ c.args.number = sym c.number.ensures ∙ c.if-number.true in
    let passes : (x.number == c.args.number) ≡ true = grind (arith, nat_tests) in
    ap Some c.generations.ensures
    ∙ ap (option_map (λ (g : KeptGeneration). g.generations)) (sym (c.loop-position.invariant ∙ find-passes (λ g. g.number == c.args.number) closed c.loop-position.position x at passes))

pub loop-position-preserved : goal.loop-position-preserved
loop-position-preserved c =
    let closed = c.args.closed.now in
    let x = c.in-Some.generation.now in
    let at : slice_get closed c.loop-position.position ≡ Some x = sym c.get.ensures ∙ ap option_copied c.in-Some.is in
    let fails : (x.number == c.args.number) ≡ false = grind (arith, nat_tests, c.number.ensures, c.if-number.false) in
    c.loop-position.invariant ∙ find-fails (λ g. g.number == c.args.number) closed c.loop-position.position x at fails
