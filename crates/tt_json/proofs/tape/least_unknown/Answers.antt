-- A name that isn't known is put beside the least one so far.
use Rattle.std.proofs.Common.{true, false, Some, sym, ap, refl}
use Rattle.std.specs.List.{list_any}
use Rattle.std.specs.Option.{option_copied}
use Rattle.std.specs.Str.{bytes_eq}
use Rattle.tt_json.proofs.LeastLemmas.{least-next, least-end}
use Rattle.tt_json.proofs.tape.least_unknown.Goals as goal

pub loop-name-preserved-then-not-is_known : goal.loop-name-preserved-then-not-is_known
loop-name-preserved-then-not-is_known c =
    least-next (λ name. list_any (λ k. bytes_eq name k.now) c.args.known.now) false _ _ _ _ _ (option_copied c.loop-name.least) _
    c.loop-name.invariant c.in-Some.ensures.value (sym c.if-not-is_known.ensures) (ap Some c.lesser.ensures)

pub loop-name-preserved : goal.loop-name-preserved
loop-name-preserved c =
    least-next (λ name. list_any (λ k. bytes_eq name k.now) c.args.known.now) true _ _ _ _ _ (option_copied c.loop-name.least) _
    c.loop-name.invariant c.in-Some.ensures.value (sym c.if-not-is_known.ensures) refl

pub returns : goal.returns
returns c all h =
    least-end (λ name. list_any (λ k. bytes_eq name k.now) c.args.known.now) _ _ c.next.new.self _ all c.loop-name.invariant c.in_default.ensures.value h
