-- A member is put in the place of its name, or beside the least unknown name so far.
use Rattle.std.proofs.Common.{[], ◌∷◌, ◌++◌, map, true, false, sym, ap, ◌∙◌, Some, refl}
use Rattle.std.specs.Option.{option_copied}
use Rattle.tt_json.specs.Value.{is_among}
use Rattle.tt_json.proofs.FindLemmas.{left-next, found-here, found-elsewhere, found-end, among-first, among-second, among-neither, not_second}
use Rattle.tt_json.proofs.LeastLemmas.{least-next, least-end}
use Rattle.tt_json.proofs.tape.find_two.Goals as goal

pub invariant_of-found_first : goal.invariant_of-found_first
invariant_of-found_first c = (left-next _ _ _ _ c.loop-name.invariant.0 c.in-Some.ensures.value).0

pub loop-name-preserved-then-is_name : goal.loop-name-preserved-then-is_name
loop-name-preserved-then-is_name c = (
  (left-next _ _ _ _ c.loop-name.invariant.0 c.in-Some.ensures.value).1,
  found-here _ _ _ _ _ _ _ c.loop-name.invariant.1 c.in-Some.ensures.value (sym c.if-is_name.ensures),
  found-elsewhere _ _ _ _ _ _ _ c.loop-name.invariant.2 c.in-Some.ensures.value (not_second c.in-Some.name.now c.args.first.now c.args.second.now c.requires.apart (sym c.if-is_name.ensures)),
  least-next (is_among (map (λ k. k.now) c.args.known.now ++ c.args.first.now ∷ c.args.second.now ∷ [])) true _ _ _ _ _ (option_copied c.loop-name.unknown) _
      c.loop-name.invariant.3 c.in-Some.ensures.value (among-first c.in-Some.name.now c.args.first.now c.args.second.now c.args.known.now (sym c.if-is_name.ensures)) refl,
)

pub invariant_of-found_second : goal.invariant_of-found_second
invariant_of-found_second c = (left-next _ _ _ _ c.loop-name.invariant.0 c.in-Some.ensures.value).0

pub loop-name-preserved-then-is_name-2 : goal.loop-name-preserved-then-is_name-2
loop-name-preserved-then-is_name-2 c = (
  (left-next _ _ _ _ c.loop-name.invariant.0 c.in-Some.ensures.value).1,
  found-elsewhere _ _ _ _ _ _ _ c.loop-name.invariant.1 c.in-Some.ensures.value (sym c.if-is_name.ensures),
  found-here _ _ _ _ _ _ _ c.loop-name.invariant.2 c.in-Some.ensures.value (sym c.if-is_name-2.ensures),
  least-next (is_among (map (λ k. k.now) c.args.known.now ++ c.args.first.now ∷ c.args.second.now ∷ [])) true _ _ _ _ _ (option_copied c.loop-name.unknown) _
      c.loop-name.invariant.3 c.in-Some.ensures.value (among-second c.in-Some.name.now c.args.first.now c.args.second.now c.args.known.now (sym c.if-is_name-2.ensures)) refl,
)

pub loop-name-preserved-then-not-is_known : goal.loop-name-preserved-then-not-is_known
loop-name-preserved-then-not-is_known c = (
  (left-next _ _ _ _ c.loop-name.invariant.0 c.in-Some.ensures.value).1,
  found-elsewhere _ _ _ _ _ _ _ c.loop-name.invariant.1 c.in-Some.ensures.value (sym c.if-is_name.ensures),
  found-elsewhere _ _ _ _ _ _ _ c.loop-name.invariant.2 c.in-Some.ensures.value (sym c.if-is_name-2.ensures),
  least-next (is_among (map (λ k. k.now) c.args.known.now ++ c.args.first.now ∷ c.args.second.now ∷ [])) false _ _ _ _ _ (option_copied c.loop-name.unknown) _
      c.loop-name.invariant.3 c.in-Some.ensures.value (among-neither c.in-Some.name.now c.args.first.now c.args.second.now c.args.known.now (sym c.if-is_name.ensures) (sym c.if-is_name-2.ensures) ∙ sym c.if-not-is_known.ensures) (ap Some c.lesser.ensures),
)

pub loop-name-preserved : goal.loop-name-preserved
loop-name-preserved c = (
  (left-next _ _ _ _ c.loop-name.invariant.0 c.in-Some.ensures.value).1,
  found-elsewhere _ _ _ _ _ _ _ c.loop-name.invariant.1 c.in-Some.ensures.value (sym c.if-is_name.ensures),
  found-elsewhere _ _ _ _ _ _ _ c.loop-name.invariant.2 c.in-Some.ensures.value (sym c.if-is_name-2.ensures),
  least-next (is_among (map (λ k. k.now) c.args.known.now ++ c.args.first.now ∷ c.args.second.now ∷ [])) true _ _ _ _ _ (option_copied c.loop-name.unknown) _
      c.loop-name.invariant.3 c.in-Some.ensures.value (among-neither c.in-Some.name.now c.args.first.now c.args.second.now c.args.known.now (sym c.if-is_name.ensures) (sym c.if-is_name-2.ensures) ∙ sym c.if-not-is_known.ensures) refl,
)

pub returns-clause-first : goal.returns-clause-first
returns-clause-first c all h = found-end _ _ _ c.next.new.self _ all c.loop-name.invariant.1 c.in_default.ensures.value h

pub returns-clause-second : goal.returns-clause-second
returns-clause-second c all h = found-end _ _ _ c.next.new.self _ all c.loop-name.invariant.2 c.in_default.ensures.value h

pub returns-clause-unknown : goal.returns-clause-unknown
returns-clause-unknown c all h =
    least-end (is_among (map (λ k. k.now) c.args.known.now ++ c.args.first.now ∷ c.args.second.now ∷ [])) _ _ c.next.new.self _ all c.loop-name.invariant.3 c.in_default.ensures.value h
