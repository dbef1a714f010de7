-- A member is put in the place of its name.
use Rattle.std.proofs.Common.{sym}
use Rattle.tt_json.proofs.FindLemmas.{left-next, found-here, found-elsewhere, found-end}
use Rattle.tt_json.proofs.tape.find.Goals as goal

pub invariant_of-found : goal.invariant_of-found
invariant_of-found c = (left-next _ _ _ _ c.loop-name.invariant.0 c.in-Some.ensures.value).0

pub loop-name-preserved-then-is_name : goal.loop-name-preserved-then-is_name
loop-name-preserved-then-is_name c = (
  (left-next _ _ _ _ c.loop-name.invariant.0 c.in-Some.ensures.value).1,
  found-here _ _ _ _ _ _ _ c.loop-name.invariant.1 c.in-Some.ensures.value (sym c.if-is_name.ensures),
)

pub loop-name-preserved : goal.loop-name-preserved
loop-name-preserved c = (
  (left-next _ _ _ _ c.loop-name.invariant.0 c.in-Some.ensures.value).1,
  found-elsewhere _ _ _ _ _ _ _ c.loop-name.invariant.1 c.in-Some.ensures.value (sym c.if-is_name.ensures),
)

pub returns : goal.returns
returns c all h = found-end _ _ _ c.next.new.self _ all c.loop-name.invariant.1 c.in_default.ensures.value h
