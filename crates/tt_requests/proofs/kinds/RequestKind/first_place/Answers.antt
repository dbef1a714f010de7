-- A member is put in the place of its name.
use Rattle.std.proofs.Common.{◌≡◌, arith, sym, subst, bytes_eq}
use Rattle.tt_requests.specs.Kinds.{kinds}
use Rattle.tt_requests.proofs.KindLemmas.{IsFirstSoFar, first-next, first-kept, first-end, first-of_all, found-before}
use Rattle.tt_requests.proofs.kinds.RequestKind.first_place.Goals as goal

pub returns-in-Some-eq0 : goal.returns-in-Some-eq0
returns-in-Some-eq0 c all h =
    let none : c.in-Some-eq0.field-0 ≡ 0 = grind (arith, c.in-Some-eq0.field-0-test, c.in-Some-eq0.field-0-is) in
    let next = first-next c.args.members c.loop-name.members c.next.new.self c.in-Some.field-0-1 c.in-Some.name.now c.loop-name.first c.in-Some-eq0.field-0 c.loop-name.invariant.so_far c.in-Some.ensures.value (sym c.in-Some-eq0.ensures) in
    first-of_all c.args.members c.next.new.self all (subst (IsFirstSoFar c.args.members c.next.new.self) none next) h

pub loop-name-preserved-in-Some-place_before : goal.loop-name-preserved-in-Some-place_before
loop-name-preserved-in-Some-place_before c =
    let found = sym c.in-Some-place_before.ensures in
    record {
      so_far = first-next c.args.members c.loop-name.members c.next.new.self c.in-Some.field-0-1 c.in-Some.name.now c.loop-name.first c.in-Some-place_before.place c.loop-name.invariant.so_far c.in-Some.ensures.value found;
      within = omega (arith, c.loop-name.invariant.within, found-before (λ kind. bytes_eq c.in-Some.name.now kind.0) kinds c.loop-name.first c.in-Some-place_before.place found);
    }

pub loop-name-preserved : goal.loop-name-preserved
loop-name-preserved c = record {
  so_far = first-kept c.args.members c.loop-name.members c.next.new.self c.in-Some.field-0-1 c.in-Some.name.now c.loop-name.first c.loop-name.invariant.so_far c.in-Some.ensures.value (sym c.in-None.ensures);
  within = c.loop-name.invariant.within;
}

pub returns : goal.returns
returns c all h = first-end _ _ c.next.new.self _ all c.loop-name.invariant.so_far c.in_default.ensures.value h
