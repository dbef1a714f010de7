-- The numbers of a database are told exactly.
use Rattle.std.proofs.Common.{◌≡◌, ℕ, ◌+◌, ◌-◌, ◌<◌, ◌≤◌, min, false, nat_lt, cond, None, Some, ap, ◌∙◌, arith}
use Rattle.std.proofs.lemmas.Bool.Decides.{nat_tests}
use Rattle.tt_requests.specs.Numbers.{number_limit, max_told}
use Rattle.tt_requests.specs.NumberLaws.{IsToldExactly, NumbersAreToldExactly}

-- a sum of a number up to the limit and one below it isn't cut off
exact : (own more : ℕ) → own ≤ number_limit → more < number_limit → min (own + more) max_told ≡ own + more
exact own more few fewer = omega (arith, few, fewer)

-- it isn't below what was added
no-less : (own more : ℕ) → nat_lt (own + more) more ≡ false
no-less own more = grind (arith, nat_tests)

pub numbers_are_told_exactly : NumbersAreToldExactly
numbers_are_told_exactly n own is few =
    let within : n.horizon - n.ground_slots < number_limit = omega (arith, is.time) in
    let time = exact own (n.horizon - n.ground_slots) few within in
    let generation = exact own n.generations few is.generation in
    let back : (own + n.generations) - n.generations ≡ own = omega arith in
    let told : IsToldExactly n own = record {
      time = time;
      own_time = ap (λ t. t - (n.horizon - n.ground_slots)) time ∙ omega arith;
      generation = generation;
      own_generation =
          ap (λ t. cond (nat_lt t n.generations) None (Some (t - n.generations))) generation
          ∙ ap (λ b. cond b None (Some ((own + n.generations) - n.generations))) (no-less own n.generations) ∙ ap Some back;
    } in told
