use Rattle.std.proofs.Common.{◌≡◌, ◌==◌, false, ap, arith}
use Rattle.std.proofs.lemmas.Bool.Decides.{nat_tests}
use Rattle.tt_requests.specs.declared.told.ToldTime.{ToldTime}
use Rattle.tt_answers.proofs.PieceLemmas.{horizon-piece}
use Rattle.tt_answers.proofs.answer_text.push_horizon.Goals as goal

pub returns-in_ok-push_told_time : goal.returns-in_ok-push_told_time
returns-in_ok-push_told_time c =
    let same = ap (λ (t : ToldTime). t.number) c.horizon-horizon.ensures.value in
    let forgotten : (c.args.numbering.horizon == 0) ≡ false = grind (arith, nat_tests) in
    horizon-piece c.args.numbering c.horizon-horizon.result c.args.out.now.items c.push_told_time.new.out.items c.horizon-horizon.ensures.value forgotten
    c.in_ok-push_told_time.ensures
