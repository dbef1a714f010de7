-- one run more, or the first fault
use Rattle.std.proofs.Common.{◌≡◌, ◌++◌, ◌∷◌, [], Ok, IfErr, map, length, sym, ap, ◌∙◌, arith, append_assoc}
use Rattle.std.proofs.lemmas.List.{map-append}
use Rattle.tt_workers.specs.Faults.{IsStoreFault}
use Rattle.tt_workers.proofs.ThreadsLemmas.{all_rest, fault_next}
use Rattle.tt_workers.proofs.threads.collect_runs.Goals as goal

pub loop-result-preserved : goal.loop-result-preserved
loop-result-preserved g c =
    let before = c.loop-result.runs.items in
    let rest = c.next.new.self.rest.items in
    let run = c.in-Ok.run' in
    let is : c.loop-result.result-iterator.rest.items ≡ c.in-Some.result ∷ rest = c.in-Some.ensures.steps.0 in
    let same : c.loop-result.result-iterator.rest.items ≡ Ok run ∷ rest = is ∙ ap (λ r. r ∷ rest) c.in-Ok.is in
    record {
      runs = ap (λ runs. map Ok runs ++ rest) c.push_reserved.ensures.items ∙ ap (λ results. results ++ rest) (map-append Ok before (run ∷ []))
          ∙ append_assoc (map Ok before) (Ok run ∷ []) rest ∙ ap (λ results. map Ok before ++ results) (sym same) ∙ c.loop-result.invariant.runs;
      faults = all_rest (λ r. IfErr r IsStoreFault) c.loop-result.result-iterator.rest.items rest c.in-Some.result is c.loop-result.invariant.faults;
      room = omega (arith, c.loop-result.invariant.room, c.push_reserved.ensures.len, c.push_reserved.ensures.capacity, ap length is);
    }

pub returns-in-Err-clause-first : goal.returns-in-Err-clause-first
returns-in-Err-clause-first g c =
    fault_next c.loop-result.runs.items c.args.results.items c.loop-result.result-iterator.rest.items c.next.new.self.rest.items c.in-Some.result c.in-Err.fault
    c.loop-result.invariant.runs c.in-Some.ensures.steps.0 c.in-Err.is
