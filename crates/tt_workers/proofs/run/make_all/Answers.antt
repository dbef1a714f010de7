-- The last worker is the administrator; the others make the calls, and then those of `meanwhile`.
use Rattle.std.proofs.Common.{◌≡◌, ℕ, ◌≤◌, List, [], ◌∷◌, length, Option, Some, None, refl, sym, ap, subst, arith, length-append}
use Rattle.std.proofs.lemmas.List.Elements.{recursion_from_All}
use Rattle.tt_document.specs.declared.document.Call.{Call}
use Rattle.tt_document.specs.declared.document.Plan.{Plan}
use Rattle.tt_document.specs.Document.{IsValidCall}
use Rattle.tt_values.specs.Tables.{Tables}
use Rattle.tt_workload.specs.Room.{AreAccepted}
use Rattle.tt_workload.proofs.ReportLemmas.{AreAccepted-valid, AreAccepted-valid_calls}
use Rattle.tt_workers.specs.Merging.{AreOf}
use Rattle.tt_workers.specs.Running.{MadeCalls, MadeRepairIf, MadeAll}
use Rattle.tt_workers.proofs.RunningLemmas.{of_valid_calls, valid_plan_of, few_records, as_many, if_ok_then}
use Rattle.tt_workers.proofs.run.make_all.Goals as goal

pub make_calls-requires-clause-accepted : goal.make_calls-requires-clause-accepted
make_calls-requires-clause-accepted g c κs within =
    let d = c.args.document.now in
    subst (λ (cs : List Call). AreAccepted g.L.Naming.tables cs) (sym c.as_slice-calls.ensures)
    (subst (λ (ts : Tables). AreAccepted ts d.calls) c.requires.tables (AreAccepted-valid d c.requires.valid))

pub make_calls-requires-clause-of : goal.make_calls-requires-clause-of
make_calls-requires-clause-of g c κs within =
    let d = c.args.document.now in
    let olds = c.pop.new.self.items in
    let count : d.workers ≡ length olds = omega (arith, c.requires.some, ap length c.in-Some.ensures.items, length-append olds (c.in-Some.administrator ∷ [])) in
    subst (λ (cs : List Call). AreOf (length olds) cs) (sym c.as_slice-calls.ensures)
    (subst (λ (n : ℕ). AreOf n d.calls) count (of_valid_calls d.catalog d.workers d.calls c.requires.valid.valid_calls))

pub make_repair-requires-clause-accepted : goal.make_repair-requires-clause-accepted
make_repair-requires-clause-accepted g c κs within =
    let d = c.args.document.now in
    let plan = c.in-Some-repair.plan in
    let valid = valid_plan_of d plan c.requires.valid c.in-Some-repair.is in
    subst (λ (ts : Tables). AreAccepted ts plan.meanwhile) c.requires.tables
    (AreAccepted-valid_calls d.catalog d.workers plan.meanwhile (recursion_from_All (IsValidCall d.catalog d.workers) plan.meanwhile valid.valid_calls))

pub make_repair-requires-clause-few_records : goal.make_repair-requires-clause-few_records
make_repair-requires-clause-few_records g c κs within =
    let few : length c.args.document.now.calls ≤ 100000 = c.requires.valid.few_calls in
    let records = few_records g.L.Naming.limits 1 c.as_slice-calls.result.now c.pop.new.self.items c.in_ok-workers.workers.items c.args.records.now c.make_calls.new.records c.requires.none c.in_ok-workers.ensures.made in
    omega (arith, records, few, ap length c.as_slice-calls.ensures)

pub make_repair-requires-clause-of : goal.make_repair-requires-clause-of
make_repair-requires-clause-of g c κs within =
    let d = c.args.document.now in
    let olds = c.pop.new.self.items in
    let plan = c.in-Some-repair.plan in
    let valid = valid_plan_of d plan c.requires.valid c.in-Some-repair.is in
    let same = as_many g.L.Naming.limits 1 c.as_slice-calls.result.now olds c.in_ok-workers.workers.items c.args.records.now c.make_calls.new.records c.in_ok-workers.ensures.made in
    let count : d.workers ≡ length c.in_ok-workers.workers.items =
    omega (arith, same, c.requires.some, ap length c.in-Some.ensures.items, length-append olds (c.in-Some.administrator ∷ [])) in
    subst (λ (n : ℕ). AreOf n plan.meanwhile) count (of_valid_calls d.catalog d.workers plan.meanwhile valid.valid_calls)

pub returns-in-Some-repair-clause-made : goal.returns-in-Some-repair-clause-made
returns-in-Some-repair-clause-made g c =
    let d = c.args.document.now in
    let tables = g.L.Naming.tables in
    let limits = g.L.Naming.limits in
    let olds = c.pop.new.self.items in
    let news = c.in_ok-workers.workers.items in
    let none = c.args.records.now in
    let middle = c.make_calls.new.records in
    let now = c.make_repair.new.records in
    let calls : MadeCalls limits 1 d.calls olds news none middle =
    subst (λ (cs : List Call). MadeCalls limits 1 cs olds news none middle) c.as_slice-calls.ensures c.in_ok-workers.ensures.made in
    if_ok_then (λ r. MadeRepairIf tables limits (Some c.in-Some-repair.plan) c.in-Some.administrator news middle r.0.items now r.1)
    (λ r. MadeAll tables limits d c.args.workers.items none r.0.items now r.1) c.make_repair.result
    (λ r repair. record {
      olds = olds;
      administrator = c.in-Some.administrator;
      start_is = c.in-Some.ensures.items;
      news = news;
      middle = middle;
      calls = calls;
      repair = subst (λ (p : Option Plan). MadeRepairIf tables limits p c.in-Some.administrator news middle r.0.items now r.1) (sym c.in-Some-repair.is) repair;
    }) c.make_repair.ensures.made

pub returns-in_ok-push-in-None-clause-made : goal.returns-in_ok-push-in-None-clause-made
returns-in_ok-push-in-None-clause-made g c =
    let limits = g.L.Naming.limits in
    let olds = c.pop.new.self.items in
    let news = c.in_ok-workers.workers.items in
    let all = c.push.new.self.items in
    let none = c.args.records.now in
    let middle = c.make_calls.new.records in
    record {
      olds = olds;
      administrator = c.in-Some.administrator;
      start_is = c.in-Some.ensures.items;
      news = news;
      middle = middle;
      calls = subst (λ (cs : List Call). MadeCalls limits 1 cs olds news none middle) c.as_slice-calls.ensures c.in_ok-workers.ensures.made;
      repair = subst (λ (p : Option Plan). MadeRepairIf g.L.Naming.tables limits p c.in-Some.administrator news middle all middle None) (sym c.in-None.is)
          (c.in_ok-push-in-None.ensures.items, refl, refl);
    }
