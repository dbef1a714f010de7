-- The pieces of the line, one after another.
use Rattle.std.proofs.Common.{◌≡◌, List, ℕ, ◌++◌, Option, None, Some, ap, sym, ◌∙◌, append_assoc, codes}
use Rattle.tt_requests.specs.Numbers.{Numbering, nothing_forgotten}
use Rattle.tt_answers.specs.declared.answer.ChangeEntry.{ChangeEntry}
use Rattle.tt_answers.specs.declared.answer.Place.{Place}
use Rattle.tt_answers.specs.AnswerText.{change_text}
use Rattle.tt_workload.specs.JsonReport.{place_of_call, json_of_change_at}
use Rattle.tt_workload.proofs.json_report.push_json_change.Goals as goal

pub returns-in_ok-push : goal.returns-in_ok-push
returns-in_ok-push c =
    let tables = c.args.catalog.now in
    let change = c.args.change.now in
    let old = c.args.out.now.items in
    let told : ChangeEntry = record { worker = None; place = c.in-Some.place; change = change; asked = None } in
    let text : c.push_change.new.out.items ≡ old ++ change_text tables nothing_forgotten told =
    c.in_ok-push_change.ensures
    ∙ ap (λ (n : Numbering). old ++ change_text tables n c.in_ok-entry.entry) c.new.ensures
    ∙ ap (λ (e : ChangeEntry). old ++ change_text tables nothing_forgotten e) c.in_ok-entry.ensures in
    let place : place_of_call c.args.records.now change.call ≡ Some c.in-Some.place = sym c.place_of_call.ensures ∙ c.in-Some.is in
    c.in_ok-push.ensures.items
    ∙ ap (λ o. o ++ codes "\n") text
    ∙ append_assoc old (change_text tables nothing_forgotten told) (codes "\n")
    ∙ ap (λ (p : Option Place). old ++ json_of_change_at tables change p) (sym place)
