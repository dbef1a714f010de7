-- The lines one after another.
use Rattle.std.proofs.Common.{◌≡◌, ℕ, List, [], ◌++◌, ap, ◌∙◌, append_assoc}
use Rattle.tt_db.specs.Database.{Database}
use Rattle.tt_workload.specs.Records.{lines_of_records, lines_of_changes}
use Rattle.tt_workload.specs.Report.{closed_lines_if, last_lines}
use Rattle.tt_workers.specs.Report.{repair_lines_if, diff_of_repair_if}
use Rattle.tt_workers.proofs.text.text_of_report.Goals as goal

joined : (begun calls repair changes diff whole a b c d e : List ℕ) → begun ≡ [] → calls ≡ begun ++ a → repair ≡ calls ++ b → changes ≡ repair ++ c
    → diff ≡ changes ++ d → whole ≡ diff ++ e → whole ≡ a ++ (b ++ (c ++ (d ++ e)))
joined begun calls repair changes diff whole a b c d e first second third fourth fifth sixth =
    let two : repair ≡ a ++ b = third ∙ ap (λ xs. xs ++ b) (second ∙ ap (λ xs. xs ++ a) first) in
    let three : changes ≡ a ++ (b ++ c) = fourth ∙ ap (λ xs. xs ++ c) two ∙ append_assoc a b c in
    let four : diff ≡ a ++ (b ++ (c ++ d)) =
    fifth ∙ ap (λ xs. xs ++ d) three ∙ append_assoc a (b ++ c) d ∙ ap (λ xs. a ++ xs) (append_assoc b c d) in
    sixth ∙ ap (λ xs. xs ++ e) four ∙ append_assoc a (b ++ (c ++ d)) e
    ∙ ap (λ xs. a ++ xs) (append_assoc b (c ++ d) e ∙ ap (λ xs. b ++ xs) (append_assoc c d e))

pub returns-clause-text : goal.returns-clause-text
returns-clause-text c =
    let report = c.args.report.now in
    let options = c.args.options.now in
    let lines = joined c.new-out.result.items c.push_records.new.out.items c.push_repair_if.new.out.items c.push_changes.new.out.items
    c.push_diff_of_repair_if.new.out.items c.push_end_of_run.new.out.items _ _ _ _ _ c.new-out.ensures.items c.in_ok-push_records.ensures
    c.in_ok-push_repair_if.ensures c.in_ok-push_changes.ensures c.in_ok-push_diff_of_repair_if.ensures c.in_ok-push_end_of_run.ensures.text in
    let catalog = c.catalog-catalog.ensures ∙ ap (λ (d : Database). d.catalog) c.get-db.ensures in
    lines ∙ (λ i. lines_of_records options.json (catalog i) (c.deref.ensures.value i) ++ (repair_lines_if options (c.get-db.ensures i) report.repaired
    ++ (lines_of_changes options.json (catalog i) (c.deref-2.ensures.value i) (c.deref-3.ensures.value i)
    ++ (diff_of_repair_if options (c.get-db.ensures i) report.repaired ++ (closed_lines_if options (c.get-db.ensures i) ++ last_lines options.json (c.get-db.ensures i))))))
