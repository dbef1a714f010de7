-- The report of a document: the lines of its calls, of its repair if it has one, of its closed generations and of its tables.
use Rattle.std.proofs.Common.{◌≡◌, ℕ, ◌+◌, Bool, List, [], ◌∷◌, ◌++◌, length, suc, Option, Some, None, Result, Ok, Err, OnOk, IfOk, refl, sym, ap, ◌∙◌, append_assoc}
use Rattle.std.proofs.lemmas.Grind.{flat_map-append}
use Rattle.tt_db.specs.Database.{Database}
use Rattle.tt_records.specs.declared.record.Record.{Record}
use Rattle.tt_document.specs.declared.document.Document.{Document}
use Rattle.tt_document.specs.declared.document.Call.{Call}
use Rattle.tt_document.specs.declared.document.Plan.{Plan}
use Rattle.tt_workload.specs.declared.options.Options.{Options}
use Rattle.tt_workload.specs.Records.{line_of_record, lines_of_records}
use Rattle.tt_workload.specs.History.{with_entries, entries_of, records_of, records_meanwhile, after_begin, after_repair, after_calls, records_of_calls, database_if, records_if}
use Rattle.tt_workload.specs.Report.{repair_lines, repair_lines_if, closed_lines_if, last_lines, report_of, database_after}

-- as many records as calls
pub length-records_of : (number : ℕ) (db : Database) (calls : List Call) → length (records_of number db calls) ≡ length calls
length-records_of number db [] = refl
length-records_of number db (call ∷ calls) = ap suc (length-records_of (number + 1) (with_entries db (entries_of call)) calls)

-- the database after the repair
pub repaired-database : (options : Options) (document : Document) (plan : Plan) (records : List Record) (db db_2 : Database)
    → db ≡ after_calls document → records ≡ records_of_calls document
    → db_2 ≡ after_repair options.dry (document.workers + 1) options.batch records db plan
    → db_2 ≡ database_if options document (Some plan)
repaired-database options document plan records db db_2 is same after =
    after
    ∙ ap (λ (d : Database). after_repair options.dry (document.workers + 1) options.batch records d plan) is
    ∙ ap (λ rs. after_repair options.dry (document.workers + 1) options.batch rs (after_calls document) plan) same

-- the lines of all calls, and those of the repair
pub repaired-lines : (options : Options) (document : Document) (plan : Plan) (records : List Record) (db : Database) (old out out_2 : List ℕ)
    → db ≡ after_calls document → records ≡ records_of_calls document → out ≡ old ++ lines_of_records options.json document.catalog (records_of_calls document)
    → out_2 ≡ out ++ (lines_of_records options.json db.catalog (records_meanwhile (document.workers + 1) options.batch (length records + 1) (after_begin (document.workers + 1) records db plan) plan.meanwhile)
    ++ repair_lines options (document.workers + 1) options.batch records db plan)
    → out_2 ≡ old ++ (lines_of_records options.json document.catalog (records_if options.batch document (Some plan)) ++ repair_lines_if options document (Some plan))
repaired-lines options document plan records db old out out_2 is same calls lines =
    let worker = document.workers + 1 in
    let batch = options.batch in
    let first = records_of_calls document in
    let lines_of : List Record → List ℕ = λ rs. lines_of_records options.json document.catalog rs in
    let rest : Database → List Record → List ℕ = λ (d : Database) rs.
    lines_of_records options.json d.catalog (records_meanwhile worker batch (length rs + 1) (after_begin worker rs d plan) plan.meanwhile) ++ repair_lines options worker batch rs d plan in
    let start = after_calls document in
    let meanwhile = records_meanwhile worker batch (length first + 1) (after_begin worker first start plan) plan.meanwhile in
    let repair = repair_lines options worker batch first start plan in
    lines ∙ ap (λ o. o ++ rest db records) calls
    ∙ ap (λ (d : Database). (old ++ lines_of first) ++ rest d records) is
    ∙ ap (λ rs. (old ++ lines_of first) ++ rest start rs) same
    ∙ append_assoc old (lines_of first) (lines_of meanwhile ++ repair)
    ∙ ap (λ ls. old ++ ls)
    (sym (append_assoc (lines_of first) (lines_of meanwhile) repair) ∙ ap (λ o. o ++ repair) (sym (flat_map-append (line_of_record options.json document.catalog) first meanwhile)))

-- where a result is Ok, what follows holds too
pub on_ok : {T E A B : Type 0} (r : Result T E) → (A → B) → OnOk r A → OnOk r B
on_ok (Ok x) f h = f h
on_ok (Err e) f h = h

pub if_ok : {T E : Type 0} {P Q : T → Type 0} (r : Result T E) → ((x : T) → P x → Q x) → IfOk r P → IfOk r Q
if_ok (Ok x) f h = f x h
if_ok (Err e) f h = h

-- the whole report
pub report_is : (options : Options) (document : Document) (db : Database) (none out all : List ℕ) → none ≡ [] → db ≡ database_after options document
    → out ≡ none ++ (lines_of_records options.json document.catalog (records_if options.batch document document.repair) ++ repair_lines_if options document document.repair)
    → all ≡ out ++ (closed_lines_if options db ++ last_lines options.json db) → all ≡ report_of options document
report_is options document db none out all empty is lines ended =
    let ends : Database → List ℕ = λ (d : Database). closed_lines_if options d ++ last_lines options.json d in
    let calls = lines_of_records options.json document.catalog (records_if options.batch document document.repair) in
    let repair = repair_lines_if options document document.repair in
    ended ∙ ap (λ o. o ++ ends db) (lines ∙ ap (λ o. o ++ (calls ++ repair)) empty)
    ∙ ap (λ (d : Database). (calls ++ repair) ++ ends d) is
    ∙ append_assoc calls repair (ends (database_after options document))
