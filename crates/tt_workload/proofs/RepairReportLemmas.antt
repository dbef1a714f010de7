-- The lines of a repair, one after another.
use Rattle.std.proofs.Common.{◌≡◌, ℕ, ◌+◌, List, ◌++◌, length, map, ap, ◌∙◌, append_assoc}
use Rattle.tt_repair_laws.specs.declared.edit.Edit.{Edit}
use Rattle.tt_db.specs.declared.event.Event.TheVariants as events
use Rattle.tt_db.specs.Database.{Database, with_entry}
use Rattle.tt_records.specs.declared.record.Record.{Record}
use Rattle.tt_document.specs.declared.document.Plan.{Plan}
use Rattle.tt_workload.specs.declared.options.Options.{Options}
use Rattle.tt_workload.specs.Records.{lines_of_records}
use Rattle.tt_workload.specs.History.{repair_entry, end_of_repair, edit_of_slot, after_begin, after_repair, with_steps_left, with_meanwhile, records_meanwhile}
use Rattle.tt_workload.specs.Report.{lines_of_end, repair_lines}

-- the databases of a repair
abbrev beside : ℕ → ℕ → Plan → Database → Database
beside worker batch plan db = with_meanwhile worker batch db plan.meanwhile

abbrev finished : Options → ℕ → Database → Database
finished options worker db = with_entry (with_steps_left worker db) (repair_entry worker (end_of_repair options.dry))

-- the records of the calls that are made meanwhile
abbrev made : ℕ → ℕ → List Record → Plan → Database → List Record
made worker batch records plan db = records_meanwhile worker batch (length records + 1) db plan.meanwhile

-- the database after the beginning, beside the further calls, and after the end
pub record IsRepair (options : Options) (worker batch : ℕ) (records : List Record) (plan : Plan) (edits : List Edit) (db begun steps last : Database) : Type 0 where
  pub edits_are : edits ≡ map (edit_of_slot records) plan.edits
  pub begun_is : begun ≡ with_entry db (repair_entry worker (events.Begin edits))
  pub steps_are : steps ≡ beside worker batch plan begun
  pub last_is : last ≡ finished options worker steps

-- the lines that it pushes, and the records in the end
pub record PushesLines (options : Options) (worker batch : ℕ) (records all : List Record) (plan : Plan) (begun steps : Database) (out calls ended : List ℕ) : Type 0 where
  pub all_are : all ≡ records ++ made worker batch records plan begun
  pub calls_are : calls ≡ out ++ lines_of_records options.json begun.catalog (made worker batch records plan begun)
  pub ended_are : ended ≡ calls ++ lines_of_end options worker (with_steps_left worker steps) all

begun-is : (worker : ℕ) (records : List Record) (plan : Plan) (edits : List Edit) (db db_1 : Database) → db_1 ≡ with_entry db (repair_entry worker (events.Begin edits)) → edits ≡ map (edit_of_slot records) plan.edits
    → db_1 ≡ after_begin worker records db plan
begun-is worker records plan edits db db_1 is same = is ∙ ap (λ es. with_entry db (repair_entry worker (events.Begin es))) same

beside-is : (worker batch : ℕ) (records : List Record) (plan : Plan) (db db_1 db_2 : Database) → db_1 ≡ after_begin worker records db plan → db_2 ≡ beside worker batch plan db_1
    → db_2 ≡ beside worker batch plan (after_begin worker records db plan)
beside-is worker batch records plan db db_1 db_2 is_1 is_2 = is_2 ∙ ap (beside worker batch plan) is_1

-- the database after the end
pub repair-state : (options : Options) (worker batch : ℕ) (records : List Record) (plan : Plan) (edits : List Edit) (db db_1 db_2 db_3 : Database)
    → IsRepair options worker batch records plan edits db db_1 db_2 db_3 → db_3 ≡ after_repair options.dry worker batch records db plan
repair-state options worker batch records plan edits db db_1 db_2 db_3 is =
    is.last_is ∙ ap (finished options worker) (beside-is worker batch records plan db db_1 db_2 (begun-is worker records plan edits db db_1 is.begun_is is.edits_are) is.steps_are)

-- the lines of the calls that are made meanwhile, and those of the repair
pub repair-pieces : (options : Options) (worker batch : ℕ) (records records_2 : List Record) (plan : Plan) (edits : List Edit) (db db_1 db_2 db_3 : Database) (out out_2 out_3 : List ℕ)
    → IsRepair options worker batch records plan edits db db_1 db_2 db_3
    → PushesLines options worker batch records records_2 plan db_1 db_2 out out_2 out_3
    → out_3 ≡ out ++ (lines_of_records options.json db.catalog (records_meanwhile worker batch (length records + 1) (after_begin worker records db plan) plan.meanwhile) ++ repair_lines options worker batch records db plan)
repair-pieces options worker batch records records_2 plan edits db db_1 db_2 db_3 out out_2 out_3 is pushes =
    let begun = after_begin worker records db plan in
    let at_1 : db_1 ≡ begun = begun-is worker records plan edits db db_1 is.begun_is is.edits_are in
    let at_2 = beside-is worker batch records plan db db_1 db_2 at_1 is.steps_are in
    let calls = lines_of_records options.json db.catalog (made worker batch records plan begun) in
    let lines_of : Database → List Record → List ℕ = λ (d : Database) rs. lines_of_end options worker (with_steps_left worker d) rs in
    let all = records ++ made worker batch records plan begun in
    let text_2 : out_2 ≡ out ++ calls = pushes.calls_are ∙ ap (λ (d : Database). out ++ lines_of_records options.json d.catalog (made worker batch records plan d)) at_1 in
    let text_3 : out_3 ≡ (out ++ calls) ++ lines_of (beside worker batch plan begun) all =
    pushes.ended_are ∙ ap (λ o. o ++ lines_of db_2 records_2) text_2 ∙ ap (λ (d : Database). (out ++ calls) ++ lines_of d records_2) at_2
    ∙ ap (λ rs. (out ++ calls) ++ lines_of (beside worker batch plan begun) rs) (pushes.all_are ∙ ap (λ (d : Database). records ++ made worker batch records plan d) at_1) in
    text_3 ∙ append_assoc out calls (lines_of (beside worker batch plan begun) all)
