-- A run that ends while its report is written.
use Rattle.std.proofs.Common.{◌≡◌, List, ℕ, Option, Some, None, Result, Ok, Err, IfErr, IfSome, sym, subst}
use Rattle.tt_streams.specs.Writing.{AppendsPrefix}
use Rattle.tt_document.specs.declared.document.Document.{Document}
use Rattle.tt_workload.specs.declared.run_fault.RunFault.{RunFault}
use Rattle.tt_workload.specs.declared.run_fault.RunFault.TheVariants as faults
use Rattle.tt_workload.specs.declared.options.Options.{Options}
use Rattle.tt_workload.specs.Report.{report_of}
use Rattle.tt_workload.specs.Ends.{ReadsDocument}
use Rattle.tt_workload.specs.Run.{EndsEarly, WritesPrefix}

-- a prefix of the report was written
pub ends_in_writing : {T : Type 0} (r : Result T RunFault) (options : Options) (left old new : Option (List ℕ)) (text : List ℕ) (document : Document)
    → IfErr r (λ e. e ≡ faults.Write) → AppendsPrefix old new text → text ≡ report_of options document
    → IfSome left (λ xs. ReadsDocument xs document)
    → IfErr r (λ e. IfSome left (λ xs. EndsEarly options e xs old new))
ends_in_writing (Ok x) options left old new text document failed prefix is read = tt
ends_in_writing (Err e) options None old new text document failed prefix is read = tt
ends_in_writing (Err e) options (Some xs) old new text document failed prefix is read =
    let early : WritesPrefix options xs old new = record { document = document; is_read = read; written = subst (AppendsPrefix old new) is prefix } in
    subst (λ f. EndsEarly options f xs old new) (sym failed) early
