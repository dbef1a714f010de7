-- The outcome of a run on a writer.
use Rattle.std.specs.Prelude.{◌≡◌, ℕ, List, Option}
use Rattle.std.specs.Io.KnownBytes.{Appends, Keeps}
use Rattle.tt_streams.specs.Writing.{AppendsPrefix}
use Rattle.tt_db.specs.Database.{Database}
use Rattle.tt_document.specs.declared.document.Document.{Document}
use Rattle.tt_workload.specs.declared.run_fault.RunFault.{RunFault}
use Rattle.tt_workload.specs.declared.run_fault.RunFault.TheVariants as faults
use Rattle.tt_workload.specs.declared.options.Options.{Options}
use Rattle.tt_workload.specs.Report.{report_of, database_after}
use Rattle.tt_workload.specs.Ends.{ReadsDocument, EndsReading, HasText, IsReadingFault}

-- the report of the document that the remaining bytes of the reader spell was written, and nothing else
pub record WritesReport (options : Options) (remaining : List ℕ) (old new : Option (List ℕ)) : Type 0 where
  pub document : Document
  pub is_read : ReadsDocument remaining document
  pub written : Appends old new (report_of options document)

-- the database is the one after the calls of that document
pub record LeavesDatabase (options : Options) (remaining : List ℕ) (db : Database) : Type 0 where
  pub document : Document
  pub is_read : ReadsDocument remaining document
  pub is_last : db ≡ database_after options document

-- the same, whatever was read: it is the one after the calls of some document
pub record IsLeftByDocument (options : Options) (db : Database) : Type 0 where
  pub document : Document
  pub text : HasText document
  pub is_last : db ≡ database_after options document

-- a prefix of that report was written, and nothing else
pub record WritesPrefix (options : Options) (remaining : List ℕ) (old new : Option (List ℕ)) : Type 0 where
  pub document : Document
  pub is_read : ReadsDocument remaining document
  pub written : AppendsPrefix old new (report_of options document)

-- after a fault: where the writer failed, a prefix of the report was written, and else nothing. A fault of the document is the
-- one that the bytes have. The store is never at fault
abbrev pub EndsEarly : Options → RunFault → List ℕ → Option (List ℕ) → Option (List ℕ) → Type 0
EndsEarly options faults.Write remaining old new = WritesPrefix options remaining old new
EndsEarly options faults.Read remaining old new = Keeps old new
EndsEarly options (faults.Document fault) remaining old new = EndsReading remaining (faults.Document fault) × Keeps old new
EndsEarly options (faults.Store text) remaining old new = ⊥
EndsEarly options faults.Memory remaining old new = Keeps old new

-- the same, whatever was read
abbrev pub IsFaultOfRun : RunFault → Type 0
IsFaultOfRun faults.Write = Unit {0}
IsFaultOfRun faults.Read = Unit {0}
IsFaultOfRun (faults.Document fault) = IsReadingFault (faults.Document fault)
IsFaultOfRun (faults.Store text) = ⊥
IsFaultOfRun faults.Memory = Unit {0}
