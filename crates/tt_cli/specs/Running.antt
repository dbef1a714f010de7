-- What the commands do: the two runs of a document, and what they write, and a session. A run in threads writes one of the reports that are right for the document.
use Rattle.std.specs.Prelude.{◌≡◌, ℕ, List, Option, IfSome}
use Rattle.std.specs.Io.KnownBytes.{Appends, Keeps}
use Rattle.tt_document.specs.declared.document.Document.{Document}
use Rattle.tt_lines.specs.declared.run.SessionFault.{SessionFault}
use Rattle.tt_lines.specs.declared.run.SessionFault.TheVariants as session_faults
use Rattle.tt_lines.specs.Ends as session
use Rattle.tt_workload.specs.declared.options.Options.{Options}
use Rattle.tt_workload.specs.declared.run_fault.RunFault.{RunFault}
use Rattle.tt_workload.specs.declared.run_fault.RunFault.TheVariants as faults
use Rattle.tt_workload.specs.Ends.{ReadsDocument, EndsReading, IsReadingFault}
use Rattle.tt_streams.specs.Writing.{AppendsPrefix}
use Rattle.tt_workload.specs.Run.{WritesReport, EndsEarly, IsFaultOfRun}
use Rattle.tt_workers.specs.declared.report.Report.{Report}
use Rattle.tt_workers.specs.Report.{IsReportOf, text_of_report}
use Rattle.tt_cli.specs.declared.command_line.Cli.{Cli}
use Rattle.tt_cli.specs.declared.command_line.Cli.TheVariants as commands

-- the text of a report that is right for the document, with the lines that these options ask for
pub record IsTextOfRun (options : Options) (document : Document) (text : List ℕ) : Type 0 where
  pub report : Report
  pub right : IsReportOf document report
  pub same : text ≡ text_of_report options report

-- the text of a report that is right for the document in the remaining bytes of the reader was written, and nothing else
pub record WritesSomeReport (options : Options) (remaining : List ℕ) (old new : Option (List ℕ)) : Type 0 where
  pub document : Document
  pub is_read : ReadsDocument remaining document
  pub text : List ℕ
  pub is_text : IsTextOfRun options document text
  pub written : Appends old new text

-- a prefix of the text of a report that is right for the document in the remaining bytes of the reader was written, and nothing else
pub record WritesPrefixOfReport (options : Options) (remaining : List ℕ) (old new : Option (List ℕ)) : Type 0 where
  pub document : Document
  pub is_read : ReadsDocument remaining document
  pub text : List ℕ
  pub is_text : IsTextOfRun options document text
  pub written : AppendsPrefix old new text

-- the remaining bytes of the reader are a document
abbrev pub HasDocument : List ℕ → Type 0
HasDocument remaining = (document : Document) × ReadsDocument remaining document

-- after a fault of a run in threads: where the writer failed, a prefix of a report was written, and otherwise nothing. A fault of the
-- document is the one that the bytes have. A fault of the store comes only after a document was read
abbrev pub EndsRunEarly : Options → RunFault → List ℕ → Option (List ℕ) → Option (List ℕ) → Type 0
EndsRunEarly options faults.Write remaining old new = WritesPrefixOfReport options remaining old new
EndsRunEarly options faults.Read remaining old new = Keeps old new
EndsRunEarly options (faults.Document fault) remaining old new = EndsReading remaining (faults.Document fault) × Keeps old new
EndsRunEarly options (faults.Store text) remaining old new = HasDocument remaining × Keeps old new
EndsRunEarly options faults.Memory remaining old new = Keeps old new

-- the same, whatever was read
abbrev pub IsFaultOfThreads : RunFault → Type 0
IsFaultOfThreads faults.Write = Unit {0}
IsFaultOfThreads faults.Read = Unit {0}
IsFaultOfThreads (faults.Document fault) = IsReadingFault (faults.Document fault)
IsFaultOfThreads (faults.Store text) = Unit {0}
IsFaultOfThreads faults.Memory = Unit {0}

-- the fault of a session, as that of a run
abbrev pub fault_of_session : SessionFault → RunFault
fault_of_session session_faults.Read = faults.Read
fault_of_session session_faults.Write = faults.Write
fault_of_session session_faults.Memory = faults.Memory

-- this is the fault of a session, which has ended in it
pub record EndsSessionEarly (fault : RunFault) (unread left old new : Option (List ℕ)) : Type 0 where
  pub ended : SessionFault
  pub same : fault ≡ fault_of_session ended
  pub early : session.EndsEarly ended unread left old new

-- the same, whatever was read
pub record IsFaultOfSession (fault : RunFault) : Type 0 where
  pub ended : SessionFault
  pub same : fault ≡ fault_of_session ended

-- what a command without a log asks for was written: the report, with its options, of a run in one thread or of one in threads, or the answers to all lines that the reader had
abbrev pub WritesBy : Cli → Option (List ℕ) → Option (List ℕ) → Option (List ℕ) → Option (List ℕ) → Type 0
WritesBy (commands.Replay options) unread left old new = IfSome unread (λ remaining. WritesReport options remaining old new)
WritesBy (commands.Run options) unread left old new = IfSome unread (λ remaining. WritesSomeReport options remaining old new)
WritesBy commands.Session unread left old new = session.AnswersAll unread left old new
WritesBy _ unread left old new = ⊥

-- after a fault of what a command without a log asks for
abbrev pub EndsEarlyBy : Cli → RunFault → Option (List ℕ) → Option (List ℕ) → Option (List ℕ) → Option (List ℕ) → Type 0
EndsEarlyBy (commands.Replay options) fault unread left old new = IfSome unread (λ remaining. EndsEarly options fault remaining old new)
EndsEarlyBy (commands.Run options) fault unread left old new = IfSome unread (λ remaining. EndsRunEarly options fault remaining old new)
EndsEarlyBy commands.Session fault unread left old new = EndsSessionEarly fault unread left old new
EndsEarlyBy _ fault unread left old new = ⊥

-- the same, whatever was read
abbrev pub IsFaultBy : Cli → RunFault → Type 0
IsFaultBy (commands.Replay options) fault = IsFaultOfRun fault
IsFaultBy (commands.Run options) fault = IsFaultOfThreads fault
IsFaultBy commands.Session fault = IsFaultOfSession fault
IsFaultBy _ fault = ⊥
