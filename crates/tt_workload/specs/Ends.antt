-- The two ends of a run: the document of some bytes, the bytes that a reader gives, and those that a writer gets.
use Rattle.std.specs.Prelude.{◌≡◌, ◌⊎◌, ℕ, ◌≤◌, nat_lt, if◌then◌else◌, List, length, take, Option, Result, Ok, Err, codes}
use Rattle.std.specs.Io.KnownBytes.{Consumes}
use Rattle.tt_grammar.specs.declared.fault.DocFault.{DocFault}
use Rattle.tt_grammar.specs.declared.fault.DocFault.TheVariants as doc
use Rattle.tt_grammar.specs.Fault.{document_fault}
use Rattle.tt_grammar.specs.TextValue.{json_of_bytes}
use Rattle.tt_document.specs.declared.document.Document.{Document}
use Rattle.tt_document.specs.Document.{document_of_json}
use Rattle.tt_workload.specs.declared.run_fault.RunFault.{RunFault}
use Rattle.tt_workload.specs.declared.run_fault.RunFault.TheVariants as run

-- the largest length of a document, and the largest number of bytes that are read: one more, which shows a longer document
abbrev pub max_document_bytes : ℕ
max_document_bytes = 16777216

abbrev pub max_bytes_read : ℕ
max_bytes_read = 16777217

-- the bytes that are read, of those that a reader has left
abbrev pub bytes_read : List ℕ → List ℕ
bytes_read remaining = take max_bytes_read remaining

-- the document of some bytes, or its first fault
unfoldable pub document_of_bytes : List ℕ → Result Document DocFault
document_of_bytes bytes =
    if nat_lt max_document_bytes (length bytes) then Err (document_fault (codes "longer than 16777216 bytes"))
    else document_of_json (json_of_bytes bytes)

-- a reader gave at most n of its bytes
pub record ConsumesAtMost (n : ℕ) (old new : Option (List ℕ)) : Type 0 where
  pub bytes : List ℕ
  pub consumed : Consumes old new bytes
  pub short : length bytes ≤ n

-- a fault of a document is the one that reading gives, and never that memory ran out
abbrev pub Refuses : DocFault → Result Document DocFault → Type 0
Refuses (doc.At path cause) reading = reading ≡ Err (doc.At path cause)
Refuses doc.Memory reading = ⊥

-- reading can end in this fault; where the reader failed or memory ran out, the result of reading is open
abbrev pub IsFaultOf : RunFault → Result Document DocFault → Type 0
IsFaultOf run.Read reading = Unit {0}
IsFaultOf (run.Document fault) reading = Refuses fault reading
IsFaultOf (run.Store text) reading = ⊥
IsFaultOf run.Write reading = ⊥
IsFaultOf run.Memory reading = Unit {0}

-- the remaining bytes of a reader give this document
abbrev pub ReadsDocument : List ℕ → Document → Type 0
ReadsDocument remaining document = document_of_bytes (bytes_read remaining) ≡ Ok document

-- reading the remaining bytes of a reader can end in this fault
abbrev pub EndsReading : List ℕ → RunFault → Type 0
EndsReading remaining fault = IsFaultOf fault (document_of_bytes (bytes_read remaining))

-- it is the document of some bytes
abbrev pub HasText : Document → Type 0
HasText document = (bytes : List ℕ) × (document_of_bytes bytes ≡ Ok document)

-- reading some bytes can end in the fault
abbrev pub IsReadingFault : RunFault → Type 0
IsReadingFault fault = (bytes : List ℕ) × IsFaultOf fault (document_of_bytes bytes)

-- the reader failed, or memory ran out
abbrev pub IsReaderFault : RunFault → Type 0
IsReaderFault fault = (fault ≡ run.Read) ⊎ (fault ≡ run.Memory)
