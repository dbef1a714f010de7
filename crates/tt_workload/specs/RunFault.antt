-- Faults of a run.
use Rattle.tt_streams.specs.declared.stream_error.StreamError.{StreamError}
use Rattle.tt_streams.specs.declared.stream_error.StreamError.TheVariants as stream
use Rattle.tt_grammar.specs.declared.fault.DocFault.{DocFault}
use Rattle.tt_grammar.specs.declared.fault.DocFault.TheVariants as doc
use Rattle.tt_workload.specs.declared.run_fault.RunFault.{RunFault}
use Rattle.tt_workload.specs.declared.run_fault.RunFault.TheVariants as run

-- the fault of a run that reads no document; running out of memory is no fault of the document
abbrev pub run_fault_of : DocFault → RunFault
run_fault_of (doc.At path cause) = run.Document (doc.At path cause)
run_fault_of doc.Memory = run.Memory

-- the fault of a run whose reader or writer is given up
abbrev pub run_fault_of_stream : StreamError → RunFault
run_fault_of_stream stream.Read = run.Read
run_fault_of_stream stream.Write = run.Write
