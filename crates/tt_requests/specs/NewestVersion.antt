-- A request that a version reads without a fault, the newest version reads as the same.
use Rattle.std.specs.Prelude.{Result}
use Rattle.serde_json.specs.Data.{Data}
use Rattle.tt_values.specs.Tables.{Tables}
use Rattle.tt_grammar.specs.declared.fault.DocFault.{DocFault}
use Rattle.tt_grammar.specs.declared.version.Version.{Version}
use Rattle.tt_grammar.specs.NewestVersion.{ReadsTheSame}
use Rattle.tt_grammar.specs.Version.{newest_version}
use Rattle.tt_requests.specs.Requests.{request_of}

-- a request that has no fault in a version is read the same in the newest one
abbrev pub RequestsReadTheSame : Type 0
RequestsReadTheSame = (version : Version) (tables : Tables) (value : Result Data DocFault) → ReadsTheSame (request_of version tables value) (request_of newest_version tables value)
