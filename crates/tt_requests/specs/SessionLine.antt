-- What a line of an open session is, by its JSON value: an opening or a request.
use Rattle.std.specs.Prelude.{◌≡◌, Bool, false, Result, Ok, Err, codes, if◌then◌else◌}
use Rattle.serde_json.specs.Data.{Data}
use Rattle.tt_values.specs.Tables.{Tables}
use Rattle.tt_grammar.specs.declared.fault.DocFault.{DocFault}
use Rattle.tt_grammar.specs.declared.version.Version.{Version}
use Rattle.tt_grammar.specs.Decoder.{has}
use Rattle.tt_requests.specs.declared.request.Request.{Request}
use Rattle.tt_requests.specs.declared.session_line.SessionLine.{SessionLine}
use Rattle.tt_requests.specs.declared.session_line.SessionLine.TheVariants as lines
use Rattle.tt_requests.specs.Requests.{request_of}

-- whether a JSON value, or none, is an opening: an object that has a version
abbrev pub is_opening : Result Data DocFault → Bool
is_opening (Err fault) = false
is_opening (Ok v) = has (codes "version") v

-- what a line is, as of a version of the grammar: an opening, or else a request or its first fault
abbrev pub session_line_of : Version → Tables → Result Data DocFault → SessionLine
session_line_of version tables value = if is_opening value then lines.Opening else lines.Request (request_of version tables value)

-- no request that has no fault is an opening
abbrev pub RequestsAreNoOpenings : Type 0
RequestsAreNoOpenings = (version : Version) (tables : Tables) (value : Result Data DocFault) (request : Request) → request_of version tables value ≡ Ok request → is_opening value ≡ false
