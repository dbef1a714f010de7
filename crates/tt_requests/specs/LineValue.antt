-- The JSON value of a line, or the line's first fault: that it is too long, that it isn't JSON, or that an object names a member twice.
use Rattle.std.specs.Prelude.{ℕ, List, Result, Ok, codes, ⊤, if◌then◌else◌}
use Rattle.serde_json.specs.Data.{Data}
use Rattle.tt_grammar.specs.declared.fault.DocFault.{DocFault}
use Rattle.tt_grammar.specs.Fault.{◌>>=◌, refuse}
use Rattle.tt_grammar.specs.TextValue.{json_of_bytes, value_of_found}
use Rattle.tt_requests.specs.Lines.{is_too_long}

-- a line is no longer than lines may be
abbrev pub fits_line : List ℕ → Result ⊤ DocFault
fits_line line = if is_too_long line then refuse (codes "longer than 16777216 bytes") else Ok tt

-- the JSON value of a line
unfoldable pub value_of_line : List ℕ → Result Data DocFault
value_of_line line = do
  _ ← fits_line line
  value_of_found (json_of_bytes line)
