-- The JSON value of a text, or the text's first fault: that it isn't JSON, or else that an object names a member twice.
use Rattle.std.specs.Prelude.{ℕ, List, Option, None, Result, Ok, codes, if◌then◌else◌}
use Rattle.std.specs.Str.{is_utf8}
use Rattle.json.specs.Json as json
use Rattle.serde_json.specs.Data.{Data}
use Rattle.serde_json.specs.Read.{of_json}
use Rattle.tt_json.specs.Text.{json_of_text}
use Rattle.tt_grammar.specs.declared.fault.DocFault.{DocFault}
use Rattle.tt_grammar.specs.Fault.{◌>>=◌, or_refuse}
use Rattle.tt_grammar.specs.RepeatedMembers.{names_once}

-- the JSON of some bytes, which must be UTF-8
abbrev pub json_of_bytes : List ℕ → Option json.Json
json_of_bytes bytes = if is_utf8 bytes then json_of_text bytes else None

-- the value that JSON stands for, where it has one, and no object of it names a member twice
unfoldable pub value_of_json : json.Json → Result Data DocFault
value_of_json j = do
  d ← or_refuse (codes "not JSON") (of_json j)
  _ ← names_once j
  Ok d

-- the value that a text's JSON stands for; a text without JSON is refused
abbrev pub value_of_found : Option json.Json → Result Data DocFault
value_of_found found = do
  j ← or_refuse (codes "not JSON") found
  value_of_json j

-- the JSON value of a text in UTF-8
abbrev pub value_of_text : List ℕ → Result Data DocFault
value_of_text text = value_of_found (json_of_text text)
