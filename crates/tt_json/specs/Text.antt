-- The JSON of a text, whose objects are lists of members.
use Rattle.std.specs.Prelude.{ℕ, List, Option, option_and_then}
use Rattle.json.specs.Json as json
use Rattle.json.specs.Lex.{tokens}
use Rattle.serde_json.specs.Read.{max_depth}

-- the JSON of a text, with each member of an object as it stands there, if the text is one JSON value
abbrev pub json_of_text : List ℕ → Option json.Json
json_of_text text = option_and_then (λ p. json.if_last p.0 p.1) (json.value max_depth (tokens text))
