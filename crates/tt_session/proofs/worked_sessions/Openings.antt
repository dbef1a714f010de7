-- Openings of each version, before a session is open and while it is, computed.
use Rattle.std.specs.Prelude.{◌≡◌, ℕ, List, [], ◌∷◌, ◌++◌, codes, refl}
use Rattle.std.specs.Char.{encode_utf8}
use Rattle.std.specs.Str.{is_utf8, chars}
use Rattle.std.specs.Float.Numeral.{scan_numeral}
use Rattle.std.specs.Fmt.{digits}
use Rattle.json.specs.Json as json
use Rattle.json.specs.Lex.{lex, punctuate}
use Rattle.json.specs.Text.{content, short_escape}
use Rattle.json.specs.Word.{word, after_number}
use Rattle.serde_json.specs.Read.{number_of}
use Rattle.tt_values.specs.RowWrites.{row_writes}
use Rattle.tt_grammar.specs.TextValue.{value_of_json}
use Rattle.tt_grammar.specs.Tables.{column, table_after}
use Rattle.tt_grammar.specs.Conditions.{condition}
use Rattle.tt_grammar.specs.Statements as statements
use Rattle.tt_requests.specs.LineValue.{value_of_line}
use Rattle.tt_requests.specs.Opening.{declaration, members_of_opening}
use Rattle.tt_requests.specs.Reads.{page, read}
use Rattle.tt_requests.specs.Requests.{one_write, bare, only_true, members_of_request}
use Rattle.tt_session.specs.Run.{session_text}
use Rattle.tt_session.proofs.worked_sessions.Asking.{no_losses, answers}

-- an opening with the table of accounts and further members
abbrev opening_of_version : List ℕ → List ℕ → List ℕ
opening_of_version version members =
    codes "{\"version\":" ++ (version ++ (codes ",\"tables\":[{\"name\":\"acct\",\"columns\":[{\"name\":\"id\",\"kind\":\"int\"},{\"name\":\"owner\",\"kind\":\"text\","
    ++ (codes "\"partition\":true},{\"name\":\"bal\",\"kind\":\"int\"}]}]" ++ (members ++ codes "}"))))

abbrev lines_openings : List (List ℕ)
lines_openings =
    codes "{\"insert\":\"acct\",\"row\":[1,\"ann\",10]}"
    ∷ opening_of_version (codes "1") []
    ∷ opening_of_version (codes "2") (codes ",\"records\":5")
    ∷ codes "{\"insert\":\"acct\",\"row\":[1,\"ann\",10]}"
    ∷ codes "{\"select\":\"acct\",\"where\":[[\"bal\",\">\",1]]}"
    ∷ opening_of_version (codes "4") (codes ",\"records\":0")
    ∷ opening_of_version (codes "2") []
    ∷ opening_of_version (codes "3") (codes ",\"keep\":5")
    ∷ codes "{\"version\":3,\"tables\":[]}"
    ∷ codes "{\"version\":5,\"tables\":[]}"
    ∷ codes "{\"status\":true,\"version\":3}"
    ∷ codes "{\"tables\":true}"
    ∷ []

abbrev answers_openings : List (List ℕ)
answers_openings =
    codes "{\"fault\":{\"path\":\"$\",\"cause\":\"missing member version\"}}"
    ∷ codes "{\"fault\":{\"path\":\"$.version\",\"cause\":\"out of range\"}}"
    ∷ codes "{\"time\":0,\"generation\":0,\"oldest\":0,\"entries\":0,\"repair\":null}"
    ∷ codes "{\"call\":1,\"slot\":1,\"replies\":[\"inserted\"]}"
    ∷ codes "{\"call\":2,\"time\":1,\"rows\":[[1,\"ann\",10]]}"
    ∷ codes "{\"time\":1,\"generation\":0,\"oldest\":0,\"entries\":1,\"repair\":null}"
    ∷ codes "{\"time\":1,\"generation\":0,\"oldest\":0,\"entries\":1,\"repair\":null}"
    ∷ codes "{\"refused\":\"another opening\"}"
    ∷ codes "{\"refused\":\"another opening\"}"
    ∷ codes "{\"fault\":{\"path\":\"$.version\",\"cause\":\"out of range\"}}"
    ∷ codes "{\"fault\":{\"path\":\"$\",\"cause\":\"missing member tables\"}}"
    ∷ (codes "{\"call\":3,\"version\":4,\"tables\":[{\"name\":\"acct\",\"columns\":[{\"name\":\"id\",\"kind\":\"int\",\"partition\":false},{\"name\":\"owner\","
    ++ codes "\"kind\":\"text\",\"partition\":true},{\"name\":\"bal\",\"kind\":\"int\",\"partition\":false}]}],\"keep\":4,\"records\":5}")
    ∷ []

openings : session_text lines_openings no_losses ≡ answers answers_openings
unfolding is_utf8 chars encode_utf8 lex content short_escape punctuate word after_number json.value json.items json.members scan_numeral number_of value_of_json value_of_line declaration members_of_opening column table_after condition statements.insert page read one_write bare only_true members_of_request row_writes digits
openings = refl

-- no memory for the second line, which is a call, for the third, which was read as an opening, and for the fourth, which wasn't read
abbrev lines_lost : List (List ℕ)
lines_lost =
    codes "{\"version\":2,\"tables\":[]}"
    ∷ codes "{\"status\":true}"
    ∷ codes "{\"version\":3,\"tables\":[]}"
    ∷ codes "{\"version\":4,\"tables\":[]}"
    ∷ codes "{\"status\":true}"
    ∷ []

abbrev answers_lost : List (List ℕ)
answers_lost =
    codes "{\"time\":0,\"generation\":0,\"oldest\":0,\"entries\":0,\"repair\":null}"
    ∷ codes "{\"call\":1,\"refused\":\"memory\"}"
    ∷ codes "{\"refused\":\"memory\"}"
    ∷ codes "{\"call\":2,\"refused\":\"memory\"}"
    ∷ codes "{\"call\":3,\"time\":0,\"generation\":0,\"oldest\":0,\"entries\":0,\"repair\":null}"
    ∷ []

lost : session_text lines_lost (record { lines = 2 ∷ 3 ∷ 4 ∷ []; openings = 3 ∷ [] }) ≡ answers answers_lost
unfolding is_utf8 chars encode_utf8 lex content short_escape punctuate word after_number json.value json.items json.members scan_numeral number_of value_of_json value_of_line declaration members_of_opening bare only_true members_of_request row_writes digits
lost = refl
