-- Lines with a fault, computed: none of them changes anything.
use Rattle.std.specs.Prelude.{◌≡◌, ℕ, List, [], ◌∷◌, codes, refl}
use Rattle.std.specs.Char.{encode_utf8}
use Rattle.std.specs.Str.{is_utf8, chars}
use Rattle.std.specs.Float.Numeral.{scan_numeral}
use Rattle.std.specs.Fmt.{digits}
use Rattle.json.specs.Json as json
use Rattle.json.specs.Lex.{lex, punctuate}
use Rattle.json.specs.Text.{content, short_escape}
use Rattle.json.specs.Word.{word, after_number}
use Rattle.serde_json.specs.Read.{number_of}
use Rattle.tt_values.specs.RowWrites.{row_writes}
use Rattle.tt_grammar.specs.Tables.{column, table_after}
use Rattle.tt_grammar.specs.Conditions.{condition}
use Rattle.tt_grammar.specs.Statements as statements
use Rattle.tt_grammar.specs.Actions as actions
use Rattle.tt_grammar.specs.Edits.{replacement}
use Rattle.tt_grammar.specs.TextValue.{value_of_json}
use Rattle.tt_requests.specs.LineValue.{value_of_line}
use Rattle.tt_requests.specs.Opening.{declaration, members_of_opening}
use Rattle.tt_requests.specs.Edits.{cancel, replace, edit}
use Rattle.tt_requests.specs.Reads.{page, read, preview}
use Rattle.tt_requests.specs.Questions as questions
use Rattle.tt_requests.specs.Requests.{one_write, begin, step, bare, only_true, members_of_request}
use Rattle.tt_session.specs.Run.{session_text}
use Rattle.tt_session.proofs.worked_sessions.Asking.{no_losses, opened, printed, answers}

-- requests with a fault, and then one without
abbrev lines_faults : List (List ℕ)
lines_faults =
    codes "[]"
    ∷ codes "{\"a\":{\"b\":1,\"b\":2},\"a\":3}"
    ∷ codes "{\"a\":1,\"a\":{\"b\":1,\"b\":2}}"
    ∷ codes "1 2"
    ∷ codes "{\"step\":"
    ∷ codes "{\"worker\":0,\"status\":true}"
    ∷ codes "{\"worker\":null,\"status\":true}"
    ∷ codes "{\"if\":-1,\"status\":true}"
    ∷ codes "{\"status\":false}"
    ∷ codes "{\"step\":10001}"
    ∷ codes "{\"begin\":[{}]}"
    ∷ codes "{\"begin\":[{\"cancel\":1,\"by\":1}]}"
    ∷ codes "{\"begin\":[{\"replace\":1,\"by\":{\"select\":\"acct\"}}]}"
    ∷ codes "{\"begin\":[{\"replace\":1,\"by\":{\"insert\":\"acct\",\"row\":[1]}}]}"
    ∷ codes "{\"slots\":[1]}"
    ∷ codes "{\"slots\":[1,10001]}"
    ∷ codes "{\"slots\":[1,2],\"row\":[\"x\",1]}"
    ∷ codes "{\"changes\":\"then\"}"
    ∷ codes "{\"version\":2,\"tables\":[]}"
    ∷ codes "{\"select\":\"acct\",\"where\":[],\"most\":0}"
    ∷ codes "{\"insert\":\"acct\",\"row\":[1,\"ann\",1],\"at\":1}"
    ∷ codes "{\"status\":true}"
    ∷ []

abbrev answers_faults : List (List ℕ)
answers_faults =
    codes "{\"call\":1,\"fault\":{\"path\":\"$\",\"cause\":\"wrong type\"}}"
    ∷ codes "{\"call\":2,\"fault\":{\"path\":\"$.a\",\"cause\":\"member \\\"b\\\" named twice\"}}"
    ∷ codes "{\"call\":3,\"fault\":{\"path\":\"$\",\"cause\":\"member \\\"a\\\" named twice\"}}"
    ∷ codes "{\"call\":4,\"fault\":{\"path\":\"$\",\"cause\":\"not JSON\"}}"
    ∷ codes "{\"call\":5,\"fault\":{\"path\":\"$\",\"cause\":\"not JSON\"}}"
    ∷ codes "{\"call\":6,\"fault\":{\"path\":\"$.worker\",\"cause\":\"out of range\"}}"
    ∷ codes "{\"call\":7,\"fault\":{\"path\":\"$.worker\",\"cause\":\"wrong type\"}}"
    ∷ codes "{\"call\":8,\"fault\":{\"path\":\"$.if\",\"cause\":\"wrong type\"}}"
    ∷ codes "{\"call\":9,\"fault\":{\"path\":\"$.status\",\"cause\":\"out of range\"}}"
    ∷ codes "{\"call\":10,\"fault\":{\"path\":\"$.step\",\"cause\":\"out of range\"}}"
    ∷ codes "{\"call\":11,\"fault\":{\"path\":\"$.begin[0]\",\"cause\":\"missing one of cancel, replace\"}}"
    ∷ codes "{\"call\":12,\"fault\":{\"path\":\"$.begin[0]\",\"cause\":\"unknown member \\\"by\\\"\"}}"
    ∷ codes "{\"call\":13,\"fault\":{\"path\":\"$.begin[0].by\",\"cause\":\"missing one of insert, update, delete, do\"}}"
    ∷ codes "{\"call\":14,\"fault\":{\"path\":\"$.begin[0].by\",\"cause\":\"row of the wrong width\"}}"
    ∷ codes "{\"call\":15,\"fault\":{\"path\":\"$.slots\",\"cause\":\"wrong type\"}}"
    ∷ codes "{\"call\":16,\"fault\":{\"path\":\"$.slots\",\"cause\":\"out of range\"}}"
    ∷ codes "{\"call\":17,\"fault\":{\"path\":\"$.row[0]\",\"cause\":\"no such table\"}}"
    ∷ codes "{\"call\":18,\"fault\":{\"path\":\"$.changes\",\"cause\":\"out of range\"}}"
    ∷ codes "{\"refused\":\"another opening\"}"
    ∷ codes "{\"call\":19,\"fault\":{\"path\":\"$.most\",\"cause\":\"out of range\"}}"
    ∷ codes "{\"call\":20,\"fault\":{\"path\":\"$\",\"cause\":\"unknown member \\\"at\\\"\"}}"
    ∷ codes "{\"call\":21,\"time\":0,\"generation\":0,\"oldest\":0,\"entries\":0,\"repair\":null}"
    ∷ []

faults : printed lines_faults ≡ answers (opened ∷ answers_faults)
unfolding is_utf8 chars encode_utf8 lex content short_escape punctuate word after_number json.value json.items json.members scan_numeral number_of value_of_json value_of_line declaration members_of_opening column table_after condition statements.insert actions.write replacement cancel replace edit page read preview questions.slots questions.slot_filter questions.span questions.row_named questions.changes questions.changes_asked questions.call_kind questions.change_page one_write begin step bare only_true members_of_request row_writes digits
faults = refl

-- openings with a fault, which are not counted, and then one without
abbrev lines_unopened : List (List ℕ)
lines_unopened =
    codes "{"
    ∷ codes "[]"
    ∷ codes "{\"status\":true}"
    ∷ codes "{\"version\":1,\"tables\":[]}"
    ∷ codes "{\"version\":2,\"tables\":[],\"keep\":17}"
    ∷ codes "{\"version\":2,\"tables\":[],\"x\":1}"
    ∷ codes "{\"version\":2,\"tables\":[]}"
    ∷ codes "{\"status\":true}"
    ∷ []

abbrev answers_unopened : List (List ℕ)
answers_unopened =
    codes "{\"fault\":{\"path\":\"$\",\"cause\":\"not JSON\"}}"
    ∷ codes "{\"fault\":{\"path\":\"$\",\"cause\":\"wrong type\"}}"
    ∷ codes "{\"fault\":{\"path\":\"$\",\"cause\":\"missing member version\"}}"
    ∷ codes "{\"fault\":{\"path\":\"$.version\",\"cause\":\"out of range\"}}"
    ∷ codes "{\"fault\":{\"path\":\"$.keep\",\"cause\":\"out of range\"}}"
    ∷ codes "{\"fault\":{\"path\":\"$\",\"cause\":\"unknown member \\\"x\\\"\"}}"
    ∷ codes "{\"time\":0,\"generation\":0,\"oldest\":0,\"entries\":0,\"repair\":null}"
    ∷ codes "{\"call\":1,\"time\":0,\"generation\":0,\"oldest\":0,\"entries\":0,\"repair\":null}"
    ∷ []

unopened : session_text lines_unopened no_losses ≡ answers (answers_unopened)
unfolding is_utf8 chars encode_utf8 lex content short_escape punctuate word after_number json.value json.items json.members scan_numeral number_of value_of_json value_of_line declaration members_of_opening bare only_true members_of_request row_writes digits
unopened = refl

-- no memory for the third line, which is counted; the second would be passed over in any case
abbrev lines_without_memory : List (List ℕ)
lines_without_memory =
    codes "{\"version\":2,\"tables\":[]}"
    ∷ codes " "
    ∷ codes "{\"status\":true}"
    ∷ codes "{\"step\":1}"
    ∷ []

abbrev answers_without_memory : List (List ℕ)
answers_without_memory =
    codes "{\"time\":0,\"generation\":0,\"oldest\":0,\"entries\":0,\"repair\":null}"
    ∷ codes "{\"call\":1,\"refused\":\"memory\"}"
    ∷ codes "{\"call\":2,\"refused\":\"not repairing\"}"
    ∷ []

without_memory : session_text lines_without_memory (record { lines = 2 ∷ 3 ∷ []; openings = [] }) ≡ answers (answers_without_memory)
unfolding is_utf8 chars encode_utf8 lex content short_escape punctuate word after_number json.value json.items json.members scan_numeral number_of value_of_json value_of_line declaration members_of_opening step bare only_true members_of_request row_writes digits
without_memory = refl
