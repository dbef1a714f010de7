-- A session with a repair, computed from the bytes of its lines to the bytes of its answers.
use Rattle.std.specs.Prelude.{◌≡◌, ℕ, List, [], ◌∷◌, ◌++◌, codes, refl}
use Rattle.std.specs.Char.{encode_utf8}
use Rattle.std.specs.Str.{is_utf8, chars}
use Rattle.std.specs.Float.Numeral.{scan_numeral}
use Rattle.std.specs.Fmt.{digits}
use Rattle.json.specs.Json as json
use Rattle.json.specs.Lex.{lex, punctuate}
use Rattle.json.specs.Text.{content, short_escape}
use Rattle.json.specs.Word.{word, after_number}
use Rattle.serde_json.specs.Read.{number_of}
use Rattle.tt_values.specs.RowWrites.{row_writes}
use Rattle.tt_repair_laws.specs.Due.{dirty_after, reexecuted_count}
use Rattle.tt_grammar.specs.Tables.{column, table_after}
use Rattle.tt_grammar.specs.Changes.{change}
use Rattle.tt_grammar.specs.Conditions.{condition}
use Rattle.tt_grammar.specs.Statements as statements
use Rattle.tt_grammar.specs.Actions as actions
use Rattle.tt_grammar.specs.TextValue.{value_of_json}
use Rattle.tt_requests.specs.LineValue.{value_of_line}
use Rattle.tt_requests.specs.Opening.{declaration, members_of_opening}
use Rattle.tt_requests.specs.Edits.{cancel, edit}
use Rattle.tt_requests.specs.Reads.{page, read, preview}
use Rattle.tt_requests.specs.Questions as questions
use Rattle.tt_requests.specs.Requests.{one_write, several_writes, begin, step, end_of_repair, finish, abort, bare, only_true, members_of_request}
use Rattle.tt_session.proofs.worked_sessions.Asking.{opened, printed, answers}

-- an insert, a bad update, a repair that cancels it while the session goes on, and what it changed
abbrev lines_transcript : List (List ℕ)
lines_transcript =
    codes "{\"insert\":\"acct\",\"row\":[1,\"ann\",10]}"
    ∷ codes "{\"worker\":2,\"update\":\"acct\",\"change\":[[\"set\",\"bal\",0]],\"where\":[]}"
    ∷ codes "{\"select\":\"acct\",\"where\":[[\"id\",1]]}"
    ∷ codes "{\"select\":\"acct\",\"where\":[],\"at\":9}"
    ∷ codes "{\"begin\":[{\"cancel\":9}]}"
    ∷ codes "{\"begin\":[{\"cancel\":2}]}"
    ∷ codes "{\"step\":1}"
    ∷ codes "{\"preview\":\"acct\",\"where\":[]}"
    ∷ codes "{\"update\":\"acct\",\"change\":[[\"add\",\"bal\",1]],\"where\":[[\"id\",1]]}"
    ∷ []
    ∷ codes "{\"insert\":\"acct\",\"row\":[1,\"ann\"]}"
    ∷ codes "{\"changes\":\"next\"}"
    ∷ codes "{\"finish\":true}"
    ∷ codes "{\"changes\":\"now\"}"
    ∷ codes "{\"select\":\"acct\",\"where\":[],\"in\":0}"
    ∷ codes "{\"abort\":true}"
    ∷ codes "{\"do\":[],\"if\":3}"
    ∷ codes "{\"do\":[],\"if\":3}"
    ∷ codes "{\"slots\":[1,9],\"row\":[\"acct\",1]}"
    ∷ codes "{\"slots\":[2,2]}"
    ∷ codes "{\"select\":\"acct\",\"where\":[],\"after\":0,\"most\":1}"
    ∷ codes "{\"tables\":true}"
    ∷ codes "{\"status\":true}"
    ∷ codes "{\"x\\n\":1,\"status\":true}"
    ∷ codes "{\"x\":1}"
    ∷ []

abbrev answers_transcript : List (List ℕ)
answers_transcript =
    codes "{\"call\":1,\"slot\":1,\"replies\":[\"inserted\"]}"
    ∷ codes "{\"call\":2,\"slot\":2,\"replies\":[{\"updated\":1}]}"
    ∷ codes "{\"call\":3,\"time\":2,\"rows\":[[1,\"ann\",0]]}"
    ∷ codes "{\"call\":4,\"refused\":\"later\",\"now\":2}"
    ∷ codes "{\"call\":5,\"refused\":\"no slot\",\"slot\":9}"
    ∷ codes "{\"call\":6,\"done\":0,\"left\":2,\"rerun\":0}"
    ∷ codes "{\"call\":7,\"done\":1,\"left\":1,\"rerun\":0}"
    ∷ codes "{\"call\":8,\"done\":1,\"rows\":[[1,\"ann\",10]]}"
    ∷ codes "{\"call\":9,\"slot\":3,\"replies\":[{\"updated\":1}]}"
    ∷ codes "{\"call\":10,\"fault\":{\"path\":\"$\",\"cause\":\"row of the wrong width\"}}"
    ∷ codes "{\"call\":11,\"from\":1,\"changed\":[]}"
    ∷ codes "{\"call\":12,\"generation\":1,\"slots\":3,\"rerun\":2}"
    ∷ (codes "{\"call\":13,\"from\":1,\"changed\":[{\"call\":2,\"slot\":2,\"before\":[{\"updated\":1}],\"after\":\"cancelled\"},{\"call\":3,\"time\":2,"
    ++ codes "\"before\":[[1,\"ann\",0]],\"after\":[[1,\"ann\",10]]}]}")
    ∷ codes "{\"call\":14,\"time\":3,\"rows\":[[1,\"ann\",1]]}"
    ∷ codes "{\"call\":15,\"refused\":\"not repairing\"}"
    ∷ codes "{\"call\":16,\"slot\":4,\"replies\":[]}"
    ∷ codes "{\"call\":17,\"refused\":\"moved\",\"now\":4}"
    ∷ (codes "{\"call\":18,\"time\":4,\"slots\":[{\"slot\":1,\"worker\":1,\"do\":[{\"insert\":\"acct\",\"row\":[1,\"ann\",10]}],\"replies\":[\"inserted\"]},"
    ++ codes "{\"slot\":3,\"worker\":1,\"do\":[{\"update\":\"acct\",\"change\":[[\"add\",\"bal\",1]],\"where\":[[\"id\",1]]}],\"replies\":[{\"updated\":1}]}]}")
    ∷ (codes "{\"call\":19,\"time\":4,\"slots\":[{\"slot\":2,\"worker\":2,\"do\":null,\"replies\":null,\"asked\":[{\"update\":\"acct\",\"change\":[[\"set\","
    ++ codes "\"bal\",0]],\"where\":[]}]}]}")
    ∷ codes "{\"call\":20,\"time\":4,\"rows\":[[1,\"ann\",11]],\"more\":false}"
    ∷ (codes "{\"call\":21,\"version\":4,\"tables\":[{\"name\":\"acct\",\"columns\":[{\"name\":\"id\",\"kind\":\"int\",\"partition\":false},{\"name\":\"owner\","
    ++ codes "\"kind\":\"text\",\"partition\":true},{\"name\":\"bal\",\"kind\":\"int\",\"partition\":false}]}],\"keep\":4,\"records\":100000}")
    ∷ codes "{\"call\":22,\"time\":4,\"generation\":1,\"oldest\":0,\"entries\":9,\"repair\":null}"
    ∷ codes "{\"call\":23,\"fault\":{\"path\":\"$\",\"cause\":\"unknown member \\\"x\\\\n\\\"\"}}"
    ∷ (codes "{\"call\":24,\"fault\":{\"path\":\"$\",\"cause\":\"missing one of insert, update, delete, select, preview, do, begin, step, finish,"
    ++ codes " abort, status, slots, changes, tables, why, diff, would, forget\"}}")
    ∷ []

transcript : printed lines_transcript ≡ answers (opened ∷ answers_transcript)
unfolding is_utf8 chars encode_utf8 lex content short_escape punctuate word after_number json.value json.items json.members scan_numeral number_of value_of_json value_of_line declaration members_of_opening column table_after change condition statements.insert statements.update actions.action cancel edit page read preview questions.slots questions.slot_filter questions.span questions.row_named questions.changes questions.changes_asked questions.call_kind questions.change_page one_write several_writes begin step end_of_repair finish abort bare only_true members_of_request row_writes dirty_after reexecuted_count digits
transcript = refl
