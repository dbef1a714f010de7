-- A session that forgets what lies before a repair, computed from the bytes of its lines to the bytes of its answers.
use Rattle.std.specs.Prelude.{◌≡◌, ℕ, List, [], ◌∷◌, ◌++◌, codes, refl}
use Rattle.std.specs.Char.{encode_utf8}
use Rattle.std.specs.Str.{is_utf8, chars}
use Rattle.std.specs.Float.Numeral.{scan_numeral}
use Rattle.std.specs.Fmt.{digits}
use Rattle.json.specs.Json as json
use Rattle.json.specs.Lex.{lex, punctuate}
use Rattle.json.specs.Text.{content, short_escape}
use Rattle.json.specs.Word.{word, after_number}
use Rattle.serde_json.specs.Read.{number_of}
use Rattle.tt_values.specs.RowWrites.{row_writes}
use Rattle.tt_repair_laws.specs.Due.{dirty_after, reexecuted_count}
use Rattle.tt_grammar.specs.Tables.{column, table_after}
use Rattle.tt_grammar.specs.Changes.{change}
use Rattle.tt_grammar.specs.Conditions.{condition}
use Rattle.tt_grammar.specs.Statements as statements
use Rattle.tt_grammar.specs.TextValue.{value_of_json}
use Rattle.tt_requests.specs.LineValue.{value_of_line}
use Rattle.tt_requests.specs.Opening.{declaration, members_of_opening}
use Rattle.tt_requests.specs.Edits.{cancel, edit}
use Rattle.tt_requests.specs.Reads.{page, read, preview}
use Rattle.tt_requests.specs.Questions as questions
use Rattle.tt_requests.specs.Requests.{one_write, begin, step, end_of_repair, finish, only_true, forget, members_of_request}
use Rattle.tt_session.proofs.worked_sessions.Asking.{opened, printed, answers}

-- writes, a repair, what is forgotten of both, and what is refused before the horizon
abbrev lines_forgetting : List (List ℕ)
lines_forgetting =
    codes "{\"insert\":\"acct\",\"row\":[1,\"ann\",10]}"
    ∷ codes "{\"worker\":2,\"update\":\"acct\",\"change\":[[\"set\",\"bal\",0]],\"where\":[[\"id\",1]]}"
    ∷ codes "{\"insert\":\"acct\",\"row\":[2,\"bob\",5]}"
    ∷ codes "{\"forget\":0}"
    ∷ codes "{\"begin\":[{\"cancel\":2}]}"
    ∷ codes "{\"forget\":1}"
    ∷ codes "{\"finish\":true}"
    ∷ codes "{\"forget\":4}"
    ∷ codes "{\"forget\":1}"
    ∷ codes "{\"select\":\"acct\",\"where\":[],\"at\":1}"
    ∷ codes "{\"select\":\"acct\",\"where\":[],\"at\":0}"
    ∷ codes "{\"select\":\"acct\",\"where\":[],\"in\":0}"
    ∷ codes "{\"slots\":[0,9]}"
    ∷ codes "{\"changes\":\"now\"}"
    ∷ codes "{\"begin\":[{\"cancel\":1}]}"
    ∷ []

abbrev answers_forgetting : List (List ℕ)
answers_forgetting =
    codes "{\"call\":1,\"slot\":1,\"replies\":[\"inserted\"]}"
    ∷ codes "{\"call\":2,\"slot\":2,\"replies\":[{\"updated\":1}]}"
    ∷ codes "{\"call\":3,\"slot\":3,\"replies\":[\"inserted\"]}"
    ∷ codes "{\"call\":4,\"time\":3,\"generation\":0,\"oldest\":0,\"entries\":3,\"repair\":null}"
    ∷ codes "{\"call\":5,\"done\":0,\"left\":3,\"rerun\":0}"
    ∷ codes "{\"call\":6,\"refused\":\"repairing\"}"
    ∷ codes "{\"call\":7,\"generation\":1,\"slots\":3,\"rerun\":1}"
    ∷ codes "{\"call\":8,\"refused\":\"later\",\"now\":3}"
    ∷ codes "{\"call\":9,\"time\":3,\"generation\":1,\"oldest\":1,\"entries\":3,\"repair\":null,\"horizon\":1}"
    ∷ codes "{\"call\":10,\"time\":1,\"rows\":[[1,\"ann\",10]]}"
    ∷ codes "{\"call\":11,\"refused\":\"forgotten\",\"horizon\":1}"
    ∷ codes "{\"call\":12,\"refused\":\"no generation\",\"oldest\":1,\"newest\":1}"
    ∷ (codes "{\"call\":13,\"time\":3,\"slots\":[{\"slot\":2,\"worker\":2,\"do\":[],\"replies\":[]},{\"slot\":3,\"worker\":1,\"do\":[{\"insert\":\"acct\",\"row\":[2,\"bob\",5]}],"
    ++ codes "\"replies\":[\"inserted\"]}]}")
    ∷ codes "{\"call\":14,\"from\":2,\"changed\":[{\"call\":2,\"slot\":2,\"before\":[{\"updated\":1}],\"after\":[]}]}"
    ∷ codes "{\"call\":15,\"refused\":\"no slot\",\"slot\":1}"
    ∷ []

forgetting : printed lines_forgetting ≡ answers (opened ∷ answers_forgetting)
unfolding is_utf8 chars encode_utf8 lex content short_escape punctuate word after_number json.value json.items json.members scan_numeral number_of value_of_json value_of_line declaration members_of_opening column table_after change condition statements.insert statements.update cancel edit page read preview questions.slots questions.slot_filter questions.span questions.row_named questions.changes questions.changes_asked questions.call_kind questions.change_page one_write begin step end_of_repair finish only_true forget members_of_request row_writes dirty_after reexecuted_count digits
forgetting = refl
