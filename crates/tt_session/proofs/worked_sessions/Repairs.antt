-- A session with a replaced action, and with what is refused around a repair, computed.
use Rattle.std.specs.Prelude.{◌≡◌, ℕ, List, [], ◌∷◌, ◌++◌, codes, refl}
use Rattle.std.specs.Char.{encode_utf8}
use Rattle.std.specs.Str.{is_utf8, chars}
use Rattle.std.specs.Float.Numeral.{scan_numeral}
use Rattle.std.specs.Fmt.{digits}
use Rattle.json.specs.Json as json
use Rattle.json.specs.Lex.{lex, punctuate}
use Rattle.json.specs.Text.{content, short_escape}
use Rattle.json.specs.Word.{word, after_number}
use Rattle.serde_json.specs.Read.{number_of}
use Rattle.tt_values.specs.RowWrites.{row_writes}
use Rattle.tt_repair_laws.specs.Due.{dirty_after, reexecuted_count}
use Rattle.tt_grammar.specs.Tables.{column, table_after}
use Rattle.tt_grammar.specs.Conditions.{condition}
use Rattle.tt_grammar.specs.Statements as statements
use Rattle.tt_grammar.specs.Actions as actions
use Rattle.tt_grammar.specs.Edits.{replacement}
use Rattle.tt_grammar.specs.TextValue.{value_of_json}
use Rattle.tt_requests.specs.LineValue.{value_of_line}
use Rattle.tt_requests.specs.Opening.{declaration, members_of_opening}
use Rattle.tt_requests.specs.Edits.{cancel, replace, edit}
use Rattle.tt_requests.specs.Reads.{page, read, preview}
use Rattle.tt_requests.specs.Questions as questions
use Rattle.tt_requests.specs.Requests.{one_write, several_writes, begin, step, end_of_repair, finish, abort, bare, only_true, members_of_request}
use Rattle.tt_session.specs.Run.{session_text}
use Rattle.tt_session.proofs.worked_sessions.Asking.{no_losses, opened, printed, answers}

-- two records are kept; the action of a slot is replaced, and its reply stays the same, but not the rows of a select
abbrev lines_replaced_action : List (List ℕ)
lines_replaced_action =
    (codes "{\"version\":2,\"tables\":[{\"name\":\"acct\",\"columns\":[{\"name\":\"id\",\"kind\":\"int\"},{\"name\":\"owner\",\"kind\":\"text\","
    ++ codes "\"partition\":true},{\"name\":\"bal\",\"kind\":\"int\"}]}],\"records\":2}")
    ∷ codes "{\"insert\":\"acct\",\"row\":[1,\"ann\",10]}"
    ∷ codes "{\"worker\":3,\"do\":[{\"insert\":\"acct\",\"row\":[2,\"bob\",5]},{\"delete\":\"acct\",\"where\":[[\"id\",3]]}]}"
    ∷ codes "{\"select\":\"acct\",\"where\":[]}"
    ∷ codes "{\"begin\":[{\"replace\":1,\"by\":{\"insert\":\"acct\",\"row\":[1,\"eve\",7]}}]}"
    ∷ codes "{\"begin\":[]}"
    ∷ codes "{\"step\":9}"
    ∷ codes "{\"step\":1}"
    ∷ codes "{\"changes\":\"next\"}"
    ∷ codes "{\"preview\":\"acct\",\"where\":[],\"most\":1}"
    ∷ codes "{\"changes\":\"now\"}"
    ∷ codes "{\"finish\":true}"
    ∷ codes "{\"changes\":\"now\"}"
    ∷ codes "{\"select\":\"acct\",\"where\":[],\"in\":0,\"at\":1}"
    ∷ codes "{\"select\":\"acct\",\"where\":[],\"in\":2,\"at\":9}"
    ∷ codes "{\"select\":\"acct\",\"where\":[],\"in\":0,\"at\":9}"
    ∷ codes "{\"slots\":[0,9],\"of\":1}"
    ∷ codes "{\"begin\":[{\"cancel\":1},{\"cancel\":1}]}"
    ∷ codes "{\"begin\":[{\"cancel\":0}]}"
    ∷ codes "{\"preview\":\"acct\",\"where\":[]}"
    ∷ codes "{\"changes\":\"next\"}"
    ∷ codes "{\"step\":1}"
    ∷ codes "{\"select\":\"acct\",\"where\":[],\"after\":1,\"most\":1}"
    ∷ []

abbrev answers_replaced_action : List (List ℕ)
answers_replaced_action =
    codes "{\"time\":0,\"generation\":0,\"oldest\":0,\"entries\":0,\"repair\":null}"
    ∷ codes "{\"call\":1,\"slot\":1,\"replies\":[\"inserted\"]}"
    ∷ codes "{\"call\":2,\"slot\":2,\"replies\":[\"inserted\",{\"deleted\":0}]}"
    ∷ codes "{\"call\":3,\"time\":2,\"rows\":[[1,\"ann\",10],[2,\"bob\",5]]}"
    ∷ codes "{\"call\":4,\"done\":0,\"left\":2,\"rerun\":0}"
    ∷ codes "{\"call\":5,\"refused\":\"repairing\"}"
    ∷ codes "{\"call\":6,\"done\":2,\"left\":0,\"rerun\":1}"
    ∷ codes "{\"call\":7,\"done\":2,\"left\":0,\"rerun\":1}"
    ∷ (codes "{\"call\":8,\"from\":2,\"changed\":[{\"call\":3,\"time\":2,\"before\":[[1,\"ann\",10],[2,\"bob\",5]],\"after\":[[1,\"eve\",7],[2,\"bob\","
    ++ codes "5]]}]}")
    ∷ codes "{\"call\":9,\"done\":2,\"rows\":[[1,\"eve\",7]],\"more\":true}"
    ∷ codes "{\"call\":10,\"from\":2,\"changed\":[]}"
    ∷ codes "{\"call\":11,\"generation\":1,\"slots\":2,\"rerun\":1}"
    ∷ (codes "{\"call\":12,\"from\":2,\"changed\":[{\"call\":3,\"time\":2,\"before\":[[1,\"ann\",10],[2,\"bob\",5]],\"after\":[[1,\"eve\",7],[2,\"bob\","
    ++ codes "5]]}]}")
    ∷ codes "{\"call\":13,\"time\":1,\"rows\":[[1,\"ann\",10]]}"
    ∷ codes "{\"call\":14,\"refused\":\"no generation\",\"oldest\":0,\"newest\":1}"
    ∷ codes "{\"call\":15,\"refused\":\"later\",\"now\":2}"
    ∷ (codes "{\"call\":16,\"time\":2,\"slots\":[{\"slot\":1,\"worker\":1,\"do\":[{\"insert\":\"acct\",\"row\":[1,\"eve\",7]}],\"replies\":[\"inserted\"],"
    ++ codes "\"asked\":[{\"insert\":\"acct\",\"row\":[1,\"ann\",10]}]}]}")
    ∷ codes "{\"call\":17,\"refused\":\"edited twice\",\"slot\":1}"
    ∷ codes "{\"call\":18,\"refused\":\"no slot\",\"slot\":0}"
    ∷ codes "{\"call\":19,\"refused\":\"not repairing\"}"
    ∷ codes "{\"call\":20,\"refused\":\"not repairing\"}"
    ∷ codes "{\"call\":21,\"refused\":\"not repairing\"}"
    ∷ codes "{\"call\":22,\"time\":2,\"rows\":[[2,\"bob\",5]],\"more\":false}"
    ∷ []

replaced_action : session_text lines_replaced_action no_losses ≡ answers (answers_replaced_action)
unfolding is_utf8 chars encode_utf8 lex content short_escape punctuate word after_number json.value json.items json.members scan_numeral number_of value_of_json value_of_line declaration members_of_opening column table_after condition statements.insert statements.delete actions.action actions.item_of_action actions.write replacement cancel replace edit page read preview questions.slots questions.slot_filter questions.span questions.row_named questions.changes questions.changes_asked questions.call_kind questions.change_page one_write several_writes begin step end_of_repair finish only_true members_of_request row_writes dirty_after reexecuted_count digits
replaced_action = refl

-- what is for the repair of another worker than worker 2, who began it, is refused, and whoever asks for its end: worker 1 may end it
abbrev lines_of_workers : List (List ℕ)
lines_of_workers =
    codes "{\"insert\":\"acct\",\"row\":[1,\"ann\",10]}"
    ∷ codes "{\"finish\":true,\"of\":2}"
    ∷ codes "{\"worker\":2,\"begin\":[{\"cancel\":1}]}"
    ∷ codes "{\"worker\":7,\"finish\":true,\"of\":7}"
    ∷ codes "{\"step\":1,\"of\":7}"
    ∷ codes "{\"status\":true}"
    ∷ codes "{\"step\":1,\"of\":2}"
    ∷ codes "{\"abort\":true,\"of\":1}"
    ∷ codes "{\"abort\":true,\"of\":0}"
    ∷ codes "{\"finish\":true,\"of\":2}"
    ∷ codes "{\"abort\":true,\"of\":2}"
    ∷ []

abbrev answers_of_workers : List (List ℕ)
answers_of_workers =
    opened
    ∷ codes "{\"call\":1,\"slot\":1,\"replies\":[\"inserted\"]}"
    ∷ codes "{\"call\":2,\"refused\":\"not repairing\"}"
    ∷ codes "{\"call\":3,\"done\":0,\"left\":1,\"rerun\":0}"
    ∷ codes "{\"call\":4,\"refused\":\"repair of another\",\"worker\":2}"
    ∷ codes "{\"call\":5,\"refused\":\"repair of another\",\"worker\":2}"
    ∷ (codes "{\"call\":6,\"time\":1,\"generation\":0,\"oldest\":0,\"entries\":2,\"repair\":"
    ++ codes "{\"done\":0,\"left\":1,\"rerun\":0,\"worker\":2}}")
    ∷ codes "{\"call\":7,\"done\":1,\"left\":0,\"rerun\":1}"
    ∷ codes "{\"call\":8,\"refused\":\"repair of another\",\"worker\":2}"
    ∷ codes "{\"call\":9,\"fault\":{\"path\":\"$.of\",\"cause\":\"out of range\"}}"
    ∷ codes "{\"call\":10,\"generation\":1,\"slots\":1,\"rerun\":1}"
    ∷ codes "{\"call\":11,\"refused\":\"not repairing\"}"
    ∷ []

repair_of_workers : printed lines_of_workers ≡ answers answers_of_workers
unfolding is_utf8 chars encode_utf8 lex content short_escape punctuate word after_number json.value json.items json.members scan_numeral number_of value_of_json value_of_line declaration members_of_opening column table_after statements.insert cancel edit one_write begin step end_of_repair finish abort bare only_true members_of_request row_writes dirty_after reexecuted_count digits
repair_of_workers = refl
