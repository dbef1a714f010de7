-- A session with whole actions, computed.
use Rattle.std.specs.Prelude.{◌≡◌, ℕ, List, [], ◌∷◌, ◌++◌, codes, refl}
use Rattle.std.specs.Char.{encode_utf8}
use Rattle.std.specs.Str.{is_utf8, chars}
use Rattle.std.specs.Float.Numeral.{scan_numeral}
use Rattle.std.specs.Fmt.{digits}
use Rattle.json.specs.Json as json
use Rattle.json.specs.Lex.{lex, punctuate}
use Rattle.json.specs.Text.{content, short_escape}
use Rattle.json.specs.Word.{word, after_number}
use Rattle.serde_json.specs.Read.{number_of}
use Rattle.tt_values.specs.RowWrites.{row_writes}
use Rattle.tt_repair_laws.specs.Due.{dirty_after, reexecuted_count}
use Rattle.tt_grammar.specs.Tables.{column, table_after}
use Rattle.tt_grammar.specs.Changes.{change}
use Rattle.tt_grammar.specs.Conditions.{condition}
use Rattle.tt_grammar.specs.Statements as statements
use Rattle.tt_grammar.specs.Actions as actions
use Rattle.tt_grammar.specs.Edits.{replacement}
use Rattle.tt_grammar.specs.TextValue.{value_of_json}
use Rattle.tt_requests.specs.LineValue.{value_of_line}
use Rattle.tt_requests.specs.Opening.{declaration, members_of_opening}
use Rattle.tt_requests.specs.Edits.{replace, edit}
use Rattle.tt_requests.specs.Reads.{page, read}
use Rattle.tt_requests.specs.Questions as questions
use Rattle.tt_requests.specs.Requests.{one_write, several_writes, begin, end_of_repair, finish, only_true, members_of_request}
use Rattle.tt_session.specs.Run.{session_text}
use Rattle.tt_session.proofs.worked_sessions.Asking.{no_losses, opened, answers}

-- a whole action whose first write matches no row writes nothing, until another one is replaced
abbrev lines_whole : List (List ℕ)
lines_whole =
    (codes "{\"version\":3,\"tables\":[{\"name\":\"acct\",\"columns\":[{\"name\":\"id\",\"kind\":\"int\"},{\"name\":\"bal\",\"kind\":\"int\"}]}]}")
    ∷ codes "{\"insert\":\"acct\",\"row\":[1,10]}"
    ∷ codes "{\"do\":[{\"update\":\"acct\",\"change\":[[\"add\",\"bal\",-5]],\"where\":[[\"id\",1]]},{\"insert\":\"acct\",\"row\":[2,5]}],\"whole\":true}"
    ∷ codes "{\"do\":[{\"update\":\"acct\",\"change\":[[\"add\",\"bal\",-6]],\"where\":[[\"id\",1],[\"bal\",\">=\",6]]},{\"insert\":\"acct\",\"row\":[3,6]}],\"whole\":true}"
    ∷ codes "{\"select\":\"acct\",\"where\":[]}"
    ∷ codes "{\"begin\":[{\"replace\":2,\"by\":{\"do\":[],\"whole\":true}}]}"
    ∷ codes "{\"finish\":true}"
    ∷ codes "{\"select\":\"acct\",\"where\":[]}"
    ∷ codes "{\"slots\":[2,3]}"
    ∷ codes "{\"begin\":[{\"replace\":3,\"by\":{\"do\":[]}}]}"
    ∷ codes "{\"finish\":true}"
    ∷ codes "{\"slots\":[3,3]}"
    ∷ []

abbrev answers_whole : List (List ℕ)
answers_whole =
    codes "{\"call\":1,\"slot\":1,\"replies\":[\"inserted\"]}"
    ∷ codes "{\"call\":2,\"slot\":2,\"replies\":[{\"updated\":1},\"inserted\"]}"
    ∷ codes "{\"call\":3,\"slot\":3,\"replies\":[{\"updated\":0}]}"
    ∷ codes "{\"call\":4,\"time\":3,\"rows\":[[1,5],[2,5]]}"
    ∷ codes "{\"call\":5,\"done\":0,\"left\":3,\"rerun\":0}"
    ∷ codes "{\"call\":6,\"generation\":1,\"slots\":3,\"rerun\":2}"
    ∷ codes "{\"call\":7,\"time\":3,\"rows\":[[1,4],[3,6]]}"
    ∷ (codes "{\"call\":8,\"time\":3,\"slots\":[{\"slot\":2,\"worker\":1,\"do\":[],\"whole\":true,\"replies\":[],\"asked\":[{\"update\":\"acct\",\"change\":"
    ++ (codes "[[\"add\",\"bal\",-5]],\"where\":[[\"id\",1]]},{\"insert\":\"acct\",\"row\":[2,5]}],\"asked_whole\":true},{\"slot\":3,\"worker\":1,"
    ++ (codes "\"do\":[{\"update\":\"acct\",\"change\":[[\"add\",\"bal\",-6]],\"where\":[[\"id\",1],[\"bal\",\">=\",6]]},{\"insert\":\"acct\",\"row\":[3,6]}],"
    ++ codes "\"whole\":true,\"replies\":[{\"updated\":1},\"inserted\"]}]}")))
    ∷ codes "{\"call\":9,\"done\":0,\"left\":3,\"rerun\":0}"
    ∷ codes "{\"call\":10,\"generation\":2,\"slots\":3,\"rerun\":1}"
    ∷ (codes "{\"call\":11,\"time\":3,\"slots\":[{\"slot\":3,\"worker\":1,\"do\":[],\"replies\":[],\"asked\":[{\"update\":\"acct\",\"change\":"
    ++ (codes "[[\"add\",\"bal\",-6]],\"where\":[[\"id\",1],[\"bal\",\">=\",6]]},{\"insert\":\"acct\",\"row\":[3,6]}],\"asked_whole\":true}]}"))
    ∷ []

whole : session_text lines_whole no_losses ≡ answers (opened ∷ answers_whole)
unfolding is_utf8 chars encode_utf8 lex content short_escape punctuate word after_number json.value json.items json.members scan_numeral number_of value_of_json value_of_line declaration members_of_opening column table_after change condition statements.insert statements.update actions.action actions.item_of_action actions.write replacement replace edit page read questions.slots questions.slot_filter questions.span questions.row_named one_write several_writes begin end_of_repair finish only_true members_of_request row_writes dirty_after reexecuted_count digits
whole = refl
