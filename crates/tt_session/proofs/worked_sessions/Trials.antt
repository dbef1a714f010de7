-- A session that asks what a repair would come to, and which rows differ in its midst and behind it, computed.
use Rattle.std.specs.Prelude.{◌≡◌, ℕ, List, [], ◌∷◌, ◌++◌, codes, refl}
use Rattle.std.specs.Char.{encode_utf8}
use Rattle.std.specs.Str.{is_utf8, chars}
use Rattle.std.specs.Float.Numeral.{scan_numeral}
use Rattle.std.specs.Fmt.{digits}
use Rattle.json.specs.Json as json
use Rattle.json.specs.Lex.{lex, punctuate}
use Rattle.json.specs.Text.{content, short_escape}
use Rattle.json.specs.Word.{word, after_number}
use Rattle.serde_json.specs.Read.{number_of}
use Rattle.tt_values.specs.RowWrites.{row_writes}
use Rattle.tt_repair_laws.specs.Due.{dirty_after, reexecuted_count}
use Rattle.tt_grammar.specs.Tables.{column, table_after}
use Rattle.tt_grammar.specs.Changes.{change}
use Rattle.tt_grammar.specs.Conditions.{condition}
use Rattle.tt_grammar.specs.Statements as statements
use Rattle.tt_grammar.specs.TextValue.{value_of_json}
use Rattle.tt_requests.specs.LineValue.{value_of_line}
use Rattle.tt_requests.specs.Opening.{declaration, members_of_opening}
use Rattle.tt_requests.specs.Edits.{cancel, edit}
use Rattle.tt_requests.specs.Questions as questions
use Rattle.tt_requests.specs.Reads.{page, diff_page, read}
use Rattle.tt_requests.specs.Requests.{one_write, begin, step, end_of_repair, finish, only_true, diff, would, bare, members_of_request}
use Rattle.tt_session.proofs.worked_sessions.Asking.{opened, printed, answers}

-- a bad update is tried: nothing is kept of that. Then the insert before it is cancelled, so that another one is no duplicate any more
abbrev lines_of_trials : List (List ℕ)
lines_of_trials =
    codes "{\"insert\":\"acct\",\"row\":[1,\"ann\",10]}"
    ∷ codes "{\"worker\":2,\"update\":\"acct\",\"change\":[[\"set\",\"bal\",0]],\"where\":[]}"
    ∷ codes "{\"worker\":3,\"select\":\"acct\",\"where\":[[\"owner\",\"ann\"]]}"
    ∷ codes "{\"would\":[{\"cancel\":2}]}"
    ∷ codes "{\"would\":[{\"cancel\":3}]}"
    ∷ codes "{\"diff\":true}"
    ∷ codes "{\"status\":true}"
    ∷ codes "{\"begin\":[{\"cancel\":1}]}"
    ∷ codes "{\"diff\":true}"
    ∷ codes "{\"would\":[{\"cancel\":2}]}"
    ∷ codes "{\"insert\":\"acct\",\"row\":[1,\"bob\",7]}"
    ∷ codes "{\"step\":3}"
    ∷ codes "{\"diff\":true}"
    ∷ codes "{\"diff\":true,\"after\":[\"acct\",0],\"most\":1}"
    ∷ codes "{\"diff\":true,\"after\":[\"acct\",1],\"most\":1}"
    ∷ codes "{\"finish\":true}"
    ∷ codes "{\"diff\":true}"
    ∷ codes "{\"diff\":true,\"in\":0}"
    ∷ codes "{\"diff\":true,\"in\":1}"
    ∷ codes "{\"diff\":false}"
    ∷ codes "{\"diff\":true,\"after\":[\"accts\",1]}"
    ∷ []

abbrev answers_of_trials : List (List ℕ)
answers_of_trials =
    codes "{\"call\":1,\"slot\":1,\"replies\":[\"inserted\"]}"
    ∷ codes "{\"call\":2,\"slot\":2,\"replies\":[{\"updated\":1}]}"
    ∷ codes "{\"call\":3,\"time\":2,\"rows\":[[1,\"ann\",0]]}"
    ∷ (codes "{\"call\":4,\"slots\":2,\"rerun\":1,\"redone\":[{\"slot\":2,\"because\":\"edited\"}],\"changed\":[{\"call\":2,\"slot\":2"
    ++ codes ",\"before\":[{\"updated\":1}],\"after\":\"cancelled\"},{\"call\":3,\"time\":2,\"before\":[[1,\"ann\",0]],\"after\":[[1,"
    ++ codes "\"ann\",10]]}],\"diff\":[{\"table\":\"acct\",\"key\":1,\"before\":[1,\"ann\",0],\"after\":[1,\"ann\",10]}]}")
    ∷ codes "{\"call\":5,\"refused\":\"no slot\",\"slot\":3}"
    ∷ codes "{\"call\":6,\"refused\":\"not repairing\"}"
    ∷ codes "{\"call\":7,\"time\":2,\"generation\":0,\"oldest\":0,\"entries\":2,\"repair\":null}"
    ∷ codes "{\"call\":8,\"done\":0,\"left\":2,\"rerun\":0}"
    ∷ codes "{\"call\":9,\"done\":0,\"diff\":[]}"
    ∷ codes "{\"call\":10,\"refused\":\"repairing\"}"
    ∷ codes "{\"call\":11,\"slot\":3,\"replies\":[\"duplicate\"]}"
    ∷ codes "{\"call\":12,\"done\":3,\"left\":0,\"rerun\":3}"
    ∷ codes "{\"call\":13,\"done\":3,\"diff\":[{\"table\":\"acct\",\"key\":1,\"before\":[1,\"ann\",0],\"after\":[1,\"bob\",7]}]}"
    ∷ (codes "{\"call\":14,\"done\":3,\"diff\":[{\"table\":\"acct\",\"key\":1,\"before\":[1,\"ann\",0],\"after\":[1,\"bob\",7]}],\"mor"
    ++ codes "e\":false}")
    ∷ codes "{\"call\":15,\"done\":3,\"diff\":[],\"more\":false}"
    ∷ codes "{\"call\":16,\"generation\":1,\"slots\":3,\"rerun\":3}"
    ∷ codes "{\"call\":17,\"refused\":\"not repairing\"}"
    ∷ codes "{\"call\":18,\"done\":3,\"diff\":[{\"table\":\"acct\",\"key\":1,\"before\":[1,\"ann\",0],\"after\":[1,\"bob\",7]}]}"
    ∷ codes "{\"call\":19,\"refused\":\"no generation\",\"oldest\":0,\"newest\":1}"
    ∷ codes "{\"call\":20,\"fault\":{\"path\":\"$.diff\",\"cause\":\"out of range\"}}"
    ∷ codes "{\"call\":21,\"fault\":{\"path\":\"$.after[0]\",\"cause\":\"no such table\"}}"
    ∷ []

trials : printed lines_of_trials ≡ answers (opened ∷ answers_of_trials)
unfolding is_utf8 chars encode_utf8 lex content short_escape punctuate word after_number json.value json.items json.members scan_numeral number_of value_of_json value_of_line declaration members_of_opening column table_after change condition statements.insert statements.update cancel edit page diff_page read questions.row_named one_write begin step end_of_repair finish only_true diff would bare members_of_request row_writes dirty_after reexecuted_count digits
trials = refl
