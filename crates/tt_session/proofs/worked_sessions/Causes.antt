-- Sessions that ask why slots were redone, in the midst of a repair and behind it, computed.
use Rattle.std.specs.Prelude.{◌≡◌, ℕ, List, [], ◌∷◌, ◌++◌, codes, refl}
use Rattle.std.specs.Char.{encode_utf8}
use Rattle.std.specs.Str.{is_utf8, chars}
use Rattle.std.specs.Float.Numeral.{scan_numeral}
use Rattle.std.specs.Fmt.{digits}
use Rattle.json.specs.Json as json
use Rattle.json.specs.Lex.{lex, punctuate}
use Rattle.json.specs.Text.{content, short_escape}
use Rattle.json.specs.Word.{word, after_number}
use Rattle.serde_json.specs.Read.{number_of}
use Rattle.tt_values.specs.RowWrites.{row_writes}
use Rattle.tt_repair_laws.specs.Due.{dirty_after, reexecuted_count}
use Rattle.tt_grammar.specs.Tables.{column, table_after}
use Rattle.tt_grammar.specs.Changes.{change}
use Rattle.tt_grammar.specs.Conditions.{condition}
use Rattle.tt_grammar.specs.Statements as statements
use Rattle.tt_grammar.specs.TextValue.{value_of_json}
use Rattle.tt_requests.specs.LineValue.{value_of_line}
use Rattle.tt_requests.specs.Opening.{declaration, members_of_opening}
use Rattle.tt_requests.specs.Edits.{cancel, edit}
use Rattle.tt_requests.specs.Reads.{slot_page}
use Rattle.tt_requests.specs.Requests.{one_write, begin, step, end_of_repair, finish, only_true, why, forget, members_of_request}
use Rattle.tt_session.proofs.worked_sessions.Asking.{opened, printed, answers}

-- a bad update is cancelled. The slots behind it wrote its row, read its partition, read the whole table, inserted its key, and inserted another row
abbrev lines_of_causes : List (List ℕ)
lines_of_causes =
    codes "{\"insert\":\"acct\",\"row\":[1,\"ann\",10]}"
    ∷ codes "{\"worker\":2,\"update\":\"acct\",\"change\":[[\"set\",\"bal\",0]],\"where\":[[\"id\",1]]}"
    ∷ codes "{\"update\":\"acct\",\"change\":[[\"add\",\"bal\",1]],\"where\":[[\"id\",1]]}"
    ∷ codes "{\"update\":\"acct\",\"change\":[[\"add\",\"bal\",1]],\"where\":[[\"owner\",\"ann\"],[\"bal\",7]]}"
    ∷ codes "{\"update\":\"acct\",\"change\":[[\"add\",\"bal\",1]],\"where\":[[\"bal\",7]]}"
    ∷ codes "{\"insert\":\"acct\",\"row\":[1,\"eve\",1]}"
    ∷ codes "{\"insert\":\"acct\",\"row\":[2,\"bob\",3]}"
    ∷ codes "{\"why\":true}"
    ∷ codes "{\"begin\":[{\"cancel\":2}]}"
    ∷ codes "{\"why\":true}"
    ∷ codes "{\"step\":4}"
    ∷ codes "{\"why\":true}"
    ∷ codes "{\"why\":true,\"most\":2}"
    ∷ codes "{\"why\":true,\"after\":3,\"most\":1}"
    ∷ codes "{\"why\":true,\"in\":0}"
    ∷ codes "{\"finish\":true}"
    ∷ codes "{\"why\":true}"
    ∷ codes "{\"why\":true,\"in\":0,\"after\":3}"
    ∷ codes "{\"why\":true,\"in\":1}"
    ∷ codes "{\"why\":false}"
    ∷ []

abbrev answers_of_causes : List (List ℕ)
answers_of_causes =
    codes "{\"call\":1,\"slot\":1,\"replies\":[\"inserted\"]}"
    ∷ codes "{\"call\":2,\"slot\":2,\"replies\":[{\"updated\":1}]}"
    ∷ codes "{\"call\":3,\"slot\":3,\"replies\":[{\"updated\":1}]}"
    ∷ codes "{\"call\":4,\"slot\":4,\"replies\":[{\"updated\":0}]}"
    ∷ codes "{\"call\":5,\"slot\":5,\"replies\":[{\"updated\":0}]}"
    ∷ codes "{\"call\":6,\"slot\":6,\"replies\":[\"duplicate\"]}"
    ∷ codes "{\"call\":7,\"slot\":7,\"replies\":[\"inserted\"]}"
    ∷ codes "{\"call\":8,\"refused\":\"not repairing\"}"
    ∷ codes "{\"call\":9,\"done\":0,\"left\":7,\"rerun\":0}"
    ∷ codes "{\"call\":10,\"done\":0,\"redone\":[]}"
    ∷ codes "{\"call\":11,\"done\":4,\"left\":3,\"rerun\":3}"
    ∷ (codes "{\"call\":12,\"done\":4,\"redone\":[{\"slot\":2,\"because\":\"edited\"},{\"slot\":3,\"because\":\"wrote\",\"table\":\"acct\",\"key\":1,\"since\":2},"
    ++ codes "{\"slot\":4,\"because\":\"reads\",\"table\":\"acct\",\"column\":\"owner\",\"value\":\"ann\",\"since\":2}]}")
    ∷ (codes "{\"call\":13,\"done\":4,\"redone\":[{\"slot\":2,\"because\":\"edited\"},{\"slot\":3,\"because\":\"wrote\",\"table\":\"acct\",\"key\":1,\"since\":2}],"
    ++ codes "\"more\":true}")
    ∷ (codes "{\"call\":14,\"done\":4,\"redone\":[{\"slot\":4,\"because\":\"reads\",\"table\":\"acct\",\"column\":\"owner\",\"value\":\"ann\",\"since\":2}],"
    ++ codes "\"more\":false}")
    ∷ codes "{\"call\":15,\"refused\":\"no generation\",\"oldest\":0,\"newest\":0}"
    ∷ codes "{\"call\":16,\"generation\":1,\"slots\":7,\"rerun\":5}"
    ∷ codes "{\"call\":17,\"refused\":\"not repairing\"}"
    ∷ (codes "{\"call\":18,\"done\":7,\"redone\":[{\"slot\":4,\"because\":\"reads\",\"table\":\"acct\",\"column\":\"owner\",\"value\":\"ann\",\"since\":2},"
    ++ codes "{\"slot\":5,\"because\":\"scans\",\"table\":\"acct\",\"since\":2},{\"slot\":6,\"because\":\"names\",\"table\":\"acct\",\"key\":1,\"since\":2}]}")
    ∷ codes "{\"call\":19,\"refused\":\"no generation\",\"oldest\":0,\"newest\":1}"
    ∷ codes "{\"call\":20,\"fault\":{\"path\":\"$.why\",\"cause\":\"out of range\"}}"
    ∷ []

causes : printed lines_of_causes ≡ answers (opened ∷ answers_of_causes)
unfolding is_utf8 chars encode_utf8 lex content short_escape punctuate word after_number json.value json.items json.members scan_numeral number_of value_of_json value_of_line declaration members_of_opening column table_after change condition statements.insert statements.update cancel edit slot_page one_write begin step end_of_repair finish only_true why members_of_request row_writes dirty_after reexecuted_count digits
causes = refl

-- behind a horizon slots are told by the numbers that go on, and the repair before it is forgotten
abbrev lines_behind_horizon : List (List ℕ)
lines_behind_horizon =
    codes "{\"insert\":\"acct\",\"row\":[1,\"ann\",10]}"
    ∷ codes "{\"update\":\"acct\",\"change\":[[\"set\",\"bal\",0]],\"where\":[[\"id\",1]]}"
    ∷ codes "{\"update\":\"acct\",\"change\":[[\"add\",\"bal\",1]],\"where\":[[\"id\",1]]}"
    ∷ codes "{\"update\":\"acct\",\"change\":[[\"add\",\"bal\",5]],\"where\":[[\"id\",1]]}"
    ∷ codes "{\"begin\":[{\"cancel\":4}]}"
    ∷ codes "{\"finish\":true}"
    ∷ codes "{\"why\":true,\"in\":0}"
    ∷ codes "{\"forget\":2}"
    ∷ codes "{\"why\":true,\"in\":0}"
    ∷ codes "{\"begin\":[{\"cancel\":3}]}"
    ∷ codes "{\"why\":true}"
    ∷ codes "{\"update\":\"acct\",\"change\":[[\"add\",\"bal\",2]],\"where\":[[\"id\",1]]}"
    ∷ codes "{\"step\":3}"
    ∷ codes "{\"why\":true,\"after\":1}"
    ∷ codes "{\"why\":true,\"after\":3}"
    ∷ codes "{\"finish\":true}"
    ∷ codes "{\"why\":true,\"in\":1,\"most\":1}"
    ∷ []

abbrev answers_behind_horizon : List (List ℕ)
answers_behind_horizon =
    codes "{\"call\":1,\"slot\":1,\"replies\":[\"inserted\"]}"
    ∷ codes "{\"call\":2,\"slot\":2,\"replies\":[{\"updated\":1}]}"
    ∷ codes "{\"call\":3,\"slot\":3,\"replies\":[{\"updated\":1}]}"
    ∷ codes "{\"call\":4,\"slot\":4,\"replies\":[{\"updated\":1}]}"
    ∷ codes "{\"call\":5,\"done\":0,\"left\":4,\"rerun\":0}"
    ∷ codes "{\"call\":6,\"generation\":1,\"slots\":4,\"rerun\":1}"
    ∷ codes "{\"call\":7,\"done\":4,\"redone\":[{\"slot\":4,\"because\":\"edited\"}]}"
    ∷ codes "{\"call\":8,\"time\":4,\"generation\":1,\"oldest\":1,\"entries\":3,\"repair\":null,\"horizon\":2}"
    ∷ codes "{\"call\":9,\"refused\":\"no generation\",\"oldest\":1,\"newest\":1}"
    ∷ codes "{\"call\":10,\"done\":2,\"left\":2,\"rerun\":0}"
    ∷ codes "{\"call\":11,\"done\":2,\"redone\":[]}"
    ∷ codes "{\"call\":12,\"slot\":5,\"replies\":[{\"updated\":1}]}"
    ∷ codes "{\"call\":13,\"done\":5,\"left\":0,\"rerun\":2}"
    ∷ (codes "{\"call\":14,\"done\":5,\"redone\":[{\"slot\":3,\"because\":\"edited\"},"
    ++ codes "{\"slot\":5,\"because\":\"wrote\",\"table\":\"acct\",\"key\":1,\"since\":3}]}")
    ∷ codes "{\"call\":15,\"done\":5,\"redone\":[{\"slot\":5,\"because\":\"wrote\",\"table\":\"acct\",\"key\":1,\"since\":3}]}"
    ∷ codes "{\"call\":16,\"generation\":2,\"slots\":5,\"rerun\":2}"
    ∷ codes "{\"call\":17,\"done\":5,\"redone\":[{\"slot\":3,\"because\":\"edited\"}],\"more\":true}"
    ∷ []

behind_horizon : printed lines_behind_horizon ≡ answers (opened ∷ answers_behind_horizon)
unfolding is_utf8 chars encode_utf8 lex content short_escape punctuate word after_number json.value json.items json.members scan_numeral number_of value_of_json value_of_line declaration members_of_opening column table_after change condition statements.insert statements.update cancel edit slot_page one_write begin step end_of_repair finish only_true why forget members_of_request row_writes dirty_after reexecuted_count digits
behind_horizon = refl
