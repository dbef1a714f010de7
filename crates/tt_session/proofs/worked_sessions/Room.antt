-- Room for the end of a repair, computed: where the history can hold no more entries than the limit.
use Rattle.std.specs.Prelude.{◌≡◌, ℕ, true, List, [], ◌∷◌, codes, refl}
use Rattle.std.specs.Char.{encode_utf8}
use Rattle.std.specs.Str.{is_utf8, chars}
use Rattle.std.specs.Float.Numeral.{scan_numeral}
use Rattle.std.specs.Fmt.{digits}
use Rattle.json.specs.Json as json
use Rattle.json.specs.Lex.{lex, punctuate}
use Rattle.json.specs.Text.{content, short_escape}
use Rattle.json.specs.Word.{word, after_number}
use Rattle.serde_json.specs.Read.{number_of}
use Rattle.tt_values.proofs.worked_rows.Accounts.{tables}
use Rattle.tt_values.specs.RowWrites.{row_writes}
use Rattle.tt_repair_laws.specs.Due.{dirty_after, reexecuted_count}
use Rattle.tt_db.specs.Limits.{usual_limits}
use Rattle.tt_grammar.specs.Changes.{change}
use Rattle.tt_grammar.specs.Statements as statements
use Rattle.tt_grammar.specs.TextValue.{value_of_json}
use Rattle.tt_requests.specs.LineValue.{value_of_line}
use Rattle.tt_requests.specs.Edits.{cancel, edit}
use Rattle.tt_requests.specs.Requests.{one_write, begin, end_of_repair, finish, abort, only_true, members_of_request}
use Rattle.tt_session.specs.declared.session.Session.{Session}
use Rattle.tt_session.specs.declared.session.Session.TheVariants as sessions
use Rattle.tt_requests.specs.Numbers.{nothing_forgotten}
use Rattle.tt_session.specs.Run.{turn_of_lines}
use Rattle.tt_session.proofs.worked_sessions.Asking.{no_losses, answers}

-- an open session whose history may have this many entries
abbrev limited : ℕ → Session
limited entries = sessions.Open (record {
  database = record { catalog = tables; limits = record usual_limits { events = entries }; history = [] };
  numbering = nothing_forgotten;
  stamps = [];
  records = [];
  most_records = 0;
  calls = 0;
  has_opening = true;
})

-- what it prints for lines
abbrev printed_within : ℕ → List (List ℕ) → List ℕ
printed_within entries lines = (turn_of_lines no_losses 1 (limited entries) lines).text

-- two slots, the beginning of a repair, two steps and the switch are six entries
abbrev lines_six_entries : List (List ℕ)
lines_six_entries =
    codes "{\"insert\":\"acct\",\"row\":[1,\"ann\",10]}"
    ∷ codes "{\"update\":\"acct\",\"change\":[[\"set\",\"bal\",0]],\"where\":[]}"
    ∷ codes "{\"begin\":[{\"cancel\":2}]}"
    ∷ codes "{\"insert\":\"acct\",\"row\":[1,\"bob\",1]}"
    ∷ codes "{\"finish\":true}"
    ∷ []

abbrev answers_six_entries : List (List ℕ)
answers_six_entries =
    codes "{\"call\":1,\"slot\":1,\"replies\":[\"inserted\"]}"
    ∷ codes "{\"call\":2,\"slot\":2,\"replies\":[{\"updated\":1}]}"
    ∷ codes "{\"call\":3,\"done\":0,\"left\":2,\"rerun\":0}"
    ∷ codes "{\"call\":4,\"refused\":\"full\",\"limit\":6}"
    ∷ codes "{\"call\":5,\"generation\":1,\"slots\":2,\"rerun\":1}"
    ∷ []

six_entries : printed_within 6 lines_six_entries ≡ answers (answers_six_entries)
unfolding is_utf8 chars encode_utf8 lex content short_escape punctuate word after_number json.value json.items json.members scan_numeral number_of value_of_json value_of_line change statements.insert statements.update cancel edit one_write begin end_of_repair finish only_true members_of_request row_writes dirty_after reexecuted_count digits
six_entries = refl

-- in the same room the repair can be given up
abbrev lines_given_up : List (List ℕ)
lines_given_up =
    codes "{\"insert\":\"acct\",\"row\":[1,\"ann\",10]}"
    ∷ codes "{\"update\":\"acct\",\"change\":[[\"set\",\"bal\",0]],\"where\":[]}"
    ∷ codes "{\"begin\":[{\"cancel\":2}]}"
    ∷ codes "{\"abort\":true}"
    ∷ []

abbrev answers_given_up : List (List ℕ)
answers_given_up =
    codes "{\"call\":1,\"slot\":1,\"replies\":[\"inserted\"]}"
    ∷ codes "{\"call\":2,\"slot\":2,\"replies\":[{\"updated\":1}]}"
    ∷ codes "{\"call\":3,\"done\":0,\"left\":2,\"rerun\":0}"
    ∷ codes "{\"call\":4,\"time\":2,\"generation\":0,\"oldest\":0,\"entries\":4,\"repair\":null}"
    ∷ []

given_up : printed_within 6 lines_given_up ≡ answers (answers_given_up)
unfolding is_utf8 chars encode_utf8 lex content short_escape punctuate word after_number json.value json.items json.members scan_numeral number_of value_of_json value_of_line change statements.insert statements.update cancel edit one_write begin end_of_repair abort only_true members_of_request row_writes dirty_after reexecuted_count digits
given_up = refl

-- one entry less
abbrev lines_five_entries : List (List ℕ)
lines_five_entries =
    codes "{\"insert\":\"acct\",\"row\":[1,\"ann\",10]}"
    ∷ codes "{\"update\":\"acct\",\"change\":[[\"set\",\"bal\",0]],\"where\":[]}"
    ∷ codes "{\"begin\":[{\"cancel\":2}]}"
    ∷ codes "{\"finish\":true}"
    ∷ []

abbrev answers_five_entries : List (List ℕ)
answers_five_entries =
    codes "{\"call\":1,\"slot\":1,\"replies\":[\"inserted\"]}"
    ∷ codes "{\"call\":2,\"slot\":2,\"replies\":[{\"updated\":1}]}"
    ∷ codes "{\"call\":3,\"refused\":\"full\",\"limit\":5}"
    ∷ codes "{\"call\":4,\"refused\":\"not repairing\"}"
    ∷ []

five_entries : printed_within 5 lines_five_entries ≡ answers (answers_five_entries)
unfolding is_utf8 chars encode_utf8 lex content short_escape punctuate word after_number json.value json.items json.members scan_numeral number_of value_of_json value_of_line change statements.insert statements.update cancel edit one_write begin end_of_repair finish only_true members_of_request row_writes dirty_after reexecuted_count digits
five_entries = refl

-- a write makes two entries more: its own, and its step
abbrev lines_eight_entries : List (List ℕ)
lines_eight_entries =
    codes "{\"insert\":\"acct\",\"row\":[1,\"ann\",10]}"
    ∷ codes "{\"update\":\"acct\",\"change\":[[\"set\",\"bal\",0]],\"where\":[]}"
    ∷ codes "{\"begin\":[{\"cancel\":2}]}"
    ∷ codes "{\"insert\":\"acct\",\"row\":[1,\"bob\",1]}"
    ∷ codes "{\"finish\":true}"
    ∷ []

abbrev answers_eight_entries : List (List ℕ)
answers_eight_entries =
    codes "{\"call\":1,\"slot\":1,\"replies\":[\"inserted\"]}"
    ∷ codes "{\"call\":2,\"slot\":2,\"replies\":[{\"updated\":1}]}"
    ∷ codes "{\"call\":3,\"done\":0,\"left\":2,\"rerun\":0}"
    ∷ codes "{\"call\":4,\"slot\":3,\"replies\":[\"duplicate\"]}"
    ∷ codes "{\"call\":5,\"generation\":1,\"slots\":3,\"rerun\":2}"
    ∷ []

eight_entries : printed_within 8 lines_eight_entries ≡ answers (answers_eight_entries)
unfolding is_utf8 chars encode_utf8 lex content short_escape punctuate word after_number json.value json.items json.members scan_numeral number_of value_of_json value_of_line change statements.insert statements.update cancel edit one_write begin end_of_repair finish only_true members_of_request row_writes dirty_after reexecuted_count digits
eight_entries = refl

-- one entry less
abbrev lines_seven_entries : List (List ℕ)
lines_seven_entries =
    codes "{\"insert\":\"acct\",\"row\":[1,\"ann\",10]}"
    ∷ codes "{\"update\":\"acct\",\"change\":[[\"set\",\"bal\",0]],\"where\":[]}"
    ∷ codes "{\"begin\":[{\"cancel\":2}]}"
    ∷ codes "{\"insert\":\"acct\",\"row\":[1,\"bob\",1]}"
    ∷ codes "{\"finish\":true}"
    ∷ []

abbrev answers_seven_entries : List (List ℕ)
answers_seven_entries =
    codes "{\"call\":1,\"slot\":1,\"replies\":[\"inserted\"]}"
    ∷ codes "{\"call\":2,\"slot\":2,\"replies\":[{\"updated\":1}]}"
    ∷ codes "{\"call\":3,\"done\":0,\"left\":2,\"rerun\":0}"
    ∷ codes "{\"call\":4,\"refused\":\"full\",\"limit\":7}"
    ∷ codes "{\"call\":5,\"generation\":1,\"slots\":2,\"rerun\":1}"
    ∷ []

seven_entries : printed_within 7 lines_seven_entries ≡ answers (answers_seven_entries)
unfolding is_utf8 chars encode_utf8 lex content short_escape punctuate word after_number json.value json.items json.members scan_numeral number_of value_of_json value_of_line change statements.insert statements.update cancel edit one_write begin end_of_repair finish only_true members_of_request row_writes dirty_after reexecuted_count digits
seven_entries = refl
