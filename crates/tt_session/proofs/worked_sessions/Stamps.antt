-- Sessions whose slots have stamps, computed from the bytes of their lines to the bytes of their answers.
use Rattle.std.specs.Prelude.{◌≡◌, ℕ, List, [], ◌∷◌, codes, refl}
use Rattle.std.specs.Char.{encode_utf8}
use Rattle.std.specs.Str.{is_utf8, chars}
use Rattle.std.specs.Float.Numeral.{scan_numeral}
use Rattle.std.specs.Fmt.{digits}
use Rattle.json.specs.Json as json
use Rattle.json.specs.Lex.{lex, punctuate}
use Rattle.json.specs.Text.{content, short_escape}
use Rattle.json.specs.Word.{word, after_number}
use Rattle.serde_json.specs.Read.{number_of}
use Rattle.tt_values.specs.RowWrites.{row_writes}
use Rattle.tt_grammar.specs.Tables.{column, table_after}
use Rattle.tt_grammar.specs.Conditions.{condition}
use Rattle.tt_grammar.specs.Actions as actions
use Rattle.tt_grammar.specs.Statements as statements
use Rattle.tt_grammar.specs.TextValue.{value_of_json}
use Rattle.tt_requests.specs.LineValue.{value_of_line}
use Rattle.tt_requests.specs.Opening.{declaration, members_of_opening}
use Rattle.tt_requests.specs.Questions as questions
use Rattle.tt_requests.specs.Requests.{one_write, several_writes, forget, members_of_request}
use Rattle.tt_session.proofs.worked_sessions.Asking.{opened, printed, answers}

-- slots with stamps and without, and which of them are told by their stamps. Those that are forgotten lose theirs
abbrev lines_stamped : List (List ℕ)
lines_stamped =
    codes "{\"insert\":\"acct\",\"row\":[1,\"ann\",10],\"stamp\":700}"
    ∷ codes "{\"delete\":\"acct\",\"where\":[[\"id\",9]]}"
    ∷ codes "{\"worker\":2,\"stamp\":900,\"do\":[{\"delete\":\"acct\",\"where\":[[\"id\",8]]}]}"
    ∷ codes "{\"slots\":[0,9],\"stamps\":[0,800]}"
    ∷ codes "{\"insert\":\"acct\",\"row\":[2,\"bob\",5],\"stamp\":\"now\"}"
    ∷ codes "{\"forget\":2}"
    ∷ codes "{\"slots\":[0,9]}"
    ∷ codes "{\"slots\":[0,9],\"stamps\":[0,800]}"
    ∷ []

abbrev answers_stamped : List (List ℕ)
answers_stamped =
    codes "{\"call\":1,\"slot\":1,\"replies\":[\"inserted\"]}"
    ∷ codes "{\"call\":2,\"slot\":2,\"replies\":[{\"deleted\":0}]}"
    ∷ codes "{\"call\":3,\"slot\":3,\"replies\":[{\"deleted\":0}]}"
    ∷ codes "{\"call\":4,\"time\":3,\"slots\":[{\"slot\":1,\"worker\":1,\"stamp\":700,\"do\":[{\"insert\":\"acct\",\"row\":[1,\"ann\",10]}],\"replies\":[\"inserted\"]}]}"
    ∷ codes "{\"call\":5,\"fault\":{\"path\":\"$.stamp\",\"cause\":\"wrong type\"}}"
    ∷ codes "{\"call\":6,\"time\":3,\"generation\":0,\"oldest\":0,\"entries\":2,\"repair\":null,\"horizon\":2}"
    ∷ codes "{\"call\":7,\"time\":3,\"slots\":[{\"slot\":3,\"worker\":2,\"stamp\":900,\"do\":[{\"delete\":\"acct\",\"where\":[[\"id\",8]]}],\"replies\":[{\"deleted\":0}]}]}"
    ∷ codes "{\"call\":8,\"time\":3,\"slots\":[]}"
    ∷ []

stamped : printed lines_stamped ≡ answers (opened ∷ answers_stamped)
unfolding is_utf8 chars encode_utf8 lex content short_escape punctuate word after_number json.value json.items json.members scan_numeral number_of value_of_json value_of_line declaration members_of_opening column table_after condition statements.insert statements.delete actions.action actions.item_of_action actions.write questions.slots questions.slot_filter questions.span questions.row_named questions.stamp_range one_write several_writes forget members_of_request row_writes digits
stamped = refl
