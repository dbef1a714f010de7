-- What lines mean as of versions, and which openings are taken, computed.
use Rattle.std.specs.Prelude.{◌≡◌, ℕ, pos, false, List, [], ◌∷◌, None, Result, Ok, Err, codes, refl}
use Rattle.std.specs.Fmt.{digits}
use Rattle.std.specs.Char.{encode_utf8}
use Rattle.std.specs.Str.{is_utf8, chars}
use Rattle.std.specs.Float.Numeral.{scan_numeral}
use Rattle.json.specs.Json as json
use Rattle.json.specs.Lex.{lex, punctuate}
use Rattle.json.specs.Text.{content, short_escape}
use Rattle.json.specs.Word.{word, after_number}
use Rattle.serde_json.specs.Read.{number_of}
use Rattle.tt_values.specs.declared.comparison.Comparison.TheVariants.{AtLeast}
use Rattle.tt_values.specs.declared.value.Value.TheVariants as values
use Rattle.tt_values.specs.declared.statement.Write.{Write}
use Rattle.tt_values.specs.declared.statement.Write.TheVariants.{Delete}
use Rattle.tt_values.specs.declared.action.Action.{Action}
use Rattle.tt_repair_laws.specs.declared.edit.Edit.TheVariants.{Replace}
use Rattle.tt_grammar.specs.declared.fault.DocFault.{DocFault}
use Rattle.tt_grammar.specs.declared.fault.DocFault.TheVariants.{At}
use Rattle.tt_grammar.specs.declared.version.Version.TheVariants.{Two, Three}
use Rattle.tt_grammar.specs.TextValue.{value_of_json}
use Rattle.tt_grammar.specs.Conditions.{condition}
use Rattle.tt_grammar.specs.Statements as statements
use Rattle.tt_grammar.specs.Actions as actions
use Rattle.tt_grammar.specs.Edits as edits
use Rattle.tt_grammar.proofs.worked_texts.Accounts.{accounts}
use Rattle.tt_requests.specs.declared.opening.Opening.{Opening}
use Rattle.tt_requests.specs.declared.request.Command.{Command}
use Rattle.tt_requests.specs.declared.request.Command.TheVariants as commands
use Rattle.tt_requests.specs.declared.request.Request.{Request}
use Rattle.tt_requests.specs.LineValue.{value_of_line}
use Rattle.tt_requests.specs.Opening.{declaration, members_of_opening, opening_of}
use Rattle.tt_requests.specs.Edits.{replace, edit}
use Rattle.tt_requests.specs.GroundAction.{ground_action_of}
use Rattle.tt_requests.specs.Requests.{one_write, begin, members_of_request, request_of}

-- ---- openings

abbrev opened : Result Opening DocFault
opened = Ok (record { catalog = []; keep = 4; records = 100000 })

openings : (opening_of (value_of_line (codes "{\"version\":2,\"tables\":[]}")) ≡ opened)
    × (opening_of (value_of_line (codes "{\"version\":3,\"tables\":[]}")) ≡ opened)
    × (opening_of (value_of_line (codes "{\"version\":4,\"tables\":[]}")) ≡ opened)
unfolding is_utf8 chars encode_utf8 lex content short_escape punctuate word after_number json.value json.items json.members scan_numeral number_of value_of_json value_of_line declaration members_of_opening
openings = (refl, refl, refl)

-- a version that sessions don't have, and one that is no count
refused_openings : (opening_of (value_of_line (codes "{\"version\":1,\"tables\":[]}")) ≡ Err (At (codes "$.version") (codes "out of range")))
    × (opening_of (value_of_line (codes "{\"version\":5,\"tables\":[]}")) ≡ Err (At (codes "$.version") (codes "out of range")))
    × (opening_of (value_of_line (codes "{\"version\":\"3\",\"tables\":[]}")) ≡ Err (At (codes "$.version") (codes "wrong type")))
unfolding is_utf8 chars encode_utf8 lex content short_escape punctuate word after_number json.value json.items json.members scan_numeral number_of value_of_json value_of_line declaration members_of_opening
refused_openings = (refl, refl, refl)

-- ---- conditions of three items

abbrev deletes : Write
deletes = Delete 0 (record { column = 0; how = AtLeast; value = values.Int (pos 1) } ∷ [])

-- the action of this write alone
abbrev deletes_once : Action
deletes_once = record { writes = deletes ∷ []; whole = false }

abbrev delete_line : List ℕ
delete_line = codes "{\"delete\":\"acct\",\"where\":[[\"id\",\">=\",1]]}"

abbrev asks : Command → Result Request DocFault
asks command = Ok (record { worker = 1; expected = None; command = command })

deleted : (request_of Three accounts (value_of_line delete_line) ≡ asks (commands.Write deletes_once None))
    × (request_of Two accounts (value_of_line delete_line) ≡ Err (At (codes "$.where[0]") (codes "wrong type")))
unfolding digits is_utf8 chars encode_utf8 lex content short_escape punctuate word after_number json.value json.items json.members scan_numeral number_of value_of_json value_of_line condition statements.delete one_write members_of_request
deleted = (refl, refl)

-- an edit that replaces the action of a slot
abbrev begin_line : List ℕ
begin_line = codes "{\"begin\":[{\"replace\":5,\"by\":{\"delete\":\"acct\",\"where\":[[\"id\",\">=\",1]]}}]}"

replaced : (request_of Three accounts (value_of_line begin_line) ≡ asks (commands.Begin (record { edits = Replace 5 deletes_once ∷ [] })))
    × (request_of Two accounts (value_of_line begin_line) ≡ Err (At (codes "$.begin[0].by.where[0]") (codes "wrong type")))
unfolding digits is_utf8 chars encode_utf8 lex content short_escape punctuate word after_number json.value json.items json.members scan_numeral number_of value_of_json value_of_line condition statements.delete actions.write edits.replacement replace edit begin members_of_request
replaced = (refl, refl)

-- a slot of the ground of a log
ground : ground_action_of accounts (value_of_line (codes "{\"do\":[{\"delete\":\"acct\",\"where\":[[\"id\",\">=\",1]]}]}")) ≡ Ok deletes_once
unfolding is_utf8 chars encode_utf8 lex content short_escape punctuate word after_number json.value json.items json.members scan_numeral number_of value_of_json value_of_line condition statements.delete actions.write actions.item_of_action actions.action
ground = refl
