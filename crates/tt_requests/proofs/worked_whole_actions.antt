-- What lines mean that say whether an action is carried out wholly or not at all, computed.
use Rattle.std.specs.Prelude.{◌≡◌, ℕ, Bool, true, false, List, [], ◌∷◌, Option, None, Some, Result, Ok, Err, codes, refl, ⊤}
use Rattle.std.specs.Fmt.{digits}
use Rattle.std.specs.Char.{encode_utf8}
use Rattle.std.specs.Str.{is_utf8, chars}
use Rattle.std.specs.Float.Numeral.{scan_numeral}
use Rattle.json.specs.Json as json
use Rattle.json.specs.Lex.{lex, punctuate}
use Rattle.json.specs.Text.{content, short_escape}
use Rattle.json.specs.Word.{word, after_number}
use Rattle.serde_json.specs.Read.{number_of}
use Rattle.tt_requests.specs.declared.told.ToldTime.{ToldTime}
use Rattle.tt_values.specs.declared.statement.Write.TheVariants as writes
use Rattle.tt_values.specs.declared.action.Action.{Action}
use Rattle.tt_repair_laws.specs.declared.edit.Edit.TheVariants.{Replace}
use Rattle.tt_grammar.specs.declared.fault.DocFault.{DocFault}
use Rattle.tt_grammar.specs.declared.fault.DocFault.TheVariants.{At}
use Rattle.tt_grammar.specs.declared.version.Version.{Version}
use Rattle.tt_grammar.specs.declared.version.Version.TheVariants.{Two, Three}
use Rattle.tt_grammar.specs.TextValue.{value_of_json}
use Rattle.tt_grammar.specs.Conditions.{condition}
use Rattle.tt_grammar.specs.Changes.{change}
use Rattle.tt_grammar.specs.Statements as statements
use Rattle.tt_grammar.specs.Actions as actions
use Rattle.tt_grammar.specs.Edits as edits
use Rattle.tt_grammar.proofs.worked_texts.Accounts.{accounts}
use Rattle.tt_requests.specs.declared.request.Command.{Command}
use Rattle.tt_requests.specs.declared.request.Command.TheVariants as commands
use Rattle.tt_requests.specs.declared.request.Request.{Request}
use Rattle.tt_requests.specs.LineValue.{value_of_line}
use Rattle.tt_requests.specs.Edits.{cancel, replace, edit}
use Rattle.tt_requests.specs.GroundAction.{ground_action_of}
use Rattle.tt_requests.specs.Requests.{one_write, several_writes, begin, only_true, bare, members_of_request, request_of}

-- what is unfolded to compute the meaning of a line, beside the definitions of its own kind
unfoldable lines_are_read : ⊤
unfolding digits is_utf8 chars encode_utf8 lex content short_escape punctuate word after_number json.value json.items json.members scan_numeral number_of value_of_json value_of_line
lines_are_read = tt

abbrev read_as : Version → List ℕ → Result Request DocFault
read_as version line = request_of version accounts (value_of_line line)

abbrev ground_read : List ℕ → Result Action DocFault
ground_read line = ground_action_of accounts (value_of_line line)

-- a fault, by its path and its cause
abbrev refused : {T : Type 0} → List ℕ → List ℕ → Result T DocFault
refused path cause = Err (At path cause)

-- an action that deletes all accounts
abbrev delete_all : Bool → Action
delete_all whole = record { writes = writes.Delete 0 [] ∷ []; whole = whole }

abbrev asked_by : ℕ → Option ToldTime → Command → Result Request DocFault
asked_by worker expected command = Ok (record { worker = worker; expected = expected; command = command })

abbrev writes_all : Bool → Result Request DocFault
writes_all whole = asked_by 1 None (commands.Write (delete_all whole) None)

-- ---- actions

-- true, false, and missing
whole_or_not : (read_as Three (codes "{\"do\":[{\"delete\":\"acct\",\"where\":[]}],\"whole\":true}") ≡ writes_all true)
    × (read_as Three (codes "{\"do\":[{\"delete\":\"acct\",\"where\":[]}],\"whole\":false}") ≡ writes_all false)
    × (read_as Three (codes "{\"do\":[{\"delete\":\"acct\",\"where\":[]}]}") ≡ writes_all false)
unfolding lines_are_read condition statements.delete actions.write actions.item_of_action actions.action several_writes members_of_request
whole_or_not = (refl, refl, refl)

-- beside a worker and the time that is expected, in any order
beside_others : read_as Three (codes "{\"whole\":true,\"if\":3,\"do\":[{\"delete\":\"acct\",\"where\":[]}],\"worker\":7}")
    ≡ asked_by 7 (Some (record { number = 3 })) (commands.Write (delete_all true) None)
unfolding lines_are_read condition statements.delete actions.write actions.item_of_action actions.action several_writes members_of_request
beside_others = refl

-- neither true nor false
wrong_types : (read_as Three (codes "{\"do\":[],\"whole\":1}") ≡ refused (codes "$.whole") (codes "wrong type"))
    × (read_as Three (codes "{\"do\":[],\"whole\":null}") ≡ refused (codes "$.whole") (codes "wrong type"))
unfolding lines_are_read actions.action several_writes members_of_request
wrong_types = (refl, refl)

-- it is judged behind the worker, the time that is expected and the writes, and before an unknown member
judged_in_order : (read_as Three (codes "{\"whole\":1,\"worker\":0,\"do\":[]}") ≡ refused (codes "$.worker") (codes "out of range"))
    × (read_as Three (codes "{\"whole\":1,\"if\":true,\"do\":[]}") ≡ refused (codes "$.if") (codes "wrong type"))
    × (read_as Three (codes "{\"whole\":1,\"do\":[{}]}") ≡ refused (codes "$.do[0]") (codes "missing one of insert, update, delete"))
    × (read_as Three (codes "{\"at\":0,\"do\":[],\"whole\":1}") ≡ refused (codes "$.whole") (codes "wrong type"))
    × (read_as Three (codes "{\"at\":0,\"do\":[],\"whole\":true}") ≡ refused (codes "$") (codes "unknown member \"at\""))
unfolding lines_are_read actions.write actions.item_of_action actions.action several_writes members_of_request
judged_in_order = (refl, refl, refl, refl, refl)

-- version 2 doesn't know it
in_version_2 : (read_as Two (codes "{\"do\":[],\"whole\":true}") ≡ refused (codes "$") (codes "unknown member \"whole\""))
    × (read_as Two (codes "{\"do\":[],\"whole\":1}") ≡ refused (codes "$") (codes "unknown member \"whole\""))
    × (read_as Two (codes "{\"do\":[{\"delete\":\"acct\",\"where\":[]}]}") ≡ writes_all false)
unfolding lines_are_read condition statements.delete actions.write actions.item_of_action actions.action several_writes members_of_request
in_version_2 = (refl, refl, refl)

-- ---- other requests, which don't know it

beside_a_write : (read_as Three (codes "{\"insert\":\"acct\",\"row\":[1,\"a\",2],\"whole\":true}") ≡ refused (codes "$") (codes "unknown member \"whole\""))
    × (read_as Three (codes "{\"update\":\"acct\",\"change\":[],\"where\":[],\"whole\":true}") ≡ refused (codes "$") (codes "unknown member \"whole\""))
    × (read_as Three (codes "{\"delete\":\"acct\",\"where\":[],\"whole\":true}") ≡ refused (codes "$") (codes "unknown member \"whole\""))
    × (read_as Three (codes "{\"do\":[{\"delete\":\"acct\",\"where\":[],\"whole\":true}]}") ≡ refused (codes "$.do[0]") (codes "unknown member \"whole\""))
unfolding lines_are_read change condition statements.insert statements.update statements.delete actions.write actions.item_of_action actions.action one_write several_writes members_of_request
beside_a_write = (refl, refl, refl, refl)

beside_a_begin : (read_as Three (codes "{\"begin\":[],\"whole\":true}") ≡ refused (codes "$") (codes "unknown member \"whole\""))
    × (read_as Three (codes "{\"status\":true,\"whole\":true}") ≡ refused (codes "$") (codes "unknown member \"whole\""))
unfolding lines_are_read begin bare only_true members_of_request
beside_a_begin = (refl, refl)

-- ---- edits

abbrev replaces : Bool → Result Request DocFault
replaces whole = asked_by 1 None (commands.Begin (record { edits = Replace 5 (delete_all whole) ∷ [] }))

replaced : (read_as Three (codes "{\"begin\":[{\"replace\":5,\"by\":{\"do\":[{\"delete\":\"acct\",\"where\":[]}],\"whole\":true}}]}") ≡ replaces true)
    × (read_as Three (codes "{\"begin\":[{\"replace\":5,\"by\":{\"do\":[{\"delete\":\"acct\",\"where\":[]}],\"whole\":false}}]}") ≡ replaces false)
    × (read_as Three (codes "{\"begin\":[{\"replace\":5,\"by\":{\"do\":[{\"delete\":\"acct\",\"where\":[]}]}}]}") ≡ replaces false)
unfolding lines_are_read condition statements.delete actions.write actions.item_of_action actions.action edits.replacement replace edit begin members_of_request
replaced = (refl, refl, refl)

refused_replacements : (read_as Three (codes "{\"begin\":[{\"replace\":5,\"by\":{\"do\":[],\"whole\":1}}]}") ≡ refused (codes "$.begin[0].by.whole") (codes "wrong type"))
    × (read_as Two (codes "{\"begin\":[{\"replace\":5,\"by\":{\"do\":[],\"whole\":true}}]}") ≡ refused (codes "$.begin[0].by") (codes "unknown member \"whole\""))
    × (read_as Three (codes "{\"begin\":[{\"replace\":5,\"by\":{\"delete\":\"acct\",\"where\":[],\"whole\":true}}]}") ≡ refused (codes "$.begin[0].by") (codes "unknown member \"whole\""))
unfolding lines_are_read condition statements.delete actions.write actions.action edits.replacement replace edit begin members_of_request
refused_replacements = (refl, refl, refl)

-- an edit itself doesn't know it
beside_an_edit : (read_as Three (codes "{\"begin\":[{\"replace\":5,\"by\":{\"do\":[]},\"whole\":true}]}") ≡ refused (codes "$.begin[0]") (codes "unknown member \"whole\""))
    × (read_as Three (codes "{\"begin\":[{\"cancel\":5,\"whole\":true}]}") ≡ refused (codes "$.begin[0]") (codes "unknown member \"whole\""))
unfolding lines_are_read actions.write actions.action edits.replacement cancel replace edit begin members_of_request
beside_an_edit = (refl, refl)

-- ---- the ground of a log

-- it has no member whole
ground : (ground_read (codes "{\"do\":[{\"delete\":\"acct\",\"where\":[]}],\"whole\":true}") ≡ refused (codes "$") (codes "unknown member \"whole\""))
    × (ground_read (codes "{\"do\":[{\"delete\":\"acct\",\"where\":[]}],\"whole\":false}") ≡ refused (codes "$") (codes "unknown member \"whole\""))
    × (ground_read (codes "{\"do\":[{\"delete\":\"acct\",\"where\":[]}]}") ≡ Ok (delete_all false))
    × (ground_read (codes "{\"do\":[],\"whole\":1}") ≡ refused (codes "$.whole") (codes "wrong type"))
    × (ground_read (codes "{\"whole\":true}") ≡ refused (codes "$") (codes "missing member do"))
unfolding lines_are_read condition statements.delete actions.write actions.item_of_action actions.action
ground = (refl, refl, refl, refl, refl)
