-- What a few questions about changed replies ask for, and their first faults, computed.
use Rattle.std.specs.Prelude.{◌≡◌, true, false, [], None, Some, Ok, Err, codes, refl}
use Rattle.std.specs.Char.{encode_utf8}
use Rattle.std.specs.Str.{is_utf8, chars}
use Rattle.std.specs.Float.Numeral.{scan_numeral}
use Rattle.json.specs.Json as json
use Rattle.json.specs.Lex.{lex, punctuate}
use Rattle.json.specs.Text.{content, short_escape}
use Rattle.json.specs.Word.{word, after_number}
use Rattle.serde_json.specs.Read.{number_of}
use Rattle.tt_grammar.specs.declared.fault.DocFault.TheVariants.{At}
use Rattle.tt_grammar.specs.declared.version.Version.TheVariants.{Two}
use Rattle.tt_grammar.specs.TextValue.{value_of_json}
use Rattle.tt_requests.specs.declared.request.CallKind.TheVariants.{Writes, Reads}
use Rattle.tt_requests.specs.declared.request.Command.TheVariants as commands
use Rattle.tt_requests.specs.LineValue.{value_of_line}
use Rattle.tt_requests.specs.Questions.{changes_asked, call_kind, change_page, changes}
use Rattle.tt_requests.specs.Requests.{members_of_request, request_of}

-- all changed replies, told without what was asked for
changes_read : (request_of Two [] (value_of_line (codes "{\"changes\":\"now\"}"))
    ≡ Ok (record { worker = 1; expected = None; command = commands.Changes (record { worker = None; only = None; after = None; most = None; asked = false }) }))
    × (request_of Two [] (value_of_line (codes "{\"changes\":\"next\"}"))
    ≡ Ok (record { worker = 1; expected = None; command = commands.NextChanges (record { worker = None; only = None; after = None; most = None; asked = false }) }))
    × (request_of Two [] (value_of_line (codes "{\"changes\":\"now\",\"asked\":false}"))
    ≡ Ok (record { worker = 1; expected = None; command = commands.Changes (record { worker = None; only = None; after = None; most = None; asked = false }) }))
unfolding is_utf8 chars encode_utf8 lex content short_escape punctuate word after_number json.value json.items json.members scan_numeral number_of value_of_json value_of_line changes_asked call_kind change_page changes members_of_request
changes_read = (refl, refl, refl)

-- those of a worker, of a kind, behind a call, so many, and told in full
changes_page : (request_of Two [] (value_of_line (codes "{\"asked\":true,\"most\":100000,\"after\":0,\"only\":\"reads\",\"of\":4294967295,\"changes\":\"now\"}"))
    ≡ Ok (record { worker = 1; expected = None; command = commands.Changes (record { worker = Some 4294967295; only = Some Reads; after = Some 0; most = Some 100000; asked = true }) }))
    × (request_of Two [] (value_of_line (codes "{\"changes\":\"next\",\"only\":\"writes\"}"))
    ≡ Ok (record { worker = 1; expected = None; command = commands.NextChanges (record { worker = None; only = Some Writes; after = None; most = None; asked = false }) }))
unfolding is_utf8 chars encode_utf8 lex content short_escape punctuate word after_number json.value json.items json.members scan_numeral number_of value_of_json value_of_line changes_asked call_kind change_page changes members_of_request
changes_page = (refl, refl)

-- their value comes first, then the worker, the kind, the call, how many, whether they are told in full, and an unknown member
changes_faulty : (request_of Two [] (value_of_line (codes "{\"changes\":\"both\",\"of\":0}")) ≡ Err (At (codes "$.changes") (codes "out of range")))
    × (request_of Two [] (value_of_line (codes "{\"changes\":\"now\",\"of\":0,\"only\":1}")) ≡ Err (At (codes "$.of") (codes "out of range")))
    × (request_of Two [] (value_of_line (codes "{\"changes\":\"now\",\"of\":4294967296}")) ≡ Err (At (codes "$.of") (codes "out of range")))
    × (request_of Two [] (value_of_line (codes "{\"changes\":\"now\",\"only\":\"both\",\"after\":-1}")) ≡ Err (At (codes "$.only") (codes "out of range")))
    × (request_of Two [] (value_of_line (codes "{\"changes\":\"now\",\"only\":1}")) ≡ Err (At (codes "$.only") (codes "wrong type")))
    × (request_of Two [] (value_of_line (codes "{\"changes\":\"now\",\"after\":-1,\"most\":0}")) ≡ Err (At (codes "$.after") (codes "wrong type")))
    × (request_of Two [] (value_of_line (codes "{\"changes\":\"now\",\"most\":0,\"asked\":1}")) ≡ Err (At (codes "$.most") (codes "out of range")))
    × (request_of Two [] (value_of_line (codes "{\"changes\":\"now\",\"most\":100001}")) ≡ Err (At (codes "$.most") (codes "out of range")))
    × (request_of Two [] (value_of_line (codes "{\"changes\":\"now\",\"asked\":1,\"at\":1}")) ≡ Err (At (codes "$.asked") (codes "wrong type")))
    × (request_of Two [] (value_of_line (codes "{\"changes\":\"now\",\"asked\":null}")) ≡ Err (At (codes "$.asked") (codes "wrong type")))
    × (request_of Two [] (value_of_line (codes "{\"changes\":\"now\",\"in\":1,\"at\":1}")) ≡ Err (At (codes "$") (codes "unknown member \"at\"")))
unfolding is_utf8 chars encode_utf8 lex content short_escape punctuate word after_number json.value json.items json.members scan_numeral number_of value_of_json value_of_line changes_asked call_kind change_page changes members_of_request
changes_faulty = (refl, refl, refl, refl, refl, refl, refl, refl, refl, refl, refl)
