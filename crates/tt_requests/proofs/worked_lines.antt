-- Lines of an input, the JSON of a few of them, and what a few of them ask for, computed.
use Rattle.std.specs.Prelude.{◌≡◌, pos, negsuc, true, false, [], ◌∷◌, None, Some, Ok, Err, codes, refl}
use Rattle.std.specs.Fmt.{digits}
use Rattle.std.specs.Char.{encode_utf8}
use Rattle.std.specs.Str.{is_utf8, chars}
use Rattle.std.specs.Float.Numeral.{scan_numeral}
use Rattle.json.specs.Json as json
use Rattle.json.specs.Lex.{lex, punctuate}
use Rattle.json.specs.Text.{content, short_escape}
use Rattle.json.specs.Word.{word, after_number}
use Rattle.serde_json.specs.Read.{number_of}
use Rattle.tt_json.specs.Text.{json_of_text}
use Rattle.tt_repair_laws.specs.declared.edit.Edit.TheVariants.{Cancel}
use Rattle.tt_grammar.specs.declared.fault.DocFault.TheVariants.{At}
use Rattle.tt_grammar.specs.declared.version.Version.TheVariants.{Two, Three}
use Rattle.tt_grammar.specs.TextValue.{value_of_json}
use Rattle.tt_grammar.proofs.worked_texts.Accounts.{accounts}
use Rattle.tt_requests.specs.declared.request.Command.TheVariants as commands
use Rattle.tt_requests.specs.Lines.{lines_of, whole_lines_of, is_passed_over}
use Rattle.tt_requests.specs.LineValue.{value_of_line}
use Rattle.tt_grammar.specs.Actions.{action}
use Rattle.tt_requests.specs.Opening.{declaration}
use Rattle.tt_requests.specs.LogOpening.{ground_numbering, members_of_log_opening, log_opening_of}
use Rattle.tt_requests.specs.GroundAction.{ground_action_of}
use Rattle.tt_requests.specs.Edits.{cancel, edit}
use Rattle.tt_requests.specs.Questions.{row_named}
use Rattle.tt_requests.specs.Reads.{slot_page, diff_page}
use Rattle.tt_requests.specs.Requests.{step, end_of_repair, finish, abort, why, diff, would, forget, only_true, bare, members_of_request, request_of}
use Rattle.tt_requests.specs.declared.session_line.SessionLine.TheVariants as lines
use Rattle.tt_requests.specs.SessionLine.{session_line_of}

-- an empty line is a line, and what stands after the last line feed is one, too
splits : lines_of (codes "a\n\nbc") ≡ codes "a" ∷ [] ∷ codes "bc" ∷ []
splits = refl

ends_in_a_line_feed : (lines_of (codes "a\n") ≡ codes "a" ∷ []) × (lines_of [] ≡ []) × (lines_of (codes "\n") ≡ [] ∷ [])
ends_in_a_line_feed = (refl, refl, refl)

whole_lines : whole_lines_of (codes "a\n\nbc") ≡ codes "a" ∷ [] ∷ []
whole_lines = refl

passed_over : (is_passed_over [] ≡ true) × (is_passed_over (codes " \t\r") ≡ true) × (is_passed_over (codes " 1") ≡ false)
passed_over = (refl, refl, refl)

-- {"step":1}
step_json : json_of_text (codes "{\"step\":1}") ≡ Some (json.object (json.member (codes "step") (json.number (codes "1")) json.no_members))
unfolding lex content short_escape punctuate word after_number json.value json.items json.members
step_json = refl

-- {"x\n":1}, whose name has a line feed
escaped_name : json_of_text (codes "{\"x\\n\":1}") ≡ Some (json.object (json.member (codes "x\n") (json.number (codes "1")) json.no_members))
unfolding lex content short_escape punctuate word after_number json.value json.items json.members
escaped_name = refl

-- two values on a line, and a line that is cut off
no_json : (json_of_text (codes "1 2") ≡ None) × (json_of_text (codes "{\"step\":") ≡ None)
unfolding lex content short_escape punctuate word after_number json.value json.items json.members
no_json = (refl, refl)

-- {"forget":1}, with its time as it is told
forget_read : request_of Two [] (value_of_line (codes "{\"forget\":1}"))
    ≡ Ok (record { worker = 1; expected = None; command = commands.Forget (record { number = 1 }) })
unfolding is_utf8 chars encode_utf8 lex content short_escape punctuate word after_number json.value json.items json.members scan_numeral number_of value_of_json value_of_line forget members_of_request
forget_read = refl

-- a time below zero
forget_below_zero : request_of Two [] (value_of_line (codes "{\"forget\":-1}")) ≡ Err (At (codes "$.forget") (codes "wrong type"))
unfolding is_utf8 chars encode_utf8 lex content short_escape punctuate word after_number json.value json.items json.members scan_numeral number_of value_of_json value_of_line forget members_of_request
forget_below_zero = refl

-- steps and ends of the repair of a worker, and of whoever began it
repair_of_worker : (request_of Two [] (value_of_line (codes "{\"step\":1,\"of\":7}"))
    ≡ Ok (record { worker = 1; expected = None; command = commands.Step 1 (Some 7) }))
    × (request_of Two [] (value_of_line (codes "{\"worker\":7,\"finish\":true,\"of\":7}"))
    ≡ Ok (record { worker = 7; expected = None; command = commands.Finish (Some 7) }))
    × (request_of Two [] (value_of_line (codes "{\"abort\":true}"))
    ≡ Ok (record { worker = 1; expected = None; command = commands.Abort None }))
unfolding is_utf8 chars encode_utf8 lex content short_escape punctuate word after_number json.value json.items json.members scan_numeral number_of value_of_json value_of_line step end_of_repair finish abort only_true members_of_request
repair_of_worker = (refl, refl, refl)

-- of the members of a command of the repair its own comes first, then the worker, then an unknown one
repair_of_no_worker : (request_of Two [] (value_of_line (codes "{\"abort\":true,\"of\":0,\"x\":1}")) ≡ Err (At (codes "$.of") (codes "out of range")))
    × (request_of Two [] (value_of_line (codes "{\"of\":4294967296,\"finish\":true}")) ≡ Err (At (codes "$.of") (codes "out of range")))
    × (request_of Two [] (value_of_line (codes "{\"of\":0,\"step\":0}")) ≡ Err (At (codes "$.step") (codes "out of range")))
    × (request_of Two [] (value_of_line (codes "{\"status\":true,\"of\":1}")) ≡ Err (At (codes "$") (codes "unknown member \"of\"")))
unfolding is_utf8 chars encode_utf8 lex content short_escape punctuate word after_number json.value json.items json.members scan_numeral number_of value_of_json value_of_line step end_of_repair finish abort bare only_true members_of_request
repair_of_no_worker = (refl, refl, refl, refl)

-- a status, in which forget is an unknown member
status_and_forget : request_of Two [] (value_of_line (codes "{\"status\":true,\"forget\":1}")) ≡ Err (At (codes "$") (codes "unknown member \"forget\""))
unfolding is_utf8 chars encode_utf8 lex content short_escape punctuate word after_number json.value json.items json.members scan_numeral number_of value_of_json value_of_line bare only_true members_of_request
status_and_forget = refl

-- why slots were re-executed by the repair under way, and by the one that closed a generation
why_read : (request_of Two [] (value_of_line (codes "{\"why\":true}"))
    ≡ Ok (record { worker = 1; expected = None; command = commands.Why None (record { after = None; most = None }) }))
    × (request_of Two [] (value_of_line (codes "{\"why\":true,\"in\":0}"))
    ≡ Ok (record { worker = 1; expected = None; command = commands.Why (Some (record { number = 0 })) (record { after = None; most = None }) }))
unfolding is_utf8 chars encode_utf8 lex content short_escape punctuate word after_number json.value json.items json.members scan_numeral number_of value_of_json value_of_line slot_page why only_true members_of_request
why_read = (refl, refl)

-- a page of them: the slots behind one, which may be 0, and so many
why_page : (request_of Two [] (value_of_line (codes "{\"most\":100000,\"after\":7,\"why\":true}"))
    ≡ Ok (record { worker = 1; expected = None; command = commands.Why None (record { after = Some (record { number = 7 }); most = Some 100000 }) }))
    × (request_of Two [] (value_of_line (codes "{\"why\":true,\"in\":2,\"after\":0}"))
    ≡ Ok (record { worker = 1; expected = None; command = commands.Why (Some (record { number = 2 })) (record { after = Some (record { number = 0 }); most = None }) }))
unfolding is_utf8 chars encode_utf8 lex content short_escape punctuate word after_number json.value json.items json.members scan_numeral number_of value_of_json value_of_line slot_page why only_true members_of_request
why_page = (refl, refl)

-- its value comes first, then the generation, the slot, how many, and an unknown member
why_faulty : (request_of Two [] (value_of_line (codes "{\"why\":false,\"in\":-1}")) ≡ Err (At (codes "$.why") (codes "out of range")))
    × (request_of Two [] (value_of_line (codes "{\"why\":true,\"after\":-1,\"in\":-1}")) ≡ Err (At (codes "$.in") (codes "wrong type")))
    × (request_of Two [] (value_of_line (codes "{\"why\":true,\"after\":-1,\"most\":0}")) ≡ Err (At (codes "$.after") (codes "wrong type")))
    × (request_of Two [] (value_of_line (codes "{\"why\":true,\"at\":1,\"most\":0}")) ≡ Err (At (codes "$.most") (codes "out of range")))
    × (request_of Two [] (value_of_line (codes "{\"why\":true,\"most\":100001}")) ≡ Err (At (codes "$.most") (codes "out of range")))
    × (request_of Two [] (value_of_line (codes "{\"why\":true,\"of\":1,\"at\":1}")) ≡ Err (At (codes "$") (codes "unknown member \"at\"")))
unfolding is_utf8 chars encode_utf8 lex content short_escape punctuate word after_number json.value json.items json.members scan_numeral number_of value_of_json value_of_line slot_page why only_true members_of_request
why_faulty = (refl, refl, refl, refl, refl, refl)

-- a kind comes before those behind it
why_among_kinds : (request_of Two [] (value_of_line (codes "{\"why\":true,\"tables\":true}")) ≡ Err (At (codes "$") (codes "unknown member \"why\"")))
    × (request_of Two [] (value_of_line (codes "{\"forget\":1,\"why\":true}")) ≡ Err (At (codes "$") (codes "unknown member \"forget\"")))
unfolding is_utf8 chars encode_utf8 lex content short_escape punctuate word after_number json.value json.items json.members scan_numeral number_of value_of_json value_of_line slot_page why bare only_true members_of_request
why_among_kinds = (refl, refl)

-- which rows differ by the repair under way, and by the one that closed a generation
diff_read : (request_of Three accounts (value_of_line (codes "{\"diff\":true}"))
    ≡ Ok (record { worker = 1; expected = None; command = commands.Diff None (record { after = None; most = None }) }))
    × (request_of Three accounts (value_of_line (codes "{\"diff\":true,\"in\":0}"))
    ≡ Ok (record { worker = 1; expected = None; command = commands.Diff (Some (record { number = 0 })) (record { after = None; most = None }) }))
unfolding is_utf8 chars encode_utf8 lex content short_escape punctuate word after_number json.value json.items json.members scan_numeral number_of value_of_json value_of_line diff_page diff only_true members_of_request
diff_read = (refl, refl)

-- a page of them: the rows behind one, by its table and its key, and so many
diff_of_a_page : (request_of Three accounts (value_of_line (codes "{\"most\":100000,\"after\":[\"acct\",3],\"diff\":true}"))
    ≡ Ok (record { worker = 1; expected = None; command = commands.Diff None (record { after = Some (record { table = 0; key = pos 3 }); most = Some 100000 }) }))
    × (request_of Three accounts (value_of_line (codes "{\"diff\":true,\"in\":2,\"after\":[\"acct\",-3]}"))
    ≡ Ok (record { worker = 1; expected = None; command = commands.Diff (Some (record { number = 2 })) (record { after = Some (record { table = 0; key = negsuc 2 }); most = None }) }))
    × (request_of Three accounts (value_of_line (codes "{\"diff\":true,\"most\":1}"))
    ≡ Ok (record { worker = 1; expected = None; command = commands.Diff None (record { after = None; most = Some 1 }) }))
unfolding is_utf8 chars encode_utf8 lex content short_escape punctuate word after_number json.value json.items json.members scan_numeral number_of value_of_json value_of_line digits row_named diff_page diff only_true members_of_request
diff_of_a_page = (refl, refl, refl)

-- its value comes first, then the generation, the row, how many, and an unknown member
diff_faulty : (request_of Three accounts (value_of_line (codes "{\"diff\":false,\"in\":-1}")) ≡ Err (At (codes "$.diff") (codes "out of range")))
    × (request_of Three accounts (value_of_line (codes "{\"diff\":true,\"after\":[],\"in\":-1}")) ≡ Err (At (codes "$.in") (codes "wrong type")))
    × (request_of Three accounts (value_of_line (codes "{\"diff\":true,\"after\":[],\"most\":0}")) ≡ Err (At (codes "$.after") (codes "wrong type")))
    × (request_of Three accounts (value_of_line (codes "{\"diff\":true,\"after\":[\"none\",true]}")) ≡ Err (At (codes "$.after[0]") (codes "no such table")))
    × (request_of Three accounts (value_of_line (codes "{\"diff\":true,\"most\":0,\"after\":[\"acct\",true]}")) ≡ Err (At (codes "$.after[1]") (codes "wrong type")))
    × (request_of Three accounts (value_of_line (codes "{\"diff\":true,\"of\":1,\"most\":0}")) ≡ Err (At (codes "$.most") (codes "out of range")))
    × (request_of Three accounts (value_of_line (codes "{\"diff\":true,\"most\":100001}")) ≡ Err (At (codes "$.most") (codes "out of range")))
    × (request_of Three accounts (value_of_line (codes "{\"diff\":true,\"of\":1,\"at\":1}")) ≡ Err (At (codes "$") (codes "unknown member \"at\"")))
unfolding is_utf8 chars encode_utf8 lex content short_escape punctuate word after_number json.value json.items json.members scan_numeral number_of value_of_json value_of_line digits row_named diff_page diff only_true members_of_request
diff_faulty = (refl, refl, refl, refl, refl, refl, refl, refl)

-- what a repair that cancels a slot would come to
would_read : (request_of Three accounts (value_of_line (codes "{\"would\":[{\"cancel\":2}]}"))
    ≡ Ok (record { worker = 1; expected = None; command = commands.Would (record { edits = Cancel 2 ∷ [] }) }))
    × (request_of Three accounts (value_of_line (codes "{\"worker\":7,\"if\":3,\"would\":[]}"))
    ≡ Ok (record { worker = 7; expected = Some (record { number = 3 }); command = commands.Would (record { edits = [] }) }))
unfolding is_utf8 chars encode_utf8 lex content short_escape punctuate word after_number json.value json.items json.members scan_numeral number_of value_of_json value_of_line cancel edit would members_of_request
would_read = (refl, refl)

-- its edits come first, then an unknown member
would_faulty : (request_of Three accounts (value_of_line (codes "{\"would\":true,\"of\":1}")) ≡ Err (At (codes "$.would") (codes "wrong type")))
    × (request_of Three accounts (value_of_line (codes "{\"of\":1,\"would\":[{\"cancel\":-2}]}")) ≡ Err (At (codes "$.would[0].cancel") (codes "wrong type")))
    × (request_of Three accounts (value_of_line (codes "{\"would\":[{}]}")) ≡ Err (At (codes "$.would[0]") (codes "missing one of cancel, replace")))
    × (request_of Three accounts (value_of_line (codes "{\"would\":[{\"cancel\":2}],\"of\":1}")) ≡ Err (At (codes "$") (codes "unknown member \"of\"")))
unfolding is_utf8 chars encode_utf8 lex content short_escape punctuate word after_number json.value json.items json.members scan_numeral number_of value_of_json value_of_line digits cancel edit would members_of_request
would_faulty = (refl, refl, refl, refl)

-- they come behind why, and before forget
would_among_kinds : (request_of Three accounts (value_of_line (codes "{\"diff\":true,\"why\":true}")) ≡ Err (At (codes "$") (codes "unknown member \"diff\"")))
    × (request_of Three accounts (value_of_line (codes "{\"would\":[],\"diff\":true}")) ≡ Err (At (codes "$") (codes "unknown member \"would\"")))
    × (request_of Three accounts (value_of_line (codes "{\"forget\":1,\"would\":[]}")) ≡ Err (At (codes "$") (codes "unknown member \"forget\"")))
unfolding is_utf8 chars encode_utf8 lex content short_escape punctuate word after_number json.value json.items json.members scan_numeral number_of value_of_json value_of_line slot_page diff_page why diff would only_true members_of_request
would_among_kinds = (refl, refl, refl)

-- a request of no kind
no_kind_read : request_of Two [] (value_of_line (codes "{}"))
    ≡ Err (At (codes "$") (codes "missing one of insert, update, delete, select, preview, do, begin, step, finish, abort, status, slots, changes, tables, why, diff, would, forget"))
unfolding is_utf8 chars encode_utf8 lex content short_escape punctuate word after_number json.value json.items json.members scan_numeral number_of value_of_json value_of_line members_of_request
no_kind_read = refl

-- the opening of a log without tables
log_opening_read : log_opening_of (value_of_line (codes "{\"version\":2,\"tables\":[],\"ground\":{\"time\":7,\"generation\":1,\"slots\":2}}"))
    ≡ Ok (record {
      opening = record { catalog = []; keep = 4; records = 100000 };
      numbering = record { horizon = 7; ground_slots = 2; generations = 1 };
    })
unfolding is_utf8 chars encode_utf8 lex content short_escape punctuate word after_number json.value json.items json.members scan_numeral number_of value_of_json value_of_line declaration ground_numbering members_of_log_opening
log_opening_read = refl

-- a ground of more slots than were forgotten
ground_too_large : log_opening_of (value_of_line (codes "{\"version\":2,\"tables\":[],\"ground\":{\"time\":1,\"generation\":1,\"slots\":2}}"))
    ≡ Err (At (codes "$.ground") (codes "out of range"))
unfolding is_utf8 chars encode_utf8 lex content short_escape punctuate word after_number json.value json.items json.members scan_numeral number_of value_of_json value_of_line declaration ground_numbering members_of_log_opening
ground_too_large = refl

-- the opening of a session
no_ground : log_opening_of (value_of_line (codes "{\"version\":2,\"tables\":[]}")) ≡ Err (At (codes "$") (codes "missing member ground"))
unfolding is_utf8 chars encode_utf8 lex content short_escape punctuate word after_number json.value json.items json.members scan_numeral number_of value_of_json value_of_line declaration members_of_log_opening
no_ground = refl

-- a slot of the ground, which has no worker
worker_of_ground : ground_action_of [] (value_of_line (codes "{\"worker\":1,\"do\":[]}")) ≡ Err (At (codes "$") (codes "unknown member \"worker\""))
unfolding is_utf8 chars encode_utf8 lex content short_escape punctuate word after_number json.value json.items json.members scan_numeral number_of value_of_json value_of_line action
worker_of_ground = refl

-- what stands in an object that has a version, whatever else it has
an_opening : (session_line_of Three [] (value_of_line (codes "{\"status\":true,\"version\":3}")) ≡ lines.Opening)
    × (session_line_of Three [] (value_of_line (codes "{\"version\":null}")) ≡ lines.Opening)
unfolding is_utf8 chars encode_utf8 lex content short_escape punctuate word after_number json.value json.items json.members scan_numeral number_of value_of_json value_of_line
an_opening = (refl, refl)

-- no object with a version, and no JSON
no_opening : (session_line_of Three [] (value_of_line (codes "[\"version\"]")) ≡ lines.Request (Err (At (codes "$") (codes "wrong type"))))
    × (session_line_of Three [] (value_of_line (codes "{\"version\":3")) ≡ lines.Request (Err (At (codes "$") (codes "not JSON"))))
    × (session_line_of Three [] (value_of_line (codes "{\"version\":3,\"version\":3}")) ≡ lines.Request (Err (At (codes "$") (codes "member \"version\" named twice"))))
unfolding is_utf8 chars encode_utf8 lex content short_escape punctuate word after_number json.value json.items json.members scan_numeral number_of value_of_json value_of_line members_of_request
no_opening = (refl, refl, refl)
