-- Worked lines: the stamp of a request that writes, the stamps that a question about slots asks for, and where neither is known.
use Rattle.std.specs.Prelude.{◌≡◌, ℕ, Bool, true, false, List, [], ◌∷◌, Option, None, Some, Result, Ok, Err, codes, refl, ⊤}
use Rattle.std.specs.Fmt.{digits}
use Rattle.std.specs.Char.{encode_utf8}
use Rattle.std.specs.Str.{is_utf8, chars}
use Rattle.std.specs.Float.Numeral.{scan_numeral}
use Rattle.json.specs.Json as json
use Rattle.json.specs.Lex.{lex, punctuate}
use Rattle.json.specs.Text.{content, short_escape}
use Rattle.json.specs.Word.{word, after_number}
use Rattle.serde_json.specs.Read.{number_of}
use Rattle.tt_requests.specs.declared.told.ToldTime.{ToldTime}
use Rattle.tt_values.specs.declared.statement.Write.{Write}
use Rattle.tt_values.specs.declared.statement.Write.TheVariants as writes
use Rattle.tt_values.specs.declared.action.Action.{Action}
use Rattle.tt_repair_laws.specs.declared.edit.Edit.TheVariants.{Replace}
use Rattle.tt_grammar.specs.declared.fault.DocFault.{DocFault}
use Rattle.tt_grammar.specs.declared.fault.DocFault.TheVariants.{At}
use Rattle.tt_grammar.specs.declared.version.Version.{Version}
use Rattle.tt_grammar.specs.declared.version.Version.TheVariants.{Two, Three}
use Rattle.tt_grammar.specs.TextValue.{value_of_json}
use Rattle.tt_grammar.specs.Conditions.{condition}
use Rattle.tt_grammar.specs.Changes.{change}
use Rattle.tt_grammar.specs.Statements as statements
use Rattle.tt_grammar.specs.Actions as actions
use Rattle.tt_grammar.specs.Edits as edits
use Rattle.tt_grammar.proofs.worked_texts.Accounts.{accounts}
use Rattle.tt_requests.specs.declared.request.Command.{Command}
use Rattle.tt_requests.specs.declared.request.Command.TheVariants as commands
use Rattle.tt_requests.specs.declared.request.Request.{Request}
use Rattle.tt_requests.specs.declared.request.StampRange.{StampRange}
use Rattle.tt_requests.specs.LineValue.{value_of_line}
use Rattle.tt_requests.specs.Edits.{replace, edit}
use Rattle.tt_requests.specs.Questions.{span, stamp_range, slot_filter, slots}
use Rattle.tt_requests.specs.Reads.{page, read}
use Rattle.tt_requests.specs.Requests.{one_write, several_writes, begin, only_true, bare, members_of_request, request_of}

-- what is unfolded to compute the meaning of a line, beside the definitions of its own kind
unfoldable lines_are_read : ⊤
unfolding digits is_utf8 chars encode_utf8 lex content short_escape punctuate word after_number json.value json.items json.members scan_numeral number_of value_of_json value_of_line
lines_are_read = tt

abbrev read_as : Version → List ℕ → Result Request DocFault
read_as version line = request_of version accounts (value_of_line line)

-- a fault, by its path and its cause
abbrev refused : {T : Type 0} → List ℕ → List ℕ → Result T DocFault
refused path cause = Err (At path cause)

-- a write that a request asks for, with its stamp
abbrev writes_once : Write → ℕ → Result Request DocFault
writes_once write stamp = Ok (record { worker = 1; expected = None; command = commands.Write (record { writes = write ∷ []; whole = false }) (Some stamp) })

abbrev deletes_all : Write
deletes_all = writes.Delete 0 []

-- of a write of its own and of several, up to the largest count
with_stamps : (read_as Three (codes "{\"delete\":\"acct\",\"where\":[],\"stamp\":1000}") ≡ writes_once deletes_all 1000)
    × (read_as Three (codes "{\"stamp\":0,\"do\":[{\"delete\":\"acct\",\"where\":[]}]}") ≡ writes_once deletes_all 0)
    × (read_as Three (codes "{\"delete\":\"acct\",\"where\":[],\"stamp\":18446744073709551615}") ≡ writes_once deletes_all 18446744073709551615)
unfolding lines_are_read condition statements.delete actions.write actions.item_of_action actions.action one_write several_writes members_of_request
with_stamps = (refl, refl, refl)

-- no count
wrong_types : (read_as Three (codes "{\"insert\":\"acct\",\"row\":[3,\"eve\",1],\"stamp\":-1}") ≡ refused (codes "$.stamp") (codes "wrong type"))
    × (read_as Three (codes "{\"do\":[],\"stamp\":null}") ≡ refused (codes "$.stamp") (codes "wrong type"))
unfolding lines_are_read statements.insert actions.action one_write several_writes members_of_request
wrong_types = (refl, refl)

-- it is judged behind the members of the write, and before an unknown member and the statement as a whole
judged_in_order : (read_as Three (codes "{\"insert\":\"acct\",\"row\":1,\"stamp\":-1}") ≡ refused (codes "$.row") (codes "wrong type"))
    × (read_as Three (codes "{\"insert\":\"acct\",\"row\":[],\"stamp\":-1,\"at\":1}") ≡ refused (codes "$.stamp") (codes "wrong type"))
    × (read_as Three (codes "{\"insert\":\"acct\",\"row\":[],\"stamp\":1,\"at\":1}") ≡ refused (codes "$") (codes "unknown member \"at\""))
    × (read_as Three (codes "{\"insert\":\"acct\",\"row\":[],\"stamp\":1}") ≡ refused (codes "$") (codes "row of the wrong width"))
unfolding lines_are_read statements.insert one_write members_of_request
judged_in_order = (refl, refl, refl, refl)

-- what stands within an action or an edit has none, nor has another request
unknown : (read_as Three (codes "{\"do\":[{\"delete\":\"acct\",\"where\":[],\"stamp\":1}]}") ≡ refused (codes "$.do[0]") (codes "unknown member \"stamp\""))
    × (read_as Three (codes "{\"begin\":[{\"replace\":1,\"by\":{\"delete\":\"acct\",\"where\":[],\"stamp\":1}}]}") ≡ refused (codes "$.begin[0].by") (codes "unknown member \"stamp\""))
    × (read_as Three (codes "{\"select\":\"acct\",\"where\":[],\"stamp\":1}") ≡ refused (codes "$") (codes "unknown member \"stamp\""))
    × (read_as Three (codes "{\"status\":true,\"stamp\":1}") ≡ refused (codes "$") (codes "unknown member \"stamp\""))
unfolding lines_are_read condition statements.delete actions.write actions.item_of_action actions.action several_writes replace edit edits.replacement read page begin bare only_true members_of_request
unknown = (refl, refl, refl, refl)

-- the slots with a stamp in a range, which may have none
asks_for : Option StampRange → Result Request DocFault
asks_for stamps =
    Ok (record {
      worker = 1;
      expected = None;
      command = commands.Slots (record { number = 1 }) (record { number = 9 }) (record { worker = None; row = None; stamps = stamps });
    })

of_slots : (read_as Three (codes "{\"slots\":[1,9],\"stamps\":[1500,2500]}") ≡ asks_for (Some (record { low = 1500; high = 2500 })))
    × (read_as Three (codes "{\"slots\":[1,9],\"stamps\":[2,1]}") ≡ asks_for (Some (record { low = 2; high = 1 })))
    × (read_as Three (codes "{\"slots\":[1,9]}") ≡ asks_for None)
    × (read_as Three (codes "{\"slots\":[1,3],\"stamps\":[1]}") ≡ refused (codes "$.stamps") (codes "wrong type"))
    × (read_as Three (codes "{\"slots\":[1,3],\"stamps\":[1,-1]}") ≡ refused (codes "$.stamps[1]") (codes "wrong type"))
    × (read_as Three (codes "{\"slots\":[1,3],\"stamps\":[1],\"of\":0}") ≡ refused (codes "$.of") (codes "out of range"))
unfolding lines_are_read span stamp_range slot_filter slots members_of_request asks_for
of_slots = (refl, refl, refl, refl, refl, refl)
