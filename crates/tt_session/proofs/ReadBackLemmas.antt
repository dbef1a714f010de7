-- A printed write or action, put under `by`, is read as the same, and printed tables open a session with the same tables.
use Rattle.std.proofs.Common.{◌≡◌, ℕ, suc, ◌+◌, ◌^◌, ◌<◌, ◌≤◌, nat_lt, false, List, [], ◌∷◌, length, None, Ok, IsUtf8, codes, decimal, refl, ap, ◌∙◌, arith, length-append}
use Rattle.std.proofs.lemmas.Bool.Decides.{nat_tests}
use Rattle.std.proofs.lemmas.Bool.{le-ltb}
use Rattle.std.proofs.lemmas.Fmt.{IsAscii-decimal, length-decimal-le}
use Rattle.std.proofs.lemmas.Str.{IsUtf8-from_ascii}
use Rattle.json.specs.Json as json
use Rattle.json.proofs.Printed.Decimals.{IsNumber-decimal}
use Rattle.json.proofs.Printed.Utf8.{IsUtf8-are_ascii}
use Rattle.serde_json.specs.Data.{Data, unsigned, number, member, no_members, no_items, item}
use Rattle.serde_json.specs.Data as spec
use Rattle.serde_json.proofs.Numbers.{number_of-decimal}
use Rattle.tt_values.specs.declared.action.Action.{Action}
use Rattle.tt_values.specs.Action.{action_of}
use Rattle.tt_values.specs.Tables.{Tables, IsCatalog}
use Rattle.tt_repair_laws.specs.declared.edit.Edit.TheVariants.{Replace}
use Rattle.tt_grammar.specs.Fault.{with_path, document_path}
use Rattle.tt_grammar.specs.Decoder.{count_within}
use Rattle.tt_grammar.specs.Edits.{replacement}
use Rattle.tt_grammar.specs.TextValue.{json_of_bytes, value_of_found}
use Rattle.tt_grammar.specs.Version.{newest_version, newest_session_version}
use Rattle.tt_requests.specs.declared.request.Command.TheVariants as commands
use Rattle.tt_requests.specs.declared.request.Request.{Request}
use Rattle.tt_requests.specs.declared.opening.Opening.{Opening}
use Rattle.tt_requests.specs.Edits.{replace, edit}
use Rattle.tt_requests.specs.LineValue.{value_of_line}
use Rattle.tt_requests.specs.Lines.{max_line_bytes, is_too_long}
use Rattle.tt_requests.specs.Opening.{max_keep, max_records, declaration, members_of_opening, opening_of}
use Rattle.tt_requests.specs.Requests.{begin, members_of_request, usual_worker, request_of}
use Rattle.tt_grammar.specs.JsonText.{Member, array_text, number_member, members_text, object_text}
use Rattle.tt_grammar.specs.WriteText.{write_text, action_members}
use Rattle.tt_answers.specs.AnswerText.{declared_members}
use Rattle.tt_grammar.specs.ReadBack.{read_with}
use Rattle.tt_grammar.proofs.Utf8Lemmas.{IsUtf8-array, IsUtf8-object}
use Rattle.tt_grammar.proofs.JsonReadLemmas.{object-prints, array-prints, number-prints}
use Rattle.tt_grammar.proofs.ItemReadLemmas.{IsReadBack, read-back}
use Rattle.tt_grammar.proofs.WriteReadLemmas.{json_of_write, data_of_write, write-back, replacing-back}
use Rattle.tt_grammar.proofs.ActionReadLemmas.{action_tree, action_data, writes-back, action-back}
use Rattle.tt_grammar.proofs.TableReadLemmas.{json_of_tables, data_of_tables, tables-back}
use Rattle.tt_grammar.proofs.LengthLemmas.{length-write, length-action, length-tables}
use Rattle.tt_session.specs.ReadBack.{opening_line, PrintedTablesOpen, Replaces, PrintedWritesReplace, replacing_text, replacing_line, PrintedActionsReplace}

pub digits-utf8 : (n : ℕ) → n < 2 ^ 64 → IsUtf8 (decimal n)
digits-utf8 n fits = IsUtf8-from_ascii (decimal n) (IsAscii-decimal n fits)

-- ---- an edit, and the line that begins a repair with it, with the tree of what stands under `by`, its text, and what it stands for

abbrev edit_tree : ℕ → json.Json → json.Members
edit_tree slot by = json.member (codes "replace") (json.number (decimal slot)) (json.member (codes "by") by json.no_members)

abbrev edit_data : ℕ → Data → Data
edit_data slot by = spec.object (member (codes "by") by (member (codes "replace") (number (unsigned slot)) no_members))

abbrev edit_members : ℕ → List ℕ → List Member
edit_members slot text = number_member (codes "replace") slot ∷ (codes "by", text) ∷ []

edit-back : (tables : Tables) (slot nested : ℕ) (by : json.Json) (text : List ℕ) (d : Data) (action : Action) → slot < 2 ^ 64
    → IsReadBack nested by text d (replacement newest_version tables) action
    → IsReadBack (suc nested) (json.object (edit_tree slot by)) (replacing_text slot text) (edit_data slot d) (edit newest_version tables) (Replace slot action)
unfolding edit replace
edit-back tables slot nested by text d action fits back = record {
  prints = object-prints (edit_tree slot by) (edit_members slot text) (refl, number-prints (decimal slot), (refl, back.prints, tt));
  utf8 = IsUtf8-object (edit_members slot text) ((IsUtf8-are_ascii (codes "replace") refl, digits-utf8 slot fits), ((IsUtf8-are_ascii (codes "by") refl, back.utf8), tt));
  numbers = (IsNumber-decimal slot fits, (back.numbers, tt));
  shallow = let flat = back.shallow in omega arith;
  stands = simp (number_of-decimal slot fits, back.stands);
  once = simp back.once;
  decoded = simp back.decoded;
}

abbrev line_items : ℕ → json.Json → json.Items
line_items slot by = json.item (json.object (edit_tree slot by)) json.no_items

abbrev line_tree : ℕ → json.Json → json.Members
line_tree slot by = json.member (codes "begin") (json.array (line_items slot by)) json.no_members

abbrev line_data : ℕ → Data → Data
line_data slot d = spec.object (member (codes "begin") (spec.array (item (edit_data slot d) no_items)) no_members)

abbrev line_members : ℕ → List ℕ → List Member
line_members slot text = (codes "begin", array_text (replacing_text slot text ∷ [])) ∷ []

abbrev the_request : ℕ → Action → Request
the_request slot action = record { worker = usual_worker; expected = None; command = commands.Begin (record { edits = Replace slot action ∷ [] }) }

line-back : (tables : Tables) (slot nested : ℕ) (by : json.Json) (text : List ℕ) (d : Data) (action : Action)
    → IsReadBack nested (json.object (edit_tree slot by)) (replacing_text slot text) (edit_data slot d) (edit newest_version tables) (Replace slot action)
    → IsReadBack (nested + 2) (json.object (line_tree slot by)) (replacing_line slot text) (line_data slot d) (members_of_request newest_version tables) (the_request slot action)
unfolding members_of_request begin
line-back tables slot nested by text d action back =
    let printed = array-prints (line_items slot by) (replacing_text slot text ∷ []) (back.prints, tt) in
    record {
      prints = object-prints (line_tree slot by) (line_members slot text) (refl, printed, tt);
      utf8 = IsUtf8-object (line_members slot text) ((IsUtf8-are_ascii (codes "begin") refl, IsUtf8-array (replacing_text slot text ∷ []) (back.utf8, tt)), tt);
      numbers = ((back.numbers, tt), tt);
      shallow = let flat = back.shallow in omega arith;
      stands = simp back.stands;
      once = simp back.once;
      decoded = simp back.decoded;
    }

-- a line that isn't too long is read as its bytes are
pub line-read : (line : List ℕ) → is_too_long line ≡ false → value_of_line line ≡ value_of_found (json_of_bytes line)
unfolding value_of_line
line-read line short = rw short refl

short_line : (slot : ℕ) (text : List ℕ) → slot < 2 ^ 64 → length text ≤ 8000000 → is_too_long (replacing_line slot text) ≡ false
short_line slot text fits short =
    let digits = length-decimal-le 20 slot (omega arith) (omega arith) fits in
    let within : length (replacing_line slot text) ≤ max_line_bytes = simp length-append (omega (arith, length-append {A = ℕ})) in
    le-ltb max_line_bytes (length (replacing_line slot text)) within

replaces : (tables : Tables) (nested : ℕ) (by : json.Json) (text : List ℕ) (d : Data) (action : Action) → IsReadBack nested by text d (replacement newest_version tables) action
    → nested ≤ 100 → length text ≤ 8000000 → Replaces tables text action
replaces tables nested by text d action back flat short slot fits =
    let line : List ℕ = replacing_line slot text in
    let whole = line-back tables slot (suc nested) by text d action (edit-back tables slot nested by text d action fits back) in
    let read : read_with (members_of_request newest_version tables) line ≡ Ok (the_request slot action) =
    read-back (suc nested + 2) (json.object (line_tree slot by)) line (line_data slot d) (members_of_request newest_version tables) (the_request slot action) whole (omega arith) in
    ap (request_of newest_version tables) (line-read line (short_line slot text fits short)) ∙ ap (with_path document_path) read

-- an object is little longer than its members
pub length-object : (ms : List Member) (most : ℕ) → length (members_text ms) ≤ most → length (object_text ms) ≤ most + 2
length-object ms most few = simp length-append (omega (arith, few))

pub printed_writes_replace : PrintedWritesReplace
printed_writes_replace tables w catalog sound storable =
    let short = length-write tables w catalog sound storable in
    replaces tables 3 (json_of_write tables w) (write_text tables w) (data_of_write tables w) (action_of (w ∷ [])) (replacing-back tables w (write-back tables w catalog sound storable)) (omega arith) (omega arith)

pub printed_actions_replace : PrintedActionsReplace
printed_actions_replace tables action catalog sound storable =
    let text : List ℕ = object_text (action_members tables action) in
    let members = length-action tables action catalog sound storable in
    let short = length-object (action_members tables action) 7000018 members in
    replaces tables 5 (action_tree tables action) text (action_data tables action) action (action-back tables action (writes-back tables action.writes catalog sound storable)) (omega arith) (omega arith)

-- ---- an opening

pub version-fits : newest_session_version < 2 ^ 64
version-fits = omega arith

pub version-digits : length (decimal newest_session_version) ≤ 20
version-digits = length-decimal-le 20 4 (omega arith) (omega arith) (omega arith)

abbrev opening_tree : Tables → ℕ → ℕ → json.Members
opening_tree tables keep records =
    json.member (codes "version") (json.number (decimal newest_session_version))
    (json.member (codes "tables") (json_of_tables tables)
    (json.member (codes "keep") (json.number (decimal keep)) (json.member (codes "records") (json.number (decimal records)) json.no_members)))

abbrev opening_data : Tables → ℕ → ℕ → Data
opening_data tables keep records =
    spec.object (member (codes "keep") (number (unsigned keep))
    (member (codes "records") (number (unsigned records)) (member (codes "tables") (data_of_tables tables) (member (codes "version") (number (unsigned newest_session_version)) no_members))))

pub count-within : (max n : ℕ) → n ≤ max → count_within 0 max (number (unsigned n)) ≡ Ok n
count-within max n h =
    let above : nat_lt n 0 ≡ false = grind (arith, nat_tests) in
    let below : nat_lt max n ≡ false = grind (arith, nat_tests) in
    rw (above, below) refl

opening-back : (tables : Tables) (keep records : ℕ) → IsCatalog tables → keep ≤ max_keep → records ≤ max_records
    → IsReadBack 5 (json.object (opening_tree tables keep records)) (opening_line tables keep records) (opening_data tables keep records) members_of_opening
    (record { catalog = tables; keep = keep; records = records })
unfolding members_of_opening declaration
opening-back tables keep records sound few_kept few_records =
    let back = tables-back tables sound in
    let keep_fits : keep < 2 ^ 64 = omega arith in
    let records_fit : records < 2 ^ 64 = omega arith in
    let version_fits = version-fits in
    record {
      prints = object-prints (opening_tree tables keep records) (declared_members tables keep records)
          (refl, number-prints (decimal newest_session_version), (refl, back.prints, (refl, number-prints (decimal keep), (refl, number-prints (decimal records), tt))));
      utf8 = IsUtf8-object (declared_members tables keep records) (
        (IsUtf8-are_ascii (codes "version") refl, digits-utf8 newest_session_version version_fits),
        (
          (IsUtf8-are_ascii (codes "tables") refl, back.utf8),
          ((IsUtf8-are_ascii (codes "keep") refl, digits-utf8 keep keep_fits), ((IsUtf8-are_ascii (codes "records") refl, digits-utf8 records records_fit), tt)),
        ),
      );
      numbers = (IsNumber-decimal newest_session_version version_fits, (back.numbers, (IsNumber-decimal keep keep_fits, (IsNumber-decimal records records_fit, tt))));
      shallow = let flat = back.shallow in omega arith;
      stands = simp (number_of-decimal newest_session_version version_fits, back.stands, number_of-decimal keep keep_fits, number_of-decimal records records_fit);
      once = simp back.once;
      decoded = simp (back.decoded, count-within max_keep keep few_kept, count-within max_records records few_records);
    }

short_opening : (tables : Tables) (keep records : ℕ) → IsCatalog tables → keep ≤ max_keep → records ≤ max_records → is_too_long (opening_line tables keep records) ≡ false
short_opening tables keep records sound few_kept few_records =
    let all = length-tables tables sound in
    let version_digits = version-digits in
    let keep_digits = length-decimal-le 20 keep (omega arith) (omega arith) (omega arith) in
    let records_digits = length-decimal-le 20 records (omega arith) (omega arith) (omega arith) in
    let within : length (opening_line tables keep records) ≤ max_line_bytes = simp length-append (omega (arith, length-append {A = ℕ})) in
    le-ltb max_line_bytes (length (opening_line tables keep records)) within

pub printed_tables_open : PrintedTablesOpen
printed_tables_open tables keep records sound few_kept few_records =
    let line : List ℕ = opening_line tables keep records in
    let opening : Opening = record { catalog = tables; keep = keep; records = records } in
    let back = opening-back tables keep records sound few_kept few_records in
    let read : read_with members_of_opening line ≡ Ok opening =
    read-back 5 (json.object (opening_tree tables keep records)) line (opening_data tables keep records) members_of_opening opening back (omega arith) in
    ap opening_of (line-read line (short_opening tables keep records sound few_kept few_records)) ∙ ap (with_path document_path) read
