-- The lines of a log that is made anew are read back, and its opening opens no session.
use Rattle.std.proofs.Common.{◌≡◌, ℕ, ◌+◌, ◌^◌, ◌<◌, ◌≤◌, Bool, true, false, not, nat_lt, List, [], ◌∷◌, ◌++◌, length, map, filter, Option, None, Some, IfSome, Result, Ok, Err, Ordering, Less, Equal, Greater, nat_cmp, codes, decimal, refl, sym, ap, ◌∙◌, arith, append_assoc, length-append}
use Rattle.std.specs.Prelude.{is_err, IsErr}
use Rattle.std.specs.Bool.{⊤}
use Rattle.std.specs.List.{flat_map}
use Rattle.std.specs.Ordering.{match_ordering}
use Rattle.std.specs.Cmp.Lexicographic.{slice_cmp}
use Rattle.std.proofs.lemmas.Bool.Decides.{nat_tests}
use Rattle.std.proofs.lemmas.Bool.{le-ltb, lt-ltb}
use Rattle.std.proofs.lemmas.Fmt.{length-decimal-le}
use Rattle.std.proofs.lemmas.Grind.{flat_map-append}
use Rattle.std.proofs.lemmas.List.{map-append}
use Rattle.std.proofs.lemmas.Map.Lookups.{exact_bytes}
use Rattle.json.specs.Json as json
use Rattle.json.proofs.Printed.Decimals.{IsNumber-decimal}
use Rattle.json.proofs.Printed.Utf8.{IsUtf8-are_ascii}
use Rattle.serde_json.specs.Data.{Data, null, boolean, string, array, object, unsigned, number, Members, member, no_members}
use Rattle.serde_json.specs.Data as spec
use Rattle.serde_json.specs.Find.{get, get_member}
use Rattle.serde_json.specs.Read.{max_depth}
use Rattle.serde_json.proofs.Numbers.{number_of-decimal}
use Rattle.tt_requests.specs.Numbers.{Numbering, number_limit, IsNumbering}
use Rattle.tt_values.specs.declared.statement.Write.{Write}
use Rattle.tt_values.specs.declared.action.Action.{Action}
use Rattle.tt_values.specs.Tables.{Tables, IsCatalog}
use Rattle.tt_json.specs.Value.{member_names, least, least_unknown}
use Rattle.tt_grammar.specs.declared.fault.DocFault.{DocFault}
use Rattle.tt_grammar.specs.Fault.{◌>>=◌, with_path, document_path}
use Rattle.tt_grammar.specs.Decoder.{count_within}
use Rattle.tt_grammar.specs.Members.{is_one_of, refuse_member, no_members_but}
use Rattle.tt_grammar.specs.JsonText.{Member, number_member, further_item, member_text, members_text, object_text}
use Rattle.tt_grammar.specs.WriteText.{writes_text, whole_members, action_members}
use Rattle.tt_grammar.specs.ReadBack.{read_with}
use Rattle.tt_grammar.specs.Actions.{action}
use Rattle.tt_grammar.specs.Version.{newest_version, newest_session_version}
use Rattle.tt_grammar.specs.Edits.{replacement}
use Rattle.tt_grammar.proofs.Utf8Lemmas.{IsUtf8-object}
use Rattle.tt_grammar.proofs.JsonReadLemmas.{flag-prints, object-prints, number-prints}
use Rattle.tt_grammar.proofs.ItemReadLemmas.{IsReadBack, read-back, also-back}
use Rattle.tt_grammar.proofs.ActionReadLemmas.{json_of_writes, data_of_writes, AreWritesBack, writes-back, whole_tree, whole_data, action_tree, action_data, action-back}
use Rattle.tt_grammar.proofs.TableReadLemmas.{json_of_tables, data_of_tables, tables-back}
use Rattle.tt_grammar.proofs.LengthLemmas.{length-action, length-tables}
use Rattle.tt_requests.specs.declared.request.Command.TheVariants as commands
use Rattle.tt_requests.specs.declared.request.Request.{Request}
use Rattle.tt_requests.specs.declared.opening.Opening.{Opening}
use Rattle.tt_requests.specs.declared.log_opening.LogOpening.{LogOpening}
use Rattle.tt_requests.specs.Lines.{max_line_bytes, is_too_long}
use Rattle.tt_requests.specs.LineValue.{value_of_line}
use Rattle.tt_requests.specs.Opening.{max_keep, max_records, declaration, members_of_opening, opening_of}
use Rattle.tt_requests.specs.LogOpening.{max_ground_slots, ground_numbering, members_of_log_opening, log_opening_of}
use Rattle.tt_requests.specs.GroundAction.{members_of_ground_action, ground_action_of}
use Rattle.tt_requests.specs.Questions.{max_worker}
use Rattle.tt_requests.specs.Requests.{several_writes, members_of_request, request_of}
use Rattle.tt_requests.proofs.StepBackLemmas.{step, with_path-ok}
use Rattle.tt_answers.specs.AnswerText.{stamp_members}
use Rattle.tt_answers.specs.LogText.{ground_members, log_opening_members, log_opening_line, ground_line, slot_line}
use Rattle.tt_durable.specs.LogReadBack.{IsTakenUp, PrintedLogOpens, PrintedGroundIsRead, PrintedSlotsAreRead, OpeningsHaveNoGround}
use Rattle.tt_session.proofs.ReadBackLemmas.{length-object, digits-utf8, count-within, line-read, version-fits, version-digits}

-- ---- the JSON value of a line that is printed

same-value : (r : Result Data DocFault) (d : Data) → (r >>= λ (e : Data). Ok e) ≡ Ok d → r ≡ Ok d
same-value (Ok e) d h = h
same-value (Err fault) d h = cc

line-value : {X : Type 0} → (nested : ℕ) (j : json.Json) (line : List ℕ) (d : Data) (decode : Data → Result X DocFault) (x : X) → IsReadBack nested j line d decode x
    → nested ≤ max_depth → is_too_long line ≡ false → value_of_line line ≡ Ok d
line-value nested j line d decode x back flat short =
    let whole = also-back nested j line d decode x (λ (e : Data). Ok e) d back refl in
    let read : read_with (λ (e : Data). Ok e) line ≡ Ok d = read-back nested j line d (λ (e : Data). Ok e) d whole flat in
    same-value (value_of_line line) d (ap (λ r. r >>= λ (e : Data). Ok e) (line-read line short) ∙ read)

-- an object that isn't too long is taken up
taken-up : (members : List Member) → is_too_long (object_text members) ≡ false → IsTakenUp (object_text members)
taken-up members short = record { not_passed_over = rw short refl; not_too_long = short }

-- ---- the opening of a log

abbrev ground_tree : Numbering → json.Members
ground_tree n =
    json.member (codes "time") (json.number (decimal n.horizon))
    (json.member (codes "generation") (json.number (decimal n.generations)) (json.member (codes "slots") (json.number (decimal n.ground_slots)) json.no_members))

abbrev ground_data : Numbering → Data
ground_data n =
    spec.object (member (codes "generation") (number (unsigned n.generations))
    (member (codes "slots") (number (unsigned n.ground_slots)) (member (codes "time") (number (unsigned n.horizon)) no_members)))

ground-back : (n : Numbering) → IsNumbering n → n.ground_slots ≤ max_ground_slots
    → IsReadBack 1 (json.object (ground_tree n)) (object_text (ground_members n)) (ground_data n) ground_numbering n
unfolding ground_numbering
ground-back n is few =
    let time_fits : n.horizon < 2 ^ 64 = let below = is.time in omega arith in
    let generation_fits : n.generations < 2 ^ 64 = let below = is.generation in omega arith in
    let slots_fit : n.ground_slots < 2 ^ 64 = omega arith in
    record {
      prints = object-prints (ground_tree n) (ground_members n)
          (refl, number-prints (decimal n.horizon), (refl, number-prints (decimal n.generations), (refl, number-prints (decimal n.ground_slots), tt)));
      utf8 = IsUtf8-object (ground_members n) (
        (IsUtf8-are_ascii (codes "time") refl, digits-utf8 n.horizon time_fits),
        (
          (IsUtf8-are_ascii (codes "generation") refl, digits-utf8 n.generations generation_fits),
          ((IsUtf8-are_ascii (codes "slots") refl, digits-utf8 n.ground_slots slots_fit), tt),
        ),
      );
      numbers = (IsNumber-decimal n.horizon time_fits, (IsNumber-decimal n.generations generation_fits, (IsNumber-decimal n.ground_slots slots_fit, tt)));
      shallow = omega arith;
      stands = simp (number_of-decimal n.horizon time_fits, number_of-decimal n.generations generation_fits, number_of-decimal n.ground_slots slots_fit);
      once = refl;
      decoded = simp (lt-ltb n.horizon number_limit is.time, lt-ltb n.generations number_limit is.generation, count-within max_ground_slots n.ground_slots few, le-ltb n.horizon n.ground_slots is.within);
    }

abbrev log_tree : Tables → ℕ → ℕ → Numbering → json.Members
log_tree tables keep records n =
    json.member (codes "version") (json.number (decimal newest_session_version))
    (json.member (codes "tables") (json_of_tables tables)
    (json.member (codes "keep") (json.number (decimal keep))
    (json.member (codes "records") (json.number (decimal records)) (json.member (codes "ground") (json.object (ground_tree n)) json.no_members))))

abbrev log_data : Tables → ℕ → ℕ → Numbering → Data
log_data tables keep records n =
    spec.object (member (codes "ground") (ground_data n)
    (member (codes "keep") (number (unsigned keep))
    (member (codes "records") (number (unsigned records)) (member (codes "tables") (data_of_tables tables) (member (codes "version") (number (unsigned newest_session_version)) no_members)))))

abbrev the_opening : Tables → ℕ → ℕ → Opening
the_opening tables keep records = record { catalog = tables; keep = keep; records = records }

abbrev the_log : Tables → ℕ → ℕ → Numbering → LogOpening
the_log tables keep records n = record { opening = the_opening tables keep records; numbering = n }

log-declared : (tables : Tables) (keep records : ℕ) (n : Numbering) → IsCatalog tables → keep ≤ max_keep → records ≤ max_records
    → declaration (log_data tables keep records n) ≡ Ok (the_opening tables keep records)
unfolding declaration
log-declared tables keep records n sound few_kept few_records =
    let back = tables-back tables sound in
    simp (back.decoded, count-within max_keep keep few_kept, count-within max_records records few_records)

log-back : (tables : Tables) (keep records : ℕ) (n : Numbering) → IsCatalog tables → keep ≤ max_keep → records ≤ max_records → IsNumbering n → n.ground_slots ≤ max_ground_slots
    → IsReadBack 5 (json.object (log_tree tables keep records n)) (log_opening_line tables keep records n) (log_data tables keep records n) members_of_log_opening (the_log tables keep records n)
unfolding members_of_log_opening
log-back tables keep records n sound few_kept few_records is few_slots =
    let back = tables-back tables sound in
    let ends = ground-back n is few_slots in
    let keep_fits : keep < 2 ^ 64 = omega arith in
    let records_fit : records < 2 ^ 64 = omega arith in
    let version_fits = version-fits in
    record {
      prints = object-prints (log_tree tables keep records n) (log_opening_members tables keep records n)
          (refl, number-prints (decimal newest_session_version), (refl, back.prints, (refl, number-prints (decimal keep), (refl, number-prints (decimal records), (refl, ends.prints, tt)))));
      utf8 = IsUtf8-object (log_opening_members tables keep records n) (
        (IsUtf8-are_ascii (codes "version") refl, digits-utf8 newest_session_version version_fits),
        (
          (IsUtf8-are_ascii (codes "tables") refl, back.utf8),
          (
            (IsUtf8-are_ascii (codes "keep") refl, digits-utf8 keep keep_fits),
            ((IsUtf8-are_ascii (codes "records") refl, digits-utf8 records records_fit), ((IsUtf8-are_ascii (codes "ground") refl, ends.utf8), tt)),
          ),
        ),
      );
      numbers = (IsNumber-decimal newest_session_version version_fits, (back.numbers, (IsNumber-decimal keep keep_fits, (IsNumber-decimal records records_fit, (ends.numbers, tt)))));
      shallow = let flat = back.shallow in let low = ends.shallow in omega arith;
      stands = simp (number_of-decimal newest_session_version version_fits, back.stands, number_of-decimal keep keep_fits, number_of-decimal records records_fit, ends.stands);
      once = simp (back.once, ends.once);
      decoded = simp (log-declared tables keep records n sound few_kept few_records, ends.decoded);
    }

short_log : (tables : Tables) (keep records : ℕ) (n : Numbering) → IsCatalog tables → keep ≤ max_keep → records ≤ max_records → IsNumbering n → n.ground_slots ≤ max_ground_slots
    → is_too_long (log_opening_line tables keep records n) ≡ false
short_log tables keep records n sound few_kept few_records is few_slots =
    let all = length-tables tables sound in
    let below = is.time in
    let before = is.generation in
    let version_digits = version-digits in
    let keep_digits = length-decimal-le 20 keep (omega arith) (omega arith) (omega arith) in
    let records_digits = length-decimal-le 20 records (omega arith) (omega arith) (omega arith) in
    let time_digits = length-decimal-le 20 n.horizon (omega arith) (omega arith) (omega arith) in
    let generation_digits = length-decimal-le 20 n.generations (omega arith) (omega arith) (omega arith) in
    let slots_digits = length-decimal-le 20 n.ground_slots (omega arith) (omega arith) (omega arith) in
    let within : length (log_opening_line tables keep records n) ≤ max_line_bytes = simp length-append (omega (arith, length-append {A = ℕ})) in
    le-ltb max_line_bytes (length (log_opening_line tables keep records n)) within

-- a session has no ground
no-session : (tables : Tables) (keep records : ℕ) (n : Numbering) → IsCatalog tables → keep ≤ max_keep → records ≤ max_records → IsErr (opening_of (Ok (log_data tables keep records n)))
unfolding members_of_opening
no-session tables keep records n sound few_kept few_records = rw (log-declared tables keep records n sound few_kept few_records) refl

pub printed_log_opens : PrintedLogOpens
printed_log_opens tables keep records n sound few_kept few_records is few_slots =
    let line : List ℕ = log_opening_line tables keep records n in
    let back = log-back tables keep records n sound few_kept few_records is few_slots in
    let short = short_log tables keep records n sound few_kept few_records is few_slots in
    let value = line-value 5 (json.object (log_tree tables keep records n)) line (log_data tables keep records n) members_of_log_opening (the_log tables keep records n) back (omega arith) short in
    record {
      read = ap log_opening_of value ∙ ap (with_path document_path) back.decoded;
      no_opening = ap (λ v. is_err (opening_of v)) value ∙ no-session tables keep records n sound few_kept few_records;
      taken_up = taken-up (log_opening_members tables keep records n) short;
    }

-- ---- slots of the ground

ground-decoded : (tables : Tables) (ws : List Write) (whole : Bool) → whole ≡ false → AreWritesBack tables ws
    → members_of_ground_action tables (action_data tables (record { writes = ws; whole = whole })) ≡ Ok (record { writes = ws; whole = whole })
unfolding action
ground-decoded tables ws false none back = simp back.decoded
ground-decoded tables ws true none back = cc

ground-back-action : (tables : Tables) (action : Action) → action.whole ≡ false → AreWritesBack tables action.writes
    → IsReadBack 5 (action_tree tables action) (ground_line tables action) (action_data tables action) (members_of_ground_action tables) action
ground-back-action tables action none back =
    also-back 5 (action_tree tables action) (ground_line tables action) (action_data tables action) (replacement newest_version tables) action (members_of_ground_action tables) action
    (action-back tables action back) (ground-decoded tables action.writes action.whole none back)

pub printed_ground_is_read : PrintedGroundIsRead
printed_ground_is_read tables action catalog none sound storable =
    let line : List ℕ = ground_line tables action in
    let back = ground-back-action tables action none (writes-back tables action.writes catalog sound storable) in
    let long = length-action tables action catalog sound storable in
    let whole = length-object (action_members tables action) 7000018 long in
    let short = le-ltb max_line_bytes (length line) (omega arith) in
    let value = line-value 5 (action_tree tables action) line (action_data tables action) (members_of_ground_action tables) action back (omega arith) short in
    (ap (ground_action_of tables) value ∙ ap (with_path document_path) back.decoded, taken-up (action_members tables action) short)

-- ---- further slots

-- its stamp, if it has one, behind other members
abbrev stamp_tree : Option ℕ → json.Members
stamp_tree None = json.no_members
stamp_tree (Some s) = json.member (codes "stamp") (json.number (decimal s)) json.no_members

-- and before other members, by their names
abbrev stamp_data : Option ℕ → Members → Members
stamp_data None ms = ms
stamp_data (Some s) ms = member (codes "stamp") (number (unsigned s)) ms

abbrev slot_tree : Tables → ℕ → Action → Option ℕ → json.Members
slot_tree tables worker action stamp =
    json.member (codes "worker") (json.number (decimal worker)) (json.member (codes "do") (json_of_writes tables action.writes) (whole_tree action.whole (stamp_tree stamp)))

abbrev slot_data : Tables → ℕ → Action → Option ℕ → Data
slot_data tables worker action stamp =
    spec.object (member (codes "do") (data_of_writes tables action.writes) (stamp_data stamp (whole_data action.whole (member (codes "worker") (number (unsigned worker)) no_members))))

abbrev slot_members : Tables → ℕ → Action → Option ℕ → List Member
slot_members tables worker action stamp = number_member (codes "worker") worker ∷ action_members tables action ++ stamp_members stamp

abbrev the_request : ℕ → Action → Option ℕ → Request
the_request worker action stamp = record { worker = worker; expected = None; command = commands.Write action stamp }

abbrev IsSlotBack : Tables → ℕ → Action → Option ℕ → Type 0
IsSlotBack tables worker action stamp =
    IsReadBack 5 (json.object (slot_tree tables worker action stamp)) (slot_line tables worker action stamp) (slot_data tables worker action stamp) (members_of_request newest_version tables) (the_request worker action stamp)

worker-within : (worker : ℕ) → 1 ≤ worker → worker < 2 ^ 32 → count_within 1 max_worker (number (unsigned worker)) ≡ Ok worker
worker-within worker some few =
    let above : nat_lt worker 1 ≡ false = grind (arith, nat_tests) in
    let below : nat_lt max_worker worker ≡ false = grind (arith, nat_tests) in
    rw (above, below) refl

slot_of-back : (tables : Tables) (worker : ℕ) (ws : List Write) (whole : Bool) (stamp : Option ℕ) → 1 ≤ worker → worker < 2 ^ 32 → IfSome stamp (λ s. s < 2 ^ 64) → AreWritesBack tables ws
    → IsSlotBack tables worker (record { writes = ws; whole = whole }) stamp
unfolding members_of_request several_writes action
slot_of-back tables worker ws false None some few stamp_fits back =
    let fits : worker < 2 ^ 64 = omega arith in
    let slot : Action = record { writes = ws; whole = false } in
    record {
      prints = object-prints (slot_tree tables worker slot None) (slot_members tables worker slot None) (refl, number-prints (decimal worker), (refl, back.prints, tt));
      utf8 = IsUtf8-object (slot_members tables worker slot None) ((IsUtf8-are_ascii (codes "worker") refl, digits-utf8 worker fits), ((IsUtf8-are_ascii (codes "do") refl, back.utf8), tt));
      numbers = (IsNumber-decimal worker fits, (back.numbers, tt));
      shallow = let flat = back.shallow in omega arith;
      stands = simp (number_of-decimal worker fits, back.stands);
      once = simp back.once;
      decoded = simp (worker-within worker some few, back.decoded);
    }
slot_of-back tables worker ws false (Some s) some few stamp_fits back =
    let fits : worker < 2 ^ 64 = omega arith in
    let slot : Action = record { writes = ws; whole = false } in
    record {
      prints = object-prints (slot_tree tables worker slot (Some s)) (slot_members tables worker slot (Some s))
          (refl, number-prints (decimal worker), (refl, back.prints, (refl, number-prints (decimal s), tt)));
      utf8 = IsUtf8-object (slot_members tables worker slot (Some s)) (
        (IsUtf8-are_ascii (codes "worker") refl, digits-utf8 worker fits),
        ((IsUtf8-are_ascii (codes "do") refl, back.utf8), ((IsUtf8-are_ascii (codes "stamp") refl, digits-utf8 s stamp_fits), tt)),
      );
      numbers = (IsNumber-decimal worker fits, (back.numbers, (IsNumber-decimal s stamp_fits, tt)));
      shallow = let flat = back.shallow in omega arith;
      stands = simp (number_of-decimal worker fits, back.stands, number_of-decimal s stamp_fits);
      once = simp back.once;
      decoded = simp (worker-within worker some few, back.decoded);
    }
slot_of-back tables worker ws true None some few stamp_fits back =
    let fits : worker < 2 ^ 64 = omega arith in
    let slot : Action = record { writes = ws; whole = true } in
    record {
      prints = object-prints (slot_tree tables worker slot None) (slot_members tables worker slot None)
          (refl, number-prints (decimal worker), (refl, back.prints, (refl, flag-prints true, tt)));
      utf8 = IsUtf8-object (slot_members tables worker slot None) (
        (IsUtf8-are_ascii (codes "worker") refl, digits-utf8 worker fits),
        ((IsUtf8-are_ascii (codes "do") refl, back.utf8), ((IsUtf8-are_ascii (codes "whole") refl, IsUtf8-are_ascii (codes "true") refl), tt)),
      );
      numbers = (IsNumber-decimal worker fits, (back.numbers, (tt, tt)));
      shallow = let flat = back.shallow in omega arith;
      stands = simp (number_of-decimal worker fits, back.stands);
      once = simp back.once;
      decoded = simp (worker-within worker some few, back.decoded);
    }
slot_of-back tables worker ws true (Some s) some few stamp_fits back =
    let fits : worker < 2 ^ 64 = omega arith in
    let slot : Action = record { writes = ws; whole = true } in
    record {
      prints = object-prints (slot_tree tables worker slot (Some s)) (slot_members tables worker slot (Some s))
          (refl, number-prints (decimal worker), (refl, back.prints, (refl, flag-prints true, (refl, number-prints (decimal s), tt))));
      utf8 = IsUtf8-object (slot_members tables worker slot (Some s)) (
        (IsUtf8-are_ascii (codes "worker") refl, digits-utf8 worker fits),
        (
          (IsUtf8-are_ascii (codes "do") refl, back.utf8),
          ((IsUtf8-are_ascii (codes "whole") refl, IsUtf8-are_ascii (codes "true") refl), ((IsUtf8-are_ascii (codes "stamp") refl, digits-utf8 s stamp_fits), tt)),
        ),
      );
      numbers = (IsNumber-decimal worker fits, (back.numbers, (tt, (IsNumber-decimal s stamp_fits, tt))));
      shallow = let flat = back.shallow in omega arith;
      stands = simp (number_of-decimal worker fits, back.stands, number_of-decimal s stamp_fits);
      once = simp back.once;
      decoded = simp (worker-within worker some few, back.decoded);
    }

-- members behind a short one
length-behind : (first members : List ℕ) (most : ℕ) → length first ≤ 99 → length members ≤ most → length (first ++ (codes "," ++ members)) ≤ most + 100
length-behind first members most short few = simp length-append (omega (arith, short, few))

-- members behind a first one, and others behind these
members-append : (m : Member) (first others : List Member) → members_text (m ∷ first ++ others) ≡ members_text (m ∷ first) ++ flat_map further_item (map member_text others)
members-append m first others =
    ap (λ l. member_text m ++ flat_map further_item l) (map-append member_text first others)
    ∙ ap (λ l. member_text m ++ l) (flat_map-append further_item (map member_text first) (map member_text others))
    ∙ sym (append_assoc (member_text m) (flat_map further_item (map member_text first)) (flat_map further_item (map member_text others)))

-- a stamp is short
length-stamp : (stamp : Option ℕ) → IfSome stamp (λ s. s < 2 ^ 64) → length (flat_map further_item (map member_text (stamp_members stamp))) ≤ 99
length-stamp None fits = omega arith
length-stamp (Some s) fits =
    let digits = length-decimal-le 20 s (omega arith) (omega arith) fits in
    simp length-append (omega (arith, digits, length-append {A = ℕ}))

-- the members of an action, and its stamp
length-stamped : (tables : Tables) (action : Action) (stamp : Option ℕ) (most : ℕ) → IfSome stamp (λ s. s < 2 ^ 64) → length (members_text (action_members tables action)) ≤ most
    → length (members_text (action_members tables action ++ stamp_members stamp)) ≤ most + 99
length-stamped tables action stamp most fits few =
    let parts : members_text (action_members tables action ++ stamp_members stamp) ≡ members_text (action_members tables action) ++ flat_map further_item (map member_text (stamp_members stamp)) =
    members-append (codes "do", writes_text tables action.writes) (whole_members (codes "whole") action.whole) (stamp_members stamp) in
    omega (arith, few, length-stamp stamp fits, ap length parts, length-append (members_text (action_members tables action)) (flat_map further_item (map member_text (stamp_members stamp))))

pub printed_slots_are_read : PrintedSlotsAreRead
printed_slots_are_read tables worker action stamp catalog some few sound storable stamp_fits =
    let line : List ℕ = slot_line tables worker action stamp in
    let back : IsSlotBack tables worker action stamp = slot_of-back tables worker action.writes action.whole stamp some few stamp_fits (writes-back tables action.writes catalog sound storable) in
    let long = length-action tables action catalog sound storable in
    let digits = length-decimal-le 20 worker (omega arith) (omega arith) (omega arith) in
    let stamped = length-stamped tables action stamp 7000018 stamp_fits long in
    let all = length-behind (member_text (number_member (codes "worker") worker)) (members_text (action_members tables action ++ stamp_members stamp)) 7000117 (omega arith) stamped in
    let whole = length-object (slot_members tables worker action stamp) 7000217 all in
    let short = le-ltb max_line_bytes (length line) (omega arith) in
    let value = line-value 5 (json.object (slot_tree tables worker action stamp)) line (slot_data tables worker action stamp) (members_of_request newest_version tables) (the_request worker action stamp) back (omega arith) short in
    (ap (request_of newest_version tables) value ∙ ap (with_path document_path) back.decoded, taken-up (slot_members tables worker action stamp) short)

-- ---- what opens a session opens no log

known-is : (u : Option (List ℕ)) (t : ⊤) → refuse_member u ≡ Ok t → u ≡ None
known-is None t h = refl
known-is (Some name) t h = cc

-- where no member is unknown, none has an unknown name
no-member : (is_known : List ℕ → Bool) (name : List ℕ) (ms : Members) → is_known name ≡ false → least (filter (λ n. not (is_known n)) (member_names ms)) ≡ None → get_member name ms ≡ None
no-member is_known name no_members unknown none = refl
no-member is_known name (member l e ms) unknown none = by (λ others. no-member is_known name ms unknown others) (is_known l) refl
  where
    other : get_member name ms ≡ None → is_known l ≡ true → (order : Ordering) → slice_cmp nat_cmp name l ≡ order → match_ordering order (get_member name ms) (Some e) (get_member name ms) ≡ None
    other rest known Less c = rest
    other rest known Equal c = let same : name ≡ l = exact_bytes name l c in let both : is_known name ≡ is_known l = ap is_known same in cc
    other rest known Greater c = rest

    by : (least (filter (λ n. not (is_known n)) (member_names ms)) ≡ None → get_member name ms ≡ None) → (known : Bool) → is_known l ≡ known → get_member name (member l e ms) ≡ None
    by others true known = other (others (rw known at none)) known (slice_cmp nat_cmp name l) refl
    by others false known = let found = rw known at none in cc

no-get : (is_known : List ℕ → Bool) (name : List ℕ) (v : Data) → is_known name ≡ false → least_unknown is_known v ≡ None → get name v ≡ None
no-get is_known name null unknown none = refl
no-get is_known name (boolean b) unknown none = refl
no-get is_known name (number n) unknown none = refl
no-get is_known name (string s) unknown none = refl
no-get is_known name (array ds) unknown none = refl
no-get is_known name (object ms) unknown none = no-member is_known name ms unknown none

no-log : (v : Data) (opening : Opening) → members_of_opening v ≡ Ok opening → IsErr (log_opening_of (Ok v))
unfolding members_of_opening members_of_log_opening
no-log v opening e =
    let is_known : List ℕ → Bool = is_one_of (codes "keep" ∷ codes "records" ∷ codes "tables" ∷ codes "version" ∷ []) in
    let declared = step (declaration v) _ opening e in
    let known = step (no_members_but is_known v) _ opening declared.rest in
    let missing : get (codes "ground") v ≡ None = no-get is_known (codes "ground") v refl (known-is (least_unknown is_known v) known.value known.is) in
    rw (declared.is, missing) refl

pub openings_have_no_ground : OpeningsHaveNoGround
openings_have_no_ground value opening e =
    let read = step value members_of_opening opening (with_path-ok document_path (value >>= members_of_opening) opening e) in
    ap (λ v. is_err (log_opening_of v)) read.is ∙ no-log read.value opening read.rest
