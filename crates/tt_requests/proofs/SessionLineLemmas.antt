-- No request has a version.
use Rattle.std.proofs.Common.{◌≡◌, Bool, ℕ, false, List, [], ◌∷◌, Result, Ok, Err, IfOk, OnOk, codes, refl, sym, ap, ◌∙◌, ◌≢◌}
use Rattle.std.specs.Prelude.{is_some}
use Rattle.serde_json.specs.Data.{Data}
use Rattle.tt_values.specs.declared.statement.Write.{Write}
use Rattle.tt_values.specs.Tables.{Tables}
use Rattle.tt_grammar.specs.declared.fault.DocFault.{DocFault}
use Rattle.tt_grammar.specs.declared.statements.Context.TheVariants as contexts
use Rattle.tt_grammar.specs.declared.version.Version.{Version}
use Rattle.tt_grammar.specs.declared.version.Version.TheVariants.{One, Two, Three}
use Rattle.tt_grammar.specs.declared.fault.DocFault.TheVariants.{At, Memory}
use Rattle.tt_grammar.specs.Fault.{document_path, fault_at, IsFault, FailsWith}
use Rattle.tt_grammar.specs.Decoder.{object, count_within, has, member, optional}
use Rattle.tt_grammar.specs.Members.{is_one_of}
use Rattle.tt_grammar.specs.Arrays.{array_of}
use Rattle.tt_grammar.specs.Changes.{change}
use Rattle.tt_grammar.specs.Conditions.{value, table_named}
use Rattle.tt_grammar.specs.Statements.{conditions, stamp, no_members_at, insert, update, delete}
use Rattle.tt_grammar.specs.Actions.{writes, is_whole, members_of_action, action}
use Rattle.tt_grammar.proofs.KnownLemmas.{are_known, not_there}
use Rattle.tt_requests.specs.declared.kinds.RequestKind.{RequestKind}
use Rattle.tt_requests.specs.declared.kinds.RequestKind.TheVariants as kinds
use Rattle.tt_requests.specs.declared.request.Command.{Command}
use Rattle.tt_requests.specs.declared.request.Command.TheVariants as commands
use Rattle.tt_requests.specs.declared.request.Request.{Request}
use Rattle.tt_requests.specs.Kinds.{kind_of}
use Rattle.tt_requests.specs.Told.{named_time, named_generation}
use Rattle.tt_requests.specs.Edits.{edits}
use Rattle.tt_requests.specs.Reads.{page, slot_page, diff_page, read, preview}
use Rattle.tt_requests.specs.Questions.{worker_number, span, row_named, slots, changes_asked, changes}
use Rattle.tt_requests.specs.Requests.{one_write, several_writes, begin, max_steps, end_of_repair, finish, abort, why, diff, would, forget, only_true, bare, command_of, command, members_of_request, request_of}
use Rattle.tt_requests.specs.Requests as requests
use Rattle.tt_requests.specs.Questions as questions
use Rattle.tt_requests.specs.declared.session_line.SessionLine.{SessionLine}
use Rattle.tt_requests.specs.declared.session_line.SessionLine.TheVariants as lines
use Rattle.tt_requests.specs.SessionLine.{is_opening, session_line_of, RequestsAreNoOpenings}
use Rattle.tt_requests.proofs.StepBackLemmas.{step, with_path-ok}

-- whatever is read without a fault has no version
abbrev HasNone : {T : Type 0} → (Data → Result T DocFault) → Type 0
HasNone {T} reading = (v : Data) (t : T) → reading v ≡ Ok t → has (codes "version") v ≡ false

-- an object of a request whose members have these names
none-at : (names : List (List ℕ)) → is_one_of (codes "if" ∷ codes "worker" ∷ names) (codes "version") ≡ false → HasNone (no_members_at contexts.Request names)
none-at names unknown v t e =
    ap is_some (not_there (is_one_of (codes "if" ∷ codes "worker" ∷ names)) (codes "version") v unknown (are_known (is_one_of (codes "if" ∷ codes "worker" ∷ names)) v e))

-- an object of a request that writes, beside its stamp
none-at-write : (names : List (List ℕ)) → is_one_of (codes "if" ∷ codes "worker" ∷ codes "stamp" ∷ names) (codes "version") ≡ false → HasNone (no_members_at contexts.WriteRequest names)
none-at-write names unknown v t e =
    let is_known : List ℕ → Bool = is_one_of (codes "if" ∷ codes "worker" ∷ codes "stamp" ∷ names) in
    let stamped = step (stamp v) _ t e in
    ap is_some (not_there is_known (codes "version") v unknown (are_known is_known v stamped.rest))

-- ---- statements and actions

insert-none : (tables : Tables) → HasNone (insert tables contexts.WriteRequest)
unfolding insert
insert-none tables v w e =
    let table = step (member (codes "insert") (table_named tables) v) _ w e in
    let values = step (member (codes "row") (array_of value) v) _ w table.rest in
    let known = step (no_members_at contexts.WriteRequest (codes "insert" ∷ codes "row" ∷ []) v) _ w values.rest in
    none-at-write (codes "insert" ∷ codes "row" ∷ []) refl v known.value known.is

update-none : (version : Version) (tables : Tables) → HasNone (update version tables contexts.WriteRequest)
unfolding update
update-none version tables v w e =
    let table = step (member (codes "update") (table_named tables) v) _ w e in
    let changes = step (member (codes "change") (array_of (change tables table.value)) v) _ w table.rest in
    let equals = step (conditions version tables table.value v) _ w changes.rest in
    let known = step (no_members_at contexts.WriteRequest (codes "change" ∷ codes "update" ∷ codes "where" ∷ []) v) _ w equals.rest in
    none-at-write (codes "change" ∷ codes "update" ∷ codes "where" ∷ []) refl v known.value known.is

delete-none : (version : Version) (tables : Tables) → HasNone (delete version tables contexts.WriteRequest)
unfolding delete
delete-none version tables v w e =
    let table = step (member (codes "delete") (table_named tables) v) _ w e in
    let equals = step (conditions version tables table.value v) _ w table.rest in
    let known = step (no_members_at contexts.WriteRequest (codes "delete" ∷ codes "where" ∷ []) v) _ w equals.rest in
    none-at-write (codes "delete" ∷ codes "where" ∷ []) refl v known.value known.is

unknown-of_action : (version : Version) → is_one_of (codes "if" ∷ codes "worker" ∷ codes "stamp" ∷ members_of_action version) (codes "version") ≡ false
unknown-of_action One = refl
unknown-of_action Two = refl
unknown-of_action Three = refl

action-none : (version : Version) (tables : Tables) → HasNone (action version tables contexts.WriteRequest)
unfolding action
action-none version tables v a e =
    let read = step (member (codes "do") (writes version tables) v) _ a e in
    let whole = step (is_whole version v) _ a read.rest in
    let known = step (no_members_at contexts.WriteRequest (members_of_action version) v) _ a whole.rest in
    none-at-write (members_of_action version) (unknown-of_action version) v known.value known.is

-- ---- commands, by their kinds

one_write-none : (reading : Data → Result Write DocFault) → HasNone reading → HasNone (λ v. one_write (reading v) v)
unfolding one_write
one_write-none reading none v asked e =
    let write = step (reading v) _ asked e in
    none v write.value write.is

several_writes-none : (version : Version) (tables : Tables) → HasNone (several_writes version tables)
unfolding several_writes
several_writes-none version tables v asked e =
    let read = step (action version tables contexts.WriteRequest v) _ asked e in
    action-none version tables v read.value read.is

read-none : (version : Version) (tables : Tables) → HasNone (read version tables)
unfolding read
read-none version tables v asked e =
    let table = step (member (codes "select") (table_named tables) v) _ asked e in
    let equals = step (conditions version tables table.value v) _ asked table.rest in
    let time = step (optional (codes "at") named_time v) _ asked equals.rest in
    let generation = step (optional (codes "in") named_generation v) _ asked time.rest in
    let wanted = step (page v) _ asked generation.rest in
    let known = step (no_members_at contexts.Request (codes "after" ∷ codes "at" ∷ codes "in" ∷ codes "most" ∷ codes "select" ∷ codes "where" ∷ []) v) _ asked wanted.rest in
    none-at (codes "after" ∷ codes "at" ∷ codes "in" ∷ codes "most" ∷ codes "select" ∷ codes "where" ∷ []) refl v known.value known.is

preview-none : (version : Version) (tables : Tables) → HasNone (preview version tables)
unfolding preview
preview-none version tables v asked e =
    let table = step (member (codes "preview") (table_named tables) v) _ asked e in
    let equals = step (conditions version tables table.value v) _ asked table.rest in
    let wanted = step (page v) _ asked equals.rest in
    let known = step (no_members_at contexts.Request (codes "after" ∷ codes "most" ∷ codes "preview" ∷ codes "where" ∷ []) v) _ asked wanted.rest in
    none-at (codes "after" ∷ codes "most" ∷ codes "preview" ∷ codes "where" ∷ []) refl v known.value known.is

begin-none : (version : Version) (tables : Tables) → HasNone (begin version tables)
unfolding begin
begin-none version tables v asked e =
    let read = step (member (codes "begin") (edits version tables) v) _ asked e in
    let known = step (no_members_at contexts.Request (codes "begin" ∷ []) v) _ asked read.rest in
    none-at (codes "begin" ∷ []) refl v known.value known.is

step-none : HasNone requests.step
unfolding requests.step
step-none v asked e =
    let most = step (member (codes "step") (count_within 1 max_steps) v) _ asked e in
    let worker = step (optional (codes "of") worker_number v) _ asked most.rest in
    let known = step (no_members_at contexts.Request (codes "of" ∷ codes "step" ∷ []) v) _ asked worker.rest in
    none-at (codes "of" ∷ codes "step" ∷ []) refl v known.value known.is

end-none : (name : List ℕ) → is_one_of (codes "if" ∷ codes "worker" ∷ codes "of" ∷ name ∷ []) (codes "version") ≡ false → HasNone (end_of_repair name)
unfolding end_of_repair
end-none name unknown v told e =
    let is_true = step (member name only_true v) _ told e in
    let worker = step (optional (codes "of") worker_number v) _ told is_true.rest in
    let known = step (no_members_at contexts.Request (codes "of" ∷ name ∷ []) v) _ told worker.rest in
    none-at (codes "of" ∷ name ∷ []) unknown v known.value known.is

finish-none : HasNone finish
unfolding finish
finish-none v asked e =
    let told = step (end_of_repair (codes "finish") v) _ asked e in
    end-none (codes "finish") refl v told.value told.is

abort-none : HasNone abort
unfolding abort
abort-none v asked e =
    let told = step (end_of_repair (codes "abort") v) _ asked e in
    end-none (codes "abort") refl v told.value told.is

forget-none : HasNone forget
unfolding forget
forget-none v asked e =
    let time = step (member (codes "forget") named_time v) _ asked e in
    let known = step (no_members_at contexts.Request (codes "forget" ∷ []) v) _ asked time.rest in
    none-at (codes "forget" ∷ []) refl v known.value known.is

why-none : HasNone why
unfolding why
why-none v asked e =
    let is_true = step (member (codes "why") only_true v) _ asked e in
    let generation = step (optional (codes "in") named_generation v) _ asked is_true.rest in
    let wanted = step (slot_page v) _ asked generation.rest in
    let known = step (no_members_at contexts.Request (codes "after" ∷ codes "in" ∷ codes "most" ∷ codes "why" ∷ []) v) _ asked wanted.rest in
    none-at (codes "after" ∷ codes "in" ∷ codes "most" ∷ codes "why" ∷ []) refl v known.value known.is

diff-none : (tables : Tables) → HasNone (diff tables)
unfolding diff
diff-none tables v asked e =
    let is_true = step (member (codes "diff") only_true v) _ asked e in
    let generation = step (optional (codes "in") named_generation v) _ asked is_true.rest in
    let wanted = step (diff_page tables v) _ asked generation.rest in
    let known = step (no_members_at contexts.Request (codes "after" ∷ codes "diff" ∷ codes "in" ∷ codes "most" ∷ []) v) _ asked wanted.rest in
    none-at (codes "after" ∷ codes "diff" ∷ codes "in" ∷ codes "most" ∷ []) refl v known.value known.is

would-none : (version : Version) (tables : Tables) → HasNone (would version tables)
unfolding would
would-none version tables v asked e =
    let read = step (member (codes "would") (edits version tables) v) _ asked e in
    let known = step (no_members_at contexts.Request (codes "would" ∷ []) v) _ asked read.rest in
    none-at (codes "would" ∷ []) refl v known.value known.is

bare-none : (name : List ℕ) (only : Command) → is_one_of (codes "if" ∷ codes "worker" ∷ name ∷ []) (codes "version") ≡ false → HasNone (bare name only)
unfolding bare
bare-none name only unknown v asked e =
    let is_true = step (member name only_true v) _ asked e in
    let known = step (no_members_at contexts.Request (name ∷ []) v) _ asked is_true.rest in
    none-at (name ∷ []) unknown v known.value known.is

slots-none : (tables : Tables) → HasNone (slots tables)
unfolding slots
slots-none tables v asked e =
    let wanted = step (member (codes "slots") span v) _ asked e in
    let filter = step (questions.slot_filter tables v) _ asked wanted.rest in
    let known = step (no_members_at contexts.Request (codes "of" ∷ codes "row" ∷ codes "slots" ∷ codes "stamps" ∷ []) v) _ asked filter.rest in
    none-at (codes "of" ∷ codes "row" ∷ codes "slots" ∷ codes "stamps" ∷ []) refl v known.value known.is

changes-none : HasNone changes
unfolding changes
changes-none v asked e =
    let moment = step (member (codes "changes") changes_asked v) _ asked e in
    let wanted = step (questions.change_page v) _ asked moment.rest in
    let known = step (no_members_at contexts.Request (codes "after" ∷ codes "asked" ∷ codes "changes" ∷ codes "most" ∷ codes "of" ∷ codes "only" ∷ []) v) _ asked wanted.rest in
    none-at (codes "after" ∷ codes "asked" ∷ codes "changes" ∷ codes "most" ∷ codes "of" ∷ codes "only" ∷ []) refl v known.value known.is

-- ---- a command, by its kind

command_of-none : (version : Version) (tables : Tables) (kind : RequestKind) (v : Data) (asked : Command) → command_of version tables kind v ≡ Ok asked → has (codes "version") v ≡ false
command_of-none version tables kinds.Insert v asked e = one_write-none (insert tables contexts.WriteRequest) (insert-none tables) v asked e
command_of-none version tables kinds.Update v asked e = one_write-none (update version tables contexts.WriteRequest) (update-none version tables) v asked e
command_of-none version tables kinds.Delete v asked e = one_write-none (delete version tables contexts.WriteRequest) (delete-none version tables) v asked e
command_of-none version tables kinds.Select v asked e = read-none version tables v asked e
command_of-none version tables kinds.Preview v asked e = preview-none version tables v asked e
command_of-none version tables kinds.Do v asked e = several_writes-none version tables v asked e
command_of-none version tables kinds.Begin v asked e = begin-none version tables v asked e
command_of-none version tables kinds.Step v asked e = step-none v asked e
command_of-none version tables kinds.Finish v asked e = finish-none v asked e
command_of-none version tables kinds.Abort v asked e = abort-none v asked e
command_of-none version tables kinds.Status v asked e = bare-none (codes "status") commands.Status refl v asked e
command_of-none version tables kinds.Slots v asked e = slots-none tables v asked e
command_of-none version tables kinds.Changes v asked e = changes-none v asked e
command_of-none version tables kinds.Tables v asked e = bare-none (codes "tables") commands.Tables refl v asked e
command_of-none version tables kinds.Why v asked e = why-none v asked e
command_of-none version tables kinds.Diff v asked e = diff-none tables v asked e
command_of-none version tables kinds.Would v asked e = would-none version tables v asked e
command_of-none version tables kinds.Forget v asked e = forget-none v asked e

command-none : (version : Version) (tables : Tables) → HasNone (command version tables)
command-none version tables v asked e =
    let kind = step (kind_of v) _ asked e in
    command_of-none version tables kind.value v asked kind.rest

members-none : (version : Version) (tables : Tables) → HasNone (members_of_request version tables)
unfolding members_of_request
members-none version tables v request e =
    let is_object = step (object v) _ request e in
    let worker = step (optional (codes "worker") worker_number v) _ request is_object.rest in
    let expected = step (optional (codes "if") named_time v) _ request worker.rest in
    let asked = step (command version tables v) _ request expected.rest in
    command-none version tables v asked.value asked.is

pub requests_are_no_openings : RequestsAreNoOpenings
requests_are_no_openings version tables (Err fault) request e = refl
requests_are_no_openings version tables (Ok v) request e =
    members-none version tables v request (with_path-ok document_path (members_of_request version tables v) request e)

-- a request that is read, by its value
pub no-opening : (version : Version) (tables : Tables) (v : Data) (request : Request) → request_of version tables (Ok v) ≡ Ok request → has (codes "version") v ≡ false
no-opening version tables v request e = requests_are_no_openings version tables (Ok v) request e

pub ruleset requests_have_no_version = (no-opening)

-- ---- a line with a fault

at-fault : {T : Type 0} (fault : DocFault) (reading : Result T DocFault) → fault ≢ Memory → FailsWith fault reading → reading ≡ Err fault
at-fault Memory reading known e = absurd (known refl)
at-fault (At path cause) reading known e = e

pub faulty-value : {E : Type 0} (version : Version) (tables : Tables) (value : Result Data DocFault) (fault : DocFault) (r : Result SessionLine E) → is_opening value ≡ false
    → FailsWith fault (request_of version tables value) → IfOk r (λ told. told ≡ lines.Request (Err fault)) → OnOk r (fault ≢ Memory) → IfOk r (λ told. told ≡ session_line_of version tables value)
faulty-value version tables value fault (Err e) none fails told known = tt
faulty-value version tables value fault (Ok line) none fails told known =
    told ∙ ap lines.Request (sym (at-fault fault (request_of version tables value) known fails)) ∙ (rw none refl)

-- what a value fails with, its request fails with
line-fault : (version : Version) (tables : Tables) (value : Result Data DocFault) (path cause : List ℕ) (told : DocFault) → value ≡ Err (At path cause) → IsFault told (fault_at document_path (At path cause))
    → FailsWith told (request_of version tables value)
line-fault version tables value path cause Memory fails is = tt
line-fault version tables value path cause (At p c) fails is = ap (request_of version tables) fails ∙ ap (λ f. Err f) is

pub faulty-line : {E : Type 0} (version : Version) (tables : Tables) (value : Result Data DocFault) (fault told : DocFault) (r : Result SessionLine E) → FailsWith fault value
    → IsFault told (fault_at document_path fault) → IfOk r (λ line. line ≡ lines.Request (Err told)) → OnOk r (told ≢ Memory) → IfOk r (λ line. line ≡ session_line_of version tables value)
faulty-line version tables value (At path cause) told r fails is said known =
    faulty-value version tables value told r (ap is_opening fails) (line-fault version tables value path cause told fails is) said known
faulty-line version tables value Memory Memory (Err e) fails is said known = tt
faulty-line version tables value Memory Memory (Ok line) fails is said known = absurd (known refl)
faulty-line version tables value Memory (At path cause) r fails is said known = absurd (cc is)
