-- The law of requests: what a request asks for has been judged.
use Rattle.std.proofs.Common.{◌≡◌, ℕ, ◌≤◌, List, [], ◌∷◌, length, Result, Ok, codes, sym, subst, ltb-false}
use Rattle.std.proofs.lemmas.List.Elements.{All-from_recursion}
use Rattle.serde_json.specs.Data.{Data}
use Rattle.tt_values.specs.declared.statement.Select.{Select}
use Rattle.tt_values.specs.declared.statement.Write.{Write}
use Rattle.tt_values.specs.Tables.{Tables}
use Rattle.tt_values.specs.Check.{select_fault}
use Rattle.tt_repair_laws.specs.declared.edit.Edit.{Edit}
use Rattle.tt_repair_laws.specs.Edits.{HasNoFault}
use Rattle.tt_grammar.specs.declared.fault.DocFault.{DocFault}
use Rattle.tt_grammar.specs.declared.statements.Context.TheVariants as contexts
use Rattle.tt_grammar.specs.declared.version.Version.{Version}
use Rattle.tt_grammar.specs.Fault.{◌>>=◌, document_path}
use Rattle.tt_grammar.specs.Decoder.{object, array, within_limit, count, count_within, has, member, optional}
use Rattle.tt_grammar.specs.Members.{is_one_of, no_members_but}
use Rattle.tt_grammar.specs.Conditions.{table_named}
use Rattle.tt_grammar.specs.Statements.{checked_statement, conditions, stamp, no_members_at, insert, update, delete}
use Rattle.tt_grammar.specs.Actions.{action}
use Rattle.tt_grammar.specs.Edits.{max_edits, replacement}
use Rattle.tt_requests.specs.declared.kinds.RequestKind.{RequestKind}
use Rattle.tt_requests.specs.declared.kinds.RequestKind.TheVariants as kinds
use Rattle.tt_requests.specs.declared.request.Command.{Command}
use Rattle.tt_requests.specs.declared.request.Command.TheVariants as commands
use Rattle.tt_requests.specs.declared.request.Request.{Request}
use Rattle.tt_requests.specs.Kinds.{kind_of}
use Rattle.tt_requests.specs.Told.{named_time, named_generation}
use Rattle.tt_requests.specs.Edits.{cancel, replace, edit, edits}
use Rattle.tt_requests.specs.Reads.{page, slot_page, diff_page, read, preview}
use Rattle.tt_requests.specs.Questions.{worker_number, span, row_named, slots, changes_asked, changes}
use Rattle.tt_requests.specs.Requests.{one_write, several_writes, begin, max_steps, why, diff, would, forget, only_true, bare, command_of, command, members_of_request}
use Rattle.tt_requests.specs.Requests as requests
use Rattle.tt_requests.specs.Questions as questions
use Rattle.tt_requests.specs.declared.questions.Moment.{Moment}
use Rattle.tt_requests.specs.declared.questions.Moment.TheVariants as moments
use Rattle.tt_requests.specs.declared.request.ChangePage.{ChangePage}
use Rattle.tt_requests.specs.Judged.{AreJudgedEdits, IsJudged, RequestsAreJudged}
use Rattle.tt_requests.proofs.StepBackLemmas.{ok_same, step, with_path-ok, either-ok, within_limit-ok, member-ok, each-ok}
use Rattle.tt_requests.proofs.AcceptedLemmas.{Accepts, insert-accepted, update-accepted, delete-accepted, one_write-accepted, action-accepted, replacement-accepted, select-accepted}

-- ---- edits

cancel-judged : (tables : Tables) (v : Data) (asked : Edit) → cancel v ≡ Ok asked → HasNoFault tables asked
unfolding cancel
cancel-judged tables v asked e =
    let slot = step (member (codes "cancel") count v) _ asked e in
    let known = step (no_members_but (is_one_of (codes "cancel" ∷ [])) v) _ asked slot.rest in
    subst (HasNoFault tables) (ok_same known.rest) tt

replace-judged : (version : Version) (tables : Tables) (v : Data) (asked : Edit) → replace version tables v ≡ Ok asked → HasNoFault tables asked
unfolding replace
replace-judged version tables v asked e =
    let slot = step (member (codes "replace") count v) _ asked e in
    let by = step (member (codes "by") (replacement version tables) v) _ asked slot.rest in
    let known = step (no_members_but (is_one_of (codes "by" ∷ codes "replace" ∷ [])) v) _ asked by.rest in
    let source = member-ok (codes "by") (replacement version tables) v by.value by.is in
    subst (HasNoFault tables) (ok_same known.rest) (replacement-accepted version tables source.value by.value source.is)

edit-judged : (version : Version) (tables : Tables) (v : Data) (asked : Edit) → edit version tables v ≡ Ok asked → HasNoFault tables asked
unfolding edit
edit-judged version tables v asked e =
    let is_object = step (object v) _ asked e in
    either-ok (has (codes "cancel") v) _ _ asked is_object.rest (cancel-judged tables v asked) (λ no_cancel.
    either-ok (has (codes "replace") v) _ _ asked no_cancel (replace-judged version tables v asked) (λ no_replace. cc))

edits-judged : (version : Version) (tables : Tables) (v : Data) (asked : List Edit) → edits version tables v ≡ Ok asked → AreJudgedEdits tables asked
edits-judged version tables v asked e =
    let items = step (array v) _ asked e in
    let within = step (within_limit max_edits items.value) _ asked items.rest in
    let each = each-ok (HasNoFault tables) (edit version tables) (edit-judged version tables) 0 items.value asked within.rest in
    let few : length items.value ≤ max_edits = ltb-false max_edits (length items.value) (within_limit-ok max_edits items.value within.value within.is) in
    record {
      accepted = All-from_recursion (HasNoFault tables) asked each.all;
      few = subst (λ n. n ≤ max_edits) (sym each.as_many) few;
    }

-- ---- commands, by their kinds

-- whatever a meaning gives has been judged
abbrev Judges : Tables → (Data → Result Command DocFault) → Type 0
Judges tables meaning = (v : Data) (asked : Command) → meaning v ≡ Ok asked → IsJudged tables asked

one_write-judged : (tables : Tables) (reading : Result Write DocFault) (v : Data) (asked : Command) → ((w : Write) → reading ≡ Ok w → Accepts tables w)
    → one_write reading v ≡ Ok asked → IsJudged tables asked
unfolding one_write
one_write-judged tables reading v asked accepted e =
    let write = step reading _ asked e in
    let stamped = step (stamp v) _ asked write.rest in
    subst (IsJudged tables) (ok_same stamped.rest) (one_write-accepted tables write.value (accepted write.value write.is))

insert-judged : (tables : Tables) → Judges tables (λ v. one_write (insert tables contexts.WriteRequest v) v)
insert-judged tables v asked e = one_write-judged tables (insert tables contexts.WriteRequest v) v asked (insert-accepted tables contexts.WriteRequest v) e

update-judged : (version : Version) (tables : Tables) → Judges tables (λ v. one_write (update version tables contexts.WriteRequest v) v)
update-judged version tables v asked e = one_write-judged tables (update version tables contexts.WriteRequest v) v asked (update-accepted version tables contexts.WriteRequest v) e

delete-judged : (version : Version) (tables : Tables) → Judges tables (λ v. one_write (delete version tables contexts.WriteRequest v) v)
delete-judged version tables v asked e = one_write-judged tables (delete version tables contexts.WriteRequest v) v asked (delete-accepted version tables contexts.WriteRequest v) e

several_writes-judged : (version : Version) (tables : Tables) → Judges tables (several_writes version tables)
unfolding several_writes
several_writes-judged version tables v asked e =
    let read = step (action version tables contexts.WriteRequest v) _ asked e in
    let stamped = step (stamp v) _ asked read.rest in
    subst (IsJudged tables) (ok_same stamped.rest) (action-accepted version tables contexts.WriteRequest v read.value read.is)

read-judged : (version : Version) (tables : Tables) → Judges tables (read version tables)
unfolding read
read-judged version tables v asked e =
    let table = step (member (codes "select") (table_named tables) v) _ asked e in
    let equals = step (conditions version tables table.value v) _ asked table.rest in
    let time = step (optional (codes "at") named_time v) _ asked equals.rest in
    let generation = step (optional (codes "in") named_generation v) _ asked time.rest in
    let wanted = step (page v) _ asked generation.rest in
    let known = step (no_members_at contexts.Request (codes "after" ∷ codes "at" ∷ codes "in" ∷ codes "most" ∷ codes "select" ∷ codes "where" ∷ []) v) _ asked wanted.rest in
    let statement : Select = record { table = table.value; equals = equals.value } in
    let select = step (checked_statement statement (select_fault tables statement)) _ asked known.rest in
    subst (IsJudged tables) (ok_same select.rest) (select-accepted tables statement select.value select.is)

preview-judged : (version : Version) (tables : Tables) → Judges tables (preview version tables)
unfolding preview
preview-judged version tables v asked e =
    let table = step (member (codes "preview") (table_named tables) v) _ asked e in
    let equals = step (conditions version tables table.value v) _ asked table.rest in
    let wanted = step (page v) _ asked equals.rest in
    let known = step (no_members_at contexts.Request (codes "after" ∷ codes "most" ∷ codes "preview" ∷ codes "where" ∷ []) v) _ asked wanted.rest in
    let statement : Select = record { table = table.value; equals = equals.value } in
    let select = step (checked_statement statement (select_fault tables statement)) _ asked known.rest in
    subst (IsJudged tables) (ok_same select.rest) (select-accepted tables statement select.value select.is)

begin-judged : (version : Version) (tables : Tables) → Judges tables (begin version tables)
unfolding begin
begin-judged version tables v asked e =
    let read = step (member (codes "begin") (edits version tables) v) _ asked e in
    let known = step (no_members_at contexts.Request (codes "begin" ∷ []) v) _ asked read.rest in
    let source = member-ok (codes "begin") (edits version tables) v read.value read.is in
    subst (IsJudged tables) (ok_same known.rest) (edits-judged version tables source.value read.value source.is)

step-judged : (tables : Tables) → Judges tables requests.step
unfolding requests.step
step-judged tables v asked e =
    let most = step (member (codes "step") (count_within 1 max_steps) v) _ asked e in
    let worker = step (optional (codes "of") worker_number v) _ asked most.rest in
    let known = step (no_members_at contexts.Request (codes "of" ∷ codes "step" ∷ []) v) _ asked worker.rest in
    subst (IsJudged tables) (ok_same known.rest) tt

finish-judged : (tables : Tables) → Judges tables requests.finish
unfolding requests.finish
finish-judged tables v asked e =
    let worker = step (requests.end_of_repair (codes "finish") v) _ asked e in
    subst (IsJudged tables) (ok_same worker.rest) tt

abort-judged : (tables : Tables) → Judges tables requests.abort
unfolding requests.abort
abort-judged tables v asked e =
    let worker = step (requests.end_of_repair (codes "abort") v) _ asked e in
    subst (IsJudged tables) (ok_same worker.rest) tt

forget-judged : (tables : Tables) → Judges tables forget
unfolding forget
forget-judged tables v asked e =
    let time = step (member (codes "forget") named_time v) _ asked e in
    let known = step (no_members_at contexts.Request (codes "forget" ∷ []) v) _ asked time.rest in
    subst (IsJudged tables) (ok_same known.rest) tt

why-judged : (tables : Tables) → Judges tables why
unfolding why
why-judged tables v asked e =
    let is_true = step (member (codes "why") only_true v) _ asked e in
    let generation = step (optional (codes "in") named_generation v) _ asked is_true.rest in
    let wanted = step (slot_page v) _ asked generation.rest in
    let known = step (no_members_at contexts.Request (codes "after" ∷ codes "in" ∷ codes "most" ∷ codes "why" ∷ []) v) _ asked wanted.rest in
    subst (IsJudged tables) (ok_same known.rest) tt

diff-judged : (tables : Tables) → Judges tables (diff tables)
unfolding diff
diff-judged tables v asked e =
    let is_true = step (member (codes "diff") only_true v) _ asked e in
    let generation = step (optional (codes "in") named_generation v) _ asked is_true.rest in
    let wanted = step (diff_page tables v) _ asked generation.rest in
    let known = step (no_members_at contexts.Request (codes "after" ∷ codes "diff" ∷ codes "in" ∷ codes "most" ∷ []) v) _ asked wanted.rest in
    subst (IsJudged tables) (ok_same known.rest) tt

would-judged : (version : Version) (tables : Tables) → Judges tables (would version tables)
unfolding would
would-judged version tables v asked e =
    let read = step (member (codes "would") (edits version tables) v) _ asked e in
    let known = step (no_members_at contexts.Request (codes "would" ∷ []) v) _ asked read.rest in
    let source = member-ok (codes "would") (edits version tables) v read.value read.is in
    subst (IsJudged tables) (ok_same known.rest) (edits-judged version tables source.value read.value source.is)

bare-judged : (tables : Tables) (name : List ℕ) (only : Command) → IsJudged tables only → Judges tables (bare name only)
unfolding bare
bare-judged tables name only judged v asked e =
    let is_true = step (member name only_true v) _ asked e in
    let known = step (no_members_at contexts.Request (name ∷ []) v) _ asked is_true.rest in
    subst (IsJudged tables) (ok_same known.rest) judged

slots-judged : (tables : Tables) → Judges tables (slots tables)
unfolding slots
slots-judged tables v asked e =
    let wanted = step (member (codes "slots") span v) _ asked e in
    let filter = step (questions.slot_filter tables v) _ asked wanted.rest in
    let known = step (no_members_at contexts.Request (codes "of" ∷ codes "row" ∷ codes "slots" ∷ codes "stamps" ∷ []) v) _ asked filter.rest in
    subst (IsJudged tables) (ok_same known.rest) tt

changes_at-judged : (tables : Tables) (moment : Moment) (page : ChangePage) → IsJudged tables (questions.changes_at moment page)
changes_at-judged tables moments.Now page = tt
changes_at-judged tables moments.Next page = tt

changes-judged : (tables : Tables) → Judges tables changes
unfolding changes
changes-judged tables v asked e =
    let moment = step (member (codes "changes") changes_asked v) _ asked e in
    let wanted = step (questions.change_page v) _ asked moment.rest in
    let known = step (no_members_at contexts.Request (codes "after" ∷ codes "asked" ∷ codes "changes" ∷ codes "most" ∷ codes "of" ∷ codes "only" ∷ []) v) _ asked wanted.rest in
    subst (IsJudged tables) (ok_same known.rest) (changes_at-judged tables moment.value wanted.value)

-- ---- a command, by its kind

command_of-judged : (version : Version) (tables : Tables) (kind : RequestKind) (v : Data) (asked : Command) → command_of version tables kind v ≡ Ok asked → IsJudged tables asked
command_of-judged version tables kinds.Insert v asked e = insert-judged tables v asked e
command_of-judged version tables kinds.Update v asked e = update-judged version tables v asked e
command_of-judged version tables kinds.Delete v asked e = delete-judged version tables v asked e
command_of-judged version tables kinds.Select v asked e = read-judged version tables v asked e
command_of-judged version tables kinds.Preview v asked e = preview-judged version tables v asked e
command_of-judged version tables kinds.Do v asked e = several_writes-judged version tables v asked e
command_of-judged version tables kinds.Begin v asked e = begin-judged version tables v asked e
command_of-judged version tables kinds.Step v asked e = step-judged tables v asked e
command_of-judged version tables kinds.Finish v asked e = finish-judged tables v asked e
command_of-judged version tables kinds.Abort v asked e = abort-judged tables v asked e
command_of-judged version tables kinds.Status v asked e = bare-judged tables (codes "status") commands.Status tt v asked e
command_of-judged version tables kinds.Slots v asked e = slots-judged tables v asked e
command_of-judged version tables kinds.Changes v asked e = changes-judged tables v asked e
command_of-judged version tables kinds.Tables v asked e = bare-judged tables (codes "tables") commands.Tables tt v asked e
command_of-judged version tables kinds.Why v asked e = why-judged tables v asked e
command_of-judged version tables kinds.Diff v asked e = diff-judged tables v asked e
command_of-judged version tables kinds.Would v asked e = would-judged version tables v asked e
command_of-judged version tables kinds.Forget v asked e = forget-judged tables v asked e

command-judged : (version : Version) (tables : Tables) → Judges tables (command version tables)
command-judged version tables v asked e =
    let kind = step (kind_of v) _ asked e in
    command_of-judged version tables kind.value v asked kind.rest

members-judged : (version : Version) (tables : Tables) (v : Data) (request : Request) → members_of_request version tables v ≡ Ok request → IsJudged tables request.command
unfolding members_of_request
members-judged version tables v request e =
    let is_object = step (object v) _ request e in
    let worker = step (optional (codes "worker") worker_number v) _ request is_object.rest in
    let expected = step (optional (codes "if") named_time v) _ request worker.rest in
    let asked = step (command version tables v) _ request expected.rest in
    subst (λ (r : Request). IsJudged tables r.command) (ok_same asked.rest) (command-judged version tables v asked.value asked.is)

pub requests_are_judged : RequestsAreJudged
requests_are_judged version tables value request e =
    let v = step value (members_of_request version tables) request (with_path-ok document_path (value >>= members_of_request version tables) request e) in
    members-judged version tables v.value request v.rest
