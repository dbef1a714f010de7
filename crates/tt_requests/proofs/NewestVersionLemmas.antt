-- A request that has no fault in a version is read the same in the newest one.
use Rattle.std.specs.Prelude.{codes}
use Rattle.serde_json.specs.Data.{Data}
use Rattle.tt_values.specs.Tables.{Tables}
use Rattle.tt_grammar.specs.declared.statements.Context.TheVariants as contexts
use Rattle.tt_grammar.specs.declared.version.Version.{Version}
use Rattle.tt_grammar.specs.Fault.{document_path}
use Rattle.tt_grammar.specs.Decoder.{object, array, within_limit, count, has, member, optional}
use Rattle.tt_grammar.specs.Conditions.{table_named}
use Rattle.tt_grammar.specs.Edits.{max_edits, replacement}
use Rattle.tt_grammar.specs.NewestVersion.{ReadsTheSame}
use Rattle.tt_grammar.specs.Version.{newest_version}
use Rattle.tt_grammar.proofs.NewestVersionLemmas.{then-same, made-same, with_path-same, if-same, member-same, each-same, conditions-same, update-same, delete-same, action-same, replacement-same}
use Rattle.tt_requests.specs.declared.kinds.RequestKind.{RequestKind}
use Rattle.tt_requests.specs.declared.kinds.RequestKind.TheVariants as kinds
use Rattle.tt_requests.specs.Kinds.{kind_of}
use Rattle.tt_requests.specs.Told.{named_time}
use Rattle.tt_requests.specs.Edits.{replace, edit, edits}
use Rattle.tt_requests.specs.Reads.{read, preview}
use Rattle.tt_requests.specs.Questions.{worker_number}
use Rattle.tt_requests.specs.Requests.{one_write, several_writes, begin, would, command_of, command, members_of_request}
use Rattle.tt_requests.specs.NewestVersion.{RequestsReadTheSame}

-- ---- edits

replace-same : (version : Version) (tables : Tables) (v : Data) → ReadsTheSame (replace version tables v) (replace newest_version tables v)
unfolding replace
replace-same version tables v =
    then-same (member (codes "replace") count v) _ _ (λ slot. made-same _ _ _
    (member-same (codes "by") (replacement version tables) (replacement newest_version tables) v (replacement-same version tables)))

edit-same : (version : Version) (tables : Tables) (v : Data) → ReadsTheSame (edit version tables v) (edit newest_version tables v)
unfolding edit
edit-same version tables v =
    then-same (object v) _ _ (λ is_object.
    if-same (has (codes "cancel") v) _ _ _ _ (λ t e. e) (
    if-same (has (codes "replace") v) _ _ _ _ (replace-same version tables v) (λ t e. e)))

edits-same : (version : Version) (tables : Tables) (v : Data) → ReadsTheSame (edits version tables v) (edits newest_version tables v)
edits-same version tables v =
    then-same (array v) _ _ (λ ds. then-same (within_limit max_edits ds) _ _ (λ few.
    each-same (edit version tables) (edit newest_version tables) 0 ds (edit-same version tables)))

-- ---- commands

several_writes-same : (version : Version) (tables : Tables) (v : Data) → ReadsTheSame (several_writes version tables v) (several_writes newest_version tables v)
unfolding several_writes
several_writes-same version tables v = made-same _ _ _ (action-same version tables contexts.WriteRequest v)

read-same : (version : Version) (tables : Tables) (v : Data) → ReadsTheSame (read version tables v) (read newest_version tables v)
unfolding read
read-same version tables v =
    then-same (member (codes "select") (table_named tables) v) _ _ (λ table. made-same _ _ _ (conditions-same version tables table v))

preview-same : (version : Version) (tables : Tables) (v : Data) → ReadsTheSame (preview version tables v) (preview newest_version tables v)
unfolding preview
preview-same version tables v =
    then-same (member (codes "preview") (table_named tables) v) _ _ (λ table. made-same _ _ _ (conditions-same version tables table v))

begin-same : (version : Version) (tables : Tables) (v : Data) → ReadsTheSame (begin version tables v) (begin newest_version tables v)
unfolding begin
begin-same version tables v =
    made-same _ _ _ (member-same (codes "begin") (edits version tables) (edits newest_version tables) v (edits-same version tables))

would-same : (version : Version) (tables : Tables) (v : Data) → ReadsTheSame (would version tables v) (would newest_version tables v)
unfolding would
would-same version tables v =
    made-same _ _ _ (member-same (codes "would") (edits version tables) (edits newest_version tables) v (edits-same version tables))

-- of the kinds, the conditions, the actions and the edits depend on the version
command_of-same : (version : Version) (tables : Tables) (kind : RequestKind) (v : Data) → ReadsTheSame (command_of version tables kind v) (command_of newest_version tables kind v)
unfolding one_write
command_of-same version tables kinds.Insert v = λ t e. e
command_of-same version tables kinds.Update v = made-same _ _ _ (update-same version tables contexts.WriteRequest v)
command_of-same version tables kinds.Delete v = made-same _ _ _ (delete-same version tables contexts.WriteRequest v)
command_of-same version tables kinds.Select v = read-same version tables v
command_of-same version tables kinds.Preview v = preview-same version tables v
command_of-same version tables kinds.Do v = several_writes-same version tables v
command_of-same version tables kinds.Begin v = begin-same version tables v
command_of-same version tables kinds.Step v = λ t e. e
command_of-same version tables kinds.Finish v = λ t e. e
command_of-same version tables kinds.Abort v = λ t e. e
command_of-same version tables kinds.Status v = λ t e. e
command_of-same version tables kinds.Slots v = λ t e. e
command_of-same version tables kinds.Changes v = λ t e. e
command_of-same version tables kinds.Tables v = λ t e. e
command_of-same version tables kinds.Why v = λ t e. e
command_of-same version tables kinds.Diff v = λ t e. e
command_of-same version tables kinds.Would v = would-same version tables v
command_of-same version tables kinds.Forget v = λ t e. e

command-same : (version : Version) (tables : Tables) (v : Data) → ReadsTheSame (command version tables v) (command newest_version tables v)
command-same version tables v = then-same (kind_of v) _ _ (λ kind. command_of-same version tables kind v)

-- ---- requests

members-same : (version : Version) (tables : Tables) (v : Data) → ReadsTheSame (members_of_request version tables v) (members_of_request newest_version tables v)
unfolding members_of_request
members-same version tables v =
    then-same (object v) _ _ (λ is_object.
    then-same (optional (codes "worker") worker_number v) _ _ (λ worker.
    then-same (optional (codes "if") named_time v) _ _ (λ expected.
    made-same _ _ _ (command-same version tables v))))

-- a request that has no fault in a version is read the same in the newest one
pub requests_read_the_same : RequestsReadTheSame
requests_read_the_same version tables value =
    with_path-same document_path _ _ (then-same value (members_of_request version tables) (members_of_request newest_version tables) (members-same version tables))
