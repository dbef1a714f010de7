-- Statements and actions that are read have no fault.
use Rattle.std.proofs.Common.{◌≡◌, Bool, false, nat_lt, List, [], ◌∷◌, length, Option, None, Some, IfSome, if◌then◌else◌, Result, Ok, codes, refl, ap, subst, ◌∙◌}
use Rattle.std.specs.Option.{option_or}
use Rattle.std.specs.List.{AllByRecursion}
use Rattle.serde_json.specs.Data.{Data}
use Rattle.tt_values.specs.declared.checking.CheckError.{CheckError}
use Rattle.tt_values.specs.declared.checking.CheckError.TheVariants as errors
use Rattle.tt_values.specs.declared.statement.Select.{Select}
use Rattle.tt_values.specs.declared.statement.Write.{Write}
use Rattle.tt_values.specs.declared.statement.Write.TheVariants.{Insert, Update, Delete}
use Rattle.tt_values.specs.declared.action.Action.{Action}
use Rattle.tt_values.specs.Limits.{max_writes}
use Rattle.tt_values.specs.Tables.{Tables}
use Rattle.tt_values.specs.Check.{write_fault, first_write_fault, action_fault, select_fault}
use Rattle.tt_grammar.specs.declared.fault.DocFault.{DocFault}
use Rattle.tt_grammar.specs.declared.statements.Context.{Context}
use Rattle.tt_grammar.specs.declared.statements.Context.TheVariants as contexts
use Rattle.tt_grammar.specs.declared.version.Version.{Version}
use Rattle.tt_grammar.specs.Fault.{◌>>=◌}
use Rattle.tt_grammar.specs.Decoder.{object, array, within_limit, has, member}
use Rattle.tt_grammar.specs.Arrays.{array_of}
use Rattle.tt_grammar.specs.Conditions.{value, table_named}
use Rattle.tt_grammar.specs.Changes.{change}
use Rattle.tt_grammar.specs.Statements.{checked_statement, conditions, no_members_at, insert, update, delete}
use Rattle.tt_grammar.specs.Actions.{write, item_of_action, writes, is_whole, members_of_action, action, has_action}
use Rattle.tt_grammar.specs.Edits.{replacement_by, replacement}
use Rattle.tt_requests.proofs.StepBackLemmas.{ok_same, step, either-ok, or_refuse-ok, within_limit-ok, member-ok, each-ok}

-- a write has no fault
abbrev pub Accepts : Tables → Write → Type 0
Accepts tables w = write_fault tables w ≡ None

-- ---- one statement

checked_statement-ok : {S : Type 0} (statement : S) (fault : Option CheckError) (read : S) → checked_statement statement fault ≡ Ok read → (fault ≡ None) × (statement ≡ read)
checked_statement-ok statement None read e = (refl, ok_same e)
checked_statement-ok statement (Some fault) read e = cc

checked-accepted : (tables : Tables) (statement w : Write) → checked_statement statement (write_fault tables statement) ≡ Ok w → Accepts tables w
checked-accepted tables statement w e =
    let checked = checked_statement-ok statement (write_fault tables statement) w e in
    subst (Accepts tables) checked.1 checked.0

pub select-accepted : (tables : Tables) (statement select : Select) → checked_statement statement (select_fault tables statement) ≡ Ok select → select_fault tables select ≡ None
select-accepted tables statement select e =
    let checked = checked_statement-ok statement (select_fault tables statement) select e in
    subst (λ s. select_fault tables s ≡ None) checked.1 checked.0

pub insert-accepted : (tables : Tables) (context : Context) (v : Data) (w : Write) → insert tables context v ≡ Ok w → Accepts tables w
unfolding insert
insert-accepted tables context v w e =
    let table = step (member (codes "insert") (table_named tables) v) _ w e in
    let values = step (member (codes "row") (array_of value) v) _ w table.rest in
    let known = step (no_members_at context (codes "insert" ∷ codes "row" ∷ []) v) _ w values.rest in
    checked-accepted tables (Insert table.value (record { values = values.value })) w known.rest

pub update-accepted : (version : Version) (tables : Tables) (context : Context) (v : Data) (w : Write) → update version tables context v ≡ Ok w → Accepts tables w
unfolding update
update-accepted version tables context v w e =
    let table = step (member (codes "update") (table_named tables) v) _ w e in
    let changes = step (member (codes "change") (array_of (change tables table.value)) v) _ w table.rest in
    let equals = step (conditions version tables table.value v) _ w changes.rest in
    let known = step (no_members_at context (codes "change" ∷ codes "update" ∷ codes "where" ∷ []) v) _ w equals.rest in
    checked-accepted tables (Update table.value changes.value equals.value) w known.rest

pub delete-accepted : (version : Version) (tables : Tables) (context : Context) (v : Data) (w : Write) → delete version tables context v ≡ Ok w → Accepts tables w
unfolding delete
delete-accepted version tables context v w e =
    let table = step (member (codes "delete") (table_named tables) v) _ w e in
    let equals = step (conditions version tables table.value v) _ w table.rest in
    let known = step (no_members_at context (codes "delete" ∷ codes "where" ∷ []) v) _ w equals.rest in
    checked-accepted tables (Delete table.value equals.value) w known.rest

some-accepted : (tables : Tables) (reading : Result Write DocFault) (found : Option Write) → ((w : Write) → reading ≡ Ok w → Accepts tables w)
    → (reading >>= λ w. Ok (Some w)) ≡ Ok found → IfSome found (Accepts tables)
some-accepted tables reading found accepted e =
    let read = step reading (λ w. Ok (Some w)) found e in
    subst (λ o. IfSome o (Accepts tables)) (ok_same read.rest) (accepted read.value read.is)

write-accepted : (version : Version) (tables : Tables) (context : Context) (v : Data) (found : Option Write) → write version tables context v ≡ Ok found → IfSome found (Accepts tables)
unfolding write
write-accepted version tables context v found e =
    either-ok (has (codes "insert") v) _ _ found e (some-accepted tables (insert tables context v) found (insert-accepted tables context v)) (λ no_insert.
    either-ok (has (codes "update") v) _ _ found no_insert (some-accepted tables (update version tables context v) found (update-accepted version tables context v)) (λ no_update.
    either-ok (has (codes "delete") v) _ _ found no_update (some-accepted tables (delete version tables context v) found (delete-accepted version tables context v)) (λ no_delete.
    subst (λ o. IfSome o (Accepts tables)) (ok_same no_delete) tt)))

-- ---- an action

accepted_writes : (tables : Tables) (ws : List Write) → AllByRecursion (Accepts tables) ws → first_write_fault tables ws ≡ None
accepted_writes tables [] all = refl
accepted_writes tables (w ∷ ws) all = ap (λ o. option_or o (first_write_fault tables ws)) all.0 ∙ accepted_writes tables ws all.1

accepted_action : (tables : Tables) (ws : List Write) → nat_lt max_writes (length ws) ≡ false → AllByRecursion (Accepts tables) ws → action_fault tables ws ≡ None
accepted_action tables ws few all = ap (λ (b : Bool). if b then Some errors.TooManyWrites else first_write_fault tables ws) few ∙ accepted_writes tables ws all

pub one_write-accepted : (tables : Tables) (w : Write) → Accepts tables w → action_fault tables (w ∷ []) ≡ None
one_write-accepted tables w accepted = accepted_action tables (w ∷ []) refl (accepted, tt)

item-accepted : (version : Version) (tables : Tables) (v : Data) (w : Write) → item_of_action version tables v ≡ Ok w → Accepts tables w
unfolding item_of_action
item-accepted version tables v w e =
    let is_object = step (object v) _ w e in
    let found = step (write version tables contexts.Nested v) _ w is_object.rest in
    subst (λ o. IfSome o (Accepts tables)) (or_refuse-ok (codes "missing one of insert, update, delete") found.value w found.rest)
    (write-accepted version tables contexts.Nested v found.value found.is)

writes-accepted : (version : Version) (tables : Tables) (v : Data) (ws : List Write) → writes version tables v ≡ Ok ws → action_fault tables ws ≡ None
writes-accepted version tables v ws e =
    let items = step (array v) _ ws e in
    let within = step (within_limit max_writes items.value) _ ws items.rest in
    let read = each-ok (Accepts tables) (item_of_action version tables) (item-accepted version tables) 0 items.value ws within.rest in
    accepted_action tables ws (ap (nat_lt max_writes) read.as_many ∙ within_limit-ok max_writes items.value within.value within.is) read.all

-- the writes of an action have no fault
abbrev AcceptsAction : Tables → Action → Type 0
AcceptsAction tables asked = action_fault tables asked.writes ≡ None

pub action-accepted : (version : Version) (tables : Tables) (context : Context) (v : Data) (asked : Action) → action version tables context v ≡ Ok asked → AcceptsAction tables asked
unfolding action
action-accepted version tables context v asked e =
    let read = step (member (codes "do") (writes version tables) v) _ asked e in
    let whole = step (is_whole version v) _ asked read.rest in
    let known = step (no_members_at context (members_of_action version) v) _ asked whole.rest in
    let source = member-ok (codes "do") (writes version tables) v read.value read.is in
    subst (AcceptsAction tables) (ok_same known.rest) (writes-accepted version tables source.value read.value source.is)

-- ---- an action that replaces another

replacement_by-accepted : (version : Version) (tables : Tables) (v : Data) (found : Option Write) (asked : Action) → IfSome found (Accepts tables)
    → replacement_by version tables v found ≡ Ok asked → AcceptsAction tables asked
replacement_by-accepted version tables v (Some w) asked accepted e = subst (AcceptsAction tables) (ok_same e) (one_write-accepted tables w accepted)
replacement_by-accepted version tables v None asked accepted e =
    either-ok (has_action version v) _ _ asked e (action-accepted version tables contexts.Nested v asked) (λ refused. cc)

pub replacement-accepted : (version : Version) (tables : Tables) (v : Data) (asked : Action) → replacement version tables v ≡ Ok asked → AcceptsAction tables asked
unfolding replacement
replacement-accepted version tables v asked e =
    let is_object = step (object v) _ asked e in
    let found = step (write version tables contexts.Nested v) _ asked is_object.rest in
    replacement_by-accepted version tables v found.value asked (write-accepted version tables contexts.Nested v found.value found.is) found.rest
