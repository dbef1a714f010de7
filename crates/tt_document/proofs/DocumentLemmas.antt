-- A document that is read is within its limits, and each statement passed its check.
use Rattle.std.proofs.Common.{◌≡◌, ℕ, suc, ◌+◌, ◌≤◌, ◌==◌, Bool, true, false, not, cond, nat_lt, ◌||◌, List, [], ◌∷◌, ◌++◌, length, Option, None, Some, IfSome, Result, Ok, Err, codes, refl, sym, ap, subst, ◌∙◌, arith, append-nil, append_assoc, length-append}
use Rattle.std.specs.List.{AllByRecursion, list_any}
use Rattle.std.specs.Option.{option_or, unwrap_or}
use Rattle.std.proofs.lemmas.Bool.{ltb-false}
use Rattle.std.proofs.lemmas.List.Elements.{All-from_recursion}
use Rattle.serde_json.specs.Data.{Data}
use Rattle.serde_json.specs.Find.{get}
use Rattle.tt_values.specs.declared.checking.CheckError.{CheckError}
use Rattle.tt_values.specs.declared.checking.CheckError.TheVariants as errors
use Rattle.tt_values.specs.declared.statement.Select.{Select}
use Rattle.tt_values.specs.declared.statement.Write.{Write}
use Rattle.tt_values.specs.declared.statement.Write.TheVariants.{Insert, Update, Delete}
use Rattle.tt_values.specs.declared.action.Action.{Action}
use Rattle.tt_values.specs.Tables.{Tables}
use Rattle.tt_values.specs.Check.{write_fault, first_write_fault, action_fault, select_fault}
use Rattle.tt_values.specs.Limits.{max_writes}
use Rattle.tt_repair_laws.specs.declared.edit.Edit.{Edit}
use Rattle.tt_repair_laws.specs.Edits.{slot_number}
use Rattle.tt_grammar.specs.declared.fault.DocFault.{DocFault}
use Rattle.tt_grammar.specs.declared.statements.Context.{Context}
use Rattle.tt_grammar.specs.declared.statements.Context.TheVariants as contexts
use Rattle.tt_grammar.specs.declared.version.Version.{Version}
use Rattle.tt_grammar.specs.Fault.{◌>>=◌, refuse, or_refuse, with_path, member_path, item_path}
use Rattle.tt_grammar.specs.Decoder.{has, member, optional, read_member, read_optional, within_limit, within, count, count_within, array, object}
use Rattle.tt_grammar.specs.Arrays.{fold_items, each, array_of}
use Rattle.tt_grammar.specs.Members.{is_one_of, no_members_but}
use Rattle.tt_grammar.specs.Tables.{catalog}
use Rattle.tt_grammar.specs.Conditions.{table_named, value, condition}
use Rattle.tt_grammar.specs.Changes.{change}
use Rattle.tt_grammar.specs.Statements.{checked_statement, no_members_at, insert, update, delete}
use Rattle.tt_grammar.specs.Actions.{has_action, write, item_of_action, writes, is_whole, members_of_action, action}
use Rattle.tt_grammar.specs.Version.{version}
use Rattle.tt_grammar.specs.Edits.{max_edits, no_kind_of_write, replacement_by, replacement}
use Rattle.tt_document.specs.declared.document.Document.{Document}
use Rattle.tt_document.specs.declared.document.Plan.{Plan}
use Rattle.tt_document.specs.declared.document.Call.{Call}
use Rattle.tt_document.specs.declared.document.Ask.{Ask}
use Rattle.tt_document.specs.declared.document.Ask.TheVariants as asks
use Rattle.tt_document.specs.Reads.{select, preview}
use Rattle.tt_document.specs.Calls.{max_calls, no_kind, ask_by, ask, call, calls}
use Rattle.tt_document.specs.Repair.{cancel, replace, edit_by_kind, is_action_call, judge_edit, with_edit, edits, repair}
use Rattle.tt_document.specs.Reading.{max_workers, members_of_document}
use Rattle.tt_document.specs.Document.{ask_fault, edit_fault, IsValidCall, IsValidEdit, AreForOtherCalls, IsValidPlan, IsValidDocument}

ok_same : {T : Type 0} {x y : T} → ◌≡◌ {A = Result T DocFault} (Ok x) (Ok y) → x ≡ y
ok_same e = cc

some_same : {T : Type 0} {x y : T} → ◌≡◌ {A = Option T} (Some x) (Some y) → x ≡ y
some_same e = cc

length-push : {T : Type 0} (xs : List T) (x : T) → length (xs ++ x ∷ []) ≡ suc (length xs)
length-push xs x = omega (arith, length-append xs (x ∷ []))

-- what a chain that is read went through
record Step {A B : Type 0} (r : Result A DocFault) (f : A → Result B DocFault) (y : B) : Type 0 where
  value : A
  is : r ≡ Ok value
  rest : f value ≡ Ok y

step : {A B : Type 0} (r : Result A DocFault) (f : A → Result B DocFault) (y : B) → (r >>= f) ≡ Ok y → Step r f y
step (Ok x) f y e = record { value = x; is = refl; rest = e }
step (Err fault) f y e = cc

with_path-ok : {T : Type 0} (path_of : List ℕ → List ℕ) (r : Result T DocFault) (x : T) → with_path path_of r ≡ Ok x → r ≡ Ok x
with_path-ok path_of (Ok y) x e = e
with_path-ok path_of (Err fault) x e = cc

-- a member that is read is the meaning of its value
record Meaning {T : Type 0} (decode : Data → Result T DocFault) (x : T) : Type 0 where
  value : Data
  is : decode value ≡ Ok x

read_member-ok : {T : Type 0} (name : List ℕ) (decode : Data → Result T DocFault) (o : Option Data) (x : T) → read_member name decode o ≡ Ok x → Meaning decode x
read_member-ok name decode None x e = cc
read_member-ok name decode (Some d) x e = record { value = d; is = with_path-ok _ (decode d) x e }

member-ok : {T : Type 0} (name : List ℕ) (decode : Data → Result T DocFault) (v : Data) (x : T) → member name decode v ≡ Ok x → Meaning decode x
member-ok name decode v x e = read_member-ok name decode (get name v) x e

each-ok : {T : Type 0} (P : T → Type 0) (decode : Data → Result T DocFault) → ((d : Data) (x : T) → decode d ≡ Ok x → P x)
    → (i : ℕ) (ds : List Data) (xs : List T) → each decode i ds ≡ Ok xs → AllByRecursion P xs
each-ok P decode h i [] xs e = subst (AllByRecursion P) (ok_same e) tt
each-ok P decode h i (d ∷ ds) xs e =
    let first = step (with_path (item_path i) (decode d)) _ xs e in
    let rest = step (each decode (suc i) ds) _ xs first.rest in
    let all : AllByRecursion P (first.value ∷ rest.value) = (h d first.value (with_path-ok _ (decode d) first.value first.is), each-ok P decode h (suc i) ds rest.value rest.is) in
    subst (AllByRecursion P) (ok_same rest.rest) all

-- a count within bounds
record IsWithin (min max n : ℕ) : Type 0 where
  from : min ≤ n
  to : n ≤ max

choice-ok : (b : Bool) (n m : ℕ) (cause : List ℕ) → cond b (refuse cause) (Ok n) ≡ Ok m → (b ≡ false) × (n ≡ m)
choice-ok true n m cause e = cc
choice-ok false n m cause e = (refl, ok_same e)

neither : (x y : Bool) → (x || y) ≡ false → (x ≡ false) × (y ≡ false)
neither true y e = cc
neither false y e = (refl, e)

within-ok : (min max n m : ℕ) → within min max n ≡ Ok m → IsWithin min max m
within-ok min max n m e =
    let chosen = choice-ok (nat_lt n min || nat_lt max n) n m (codes "out of range") e in
    let bounds = neither (nat_lt n min) (nat_lt max n) chosen.0 in
    subst (IsWithin min max) chosen.1 (record { from = ltb-false n min bounds.0; to = ltb-false max n bounds.1 })

count_within-ok : (min max : ℕ) (v : Data) (n : ℕ) → count_within min max v ≡ Ok n → IsWithin min max n
count_within-ok min max v n e =
    let counted = step (count v) (within min max) n e in
    within-ok min max counted.value n counted.rest

member-within : (name : List ℕ) (min max : ℕ) (v : Data) (n : ℕ) → member name (count_within min max) v ≡ Ok n → IsWithin min max n
member-within name min max v n e =
    let read = member-ok name (count_within min max) v n e in
    count_within-ok min max read.value n read.is

-- a statement that is checked has no fault
checked-ok : {S : Type 0} (s t : S) (fault : Option CheckError) → checked_statement s fault ≡ Ok t → (s ≡ t) × (fault ≡ None)
checked-ok s t None e = (ok_same e, refl)
checked-ok s t (Some fault) e = cc

insert-ok : (tables : Tables) (context : Context) (v : Data) (write : Write) → insert tables context v ≡ Ok write → write_fault tables write ≡ None
unfolding insert
insert-ok tables context v write e =
    let table = step (member (codes "insert") (table_named tables) v) _ write e in
    let values = step (member (codes "row") (array_of value) v) _ write table.rest in
    let known = step (no_members_at context (codes "insert" ∷ codes "row" ∷ []) v) _ write values.rest in
    let statement : Write = Insert table.value (record { values = values.value }) in
    let done = checked-ok statement write (write_fault tables statement) known.rest in
    subst (λ w. write_fault tables w ≡ None) done.0 done.1

update-ok : (version : Version) (tables : Tables) (context : Context) (v : Data) (write : Write) → update version tables context v ≡ Ok write → write_fault tables write ≡ None
unfolding update
update-ok version tables context v write e =
    let table = step (member (codes "update") (table_named tables) v) _ write e in
    let changes = step (member (codes "change") (array_of (change tables table.value)) v) _ write table.rest in
    let equals = step (member (codes "where") (array_of (condition version tables table.value)) v) _ write changes.rest in
    let known = step (no_members_at context (codes "change" ∷ codes "update" ∷ codes "where" ∷ []) v) _ write equals.rest in
    let statement : Write = Update table.value changes.value equals.value in
    let done = checked-ok statement write (write_fault tables statement) known.rest in
    subst (λ w. write_fault tables w ≡ None) done.0 done.1

delete-ok : (version : Version) (tables : Tables) (context : Context) (v : Data) (write : Write) → delete version tables context v ≡ Ok write → write_fault tables write ≡ None
unfolding delete
delete-ok version tables context v write e =
    let table = step (member (codes "delete") (table_named tables) v) _ write e in
    let equals = step (member (codes "where") (array_of (condition version tables table.value)) v) _ write table.rest in
    let known = step (no_members_at context (codes "delete" ∷ codes "where" ∷ []) v) _ write equals.rest in
    let statement : Write = Delete table.value equals.value in
    let done = checked-ok statement write (write_fault tables statement) known.rest in
    subst (λ w. write_fault tables w ≡ None) done.0 done.1

select-ok : (version : Version) (tables : Tables) (v : Data) (a : Ask) → select version tables v ≡ Ok a → ask_fault tables a ≡ None
unfolding select
select-ok version tables v a e =
    let table = step (member (codes "select") (table_named tables) v) _ a e in
    let equals = step (member (codes "where") (array_of (condition version tables table.value)) v) _ a table.rest in
    let at = step (optional (codes "at") count v) _ a equals.rest in
    let known = step (no_members_but (is_one_of (codes "at" ∷ codes "select" ∷ codes "where" ∷ codes "worker" ∷ [])) v) _ a at.rest in
    let statement : Select = record { table = table.value; equals = equals.value } in
    let checked = step (checked_statement statement (select_fault tables statement)) _ a known.rest in
    let done = checked-ok statement checked.value (select_fault tables statement) checked.is in
    let none : select_fault tables checked.value ≡ None = subst (λ s. select_fault tables s ≡ None) done.0 done.1 in
    subst (λ b. ask_fault tables b ≡ None) (ok_same checked.rest) none

preview-ok : (version : Version) (tables : Tables) (v : Data) (a : Ask) → preview version tables v ≡ Ok a → ask_fault tables a ≡ None
unfolding preview
preview-ok version tables v a e =
    let table = step (member (codes "preview") (table_named tables) v) _ a e in
    let equals = step (member (codes "where") (array_of (condition version tables table.value)) v) _ a table.rest in
    let known = step (no_members_but (is_one_of (codes "preview" ∷ codes "where" ∷ codes "worker" ∷ [])) v) _ a equals.rest in
    let statement : Select = record { table = table.value; equals = equals.value } in
    let checked = step (checked_statement statement (select_fault tables statement)) _ a known.rest in
    let done = checked-ok statement checked.value (select_fault tables statement) checked.is in
    let none : select_fault tables checked.value ≡ None = subst (λ s. select_fault tables s ≡ None) done.0 done.1 in
    subst (λ b. ask_fault tables b ≡ None) (ok_same checked.rest) none

-- a write that may be there has no fault where it is there
abbrev IsAccepted : Tables → Option Write → Type 0
IsAccepted tables None = Unit {0}
IsAccepted tables (Some write) = write_fault tables write ≡ None

some-ok : (tables : Tables) (r : Result Write DocFault) (o : Option Write) → ((w : Write) → r ≡ Ok w → write_fault tables w ≡ None)
    → (r >>= λ write. Ok (Some write)) ≡ Ok o → IsAccepted tables o
some-ok tables r o sound e =
    let write = step r _ o e in
    subst (IsAccepted tables) (ok_same write.rest) (sound write.value write.is)

write-ok_by_kind : (version : Version) (tables : Tables) (context : Context) (v : Data) (first second third : Bool) (o : Option Write)
    → cond first (insert tables context v >>= λ write. Ok (Some write))
    (cond second (update version tables context v >>= λ write. Ok (Some write))
    (cond third (delete version tables context v >>= λ write. Ok (Some write)) (Ok None))) ≡ Ok o
    → IsAccepted tables o
write-ok_by_kind version tables context v true second third o e = some-ok tables (insert tables context v) o (insert-ok tables context v) e
write-ok_by_kind version tables context v false true third o e = some-ok tables (update version tables context v) o (update-ok version tables context v) e
write-ok_by_kind version tables context v false false true o e = some-ok tables (delete version tables context v) o (delete-ok version tables context v) e
write-ok_by_kind version tables context v false false false o e = subst (IsAccepted tables) (ok_same e) tt

write-ok : (version : Version) (tables : Tables) (context : Context) (v : Data) (o : Option Write) → write version tables context v ≡ Ok o → IsAccepted tables o
unfolding write
write-ok version tables context v o e = write-ok_by_kind version tables context v (has (codes "insert") v) (has (codes "update") v) (has (codes "delete") v) o e

or_refuse-ok : (tables : Tables) (cause : List ℕ) (o : Option Write) (w : Write) → IsAccepted tables o → or_refuse cause o ≡ Ok w → write_fault tables w ≡ None
or_refuse-ok tables cause None w h e = cc
or_refuse-ok tables cause (Some x) w h e = subst (λ w. write_fault tables w ≡ None) (ok_same e) h

item_of_action-ok : (version : Version) (tables : Tables) (v : Data) (w : Write) → item_of_action version tables v ≡ Ok w → write_fault tables w ≡ None
unfolding item_of_action
item_of_action-ok version tables v w e =
    let members = step (object v) _ w e in
    let read = step (write version tables contexts.Nested v) _ w members.rest in
    or_refuse-ok tables _ read.value w (write-ok version tables contexts.Nested v read.value read.is) read.rest

-- an action of writes without faults, of which there are few, has no fault
first_write_fault-none : (tables : Tables) (ws : List Write) → AllByRecursion (λ w. write_fault tables w ≡ None) ws → first_write_fault tables ws ≡ None
first_write_fault-none tables [] h = refl
first_write_fault-none tables (w ∷ ws) h = ap (λ o. option_or o (first_write_fault tables ws)) h.0 ∙ first_write_fault-none tables ws h.1

action_fault-none : (tables : Tables) (ws : List Write) → nat_lt max_writes (length ws) ≡ false → AllByRecursion (λ w. write_fault tables w ≡ None) ws → action_fault tables ws ≡ None
action_fault-none tables ws few h = ap (λ b. cond b (Some errors.TooManyWrites) (first_write_fault tables ws)) few ∙ first_write_fault-none tables ws h

within_limit-ok : (b : Bool) (cause : List ℕ) → cond b (refuse {T = Unit {0}} cause) (Ok tt) ≡ Ok tt → b ≡ false
within_limit-ok true cause e = cc
within_limit-ok false cause e = refl

length-each : {T : Type 0} (decode : Data → Result T DocFault) (i : ℕ) (ds : List Data) (xs : List T) → each decode i ds ≡ Ok xs → length xs ≡ length ds
length-each decode i [] xs e = ap length (sym (ok_same e))
length-each decode i (d ∷ ds) xs e =
    let first = step (with_path (item_path i) (decode d)) _ xs e in
    let rest = step (each decode (suc i) ds) _ xs first.rest in
    ap length (sym (ok_same rest.rest)) ∙ ap suc (length-each decode (suc i) ds rest.value rest.is)

writes-ok : (version : Version) (tables : Tables) (v : Data) (ws : List Write) → writes version tables v ≡ Ok ws → action_fault tables ws ≡ None
writes-ok version tables v ws e =
    let items = step (array v) _ ws e in
    let limit = step (within_limit max_writes items.value) _ ws items.rest in
    let same_length = length-each (item_of_action version tables) 0 items.value ws limit.rest in
    let few = ap (nat_lt max_writes) same_length ∙ within_limit-ok _ _ limit.is in
    action_fault-none tables ws few (each-ok (λ w. write_fault tables w ≡ None) (item_of_action version tables) (item_of_action-ok version tables) 0 items.value ws limit.rest)

action-ok : (version : Version) (tables : Tables) (context : Context) (v : Data) (act : Action) → action version tables context v ≡ Ok act → action_fault tables act.writes ≡ None
unfolding action
action-ok version tables context v act e =
    let items = step (member (codes "do") (writes version tables) v) _ act e in
    let whole = step (is_whole version v) _ act items.rest in
    let known = step (no_members_at context (members_of_action version) v) _ act whole.rest in
    let read = member-ok (codes "do") (writes version tables) v items.value items.is in
    subst (λ (a : Action). action_fault tables a.writes ≡ None) (ok_same known.rest) (writes-ok version tables read.value items.value read.is)

-- what a call asks for has no fault
do-ok : (tables : Tables) (r : Result Action DocFault) (a : Ask) → ((act : Action) → r ≡ Ok act → action_fault tables act.writes ≡ None)
    → (r >>= λ action. Ok (asks.Write action)) ≡ Ok a → ask_fault tables a ≡ None
do-ok tables r a sound e =
    let action = step r _ a e in
    subst (λ b. ask_fault tables b ≡ None) (ok_same action.rest) (sound action.value action.is)

other_ask-ok_by_kind : (version : Version) (tables : Tables) (v : Data) (first second third : Bool) (a : Ask) (cause : List ℕ)
    → cond first (select version tables v) (cond second (preview version tables v) (cond third (action version tables contexts.Call v >>= λ action. Ok (asks.Write action)) (refuse cause))) ≡ Ok a
    → ask_fault tables a ≡ None
other_ask-ok_by_kind version tables v true second third a cause e = select-ok version tables v a e
other_ask-ok_by_kind version tables v false true third a cause e = preview-ok version tables v a e
other_ask-ok_by_kind version tables v false false true a cause e = do-ok tables (action version tables contexts.Call v) a (action-ok version tables contexts.Call v) e
other_ask-ok_by_kind version tables v false false false a cause e = cc

action_of_one-none : (tables : Tables) (w : Write) → write_fault tables w ≡ None → action_fault tables (w ∷ []) ≡ None
action_of_one-none tables w h = action_fault-none tables (w ∷ []) refl (h, tt)

ask_by-ok : (version : Version) (tables : Tables) (v : Data) (o : Option Write) (a : Ask) → IsAccepted tables o → ask_by version tables v o ≡ Ok a → ask_fault tables a ≡ None
ask_by-ok version tables v (Some w) a h e = subst (λ b. ask_fault tables b ≡ None) (ok_same e) (action_of_one-none tables w h)
ask_by-ok version tables v None a h e =
    other_ask-ok_by_kind version tables v (has (codes "select") v) (has (codes "preview") v) (has_action version v) a (no_kind version) e

ask-ok : (version : Version) (tables : Tables) (v : Data) (a : Ask) → ask version tables v ≡ Ok a → ask_fault tables a ≡ None
unfolding ask
ask-ok version tables v a e =
    let read = step (write version tables contexts.Call v) _ a e in
    ask_by-ok version tables v read.value a (write-ok version tables contexts.Call v read.value read.is) read.rest

call-ok : (version : Version) (tables : Tables) (workers : ℕ) (v : Data) (c : Call) → call version tables workers v ≡ Ok c → IsValidCall tables workers c
unfolding call
call-ok version tables workers v c e =
    let members = step (object v) _ c e in
    let worker = step (member (codes "worker") (count_within 1 workers) v) _ c members.rest in
    let asks = step (ask version tables v) _ c worker.rest in
    let bounds = member-within (codes "worker") 1 workers v worker.value worker.is in
    subst (IsValidCall tables workers) (ok_same asks.rest) (record { from_one = bounds.from; to_last = bounds.to; is_accepted = ask-ok version tables v asks.value asks.is })

record AreCalls (tables : Tables) (workers : ℕ) (cs : List Call) : Type 0 where
  few : length cs ≤ max_calls
  each_is : AllByRecursion (IsValidCall tables workers) cs

calls-ok : (version : Version) (tables : Tables) (workers : ℕ) (v : Data) (cs : List Call) → calls version tables workers v ≡ Ok cs → AreCalls tables workers cs
calls-ok version tables workers v cs e =
    let items = step (array v) _ cs e in
    let limit = step (within_limit max_calls items.value) _ cs items.rest in
    let same_length = length-each (call version tables workers) 0 items.value cs limit.rest in
    let few = ltb-false max_calls (length items.value) (within_limit-ok _ _ limit.is) in
    record {
      few = subst (λ n. n ≤ max_calls) (sym same_length) few;
      each_is = each-ok (IsValidCall tables workers) (call version tables workers) (call-ok version tables workers) 0 items.value cs limit.rest;
    }

-- the action of a replacement has no fault
replacement_by_kind-ok : (version : Version) (tables : Tables) (v : Data) (first : Bool) (act : Action) (cause : List ℕ)
    → cond first (action version tables contexts.Nested v) (refuse cause) ≡ Ok act → action_fault tables act.writes ≡ None
replacement_by_kind-ok version tables v true act cause e = action-ok version tables contexts.Nested v act e
replacement_by_kind-ok version tables v false act cause e = cc

replacement_by-ok : (version : Version) (tables : Tables) (v : Data) (o : Option Write) (act : Action) → IsAccepted tables o → replacement_by version tables v o ≡ Ok act → action_fault tables act.writes ≡ None
replacement_by-ok version tables v (Some w) act h e = subst (λ (a : Action). action_fault tables a.writes ≡ None) (ok_same e) (action_of_one-none tables w h)
replacement_by-ok version tables v None act h e = replacement_by_kind-ok version tables v (has_action version v) act (no_kind_of_write version) e

replacement-ok : (version : Version) (tables : Tables) (v : Data) (act : Action) → replacement version tables v ≡ Ok act → action_fault tables act.writes ≡ None
unfolding replacement
replacement-ok version tables v act e =
    let members = step (object v) _ act e in
    let read = step (write version tables contexts.Nested v) _ act members.rest in
    replacement_by-ok version tables v read.value act (write-ok version tables contexts.Nested v read.value read.is) read.rest

-- an edit names one of the calls, and its action has no fault
record IsSound (tables : Tables) (calls : ℕ) (e : Edit) : Type 0 where
  from_one : 1 ≤ slot_number e
  to_last : slot_number e ≤ calls
  is_accepted : edit_fault tables e ≡ None

cancel-ok : (tables : Tables) (calls : ℕ) (v : Data) (edit : Edit) → cancel calls v ≡ Ok edit → IsSound tables calls edit
unfolding cancel
cancel-ok tables calls v edit e =
    let number = step (member (codes "cancel") (count_within 1 calls) v) _ edit e in
    let known = step (no_members_but (is_one_of (codes "cancel" ∷ [])) v) _ edit number.rest in
    let bounds = member-within (codes "cancel") 1 calls v number.value number.is in
    subst (IsSound tables calls) (ok_same known.rest) (record { from_one = bounds.from; to_last = bounds.to; is_accepted = refl })

replace-ok : (version : Version) (tables : Tables) (calls : ℕ) (v : Data) (edit : Edit) → replace version tables calls v ≡ Ok edit → IsSound tables calls edit
unfolding replace
replace-ok version tables calls v edit e =
    let number = step (member (codes "replace") (count_within 1 calls) v) _ edit e in
    let by = step (member (codes "by") (replacement version tables) v) _ edit number.rest in
    let known = step (no_members_but (is_one_of (codes "by" ∷ codes "replace" ∷ [])) v) _ edit by.rest in
    let bounds = member-within (codes "replace") 1 calls v number.value number.is in
    let read = member-ok (codes "by") (replacement version tables) v by.value by.is in
    subst (IsSound tables calls) (ok_same known.rest)
    (record { from_one = bounds.from; to_last = bounds.to; is_accepted = replacement-ok version tables read.value by.value read.is })

edit-ok_by_kind : (version : Version) (tables : Tables) (calls : ℕ) (v : Data) (first second : Bool) (edit : Edit) (cause : List ℕ)
    → cond first (cancel calls v) (cond second (replace version tables calls v) (refuse cause)) ≡ Ok edit → IsSound tables calls edit
edit-ok_by_kind version tables calls v true second edit cause e = cancel-ok tables calls v edit e
edit-ok_by_kind version tables calls v false true edit cause e = replace-ok version tables calls v edit e
edit-ok_by_kind version tables calls v false false edit cause e = cc

-- an edit that is taken is of an action, and of a call that no earlier edit is for
judge-ok : (of_action twice : Bool) (first second : List ℕ) → cond (not of_action) (refuse {T = Unit {0}} first) (cond twice (refuse second) (Ok tt)) ≡ Ok tt → (of_action ≡ true) × (twice ≡ false)
judge-ok true true first second e = cc
judge-ok true false first second e = (refl, refl)
judge-ok false twice first second e = cc

other_calls-push : (earlier E : List Edit) (e : Edit) → AreForOtherCalls earlier E → list_any (λ d. slot_number e == slot_number d) (earlier ++ E) ≡ false → AreForOtherCalls earlier (E ++ e ∷ [])
other_calls-push earlier [] e h new = (subst (λ ds. list_any (λ d. slot_number e == slot_number d) ds ≡ false) (append-nil earlier) new, tt)
other_calls-push earlier (d ∷ E) e h new =
    (h.0, other_calls-push (earlier ++ d ∷ []) E e h.1 (subst (λ ds. list_any (λ x. slot_number e == slot_number x) ds ≡ false) (sym (append_assoc earlier (d ∷ []) E)) new))

-- what holds of the edits that are taken so far
record AreEdits (tables : Tables) (cs : List Call) (edits : List Edit) : Type 0 where
  each_is : AllByRecursion (IsValidEdit tables cs) edits
  each_once : AreForOtherCalls [] edits

AllByRecursion-push : {A : Type 0} (P : A → Type 0) (xs : List A) (x : A) → AllByRecursion P xs → P x → AllByRecursion P (xs ++ x ∷ [])
AllByRecursion-push P [] x h p = (p, tt)
AllByRecursion-push P (y ∷ ys) x h p = (h.0, AllByRecursion-push P ys x h.1 p)

-- one edit more
record IsOneMore (tables : Tables) (cs : List Call) (earlier edits : List Edit) : Type 0 where
  are : AreEdits tables cs edits
  count : length edits ≡ suc (length earlier)

with_edit-ok : (version : Version) (tables : Tables) (cs : List Call) (earlier : List Edit) (v : Data) (edits : List Edit)
    → AreEdits tables cs earlier → with_edit version tables cs earlier v ≡ Ok edits → IsOneMore tables cs earlier edits
unfolding with_edit
with_edit-ok version tables cs earlier v edits h e =
    let members = step (object v) _ edits e in
    let edit = step (edit_by_kind version tables (length cs) v) _ edits members.rest in
    let judged = step (judge_edit cs earlier edit.value) _ edits edit.rest in
    let sound = edit-ok_by_kind version tables (length cs) v (has (codes "cancel") v) (has (codes "replace") v) edit.value _ edit.is in
    let right = judge-ok (is_action_call cs (slot_number edit.value)) (list_any (λ d. slot_number edit.value == slot_number d) earlier) _ _ judged.is in
    let valid : IsValidEdit tables cs edit.value = record { from_one = sound.from_one; to_last = sound.to_last; of_action = right.0; is_accepted = sound.is_accepted } in
    let are : AreEdits tables cs (earlier ++ edit.value ∷ []) = record {
      each_is = AllByRecursion-push (IsValidEdit tables cs) earlier edit.value h.each_is valid;
      each_once = other_calls-push [] earlier edit.value h.each_once right.1;
    } in
    subst (IsOneMore tables cs earlier) (ok_same judged.rest) (record { are = are; count = length-push earlier edit.value })

fold_items-ok : (version : Version) (tables : Tables) (cs : List Call) (i : ℕ) (earlier : List Edit) (ds : List Data) (edits : List Edit)
    → AreEdits tables cs earlier → fold_items (with_edit version tables cs) i earlier ds ≡ Ok edits → AreEdits tables cs edits × (length edits ≡ length earlier + length ds)
fold_items-ok version tables cs i earlier [] edits h e = (subst (AreEdits tables cs) (ok_same e) h, ap length (sym (ok_same e)) ∙ omega arith)
fold_items-ok version tables cs i earlier (d ∷ ds) edits h e =
    let first = step (with_path (item_path i) (with_edit version tables cs earlier d)) _ edits e in
    let one = with_edit-ok version tables cs earlier d first.value h (with_path-ok _ (with_edit version tables cs earlier d) first.value first.is) in
    let rest = fold_items-ok version tables cs (suc i) first.value ds edits one.are first.rest in
    (rest.0, omega (arith, rest.1, one.count))

record AreSomeEdits (tables : Tables) (cs : List Call) (edits : List Edit) : Type 0 where
  few : length edits ≤ max_edits
  are : AreEdits tables cs edits

edits-ok : (version : Version) (tables : Tables) (cs : List Call) (v : Data) (es : List Edit) → edits version tables cs v ≡ Ok es → AreSomeEdits tables cs es
edits-ok version tables cs v es e =
    let items = step (array v) _ es e in
    let limit = step (within_limit max_edits items.value) _ es items.rest in
    let few = ltb-false max_edits (length items.value) (within_limit-ok _ _ limit.is) in
    let taken = fold_items-ok version tables cs 0 [] items.value es (record { each_is = tt; each_once = tt }) limit.rest in
    record { few = omega (arith, few, taken.1); are = taken.0 }

-- the calls that are made meanwhile
optional-ok : {T : Type 0} (name : List ℕ) (decode : Data → Result T DocFault) (o : Option Data) (x : T) → read_optional name decode o ≡ Ok (Some x) → Meaning decode x
optional-ok name decode None x e = cc
optional-ok name decode (Some d) x e =
    let read = step (with_path (member_path name) (decode d)) _ (Some x) e in
    let same = some_same (ok_same read.rest) in
    record { value = d; is = subst (λ y. decode d ≡ Ok y) same (with_path-ok _ (decode d) read.value read.is) }

meanwhile-ok : (version : Version) (tables : Tables) (workers : ℕ) (o : Option Data) (cs : Option (List Call))
    → read_optional (codes "meanwhile") (calls version tables workers) o ≡ Ok cs → AreCalls tables workers (unwrap_or cs [])
meanwhile-ok version tables workers o None e = record { few = omega arith; each_is = tt }
meanwhile-ok version tables workers o (Some cs) e =
    let read = optional-ok (codes "meanwhile") (calls version tables workers) o cs e in
    calls-ok version tables workers read.value cs read.is

repair-ok : (version : Version) (tables : Tables) (workers : ℕ) (cs : List Call) (v : Data) (plan : Plan) → repair version tables workers cs v ≡ Ok plan → IsValidPlan tables workers cs plan
unfolding repair
repair-ok version tables workers cs v plan e =
    let members = step (object v) _ plan e in
    let es = step (member (codes "edits") (edits version tables cs) v) _ plan members.rest in
    let later = step (optional (codes "meanwhile") (calls version tables workers) v) _ plan es.rest in
    let known = step (no_members_but (is_one_of (codes "edits" ∷ codes "meanwhile" ∷ [])) v) _ plan later.rest in
    let read = member-ok (codes "edits") (edits version tables cs) v es.value es.is in
    let some = edits-ok version tables cs read.value es.value read.is in
    let calls = meanwhile-ok version tables workers (get (codes "meanwhile") v) later.value later.is in
    subst (IsValidPlan tables workers cs) (ok_same known.rest) (record {
      few_edits = some.few;
      valid_edits = All-from_recursion (IsValidEdit tables cs) es.value some.are.each_is;
      each_once = some.are.each_once;
      few_calls = calls.few;
      valid_calls = All-from_recursion (IsValidCall tables workers) (unwrap_or later.value []) calls.each_is;
    })

valid_repair-ok : (version : Version) (tables : Tables) (workers : ℕ) (cs : List Call) (o : Option Data) (plan : Option Plan)
    → read_optional (codes "repair") (repair version tables workers cs) o ≡ Ok plan → IfSome plan (IsValidPlan tables workers cs)
valid_repair-ok version tables workers cs o None e = tt
valid_repair-ok version tables workers cs o (Some plan) e =
    let read = optional-ok (codes "repair") (repair version tables workers cs) o plan e in
    repair-ok version tables workers cs read.value plan read.is

-- each document that is read is valid
pub valid-members_of_document : (v : Data) (d : Document) → members_of_document v ≡ Ok d → IsValidDocument d
unfolding members_of_document
valid-members_of_document v d e =
    let members = step (object v) _ d e in
    let version = step (member (codes "version") version v) _ d members.rest in
    let tables = step (member (codes "tables") catalog v) _ d version.rest in
    let workers = step (member (codes "workers") (count_within 1 max_workers) v) _ d tables.rest in
    let cs = step (member (codes "calls") (calls version.value tables.value workers.value) v) _ d workers.rest in
    let plan = step (optional (codes "repair") (repair version.value tables.value workers.value cs.value) v) _ d cs.rest in
    let known = step (no_members_but (is_one_of (codes "calls" ∷ codes "repair" ∷ codes "tables" ∷ codes "version" ∷ codes "workers" ∷ [])) v) _ d plan.rest in
    let bounds = member-within (codes "workers") 1 max_workers v workers.value workers.is in
    let read = member-ok (codes "calls") (calls version.value tables.value workers.value) v cs.value cs.is in
    let read = calls-ok version.value tables.value workers.value read.value cs.value read.is in
    subst IsValidDocument (ok_same known.rest) (record {
      some_worker = bounds.from;
      few_workers = bounds.to;
      few_calls = read.few;
      valid_calls = All-from_recursion (IsValidCall tables.value workers.value) cs.value read.each_is;
      valid_repair = valid_repair-ok version.value tables.value workers.value cs.value (get (codes "repair") v) plan.value plan.is;
    })
