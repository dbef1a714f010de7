-- What has no fault in a version is read the same in the newest one.
use Rattle.std.proofs.Common.{◌≡◌, ℕ, suc, Bool, true, false, List, [], ◌∷◌, ◌++◌, Option, Some, None, if◌then◌else◌, Result, Ok, Err, codes, refl}
use Rattle.std.specs.Bool.{⊤}
use Rattle.serde_json.specs.Data.{Data}
use Rattle.serde_json.specs.Find.{get}
use Rattle.tt_values.specs.declared.statement.Write.{Write}
use Rattle.tt_values.specs.declared.action.Action.{Action}
use Rattle.tt_values.specs.Limits.{max_writes}
use Rattle.tt_values.specs.Tables.{Tables}
use Rattle.tt_grammar.specs.declared.fault.DocFault.{DocFault}
use Rattle.tt_grammar.specs.declared.statements.Context.{Context}
use Rattle.tt_grammar.specs.declared.statements.Context.TheVariants as contexts
use Rattle.tt_grammar.specs.declared.version.Version.{Version}
use Rattle.tt_grammar.specs.declared.version.Version.TheVariants as versions
use Rattle.tt_grammar.specs.Fault.{◌>>=◌, refuse, or_refuse, with_path, item_path, member_path}
use Rattle.tt_grammar.specs.Decoder.{or_wrong_type, object, array, within_limit, has, read_member, member, read_optional, optional}
use Rattle.tt_grammar.specs.Arrays.{each, array_of}
use Rattle.tt_grammar.specs.Conditions.{table_named, parts_of_condition, condition}
use Rattle.tt_grammar.specs.Changes.{change}
use Rattle.tt_grammar.specs.Members.{is_one_of, no_members_but}
use Rattle.tt_grammar.specs.Statements.{stamp, no_members_at, conditions, update, delete}
use Rattle.tt_grammar.specs.Actions.{write, item_of_action, writes, is_whole, members_of_action, action}
use Rattle.tt_grammar.specs.Edits.{no_kind_of_write, replacement_by, replacement}
use Rattle.tt_grammar.specs.Version.{newest_version}
use Rattle.tt_grammar.specs.NewestVersion.{ReadsTheSame, NewestVersionReadsTheSame}
use Rattle.tt_grammar.proofs.KnownLemmas.{are_known, known-passes, known-more, not_there}

-- ---- the parts of a decoder

-- of a fault nothing is said
pub fault-same : {T : Type 0} (fault : DocFault) (s : Result T DocFault) → ReadsTheSame (Err fault) s
fault-same fault s t e = cc

-- the first value is read the same, and so is what follows it
pub bind-same : {A B : Type 0} (r s : Result A DocFault) (f g : A → Result B DocFault)
    → ReadsTheSame r s → ((a : A) → ReadsTheSame (f a) (g a)) → ReadsTheSame (r >>= f) (s >>= g)
bind-same (Ok a) s f g first next t e = rw (first a refl) (next a t e)
bind-same (Err fault) s f g first next t e = cc

-- the first value doesn't depend on the version
pub then-same : {A B : Type 0} (r : Result A DocFault) (f g : A → Result B DocFault) → ((a : A) → ReadsTheSame (f a) (g a)) → ReadsTheSame (r >>= f) (r >>= g)
then-same (Ok a) f g next t e = next a t e
then-same (Err fault) f g next t e = e

-- what is made of the first value doesn't depend on the version
pub made-same : {A B : Type 0} (r s : Result A DocFault) (f : A → Result B DocFault) → ReadsTheSame r s → ReadsTheSame (r >>= f) (s >>= f)
made-same r s f first = bind-same r s f f first (λ a t e. e)

pub with_path-same : {T : Type 0} (path_of : List ℕ → List ℕ) (r s : Result T DocFault) → ReadsTheSame r s → ReadsTheSame (with_path path_of r) (with_path path_of s)
with_path-same path_of (Ok x) s same t e = rw (same x refl) e
with_path-same path_of (Err fault) s same t e = cc

pub or_refuse-same : {T : Type 0} (cause : List ℕ) (o p : Option T) → ((x : T) → o ≡ Some x → p ≡ Some x) → ReadsTheSame (or_refuse cause o) (or_refuse cause p)
or_refuse-same cause None p same t e = cc
or_refuse-same cause (Some x) p same t e = rw (same x refl) e

pub or_wrong_type-same : {T : Type 0} (o p : Option T) → ((x : T) → o ≡ Some x → p ≡ Some x) → ReadsTheSame (or_wrong_type o) (or_wrong_type p)
or_wrong_type-same = or_refuse-same (codes "wrong type")

-- the test doesn't depend on the version
pub if-same : {T : Type 0} (test : Bool) (r r_else s s_else : Result T DocFault) → ReadsTheSame r s → ReadsTheSame r_else s_else
    → ReadsTheSame (if test then r else r_else) (if test then s else s_else)
if-same true r r_else s s_else same same_else = same
if-same false r r_else s s_else same same_else = same_else

pub read_member-same : {T : Type 0} (name : List ℕ) (older newer : Data → Result T DocFault) (o : Option Data) → ((d : Data) → ReadsTheSame (older d) (newer d))
    → ReadsTheSame (read_member name older o) (read_member name newer o)
read_member-same name older newer None same t e = e
read_member-same name older newer (Some d) same t e = with_path-same (member_path name) (older d) (newer d) (same d) t e

pub member-same : {T : Type 0} (name : List ℕ) (older newer : Data → Result T DocFault) (v : Data) → ((d : Data) → ReadsTheSame (older d) (newer d))
    → ReadsTheSame (member name older v) (member name newer v)
member-same name older newer v same = read_member-same name older newer (get name v) same

pub read_optional-same : {T : Type 0} (name : List ℕ) (older newer : Data → Result T DocFault) (o : Option Data) → ((d : Data) → ReadsTheSame (older d) (newer d))
    → ReadsTheSame (read_optional name older o) (read_optional name newer o)
read_optional-same name older newer None same t e = e
read_optional-same name older newer (Some d) same t e = made-same _ _ _ (with_path-same (member_path name) (older d) (newer d) (same d)) t e

pub optional-same : {T : Type 0} (name : List ℕ) (older newer : Data → Result T DocFault) (v : Data) → ((d : Data) → ReadsTheSame (older d) (newer d))
    → ReadsTheSame (optional name older v) (optional name newer v)
optional-same name older newer v same = read_optional-same name older newer (get name v) same

pub each-same : {T : Type 0} (older newer : Data → Result T DocFault) (i : ℕ) (ds : List Data) → ((d : Data) → ReadsTheSame (older d) (newer d))
    → ReadsTheSame (each older i ds) (each newer i ds)
each-same older newer i [] same t e = e
each-same older newer i (d ∷ ds) same t e =
    bind-same _ _ _ _ (with_path-same (item_path i) (older d) (newer d) (same d)) (λ x. made-same _ _ _ (each-same older newer (suc i) ds same)) t e

pub array_of-same : {T : Type 0} (older newer : Data → Result T DocFault) (v : Data) → ((d : Data) → ReadsTheSame (older d) (newer d))
    → ReadsTheSame (array_of older v) (array_of newer v)
array_of-same older newer v same = then-same (array v) (each older 0) (each newer 0) (λ ds. each-same older newer 0 ds same)

-- ---- conditions

-- version 3 only takes more: a condition of three items
parts-same : (version : Version) (ds : List Data) (parts : Data × Option Data × Data)
    → parts_of_condition version ds ≡ Some parts → parts_of_condition newest_version ds ≡ Some parts
parts-same version [] parts e = e
parts-same version (d ∷ []) parts e = e
parts-same version (d ∷ f ∷ []) parts e = e
parts-same versions.One (d ∷ f ∷ g ∷ []) parts e = cc
parts-same versions.Two (d ∷ f ∷ g ∷ []) parts e = cc
parts-same versions.Three (d ∷ f ∷ g ∷ []) parts e = e
parts-same version (d ∷ f ∷ g ∷ h ∷ ds) parts e = e

pub condition-same : (version : Version) (tables : Tables) (table : ℕ) (v : Data)
    → ReadsTheSame (condition version tables table v) (condition newest_version tables table v)
unfolding condition
condition-same version tables table v =
    then-same (array v) _ _ (λ ds. made-same _ _ _
    (or_wrong_type-same (parts_of_condition version ds) (parts_of_condition newest_version ds) (parts-same version ds)))

pub conditions-same : (version : Version) (tables : Tables) (table : ℕ) (v : Data)
    → ReadsTheSame (conditions version tables table v) (conditions newest_version tables table v)
conditions-same version tables table v =
    member-same (codes "where") (array_of (condition version tables table)) (array_of (condition newest_version tables table)) v
    (λ d. array_of-same (condition version tables table) (condition newest_version tables table) d (condition-same version tables table))

-- ---- writes and actions

pub update-same : (version : Version) (tables : Tables) (context : Context) (v : Data)
    → ReadsTheSame (update version tables context v) (update newest_version tables context v)
unfolding update
update-same version tables context v =
    then-same (member (codes "update") (table_named tables) v) _ _ (λ table. then-same (member (codes "change") (array_of (change tables table)) v) _ _ (λ changes.
    made-same _ _ _ (conditions-same version tables table v)))

pub delete-same : (version : Version) (tables : Tables) (context : Context) (v : Data)
    → ReadsTheSame (delete version tables context v) (delete newest_version tables context v)
unfolding delete
delete-same version tables context v =
    then-same (member (codes "delete") (table_named tables) v) _ _ (λ table. made-same _ _ _ (conditions-same version tables table v))

pub write-same : (version : Version) (tables : Tables) (context : Context) (v : Data)
    → ReadsTheSame (write version tables context v) (write newest_version tables context v)
unfolding write
write-same version tables context v =
    if-same (has (codes "insert") v) _ _ _ _ (λ t e. e) (
    if-same (has (codes "update") v) _ _ _ _ (made-same _ _ _ (update-same version tables context v)) (
    if-same (has (codes "delete") v) _ _ _ _ (made-same _ _ _ (delete-same version tables context v)) (λ t e. e)))

pub item_of_action-same : (version : Version) (tables : Tables) (v : Data)
    → ReadsTheSame (item_of_action version tables v) (item_of_action newest_version tables v)
unfolding item_of_action
item_of_action-same version tables v = then-same (object v) _ _ (λ is_object. made-same _ _ _ (write-same version tables contexts.Nested v))

pub writes-same : (version : Version) (tables : Tables) (v : Data) → ReadsTheSame (writes version tables v) (writes newest_version tables v)
writes-same version tables v =
    then-same (array v) _ _ (λ ds. then-same (within_limit max_writes ds) _ _ (λ few.
    each-same (item_of_action version tables) (item_of_action newest_version tables) 0 ds (item_of_action-same version tables)))

abbrev action_with : List Write → Bool → Action
action_with ws whole = record { writes = ws; whole = whole }

-- an object that has only these members has no `whole`, and passes where `whole` is known, too
without : (names : List (List ℕ)) (v : Data) → is_one_of names (codes "whole") ≡ false → no_members_but (is_one_of names) v ≡ Ok tt
    → (get (codes "whole") v ≡ None) × (no_members_but (is_one_of (names ++ codes "whole" ∷ [])) v ≡ Ok tt)
without names v other h =
    let known = are_known (is_one_of names) v h in
    (not_there (is_one_of names) (codes "whole") v other known, known-passes (is_one_of (names ++ codes "whole" ∷ [])) v (known-more names (codes "whole" ∷ []) v known))

without_whole : (context : Context) (v : Data) → no_members_at context (codes "do" ∷ []) v ≡ Ok tt
    → (get (codes "whole") v ≡ None) × (no_members_at context (members_of_action newest_version) v ≡ Ok tt)
without_whole contexts.Call v h = without (codes "worker" ∷ codes "do" ∷ []) v refl h
without_whole contexts.Request v h = without (codes "if" ∷ codes "worker" ∷ codes "do" ∷ []) v refl h
without_whole contexts.WriteRequest v h = in_write (stamp v) h
  where
    in_write : (read : Result (Option ℕ) DocFault) → (read >>= λ _. no_members_but (is_one_of (codes "if" ∷ codes "worker" ∷ codes "stamp" ∷ codes "do" ∷ [])) v) ≡ Ok tt
        → (get (codes "whole") v ≡ None) × ((read >>= λ _. no_members_but (is_one_of (codes "if" ∷ codes "worker" ∷ codes "stamp" ∷ codes "do" ∷ codes "whole" ∷ [])) v) ≡ Ok tt)
    in_write (Ok s) g = without (codes "if" ∷ codes "worker" ∷ codes "stamp" ∷ codes "do" ∷ []) v refl g
    in_write (Err fault) g = cc
without_whole contexts.Nested v h = without (codes "do" ∷ []) v refl h

-- what stands beside `do` in versions 1 and 2, whose actions aren't whole
beside-same : (context : Context) (v : Data) (ws : List Write) (older : Result ⊤ DocFault) → no_members_at context (codes "do" ∷ []) v ≡ older
    → ReadsTheSame (older >>= λ _. Ok (action_with ws false)) (is_whole newest_version v >>= λ whole. no_members_at context (members_of_action newest_version) v >>= λ _. Ok (action_with ws whole))
beside-same context v ws (Ok tt) h t e = let beside = without_whole context v h in rw (beside.0, beside.1) e
beside-same context v ws (Err fault) h t e = cc

pub action-same : (version : Version) (tables : Tables) (context : Context) (v : Data)
    → ReadsTheSame (action version tables context v) (action newest_version tables context v)
unfolding action
action-same versions.One tables context v =
    bind-same _ _ _ _ (member-same (codes "do") (writes versions.One tables) (writes newest_version tables) v (writes-same versions.One tables)) (λ ws. beside-same context v ws _ refl)
action-same versions.Two tables context v =
    bind-same _ _ _ _ (member-same (codes "do") (writes versions.Two tables) (writes newest_version tables) v (writes-same versions.Two tables)) (λ ws. beside-same context v ws _ refl)
action-same versions.Three tables context v = λ t e. e

-- ---- an action that replaces another

-- a version that has the kind do reads it as the newest one does; what has none of the kinds of its version has a fault
by-same : (version : Version) (tables : Tables) (v : Data) (write : Option Write)
    → ReadsTheSame (replacement_by version tables v write) (replacement_by newest_version tables v write)
by-same version tables v (Some write) t e = e
by-same versions.One tables v None t e = cc
by-same versions.Two tables v None t e =
    if-same (has (codes "do") v) (action versions.Two tables contexts.Nested v) (refuse (no_kind_of_write versions.Two)) _ _
    (action-same versions.Two tables contexts.Nested v) (λ t e. e) t e
by-same versions.Three tables v None t e = e

pub replacement-same : (version : Version) (tables : Tables) (v : Data) → ReadsTheSame (replacement version tables v) (replacement newest_version tables v)
unfolding replacement
replacement-same version tables v =
    then-same (object v) _ _ (λ is_object. bind-same _ _ _ _ (write-same version tables contexts.Nested v) (by-same version tables v))

-- what has no fault in a version is read the same in the newest one
pub newest_version_reads_the_same : NewestVersionReadsTheSame
newest_version_reads_the_same version tables table context v =
    (conditions-same version tables table v, write-same version tables context v, action-same version tables context v, replacement-same version tables v)
