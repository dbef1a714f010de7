-- The laws of accepted writes and actions: keys of inserts and updates.
use Rattle.std.proofs.Common.{◌≡◌, ℕ, Bool, true, false, not, nat_lt, if◌then◌else◌, List, [], ◌∷◌, cond, Option, None, Some, IsTrue, IsSome, slice_get, length, arith, refl, ap, subst, ◌∙◌, ◌==◌}
use Rattle.std.specs.List.{All}
use Rattle.std.specs.Option.{option_map, option_or}
use Rattle.std.proofs.lemmas.Bool.{or_parts}
use Rattle.std.proofs.lemmas.Bool.Decides.{nat_tests}
use Rattle.std.proofs.lemmas.Option.{slice_get_within, get_or_from_slice_get}
use Rattle.std.proofs.lemmas.List.Elements.{All-nil, All-cons}
use Rattle.tt_values.specs.Limits.{max_writes}
use Rattle.tt_values.specs.declared.value.Kind.{Kind}
use Rattle.tt_values.specs.declared.value.Kind.TheVariants as kinds
use Rattle.tt_values.specs.declared.value.Value.{Value}
use Rattle.tt_values.specs.declared.value.Value.TheVariants as values
use Rattle.tt_values.specs.declared.table.Column.{Column}
use Rattle.tt_values.specs.declared.table.TableDef.{TableDef}
use Rattle.tt_values.specs.declared.statement.Change.{Change}
use Rattle.tt_values.specs.declared.statement.Write.{Write}
use Rattle.tt_values.specs.declared.statement.Write.TheVariants.{Insert, Update, Delete}
use Rattle.tt_values.specs.declared.checking.CheckError.{CheckError}
use Rattle.tt_values.specs.declared.checking.CheckError.TheVariants as errors
use Rattle.tt_values.specs.Value.{is_of_kind}
use Rattle.tt_values.specs.Row.{first_int}
use Rattle.tt_values.specs.Change.{column_of, value_after, changed_value, changed_values}
use Rattle.tt_values.specs.Tables.{is_int, is_key_int, Tables, IsTable, IsCatalog, columns_at}
use Rattle.tt_values.specs.Faults.{first_fault}
use Rattle.tt_values.specs.Check.{row_tests, update_tests, changes_key, fault_on, write_fault, first_write_fault, HasKey}
use Rattle.tt_values.specs.Laws.{AcceptedInsertsHaveKeys, AcceptedUpdatesKeepKeys}
use Rattle.tt_values.specs.ActionLaws.{AcceptedActionsHaveKeys}
use Rattle.tt_values.proofs.FaultLemmas.{none_holds, true_from_not}

-- a value of the first column's kind is a number
is_some-first_int : (kind : Kind) (v : Value) (vs : List Value) → IsTrue (is_int kind) → is_of_kind kind v ≡ true → IsSome (first_int (v ∷ vs))
is_some-first_int kinds.Int (values.Int n) vs key h = refl
is_some-first_int kinds.Int (values.Text t) vs key h = h
is_some-first_int kinds.Text v vs key h = cc

-- a row without a fault on the columns of a table has a key
key_of_accepted_row : (columns : List Column) (vs : List Value) → IsTrue (is_key_int columns) → first_fault (row_tests columns vs) ≡ None → IsSome (first_int vs)
key_of_accepted_row [] vs key h = cc
key_of_accepted_row (c ∷ cs) [] key h =
    let same_width : IsTrue (0 == length (c ∷ cs)) = true_from_not _ (none_holds (row_tests (c ∷ cs) []) h).1.0 in
    grind (arith, nat_tests)
key_of_accepted_row (c ∷ cs) (v ∷ vs) key h =
    let kinds_fit = or_parts (not (is_of_kind c.kind v)) _ (none_holds (row_tests (c ∷ cs) (v ∷ vs)) h).0 in
    is_some-first_int c.kind v vs key (true_from_not (is_of_kind c.kind v) kinds_fit.0)

pub accepted_inserts_have_keys : AcceptedInsertsHaveKeys
accepted_inserts_have_keys tables table row catalog h = by (slice_get tables table) refl h
  where
    by : (o : Option (List ℕ × TableDef)) → slice_get tables table ≡ o → fault_on (option_map (λ t. t.1.columns) o) (λ columns. row_tests columns row.values) ≡ None → IsSome (first_int row.values)
    by None at g = cc
    by (Some t) at g =
        let table_is_sound : IsTable t.1 = subst (λ t. IsTable t.1) (get_or_from_slice_get tables table t t at) (catalog.sound table t (slice_get_within tables table t at)) in
        key_of_accepted_row t.1.columns row.values table_is_sound.key_is_int g

-- changes of other columns don't change the first value
changed_value-first : (cs : List Change) (v : Value) → changes_key cs ≡ false → changed_value cs 0 v ≡ v
changed_value-first [] v h = refl
changed_value-first (c ∷ cs) v h =
    let others = or_parts (column_of c == 0) (changes_key cs) h in
    ap (λ b. cond b (value_after c v) (changed_value cs 0 v)) others.0 ∙ changed_value-first cs v others.1

first_int-same : (v : Value) (vs ws : List Value) → first_int (v ∷ vs) ≡ first_int (v ∷ ws)
first_int-same (values.Int n) vs ws = refl
first_int-same (values.Text t) vs ws = refl

first_int-changed_values : (cs : List Change) (vs : List Value) → changes_key cs ≡ false → first_int (changed_values cs 0 vs) ≡ first_int vs
first_int-changed_values cs [] h = refl
first_int-changed_values cs (v ∷ vs) h = ap (λ w. first_int (w ∷ changed_values cs 1 vs)) (changed_value-first cs v h) ∙ first_int-same v _ _

pub accepted_updates_keep_keys : AcceptedUpdatesKeepKeys
accepted_updates_keep_keys tables table cs qs row h = first_int-changed_values cs row.values (by (columns_at tables table) h)
  where
    by : (o : Option (List Column)) → fault_on o (λ columns. update_tests columns cs qs) ≡ None → changes_key cs ≡ false
    by None g = cc
    by (Some columns) g = (none_holds (update_tests columns cs qs) g).1.1.1.0

key_of_accepted_write : (tables : Tables) (w : Write) → IsCatalog tables → write_fault tables w ≡ None → HasKey w
key_of_accepted_write tables (Insert table row) catalog h = accepted_inserts_have_keys tables table row catalog h
key_of_accepted_write tables (Update table cs qs) catalog h = tt
key_of_accepted_write tables (Delete table qs) catalog h = tt

keys_of_accepted_writes : (tables : Tables) (ws : List Write) → IsCatalog tables → first_write_fault tables ws ≡ None → All HasKey ws
keys_of_accepted_writes tables [] catalog h = All-nil HasKey
keys_of_accepted_writes tables (w ∷ ws) catalog h = by (write_fault tables w) refl h (keys_of_accepted_writes tables ws catalog)
  where
    by : (o : Option CheckError) → write_fault tables w ≡ o → option_or o (first_write_fault tables ws) ≡ None → (first_write_fault tables ws ≡ None → All HasKey ws) → All HasKey (w ∷ ws)
    by None at g rest = All-cons HasKey w ws (key_of_accepted_write tables w catalog at) (rest g)
    by (Some e) at g rest = cc

pub accepted_actions_have_keys : AcceptedActionsHaveKeys
accepted_actions_have_keys tables ws catalog h = by (nat_lt max_writes (length ws)) h
  where
    by : (b : Bool) → (if b then Some errors.TooManyWrites else first_write_fault tables ws) ≡ None → All HasKey ws
    by true g = cc
    by false g = keys_of_accepted_writes tables ws catalog g
