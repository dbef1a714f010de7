-- The names of an object stand in order, so that the first unknown one is the least.
use Rattle.std.proofs.Common.{◌≡◌, ℕ, Bool, true, false, cond, not, List, [], ◌∷◌, map, filter, find, Option, Some, None, option_map, String, Global, string_bytes, refl, sym, ap, ◌∙◌}
use Rattle.std.specs.List.{AllByRecursion}
use Rattle.std.specs.List.Sorted.{IsStrictlySortedBy}
use Rattle.std.specs.Ordering.{nat_cmp, match_ordering}
use Rattle.std.specs.declared.cmp.Ordering.{Ordering}
use Rattle.std.specs.declared.cmp.Ordering.TheVariants.{Less}
use Rattle.std.specs.Cmp.Lexicographic.{slice_cmp}
use Rattle.std.specs.String.{string_cmp}
use Rattle.std.specs.Map.{keys_of}
use Rattle.std.proofs.lemmas.List.Kept.{IsStrictlySortedBy-filter}
use Rattle.serde_json.specs.Data.{Members}
use Rattle.serde_json.specs.View.{members_view}
use Rattle.serde_json.specs.declared.value.Value.{Value}
use Rattle.tt_json.specs.Value.{member_names, names_of, lesser, least}

-- the names that a map's members have are its keys
names-members_view : (es : List (String Global × Value)) → member_names (members_view es) ≡ map string_bytes (keys_of es)
names-members_view [] = refl
names-members_view (e ∷ es) = ap (λ ns. string_bytes e.0 ∷ ns) (names-members_view es)

below_names : (k : String Global) (ks : List (String Global)) → AllByRecursion (λ l. string_cmp k l ≡ Less) ks → AllByRecursion (λ n. slice_cmp nat_cmp (string_bytes k) n ≡ Less) (map string_bytes ks)
below_names k [] h = tt
below_names k (l ∷ ks) h = (h.0, below_names k ks h.1)

sorted_names : (ks : List (String Global)) → IsStrictlySortedBy string_cmp ks → IsStrictlySortedBy (slice_cmp nat_cmp) (map string_bytes ks)
unfolding IsStrictlySortedBy
sorted_names [] h = tt
sorted_names (k ∷ ks) h = (below_names k ks h.0, sorted_names ks h.1)

first : List (List ℕ) → Option (List ℕ)
first [] = None
first (n ∷ ns) = Some n

at_less : (o : Ordering) (n m : List ℕ) → o ≡ Less → match_ordering o n n m ≡ n
at_less o n m e = rw e refl

-- of names in order the least is the first
least-sorted : (ns : List (List ℕ)) → IsStrictlySortedBy (slice_cmp nat_cmp) ns → least ns ≡ first ns
unfolding IsStrictlySortedBy first
least-sorted [] h = refl
least-sorted (n ∷ []) h = refl
least-sorted (n ∷ m ∷ ns) h = ap (λ o. Some (lesser n o)) (least-sorted (m ∷ ns) h.1) ∙ ap Some (at_less _ n m h.0.0)

first-filter : (q : List ℕ → Bool) (ns : List (List ℕ)) → first (filter q ns) ≡ find q ns
unfolding first
first-filter q [] = refl
first-filter q (n ∷ ns) = elim (q n) as (λ b. first (cond b (n ∷ filter q ns) (filter q ns)) ≡ cond b (Some n) (find q ns)) [ true ↦ refl | false ↦ first-filter q ns ]

find-map : (q : List ℕ → Bool) (ks : List (String Global)) → find q (map string_bytes ks) ≡ option_map string_bytes (find (λ k. q (string_bytes k)) ks)
find-map q [] = refl
find-map q (k ∷ ks) =
    elim (q (string_bytes k)) as (λ b. cond b (Some (string_bytes k)) (find q (map string_bytes ks)) ≡ option_map string_bytes (cond b (Some k) (find (λ l. q (string_bytes l)) ks)))
    [ true ↦ refl | false ↦ find-map q ks ]

-- the least of an object's names that pass a test is the first key that passes it
pub least-filter : (q : List ℕ → Bool) (es : List (String Global × Value)) → IsStrictlySortedBy string_cmp (keys_of es)
    → least (filter q (member_names (members_view es))) ≡ option_map string_bytes (find (λ k. q (string_bytes k)) (keys_of es))
least-filter q es h =
    rw (names-members_view es) (
    least-sorted _ (IsStrictlySortedBy-filter (slice_cmp nat_cmp) q _ (sorted_names (keys_of es) h))
    ∙ first-filter q (map string_bytes (keys_of es))
    ∙ find-map q (keys_of es))

-- the first key that a test doesn't know is the least unknown name
pub first_is_least : (is_known : List ℕ → Bool) (es : List (String Global × Value)) (object : Option Members) (name : Option (String Global))
    → IsStrictlySortedBy string_cmp (keys_of es) → Some (members_view es) ≡ object → name ≡ find (λ k. not (is_known (string_bytes k))) (keys_of es)
    → option_map string_bytes name ≡ least (filter (λ n. not (is_known n)) (names_of object))
first_is_least is_known es object name h e f =
    ap (option_map string_bytes) f ∙ sym (least-filter (λ n. not (is_known n)) es h) ∙ ap (λ o. least (filter (λ n. not (is_known n)) (names_of o))) e
