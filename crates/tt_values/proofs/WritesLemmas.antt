-- The laws of lists of writes: the contents that they leave, and the rows that they write.
use Rattle.std.proofs.Common.{◌≡◌, ℕ, Bool, true, false, cond, ◌&&◌, ◌||◌, ◌==◌, ℤ, List, [], ◌∷◌, ◌++◌, map, filter, fold, IsTrue, T, Option, None, Some, is_some, if◌then◌else◌, refl, sym, ap, subst, ◌∙◌, append-nil, append_assoc}
use Rattle.std.specs.Bool.{⊤}
use Rattle.std.specs.List.{list_any}
use Rattle.std.specs.declared.cmp.Ordering.{Ordering}
use Rattle.std.specs.declared.cmp.Ordering.TheVariants.{Less, Equal, Greater}
use Rattle.std.specs.Ordering.{nat_cmp, int_cmp, int_eq, ordering_then, is_eq, is_lt, eq_by_cmp}
use Rattle.std.specs.Cmp.{IsTotalOrder, both_tied, unsigned_ties, Equal-is}
use Rattle.std.specs.FinMap.{nat_cmp-IsAntisymmetric, int_cmp-IsAntisymmetric}
use Rattle.std.specs.FinMap.Entries as sorted
use Rattle.std.proofs.lemmas.Cmp.{then_total, on_total, nat_cmp_total, int_cmp_total, tied_itself}
use Rattle.std.proofs.lemmas.Bool.{or_parts, and_parts}
use Rattle.std.proofs.lemmas.List.Folds.{list_any-append}
use Rattle.tt_values.specs.declared.row.Row.{Row}
use Rattle.tt_values.specs.declared.statement.Write.{Write}
use Rattle.tt_values.specs.declared.statement.Write.TheVariants.{Insert, Update, Delete}
use Rattle.tt_values.specs.Row.{key_of}
use Rattle.tt_values.specs.Matches.{matches}
use Rattle.tt_values.specs.Change.{changed}
use Rattle.tt_values.specs.Content.{RowsByKey, Content, RowWrite, row_at, with_row_at, with_row_write}
use Rattle.tt_values.specs.Effect.{table_of, effect, effect_on, matching_rows, reply_of}
use Rattle.tt_values.specs.declared.row_id.RowId.{RowId}
use Rattle.tt_values.specs.Action.{content_after_write, content_after_writes, rows_of_write, rows_of_writes, is_among, row_id_cmp, with_row_once, each_row_once, effect_of_writes, effect_at_time, has_no_effect, one_has_no_effect}
use Rattle.tt_values.specs.ActionLaws.{IsByRisingKey, WritesLeaveTheirLastContent, WritesWriteEachRowOnce, WritesFollow}
use Rattle.tt_values.proofs.ContentLemmas.{one_key_changes, row_write_changes_one_row, is_sorted-with_row_at, is_sorted-fold, true_from_T}

-- the order of rows

abbrev id : ℕ → ℤ → RowId
id table key = record { table = table; key = key }

row_id_cmp_total : IsTotalOrder row_id_cmp
row_id_cmp_total = then_total (on_total (λ (r : RowId). r.table) nat_cmp_total) (on_total (λ (r : RowId). r.key) int_cmp_total)

-- rows that the order doesn't tell apart are the same
one_row : (r s : RowId) → row_id_cmp r s ≡ Equal → r ≡ s
one_row r s e = by (nat_cmp r.table s.table) refl e
  where
    by : (o : Ordering) → nat_cmp r.table s.table ≡ o → ordering_then o (int_cmp r.key s.key) ≡ Equal → r ≡ s
    by Less p h = cc
    by Equal p h = λ i. record { table = nat_cmp-IsAntisymmetric r.table s.table p i; key = int_cmp-IsAntisymmetric r.key s.key h i }
    by Greater p h = cc

is_row : (r s : RowId) → ((r.table == s.table) && int_eq r.key s.key) ≡ eq_by_cmp row_id_cmp r s
is_row r s = both_tied _ _ _ _ (unsigned_ties r.table s.table) refl

same_row : (r s : RowId) → ((r.table == s.table) && int_eq r.key s.key) ≡ true → r ≡ s
same_row r s h = one_row r s ((Equal-is (row_id_cmp r s)).0 (sym (is_row r s) ∙ h))

is_among-order : (r : RowId) (rs : List RowId) → is_among r rs ≡ list_any (eq_by_cmp row_id_cmp r) rs
is_among-order r [] = refl
is_among-order r (s ∷ rs) = λ i. is_row r s i || is_among-order r rs i

-- each row of a list once

abbrev Entries : Type 0
Entries = List (RowId × ⊤)

abbrev with_all : Entries → List RowId → Entries
with_all es rs = fold with_row_once es rs

shadowed : {A : Type 0} (a b : Bool) (x y : A) → cond a x (cond b x y) ≡ cond (b || a) x y
shadowed true true x y = refl
shadowed true false x y = refl
shadowed false true x y = refl
shadowed false false x y = refl

find-with_all : (rs : List RowId) (es : Entries) (q : RowId) → sorted.find row_id_cmp q (with_all es rs) ≡ cond (list_any (eq_by_cmp row_id_cmp q) rs) (Some tt) (sorted.find row_id_cmp q es)
find-with_all [] es q = refl
find-with_all (r ∷ rs) es q =
    find-with_all rs (sorted.put row_id_cmp r tt es) q
    ∙ ap (cond (list_any (eq_by_cmp row_id_cmp q) rs) (Some tt)) (sorted.find-put row_id_cmp row_id_cmp_total q r tt es)
    ∙ shadowed (list_any (eq_by_cmp row_id_cmp q) rs) (eq_by_cmp row_id_cmp q r) (Some tt) (sorted.find row_id_cmp q es)

is_sorted-with_all : (rs : List RowId) (es : Entries) → T (sorted.is_sorted row_id_cmp es) → T (sorted.is_sorted row_id_cmp (with_all es rs))
is_sorted-with_all [] es h = h
is_sorted-with_all (r ∷ rs) es h = is_sorted-with_all rs (sorted.put row_id_cmp r tt es) (sorted.is_sorted-put row_id_cmp row_id_cmp_total r tt es h)

is_some-cond : (b : Bool) → is_some {T = ⊤} (cond b (Some tt) None) ≡ b
is_some-cond true = refl
is_some-cond false = refl

-- a row is in the list with each row once exactly if it is in the list
is_among-each_row_once : (r : RowId) (rs : List RowId) → is_among r (each_row_once rs) ≡ is_among r rs
is_among-each_row_once r rs =
    is_among-order r (each_row_once rs)
    ∙ sym (sorted.is_some-find row_id_cmp r (with_all [] rs))
    ∙ ap is_some (find-with_all rs [] r)
    ∙ is_some-cond (list_any (eq_by_cmp row_id_cmp r) rs)
    ∙ sym (is_among-order r rs)

-- images of entries whose keys stand in the same order

below-image : {K J X Y : Type 0} (R : K → K → Ordering) (S : J → J → Ordering) (f : K × X → J × Y) → ((d e : K × X) → S (f d).0 (f e).0 ≡ R d.0 e.0) → (d : K × X) (es : List (K × X)) → sorted.below_all S (f d).0 (map f es) ≡ sorted.below_all R d.0 es
below-image R S f same d [] = refl
below-image R S f same d (e ∷ es) = λ i. is_lt (same d e i) && below-image R S f same d es i

is_sorted-image : {K J X Y : Type 0} (R : K → K → Ordering) (S : J → J → Ordering) (f : K × X → J × Y) → ((d e : K × X) → S (f d).0 (f e).0 ≡ R d.0 e.0) → (es : List (K × X)) → sorted.is_sorted S (map f es) ≡ sorted.is_sorted R es
is_sorted-image R S f same [] = refl
is_sorted-image R S f same (e ∷ es) = λ i. below-image R S f same e es i && is_sorted-image R S f same es i

map-map : {A B C : Type 0} (g : B → C) (f : A → B) (xs : List A) → map g (map f xs) ≡ map (λ x. g (f x)) xs
map-map g f [] = refl
map-map g f (x ∷ xs) = ap (λ ys. g (f x) ∷ ys) (map-map g f xs)

map-same : {A : Type 0} (f : A → A) → ((x : A) → f x ≡ x) → (xs : List A) → map f xs ≡ xs
map-same f same [] = refl
map-same f same (x ∷ xs) = λ i. same x i ∷ map-same f same xs i

is_sorted-effect_of_writes : (ws : List Write) (X : Content) → IsTrue (sorted.is_sorted row_id_cmp (effect_of_writes ws X))
is_sorted-effect_of_writes ws X =
    let rs = rows_of_writes ws X in
    let row = λ (r : RowId). row_at (content_after_writes ws X r.table) r.key in
    ap (sorted.is_sorted row_id_cmp) (map-map (λ r. (r, row r)) (λ (e : RowId × ⊤). e.0) (with_all [] rs))
    ∙ is_sorted-image row_id_cmp row_id_cmp (λ e. (e.0, row e.0)) (λ d e. refl) (with_all [] rs)
    ∙ true_from_T _ (is_sorted-with_all rs [] tt)

pub writes_write_each_row_once : WritesWriteEachRowOnce
writes_write_each_row_once ws X =
    let rs = rows_of_writes ws X in
    let row = λ (r : RowId). row_at (content_after_writes ws X r.table) r.key in
    let rows : map (λ e. e.0) (effect_of_writes ws X) ≡ each_row_once rs = map-map (λ (e : RowId × Option Row). e.0) (λ r. (r, row r)) (each_row_once rs) ∙ map-same (λ r. r) (λ r. refl) (each_row_once rs) in
    (is_sorted-effect_of_writes ws X, λ r. ap (is_among r) rows ∙ is_among-each_row_once r rs)

-- the content after some writes

-- the rows of one table, after those of some keys are set, or removed
abbrev after_all : RowsByKey → List (ℤ × Option Row) → RowsByKey
after_all rows es = fold (λ rows e. with_row_at rows e.0 e.1) rows es

is_sorted-after_all : (es : List (ℤ × Option Row)) (rows : RowsByKey) → T (sorted.is_sorted int_cmp rows) → T (sorted.is_sorted int_cmp (after_all rows es))
is_sorted-after_all [] rows h = h
is_sorted-after_all (e ∷ es) rows h = is_sorted-after_all es (with_row_at rows e.0 e.1) (is_sorted-with_row_at rows e.0 e.1 h)

is_sorted-after_write : (w : Write) (X : Content) (table : ℕ) → T (sorted.is_sorted int_cmp (X table)) → T (sorted.is_sorted int_cmp (content_after_write w X table))
is_sorted-after_write w X table h = by (table == table_of w)
  where
    by : (b : Bool) → T (sorted.is_sorted int_cmp (if b then after_all (X table) (effect w X) else X table))
    by true = is_sorted-after_all (effect w X) (X table) h
    by false = h

is_sorted-after_writes : (ws : List Write) (X : Content) (table : ℕ) → T (sorted.is_sorted int_cmp (X table)) → T (sorted.is_sorted int_cmp (content_after_writes ws X table))
is_sorted-after_writes [] X table h = h
is_sorted-after_writes (w ∷ ws) X table h = is_sorted-after_writes ws (content_after_write w X) table (is_sorted-after_write w X table h)

-- a key that none of the entries has keeps its row
kept_by_all : (q : ℤ) (es : List (ℤ × Option Row)) (rows : RowsByKey) → list_any (λ e. int_eq q e.0) es ≡ false → row_at (after_all rows es) q ≡ row_at rows q
kept_by_all q [] rows h = refl
kept_by_all q (e ∷ es) rows h =
    let other = or_parts (int_eq q e.0) (list_any (λ d. int_eq q d.0) es) h in
    kept_by_all q es (with_row_at rows e.0 e.1) other.1
    ∙ one_key_changes rows e.0 e.1 q
    ∙ ap (λ b. cond b e.1 (row_at rows q)) other.0

is_among-rows : (table written : ℕ) (q : ℤ) (es : List (ℤ × Option Row)) → is_among (id table q) (map (λ e. id written e.0) es) ≡ list_any (λ e. (table == written) && int_eq q e.0) es
is_among-rows table written q [] = refl
is_among-rows table written q (e ∷ es) = ap (λ b. ((table == written) && int_eq q e.0) || b) (is_among-rows table written q es)

-- a row that a write doesn't write stays
kept_by_write : (w : Write) (X : Content) (table : ℕ) (q : ℤ) → is_among (id table q) (rows_of_write w X) ≡ false → row_at (content_after_write w X table) q ≡ row_at (X table) q
kept_by_write w X table q h = by (table == table_of w) (sym (is_among-rows table (table_of w) q (effect w X)) ∙ h)
  where
    by : (b : Bool) → list_any (λ e. b && int_eq q e.0) (effect w X) ≡ false → row_at (if b then after_all (X table) (effect w X) else X table) q ≡ row_at (X table) q
    by true g = kept_by_all q (effect w X) (X table) g
    by false g = refl

-- a row that none of some writes writes stays
kept_by_writes : (ws : List Write) (X : Content) (table : ℕ) (q : ℤ) → is_among (id table q) (rows_of_writes ws X) ≡ false → row_at (content_after_writes ws X table) q ≡ row_at (X table) q
kept_by_writes [] X table q h = refl
kept_by_writes (w ∷ ws) X table q h =
    let next = content_after_write w X in
    let split = list_any-append (λ s. (table == s.table) && int_eq q s.key) (rows_of_write w X) (rows_of_writes ws next) in
    let other = or_parts (is_among (id table q) (rows_of_write w X)) (is_among (id table q) (rows_of_writes ws next)) (sym split ∙ h) in
    kept_by_writes ws next table q other.1 ∙ kept_by_write w X table q other.0

-- the row of a content at an id
abbrev row_of : Content → RowId → Option Row
row_of Y r = row_at (Y r.table) r.key

-- row writes of some rows, as a content has them
abbrev writes_of : ℕ → Content → List RowId → List RowWrite
writes_of time Y rs = map (λ (e : RowId × Option Row). record { time = time; table = e.0.table; key = e.0.key; row = e.1 }) (map (λ r. (r, row_of Y r)) rs)

last_wins : {A : Type 0} (later now : Bool) (new same old : A) → (now ≡ true → same ≡ new) → cond later new (cond now same old) ≡ cond (now || later) new old
last_wins true true new same old h = refl
last_wins true false new same old h = refl
last_wins false true new same old h = h refl
last_wins false false new same old h = refl

-- they give the rows that they are for as that content has them, and leave the others
row_after_writes_of : (rs : List RowId) (time : ℕ) (X Y : Content) (table : ℕ) (q : ℤ) → row_at (fold with_row_write X (writes_of time Y rs) table) q ≡ cond (is_among (id table q) rs) (row_at (Y table) q) (row_at (X table) q)
row_after_writes_of [] time X Y table q = refl
row_after_writes_of (r ∷ rs) time X Y table q =
    let first : RowWrite = record { time = time; table = r.table; key = r.key; row = row_of Y r } in
    let now = (table == r.table) && int_eq q r.key in
    row_after_writes_of rs time (with_row_write X first) Y table q
    ∙ ap (cond (is_among (id table q) rs) (row_at (Y table) q)) (row_write_changes_one_row X first table q)
    ∙ last_wins (is_among (id table q) rs) now (row_at (Y table) q) (row_of Y r) (row_at (X table) q) (λ h. ap (row_of Y) (sym (same_row (id table q) r h)))

pub writes_leave_their_last_content : WritesLeaveTheirLastContent
writes_leave_their_last_content time ws X rising = λ i table. same_rows table i
  where
    -- a row that is among those written has its last row, and any other its old one, which it kept
    by : (table : ℕ) (q : ℤ) (b : Bool) → is_among (id table q) (rows_of_writes ws X) ≡ b → cond b (row_at (content_after_writes ws X table) q) (row_at (X table) q) ≡ row_at (content_after_writes ws X table) q
    by table q true h = refl
    by table q false h = sym (kept_by_writes ws X table q h)

    same_row_at : (table : ℕ) (q : ℤ) → row_at (fold with_row_write X (effect_at_time time (effect_of_writes ws X)) table) q ≡ row_at (content_after_writes ws X table) q
    same_row_at table q =
        let old = row_at (X table) q in
        let new = row_at (content_after_writes ws X table) q in
        row_after_writes_of (each_row_once (rows_of_writes ws X)) time X (content_after_writes ws X) table q
        ∙ ap (λ b. cond b new old) (is_among-each_row_once (id table q) (rows_of_writes ws X))
        ∙ by table q (is_among (id table q) (rows_of_writes ws X)) refl

    same_rows : (table : ℕ) → fold with_row_write X (effect_at_time time (effect_of_writes ws X)) table ≡ content_after_writes ws X table
    same_rows table =
        let before : T (sorted.is_sorted int_cmp (X table)) = subst T (sym (rising table)) tt in
        sorted.same_entries int_cmp int_cmp_total int_cmp-IsAntisymmetric _ _ (is_sorted-fold (effect_at_time time (effect_of_writes ws X)) X table before) (is_sorted-after_writes ws X table before) (same_row_at table)

-- an action of one write

-- the entries that pass a test stand in the same order
below-filter : (p : ℤ × Row → Bool) (key : ℤ) (es : RowsByKey) → IsTrue (sorted.below_all int_cmp key es) → IsTrue (sorted.below_all int_cmp key (filter p es))
below-filter p key [] h = refl
below-filter p key (e ∷ es) h =
    let parts = and_parts (is_lt (int_cmp key e.0)) (sorted.below_all int_cmp key es) h in
    let rest = below-filter p key es parts.1 in
    elim (p e) as (λ b. IsTrue (sorted.below_all int_cmp key (cond b (e ∷ filter p es) (filter p es)))) [ true ↦ λ i. parts.0 i && rest i | false ↦ rest ]

is_sorted-filter : (p : ℤ × Row → Bool) (es : RowsByKey) → IsTrue (sorted.is_sorted int_cmp es) → IsTrue (sorted.is_sorted int_cmp (filter p es))
is_sorted-filter p [] h = refl
is_sorted-filter p (e ∷ es) h =
    let parts = and_parts (sorted.below_all int_cmp e.0 es) (sorted.is_sorted int_cmp es) h in
    let below = below-filter p e.0 es parts.0 in
    let rest = is_sorted-filter p es parts.1 in
    elim (p e) as (λ b. IsTrue (sorted.is_sorted int_cmp (cond b (e ∷ filter p es) (filter p es)))) [ true ↦ λ i. below i && rest i | false ↦ rest ]

is_sorted-effect_on : (w : Write) (rows : RowsByKey) → IsTrue (sorted.is_sorted int_cmp rows) → IsTrue (sorted.is_sorted int_cmp (effect_on w rows))
is_sorted-effect_on (Insert table row) rows h =
    elim (is_some (row_at rows (key_of row))) as (λ b. IsTrue (sorted.is_sorted int_cmp (if b then [] else (key_of row, Some row) ∷ []))) [ true ↦ refl | false ↦ refl ]
is_sorted-effect_on (Update table changes equals) rows h =
    is_sorted-image int_cmp int_cmp (λ e. (e.0, Some (changed e.1 changes))) (λ d e. refl) (matching_rows equals rows) ∙ is_sorted-filter (λ e. matches equals e.1) rows h
is_sorted-effect_on (Delete table equals) rows h =
    is_sorted-image {Y = Option Row} int_cmp int_cmp (λ e. (e.0, None)) (λ d e. refl) (matching_rows equals rows) ∙ is_sorted-filter (λ e. matches equals e.1) rows h

-- a list of rows that rise has each of them once
abbrev as_entries : List RowId → Entries
as_entries rs = map (λ r. (r, tt)) rs

either : {A : Type 0} (a b : Bool) (x y : A) → cond a x (cond b x y) ≡ cond (a || b) x y
either true b x y = refl
either false b x y = refl

find-as_entries : (rs : List RowId) (q : RowId) → sorted.find row_id_cmp q (as_entries rs) ≡ cond (list_any (eq_by_cmp row_id_cmp q) rs) (Some tt) None
find-as_entries [] q = refl
find-as_entries (r ∷ rs) q =
    ap (cond (eq_by_cmp row_id_cmp q r) (Some tt)) (find-as_entries rs q) ∙ either (eq_by_cmp row_id_cmp q r) (list_any (eq_by_cmp row_id_cmp q) rs) (Some tt) None

each_row_once-rising : (rs : List RowId) → IsTrue (sorted.is_sorted row_id_cmp (as_entries rs)) → each_row_once rs ≡ rs
each_row_once-rising rs h =
    let same = sorted.same_entries row_id_cmp row_id_cmp_total one_row (with_all [] rs) (as_entries rs) (is_sorted-with_all rs [] tt) (subst T (sym h) tt) (λ q. find-with_all rs [] q ∙ sym (find-as_entries rs q)) in
    ap (map (λ e. e.0)) same ∙ map-map (λ (e : RowId × ⊤). e.0) (λ r. (r, tt)) rs ∙ map-same (λ r. r) (λ r. refl) rs

-- the rows of rising keys of one table rise
rows_rise : (table : ℕ) (es : List (ℤ × Option Row)) → IsTrue (sorted.is_sorted int_cmp es) → IsTrue (sorted.is_sorted row_id_cmp (as_entries (map (λ e. id table e.0) es)))
rows_rise table es h =
    ap (sorted.is_sorted row_id_cmp) (map-map (λ r. (r, tt)) (λ (e : ℤ × Option Row). id table e.0) es)
    ∙ is_sorted-image int_cmp row_id_cmp (λ e. (id table e.0, tt)) (λ d e. ap (λ o. ordering_then o (int_cmp d.0 e.0)) (tied_itself nat_cmp_total table)) es
    ∙ h

not_equal : (o : Ordering) → is_lt o ≡ true → is_eq o ≡ false
not_equal Less h = refl
not_equal Equal h = sym h
not_equal Greater h = refl

-- a key below all others isn't one of them
none_below : (key : ℤ) (es : List (ℤ × Option Row)) → IsTrue (sorted.below_all int_cmp key es) → list_any (λ e. int_eq key e.0) es ≡ false
none_below key [] h = refl
none_below key (e ∷ es) h =
    let parts = and_parts (is_lt (int_cmp key e.0)) (sorted.below_all int_cmp key es) h in
    let rest = none_below key es parts.1 in
    λ i. not_equal (int_cmp key e.0) parts.0 i || rest i

-- after rising keys are set, each of them has its row
rows_as_set : (table : ℕ) (es : List (ℤ × Option Row)) (rows : RowsByKey) → IsTrue (sorted.is_sorted int_cmp es) → map {B = RowId × Option Row} (λ e. (id table e.0, row_at (after_all rows es) e.0)) es ≡ map (λ e. (id table e.0, e.1)) es
rows_as_set table [] rows h = refl
rows_as_set table (e ∷ es) rows h =
    let parts = and_parts (sorted.below_all int_cmp e.0 es) (sorted.is_sorted int_cmp es) h in
    let next = with_row_at rows e.0 e.1 in
    let first : row_at (after_all next es) e.0 ≡ e.1 =
    kept_by_all e.0 es next (none_below e.0 es parts.0)
    ∙ one_key_changes rows e.0 e.1 e.0
    ∙ ap (λ o. cond (is_eq o) e.1 (row_at rows e.0)) (tied_itself int_cmp_total e.0) in
    λ i. (id table e.0, first i) ∷ rows_as_set table es next parts.1 i

pub row_writes_of_one_write : (time : ℕ) (w : Write) (X : Content) → IsByRisingKey X →
    effect_at_time time (effect_of_writes (w ∷ []) X) ≡ map (λ e. record { time = time; table = table_of w; key = e.0; row = e.1 }) (effect w X)
row_writes_of_one_write time w X rising =
    let es = effect w X in
    let table = table_of w in
    let rises = is_sorted-effect_on w (X table) (rising table) in
    let itself = unsigned_ties table table ∙ ap is_eq (tied_itself nat_cmp_total table) in
    let as_written : RowId × Option Row → RowWrite = λ e. record { time = time; table = e.0.table; key = e.0.key; row = e.1 } in
    let row : Content → RowId → RowId × Option Row = λ Y r. (r, row_of Y r) in
    let rows =
    ap (map (row (content_after_write w X))) (ap each_row_once (append-nil (rows_of_write w X)) ∙ each_row_once-rising (rows_of_write w X) (rows_rise table es rises))
    ∙ map-map (row (content_after_write w X)) (λ (e : ℤ × Option Row). id table e.0) es
    ∙ ap (λ b. map {B = RowId × Option Row} (λ (e : ℤ × Option Row). (id table e.0, row_at (if b then after_all (X table) es else X table) e.0)) es) itself
    ∙ rows_as_set table es (X table) rises in
    ap (map as_written) rows ∙ map-map as_written (λ (e : ℤ × Option Row). (id table e.0, e.1)) es

-- writes one after another

or_assoc : (a b c : Bool) → ((a || b) || c) ≡ (a || (b || c))
or_assoc true b c = refl
or_assoc false b c = refl

pub writes_follow : WritesFollow
writes_follow [] vs X = (refl, refl, refl, refl)
writes_follow (w ∷ ws) vs X =
    let next = content_after_write w X in
    let rest = writes_follow ws vs next in (
      rest.0,
      ap (λ rs. reply_of w X ∷ rs) rest.1,
      ap (λ rs. rows_of_write w X ++ rs) rest.2 ∙ sym (append_assoc (rows_of_write w X) (rows_of_writes ws next) _),
      ap (λ b. has_no_effect w X || b) rest.3 ∙ sym (or_assoc (has_no_effect w X) (one_has_no_effect ws next) _),
    )
