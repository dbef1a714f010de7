-- What an index lists, as it grows, and what a search of it finds.
use Rattle.std.proofs.Common.{◌≡◌, ℕ, zero, suc, ◌+◌, ◌<◌, ◌≤◌, ◌==◌, ◌⊎◌, ℤ, Bool, true, false, cond, ◌||◌, List, [], ◌∷◌, ◌++◌, length, filter, fold, slice_get, slice_index_or, drop, Option, None, Some, IsTrue, IfSome, IfNone, is_some, option_map, nat_le, nat_lt, refl, sym, ap, subst, ◌∙◌, arith, inl, inr}
use Rattle.std.proofs.lemmas.Bool.Decides.{Decides-int_eq}
use Rattle.std.proofs.lemmas.Grind.{common_steps}
use Rattle.std.proofs.lemmas.Option.{slice_get-get_or}
use Rattle.std.specs.Borrow.{Bor}
use Rattle.std.proofs.lemmas.Slice.Eq.{bytes_eq-Decides}
use Rattle.std.specs.List.{All}
use Rattle.std.specs.Option.{unwrap_or, option_copied}
use Rattle.std.specs.Ordering.{int_cmp, int_eq}
use Rattle.std.specs.FinMap.Entries as sorted
use Rattle.tt_values.specs.declared.value.Value.{Value}
use Rattle.tt_values.specs.declared.value.Value.TheVariants as values
use Rattle.tt_values.specs.declared.row.Row.{Row}
use Rattle.tt_values.specs.declared.statement.Equal.{Equal}
use Rattle.tt_values.specs.Value.{is_same}
use Rattle.tt_values.specs.Row.{first_int}
use Rattle.tt_values.specs.declared.comparison.Comparison.{Comparison}
use Rattle.tt_values.specs.declared.comparison.Comparison.TheVariants.{Is, IsNot, Below, AtMost, Above, AtLeast}
use Rattle.tt_values.specs.Comparison.{is_equality}
use Rattle.tt_values.specs.Matches.{is_compared, holds, equates, matches}
use Rattle.tt_versions.specs.declared.side.Side.{Side}
use Rattle.tt_versions.specs.declared.side.Side.TheVariants.{Current, Next}
use Rattle.tt_versions.specs.declared.version.Version.{Version}
use Rattle.tt_versions.specs.declared.lineage.Lineage.{Lineage}
use Rattle.tt_versions.specs.declared.indexed_column.IndexedColumn.{IndexedColumn}
use Rattle.tt_versions.specs.Versions.{started_by, started_before, visible_row, last_row, with_write}
use Rattle.tt_versions.specs.Lineage.{unwritten, chain_on, with_write_on, split_back, unsplit}
use Rattle.tt_versions.specs.Sides.{LineagesByKey, lineage_at, side_of}
use Rattle.tt_values.specs.Digest.{digest_of}
use Rattle.tt_versions.specs.declared.reach.Reach.{Reach}
use Rattle.tt_versions.specs.declared.reach.Reach.TheVariants.{Latest, Any}
use Rattle.tt_versions.specs.declared.keys.Keys.{Keys}
use Rattle.tt_versions.specs.Keys.{merged, size}
use Rattle.tt_versions.specs.Index.{KeySet, keys_under, size_together, has_now, has_past, is_digest, ListsCurrent, ColumnLists, ColumnsList, IndexState, ListsRow, CoversEqual, CoversMatches, past_keys, size_with, size_equated, IsAtMost, IsSmallest, SayNoSet, IsKeyOfMatches, ChainHas, LineageHas, ListsTable, IsIndexed, HaveKeysIn, HaveKey}
use Rattle.tt_versions.proofs.EntriesLemmas.{first, second}
use Rattle.tt_versions.proofs.SidesLemmas.{same_key, lineage_at-put}
use Rattle.tt_versions.proofs.KeysLemmas.{has_key-merged}
use Rattle.tt_versions.proofs.MoveLemmas.{itself, All-at}
use Rattle.tt_versions.proofs.StartLemmas.{visible_row-latest}

pub is_some-copied : {X : Type 0} (o : Option (Bor X)) → is_some o ≡ is_some (option_copied o)
is_some-copied None = refl
is_some-copied (Some x) = refl

-- ---- columns

pub IfSome-map : {X : Type 0} (o : Option X) (P Q : X → Type 0) → ((x : X) → P x → Q x) → IfSome o P → IfSome o Q
IfSome-map None P Q f h = tt
IfSome-map (Some x) P Q f h = f x h

pub ColumnsList-at : (cs : List IndexedColumn) (n : ℕ) (c : IndexedColumn) (key : ℤ) (row : Row) → slice_get cs n ≡ Some c → ColumnsList cs key row → ColumnLists c key row
ColumnsList-at [] n c key row there h = cc
ColumnsList-at (d ∷ cs) zero c key row there h = let same : d ≡ c = cc in subst (λ x. ColumnLists x key row) same h.0
ColumnsList-at (d ∷ cs) (suc n) c key row there h = ColumnsList-at cs n c key row there h.1

-- ---- conditions

pub equal_values : (v w : Value) → is_same v w ≡ true → v ≡ w
equal_values (values.Int m) (values.Int n) h = ap values.Int ((Decides-int_eq m n).0 h)
equal_values (values.Int m) (values.Text t) h = cc
equal_values (values.Text s) (values.Int n) h = cc
equal_values (values.Text s) (values.Text t) h = ap values.Text ((bytes_eq-Decides s t).0 h)

-- each condition of those that match holds
pub holds-at : (equals : List Equal) (n : ℕ) (q : Equal) (row : Row) → slice_get equals n ≡ Some q → IsTrue (matches equals row) → IsTrue (holds q row)
holds-at [] n q row there h = cc
holds-at (p ∷ equals) zero q row there h = let same : p ≡ q = cc in subst (λ x. IsTrue (holds x row)) same (first _ _ h)
holds-at (p ∷ equals) (suc n) q row there h = holds-at equals n q row there (second _ _ h)

-- where the equality is on a column, the column's set has the key
lists_equal : (o : Option Value) (v : Value) (has : ℤ → Bool) → IfSome o (λ w. IsTrue (has (digest_of w))) → IsTrue (is_compared Is v o) → IsTrue (has (digest_of v))
lists_equal None v has h is = cc
lists_equal (Some w) v has h is = subst (λ x. IsTrue (has (digest_of x))) (sym (equal_values v w is)) h

-- and so has the set of the current rows, where the row is the current one
current_equal : (o : Option Value) (v : Value) → IsTrue (is_compared Is v o) → is_digest (digest_of v) (option_map digest_of o) ≡ true
current_equal None v is = cc
current_equal (Some w) v is = ap (λ x. int_eq (digest_of v) (digest_of x)) (sym (equal_values v w is)) ∙ itself (digest_of v)

is_the_same : (how : Comparison) → IsTrue (is_equality how) → how ≡ Is
is_the_same Is h = refl
is_the_same IsNot h = cc
is_the_same Below h = cc
is_the_same AtMost h = cc
is_the_same Above h = cc
is_the_same AtLeast h = cc

-- an equality holds where the value is the same
holds-equality : (equal : Equal) (row : Row) → IsTrue (equates equal) → IsTrue (holds equal row) → IsTrue (is_compared Is equal.value (slice_get row.values equal.column))
holds-equality equal row equality h = subst (λ how. IsTrue (is_compared how equal.value (slice_get row.values equal.column))) (is_the_same equal.how equality) h

-- the keys of a column that a search reads
abbrev pub keys_read : Reach → ℤ → IndexedColumn → KeySet
keys_read reach digest c = merged (keys_under digest c.current) (past_keys reach digest c)

pub CoversEqual-column : (reach : Reach) (index : IndexState) (n : ℕ) (c : IndexedColumn) (equal : Equal) → slice_get index.columns n ≡ Some c → c.position ≡ equal.column → IsTrue (equates equal)
    → CoversEqual reach index (keys_read reach (digest_of equal.value) c) equal
CoversEqual-column Latest index n c equal there at equality key row current h =
    let column : ListsCurrent key (Some row) c = All-at (ListsCurrent key (Some row)) index.columns n c there current in
    let digest = digest_of equal.value in
    let same = current_equal (slice_get row.values equal.column) equal.value (holds-equality equal row equality h) in
    has_key-merged (keys_under digest c.current) [] key
    ∙ ap (λ b. b || false) (column.now digest ∙ ap (λ p. is_digest digest (option_map digest_of (slice_get row.values p))) at ∙ same)
CoversEqual-column Any index n c equal there at equality key row listed h =
    let column : ColumnLists c key row = ColumnsList-at index.columns n c key row there listed.columns in
    let has : ℤ → Bool = λ digest. has_now c digest key || has_past c digest key in
    let here = subst (λ p. IfSome (slice_get row.values p) (λ w. IsTrue (has (digest_of w)))) at column in
    has_key-merged (keys_under (digest_of equal.value) c.current) (keys_under (digest_of equal.value) c.past) key
    ∙ lists_equal (slice_get row.values equal.column) equal.value has here (holds-equality equal row equality h)

pub CoversMatches-equal : (reach : Reach) (index : IndexState) (keys : KeySet) (equals : List Equal) (n : ℕ) (equal : Equal) → slice_get equals n ≡ Some equal → CoversEqual reach index keys equal → CoversMatches reach index keys equals
CoversMatches-equal reach index keys equals n equal there covers key row within h = covers key row within (holds-at equals n equal row there h)

-- ---- the sets that equalities say

-- how many keys are under a value, by the columns from one on
pub size_with-here : (reach : Reach) (cs : List IndexedColumn) (n : ℕ) (c : IndexedColumn) (equal : Equal) → slice_get cs n ≡ Some c → (c.position == equal.column) ≡ true
    → size_with reach (drop n cs) equal ≡ Some (size_together (keys_under (digest_of equal.value) c.current) (past_keys reach (digest_of equal.value) c))
size_with-here reach [] n c equal there is = cc
size_with-here reach (d ∷ cs) zero c equal there is =
    let same : d ≡ c = cc in
    let size : IndexedColumn → ℕ = λ x. size_together (keys_under (digest_of equal.value) x.current) (past_keys reach (digest_of equal.value) x) in
    ap (λ (x : IndexedColumn). cond (x.position == equal.column) (Some (size x)) (size_with reach cs equal)) same
    ∙ ap (λ b. cond b (Some (size c)) (size_with reach cs equal)) is
size_with-here reach (d ∷ cs) (suc n) c equal there is = size_with-here reach cs n c equal there is

size_with-skip_suc : (reach : Reach) (cs : List IndexedColumn) (n : ℕ) (c : IndexedColumn) (equal : Equal) → slice_get cs n ≡ Some c → (c.position == equal.column) ≡ false
    → size_with reach (drop (suc n) cs) equal ≡ size_with reach (drop n cs) equal
size_with-skip_suc reach [] n c equal there is = cc
size_with-skip_suc reach (d ∷ cs) zero c equal there is =
    let same : d ≡ c = cc in
    let size : IndexedColumn → ℕ = λ x. size_together (keys_under (digest_of equal.value) x.current) (past_keys reach (digest_of equal.value) x) in
    sym (ap (λ (x : IndexedColumn). cond (x.position == equal.column) (Some (size x)) (size_with reach cs equal)) same
    ∙ ap (λ b. cond b (Some (size c)) (size_with reach cs equal)) is)
size_with-skip_suc reach (d ∷ cs) (suc n) c equal there is = size_with-skip_suc reach cs n c equal there is

-- a column with another position says no keys
pub size_with-skip : (reach : Reach) (cs : List IndexedColumn) (n : ℕ) (c : IndexedColumn) (equal : Equal) → slice_get cs n ≡ Some c → (c.position == equal.column) ≡ false
    → size_with reach (drop (n + 1) cs) equal ≡ size_with reach (drop n cs) equal
size_with-skip reach cs n c equal there is =
    let next : suc n ≡ n + 1 = omega arith in
    ap (λ m. size_with reach (drop m cs) equal) (sym next) ∙ size_with-skip_suc reach cs n c equal there is

-- how many keys an equality says
pub size_equated-equality : (reach : Reach) (cs : List IndexedColumn) (equal : Equal) → equates equal ≡ true → size_equated reach cs equal ≡ size_with reach cs equal
size_equated-equality reach cs equal equality = ap (λ b. cond b (size_with reach cs equal) None) equality

pub IfSome-copied : {X : Type 0} (o : Option (Bor X)) (P : X → Type 0) → IfSome o (λ x. P x.now) → IfSome (option_copied o) P
IfSome-copied None P h = tt
IfSome-copied (Some x) P h = h

pub IfSome-uncopied : {X : Type 0} (o : Option (Bor X)) (P : X → Type 0) → IfSome (option_copied o) P → IfSome o (λ x. P x.now)
IfSome-uncopied None P h = tt
IfSome-uncopied (Some x) P h = h

IsAtMost-trans : (a b c : Option ℕ) → IsAtMost a b → IsAtMost b c → IsAtMost a c
IsAtMost-trans a b None h g = tt
IsAtMost-trans a None (Some z) h g = absurd g
IsAtMost-trans None (Some y) (Some z) h g = absurd h
IsAtMost-trans (Some x) (Some y) (Some z) h g = omega (arith, h, g)

-- no equality of those before a position says a smaller set
abbrev pub IsLeastBefore : Reach → ℕ → Option ℕ → List IndexedColumn → List Equal → Type 0
IsLeastBefore reach n least cs equals = (k : ℕ) (e : Equal) → slice_get equals k ≡ Some e → k < n → IsAtMost least (size_equated reach cs e)

pub IsLeastBefore-start : (reach : Reach) (least : Option ℕ) (cs : List IndexedColumn) (equals : List Equal) → IsLeastBefore reach 0 least cs equals
IsLeastBefore-start reach least cs equals k e at below = absurd (omega (arith, below))

-- one more equality
pub IsLeastBefore-more : (reach : Reach) (cs : List IndexedColumn) (equals : List Equal) (n : ℕ) (q : Equal) (before after said : Option ℕ) → slice_get equals n ≡ Some q → said ≡ size_equated reach cs q
    → IsAtMost after before → IsAtMost after said → IsLeastBefore reach n before cs equals → IsLeastBefore reach (n + 1) after cs equals
IsLeastBefore-more reach cs equals n q before after said there says less this h k e at below = by (nat_lt k n) refl
  where
    by : (b : Bool) → nat_lt k n ≡ b → IsAtMost after (size_equated reach cs e)
    by true y = let lower : k < n = grind (arith, common_steps) in IsAtMost-trans after before (size_equated reach cs e) less (h k e at lower)
    by false y =
        let same : k ≡ n = grind (arith, common_steps) in
        let here : slice_get equals n ≡ Some e = subst (λ m. slice_get equals m ≡ Some e) same at in
        let one : q ≡ e = cc in
        subst (λ s. IsAtMost after s) (says ∙ ap (size_equated reach cs) one) this

at_most : (keys : ℕ) (said : Option ℕ) → IsAtMost (Some keys) said → IfSome said (λ other. keys ≤ other)
at_most keys None h = tt
at_most keys (Some other) h = h

nothing : (said : Option ℕ) → IsAtMost None said → said ≡ None
nothing None h = refl
nothing (Some set) h = absurd h

pub IsSmallest-all : (reach : Reach) (index : IndexState) (equals : List Equal) (n : ℕ) (o : Option Keys) → length equals ≤ n → IsLeastBefore reach n (option_map size o) index.columns equals → IfSome o (λ keys. IsSmallest reach index (size keys) equals)
IsSmallest-all reach index equals n None all h = tt
IsSmallest-all reach index equals n (Some keys) all h = λ k d below.
    let lower : k < n = omega (arith, below, all) in
    at_most (size keys) (size_equated reach index.columns (slice_index_or equals k d)) (h k (slice_index_or equals k d) (slice_get-get_or equals k d below) lower)

pub SayNoSet-all : (reach : Reach) (index : IndexState) (equals : List Equal) (n : ℕ) (o : Option Keys) → length equals ≤ n → IsLeastBefore reach n (option_map size o) index.columns equals → IfNone o (SayNoSet reach index equals)
SayNoSet-all reach index equals n (Some keys) all h = tt
SayNoSet-all reach index equals n None all h = λ k d below.
    let lower : k < n = omega (arith, below, all) in
    nothing (size_equated reach index.columns (slice_index_or equals k d)) (h k (slice_index_or equals k d) (slice_get-get_or equals k d below) lower)

-- what holds of both holds of the one that is picked
pub IfSome-either : {X : Type 0} (picked one other : Option X) (P : X → Type 0) → (picked ≡ one) ⊎ (picked ≡ other) → IfSome one P → IfSome other P → IfSome picked P
IfSome-either picked one other P (inl is) h g = subst (λ o. IfSome o P) (sym is) h
IfSome-either picked one other P (inr is) h g = subst (λ o. IfSome o P) (sym is) g

-- an equality on the first column says the first value
first_value : (vs : List Value) (n : ℤ) → IsTrue (is_compared Is (values.Int n) (slice_get vs 0)) → first_int vs ≡ Some n
first_value [] n h = cc
first_value (values.Int m ∷ vs) n h = ap Some (sym ((Decides-int_eq n m).0 h))
first_value (values.Text t ∷ vs) n h = cc

pub first_equated : (equal : Equal) (n : ℤ) (row : Row) → equal.column ≡ 0 → IsTrue (equates equal) → equal.value ≡ values.Int n → IsTrue (holds equal row) → first_int row.values ≡ Some n
first_equated equal n row column equality value h =
    first_value row.values n (subst (λ v. IsTrue (is_compared Is v (slice_get row.values 0))) value (subst (λ p. IsTrue (is_compared Is equal.value (slice_get row.values p))) column (holds-equality equal row equality h)))

pub IsKeyOfMatches-equal : (index : IndexState) (only : ℤ) (equals : List Equal) (n : ℕ) (equal : Equal) → IsTrue index.is_keyed → slice_get equals n ≡ Some equal
    → ((row : Row) → IsTrue (holds equal row) → first_int row.values ≡ Some only) → IsKeyOfMatches index only equals
IsKeyOfMatches-equal index only equals n equal keyed there says key row listed h =
    let same : Some key ≡ Some only = sym (listed.first keyed) ∙ says row (holds-at equals n equal row there h) in
    cc

-- ---- versions

pub ChainHas-map : (P Q : Row → Type 0) → ((row : Row) → P row → Q row) → (vs : List Version) → ChainHas P vs → ChainHas Q vs
ChainHas-map P Q f [] h = tt
ChainHas-map P Q f (v ∷ vs) h = (IfSome-map v.row P Q f h.0, ChainHas-map P Q f vs h.1)

ChainHas-filter : (P : Row → Type 0) (p : Version → Bool) (vs : List Version) → ChainHas P vs → ChainHas P (filter p vs)
ChainHas-filter P p [] h = tt
ChainHas-filter P p (v ∷ vs) h = by (p v) (ChainHas-filter P p vs h.1)
  where
    by : (b : Bool) → ChainHas P (filter p vs) → ChainHas P (cond b (v ∷ filter p vs) (filter p vs))
    by true rest = (h.0, rest)
    by false rest = rest

ChainHas-push : (P : Row → Type 0) (vs : List Version) (v : Version) → ChainHas P vs → IfSome v.row P → ChainHas P (vs ++ v ∷ [])
ChainHas-push P [] v h last = (last, tt)
ChainHas-push P (w ∷ vs) v h last = (h.0, ChainHas-push P vs v h.1 last)

ChainHas-write : (P : Row → Type 0) (row : Option Row) (time : ℕ) (vs : List Version) → ChainHas P vs → IfSome row P → ChainHas P (with_write row time vs)
ChainHas-write P row time vs h last = ChainHas-push P (started_before time vs) (record { start = time; row = row }) (ChainHas-filter P (λ v. nat_lt v.start time) vs h) last

last_row-has : (P : Row → Type 0) (o : Option Row) (vs : List Version) → IfSome o P → ChainHas P vs → IfSome (fold (λ row v. v.row) o vs) P
last_row-has P o [] h vs = h
last_row-has P o (v ∷ vs) h has = last_row-has P v.row vs has.0 has.1

chain_on-has : (P : Row → Type 0) (side : Side) (l : Lineage) → LineageHas P l → ChainHas P (chain_on side l)
chain_on-has P Current l h = h.0
chain_on-has P Next l h = by l.next h.1
  where
    by : (n : Option (List Version)) → IfSome n (λ vs. ChainHas P vs) → ChainHas P (unwrap_or n l.current)
    by None g = h.0
    by (Some vs) g = g

-- a row that a side shows has the property
pub visible_row-has : (P : Row → Type 0) (side : Side) (l : Lineage) (time : ℕ) → LineageHas P l → IfSome (visible_row time (chain_on side l)) P
visible_row-has P side l time h = last_row-has P None (started_by time (chain_on side l)) tt (ChainHas-filter P (λ v. nat_le v.start time) (chain_on side l) (chain_on-has P side l h))

pub LineageHas-map : (P Q : Row → Type 0) → ((row : Row) → P row → Q row) → (l : Lineage) → LineageHas P l → LineageHas Q l
LineageHas-map P Q f l h = (ChainHas-map P Q f l.current h.0, IfSome-map l.next (λ vs. ChainHas P vs) (λ vs. ChainHas Q vs) (λ vs. ChainHas-map P Q f vs) h.1)

pub LineageHas-unwritten : (P : Row → Type 0) → LineageHas P unwritten
LineageHas-unwritten P = (tt, tt)

pub LineageHas-write : (P : Row → Type 0) (side : Side) (row : Option Row) (time : ℕ) (l : Lineage) → LineageHas P l → IfSome row P → LineageHas P (with_write_on side row time l)
LineageHas-write P Current row time l h last = (ChainHas-write P row time l.current h.0 last, h.1)
LineageHas-write P Next row time l h last = (h.0, ChainHas-write P row time (chain_on Next l) (chain_on-has P Next l h) last)

pub LineageHas-split_back : (P : Row → Type 0) (time : ℕ) (l : Lineage) → LineageHas P l → LineageHas P (split_back time l)
LineageHas-split_back P time l h = (h.0, ChainHas-filter P (λ v. nat_lt v.start time) (chain_on Next l) (chain_on-has P Next l h))

pub LineageHas-unsplit : (P : Row → Type 0) (side : Side) (l : Lineage) → LineageHas P l → LineageHas P (unsplit side l)
LineageHas-unsplit P side l h = (chain_on-has P side l h, tt)

-- ---- tables

pub ListsTable-empty : (index : IndexState) → ListsTable index []
ListsTable-empty index key = LineageHas-unwritten (ListsRow index key)

pub ListsTable-put : (key : ℤ) (index : IndexState) (t : LineagesByKey) (l : Lineage) → ListsTable index t → LineageHas (ListsRow index key) l → ListsTable index (sorted.put int_cmp key l t)
ListsTable-put key index t l others here q = subst (λ x. LineageHas (ListsRow index q) x) (sym (lineage_at-put t key l q)) (by (int_eq q key) refl)
  where
    by : (b : Bool) → int_eq q key ≡ b → LineageHas (ListsRow index q) (cond b l (lineage_at t q))
    by true e = subst (λ k. LineageHas (ListsRow index k) l) (sym (same_key q key e)) here
    by false e = others q

pub shown : (P : Row → Type 0) (o : Option Row) (row : Row) → o ≡ Some row → IfSome o P → P row
shown P None row is h = cc
shown P (Some r) row is h = let same : r ≡ row = cc in subst P same h

-- what a search of the rows of any time and side finds
HaveKeysIn-any : (index : IndexState) (latest : ℕ) (keys : KeySet) (equals : List Equal) (t : LineagesByKey) (side : Side) (time : ℕ) → IsIndexed index latest t → CoversMatches Any index keys equals → HaveKeysIn t side time keys equals
unfolding side_of
HaveKeysIn-any index latest keys equals t side time indexed covers key row is m =
    covers key row (shown (ListsRow index key) (visible_row time (chain_on side (lineage_at t key))) row is (visible_row-has (ListsRow index key) side (lineage_at t key) time (indexed.listed key))) m

-- and one of the current rows
HaveKeysIn-latest : (index : IndexState) (latest : ℕ) (keys : KeySet) (equals : List Equal) (t : LineagesByKey) (time : ℕ) → latest ≤ time → IsIndexed index latest t → CoversMatches Latest index keys equals → HaveKeysIn t Current time keys equals
unfolding side_of
HaveKeysIn-latest index latest keys equals t time upto indexed covers key row is m =
    let chain = (lineage_at t key).current in
    let last : last_row chain ≡ Some row = sym (visible_row-latest latest time chain upto (indexed.starts key).0) ∙ is in
    covers key row (subst (λ o. All (ListsCurrent key o) index.columns) last (indexed.current key)) m

pub HaveKeysIn-covers : (reach : Reach) (index : IndexState) (latest : ℕ) (keys : KeySet) (equals : List Equal) (t : LineagesByKey) (side : Side) (time : ℕ) → (reach ≡ Latest → (side ≡ Current) × (latest ≤ time)) → IsIndexed index latest t
    → CoversMatches reach index keys equals → HaveKeysIn t side time keys equals
HaveKeysIn-covers Latest index latest keys equals t side time reaches indexed covers =
    subst (λ s. HaveKeysIn t s time keys equals) (sym (reaches refl).0) (HaveKeysIn-latest index latest keys equals t time (reaches refl).1 indexed covers)
HaveKeysIn-covers Any index latest keys equals t side time reaches indexed covers = HaveKeysIn-any index latest keys equals t side time indexed covers

pub HaveKey-covers : (index : IndexState) (only : ℤ) (equals : List Equal) (t : LineagesByKey) → ListsTable index t → IsKeyOfMatches index only equals → HaveKey t only equals
unfolding side_of
HaveKey-covers index only equals t listed covers side key time row is m =
    covers key row (shown (ListsRow index key) (visible_row time (chain_on side (lineage_at t key))) row is (visible_row-has (ListsRow index key) side (lineage_at t key) time (listed key))) m
