-- What the move of a key in the columns of an index leaves.
use Rattle.std.proofs.Common.{◌≡◌, ℕ, zero, suc, ◌+◌, ◌≤◌, ◌⊎◌, inl, inr, ℤ, Bool, true, false, ◌&&◌, ◌||◌, not, List, [], ◌∷◌, length, slice_get, slice_set, Option, None, Some, IsTrue, IfSome, if◌then◌else◌, option_map, refl, sym, ap, subst, ◌∙◌, arith}
use Rattle.std.specs.List.{All}
use Rattle.std.proofs.lemmas.List.Elements.{All-nil, All-cons, All-head, All-tail}
use Rattle.std.proofs.lemmas.Bool.Decides.{Decides-int_eq}
use Rattle.std.specs.Ordering.{int_eq}
use Rattle.tt_values.specs.declared.value.Value.{Value}
use Rattle.tt_values.specs.declared.row.Row.{Row}
use Rattle.tt_values.specs.Digest.{digest_of}
use Rattle.tt_versions.specs.declared.indexed_column.IndexedColumn.{IndexedColumn}
use Rattle.tt_versions.specs.Index.{has_now, has_past, digest_at, is_digest, ListsCurrent, HasNoPast, MovesKey, MovesInColumns, ColumnLists, ColumnsList, IndexState, ListsRow, MovesInIndex}
use Rattle.tt_versions.proofs.SidesLemmas.{same_key}

pub itself : (k : ℤ) → int_eq k k ≡ true
itself k = (Decides-int_eq k k).1 refl

pub All-at : {X : Type 0} (P : X → Type 0) (xs : List X) (n : ℕ) (x : X) → slice_get xs n ≡ Some x → All P xs → P x
All-at P [] n x there h = cc
All-at P (y ∷ ys) zero x there h = let same : y ≡ x = cc in subst P same (All-head P y ys h)
All-at P (y ∷ ys) (suc n) x there h = All-at P ys n x there (All-tail P y ys h)

-- ---- one column

-- where the key stands after its move
moved-now : (key : ℤ) (to aside : Option ℤ) (c d : IndexedColumn) → MovesKey key to aside c d → (digest : ℤ) → has_now d digest key ≡ is_digest digest to
moved-now key to aside c d m digest = m.now digest key ∙ ap (λ b. if b then is_digest digest to else has_now c digest key) (itself key)

moved-past : (key : ℤ) (to aside : Option ℤ) (c d : IndexedColumn) → MovesKey key to aside c d → (digest : ℤ) → has_past d digest key ≡ ((has_past c digest key || is_digest digest aside) && not (is_digest digest to))
moved-past key to aside c d m digest =
    m.past digest key ∙ ap (λ b. if b then (has_past c digest key || is_digest digest aside) && not (is_digest digest to) else has_past c digest key) (itself key)

-- and another key
other-now : (key : ℤ) (to aside : Option ℤ) (c d : IndexedColumn) (q : ℤ) → int_eq q key ≡ false → MovesKey key to aside c d → (digest : ℤ) → has_now d digest q ≡ has_now c digest q
other-now key to aside c d q other m digest = m.now digest q ∙ ap (λ b. if b then is_digest digest to else has_now c digest q) other

other-past : (key : ℤ) (to aside : Option ℤ) (c d : IndexedColumn) (q : ℤ) → int_eq q key ≡ false → MovesKey key to aside c d → (digest : ℤ) → has_past d digest q ≡ has_past c digest q
other-past key to aside c d q other m digest =
    m.past digest q ∙ ap (λ b. if b then (has_past c digest key || is_digest digest aside) && not (is_digest digest to) else has_past c digest q) other

and_not : (t x : Bool) → (t && (x && not t)) ≡ false
and_not true true = refl
and_not true false = refl
and_not false x = refl

-- the column lists the key under its row's value now
ListsCurrent-moved : (key : ℤ) (to aside : Option Row) (c d : IndexedColumn) → MovesKey key (digest_at c.position to) (digest_at c.position aside) c d → ListsCurrent key to d
ListsCurrent-moved key to aside c d m = record {
  now = λ digest. now digest ∙ ap (λ p. is_digest digest (digest_at p to)) (sym m.position);
  apart = λ digest. ap (λ x. x && has_past d digest key) (now digest)
      ∙ ap (λ x. is_digest digest (digest_at c.position to) && x) (moved-past key (digest_at c.position to) (digest_at c.position aside) c d m digest)
      ∙ and_not (is_digest digest (digest_at c.position to)) (has_past c digest key || is_digest digest (digest_at c.position aside));
}
  where
    now : (digest : ℤ) → has_now d digest key ≡ is_digest digest (digest_at c.position to)
    now = moved-now key (digest_at c.position to) (digest_at c.position aside) c d m

ListsCurrent-other : (key : ℤ) (to aside : Option ℤ) (c d : IndexedColumn) (q : ℤ) (row : Option Row) → int_eq q key ≡ false → MovesKey key to aside c d → ListsCurrent q row c → ListsCurrent q row d
ListsCurrent-other key to aside c d q row other m h = record {
  now = λ digest. other-now key to aside c d q other m digest ∙ h.now digest ∙ ap (λ p. is_digest digest (digest_at p row)) (sym m.position);
  apart = λ digest. ap (λ x. x && has_past d digest q) (other-now key to aside c d q other m digest)
      ∙ ap (λ x. has_now c digest q && x) (other-past key to aside c d q other m digest)
      ∙ h.apart digest;
}

-- a key that is listed stays so
kept : (n p f t g : Bool) → n ≡ f → (f ≡ t) ⊎ (f ≡ g) → (n || p) ≡ true → (t || ((p || g) && not t)) ≡ true
kept n p f true g is from h = refl
kept true true f false g is from h = refl
kept false true f false g is from h = refl
kept false false f false g is from h = cc
kept true false f false g is (inl same) h = let clash : true ≡ false = is ∙ same in cc
kept true false f false true is (inr same) h = refl
kept true false f false false is (inr same) h = let clash : true ≡ false = is ∙ same in cc

abbrev listed : IndexedColumn → ℤ → ℤ → Bool
listed c digest key = has_now c digest key || has_past c digest key

-- where the current row was is where it is now or what is another row now
abbrev pub Follows : Option Row → Option Row → Option Row → Type 0
Follows from to aside = (from ≡ to) ⊎ (from ≡ aside)

listed-key : (key : ℤ) (from to aside : Option Row) (c d : IndexedColumn) → Follows from to aside → ListsCurrent key from c → MovesKey key (digest_at c.position to) (digest_at c.position aside) c d
    → (digest : ℤ) → listed c digest key ≡ true → listed d digest key ≡ true
listed-key key from to aside c d follows current m digest h =
    ap (λ x. x || has_past d digest key) (moved-now key (digest_at c.position to) (digest_at c.position aside) c d m digest)
    ∙ ap (λ x. is_digest digest (digest_at c.position to) || x) (moved-past key (digest_at c.position to) (digest_at c.position aside) c d m digest)
    ∙ kept (has_now c digest key) (has_past c digest key) (is_digest digest (digest_at c.position from)) (is_digest digest (digest_at c.position to)) (is_digest digest (digest_at c.position aside))
    (current.now digest) (by follows) h
  where
    at : Option Row → Bool
    at row = is_digest digest (digest_at c.position row)

    by : (from ≡ to) ⊎ (from ≡ aside) → (at from ≡ at to) ⊎ (at from ≡ at aside)
    by (inl same) = inl (ap at same)
    by (inr same) = inr (ap at same)

HasNoPast-other : (key : ℤ) (to aside : Option ℤ) (c d : IndexedColumn) (q : ℤ) → int_eq q key ≡ false → MovesKey key to aside c d → HasNoPast q c → HasNoPast q d
HasNoPast-other key to aside c d q other m h digest = other-past key to aside c d q other m digest ∙ h digest

IfSome-map : {X : Type 0} (o : Option X) (P Q : X → Type 0) → ((x : X) → P x → Q x) → IfSome o P → IfSome o Q
IfSome-map None P Q f h = tt
IfSome-map (Some x) P Q f h = f x h

-- a row that was listed stays so
ColumnLists-moved : (key : ℤ) (from to aside : Option Row) (c d : IndexedColumn) (q : ℤ) (row : Row) → Follows from to aside → ListsCurrent key from c → MovesKey key (digest_at c.position to) (digest_at c.position aside) c d
    → ColumnLists c q row → ColumnLists d q row
ColumnLists-moved key from to aside c d q row follows current m h =
    subst (λ p. IfSome (slice_get row.values p) (λ v. IsTrue (listed d (digest_of v) q))) (sym m.position)
    (IfSome-map (slice_get row.values c.position) (λ v. IsTrue (listed c (digest_of v) q)) (λ v. IsTrue (listed d (digest_of v) q)) (λ v. by (int_eq q key) refl (digest_of v)) h)
  where
    by : (b : Bool) → int_eq q key ≡ b → (digest : ℤ) → listed c digest q ≡ true → listed d digest q ≡ true
    by true same digest is =
        let key_is = same_key q key same in
        subst (λ k. listed d digest k ≡ true) (sym key_is) (listed-key key from to aside c d follows current m digest (subst (λ k. listed c digest k ≡ true) key_is is))
    by false other digest is =
        ap (λ x. x || has_past d digest q) (other-now key (digest_at c.position to) (digest_at c.position aside) c d q other m digest)
        ∙ ap (λ x. has_now c digest q || x) (other-past key (digest_at c.position to) (digest_at c.position aside) c d q other m digest)
        ∙ is

-- and the row that the key moved for is listed
fresh : (t p g : Bool) → (t ≡ true) ⊎ (g ≡ true) → (t || ((p || g) && not t)) ≡ true
fresh true p g is = refl
fresh false true g is = refl
fresh false false true is = refl
fresh false false false (inl is) = cc
fresh false false false (inr is) = cc

digest_of-row : (position : ℕ) (row : Row) (o : Option Value) → slice_get row.values position ≡ o → IfSome o (λ v. is_digest (digest_of v) (digest_at position (Some row)) ≡ true)
digest_of-row position row None is = tt
digest_of-row position row (Some v) is = ap (λ o. is_digest (digest_of v) (option_map digest_of o)) is ∙ itself (digest_of v)

ColumnLists-new : (key : ℤ) (to aside : Option Row) (c d : IndexedColumn) (row : Row) → (to ≡ Some row) ⊎ (aside ≡ Some row) → MovesKey key (digest_at c.position to) (digest_at c.position aside) c d → ColumnLists d key row
ColumnLists-new key to aside c d row written m =
    subst (λ p. IfSome (slice_get row.values p) (λ v. IsTrue (has_now d (digest_of v) key || has_past d (digest_of v) key))) (sym m.position)
    (IfSome-map (slice_get row.values c.position) (λ v. is_digest (digest_of v) (digest_at c.position (Some row)) ≡ true) (λ v. IsTrue (has_now d (digest_of v) key || has_past d (digest_of v) key)) lists
    (digest_of-row c.position row (slice_get row.values c.position) refl))
  where
    lists : (v : Value) → is_digest (digest_of v) (digest_at c.position (Some row)) ≡ true → (has_now d (digest_of v) key || has_past d (digest_of v) key) ≡ true
    lists v is =
        ap (λ x. x || has_past d (digest_of v) key) (moved-now key (digest_at c.position to) (digest_at c.position aside) c d m (digest_of v))
        ∙ ap (λ x. is_digest (digest_of v) (digest_at c.position to) || x) (moved-past key (digest_at c.position to) (digest_at c.position aside) c d m (digest_of v))
        ∙ fresh (is_digest (digest_of v) (digest_at c.position to)) (has_past c (digest_of v) key) (is_digest (digest_of v) (digest_at c.position aside)) (by written)
      where
        by : (to ≡ Some row) ⊎ (aside ≡ Some row) → (is_digest (digest_of v) (digest_at c.position to) ≡ true) ⊎ (is_digest (digest_of v) (digest_at c.position aside) ≡ true)
        by (inl same) = inl (ap (λ o. is_digest (digest_of v) (digest_at c.position o)) same ∙ is)
        by (inr same) = inr (ap (λ o. is_digest (digest_of v) (digest_at c.position o)) same ∙ is)

-- ---- all columns

pub MovesInColumns-current : (key : ℤ) (to aside : Option Row) (cs ds : List IndexedColumn) → MovesInColumns key to aside cs ds → All (ListsCurrent key to) ds
MovesInColumns-current key to aside [] [] m = All-nil (ListsCurrent key to)
MovesInColumns-current key to aside [] (d ∷ ds) m = absurd m
MovesInColumns-current key to aside (c ∷ cs) [] m = absurd m
MovesInColumns-current key to aside (c ∷ cs) (d ∷ ds) m = All-cons (ListsCurrent key to) d ds (ListsCurrent-moved key to aside c d m.0) (MovesInColumns-current key to aside cs ds m.1)

pub MovesInColumns-other : (key : ℤ) (to aside : Option Row) (cs ds : List IndexedColumn) (q : ℤ) (row : Option Row) → int_eq q key ≡ false → MovesInColumns key to aside cs ds → All (ListsCurrent q row) cs → All (ListsCurrent q row) ds
MovesInColumns-other key to aside [] [] q row other m h = h
MovesInColumns-other key to aside [] (d ∷ ds) q row other m h = absurd m
MovesInColumns-other key to aside (c ∷ cs) [] q row other m h = absurd m
MovesInColumns-other key to aside (c ∷ cs) (d ∷ ds) q row other m h =
    All-cons (ListsCurrent q row) d ds (ListsCurrent-other key (digest_at c.position to) (digest_at c.position aside) c d q row other m.0 (All-head (ListsCurrent q row) c cs h))
    (MovesInColumns-other key to aside cs ds q row other m.1 (All-tail (ListsCurrent q row) c cs h))

pub MovesInColumns-known : (key : ℤ) (to aside : Option Row) (cs ds : List IndexedColumn) (q : ℤ) → int_eq q key ≡ false → MovesInColumns key to aside cs ds → All (HasNoPast q) cs → All (HasNoPast q) ds
MovesInColumns-known key to aside [] [] q other m h = h
MovesInColumns-known key to aside [] (d ∷ ds) q other m h = absurd m
MovesInColumns-known key to aside (c ∷ cs) [] q other m h = absurd m
MovesInColumns-known key to aside (c ∷ cs) (d ∷ ds) q other m h =
    All-cons (HasNoPast q) d ds (HasNoPast-other key (digest_at c.position to) (digest_at c.position aside) c d q other m.0 (All-head (HasNoPast q) c cs h))
    (MovesInColumns-known key to aside cs ds q other m.1 (All-tail (HasNoPast q) c cs h))

MovesInColumns-lists : (key : ℤ) (from to aside : Option Row) (cs ds : List IndexedColumn) (q : ℤ) (row : Row) → Follows from to aside → All (ListsCurrent key from) cs → MovesInColumns key to aside cs ds → ColumnsList cs q row → ColumnsList ds q row
MovesInColumns-lists key from to aside [] [] q row follows current m h = tt
MovesInColumns-lists key from to aside [] (d ∷ ds) q row follows current m h = absurd m
MovesInColumns-lists key from to aside (c ∷ cs) [] q row follows current m h = absurd m
MovesInColumns-lists key from to aside (c ∷ cs) (d ∷ ds) q row follows current m h = (
  ColumnLists-moved key from to aside c d q row follows (All-head (ListsCurrent key from) c cs current) m.0 h.0,
  MovesInColumns-lists key from to aside cs ds q row follows (All-tail (ListsCurrent key from) c cs current) m.1 h.1,
)

MovesInColumns-new : (key : ℤ) (to aside : Option Row) (cs ds : List IndexedColumn) (row : Row) → (to ≡ Some row) ⊎ (aside ≡ Some row) → MovesInColumns key to aside cs ds → ColumnsList ds key row
MovesInColumns-new key to aside [] [] row written m = tt
MovesInColumns-new key to aside [] (d ∷ ds) row written m = absurd m
MovesInColumns-new key to aside (c ∷ cs) [] row written m = absurd m
MovesInColumns-new key to aside (c ∷ cs) (d ∷ ds) row written m = (ColumnLists-new key to aside c d row written m.0, MovesInColumns-new key to aside cs ds row written m.1)

-- ---- an index

-- it lists what it listed
pub MovesInIndex-keeps : (key : ℤ) (from to aside row : Option Row) (before after : IndexState) → Follows from to aside → All (ListsCurrent key from) before.columns → MovesInIndex key to aside row before after
    → (q : ℤ) (r : Row) → ListsRow before q r → ListsRow after q r
MovesInIndex-keeps key from to aside row before after follows current m q r h = record {
  columns = MovesInColumns-lists key from to aside before.columns after.columns q r follows current m.columns h.columns;
  first = λ keyed. h.first (m.keyed keyed);
}

-- and the row that is written
pub MovesInIndex-lists : (key : ℤ) (to aside : Option Row) (row : Option Row) (before after : IndexState) → (to ≡ row) ⊎ (aside ≡ row) → MovesInIndex key to aside row before after → IfSome row (ListsRow after key)
MovesInIndex-lists key to aside None before after written m = tt
MovesInIndex-lists key to aside (Some row) before after written m = record {
  columns = MovesInColumns-new key to aside before.columns after.columns row written m.columns;
  first = m.first;
}

-- the same move
pub moves-as : (key' key : ℤ) (to' to aside' aside row' row : Option Row) (before after : IndexState) → key' ≡ key → to' ≡ to → aside' ≡ aside → row' ≡ row → MovesInIndex key' to' aside' row' before after → MovesInIndex key to aside row before after
moves-as key' key to' to aside' aside row' row before after keys tos asides rows m =
    subst (λ k. MovesInIndex k to aside row before after) keys (subst (λ o. MovesInIndex key' o aside row before after) tos
    (subst (λ o. MovesInIndex key' to' o row before after) asides (subst (λ o. MovesInIndex key' to' aside' o before after) rows m)))

-- ---- one column after another

-- the columns before a place have moved the key, and the others are the same
abbrev pub MovesUpTo : ℤ → Option Row → Option Row → ℕ → List IndexedColumn → List IndexedColumn → Type 0
MovesUpTo key to aside zero cs ds = ds ≡ cs
MovesUpTo key to aside (suc n) [] ds = ⊥
MovesUpTo key to aside (suc n) (c ∷ cs) [] = ⊥
MovesUpTo key to aside (suc n) (c ∷ cs) (d ∷ ds) = MovesKey key (digest_at c.position to) (digest_at c.position aside) c d × MovesUpTo key to aside n cs ds

-- the column at the place is as it was
pub MovesUpTo-at : (key : ℤ) (to aside : Option Row) (n : ℕ) (cs ds : List IndexedColumn) → MovesUpTo key to aside n cs ds → slice_get cs n ≡ slice_get ds n
MovesUpTo-at key to aside zero cs ds m = ap (λ xs. slice_get xs 0) (sym m)
MovesUpTo-at key to aside (suc n) [] ds m = absurd m
MovesUpTo-at key to aside (suc n) (c ∷ cs) [] m = absurd m
MovesUpTo-at key to aside (suc n) (c ∷ cs) (d ∷ ds) m = MovesUpTo-at key to aside n cs ds m.1

-- and moves it next
MovesUpTo-suc : (key : ℤ) (to aside : Option Row) (n : ℕ) (cs ds : List IndexedColumn) (c d : IndexedColumn) → slice_get ds n ≡ Some c → MovesKey key (digest_at c.position to) (digest_at c.position aside) c d
    → MovesUpTo key to aside n cs ds → MovesUpTo key to aside (suc n) cs (slice_set ds n d)
MovesUpTo-suc key to aside zero [] ds c d there moves m = let none : None ≡ Some c = ap (λ xs. slice_get xs 0) (sym m) ∙ there in cc
MovesUpTo-suc key to aside zero (b ∷ cs) [] c d there moves m = cc
MovesUpTo-suc key to aside zero (b ∷ cs) (e ∷ ds) c d there moves m =
    let first : b ≡ c = cc in
    let rest : ds ≡ cs = cc in
    (subst (λ x. MovesKey key (digest_at x.position to) (digest_at x.position aside) x d) (sym first) moves, rest)
MovesUpTo-suc key to aside (suc n) [] ds c d there moves m = absurd m
MovesUpTo-suc key to aside (suc n) (b ∷ cs) [] c d there moves m = absurd m
MovesUpTo-suc key to aside (suc n) (b ∷ cs) (e ∷ ds) c d there moves m = (m.0, MovesUpTo-suc key to aside n cs ds c d there moves m.1)

pub MovesUpTo-next : (key : ℤ) (to aside : Option Row) (n : ℕ) (cs ds : List IndexedColumn) (c d : IndexedColumn) → slice_get ds n ≡ Some c → MovesKey key (digest_at c.position to) (digest_at c.position aside) c d
    → MovesUpTo key to aside n cs ds → MovesUpTo key to aside (n + 1) cs (slice_set ds n d)
MovesUpTo-next key to aside n cs ds c d there moves m =
    let next : suc n ≡ n + 1 = omega arith in
    subst (λ k. MovesUpTo key to aside k cs (slice_set ds n d)) next (MovesUpTo-suc key to aside n cs ds c d there moves m)

-- at the end all have
pub MovesUpTo-all : (key : ℤ) (to aside : Option Row) (n : ℕ) (cs ds : List IndexedColumn) → length ds ≤ n → MovesUpTo key to aside n cs ds → MovesInColumns key to aside cs ds
MovesUpTo-all key to aside zero [] [] end m = tt
MovesUpTo-all key to aside zero (c ∷ cs) [] end m = cc
MovesUpTo-all key to aside zero cs (d ∷ ds) end m = absurd (omega (arith, end))
MovesUpTo-all key to aside (suc n) [] ds end m = absurd m
MovesUpTo-all key to aside (suc n) (c ∷ cs) [] end m = absurd m
MovesUpTo-all key to aside (suc n) (c ∷ cs) (d ∷ ds) end m = (m.0, MovesUpTo-all key to aside n cs ds (omega (arith, end)) m.1)
