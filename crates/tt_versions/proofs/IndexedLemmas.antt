-- An index fits a table after each change of a row.
use Rattle.std.proofs.Common.{◌≡◌, ℕ, ◌≤◌, inl, inr, ℤ, Bool, true, false, cond, List, [], ◌∷◌, Option, None, Some, is_some, refl, sym, ap, subst, ◌∙◌, arith, ◌&&◌}
use Rattle.std.specs.List.{All}
use Rattle.std.proofs.lemmas.List.Elements.{All-nil, All-cons, All-head, All-tail}
use Rattle.std.specs.Option.{unwrap_or}
use Rattle.std.specs.Ordering.{int_cmp, int_eq}
use Rattle.std.specs.Cmp.{int_cmp_total}
use Rattle.std.specs.FinMap.Entries as sorted
use Rattle.tt_values.specs.declared.row.Row.{Row}
use Rattle.tt_pages.specs.MapEntries.{FitsAt}
use Rattle.tt_versions.specs.declared.indexed_column.IndexedColumn.{IndexedColumn}
use Rattle.tt_versions.specs.declared.side.Side.{Side}
use Rattle.tt_versions.specs.declared.side.Side.TheVariants.{Current, Next}
use Rattle.tt_versions.specs.declared.lineage.Lineage.{Lineage}
use Rattle.tt_versions.specs.declared.lineages.IndexedEntries.{IndexedEntries}
use Rattle.tt_versions.specs.Versions.{last_row}
use Rattle.tt_versions.specs.Lineage.{unwritten, chain_on, with_write_on, split_back, unsplit}
use Rattle.tt_versions.specs.Sides.{LineagesByKey, lineage_at, is_split, StaysSplit}
use Rattle.tt_versions.specs.Index.{KeySet, has_past, ListsCurrent, HasNoPast, HasNoKeys, IndexState, ListsRow, MovesInIndex, MovesWrite, MovesUnsplit, LineageHas, StartsBy, FitsWrite, IsIndexed}
use Rattle.tt_versions.specs.IndexedEntries.{IsConsistent}
use Rattle.tt_versions.proofs.SidesLemmas.{same_key, lineage_at-put, is_split-write_on}
use Rattle.tt_versions.proofs.IndexLemmas.{LineageHas-map, LineageHas-write, LineageHas-split_back, LineageHas-unsplit, ListsTable-put, ListsTable-empty}
use Rattle.tt_versions.proofs.MoveLemmas.{Follows, MovesInColumns-current, MovesInColumns-other, MovesInColumns-known, MovesInIndex-keeps, MovesInIndex-lists}
use Rattle.tt_versions.proofs.StartLemmas.{StartsBy-later, StartsBy-write, StartsBy-split_back, StartsBy-unsplit, last_row-write}

-- an index that lists a changed row, and all that it listed, fits the table with the row
pub IsIndexed-put : (key : ℤ) (from to aside row : Option Row) (before after : IndexState) (earlier latest : ℕ) (t : LineagesByKey) (l : Lineage)
    → earlier ≤ latest → IsIndexed before earlier t → last_row (lineage_at t key).current ≡ from → Follows from to aside → last_row l.current ≡ to
    → MovesInIndex key to aside row before after → LineageHas (ListsRow after key) l → StartsBy latest l → IsIndexed after latest (sorted.put int_cmp key l t)
IsIndexed-put key from to aside row before after earlier latest t l later indexed was follows is moves has starts = record {
  listed = ListsTable-put key after t l (λ q. LineageHas-map (ListsRow before q) (ListsRow after q) (λ r. MovesInIndex-keeps key from to aside row before after follows at moves q r) (lineage_at t q) (indexed.listed q)) has;
  current = λ q. subst (λ x. All (ListsCurrent q (last_row x.current)) after.columns) (sym (lineage_at-put t key l q)) (current q (int_eq q key) refl);
  known = λ q none. known q (int_eq q key) refl none;
  starts = λ q. subst (λ x. StartsBy latest x) (sym (lineage_at-put t key l q)) (all_start q (int_eq q key));
}
  where
    at : All (ListsCurrent key from) before.columns
    at = subst (λ o. All (ListsCurrent key o) before.columns) was (indexed.current key)

    current : (q : ℤ) (b : Bool) → int_eq q key ≡ b → All (ListsCurrent q (last_row (cond b l (lineage_at t q)).current)) after.columns
    current q true same = subst (λ k. All (ListsCurrent k (last_row l.current)) after.columns) (sym (same_key q key same))
        (subst (λ o. All (ListsCurrent key o) after.columns) (sym is) (MovesInColumns-current key to aside before.columns after.columns moves.columns))
    current q false other = MovesInColumns-other key to aside before.columns after.columns q (last_row (lineage_at t q).current) other moves.columns (indexed.current q)

    known : (q : ℤ) (b : Bool) → int_eq q key ≡ b → sorted.find int_cmp q (sorted.put int_cmp key l t) ≡ None → All (HasNoPast q) after.columns
    known q true same none =
        let there : None ≡ Some l = sym none ∙ sorted.find-put int_cmp int_cmp_total q key l t ∙ ap (λ b. cond b (Some l) (sorted.find int_cmp q t)) same in
        cc
    known q false other none =
        let before_none : sorted.find int_cmp q t ≡ None = ap (λ b. cond b (Some l) (sorted.find int_cmp q t)) (sym other) ∙ sym (sorted.find-put int_cmp int_cmp_total q key l t) ∙ none in
        MovesInColumns-known key to aside before.columns after.columns q other moves.columns (indexed.known q before_none)

    all_start : (q : ℤ) (b : Bool) → StartsBy latest (cond b l (lineage_at t q))
    all_start q true = starts
    all_start q false = StartsBy-later earlier latest (lineage_at t q) later (indexed.starts q)

-- a write on a side, once the index lists its row
pub IsIndexed-write : (side : Side) (key : ℤ) (row : Option Row) (time : ℕ) (before after : IndexState) (earlier latest : ℕ) (t : LineagesByKey)
    → earlier ≤ latest → time ≤ latest → IsIndexed before earlier t → MovesWrite side key (lineage_at t key) row before after
    → IsIndexed after latest (sorted.put int_cmp key (with_write_on side row time (lineage_at t key)) t)
IsIndexed-write Current key row time before after earlier latest t later upto indexed moves =
    let l = lineage_at t key in
    let from = last_row l.current in
    IsIndexed-put key from row from row before after earlier latest t (with_write_on Current row time l) later indexed refl (inr refl) (last_row-write row time l.current) moves
    (LineageHas-write (ListsRow after key) Current row time l (kept from (inr refl)) (MovesInIndex-lists key row from row before after (inl refl) moves))
    (StartsBy-write latest Current row time l upto (StartsBy-later earlier latest l later (indexed.starts key)))
  where
    kept : (from : Option Row) → Follows from row from → LineageHas (ListsRow after key) (lineage_at t key)
    kept from follows = LineageHas-map (ListsRow before key) (ListsRow after key) (λ r. MovesInIndex-keeps key (last_row (lineage_at t key).current) row (last_row (lineage_at t key).current) row before after (inr refl) (indexed.current key) moves key r) (lineage_at t key) (indexed.listed key)
IsIndexed-write Next key row time before after earlier latest t later upto indexed moves =
    let l = lineage_at t key in
    let from = last_row l.current in
    IsIndexed-put key from from row row before after earlier latest t (with_write_on Next row time l) later indexed refl (inl refl) refl moves
    (LineageHas-write (ListsRow after key) Next row time l kept (MovesInIndex-lists key from row row before after (inr refl) moves))
    (StartsBy-write latest Next row time l upto (StartsBy-later earlier latest l later (indexed.starts key)))
  where
    kept : LineageHas (ListsRow after key) (lineage_at t key)
    kept = LineageHas-map (ListsRow before key) (ListsRow after key) (λ r. MovesInIndex-keeps key (last_row (lineage_at t key).current) (last_row (lineage_at t key).current) row row before after (inl refl) (indexed.current key) moves key r) (lineage_at t key) (indexed.listed key)

-- a change that leaves a row current as it is, and lists no other
IsIndexed-same : (key : ℤ) (index : IndexState) (latest : ℕ) (t : LineagesByKey) (l : Lineage) → IsIndexed index latest t → last_row l.current ≡ last_row (lineage_at t key).current
    → LineageHas (ListsRow index key) l → StartsBy latest l → IsIndexed index latest (sorted.put int_cmp key l t)
IsIndexed-same key index latest t l indexed same has starts = record {
  listed = ListsTable-put key index t l indexed.listed has;
  current = λ q. subst (λ x. All (ListsCurrent q (last_row x.current)) index.columns) (sym (lineage_at-put t key l q)) (current q (int_eq q key) refl);
  known = λ q none. indexed.known q (before_none q (int_eq q key) refl none);
  starts = λ q. subst (λ x. StartsBy latest x) (sym (lineage_at-put t key l q)) (all_start q (int_eq q key));
}
  where
    current : (q : ℤ) (b : Bool) → int_eq q key ≡ b → All (ListsCurrent q (last_row (cond b l (lineage_at t q)).current)) index.columns
    current q true is = subst (λ k. All (ListsCurrent k (last_row l.current)) index.columns) (sym (same_key q key is))
        (subst (λ o. All (ListsCurrent key o) index.columns) (sym same) (indexed.current key))
    current q false other = indexed.current q

    before_none : (q : ℤ) (b : Bool) → int_eq q key ≡ b → sorted.find int_cmp q (sorted.put int_cmp key l t) ≡ None → sorted.find int_cmp q t ≡ None
    before_none q true is none =
        let there : None ≡ Some l = sym none ∙ sorted.find-put int_cmp int_cmp_total q key l t ∙ ap (λ b. cond b (Some l) (sorted.find int_cmp q t)) is in
        cc
    before_none q false other none = ap (λ b. cond b (Some l) (sorted.find int_cmp q t)) (sym other) ∙ sym (sorted.find-put int_cmp int_cmp_total q key l t) ∙ none

    all_start : (q : ℤ) (b : Bool) → StartsBy latest (cond b l (lineage_at t q))
    all_start q true = starts
    all_start q false = indexed.starts q

pub IsIndexed-split_back : (key : ℤ) (index : IndexState) (latest time : ℕ) (t : LineagesByKey) → IsIndexed index latest t → IsIndexed index latest (sorted.put int_cmp key (split_back time (lineage_at t key)) t)
IsIndexed-split_back key index latest time t indexed =
    IsIndexed-same key index latest t (split_back time (lineage_at t key)) indexed refl
    (LineageHas-split_back (ListsRow index key) time (lineage_at t key) (indexed.listed key)) (StartsBy-split_back latest time (lineage_at t key) (indexed.starts key))

-- where that is the current side, the index stays
IsIndexed-abort : (key : ℤ) (index : IndexState) (latest : ℕ) (t : LineagesByKey) → IsIndexed index latest t → IsIndexed index latest (sorted.put int_cmp key (unsplit Current (lineage_at t key)) t)
IsIndexed-abort key index latest t indexed =
    IsIndexed-same key index latest t (unsplit Current (lineage_at t key)) indexed refl
    (LineageHas-unsplit (ListsRow index key) Current (lineage_at t key) (indexed.listed key)) (StartsBy-unsplit latest Current (lineage_at t key) (indexed.starts key))

-- and where it is the next one, the index has the last row there as the current one
IsIndexed-switch : (key : ℤ) (before after : IndexState) (latest : ℕ) (t : LineagesByKey) → IsIndexed before latest t
    → MovesInIndex key (last_row (chain_on Next (lineage_at t key))) (last_row (lineage_at t key).current) (last_row (chain_on Next (lineage_at t key))) before after
    → IsIndexed after latest (sorted.put int_cmp key (unsplit Next (lineage_at t key)) t)
IsIndexed-switch key before after latest t indexed moves =
    let l = lineage_at t key in
    let from = last_row l.current in
    let to = last_row (chain_on Next l) in
    IsIndexed-put key from to from to before after latest latest t (unsplit Next l) (omega arith) indexed refl (inr refl) refl moves
    (LineageHas-unsplit (ListsRow after key) Next l (LineageHas-map (ListsRow before key) (ListsRow after key) (λ r. MovesInIndex-keeps key from to from to before after (inr refl) (indexed.current key) moves key r) l (indexed.listed key)))
    (StartsBy-unsplit latest Next l (indexed.starts key))

-- a row that is written for the first time is written on the current side
pub first-moves : (side : Side) (key : ℤ) (t : LineagesByKey) (row : Option Row) (before after : IndexState) → sorted.find int_cmp key t ≡ None → StaysSplit side (is_split t) key → MovesInIndex key row None row before after
    → MovesWrite side key (lineage_at t key) row before after
unfolding is_split
first-moves Current key t row before after none stays moves = subst (λ l. MovesInIndex key row (last_row l.current) row before after) (sym (ap (λ o. unwrap_or o unwritten) none)) moves
first-moves Next key t row before after none stays moves = let clash : true ≡ false = sym stays ∙ ap (λ o. is_some (unwrap_or o unwritten).next) none in cc

pub IsConsistent-write : (side : Side) (key : ℤ) (row : Option Row) (time : ℕ) (before after : IndexedEntries) → StaysSplit side (is_split before.entries) key → IsConsistent before → after.split_keys ≡ before.split_keys
    → before.latest ≤ after.latest → time ≤ after.latest → MovesWrite side key (lineage_at before.entries key) row before.index after.index
    → after.entries ≡ sorted.put int_cmp key (with_write_on side row time (lineage_at before.entries key)) before.entries → IsConsistent after
IsConsistent-write side key row time before after stays stored same later upto moves is = record {
  split = λ q. ap (λ (keys : KeySet). is_some (sorted.find int_cmp q keys)) same ∙ stored.split q
      ∙ (λ i. sym (is_split-write_on side before.entries key row time stays) i q) ∙ ap (λ (t : LineagesByKey). is_split t q) (sym is);
  indexed = subst (λ (t : LineagesByKey). IsIndexed after.index after.latest t) (sym is)
      (IsIndexed-write side key row time before.index after.index before.latest after.latest before.entries later upto stored.indexed moves);
}

-- a row is unsplit to what a side shows
pub IsIndexed-unsplit : (side : Side) (key : ℤ) (before after : IndexState) (latest : ℕ) (t : LineagesByKey) → IsIndexed before latest t → MovesUnsplit side key (lineage_at t key) before after
    → IsIndexed after latest (sorted.put int_cmp key (unsplit side (lineage_at t key)) t)
IsIndexed-unsplit Current key before after latest t indexed same = subst (λ i. IsIndexed i latest (sorted.put int_cmp key (unsplit Current (lineage_at t key)) t)) (sym same) (IsIndexed-abort key before latest t indexed)
IsIndexed-unsplit Next key before after latest t indexed moves = IsIndexed-switch key before after latest t indexed moves

-- ---- no rows

nothing_listed : (key : ℤ) (c : IndexedColumn) → HasNoKeys c → ListsCurrent key None c × HasNoPast key c
nothing_listed key c h = (
  record {
    now = λ digest. ap (λ sets. is_some (sorted.find int_cmp key (unwrap_or (sorted.find int_cmp digest sets) []))) h.0;
    apart = λ digest. ap (λ sets. is_some (sorted.find int_cmp key (unwrap_or (sorted.find int_cmp digest sets) [])) && has_past c digest key) h.0;
  },
  λ digest. ap (λ sets. is_some (sorted.find int_cmp key (unwrap_or (sorted.find int_cmp digest sets) []))) h.1,
)

All-weaker : {X : Type 0} (P Q : X → Type 0) (xs : List X) → ((x : X) → P x → Q x) → All P xs → All Q xs
All-weaker P Q [] f h = All-nil Q
All-weaker P Q (x ∷ xs) f h = All-cons Q x xs (f x (All-head P x xs h)) (All-weaker P Q xs f (All-tail P x xs h))

-- an index without keys fits a table without rows
pub IsIndexed-empty : (index : IndexState) (latest : ℕ) → All HasNoKeys index.columns → IsIndexed index latest []
IsIndexed-empty index latest h = record {
  listed = ListsTable-empty index;
  current = λ key. All-weaker HasNoKeys (ListsCurrent key None) index.columns (λ c none. (nothing_listed key c none).0) h;
  known = λ key none. All-weaker HasNoKeys (HasNoPast key) index.columns (λ c empty. (nothing_listed key c empty).1) h;
  starts = λ key. (tt, tt);
}

-- ---- what a change needs

-- a row that is written for the first time is listed nowhere
pub first-fits : (key : ℤ) (index : IndexState) (latest : ℕ) (t : LineagesByKey) → IsIndexed index latest t → sorted.find int_cmp key t ≡ None → All (λ c. ListsCurrent key None c × HasNoPast key c) index.columns
first-fits key index latest t indexed none =
    All-both (ListsCurrent key None) (HasNoPast key) index.columns
    (subst (λ l. All (ListsCurrent key (last_row l.current)) index.columns) (ap (λ o. unwrap_or o unwritten) none) (indexed.current key)) (indexed.known key none)
  where
    All-both : (P Q : IndexedColumn → Type 0) (cs : List IndexedColumn) → All P cs → All Q cs → All (λ c. P c × Q c) cs
    All-both P Q [] one other = All-nil (λ c. P c × Q c)
    All-both P Q (c ∷ cs) one other = All-cons (λ c. P c × Q c) c cs (All-head P c cs one, All-head Q c cs other) (All-both P Q cs (All-tail P c cs one) (All-tail Q c cs other))

pub absent : {X : Type 0} (o : Option X) → is_some o ≡ false → o ≡ None
absent None is = refl
absent (Some x) is = cc

-- the lineage of a key is one that the index fits, and whose versions start by a later time too
pub fits-write : (key : ℤ) (index : IndexState) (earlier latest : ℕ) (t : LineagesByKey) → earlier ≤ latest → IsIndexed index earlier t → FitsAt key (FitsWrite key latest) t index
fits-write key index earlier latest t later indexed l found =
    let here : lineage_at t key ≡ l = ap (λ o. unwrap_or o unwritten) found in (
      subst (λ x. All (ListsCurrent key (last_row x.current)) index.columns) here (indexed.current key),
      subst (λ x. StartsBy latest x) here (StartsBy-later earlier latest (lineage_at t key) later (indexed.starts key)),
    )

-- what is stored fits as well where versions may start later
pub IsConsistent-later : (before after : IndexedEntries) → IsConsistent before → after.split_keys ≡ before.split_keys → after.entries ≡ before.entries → after.index ≡ before.index → before.latest ≤ after.latest → IsConsistent after
IsConsistent-later before after stored same entries index later = record {
  split = λ q. ap (λ (keys : KeySet). is_some (sorted.find int_cmp q keys)) same ∙ stored.split q ∙ ap (λ (t : LineagesByKey). is_split t q) (sym entries);
  indexed = subst (λ (t : LineagesByKey). IsIndexed after.index after.latest t) (sym entries) (subst (λ (i : IndexState). IsIndexed i after.latest before.entries) (sym index) (record {
    listed = stored.indexed.listed;
    current = stored.indexed.current;
    known = stored.indexed.known;
    starts = λ key. StartsBy-later before.latest after.latest (lineage_at before.entries key) later (stored.indexed.starts key);
  }));
}
