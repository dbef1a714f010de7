-- A table whose split rows are unsplit, one after another, and the set of their keys.
use Rattle.std.proofs.Common.{◌≡◌, ℤ, Bool, true, false, cond, ◌||◌, List, [], Option, None, Some, is_some, if◌then◌else◌, refl, sym, ap, ◌∙◌}
use Rattle.std.proofs.lemmas.Int.{to_z-of_z}
use Rattle.std.specs.Ordering.{int_cmp, int_eq}
use Rattle.std.specs.Cmp.{int_cmp_total}
use Rattle.std.specs.FinMap.Entries as sorted
use Rattle.tt_pages.specs.MapEntries.{ChangesAt}
use Rattle.std.specs.Option.{unwrap_or}
use Rattle.tt_versions.specs.declared.side.Side.{Side}
use Rattle.tt_versions.specs.declared.side.Side.TheVariants.{Current, Next}
use Rattle.tt_versions.specs.declared.version.Version.{Version}
use Rattle.tt_versions.specs.declared.lineage.Lineage.{Lineage}
use Rattle.tt_versions.specs.Versions.{visible_row}
use Rattle.tt_versions.specs.Lineage.{unwritten, chain_on, unsplit}
use Rattle.tt_versions.specs.Sides.{LineagesByKey, lineage_at, side_of, current_of, next_of, is_split, none_split, HasSplitKeys, MarksKey, UnsplitsRow, UnsplitsRows}
use Rattle.tt_versions.proofs.SidesLemmas.{same_key, lineage_at-put}

-- a lineage is unsplit, or stays
abbrev pub unsplit_if : Bool → Side → Lineage → Lineage
unsplit_if b side l = if b then unsplit side l else l

-- a row that was never written has nothing to unsplit
pub UnsplitsRow-unwritten : (side : Side) (key : ℤ) (t : LineagesByKey) → sorted.find int_cmp key t ≡ None → UnsplitsRow side key t t
UnsplitsRow-unwritten side key t none q = by (int_eq q key) refl
  where
    missing : lineage_at t key ≡ unwritten
    missing = ap (λ o. unwrap_or o unwritten) none

    nothing : (s : Side) → unwritten ≡ unsplit s unwritten
    nothing Current = refl
    nothing Next = refl

    by : (b : Bool) → int_eq q key ≡ b → lineage_at t q ≡ (if b then unsplit side (lineage_at t key) else lineage_at t q)
    by true e = ap (lineage_at t) (same_key q key e) ∙ missing ∙ nothing side ∙ ap (unsplit side) (sym missing)
    by false e = refl

pub UnsplitsRow-changed : (side : Side) (key : ℤ) (t after : LineagesByKey) (l : Lineage) → sorted.find int_cmp key t ≡ Some l → ChangesAt key (unsplit side) t after → UnsplitsRow side key t after
UnsplitsRow-changed side key t after l there changes q = ap (λ (es : LineagesByKey). lineage_at es q) (changes l there) ∙ lineage_at-put t key (unsplit side l) q ∙ by (int_eq q key)
  where
    by : (b : Bool) → cond b (unsplit side l) (lineage_at t q) ≡ (if b then unsplit side (lineage_at t key) else lineage_at t q)
    by true = ap (λ o. unsplit side (unwrap_or o unwritten)) (sym there)
    by false = refl

-- a row that isn't split stays as it is
unsplit-whole : (side : Side) (current : List Version) (next : Option (List Version)) → let l : Lineage = record { current = current; next = next } in unsplit_if (is_some next) side l ≡ unsplit side l
unsplit-whole Current current None = refl
unsplit-whole Next current None = refl
unsplit-whole side current (Some n) = refl

-- so where the split rows are unsplit, all rows are
pub unsplits_rows : (side : Side) (keys : List (ℤ × Unit {0})) (t after : LineagesByKey) → HasSplitKeys keys t
    → ((q : ℤ) → lineage_at after q ≡ unsplit_if (is_some (sorted.find int_cmp q keys)) side (lineage_at t q)) → UnsplitsRows side t after
unfolding is_split
unsplits_rows side keys t after split h = record {
  each = λ q.
      h q ∙ ap (λ b. unsplit_if b side (lineage_at t q)) (split q) ∙ unsplit-whole side (lineage_at t q).current (lineage_at t q).next;
}

-- and both sides have the chain that one side had
chain_on-unsplit : (which side : Side) (l : Lineage) → chain_on which (unsplit side l) ≡ chain_on side l
chain_on-unsplit Current side l = refl
chain_on-unsplit Next side l = refl

side_of-unsplit : (before after : LineagesByKey) (which side : Side) → UnsplitsRows side before after → side_of after which ≡ side_of before side
unfolding side_of
side_of-unsplit before after which side h = λ i q u. (ap (λ l. visible_row u (chain_on which l)) (h.each q) ∙ ap (visible_row u) (chain_on-unsplit which side (lineage_at before q))) i

pub current_of-unsplit : (before after : LineagesByKey) (side : Side) → UnsplitsRows side before after → current_of after ≡ side_of before side
current_of-unsplit before after side h = side_of-unsplit before after Current side h

pub next_of-unsplit : (before after : LineagesByKey) (side : Side) → UnsplitsRows side before after → next_of after ≡ side_of before side
next_of-unsplit before after side h = side_of-unsplit before after Next side h

pub is_split-unsplit : (before after : LineagesByKey) (side : Side) → UnsplitsRows side before after → is_split after ≡ none_split
unfolding is_split
is_split-unsplit before after side h = λ i q. ap (λ l. is_some l.next) (h.each q) i

-- what an unsplit table shows
pub ruleset unsplit_sides = (current_of-unsplit, next_of-unsplit, is_split-unsplit)

-- no row is split then
pub HasSplitKeys-unsplit : (before after : LineagesByKey) (side : Side) → UnsplitsRows side before after → HasSplitKeys [] after
HasSplitKeys-unsplit before after side h key = λ i. sym (is_split-unsplit before after side h) i key

-- ---- the keys of the split rows, where one row gets another lineage

pub HasSplitKeys-empty : HasSplitKeys [] []
unfolding is_split
HasSplitKeys-empty key = refl

-- the set has the keys of the split rows again, once that of a row that gets split is put into it
pub HasSplitKeys-put : (key : ℤ) (before after : List (ℤ × Unit {0})) (t : LineagesByKey) (l : Lineage) → is_some l.next ≡ true → HasSplitKeys before t
    → MarksKey key before after → HasSplitKeys after (sorted.put int_cmp key l t)
unfolding is_split
HasSplitKeys-put key before after t l splits split marks q = marks q ∙ by (int_eq q key) ∙ ap (λ x. is_some x.next) (sym (lineage_at-put t key l q))
  where
    by : (b : Bool) → (b || is_some (sorted.find int_cmp q before)) ≡ is_some (cond b l (lineage_at t q)).next
    by true = sym splits
    by false = split q

pub MarksKey-put : (key : ℤ) (keys : List (ℤ × Unit {0})) (u : Unit {0}) → MarksKey key keys (sorted.put int_cmp key u keys)
MarksKey-put key keys u q = ap is_some (sorted.find-put int_cmp int_cmp_total q key u keys) ∙ by (int_eq q key)
  where
    by : (b : Bool) → is_some (cond b (Some u) (sorted.find int_cmp q keys)) ≡ (b || is_some (sorted.find int_cmp q keys))
    by true = refl
    by false = refl

-- what marking a key rests on
pub ruleset marks = (to_z-of_z, MarksKey-put)

-- and unsplitting one row
pub ruleset unsplits = (to_z-of_z, UnsplitsRow-unwritten)
