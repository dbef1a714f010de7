-- Sets of keys: what a put and a removal change, and two sets read as one.
use Rattle.std.proofs.Common.{◌≡◌, ℤ, int_lt, Bool, true, false, cond, ◌&&◌, ◌||◌, not, List, [], ◌∷◌, Option, None, Some, is_some, if◌then◌else◌, refl, sym, ap, subst, ◌∙◌, arith}
use Rattle.std.specs.Option.{unwrap_or}
use Rattle.std.specs.Ordering.{int_cmp, int_eq, is_lt}
use Rattle.std.specs.Cmp.{int_cmp_total}
use Rattle.std.specs.FinMap.{int_cmp-IsAntisymmetric}
use Rattle.std.specs.FinMap.Entries as sorted
use Rattle.std.specs.FinMap.Entries.{find-where_key}
use Rattle.tt_pages.specs.MapEntries.{entries_without, ChangesAt}
use Rattle.tt_versions.specs.Index.{KeySet, has_key, keys_under, PutsKey, DropsKey}
use Rattle.tt_versions.specs.Keys.{merged}
use Rattle.tt_versions.specs.Pages.{is_after, those_after}
use Rattle.tt_versions.proofs.EntriesLemmas.{both, first, second}
use Rattle.tt_versions.proofs.SidesLemmas.{same_key}
use Rattle.tt_versions.proofs.PageLemmas.{is_lt-int}

-- ---- one set

pub has_key-put : (keys : KeySet) (key : ℤ) (u : Unit {0}) (q : ℤ) → has_key (sorted.put int_cmp key u keys) q ≡ (int_eq q key || has_key keys q)
has_key-put keys key u q = ap is_some (sorted.find-put int_cmp int_cmp_total q key u keys) ∙ by (int_eq q key)
  where
    by : (b : Bool) → is_some (cond b (Some u) (sorted.find int_cmp q keys)) ≡ (b || has_key keys q)
    by true = refl
    by false = refl

-- what is found at a key once another key's entry is removed
pub find-without : {V : Type 0} (key : ℤ) (es : List (ℤ × V)) (q : ℤ) → sorted.find int_cmp q (entries_without key es) ≡ cond (not (int_eq q key)) (sorted.find int_cmp q es) None
find-without key es q =
    find-where_key int_cmp (λ k. not (int_eq k key)) q (λ x tie. ap (λ k. not (int_eq k key)) (sym (int_cmp-IsAntisymmetric q x tie))) es

pub has_key-without : (keys : KeySet) (key : ℤ) (q : ℤ) → has_key (entries_without key keys) q ≡ (not (int_eq q key) && has_key keys q)
has_key-without keys key q = ap is_some (find-without key keys q) ∙ by (not (int_eq q key))
  where
    by : (b : Bool) → is_some (cond b (sorted.find int_cmp q keys) None) ≡ (b && has_key keys q)
    by true = refl
    by false = refl

-- ---- the sets of a column

keys_under-put : (sets : List (ℤ × KeySet)) (digest : ℤ) (keys : KeySet) (d : ℤ) → keys_under d (sorted.put int_cmp digest keys sets) ≡ cond (int_eq d digest) keys (keys_under d sets)
keys_under-put sets digest keys d = ap (λ o. unwrap_or o []) (sorted.find-put int_cmp int_cmp_total d digest keys sets) ∙ by (int_eq d digest)
  where
    by : (b : Bool) → unwrap_or (cond b (Some keys) (sorted.find int_cmp d sets)) [] ≡ cond b keys (keys_under d sets)
    by true = refl
    by false = refl

-- the set under one digest gets a key
pub puts-key : (digest key : ℤ) (u : Unit {0}) (before after : List (ℤ × KeySet)) (keys : KeySet) → keys_under digest before ≡ keys → after ≡ sorted.put int_cmp digest (sorted.put int_cmp key u keys) before → PutsKey digest key before after
puts-key digest key u before after keys had is d q =
    ap (λ sets. has_key (keys_under d sets) q) is
    ∙ ap (λ ks. has_key ks q) (keys_under-put before digest (sorted.put int_cmp key u keys) d)
    ∙ by (int_eq d digest) refl
  where
    by : (b : Bool) → int_eq d digest ≡ b → has_key (cond b (sorted.put int_cmp key u keys) (keys_under d before)) q ≡ ((b && int_eq q key) || has_key (keys_under d before) q)
    by true same = has_key-put keys key u q ∙ ap (λ ks. int_eq q key || has_key ks q) (sym had ∙ ap (λ e. keys_under e before) (sym (same_key d digest same)))
    by false same = refl

-- and does so where it is there, and is changed
pub puts-changed : (digest key : ℤ) (u : Unit {0}) (before after : List (ℤ × KeySet)) → is_some (sorted.find int_cmp digest before) ≡ true → ChangesAt digest (sorted.put int_cmp key u) before after → PutsKey digest key before after
puts-changed digest key u before after there changes = by (sorted.find int_cmp digest before) refl
  where
    by : (o : Option KeySet) → sorted.find int_cmp digest before ≡ o → PutsKey digest key before after
    by None none = let clash : true ≡ false = sym there ∙ ap is_some none in cc
    by (Some keys) found = puts-key digest key u before after keys (ap (λ o. unwrap_or o []) found) (changes keys found)

pub nothing-there : (digest : ℤ) (sets : List (ℤ × KeySet)) → is_some (sorted.find int_cmp digest sets) ≡ false → sorted.find int_cmp digest sets ≡ None
nothing-there digest sets none = by (sorted.find int_cmp digest sets) none
  where
    by : (o : Option KeySet) → is_some o ≡ false → o ≡ None
    by None h = refl
    by (Some keys) h = cc

-- or loses one
pub drops-key : (digest key : ℤ) (before after : List (ℤ × KeySet)) (keys : KeySet) → keys_under digest before ≡ keys → after ≡ sorted.put int_cmp digest (entries_without key keys) before → DropsKey digest key before after
drops-key digest key before after keys had is d q =
    ap (λ sets. has_key (keys_under d sets) q) is
    ∙ ap (λ ks. has_key ks q) (keys_under-put before digest (entries_without key keys) d)
    ∙ by (int_eq d digest) refl
  where
    by : (b : Bool) → int_eq d digest ≡ b → has_key (cond b (entries_without key keys) (keys_under d before)) q ≡ (not (b && int_eq q key) && has_key (keys_under d before) q)
    by true same = has_key-without keys key q ∙ ap (λ ks. not (int_eq q key) && has_key ks q) (sym had ∙ ap (λ e. keys_under e before) (sym (same_key d digest same)))
    by false same = refl

-- and does so where it has the key, and is changed
pub drops-changed : (digest key : ℤ) (before after : List (ℤ × KeySet)) → has_key (keys_under digest before) key ≡ true → ChangesAt digest (entries_without key) before after → DropsKey digest key before after
drops-changed digest key before after has changes = by (sorted.find int_cmp digest before) refl
  where
    by : (o : Option KeySet) → sorted.find int_cmp digest before ≡ o → DropsKey digest key before after
    by None none = let clash : true ≡ false = sym has ∙ ap (λ o. has_key (unwrap_or o []) key) none in cc
    by (Some keys) there = drops-key digest key before after keys (ap (λ o. unwrap_or o []) there) (changes keys there)

-- where there is a key, there is a set
pub has_key-there : (digest key : ℤ) (sets : List (ℤ × KeySet)) → has_key (keys_under digest sets) key ≡ true → is_some (sorted.find int_cmp digest sets) ≡ true
has_key-there digest key sets has = by (sorted.find int_cmp digest sets) has
  where
    by : (o : Option KeySet) → has_key (unwrap_or o []) key ≡ true → is_some o ≡ true
    by None h = cc
    by (Some keys) h = refl

-- ---- two sets read as one

-- what is below all of a set is below all of one that begins no earlier
int-below : (k a e : ℤ) → int_lt a k ≡ false → int_lt a e ≡ true → int_lt k e ≡ true
int-below k a e upto below = grind arith

below_all-from : (k a : ℤ) (es : KeySet) → int_lt a k ≡ false → sorted.below_all int_cmp a es ≡ true → sorted.below_all int_cmp k es ≡ true
below_all-from k a [] upto h = refl
below_all-from k a (e ∷ es) upto h =
    both _ _ (is_lt-int k e.0 ∙ int-below k a e.0 upto (sym (is_lt-int a e.0) ∙ first _ _ h)) (below_all-from k a es upto (second _ _ h))

-- what is left of the second set once the first one's key is read
abbrev rest_of : ℤ → ℤ × Unit {0} → KeySet → KeySet
rest_of key b ys = if int_lt key b.0 then b ∷ ys else ys

abbrev step : ℤ × Unit {0} → KeySet → ℤ × Unit {0} → KeySet → Bool → KeySet
step a upper b lower t = if t then b ∷ lower else a ∷ upper

below_all-rest : (k : ℤ) (b : ℤ × Unit {0}) (ys : KeySet) → sorted.below_all int_cmp k (b ∷ ys) ≡ true → (t : Bool) → sorted.below_all int_cmp k (if t then b ∷ ys else ys) ≡ true
below_all-rest k b ys h true = h
below_all-rest k b ys h false = second _ _ h

below_all-step : (k : ℤ) (a : ℤ × Unit {0}) (upper : KeySet) (b : ℤ × Unit {0}) (lower : KeySet) → is_lt (int_cmp k a.0) ≡ true → is_lt (int_cmp k b.0) ≡ true
    → sorted.below_all int_cmp k upper ≡ true → sorted.below_all int_cmp k lower ≡ true → (t : Bool) → sorted.below_all int_cmp k (step a upper b lower t) ≡ true
below_all-step k a upper b lower ha hb hu hl true = both _ _ hb hl
below_all-step k a upper b lower ha hb hu hl false = both _ _ ha hu

below_all-merged : (k : ℤ) (xs ys : KeySet) → sorted.below_all int_cmp k xs ≡ true → sorted.below_all int_cmp k ys ≡ true → sorted.below_all int_cmp k (merged xs ys) ≡ true
below_all-merged k [] ys below above = above
below_all-merged k (a ∷ xs) [] below above = below
below_all-merged k (a ∷ xs) (b ∷ ys) below above =
    below_all-step k a (merged xs (rest_of a.0 b ys)) b (merged (a ∷ xs) ys) (first _ _ below) (first _ _ above)
    (below_all-merged k xs (rest_of a.0 b ys) (second _ _ below) (below_all-rest k b ys above (int_lt a.0 b.0)))
    (below_all-merged k (a ∷ xs) ys below (second _ _ above)) (int_lt b.0 a.0)

not_both : (a b : ℤ) → int_lt b a ≡ true → int_lt a b ≡ false
not_both a b h = grind arith

is_sorted-rest : (b : ℤ × Unit {0}) (ys : KeySet) → sorted.is_sorted int_cmp (b ∷ ys) ≡ true → (t : Bool) → sorted.is_sorted int_cmp (if t then b ∷ ys else ys) ≡ true
is_sorted-rest b ys h true = h
is_sorted-rest b ys h false = second _ _ h

rest-below : (key : ℤ) (b : ℤ × Unit {0}) (ys : KeySet) → sorted.is_sorted int_cmp (b ∷ ys) ≡ true → int_lt b.0 key ≡ false → (t : Bool) → int_lt key b.0 ≡ t → sorted.below_all int_cmp key (if t then b ∷ ys else ys) ≡ true
rest-below key b ys h upto true is = both _ _ (is_lt-int key b.0 ∙ is) (below_all-from key b.0 ys upto (first _ _ h))
rest-below key b ys h upto false is = below_all-from key b.0 ys upto (first _ _ h)

is_sorted-step : (a : ℤ × Unit {0}) (xs : KeySet) (b : ℤ × Unit {0}) (ys : KeySet) → sorted.is_sorted int_cmp (a ∷ xs) ≡ true → sorted.is_sorted int_cmp (b ∷ ys) ≡ true
    → sorted.is_sorted int_cmp (merged xs (rest_of a.0 b ys)) ≡ true → sorted.is_sorted int_cmp (merged (a ∷ xs) ys) ≡ true
    → (t : Bool) → int_lt b.0 a.0 ≡ t → sorted.is_sorted int_cmp (step a (merged xs (rest_of a.0 b ys)) b (merged (a ∷ xs) ys) t) ≡ true
is_sorted-step a xs b ys one other upper lower true is =
    both _ _ (below_all-merged b.0 (a ∷ xs) ys (both _ _ (is_lt-int b.0 a.0 ∙ is) (below_all-from b.0 a.0 xs (not_both a.0 b.0 is) (first _ _ one))) (first _ _ other)) lower
is_sorted-step a xs b ys one other upper lower false is =
    both _ _ (below_all-merged a.0 xs (rest_of a.0 b ys) (first _ _ one) (rest-below a.0 b ys other is (int_lt a.0 b.0) refl)) upper

pub is_sorted-merged : (xs ys : KeySet) → sorted.is_sorted int_cmp xs ≡ true → sorted.is_sorted int_cmp ys ≡ true → sorted.is_sorted int_cmp (merged xs ys) ≡ true
is_sorted-merged [] ys one other = other
is_sorted-merged (a ∷ xs) [] one other = one
is_sorted-merged (a ∷ xs) (b ∷ ys) one other =
    is_sorted-step a xs b ys one other (is_sorted-merged xs (rest_of a.0 b ys) (second _ _ one) (is_sorted-rest b ys other (int_lt a.0 b.0)))
    (is_sorted-merged (a ∷ xs) ys one (second _ _ other)) (int_lt b.0 a.0) refl

or-false : (b : Bool) → (b || false) ≡ b
or-false true = refl
or-false false = refl

or-true : (b : Bool) → (b || true) ≡ true
or-true true = refl
or-true false = refl

not_tied_both : (q a b : ℤ) → int_lt b a ≡ false → int_lt a b ≡ false → int_eq q a ≡ false → int_eq q b ≡ false
not_tied_both q a b not_less not_more other = let same : a ≡ b = grind arith in subst (λ k. int_eq q k ≡ false) same other

has_key-rest : (q key : ℤ) (b : ℤ × Unit {0}) (ys : KeySet) → int_lt b.0 key ≡ false → int_eq q key ≡ false → (t : Bool) → int_lt key b.0 ≡ t → has_key (if t then b ∷ ys else ys) q ≡ has_key (b ∷ ys) q
has_key-rest q key b ys upto other true is = refl
has_key-rest q key b ys upto other false is = sym (ap (λ e. is_some (cond e (Some b.1) (sorted.find int_cmp q ys))) (not_tied_both q key b.0 upto is other))

has_key-lower : (h : Bool) (q : ℤ) (b : ℤ × Unit {0}) (ys lower : KeySet) → has_key lower q ≡ (h || has_key ys q) → (e : Bool)
    → is_some (cond e (Some b.1) (sorted.find int_cmp q lower)) ≡ (h || is_some (cond e (Some b.1) (sorted.find int_cmp q ys)))
has_key-lower h q b ys lower is true = sym (or-true h)
has_key-lower h q b ys lower is false = is

has_key-upper : (q : ℤ) (a : ℤ × Unit {0}) (xs : KeySet) (b : ℤ × Unit {0}) (ys upper : KeySet) → int_lt b.0 a.0 ≡ false → has_key upper q ≡ (has_key xs q || has_key (rest_of a.0 b ys) q) → (e : Bool) → int_eq q a.0 ≡ e
    → is_some (cond e (Some a.1) (sorted.find int_cmp q upper)) ≡ (is_some (cond e (Some a.1) (sorted.find int_cmp q xs)) || has_key (b ∷ ys) q)
has_key-upper q a xs b ys upper upto is true same = refl
has_key-upper q a xs b ys upper upto is false other = is ∙ ap (λ h. has_key xs q || h) (has_key-rest q a.0 b ys upto other (int_lt a.0 b.0) refl)

has_key-step : (q : ℤ) (a : ℤ × Unit {0}) (xs : KeySet) (b : ℤ × Unit {0}) (ys upper lower : KeySet) → has_key upper q ≡ (has_key xs q || has_key (rest_of a.0 b ys) q) → has_key lower q ≡ (has_key (a ∷ xs) q || has_key ys q)
    → (t : Bool) → int_lt b.0 a.0 ≡ t → has_key (step a upper b lower t) q ≡ (has_key (a ∷ xs) q || has_key (b ∷ ys) q)
has_key-step q a xs b ys upper lower above below true is = has_key-lower (has_key (a ∷ xs) q) q b ys lower below (int_eq q b.0)
has_key-step q a xs b ys upper lower above below false is = has_key-upper q a xs b ys upper is above (int_eq q a.0) refl

-- a key is in both together where it is in one
pub has_key-merged : (xs ys : KeySet) (q : ℤ) → has_key (merged xs ys) q ≡ (has_key xs q || has_key ys q)
has_key-merged [] ys q = refl
has_key-merged (a ∷ xs) [] q = sym (or-false (has_key (a ∷ xs) q))
has_key-merged (a ∷ xs) (b ∷ ys) q =
    has_key-step q a xs b ys (merged xs (rest_of a.0 b ys)) (merged (a ∷ xs) ys) (has_key-merged xs (rest_of a.0 b ys) q) (has_key-merged (a ∷ xs) ys q) (int_lt b.0 a.0) refl

-- ---- from a key on

after-later : (low : Option ℤ) (a b : ℤ) → int_lt b a ≡ false → is_after low a ≡ true → is_after low b ≡ true
after-later None a b upto h = refl
after-later (Some low) a b upto h = grind arith

after-earlier : (low : Option ℤ) (a b : ℤ) → int_lt b a ≡ true → is_after low b ≡ true → is_after low a ≡ true
after-earlier None a b less h = refl
after-earlier (Some low) a b less h = grind arith

after-same : (low : Option ℤ) (a b : ℤ) → int_lt b a ≡ false → int_lt a b ≡ false → is_after low a ≡ is_after low b
after-same low a b upto from = let same : a ≡ b = grind arith in ap (is_after low) same

-- a key, if it comes later, and what does
abbrev kept_if : Bool → ℤ × Unit {0} → KeySet → KeySet
kept_if p a later = cond p (a ∷ later) later

merged-none : (xs : KeySet) → xs ≡ merged xs []
merged-none [] = refl
merged-none (x ∷ xs) = refl

after-lower : (low : Option ℤ) (a : ℤ × Unit {0}) (xs : KeySet) (b : ℤ × Unit {0}) (ys lower : KeySet) → lower ≡ merged (those_after low (a ∷ xs)) (those_after low ys) → (p r : Bool) → is_after low a.0 ≡ p → is_after low b.0 ≡ r → int_lt b.0 a.0 ≡ true
    → kept_if r b lower ≡ merged (kept_if p a (those_after low xs)) (kept_if r b (those_after low ys))
after-lower low a xs b ys lower is true true ha hb less =
    ap (λ rest. b ∷ rest) (is ∙ ap (λ p. merged (kept_if p a (those_after low xs)) (those_after low ys)) ha)
    ∙ sym (ap (step a (merged (those_after low xs) (rest_of a.0 b (those_after low ys))) b (merged (a ∷ those_after low xs) (those_after low ys))) less)
after-lower low a xs b ys lower is false true ha hb less = let clash : true ≡ false = sym (after-earlier low a.0 b.0 less hb) ∙ ha in cc
after-lower low a xs b ys lower is p false ha hb less = is ∙ ap (λ x. merged (kept_if x a (those_after low xs)) (those_after low ys)) ha

rest-later : (low : Option ℤ) (b : ℤ × Unit {0}) (ys : KeySet) → is_after low b.0 ≡ true → (t : Bool) → those_after low (if t then b ∷ ys else ys) ≡ (if t then b ∷ those_after low ys else those_after low ys)
rest-later low b ys hb true = ap (λ r. kept_if r b (those_after low ys)) hb
rest-later low b ys hb false = refl

rest-earlier : (low : Option ℤ) (key : ℤ) (b : ℤ × Unit {0}) (ys : KeySet) → int_lt b.0 key ≡ false → is_after low key ≡ false → (t : Bool) → int_lt key b.0 ≡ t → those_after low (if t then b ∷ ys else ys) ≡ those_after low (b ∷ ys)
rest-earlier low key b ys upto ha true is = refl
rest-earlier low key b ys upto ha false is = sym (ap (λ r. kept_if r b (those_after low ys)) (sym (after-same low key b.0 upto is) ∙ ha))

after-upper : (low : Option ℤ) (a : ℤ × Unit {0}) (xs : KeySet) (b : ℤ × Unit {0}) (ys upper : KeySet) → upper ≡ merged (those_after low xs) (those_after low (rest_of a.0 b ys)) → (p : Bool) → is_after low a.0 ≡ p → int_lt b.0 a.0 ≡ false
    → kept_if p a upper ≡ merged (kept_if p a (those_after low xs)) (those_after low (b ∷ ys))
after-upper low a xs b ys upper is true ha upto =
    let hb = after-later low a.0 b.0 upto ha in
    ap (λ rest. a ∷ rest) (is ∙ ap (merged (those_after low xs)) (rest-later low b ys hb (int_lt a.0 b.0)))
    ∙ sym (ap (λ r. merged (a ∷ those_after low xs) (kept_if r b (those_after low ys))) hb
    ∙ ap (step a (merged (those_after low xs) (rest_of a.0 b (those_after low ys))) b (merged (a ∷ those_after low xs) (those_after low ys))) upto)
after-upper low a xs b ys upper is false ha upto = is ∙ ap (merged (those_after low xs)) (rest-earlier low a.0 b ys upto ha (int_lt a.0 b.0) refl)

after-step : (low : Option ℤ) (a : ℤ × Unit {0}) (xs : KeySet) (b : ℤ × Unit {0}) (ys upper lower : KeySet) → those_after low upper ≡ merged (those_after low xs) (those_after low (rest_of a.0 b ys))
    → those_after low lower ≡ merged (those_after low (a ∷ xs)) (those_after low ys) → (t : Bool) → int_lt b.0 a.0 ≡ t
    → those_after low (step a upper b lower t) ≡ merged (those_after low (a ∷ xs)) (those_after low (b ∷ ys))
after-step low a xs b ys upper lower above below true less = after-lower low a xs b ys (those_after low lower) below (is_after low a.0) (is_after low b.0) refl refl less
after-step low a xs b ys upper lower above below false upto = after-upper low a xs b ys (those_after low upper) above (is_after low a.0) refl upto

-- what comes after a key of both together is what comes after it of each
pub those_after-merged : (low : Option ℤ) (xs ys : KeySet) → those_after low (merged xs ys) ≡ merged (those_after low xs) (those_after low ys)
those_after-merged low [] ys = refl
those_after-merged low (a ∷ xs) [] = merged-none (those_after low (a ∷ xs))
those_after-merged low (a ∷ xs) (b ∷ ys) =
    after-step low a xs b ys (merged xs (rest_of a.0 b ys)) (merged (a ∷ xs) ys) (those_after-merged low xs (rest_of a.0 b ys)) (those_after-merged low (a ∷ xs) ys) (int_lt b.0 a.0) refl
