-- Entries that are made of others, one after another.
use Rattle.std.proofs.Common.{◌≡◌, ℤ, Bool, true, false, cond, List, [], ◌∷◌, Option, None, Some, refl, sym, ap, ◌∙◌}
use Rattle.std.specs.Option.{option_and_then}
use Rattle.std.specs.Ordering.{int_cmp, int_eq}
use Rattle.std.specs.FinMap.Entries as sorted
use Rattle.tt_versions.specs.Pages.{is_after, those_after}
use Rattle.tt_versions.proofs.EntriesLemmas.{both, first, second, find-below}
use Rattle.tt_versions.proofs.SidesLemmas.{same_key}

-- an entry in front of others, where there is one
abbrev pub with_first : {V : Type 0} → ℤ → Option V → List (ℤ × V) → List (ℤ × V)
with_first key None es = es
with_first key (Some v) es = (key, v) ∷ es

-- what is made of each entry, where anything is
abbrev pub entries_by : {X V : Type 0} → (ℤ → X → Option V) → List (ℤ × X) → List (ℤ × V)
entries_by f [] = []
entries_by f (e ∷ es) = with_first e.0 (f e.0 e.1) (entries_by f es)

-- ---- one entry in front of others

module _ {V : Type 0} where
  pub find-other : (key : ℤ) (o : Option V) (es : List (ℤ × V)) (q : ℤ) → int_eq q key ≡ false → sorted.find int_cmp q (with_first key o es) ≡ sorted.find int_cmp q es
  find-other key None es q e = refl
  find-other key (Some v) es q e = ap (λ b. cond b (Some v) (sorted.find int_cmp q es)) e

  pub find-same : (key : ℤ) (o : Option V) (es : List (ℤ × V)) (q : ℤ) → int_eq q key ≡ true → sorted.find int_cmp q es ≡ None → sorted.find int_cmp q (with_first key o es) ≡ o
  find-same key None es q e none = none
  find-same key (Some v) es q e none = ap (λ b. cond b (Some v) (sorted.find int_cmp q es)) e

  pub after-first : (low : Option ℤ) (key : ℤ) (o : Option V) (es : List (ℤ × V))
      → those_after low (with_first key o es) ≡ cond (is_after low key) (with_first key o (those_after low es)) (those_after low es)
  after-first low key None es = by (is_after low key)
    where
      by : (b : Bool) → those_after low es ≡ cond b (those_after low es) (those_after low es)
      by true = refl
      by false = refl
  after-first low key (Some v) es = refl

-- ---- all of them

module _ {X V : Type 0} (f : ℤ → X → Option V) where
  below_all-entries_by : (k : ℤ) (es : List (ℤ × X)) → sorted.below_all int_cmp k es ≡ true → sorted.below_all int_cmp k (entries_by f es) ≡ true
  below_all-entries_by k [] h = refl
  below_all-entries_by k (e ∷ es) h = by (f e.0 e.1) (below_all-entries_by k es (second _ _ h))
    where
      by : (o : Option V) → sorted.below_all int_cmp k (entries_by f es) ≡ true → sorted.below_all int_cmp k (with_first e.0 o (entries_by f es)) ≡ true
      by None rest = rest
      by (Some v) rest = both _ _ (first _ _ h) rest

  -- they stand by rising key, as the others do
  pub is_sorted-entries_by : (es : List (ℤ × X)) → sorted.is_sorted int_cmp es ≡ true → sorted.is_sorted int_cmp (entries_by f es) ≡ true
  is_sorted-entries_by [] h = refl
  is_sorted-entries_by (e ∷ es) h = by (f e.0 e.1) (is_sorted-entries_by es (second _ _ h))
    where
      by : (o : Option V) → sorted.is_sorted int_cmp (entries_by f es) ≡ true → sorted.is_sorted int_cmp (with_first e.0 o (entries_by f es)) ≡ true
      by None rest = rest
      by (Some v) rest = both _ _ (below_all-entries_by e.0 es (first _ _ h)) rest

  -- at each key stands what is made of the entry that stood there
  pub find-entries_by : (es : List (ℤ × X)) (q : ℤ) → sorted.is_sorted int_cmp es ≡ true → sorted.find int_cmp q (entries_by f es) ≡ option_and_then (f q) (sorted.find int_cmp q es)
  find-entries_by [] q h = refl
  find-entries_by (e ∷ es) q h = by (int_eq q e.0) refl (find-entries_by es q (second _ _ h))
    where
      by : (b : Bool) → int_eq q e.0 ≡ b → sorted.find int_cmp q (entries_by f es) ≡ option_and_then (f q) (sorted.find int_cmp q es)
          → sorted.find int_cmp q (with_first e.0 (f e.0 e.1) (entries_by f es)) ≡ option_and_then (f q) (cond b (Some e.1) (sorted.find int_cmp q es))
      by true is rest =
          let missing = ap (λ k. sorted.find int_cmp k es) (same_key q e.0 is) ∙ find-below e.0 es (first _ _ h) in
          find-same e.0 (f e.0 e.1) (entries_by f es) q is (rest ∙ ap (option_and_then (f q)) missing) ∙ ap (λ k. f k e.1) (sym (same_key q e.0 is))
      by false is rest = find-other e.0 (f e.0 e.1) (entries_by f es) q is ∙ rest

  -- what is made of those after a key comes after it
  pub entries_by-after : (low : Option ℤ) (es : List (ℤ × X)) → entries_by f (those_after low es) ≡ those_after low (entries_by f es)
  entries_by-after low [] = refl
  entries_by-after low (e ∷ es) = by (is_after low e.0) refl (entries_by-after low es)
    where
      o : Option V
      o = f e.0 e.1

      made : List (ℤ × V)
      made = entries_by f es

      by : (b : Bool) → is_after low e.0 ≡ b → entries_by f (those_after low es) ≡ those_after low made
          → entries_by f (cond (is_after low e.0) (e ∷ those_after low es) (those_after low es)) ≡ those_after low (with_first e.0 o made)
      by true is rest =
          ap (λ b. entries_by f (cond b (e ∷ those_after low es) (those_after low es))) is ∙ ap (with_first e.0 o) rest
          ∙ sym (after-first low e.0 o made ∙ ap (λ b. cond b (with_first e.0 o (those_after low made)) (those_after low made)) is)
      by false is rest =
          ap (λ b. entries_by f (cond b (e ∷ those_after low es) (those_after low es))) is ∙ rest
          ∙ sym (after-first low e.0 o made ∙ ap (λ b. cond b (with_first e.0 o (those_after low made)) (those_after low made)) is)
