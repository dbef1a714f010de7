-- Two neighbors become one branch, or two that are even.
use Rattle.std.proofs.Common.{◌≡◌, ℕ, zero, suc, ◌+◌, ◌<◌, ◌≤◌, ◌⊎◌, inl, inr, false, ℤ, List, [], ◌∷◌, ◌++◌, length, get_or, set, remove, All, IsTrue, sym, ap, ◌∙◌, subst, arith, length-append, length-set, append_assoc, add-one, int_cmp}
use Rattle.std.specs.Ordering.{is_lt}
use Rattle.std.specs.List.{HoldsAt}
use Rattle.std.specs.FinMap.Entries.{is_sorted}
use Rattle.std.proofs.lemmas.List.Edits.{length-remove}
use Rattle.std.proofs.lemmas.List.Elements.{All-head, All-tail, All-cons, All-append}
use Rattle.tt_pages.specs.declared.map.splitting.Halves.{Halves}
use Rattle.tt_pages.specs.MapEntries.{first_key}
use Rattle.tt_pages.specs.MapValues.{TreeValue, BranchValue}
use Rattle.tt_pages.specs.MapTree.{branch_entries, branch_depth, fork_value, IsBranch, AreBranches, min_width, max_width}
use Rattle.tt_pages.specs.MapBranches.{IsBelow, IsWithin, IsBranchFor, IsJoin, AreEven, AreParts}
use Rattle.tt_pages.proofs.MapEntriesLemmas.{first_key-append, is_sorted-left, is_sorted-right}
use Rattle.tt_pages.proofs.MapBranchLemmas.{depth-is, branch-filled, branch_entries-append, below-next}

module _ {V : Type 0} where
  module _ (d : ℕ) (ls rs : List (BranchValue V)) (low : AreBranches d ls) (high : AreBranches d rs) (sorted : IsTrue (is_sorted int_cmp (branch_entries ls ++ branch_entries rs))) where
    pub both-sorted : IsTrue (is_sorted int_cmp (branch_entries (ls ++ rs)))
    both-sorted = subst (λ es. IsTrue (is_sorted int_cmp es)) (sym (branch_entries-append ls rs)) sorted

    pub both-each : All (IsBranch d) (ls ++ rs)
    both-each = All-append (IsBranch d) ls rs low.each high.each

    pub both-are : length (ls ++ rs) ≤ max_width → AreBranches d (ls ++ rs)
    both-are fits = record {
      filled = omega (arith, length-append ls rs, low.filled);
      fits = fits;
      each = both-each;
      sorted = both-sorted;
    }

    pub both-depth : branch_depth (ls ++ rs) ≡ d
    both-depth = depth-is d (ls ++ rs) (omega (arith, length-append ls rs, low.filled)) both-each

    pub join-is : (all : List (BranchValue V)) (x : BranchValue V) → all ≡ ls ++ rs → length all ≤ max_width → min_width ≤ length ls → min_width ≤ length rs → x.tree ≡ fork_value all → IsBranch (suc (branch_depth all)) x → IsJoin (fork_value ls) (fork_value rs) x
    join-is all x is fits low_wide high_wide tree branch =
        let are = both-are (omega (arith, fits, ap length is)) in
        let depth : branch_depth all ≡ branch_depth ls = ap branch_depth is ∙ depth-is d (ls ++ rs) are.filled are.each ∙ sym (depth-is d ls low.filled low.each) in
        record {
          branch = subst (λ n. IsBranch (suc n) x) depth branch;
          wide = omega (arith, ap (λ (t : TreeValue V). t.width) tree, ap length is, length-append ls rs, low_wide, high_wide);
          same = ap (λ (t : TreeValue V). t.entries) tree ∙ ap branch_entries is ∙ branch_entries-append ls rs;
        }

  -- parts of all entries of two trees, both wider than the least
  pub even-parts : (left right all : TreeValue V) (at : ℕ) (halves : Halves V) → all.depth ≡ left.depth → all.entries ≡ left.entries ++ right.entries → min_width < at → at + min_width < all.width → AreParts all at halves → AreEven left right halves
  even-parts left right all at halves depth entries low high parts = record {
    low_branch = subst (λ n. IsBranch n halves.low) depth parts.low_branch;
    high_branch = subst (λ n. IsBranch n halves.high) depth parts.high_branch;
    low_wide = omega (arith, low, parts.low_width);
    high_wide = omega (arith, high, parts.high_width);
    same = parts.same ∙ entries;
  }

  -- ---- two neighbors in a fork give way to what they become

  -- what holds of two neighbors, the first of them at this place
  abbrev pub HoldsBeside : (BranchValue V → BranchValue V → Type 0) → List (BranchValue V) → ℕ → Type 0
  HoldsBeside P bs left = (c e : BranchValue V) → P (get_or bs left c) (get_or bs (suc left) e)

  pub beside : (P : BranchValue V → BranchValue V → Type 0) (bs : List (BranchValue V)) (left : ℕ) → HoldsAt (λ (c : BranchValue V). HoldsAt (λ (e : BranchValue V). P c e) bs (left + 1)) bs left → HoldsBeside P bs left
  beside P bs left holds c e = subst (λ n. P (get_or bs left c) (get_or bs n e)) (add-one left) (holds c e)

  pub neighbors-sorted : (bs : List (BranchValue V)) (left : ℕ) → suc left < length bs → IsTrue (is_sorted int_cmp (branch_entries bs)) → HoldsBeside (λ c e. IsTrue (is_sorted int_cmp (c.tree.entries ++ e.tree.entries))) bs left
  neighbors-sorted [] left within sorted = absurd (omega (arith, within))
  neighbors-sorted (c ∷ []) left within sorted = absurd (omega (arith, within))
  neighbors-sorted (c ∷ e ∷ bs) zero within sorted = λ _ _.
      is_sorted-left (c.tree.entries ++ e.tree.entries) (branch_entries bs) (subst (λ es. IsTrue (is_sorted int_cmp es)) (sym (append_assoc c.tree.entries e.tree.entries (branch_entries bs))) sorted)
  neighbors-sorted (c ∷ e ∷ bs) (suc left) within sorted = neighbors-sorted (e ∷ bs) left (omega (arith, within)) (is_sorted-right c.tree.entries (branch_entries (e ∷ bs)) sorted)

  -- the key belongs to the branch at this place or to the next one
  abbrev pub IsForBoth : ℤ → List (BranchValue V) → ℕ → Type 0
  IsForBoth key bs left = IsBranchFor key bs left ⊎ IsBranchFor key bs (suc left)

  pub for_both : (key : ℤ) (bs : List (BranchValue V)) (left : ℕ) → IsBranchFor key bs left ⊎ IsBranchFor key bs (left + 1) → IsForBoth key bs left
  for_both key bs left (inl is) = inl is
  for_both key bs left (inr is) = inr (subst (IsBranchFor key bs) (add-one left) is)

  for-tail : (key : ℤ) (c : BranchValue V) (bs : List (BranchValue V)) (left : ℕ) → IsForBoth key (c ∷ bs) (suc left) → IsWithin key bs × IsForBoth key bs left
  for-tail key c bs left (inl is) = (is.0, inl is.1)
  for-tail key c bs left (inr is) = (is.0, inr is.1)

  for-rest : (key : ℤ) (d : ℕ) (c e : BranchValue V) (bs : List (BranchValue V)) → All (IsBranch d) (c ∷ e ∷ bs) → IsTrue (is_sorted int_cmp (branch_entries (c ∷ e ∷ bs))) → IsForBoth key (c ∷ e ∷ bs) 0 → IsBelow key bs
  for-rest key d c e bs each sorted (inl is) = below-next key d e bs (All-tail (IsBranch d) c (e ∷ bs) each) (is_sorted-right c.tree.entries (branch_entries (e ∷ bs)) sorted) is
  for-rest key d c e bs each sorted (inr is) = is.1

  -- ---- one branch

  abbrev pub with_one : List (BranchValue V) → ℕ → BranchValue V → List (BranchValue V)
  with_one bs left x = remove (set bs left x) (suc left)

  module _ (d : ℕ) (x : BranchValue V) where
    pub one-entries : (bs : List (BranchValue V)) (left : ℕ) → suc left < length bs → HoldsBeside (λ c e. IsJoin c.tree e.tree x) bs left → branch_entries (with_one bs left x) ≡ branch_entries bs
    one-entries [] left within join = absurd (omega (arith, within))
    one-entries (c ∷ []) left within join = absurd (omega (arith, within))
    one-entries (c ∷ e ∷ bs) zero within join =
        ap (λ es. es ++ branch_entries bs) (join c e).same ∙ append_assoc c.tree.entries e.tree.entries (branch_entries bs)
    one-entries (c ∷ e ∷ bs) (suc left) within join = ap (λ es. c.tree.entries ++ es) (one-entries (e ∷ bs) left (omega (arith, within)) join)

    one-each : (bs : List (BranchValue V)) (left : ℕ) → suc left < length bs → All (IsBranch d) bs → HoldsBeside (λ c e. IsJoin c.tree e.tree x) bs left → All (IsBranch d) (with_one bs left x)
    one-each [] left within each join = absurd (omega (arith, within))
    one-each (c ∷ []) left within each join = absurd (omega (arith, within))
    one-each (c ∷ e ∷ bs) zero within each join =
        let rest = All-tail (IsBranch d) e bs (All-tail (IsBranch d) c (e ∷ bs) each) in
        All-cons (IsBranch d) x bs (subst (λ n. IsBranch n x) (All-head (IsBranch d) c (e ∷ bs) each).depth (join c e).branch) rest
    one-each (c ∷ e ∷ bs) (suc left) within each join =
        All-cons (IsBranch d) c (with_one (e ∷ bs) left x) (All-head (IsBranch d) c (e ∷ bs) each) (one-each (e ∷ bs) left (omega (arith, within)) (All-tail (IsBranch d) c (e ∷ bs) each) join)

    pub one-length : (bs : List (BranchValue V)) (left : ℕ) → suc left < length bs → length bs ≡ suc (length (with_one bs left x))
    one-length bs left within =
        let set_long = length-set bs left x in
        omega (arith, length-remove (set bs left x) (suc left) (omega (arith, within, set_long)), set_long)

    pub one-branches : (bs : List (BranchValue V)) (left : ℕ) → suc left < length bs → AreBranches d bs → HoldsBeside (λ c e. IsJoin c.tree e.tree x) bs left → AreBranches d (with_one bs left x)
    one-branches bs left within are join = record {
      filled = omega (arith, one-length bs left within, within);
      fits = omega (arith, one-length bs left within, are.fits);
      each = one-each bs left within are.each join;
      sorted = subst (λ es. IsTrue (is_sorted int_cmp es)) (sym (one-entries bs left within join)) are.sorted;
    }

    one-first : (c e : BranchValue V) → IsBranch d c → IsJoin c.tree e.tree x → x.first ≡ c.first
    one-first c e is join = join.branch.first ∙ ap first_key join.same ∙ first_key-append c.tree.entries e.tree.entries (branch-filled is) ∙ sym is.first

    one-within : (key : ℤ) (bs : List (BranchValue V)) (left : ℕ) → suc left < length bs → All (IsBranch d) bs → HoldsBeside (λ c e. IsJoin c.tree e.tree x) bs left → IsWithin key bs → IsWithin key (with_one bs left x)
    one-within key [] left within each join is = absurd (omega (arith, within))
    one-within key (c ∷ []) left within each join is = absurd (omega (arith, within))
    one-within key (c ∷ e ∷ bs) zero within each join is = ap (λ first. is_lt (int_cmp key first)) (one-first c e (All-head (IsBranch d) c (e ∷ bs) each) (join c e)) ∙ is
    one-within key (c ∷ e ∷ bs) (suc left) within each join is = is

    pub one-for : (key : ℤ) (bs : List (BranchValue V)) (left : ℕ) → suc left < length bs → All (IsBranch d) bs → IsTrue (is_sorted int_cmp (branch_entries bs)) → HoldsBeside (λ c e. IsJoin c.tree e.tree x) bs left → IsForBoth key bs left → IsBranchFor key (with_one bs left x) left
    one-for key [] left within each sorted join is = absurd (omega (arith, within))
    one-for key (c ∷ []) left within each sorted join is = absurd (omega (arith, within))
    one-for key (c ∷ e ∷ bs) zero within each sorted join is = for-rest key d c e bs each sorted is
    one-for key (c ∷ e ∷ bs) (suc left) within each sorted join is =
        let rest = All-tail (IsBranch d) c (e ∷ bs) each in
        let order = is_sorted-right c.tree.entries (branch_entries (e ∷ bs)) sorted in
        let parts = for-tail key c (e ∷ bs) left is in
        (one-within key (e ∷ bs) left (omega (arith, within)) rest join parts.0, one-for key (e ∷ bs) left (omega (arith, within)) rest order join parts.1)

    pub one-at : (bs : List (BranchValue V)) (left : ℕ) (P : BranchValue V → Type 0) → suc left < length bs → P x → HoldsAt P (with_one bs left x) left
    one-at [] left P within holds = absurd (omega (arith, within))
    one-at (c ∷ []) left P within holds = absurd (omega (arith, within))
    one-at (c ∷ e ∷ bs) zero P within holds = λ _. holds
    one-at (c ∷ e ∷ bs) (suc left) P within holds = one-at (e ∷ bs) left P (omega (arith, within)) holds

  -- ---- two branches

  abbrev pub with_two : List (BranchValue V) → ℕ → Halves V → List (BranchValue V)
  with_two bs left halves = set (set bs left halves.low) (suc left) halves.high

  module _ (d : ℕ) (halves : Halves V) where
    pub two-entries : (bs : List (BranchValue V)) (left : ℕ) → suc left < length bs → HoldsBeside (λ c e. AreEven c.tree e.tree halves) bs left → branch_entries (with_two bs left halves) ≡ branch_entries bs
    two-entries [] left within even = absurd (omega (arith, within))
    two-entries (c ∷ []) left within even = absurd (omega (arith, within))
    two-entries (c ∷ e ∷ bs) zero within even =
        sym (append_assoc halves.low.tree.entries halves.high.tree.entries (branch_entries bs)) ∙ ap (λ es. es ++ branch_entries bs) (even c e).same ∙ append_assoc c.tree.entries e.tree.entries (branch_entries bs)
    two-entries (c ∷ e ∷ bs) (suc left) within even = ap (λ es. c.tree.entries ++ es) (two-entries (e ∷ bs) left (omega (arith, within)) even)

    two-each : (bs : List (BranchValue V)) (left : ℕ) → suc left < length bs → All (IsBranch d) bs → HoldsBeside (λ c e. AreEven c.tree e.tree halves) bs left → All (IsBranch d) (with_two bs left halves)
    two-each [] left within each even = absurd (omega (arith, within))
    two-each (c ∷ []) left within each even = absurd (omega (arith, within))
    two-each (c ∷ e ∷ bs) zero within each even =
        let depth = (All-head (IsBranch d) c (e ∷ bs) each).depth in
        let rest = All-tail (IsBranch d) e bs (All-tail (IsBranch d) c (e ∷ bs) each) in
        All-cons (IsBranch d) halves.low (halves.high ∷ bs) (subst (λ n. IsBranch n halves.low) depth (even c e).low_branch)
        (All-cons (IsBranch d) halves.high bs (subst (λ n. IsBranch n halves.high) depth (even c e).high_branch) rest)
    two-each (c ∷ e ∷ bs) (suc left) within each even =
        All-cons (IsBranch d) c (with_two (e ∷ bs) left halves) (All-head (IsBranch d) c (e ∷ bs) each) (two-each (e ∷ bs) left (omega (arith, within)) (All-tail (IsBranch d) c (e ∷ bs) each) even)

    pub two-length : (bs : List (BranchValue V)) (left : ℕ) → length (with_two bs left halves) ≡ length bs
    two-length bs left = length-set (set bs left halves.low) (suc left) halves.high ∙ length-set bs left halves.low

    pub two-branches : (bs : List (BranchValue V)) (left : ℕ) → suc left < length bs → AreBranches d bs → HoldsBeside (λ c e. AreEven c.tree e.tree halves) bs left → AreBranches d (with_two bs left halves)
    two-branches bs left within are even = record {
      filled = omega (arith, two-length bs left, within);
      fits = omega (arith, two-length bs left, are.fits);
      each = two-each bs left within are.each even;
      sorted = subst (λ es. IsTrue (is_sorted int_cmp es)) (sym (two-entries bs left within even)) are.sorted;
    }

    two-first : (c e : BranchValue V) → IsBranch d c → AreEven c.tree e.tree halves → halves.low.first ≡ c.first
    two-first c e is even =
        even.low_branch.first ∙ sym (first_key-append halves.low.tree.entries halves.high.tree.entries (branch-filled even.low_branch)) ∙ ap first_key even.same
        ∙ first_key-append c.tree.entries e.tree.entries (branch-filled is) ∙ sym is.first

    two-within : (key : ℤ) (bs : List (BranchValue V)) (left : ℕ) → suc left < length bs → All (IsBranch d) bs → HoldsBeside (λ c e. AreEven c.tree e.tree halves) bs left → IsWithin key bs → IsWithin key (with_two bs left halves)
    two-within key [] left within each even is = absurd (omega (arith, within))
    two-within key (c ∷ []) left within each even is = absurd (omega (arith, within))
    two-within key (c ∷ e ∷ bs) zero within each even is = ap (λ first. is_lt (int_cmp key first)) (two-first c e (All-head (IsBranch d) c (e ∷ bs) each) (even c e)) ∙ is
    two-within key (c ∷ e ∷ bs) (suc left) within each even is = is

    -- the key belongs to the first of them if it is below the second, and else to the second
    pub two-low_for : (key : ℤ) (bs : List (BranchValue V)) (left : ℕ) → suc left < length bs → All (IsBranch d) bs → HoldsBeside (λ c e. AreEven c.tree e.tree halves) bs left → IsForBoth key bs left → IsTrue (is_lt (int_cmp key halves.high.first)) → IsBranchFor key (with_two bs left halves) left
    two-low_for key [] left within each even is below = absurd (omega (arith, within))
    two-low_for key (c ∷ []) left within each even is below = absurd (omega (arith, within))
    two-low_for key (c ∷ e ∷ bs) zero within each even is below = below
    two-low_for key (c ∷ e ∷ bs) (suc left) within each even is below =
        let rest = All-tail (IsBranch d) c (e ∷ bs) each in
        let parts = for-tail key c (e ∷ bs) left is in
        (two-within key (e ∷ bs) left (omega (arith, within)) rest even parts.0, two-low_for key (e ∷ bs) left (omega (arith, within)) rest even parts.1 below)

    pub two-high_for : (key : ℤ) (bs : List (BranchValue V)) (left : ℕ) → suc left < length bs → All (IsBranch d) bs → IsTrue (is_sorted int_cmp (branch_entries bs)) → HoldsBeside (λ c e. AreEven c.tree e.tree halves) bs left → IsForBoth key bs left → is_lt (int_cmp key halves.high.first) ≡ false → IsBranchFor key (with_two bs left halves) (suc left)
    two-high_for key [] left within each sorted even is not_below = absurd (omega (arith, within))
    two-high_for key (c ∷ []) left within each sorted even is not_below = absurd (omega (arith, within))
    two-high_for key (c ∷ e ∷ bs) zero within each sorted even is not_below = (not_below, for-rest key d c e bs each sorted is)
    two-high_for key (c ∷ e ∷ bs) (suc left) within each sorted even is not_below =
        let rest = All-tail (IsBranch d) c (e ∷ bs) each in
        let order = is_sorted-right c.tree.entries (branch_entries (e ∷ bs)) sorted in
        let parts = for-tail key c (e ∷ bs) left is in
        (two-within key (e ∷ bs) left (omega (arith, within)) rest even parts.0, two-high_for key (e ∷ bs) left (omega (arith, within)) rest order even parts.1 not_below)

    pub two-low_at : (bs : List (BranchValue V)) (left : ℕ) (P : BranchValue V → Type 0) → suc left < length bs → P halves.low → HoldsAt P (with_two bs left halves) left
    two-low_at [] left P within holds = absurd (omega (arith, within))
    two-low_at (c ∷ []) left P within holds = absurd (omega (arith, within))
    two-low_at (c ∷ e ∷ bs) zero P within holds = λ _. holds
    two-low_at (c ∷ e ∷ bs) (suc left) P within holds = two-low_at (e ∷ bs) left P (omega (arith, within)) holds

    pub two-high_at : (bs : List (BranchValue V)) (left : ℕ) (P : BranchValue V → Type 0) → suc left < length bs → P halves.high → HoldsAt P (with_two bs left halves) (suc left)
    two-high_at [] left P within holds = absurd (omega (arith, within))
    two-high_at (c ∷ []) left P within holds = absurd (omega (arith, within))
    two-high_at (c ∷ e ∷ bs) zero P within holds = λ _. holds
    two-high_at (c ∷ e ∷ bs) (suc left) P within holds = two-high_at (e ∷ bs) left P (omega (arith, within)) holds
