-- A full fork is split in two, and a full branch gives way to its halves.
use Rattle.std.proofs.Common.{◌≡◌, ℕ, zero, suc, ◌+◌, ◌<◌, false, ℤ, List, [], ◌∷◌, ◌++◌, length, set, insert, take, drop, take-append-drop, All, IsTrue, sym, ap, ◌∙◌, subst, arith, length-take, length-drop, length-set, append_assoc, append-nil, int_cmp}
use Rattle.std.specs.Ordering.{is_lt}
use Rattle.std.specs.List.{HoldsAt}
use Rattle.std.specs.FinMap.Entries.{is_sorted}
use Rattle.std.proofs.lemmas.List.Edits.{length-insert}
use Rattle.std.proofs.lemmas.List.Elements.{All-nil, All-head, All-tail, All-cons, All-take, All-drop}
use Rattle.tt_pages.specs.declared.map.splitting.Halves.{Halves}
use Rattle.tt_pages.specs.MapEntries.{first_key}
use Rattle.tt_pages.specs.MapValues.{TreeValue, BranchValue}
use Rattle.tt_pages.specs.MapTree.{branch_entries, branch_depth, fork_value, IsPage, IsBranch, AreBranches, max_width}
use Rattle.tt_pages.specs.MapBranches.{IsWithin, IsBranchFor, IsCut, AreParts, AreHalves}
use Rattle.tt_pages.proofs.MapEntriesLemmas.{first_key-append, is_sorted-left, is_sorted-right}
use Rattle.tt_pages.proofs.MapBranchLemmas.{depth-is, branch-filled, branch_entries-split}

module _ {V : Type 0} where
  -- ---- parts of entries, and of branches

  module _ (es : List (ℤ × V)) (at : ℕ) (sorted : IsTrue (is_sorted int_cmp es)) (cut : IsCut (length es) at) where
    cut-sorted : IsTrue (is_sorted int_cmp (take at es ++ drop at es))
    cut-sorted = subst (λ es. IsTrue (is_sorted int_cmp es)) (sym (take-append-drop at es)) sorted

    pub page-front : IsPage (take at es)
    page-front = record {
      filled = omega (arith, length-take at es, cut.low, cut.high);
      fits = omega (arith, length-take at es, cut.low_fits);
      sorted = is_sorted-left (take at es) (drop at es) cut-sorted;
    }

    pub page-rest : IsPage (drop at es)
    page-rest = record {
      filled = omega (arith, length-drop at es, cut.high);
      fits = omega (arith, length-drop at es, cut.high_fits);
      sorted = is_sorted-right (take at es) (drop at es) cut-sorted;
    }

  module _ (d : ℕ) (bs : List (BranchValue V)) (at : ℕ) (each : All (IsBranch d) bs) (sorted : IsTrue (is_sorted int_cmp (branch_entries bs))) (cut : IsCut (length bs) at) where
    cut_branches-sorted : IsTrue (is_sorted int_cmp (branch_entries (take at bs) ++ branch_entries (drop at bs)))
    cut_branches-sorted = subst (λ es. IsTrue (is_sorted int_cmp es)) (sym (branch_entries-split bs at)) sorted

    pub branches-front : AreBranches d (take at bs)
    branches-front = record {
      filled = omega (arith, length-take at bs, cut.low, cut.high);
      fits = omega (arith, length-take at bs, cut.low_fits);
      each = All-take (IsBranch d) at bs each;
      sorted = is_sorted-left (branch_entries (take at bs)) (branch_entries (drop at bs)) cut_branches-sorted;
    }

    pub branches-rest : AreBranches d (drop at bs)
    branches-rest = record {
      filled = omega (arith, length-drop at bs, cut.high);
      fits = omega (arith, length-drop at bs, cut.high_fits);
      each = All-drop (IsBranch d) at bs each;
      sorted = is_sorted-right (branch_entries (take at bs)) (branch_entries (drop at bs)) cut_branches-sorted;
    }

    pub parts-of_fork : (ls rs : List (BranchValue V)) (halves : Halves V) → d ≡ branch_depth bs → ls ≡ take at bs → rs ≡ drop at bs → halves.low.tree ≡ fork_value ls → halves.high.tree ≡ fork_value rs → IsBranch (suc (branch_depth ls)) halves.low → IsBranch (suc (branch_depth rs)) halves.high → AreParts (fork_value bs) at halves
    parts-of_fork ls rs halves whole low_is high_is low_same high_same low high =
        let low_depth : branch_depth ls ≡ branch_depth bs = ap branch_depth low_is ∙ depth-is d (take at bs) branches-front.filled branches-front.each ∙ whole in
        let high_depth : branch_depth rs ≡ branch_depth bs = ap branch_depth high_is ∙ depth-is d (drop at bs) branches-rest.filled branches-rest.each ∙ whole in
        record {
          low_branch = subst (λ n. IsBranch (suc n) halves.low) low_depth low;
          high_branch = subst (λ n. IsBranch (suc n) halves.high) high_depth high;
          low_width = omega (arith, ap (λ (t : TreeValue V). t.width) low_same, ap length low_is, length-take at bs, cut.high);
          high_width = omega (arith, ap (λ (t : TreeValue V). t.width) high_same, ap length high_is, length-drop at bs, cut.high);
          same = ap (λ (t : TreeValue V). t.entries ++ halves.high.tree.entries) low_same ∙ ap (λ (t : TreeValue V). branch_entries ls ++ t.entries) high_same
              ∙ ap (λ es. branch_entries es ++ branch_entries rs) low_is ∙ ap (λ es. branch_entries (take at bs) ++ branch_entries es) high_is ∙ branch_entries-split bs at;
        }

  -- ---- a branch gives way to its halves

  -- the branches with the halves in place of the branch there
  abbrev pub with_halves : List (BranchValue V) → ℕ → Halves V → List (BranchValue V)
  with_halves bs at halves = set (insert bs (suc at) halves.high) at halves.low

  low-first : (d : ℕ) (c : BranchValue V) (halves : Halves V) → IsBranch d c → AreHalves c.tree halves → halves.low.first ≡ c.first
  low-first d c halves is are =
      are.low_branch.first ∙ sym (first_key-append halves.low.tree.entries halves.high.tree.entries (branch-filled are.low_branch)) ∙ ap first_key are.same ∙ sym is.first

  pub halves-entries : (bs : List (BranchValue V)) (at : ℕ) (halves : Halves V) → at < length bs → HoldsAt (λ (c : BranchValue V). AreHalves c.tree halves) bs at → branch_entries (with_halves bs at halves) ≡ branch_entries bs
  halves-entries [] at halves within are = absurd (omega (arith, within))
  halves-entries (c ∷ bs) zero halves within are =
      sym (append_assoc halves.low.tree.entries halves.high.tree.entries (branch_entries bs)) ∙ ap (λ es. es ++ branch_entries bs) (are c).same
  halves-entries (c ∷ bs) (suc at) halves within are = ap (λ es. c.tree.entries ++ es) (halves-entries bs at halves (omega (arith, within)) are)

  halves-each : (d : ℕ) (bs : List (BranchValue V)) (at : ℕ) (halves : Halves V) → at < length bs → All (IsBranch d) bs → HoldsAt (λ (c : BranchValue V). AreHalves c.tree halves) bs at → All (IsBranch d) (with_halves bs at halves)
  halves-each d [] at halves within each are = absurd (omega (arith, within))
  halves-each d (c ∷ bs) zero halves within each are =
      let depth = (All-head (IsBranch d) c bs each).depth in
      All-cons (IsBranch d) halves.low (halves.high ∷ bs) (subst (λ n. IsBranch n halves.low) depth (are c).low_branch)
      (All-cons (IsBranch d) halves.high bs (subst (λ n. IsBranch n halves.high) depth (are c).high_branch) (All-tail (IsBranch d) c bs each))
  halves-each d (c ∷ bs) (suc at) halves within each are =
      All-cons (IsBranch d) c (with_halves bs at halves) (All-head (IsBranch d) c bs each) (halves-each d bs at halves (omega (arith, within)) (All-tail (IsBranch d) c bs each) are)

  pub halves-length : (bs : List (BranchValue V)) (at : ℕ) (halves : Halves V) → at < length bs → length (with_halves bs at halves) ≡ length bs + 1
  halves-length bs at halves within = length-set (insert bs (suc at) halves.high) at halves.low ∙ length-insert bs (suc at) halves.high within

  pub halves-branches : (d : ℕ) (bs : List (BranchValue V)) (at : ℕ) (halves : Halves V) → at < length bs → length bs < max_width → AreBranches d bs → HoldsAt (λ (c : BranchValue V). AreHalves c.tree halves) bs at → AreBranches d (with_halves bs at halves)
  halves-branches d bs at halves within room are both = record {
    filled = omega (arith, halves-length bs at halves within);
    fits = omega (arith, halves-length bs at halves within, room);
    each = halves-each d bs at halves within are.each both;
    sorted = subst (λ es. IsTrue (is_sorted int_cmp es)) (sym (halves-entries bs at halves within both)) are.sorted;
  }

  -- the key belongs to the low half if it is below the high one, and else to the high half
  module _ (key : ℤ) (d : ℕ) (halves : Halves V) where
    within-halves : (bs : List (BranchValue V)) (at : ℕ) → at < length bs → All (IsBranch d) bs → HoldsAt (λ (c : BranchValue V). AreHalves c.tree halves) bs at → IsWithin key bs → IsWithin key (with_halves bs at halves)
    within-halves [] at within each are is = absurd (omega (arith, within))
    within-halves (c ∷ bs) zero within each are is =
        ap (λ first. is_lt (int_cmp key first)) (low-first d c halves (All-head (IsBranch d) c bs each) (are c)) ∙ is
    within-halves (c ∷ bs) (suc at) within each are is = is

    pub low-for : (bs : List (BranchValue V)) (at : ℕ) → at < length bs → All (IsBranch d) bs → HoldsAt (λ (c : BranchValue V). AreHalves c.tree halves) bs at → IsBranchFor key bs at → IsTrue (is_lt (int_cmp key halves.high.first)) → IsBranchFor key (with_halves bs at halves) at
    low-for [] at within each are is_for below = absurd (omega (arith, within))
    low-for (c ∷ bs) zero within each are is_for below = below
    low-for (c ∷ bs) (suc at) within each are is_for below =
        let rest = All-tail (IsBranch d) c bs each in
        (within-halves bs at (omega (arith, within)) rest are is_for.0, low-for bs at (omega (arith, within)) rest are is_for.1 below)

    pub high-for : (bs : List (BranchValue V)) (at : ℕ) → at < length bs → All (IsBranch d) bs → HoldsAt (λ (c : BranchValue V). AreHalves c.tree halves) bs at → IsBranchFor key bs at → is_lt (int_cmp key halves.high.first) ≡ false → IsBranchFor key (with_halves bs at halves) (suc at)
    high-for [] at within each are is_for not_below = absurd (omega (arith, within))
    high-for (c ∷ bs) zero within each are is_for not_below = (not_below, is_for)
    high-for (c ∷ bs) (suc at) within each are is_for not_below =
        let rest = All-tail (IsBranch d) c bs each in
        (within-halves bs at (omega (arith, within)) rest are is_for.0, high-for bs at (omega (arith, within)) rest are is_for.1 not_below)

  pub low-at : (bs : List (BranchValue V)) (at : ℕ) (halves : Halves V) (P : BranchValue V → Type 0) → at < length bs → P halves.low → HoldsAt P (with_halves bs at halves) at
  low-at [] at halves P within holds = absurd (omega (arith, within))
  low-at (c ∷ bs) zero halves P within holds = λ e. holds
  low-at (c ∷ bs) (suc at) halves P within holds = low-at bs at halves P (omega (arith, within)) holds

  pub high-at : (bs : List (BranchValue V)) (at : ℕ) (halves : Halves V) (P : BranchValue V → Type 0) → at < length bs → P halves.high → HoldsAt P (with_halves bs at halves) (suc at)
  high-at [] at halves P within holds = absurd (omega (arith, within))
  high-at (c ∷ bs) zero halves P within holds = λ e. holds
  high-at (c ∷ bs) (suc at) halves P within holds = high-at bs at halves P (omega (arith, within)) holds

  -- ---- the halves of a root are the branches of a new one

  pub raised-are : (tree : TreeValue V) (low high : BranchValue V) → IsTrue (is_sorted int_cmp tree.entries) → AreHalves tree (record { low = low; high = high }) → AreBranches tree.depth (low ∷ high ∷ [])
  raised-are tree low high sorted are = record {
    filled = omega arith;
    fits = omega arith;
    each = All-cons (IsBranch tree.depth) low (high ∷ []) are.low_branch (All-cons (IsBranch tree.depth) high [] are.high_branch (All-nil (IsBranch tree.depth)));
    sorted = subst (λ es. IsTrue (is_sorted int_cmp es)) (sym (ap (λ es. low.tree.entries ++ es) (append-nil high.tree.entries) ∙ are.same)) sorted;
  }
