-- What a change of the value at a key leaves as it was: the keys, and with them the shape of a fork.
use Rattle.std.proofs.Common.{◌≡◌, ℕ, zero, suc, ◌<◌, ℤ, List, [], ◌∷◌, ◌++◌, length, get_or, set, is_some, refl, sym, ap, ◌∙◌, arith, int_cmp}
use Rattle.std.specs.FinMap.Entries.{find, put}
use Rattle.tt_pages.specs.MapEntries.{keys_of, ChangesAt, StaysWithout, FitsAt, MovesAt}
use Rattle.tt_pages.specs.MapValues.{BranchValue}
use Rattle.tt_pages.specs.MapTree.{branch_entries, IsPage, IsBranch, AreBranches}
use Rattle.tt_pages.specs.MapBranches.{IsBranchFor}
use Rattle.tt_pages.proofs.MapEntriesLemmas.{keys-append, length-keys, sorted-keys, first_key-keys}
use Rattle.tt_pages.proofs.MapBranchLemmas.{put-at_key, same-at_key, find-branch, set-branch, branch-at, branch-grown, branches-set}

module _ {V : Type 0} where
  -- a page or a branch whose keys stay is still one
  pub page-kept : (page es : List (ℤ × V)) → keys_of es ≡ keys_of page → IsPage page → IsPage es
  page-kept page es same is = record {
    filled = omega (arith, length-keys es page same, is.filled);
    fits = omega (arith, length-keys es page same, is.fits);
    sorted = sorted-keys es page same is.sorted;
  }

  pub branch-kept : (d : ℕ) (b x : BranchValue V) → IsBranch d b → x.first ≡ b.first → x.tree.depth ≡ b.tree.depth → x.tree.width ≡ b.tree.width → keys_of x.tree.entries ≡ keys_of b.tree.entries → IsBranch d x
  branch-kept d b x is first depth width same =
      branch-grown d b x is (first ∙ is.first ∙ sym (first_key-keys x.tree.entries b.tree.entries same)) depth (omega (arith, width)) (omega (arith, length-keys x.tree.entries b.tree.entries same))

  -- a branch whose keys stay leaves the keys of the fork
  pub keys-set_branch : (bs : List (BranchValue V)) (at : ℕ) (b x : BranchValue V) → b ≡ get_or bs at b → keys_of x.tree.entries ≡ keys_of b.tree.entries → keys_of (branch_entries (set bs at x)) ≡ keys_of (branch_entries bs)
  keys-set_branch [] at b x here same = refl
  keys-set_branch (c ∷ bs) zero b x here same =
      keys-append x.tree.entries (branch_entries bs)
      ∙ ap (λ ks. ks ++ keys_of (branch_entries bs)) (same ∙ ap (λ (y : BranchValue V). keys_of y.tree.entries) here)
      ∙ sym (keys-append c.tree.entries (branch_entries bs))
  keys-set_branch (c ∷ bs) (suc at) b x here same =
      keys-append c.tree.entries (branch_entries (set bs at x))
      ∙ ap (λ ks. keys_of c.tree.entries ++ ks) (keys-set_branch bs at b x here same)
      ∙ sym (keys-append c.tree.entries (branch_entries bs))

  module _ (d : ℕ) (bs : List (BranchValue V)) (at : ℕ) (b x : BranchValue V) (are : AreBranches d bs) (here : b ≡ get_or bs at b) where
    pub branches-kept : at < length bs → x.first ≡ b.first → x.tree.depth ≡ b.tree.depth → x.tree.width ≡ b.tree.width → keys_of x.tree.entries ≡ keys_of b.tree.entries → AreBranches d (set bs at x)
    branches-kept within first depth width same =
        branches-set d bs at x are (branch-kept d b x (branch-at d bs at b are within here) first depth width same)
        (sorted-keys (branch_entries (set bs at x)) (branch_entries bs) (keys-set_branch bs at b x here same) are.sorted)

    -- a change of the value at the key in its branch is that change of all entries
    pub ChangesAt-branch : (key : ℤ) (f : V → V) → IsBranchFor key bs at → ChangesAt key f b.tree.entries x.tree.entries → ChangesAt key f (branch_entries bs) (branch_entries (set bs at x))
    ChangesAt-branch key f is_for changes v found =
        set-branch key d (put int_cmp key (f v)) (put-at_key key (f v)) bs at b x are.each are.sorted is_for here
        (changes v (find-branch key d bs at b are.each are.sorted is_for here ∙ found))

    -- and where there is no value at the key, all entries stay
    pub StaysWithout-branch : (key : ℤ) → IsBranchFor key bs at → StaysWithout key b.tree.entries x.tree.entries → StaysWithout key (branch_entries bs) (branch_entries (set bs at x))
    StaysWithout-branch key is_for stays none =
        set-branch key d (λ es. es) (same-at_key key) bs at b x are.each are.sorted is_for here
        (stays (find-branch key d bs at b are.each are.sorted is_for here ∙ none))

    -- whether there is one is told by its branch
    pub found-branch : (key : ℤ) → IsBranchFor key bs at → is_some (find int_cmp key b.tree.entries) ≡ is_some (find int_cmp key (branch_entries bs))
    found-branch key is_for = ap is_some (find-branch key d bs at b are.each are.sorted is_for here)

    -- what fits the value at the key, and what a context becomes beside it, is told by its branch
    pub FitsAt-branch : {C : Type 0} (key : ℤ) (fits : V → C → Type 0) (context : C) → IsBranchFor key bs at → FitsAt key fits (branch_entries bs) context → FitsAt key fits b.tree.entries context
    FitsAt-branch key fits context is_for fit v found =
        fit v (sym (find-branch key d bs at b are.each are.sorted is_for here) ∙ found)

    pub MovesAt-branch : {C : Type 0} (key : ℤ) (moves : V → C → C → Type 0) (before after : C) → IsBranchFor key bs at → MovesAt key moves b.tree.entries before after → MovesAt key moves (branch_entries bs) before after
    MovesAt-branch key moves before after is_for moved v found =
        moved v (find-branch key d bs at b are.each are.sorted is_for here ∙ found)
