-- Which branch of a fork a key belongs to, and how branches are split, joined and evened out.
use Rattle.std.specs.Prelude.{◌≡◌, ◌+◌, ◌<◌, ◌≤◌, ℕ, zero, suc, ℤ, List, [], ◌∷◌, ◌++◌, IsTrue, false, ⊤}
use Rattle.std.specs.Ordering.{int_cmp, is_lt}
use Rattle.tt_pages.specs.declared.map.splitting.Halves.{Halves}
use Rattle.tt_pages.specs.declared.map.joining.Joined.{Joined}
use Rattle.tt_pages.specs.declared.map.joining.Joined.TheVariants.{One, Two}
use Rattle.tt_pages.specs.MapTree.{IsBranch, min_width, max_width}
use Rattle.tt_pages.specs.MapValues.{TreeValue, BranchValue}

-- cuts a node of this width in two parts, each wide enough to stand below a fork and not too wide for one
pub record IsCut (width at : ℕ) : Type 0 where
  pub low : min_width ≤ at
  pub low_fits : at ≤ max_width
  pub high : at + min_width ≤ width
  pub high_fits : width ≤ at + max_width

module _ {V : Type 0} where
  -- the key is below the first of these branches, if there is one
  abbrev pub IsBelow : ℤ → List (BranchValue V) → Type 0
  IsBelow key [] = ⊤
  IsBelow key (b ∷ bs) = IsTrue (is_lt (int_cmp key b.first))

  -- the key is not below the first of these branches
  abbrev pub IsWithin : ℤ → List (BranchValue V) → Type 0
  IsWithin key [] = ⊥
  IsWithin key (b ∷ bs) = is_lt (int_cmp key b.first) ≡ false

  -- the key belongs to the branch at this place: the last one that doesn't start above it, or else the first one
  abbrev pub IsBranchFor : ℤ → List (BranchValue V) → ℕ → Type 0
  IsBranchFor key [] at = ⊥
  IsBranchFor key (b ∷ bs) zero = IsBelow key bs
  IsBranchFor key (b ∷ bs) (suc at) = IsWithin key bs × IsBranchFor key bs at

  -- two branches with the entries of this tree, the first one of this width
  pub record AreParts (tree : TreeValue V) (at : ℕ) (halves : Halves V) : Type 0 where
    pub low_branch : IsBranch tree.depth halves.low
    pub high_branch : IsBranch tree.depth halves.high
    pub low_width : halves.low.tree.width ≡ at
    pub high_width : at + halves.high.tree.width ≡ tree.width
    pub same : halves.low.tree.entries ++ halves.high.tree.entries ≡ tree.entries

  -- two branches with the entries of this tree, neither of them full
  pub record AreHalves (tree : TreeValue V) (halves : Halves V) : Type 0 where
    pub low_branch : IsBranch tree.depth halves.low
    pub high_branch : IsBranch tree.depth halves.high
    pub low_room : halves.low.tree.width < max_width
    pub high_room : halves.high.tree.width < max_width
    pub same : halves.low.tree.entries ++ halves.high.tree.entries ≡ tree.entries

  -- a branch, wider than the least, with the entries of two trees
  pub record IsJoin (left right : TreeValue V) (joined : BranchValue V) : Type 0 where
    pub branch : IsBranch left.depth joined
    pub wide : min_width < joined.tree.width
    pub same : joined.tree.entries ≡ left.entries ++ right.entries

  -- two branches, wider than the least, with the entries of two trees
  pub record AreEven (left right : TreeValue V) (halves : Halves V) : Type 0 where
    pub low_branch : IsBranch left.depth halves.low
    pub high_branch : IsBranch left.depth halves.high
    pub low_wide : min_width < halves.low.tree.width
    pub high_wide : min_width < halves.high.tree.width
    pub same : halves.low.tree.entries ++ halves.high.tree.entries ≡ left.entries ++ right.entries

  -- what two neighbors become: one branch, or two
  abbrev pub AreJoined : TreeValue V → TreeValue V → Joined V → Type 0
  AreJoined left right (One branch) = IsJoin left right branch
  AreJoined left right (Two halves) = AreEven left right halves
