-- The entries that a map's tree and its parts hold, and how even the tree is.
use Rattle.std.specs.Prelude.{◌≡◌, ◌^◌, ◌<◌, ◌≤◌, ℕ, suc, ℤ, List, [], ◌∷◌, ◌++◌, length, All, IsTrue, Option, None, Some}
use Rattle.std.specs.Ordering.{int_cmp}
use Rattle.std.specs.FinMap.Entries.{is_sorted}
use Rattle.std.specs.declared.sync.Arc.{Arc}
use Rattle.tt_pages.specs.declared.map.tree.Node.{Node}
use Rattle.tt_pages.specs.declared.map.tree.Node.TheVariants.{Leaf, Fork}
use Rattle.tt_pages.specs.MapEntries.{first_key}
use Rattle.tt_pages.specs.MapValues.{TreeValue, BranchValue}

-- the most entries of a page, and the most branches of a fork
abbrev pub max_width : ℕ
max_width = 16

-- the fewest entries or branches of a node below a fork
abbrev pub min_width : ℕ
min_width = 4

module _ {V : Type 0} where
  -- the entries of the branches of a fork, in order
  abbrev pub branch_entries : List (BranchValue V) → List (ℤ × V)
  branch_entries [] = []
  branch_entries (b ∷ bs) = b.tree.entries ++ branch_entries bs

  -- how many forks stand above each page of the first branch
  abbrev pub branch_depth : List (BranchValue V) → ℕ
  branch_depth [] = 0
  branch_depth (b ∷ bs) = b.tree.depth

  -- the tree that is this page
  abbrev pub page_value : List (ℤ × V) → TreeValue V
  page_value page = record { entries = page; depth = 0; width = length page }

  -- the tree that is a fork of these branches
  abbrev pub fork_value : List (BranchValue V) → TreeValue V
  fork_value branches = record { entries = branch_entries branches; depth = suc (branch_depth branches); width = length branches }

  -- the tree that is this node
  abbrev pub node_value : Node V → TreeValue V
  node_value (Leaf page) = page_value page.items
  node_value (Fork branches) = fork_value branches.items

  -- a page has 1 to 16 entries, in ascending key order
  pub record IsPage (page : List (ℤ × V)) : Type 0 where
    pub filled : 0 < length page
    pub fits : length page ≤ max_width
    pub sorted : IsTrue (is_sorted int_cmp page)

  -- the tree is of this depth and wide enough to stand below a fork, and this is its first key
  pub record IsBranch (below : ℕ) (branch : BranchValue V) : Type 0 where
    pub first : branch.first ≡ first_key branch.tree.entries
    pub depth : branch.tree.depth ≡ below
    pub wide : min_width ≤ branch.tree.width
    pub full : min_width ^ suc below ≤ length branch.tree.entries

  -- a fork has 1 to 16 branches, all of this depth, with entries in ascending key order
  pub record AreBranches (below : ℕ) (branches : List (BranchValue V)) : Type 0 where
    pub filled : 0 < length branches
    pub fits : length branches ≤ max_width
    pub each : All (IsBranch below) branches
    pub sorted : IsTrue (is_sorted int_cmp (branch_entries branches))

  -- a page of entries, or a fork whose branches are all of one depth
  abbrev pub IsNode : Node V → Type 0
  IsNode (Leaf page) = IsPage page.items
  IsNode (Fork branches) = AreBranches (branch_depth branches.items) branches.items

  -- the entries of a map with this tree; none if it has no tree
  abbrev pub entries_of_root : {A : Type 0} → Option (Arc (TreeValue V) A) → List (ℤ × V)
  entries_of_root None = []
  entries_of_root (Some tree) = tree.value.entries
