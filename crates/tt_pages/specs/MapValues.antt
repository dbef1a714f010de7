-- What contracts see of a map's tree and of a branch of a fork.
use Rattle.std.specs.Prelude.{ℕ, ℤ, List}

-- the entries of a tree, how many forks stand above each of its pages, and how many entries or branches its node has
pub record TreeValue (V : Type 0) : Type 0 where
  pub entries : List (ℤ × V)
  pub depth : ℕ
  pub width : ℕ

-- a tree below a fork, and its first key
pub record BranchValue (V : Type 0) : Type 0 where
  pub first : ℤ
  pub tree : TreeValue V
