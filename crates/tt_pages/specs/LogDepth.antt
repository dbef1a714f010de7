-- The bounds of a log's tree: the fewest items for its depth, and the most items of a page.
use Rattle.std.specs.Prelude.{ℕ, zero, suc, ◌*◌}

-- the fewest items that a tree of this depth has: twice as many with every second level
abbrev pub least : ℕ → ℕ
least zero = 1
least (suc zero) = 1
least (suc (suc depth)) = 2 * least depth

-- the most items that a page has
abbrev pub page_size : ℕ
page_size = 16
