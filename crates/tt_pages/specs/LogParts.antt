-- The items that the fields of a log hold.
use Rattle.std.specs.Prelude.{List, [], ◌++◌, Option, None, Some}
use Rattle.std.specs.declared.sync.Arc.{Arc}
use Rattle.std.specs.declared.alloc.Global.{Global}
use Rattle.tt_pages.specs.declared.log.page.Page.{Page}
use Rattle.tt_pages.specs.declared.log.tree.Tree.{Tree}

module _ {T : Type 0} where
  -- the items of the pages before the last one
  abbrev pub tree_items : Option (Tree T) → List T
  tree_items None = []
  tree_items (Some tree) = tree.0

  -- the items of the last page
  abbrev pub tail_items : Option (Arc (Page T) Global) → List T
  tail_items None = []
  tail_items (Some page) = page.value

  -- all items in order
  abbrev pub log_items : Option (Tree T) → Option (Arc (Page T) Global) → List T
  log_items tree tail = tree_items tree ++ tail_items tail
