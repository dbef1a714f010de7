-- Where a growing list keeps its items.
use Rattle.std.specs.Prelude.{List, []}
use Rattle.tt_values.specs.declared.few.NoneOneMany.{NoneOneMany}
use Rattle.tt_values.specs.declared.few.NoneOneMany.TheVariants.{None, One, Many}

-- the items so far
abbrev pub few_view : {T : Type 0} → NoneOneMany T → List T
few_view None = []
few_view (One items) = items
few_view (Many items) = items.items
