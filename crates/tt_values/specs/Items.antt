-- Where a list keeps its items.
use Rattle.std.specs.Prelude.{ℕ, List, [], ⊤, ◌<◌, ◌^◌}
use Rattle.std.specs.Arc.{arc_value}
use Rattle.tt_values.specs.declared.items.Arrays.{Arrays}
use Rattle.tt_values.specs.declared.items.Arrays.TheVariants.{None, One, Two, Three, Four, Many}

-- the items, in whichever form they lie
abbrev pub arrays_view : {T : Type 0} → Arrays T → List T
arrays_view None = []
arrays_view (One owner) = arc_value owner
arrays_view (Two owner) = arc_value owner
arrays_view (Three owner) = arc_value owner
arrays_view (Four owner) = arc_value owner
arrays_view (Many owner) = (arc_value owner).items

-- items of this size lie in an array only if it is below 2 ^ 32 bytes
abbrev pub ArraysFit : {T : Type 0} → ℕ → Arrays T → Type 0
ArraysFit bytes None = ⊤
ArraysFit bytes (One owner) = bytes < 2 ^ 32
ArraysFit bytes (Two owner) = bytes < 2 ^ 32
ArraysFit bytes (Three owner) = bytes < 2 ^ 32
ArraysFit bytes (Four owner) = bytes < 2 ^ 32
ArraysFit bytes (Many owner) = ⊤
