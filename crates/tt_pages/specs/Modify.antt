-- Changes of a value.
use Rattle.std.specs.Prelude.{Option, None, Some}

-- what a value becomes by a change, if there is one
abbrev pub changed_by : {M V : Type 0} → (M → V → V) → Option M → V → V
changed_by after None v = v
changed_by after (Some change) v = after change v
