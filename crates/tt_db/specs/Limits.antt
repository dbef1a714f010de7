-- How large a history may become, and how many closed generations are kept.
use Rattle.std.specs.Prelude.{◌≤◌}
use Rattle.tt_db.specs.declared.limits.Limits.{Limits}

-- the largest limits
abbrev pub max_limits : Limits
max_limits = record { slots = 1000000; events = 4000000; edits = 10000; keep = 16 }

-- the usual limits: the largest ones, but fewer closed generations are kept
abbrev pub usual_limits : Limits
usual_limits = record max_limits { keep = 4 }

-- each limit is at most the largest
pub record Fits (limits : Limits) : Type 0 where
  pub slots : limits.slots ≤ max_limits.slots
  pub events : limits.events ≤ max_limits.events
  pub edits : limits.edits ≤ max_limits.edits
  pub keep : limits.keep ≤ max_limits.keep
