-- The versions of a row, where the newest stands apart from the others.
use Rattle.std.specs.Prelude.{List, [], ◌∷◌, ◌++◌, Option, None, Some}
use Rattle.std.specs.declared.sync.Arc.{Arc}
use Rattle.std.specs.declared.alloc.Global.{Global}
use Rattle.tt_versions.specs.declared.version.Version.{Version}
use Rattle.tt_versions.specs.declared.version_log.VersionLog.{VersionLog}

-- the versions of a list, if there is one
abbrev pub log_versions : Option (Arc VersionLog Global) → List Version
log_versions None = []
log_versions (Some log) = log.value

-- the newest version, if there is one
abbrev pub newest_version : Option Version → List Version
newest_version None = []
newest_version (Some version) = version ∷ []

-- the older versions, and behind them the newest
abbrev pub versions_of : Option (Arc VersionLog Global) → Option Version → List Version
versions_of older newest = log_versions older ++ newest_version newest
