-- The versions of the grammar, which are those of documents, and the versions that sessions are opened with. Version 2 of the grammar is
-- version 1 with another kind of call, do. Version 3 is version 2 with conditions that compare, and with actions that are carried out
-- wholly or not at all.
use Rattle.std.specs.Prelude.{ℕ, ◌==◌, Option, Some, None, if◌then◌else◌, Result, codes}
use Rattle.serde_json.specs.Data.{Data}
use Rattle.tt_grammar.specs.declared.version.Version.{Version}
use Rattle.tt_grammar.specs.declared.version.Version.TheVariants as versions
use Rattle.tt_grammar.specs.declared.fault.DocFault.{DocFault}
use Rattle.tt_grammar.specs.Fault.{◌>>=◌, or_refuse}
use Rattle.tt_grammar.specs.Decoder.{count}

-- a version, by its number
abbrev pub version_numbered : ℕ → Option Version
version_numbered n =
    if n == 1 then Some versions.One else (
    if n == 2 then Some versions.Two else (
    if n == 3 then Some versions.Three else None))

-- the version of a document
abbrev pub version : Data → Result Version DocFault
version v = do
  n ← count v
  or_refuse (codes "out of range") (version_numbered n)

-- the newest version, as of which each line of a session and of a log is read
abbrev pub newest_version : Version
newest_version = versions.Three

-- the least version that the opening of a session may name
abbrev pub oldest_session_version : ℕ
oldest_session_version = 2

-- the greatest version that the opening of a session may name, which a session tells as its own
abbrev pub newest_session_version : ℕ
newest_session_version = 4
