-- What is told of a log.
use Rattle.std.specs.Prelude.{◌≡◌, ℕ, List, length, true, false}
use Rattle.tt_log.specs.Lines.{logged, joined}
use Rattle.tt_log.specs.Log.{IsAtRest}
use Rattle.tt_log.specs.declared.show.LogSummary.{LogSummary}

-- how many lines a file has, and how many bytes these, and whether it is only lines and then bytes 0
pub record IsSummaryOf (file : List ℕ) (summary : LogSummary) : Type 0 where
  pub lines : summary.lines ≡ length (logged file)
  pub bytes : summary.bytes ≡ length (joined (logged file))
  pub whole : summary.is_torn ≡ false → IsAtRest file
  pub torn : summary.is_torn ≡ true → IsAtRest file → ⊥
