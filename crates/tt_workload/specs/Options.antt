-- How a run repairs, and what its report shows.
use Rattle.std.specs.Prelude.{◌≤◌, false}
use Rattle.tt_workload.specs.declared.options.Options.{Options}

-- the options where none is given
abbrev pub usual : Options
usual = record { batch = 16; rounds = 8; closed = false; why = false; diff = false; dry = false; json = false }

-- a batch of 1 to 10,000 steps, and at most 1,000 rounds
pub record AreWithin (options : Options) : Type 0 where
  pub some_batch : 1 ≤ options.batch
  pub batch : options.batch ≤ 10000
  pub rounds : options.rounds ≤ 1000
