-- Steps of a repair that are made together, and the slots that it passes over, since they aren't due.
use Rattle.std.specs.Prelude.{ℕ, zero, suc, nat_lt, Bool, false, not, ◌&&◌, if◌then◌else◌}
use Rattle.tt_values.specs.Tables.{Tables}
use Rattle.tt_values.specs.RowWrites.{Slots}
use Rattle.tt_generations.specs.TwoGenerations.{TwoGenerations, Phase, after_step, left_of, is_due_in, is_next_due}

-- the repair has done this many more slots
abbrev pub after_steps : ℕ → TwoGenerations → TwoGenerations
after_steps zero G = G
after_steps (suc n) G = after_step (after_steps n G)

-- whether the next slot of the repair is there, and isn't due
abbrev pub is_undue_in : Tables → Phase → Slots → Bool
is_undue_in tables phase W = nat_lt 0 (left_of phase W) && not (is_due_in tables phase W)

abbrev pub is_next_undue : TwoGenerations → Bool
is_next_undue G = is_undue_in G.catalog G.phase G.slots

-- of the next slots, of which there are at most this number, how many come before the first that is due
abbrev pub undue_run : ℕ → TwoGenerations → ℕ
undue_run zero G = 0
undue_run (suc most) G = if is_next_undue G then suc (undue_run most (after_step G)) else 0

-- whether the last of the next slots, of which there are this many, is due
abbrev pub is_last_due : ℕ → TwoGenerations → Bool
is_last_due zero G = false
is_last_due (suc n) G = is_next_due (after_steps n G)
