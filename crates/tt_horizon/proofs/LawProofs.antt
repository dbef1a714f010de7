-- The proofs of the laws, for proofs in other crates. All other lemmas are private to this crate.
use Rattle.std.proofs.Common.{ℕ, ◌<◌, ◌≤◌, length, All}
use Rattle.tt_values.specs.declared.action.Action.{Action}
use Rattle.tt_values.specs.Content.{Content}
use Rattle.tt_horizon.specs.Ground.{ground_writes, ground_of_content}
use Rattle.tt_horizon.specs.Laws.{ForgettingKeepsContents, ForgettingKeepsRepairs, GroundIsNeverDue, GroundLeavesContent, GroundIsSmall, ForgettingIsSound}
use Rattle.tt_horizon.proofs.GroundSlotsLemmas as slots
use Rattle.tt_horizon.proofs.RepairsLemmas as repairs
use Rattle.tt_horizon.proofs.InsertsLemmas as inserts
use Rattle.tt_horizon.proofs.RowCountsLemmas as counts
use Rattle.tt_horizon.proofs.ForgettingLemmas as forgetting

pub forgetting_keeps_contents : ForgettingKeepsContents
forgetting_keeps_contents = slots.forgetting_keeps_contents

pub forgetting_keeps_repairs : ForgettingKeepsRepairs
forgetting_keeps_repairs = repairs.forgetting_keeps_repairs

pub ground_is_never_due : GroundIsNeverDue
ground_is_never_due = repairs.ground_is_never_due

pub ground_leaves_content : GroundLeavesContent
ground_leaves_content = inserts.ground_leaves_content

pub ground_is_small : GroundIsSmall
ground_is_small = counts.ground_is_small

-- each action of a ground has 1 to 16 writes
pub ground_actions_have_few_writes : (tables : ℕ) (X : Content) →
    All (λ (action : Action). (0 < length action.writes) × (length action.writes ≤ ground_writes)) (ground_of_content tables X)
ground_actions_have_few_writes = counts.ground_actions_have_few_writes

pub forgetting_is_sound : ForgettingIsSound
forgetting_is_sound = forgetting.forgetting_is_sound
