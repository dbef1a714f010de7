-- The proofs of the laws, for proofs in other crates. All other lemmas are private to this crate.
use Rattle.tt_values.specs.Content.{Content}
use Rattle.tt_values.specs.RowWrites.{content_of}
use Rattle.tt_generations.specs.TwoGenerations.{done_of}
use Rattle.tt_db.specs.Laws.{IsKeyed, RowsHaveTheirKeys, LastGenerationsAreKept, EachSlotHasItsPlace, RepairsKeepTheirWorker, SwitchesKeepWhatIsTold}
use Rattle.tt_db.specs.State.{start, after, current_at, next_at}
use Rattle.tt_db.proofs.HistoryLemmas.{slots-places}
use Rattle.tt_db.proofs.BeginnerLemmas.{repair_worker-entry}
use Rattle.tt_db.proofs.ClosedLemmas.{KeepsLastGenerations-after, KeepsLastGenerations-start}
use Rattle.tt_db.proofs.SwitchLemmas.{causes-kept, differences-kept}
use Rattle.tt_db.proofs.KeyLemmas.{IsKeyedContent, IsKeyedContent-legal, IsKeyedContent-in, IsKeyedContent-next, AllKeyed-row_at}

pub rows_have_their_keys : RowsHaveTheirKeys
rows_have_their_keys = record {
  readable = λ tables limits history catalog legal number W is time. keyed (content_of W time) (IsKeyedContent-in tables limits history number W time catalog legal is);
  current = λ tables limits history catalog legal time. keyed (current_at (after limits history) time) (IsKeyedContent-legal tables limits history time catalog legal);
  next = λ tables limits history catalog legal. keyed (next_at (after limits history) (done_of (after limits history).phase)) (IsKeyedContent-next tables limits history catalog legal);
}
  where
    keyed : (X : Content) → IsKeyedContent X → IsKeyed X
    keyed X h table key row = AllKeyed-row_at (X table) key row (h table)

pub last_generations_are_kept : LastGenerationsAreKept
last_generations_are_kept limits history = KeepsLastGenerations-after limits start history (KeepsLastGenerations-start limits)

pub each_slot_has_its_place : EachSlotHasItsPlace
each_slot_has_its_place limits history = slots-places limits history

pub repairs_keep_their_worker : RepairsKeepTheirWorker
repairs_keep_their_worker db e = repair_worker-entry db e

pub switches_keep_what_is_told : SwitchesKeepWhatIsTold
switches_keep_what_is_told = record { causes = causes-kept; differences = differences-kept }
