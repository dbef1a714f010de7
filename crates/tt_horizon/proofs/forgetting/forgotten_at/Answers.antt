-- It is made of the ground and the slots behind the time.
use Rattle.std.proofs.Common.{◌≡◌, length, sym, ap, subst, ◌∙◌}
use Rattle.std.proofs.lemmas.List.{length-map}
use Rattle.tt_db.specs.Database.{Database, now_in}
use Rattle.tt_horizon.specs.Forgetting.{ground_of, entry_of, ground_worker, entries_behind}
use Rattle.tt_horizon.specs.GroundEntries.{HasGround}
use Rattle.tt_horizon.proofs.LayingLemmas.{HasGround-behind}
use Rattle.tt_values.specs.Tables.{IsCatalog}
use Rattle.tt_db.specs.Limits.{Fits}
use Rattle.tt_horizon.proofs.ForgettingLemmas.{Forgets-made, now-ground}
use Rattle.tt_horizon.proofs.forgetting.forgotten_at.Goals as goal

pub returns : goal.returns
returns c =
    let catalog = subst IsCatalog c.catalog.ensures c.len.ensures.sound in
    let fits = subst Fits c.limits.ensures.value c.limits.ensures.fits in
    let is = c.in_ok-next.ensures.rows in
    let made = c.in_ok-carry_out_behind.ensures in
    let size : c.now-ground_slots.result ≡ length (ground_of c.args.db.now c.args.time) =
    c.now-ground_slots.ensures ∙ ap (λ (d : Database). now_in d) is ∙ now-ground c.args.db.now c.args.time in
    let as_long : c.now-ground_slots.result ≡ length c.in_ok-next.next.history =
    size ∙ sym (ap (λ (d : Database). length d.history) is ∙ length-map (ground_of c.args.db.now c.args.time) (entry_of ground_worker)) in
    record {
      forgets = Forgets-made c.args.db.now c.in_ok-next.next c.carry_out_behind.new.next c.args.time c.now-ground_slots.result catalog fits c.events.ensures.legal c.requires.idle c.requires.within
          c.in_ok-next.ensures.rows c.now-ground_slots.ensures made;
      ground = subst (λ d. HasGround d c.now-ground_slots.result) (sym made) (HasGround-behind c.in_ok-next.next c.now-ground_slots.result (entries_behind c.args.db.now c.args.time) c.in_ok-next.ensures.ground as_long);
    }
