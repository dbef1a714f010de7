use Rattle.tt_log.proofs.UncleanLemmas.{all_now, one_more}
use Rattle.tt_log.proofs.placing.put_in_place.Goals as goal

-- what a crash leaves doesn't look ended
pub returns-in_default-clause-unclean : goal.returns-in_default-clause-unclean
returns-in_default-clause-unclean g c = λ told all.
    let V = g.D.Device in
    let told_1 = c.name_new.ensures.tells.0 told in
    let old = c.args.device.now in
    let mid = c.name_new.new.device in
    let run = c.name_new.ensures.unclean told all in
    one_more V.shown V.may_leave V.moment V.left_since g.met.D.Device.only_now old mid c.sync_folder.new.self (V.shown mid) run (c.sync_folder.ensures.time told_1)
    (λ left was. all_now V.shown V.may_leave V.moment V.left_since g.met.D.Device.only_now g.met.D.Device.counts_now old mid run left (c.sync_folder.ensures.crash told_1 left was))

pub returns-clause-unclean : goal.returns-clause-unclean
returns-clause-unclean g c = λ told all.
    let V = g.D.Device in
    let told_1 = c.name_new.ensures.tells.0 told in
    let old = c.args.device.now in
    let mid = c.name_new.new.device in
    let run = c.name_new.ensures.unclean told all in
    one_more V.shown V.may_leave V.moment V.left_since g.met.D.Device.only_now old mid c.sync_folder.new.self (V.shown mid) run (c.sync_folder.ensures.time told_1)
    (λ left was. all_now V.shown V.may_leave V.moment V.left_since g.met.D.Device.only_now g.met.D.Device.counts_now old mid run left (c.sync_folder.ensures.crash told_1 left was))
