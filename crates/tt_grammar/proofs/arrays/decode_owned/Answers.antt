-- To take the items into an empty list is to read each.
use Rattle.std.proofs.Common.{ap, subst, ◌∙◌}
use Rattle.tt_grammar.specs.Fault.{Gives}
use Rattle.tt_grammar.specs.Arrays.{fold_items, with_item}
use Rattle.tt_grammar.proofs.DecoderLemmas.{fold_items-each}
use Rattle.tt_grammar.proofs.arrays.decode_owned.Goals as goal

pub returns : goal.returns
returns g c =
    let empty = c.in_ok-start.ensures in
    let each_read = fold_items-each (g.D.Decoder.meaning c.args.decoder.now) (g.V.JsonValue.left c.args.items) in
    subst (Gives c.fold_items.result) (ap (λ start. fold_items (with_item (g.D.Decoder.meaning c.args.decoder.now)) 0 start (g.V.JsonValue.left c.args.items)) empty ∙ each_read) c.fold_items.ensures
