-- All characters are printed.
use Rattle.std.proofs.Common.{◌∙◌, ap, sym}
use Rattle.std.specs.List.{flat_map}
use Rattle.std.proofs.lemmas.Iterator.{YieldsList-from_chars}
use Rattle.std.proofs.lemmas.Iterator.Consumers.{YieldsList-end}
use Rattle.std.proofs.lemmas.List.{map-id}
use Rattle.tt_cli.specs.Status.{printed_char}
use Rattle.tt_cli.proofs.log_fault.printed_path.Goals as goal

pub returns : goal.returns
returns c =
    let ends = YieldsList-end (YieldsList-from_chars c.args.path.now c.utf8.path cc) c.loop-c.yielded _ c.loop-c.yielded_by _ _ c.in-None.is c.next.ensures.steps in
    c.loop-c.invariant ∙ ap (flat_map printed_char) (sym (map-id c.loop-c.yielded) ∙ ends.0)
