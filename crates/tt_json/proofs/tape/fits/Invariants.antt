use Rattle.std.proofs.Common.{◌≡◌, map, drop}
use Rattle.json.specs.Tape.{node_token}
use Rattle.tt_json.specs.Fit.{tokens_fit}
use Rattle.tt_json.proofs.tape.fits.Given as goal

abbrev pub invariant-loop-node : goal.invariant-loop-node
invariant-loop-node l = tokens_fit l.depth (map node_token (drop l.node-index l.nodes)) ≡ tokens_fit 0 (map node_token l.fn.nodes)
